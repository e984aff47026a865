-- Bytes written behind those that are there.
use Rattle.std.specs.Prelude.{◌≡◌, ℕ, List, ◌++◌, Ok, Err, Result}
use Rattle.std.specs.declared.alloc.AllocError.{AllocError}

-- All of `bytes` stand behind those from `before`; for want of memory, others may, and those from before still stand.
abbrev pub Appended : Result (Unit {0}) AllocError → List ℕ → List ℕ → List ℕ → Type 0
Appended (Ok done) before bytes after = after ≡ before ++ bytes
Appended (Err short) before bytes after = (some : List ℕ) × (after ≡ before ++ some)
