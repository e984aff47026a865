-- An answer about a line, with and without the number of the line.
use Rattle.std.proofs.Common.{◌≡◌, ℕ, Ok, Err, Result, refl, ap, arith}
use Rattle.text.specs.Faults.{placed_at}
use Rattle.text.specs.declared.faults.LineFault.{LineFault}
use Rattle.text.specs.declared.faults.Placed.{Placed}

-- an answer that has its line was right without it
pub placed_ok : {A : Type 0} (line : ℕ) (r : Result A LineFault) (x : A) → Ok x ≡ placed_at line r → r ≡ Ok x
placed_ok line (Ok y) x is = let same : y ≡ x = cc in ap Ok same
placed_ok line (Err e) x is = absurd (let z : ◌≡◌ {A = ℕ} 0 1 = cc in omega arith)

-- a fault that has its line is a fault without it
pub placed_err : {A : Type 0} (line : ℕ) (r : Result A LineFault) (p : Placed) → Err p ≡ placed_at line r → (e : LineFault) × (r ≡ Err e) × (p ≡ record { line = line; fault = e })
placed_err line (Ok y) p is = absurd (let z : ◌≡◌ {A = ℕ} 0 1 = cc in omega arith)
placed_err line (Err e) p is = (e, refl, (let same : p ≡ record { line = line; fault = e } = cc in same))
