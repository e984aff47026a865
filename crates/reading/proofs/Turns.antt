-- What a line that is not taken comes to.
use Rattle.std.proofs.Common.{◌≡◌, ℕ, Bool, false, ◌&&◌, eqb, List, length, Some, None, Ok, Err, Option, Result, IfSome, sym, ap, ◌∙◌, arith}
use Rattle.text.specs.Lines.{cut, split}
use Rattle.text.specs.declared.faults.FileFault.{FileFault}
use Rattle.text.specs.declared.faults.FileFault.TheVariants.{Line}
use Rattle.text.specs.declared.faults.LineFault.{LineFault}
use Rattle.reading.specs.Files.{in_line, whole}
use Rattle.reading.specs.Walk.{Outcome, walk_through}
use Rattle.reading.proofs.Walks.{walk_refused, walk_uncut}

module _ {S : Type 0} (step : S → ℕ → List ℕ → Result S LineFault) (ended : S → Bool) where
  -- where no line can be cut off, that is the fault of the file, and what was made of the lines before it is left
  pub uncut : (e : LineFault) (state : S) (number : ℕ) (text : List ℕ) (o : Outcome S) → cut text ≡ Err e → (ended state && eqb (length text) 0) ≡ false → walk_through step ended state number (split text) ≡ o
      → (whole o ≡ Err (Line (record { line = number; fault = e }))) × (o.state ≡ state)
  uncut e state number text o cut_is open-still reached =
      let stopped = walk_uncut step ended state number text e cut_is open-still ∙ reached in
      (ap whole (sym stopped), ap (λ (o : Outcome S). o.state) (sym stopped))

  -- a line that is refused is the fault of the file, and what was made of the lines before it is left
  pub refused : (told : Option FileFault) (made : Result S LineFault) (state : S) (number : ℕ) (text line rest : List ℕ) (o : Outcome S) → cut text ≡ Ok (line, rest) → step state number line ≡ made
      → IfSome told (λ fault. in_line number made ≡ Err fault) → walk_through step ended state number (split text) ≡ o
      → IfSome told (λ fault. (whole o ≡ Err fault) × (o.state ≡ state))
  refused None made state number text line rest o cut_is says is reached = tt
  refused (Some fault) (Ok after) state number text line rest o cut_is says is reached = absurd (let z : ◌≡◌ {A = ℕ} 0 1 = cc in omega arith)
  refused (Some fault) (Err e) state number text line rest o cut_is says is reached =
      let stopped = walk_refused step ended state number text line rest e cut_is says ∙ reached in
      (ap whole (sym stopped) ∙ is, ap (λ (o : Outcome S). o.state) (sym stopped))
