-- What is known of a file that was read to its end, and of a text that is cut one by one.
use Rattle.std.proofs.Common.{◌≡◌, ℕ, ◌+◌, Bool, true, false, cond, ◌&&◌, eqb, ltb, List, [], ◌∷◌, ◌++◌, length, Some, None, Ok, Err, Option, Result, sym, refl, ap, ◌∙◌, subst, ⊎_elim, add-zero, arith}
use Rattle.std.proofs.lemmas.List.{append-nil, nil_from_length}
use Rattle.std.proofs.lemmas.Bool.{cases_Bool, cond-true, cond-false, and_parts, eqb-true}
use Rattle.std.specs.List.{flat_map}
use Rattle.std.specs.Option.{option_map}
use Rattle.text.proofs.Cuts.{split_together, cut_line, cut_fault, FirstFault}
use Rattle.text.specs.Lines.{split, together, cut, byte_fault, tail_fault}
use Rattle.text.specs.Walk.{Outcome, unless, settled, walk}
use Rattle.text.specs.declared.faults.FileFault.TheVariants.{TooLong, Line}
use Rattle.text.specs.declared.faults.LineFault.{LineFault}
use Rattle.text.specs.declared.faults.Placed.{Placed}
use Rattle.line.specs.declared.lines.File.{File}
use Rattle.account.specs.Accounts.{taken, nothing, gone_through, account, Whole, CutUp, done, more}
use Rattle.account.specs.declared.Account.{Account}
use Rattle.account.specs.declared.Tally.{Tally}
use Rattle.account.proofs.Turns.{taken_counted}

some≢none : {A : Type 0} {x : A} → Some x ≡ None → ⊥
some≢none e = let z : ◌≡◌ {A = ℕ} 0 1 = cc in omega arith

-- cut one by one, a text has the lines that it has cut all at once
pub cut_up_lines : {text : List ℕ} {lines : List (List ℕ)} → CutUp text lines → lines ≡ (split text).lines
cut_up_lines done = refl
cut_up_lines (more {text} {line} {rest} is others) = ap (λ ls. line ∷ ls) (cut_up_lines others) ∙ sym (ap (λ s. s.lines) (cut_line text line rest is).0)

-- no byte of the lines is at fault
abbrev Fine : List (List ℕ) → Type 0
Fine [] = Unit {0}
Fine (line ∷ lines) = (byte_fault line ≡ None) × Fine lines

-- one line cut off, where the others can be cut up whatever text they come from
cut_up_more : (line : List ℕ) (lines : List (List ℕ)) (tail text : List ℕ) → ((rest : List ℕ) → split rest ≡ record { lines = lines; tail = tail } → CutUp rest lines)
    → (r : Result (List ℕ × List ℕ) LineFault) → cut text ≡ r → split text ≡ record { lines = line ∷ lines; tail = tail } → byte_fault line ≡ None → CutUp text (line ∷ lines)
cut_up_more line lines tail text others (Err e) cut-is is fine =
    absurd (some≢none (sym (subst (λ s. FirstFault s.lines s.tail e) is (cut_fault text e cut-is)) ∙ fine))
cut_up_more line lines tail text others (Ok p) cut-is is fine =
    let parts = (cut_line text p.0 p.1 cut-is).0 in
    let heads : ◌≡◌ {A = List (List ℕ)} (line ∷ lines) (p.0 ∷ (split p.1).lines) = ap (λ s. s.lines) (sym is ∙ parts) in
    let same : line ≡ p.0 = cc in
    let behind : lines ≡ (split p.1).lines = cc in
    let tails : tail ≡ (split p.1).tail = ap (λ s. s.tail) (sym is ∙ parts) in
    more (cut-is ∙ ap (λ l. Ok (l, p.1)) (sym same)) (others p.1 (λ i. record { lines = sym behind i; tail = sym tails i }))

-- so a text whose lines are fine, and that ends with a line feed, can be cut up one by one
cut_up_from : (lines : List (List ℕ)) (tail text : List ℕ) → length tail ≡ 0 → Fine lines → split text ≡ record { lines = lines; tail = tail } → CutUp text lines
cut_up_from [] tail text short fine is =
    let empty : text ≡ [] = sym (split_together text) ∙ ap together is ∙ nil_from_length tail short in
    subst (λ t. CutUp t []) (sym empty) done
cut_up_from (line ∷ lines) tail text short fine is =
    cut_up_more line lines tail text (λ rest. cut_up_from lines tail rest short fine.1) (cut text) refl is fine.0

module _ (file : File) where
  abbrev through : Tally → ℕ → List (List ℕ) → List ℕ → Outcome Tally
  through = walk (taken file) (λ tally. tally.ended)

  -- going through them came to an end: every line was fine, none was left out, and nothing followed the last
  record Ended (lines : List (List ℕ)) (tail : List ℕ) (before after : Tally) : Type 0 where
    pub short : length tail ≡ 0
    pub fine : Fine lines
    pub all : after.lines ≡ before.lines + length lines

  one_more : (line : List ℕ) (lines : List (List ℕ)) (tail : List ℕ) (state : Tally) (number : ℕ)
      → ((made : Tally) → (through made (number + 1) lines tail).fault ≡ None → Ended lines tail made (through made (number + 1) lines tail).state)
      → (bad : Option LineFault) (r : Result Tally LineFault) → byte_fault line ≡ bad → taken file state line ≡ r
      → (settled (unless bad r) state number (λ made. through made (number + 1) lines tail)).fault ≡ None
      → Ended (line ∷ lines) tail state (settled (unless bad r) state number (λ made. through made (number + 1) lines tail)).state
  one_more line lines tail state number others (Some e) r bad-is r-is none = absurd (some≢none none)
  one_more line lines tail state number others None (Err e) bad-is r-is none = absurd (some≢none none)
  one_more line lines tail state number others None (Ok made) bad-is r-is none =
      let behind = others made none in
      let counted_is = taken_counted file state made line r-is in
      let more-by-one : made.lines ≡ state.lines + 1 = ap (λ t. t.lines) counted_is.1 in
      record { short = behind.short; fine = (bad-is, behind.fine); all = omega (arith, behind.all, more-by-one) }

  to_the_end : (lines : List (List ℕ)) (tail : List ℕ) (state : Tally) (number : ℕ) → (through state number lines tail).fault ≡ None → Ended lines tail state (through state number lines tail).state
  to_the_end [] tail state number none =
      ⊎_elim
      (λ ended.
      record {
        short = eqb-true (length tail) 0 (and_parts state.ended (eqb (length tail) 0) ended).1;
        fine = tt;
        all = ap (λ (o : Outcome Tally). o.state.lines) (cond-true (state.ended && eqb (length tail) 0) (record { state = state; fault = None }) _ ended) ∙ sym (add-zero state.lines);
      })
      (λ not_yet.
      absurd (some≢none (sym (ap (λ (o : Outcome Tally). o.fault) (cond-false (state.ended && eqb (length tail) 0) _ (record { state = state; fault = Some (record { line = number; fault = tail_fault tail }) }) not_yet)) ∙ none)))
      (cases_Bool (state.ended && eqb (length tail) 0))
  to_the_end (line ∷ lines) tail state number none =
      one_more line lines tail state number (λ made. to_the_end lines tail made (number + 1)) (byte_fault line) (taken file state line) refl refl none

  -- a file that was read to its end is just its lines, each closed by a line feed, and all of them were counted
  pub whole : (text : List ℕ) → (gone_through file text).fault ≡ None → Whole text (gone_through file text).state
  whole text none =
      let ended = to_the_end (split text).lines (split text).tail nothing 1 none in
      record {
        put_together = sym (append-nil _) ∙ ap (λ tail. flat_map (λ line. line ++ 10 ∷ []) (split text).lines ++ tail) (sym (nil_from_length (split text).tail ended.short)) ∙ split_together text;
        cut_up = cut_up_from (split text).lines (split text).tail text ended.short ended.fine refl;
        all_counted = omega (arith, ended.all);
      }

-- and so it is of an account that tells of no fault
not_long : (file : File) (text : List ℕ) (long : Bool) (short : Account) → (cond long (record { bytes = length text; tally = nothing; fault = Some TooLong }) short).fault ≡ None
    → (short.fault ≡ None → Whole text short.tally)
    → Whole text (cond long (record { bytes = length text; tally = nothing; fault = Some TooLong }) short).tally
not_long file text true short none is = absurd (some≢none none)
not_long file text false short none is = is none

no_fault : (fault : Option Placed) → option_map Line fault ≡ None → fault ≡ None
no_fault None none = refl
no_fault (Some placed) none = absurd (some≢none none)

pub account_whole : (file : File) (text : List ℕ) → (account file text).fault ≡ None → Whole text (account file text).tally
account_whole file text none =
    let o = gone_through file text in
    not_long file text (ltb 65536 (length text)) (record { bytes = length text; tally = o.state; fault = option_map Line o.fault }) none (λ none. whole file text (no_fault o.fault none))
