use Rattle.std.proofs.Common.{◌≡◌, ℕ, ◌<◌, leb, List, [], ◌∷◌, ◌++◌, map, length, Ok, vec_items, Result, sym, ap, ◌∙◌, subst, arith}
use Rattle.std.proofs.lemmas.List.{length-map, map_push}
use Rattle.std.proofs.lemmas.Bool.{leb-false, lt-leb, cond-false}
use Rattle.tables.proofs.Answered.{unless_ok}
use Rattle.tables.specs.Taking.{unless, full}
use Rattle.text.specs.declared.faults.LineFault.{LineFault}
use Rattle.words.specs.Words.{bind}
use Rattle.proposal.specs.Records.{InvariantV}
use Rattle.proposal.specs.Views.{invariant_seen}
use Rattle.proposal.specs.declared.invariants.Invariant.{Invariant}
use Rattle.proposal.proofs.invariants.InvariantTable.take.Goals as goal

-- where one more may stand there are few enough
room : {A : Type 0} (rows : List A) (seen : A → InvariantV) (u : Unit {0}) → Ok u ≡ unless (full 64 rows ∷ []) tt → length (map seen rows) < 64
room rows seen u is = omega (arith, leb-false 64 (length rows) (unless_ok (full 64 rows ∷ []) tt u (sym is)).1.0, length-map rows seen)

pub invariant_of-self : goal.invariant_of-self
invariant_of-self c =
    let rows = c.args.self.now.rows in
    let few = subst (λ rs. length (map invariant_seen rs) < 64) c.deref.ensures.value (room c.deref.result.now invariant_seen _ c.in_ok-check_room.ensures.room_or_the_fault) in
    record { few = omega (arith, few, length-map rows.items invariant_seen, rows.ok.0, c.push.ensures.upper_bound) }

-- a formula and one row more are what the line adds
added : (name : List ℕ) (formula line : ℕ) (r : Result ℕ LineFault) (rows after : List Invariant) (x : Invariant) → Ok formula ≡ r → length (map invariant_seen rows) < 64
    → after ≡ rows ++ x ∷ [] → invariant_seen x ≡ record { name = name; formula = formula; line = line }
    → bind r (λ f. unless (full 64 (map invariant_seen rows) ∷ []) (map invariant_seen rows ++ record { name = name; formula = f; line = line } ∷ [])) ≡ Ok (map invariant_seen after)
added name formula line r rows after x is room pushed same =
    let s = map invariant_seen rows in
    let more : ℕ → Result (List InvariantV) LineFault = λ f. unless (full 64 s ∷ []) (s ++ record { name = name; formula = f; line = line } ∷ []) in
    ap (λ (a : Result ℕ LineFault). bind a more) (sym is)
    ∙ cond-false (leb 64 (length s)) _ _ (lt-leb 64 (length s) room)
    ∙ ap Ok (sym (ap (map invariant_seen) pushed ∙ map_push invariant_seen rows x ∙ ap (λ i. s ++ i ∷ []) same))

pub returns : goal.returns
returns c =
    let self = c.args.self.now in
    let few = subst (λ rs. length (map invariant_seen rs) < 64) c.deref.ensures.value (room c.deref.result.now invariant_seen _ c.in_ok-check_room.ensures.room_or_the_fault) in
    record {
      what_the_line_adds_or_its_fault =
          added c.args.name.bytes.now c.in_ok-formula.formula c.args.line _ (vec_items self.rows) (vec_items c.push.new.self) _
          c.in_ok-formula.ensures.the_formula_or_the_fault few c.in_ok-push.ensures.items
          (λ i. record { name = c.in_ok-name.ensures.a_name_with_these_bytes i; formula = c.in_ok-formula.formula; line = c.args.line });
    }
