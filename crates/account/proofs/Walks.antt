-- Going through a file with a counter is going through its lines, as long as they are few.
use Rattle.std.proofs.Common.{◌≡◌, ℕ, ◌+◌, ◌<◌, ◌≤◌, Bool, true, false, cond, ◌&&◌, eqb, ltb, List, [], ◌∷◌, length, get_or, set, Some, None, Ok, Err, Option, Result, refl, sym, ap, ◌∙◌, subst, rules, arith}
use Rattle.std.proofs.lemmas.Bool.{ltb-false}
use Rattle.std.specs.Option.{option_map}
use Rattle.std.specs.Result.{result_err}
use Rattle.text.specs.Faults.{fault}
use Rattle.text.specs.Lines.{split, lengthened, byte_fault, tail_fault}
use Rattle.text.specs.Walk.{Outcome, unless, settled, walk}
use Rattle.text.specs.declared.faults.FileFault.{FileFault}
use Rattle.text.specs.declared.faults.FileFault.TheVariants.{TooLong, Line}
use Rattle.text.specs.declared.faults.LineFault.{LineFault}
use Rattle.text.specs.declared.faults.Placed.{Placed}
use Rattle.text.specs.declared.faults.Wrong.TheVariants as wrong
use Rattle.keys.specs.Keys.{key_number}
use Rattle.keys.specs.declared.Key.{Key}
use Rattle.line.specs.Lines.{key_of_line}
use Rattle.line.specs.Reading.{read, recognised}
use Rattle.line.specs.declared.lines.File.{File}
use Rattle.reading.specs.Walk as numbered
use Rattle.reading.specs.Files.{told, whole, read_through, left_by, Went, Left}
use Rattle.words.specs.Words.{bind}
use Rattle.account.specs.Accounts.{nothing, counted, taken, taken_by, gone_through, account}
use Rattle.account.specs.Counters.{one_more, counted_up, counter_step}
use Rattle.account.specs.declared.Account.{Account}
use Rattle.account.specs.declared.Counter.{Counter}
use Rattle.account.specs.declared.Tally.{Tally}
use Rattle.account.proofs.Turns.{Small, small_counted, taken_counted}

-- a text has no more lines than bytes
one_more_line : (b : ℕ) (lines : List (List ℕ)) (tail : List ℕ) → length (lengthened b lines tail).lines ≡ length lines
one_more_line b [] tail = refl
one_more_line b (line ∷ lines) tail = refl

by_feed : (feed : Bool) (b : ℕ) (lines : List (List ℕ)) (tail : List ℕ) → length (cond feed (record { lines = [] ∷ lines; tail = tail }) (lengthened b lines tail)).lines ≤ length lines + 1
by_feed true b lines tail = omega arith
by_feed false b lines tail = omega (arith, one_more_line b lines tail)

lines_few : (text : List ℕ) → length (split text).lines ≤ length text
lines_few [] = omega arith
lines_few (b ∷ text) = omega (arith, by_feed (eqb b 10) b (split text).lines (split text).tail, lines_few text)

-- a count that is small is not the last number
one_more_is : (n : ℕ) → n < 65536 → one_more n ≡ n + 1
one_more_is n few = omega arith

same_count : (key : Key) (tally : Tally) → Small tally → tally.lines < 65536 → counted_up key tally ≡ counted key tally
same_count key tally small few = λ i.
    record {
      lines = one_more_is tally.lines few i;
      kinds = set tally.kinds (key_number key) (one_more_is (get_or tally.kinds (key_number key) 0) (omega (arith, small (key_number key))) i);
      ended = (counted key tally).ended;
    }

module _ (file : File) where
  abbrev pub counter : Tally → Counter
  counter tally = record { file = file; tally = tally }

  abbrev ended : Counter → Bool
  ended c = c.tally.ended

  -- the same with the file beside the tally
  abbrev with_file : Outcome Tally → Outcome Counter
  with_file o = record { state = counter o.state; fault = o.fault }

  same_taken : (tally : Tally) (line : List ℕ) → Small tally → tally.lines < 65536 → taken_by counted_up file tally line ≡ taken file tally line
  same_taken tally line small few = λ i.
      bind (recognised file line) (λ p. cond tally.ended (Err (fault wrong.Key 1)) (bind (read file p.0 p.1) (λ read. Ok (same_count (key_of_line read) tally small few i))))

  at_end : (done : Bool) (tally : Tally) (placed : Placed) → cond done (record { state = counter tally; fault = None }) (record { state = counter tally; fault = Some placed })
      ≡ with_file (cond done (record { state = tally; fault = None }) (record { state = tally; fault = Some placed }))
  at_end true tally placed = refl
  at_end false tally placed = refl

  one_line : (tally : Tally) (number : ℕ) (line : List ℕ) (lines : List (List ℕ)) (tail : List ℕ)
      → ((made : Tally) → taken file tally line ≡ Ok made → numbered.walk counter_step ended (counter made) (number + 1) lines tail ≡ with_file (walk (taken file) (λ t. t.ended) made (number + 1) lines tail))
      → (bad : Option LineFault) (r : Result Tally LineFault) → taken file tally line ≡ r
      → settled (unless bad (bind r (λ made. Ok (counter made)))) (counter tally) number (λ made. numbered.walk counter_step ended made (number + 1) lines tail)
      ≡ with_file (settled (unless bad r) tally number (λ made. walk (taken file) (λ t. t.ended) made (number + 1) lines tail))
  one_line tally number line lines tail others (Some e) r is = refl
  one_line tally number line lines tail others None (Err e) is = refl
  one_line tally number line lines tail others None (Ok made) is = others made is

  same_walk : (lines : List (List ℕ)) (tail : List ℕ) (tally : Tally) (number : ℕ) → Small tally → tally.lines + length lines ≤ 65536
      → numbered.walk counter_step ended (counter tally) number lines tail ≡ with_file (walk (taken file) (λ t. t.ended) tally number lines tail)
  same_walk [] tail tally number small few = at_end (tally.ended && eqb (length tail) 0) tally (record { line = number; fault = tail_fault tail })
  same_walk (line ∷ lines) tail tally number small few =
      (λ i. settled (unless (byte_fault line) (bind (same_taken tally line small (omega arith) i) (λ made. Ok (counter made)))) (counter tally) number (λ made. numbered.walk counter_step ended made (number + 1) lines tail))
      ∙ one_line tally number line lines tail
      (λ made is.
      let counted_is = taken_counted file tally made line is in
      let more : made.lines ≡ tally.lines + 1 = ap (λ t. t.lines) counted_is.1 in
      same_walk lines tail made (number + 1) (subst Small (sym counted_is.1) (small_counted counted_is.0 tally small)) (omega (arith, more)))
      (byte_fault line) (taken file tally line) refl

  same_through : (text : List ℕ) → length text ≤ 65536 → numbered.walk_through counter_step ended (counter nothing) 1 (split text) ≡ with_file (gone_through file text)
  same_through text few = same_walk (split text).lines (split text).tail nothing 1 (λ k. search rules) (omega (arith, lines_few text))

  -- the account of a file is what a counter comes to that reads it
  by_fault : (text : List ℕ) (state : Tally) (fault : Option Placed) (r : Result (Unit {0}) FileFault) (after : Counter) → Went Some r after (told (counter state) fault) → Left Some r after (counter state)
      → ◌≡◌ {A = Account} (record { bytes = length text; tally = after.tally; fault = result_err r }) (record { bytes = length text; tally = state; fault = option_map Line fault })
  by_fault text state None (Ok u) after went left = search rules
  by_fault text state None (Err e) after went left = search rules
  by_fault text state (Some placed) (Ok u) after went left = search rules
  by_fault text state (Some placed) (Err e) after went left = search rules

  by_length : (text : List ℕ) (n : Outcome Counter) (o : Outcome Tally) (long : Bool) → (long ≡ false → n ≡ with_file o) → (r : Result (Unit {0}) FileFault) (after : Counter) → Went Some r after (cond long (Err TooLong) (whole n))
      → Left Some r after (cond long (counter nothing) n.state)
      → ◌≡◌ {A = Account} (record { bytes = length text; tally = after.tally; fault = result_err r })
      (cond long (record { bytes = length text; tally = nothing; fault = Some TooLong }) (record { bytes = length text; tally = o.state; fault = option_map Line o.fault }))
  by_length text n o true same (Ok u) after went left = search rules
  by_length text n o true same (Err e) after went left = search rules
  by_length text n o false same r after went left =
      by_fault text o.state o.fault r after (subst (λ (n : Outcome Counter). Went Some r after (whole n)) (same refl) went) (subst (λ (n : Outcome Counter). Left Some r after n.state) (same refl) left)

  pub account_read : (text : List ℕ) (begun : Tally) (r : Result (Unit {0}) FileFault) (after : Counter) → begun ≡ nothing → Went Some r after (read_through counter_step ended (counter begun) text)
      → Left Some r after (left_by counter_step ended (counter begun) text)
      → ◌≡◌ {A = Account} (record { bytes = length text; tally = after.tally; fault = result_err r }) (account file text)
  account_read text begun r after none went left =
      by_length text (numbered.walk_through counter_step ended (counter nothing) 1 (split text)) (gone_through file text) (ltb 65536 (length text)) (λ short. same_through text (ltb-false 65536 (length text) short)) r after
      (subst (λ begun. Went Some r after (read_through counter_step ended (counter begun) text)) none went)
      (subst (λ begun. Left Some r after (left_by counter_step ended (counter begun) text)) none left)
