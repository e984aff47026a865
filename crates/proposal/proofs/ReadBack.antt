-- A proposal that was read is written with just the bytes that it was read from.
use Rattle.std.proofs.Common.{◌≡◌, ℕ, true, List, [], ◌∷◌, ◌++◌, map, Ok, sym, refl, ap, ◌∙◌, subst, arith}
use Rattle.std.proofs.lemmas.Bool.{eqb-true}
use Rattle.std.specs.List.{flat_map}
use Rattle.text.specs.Lines.{split}
use Rattle.words.specs.Words.{first_place}
use Rattle.line.specs.Lines.{key_of_line}
use Rattle.line.specs.Reading.{read, recognised}
use Rattle.line.specs.Rows.{row_of, may_follow}
use Rattle.line.specs.declared.lines.File.TheVariants as file
use Rattle.writing.proofs.Taken.{nothing_is_lost}
use Rattle.writing.specs.Said.{said}
use Rattle.writing.specs.Written.{written_line}
use Rattle.reading.proofs.Laws.{closed, lines_read}
use Rattle.reading.specs.Files.{read_through}
use Rattle.tables.specs.Lawful.{LawfulTerms, declared_by}
use Rattle.tables.proofs.Answered.{bind_ok, first_ok, same_ok}
use Rattle.tables.proofs.LineLaws.{line_key}
use Rattle.protocol.specs.Records.{ProtocolV}
use Rattle.proposal.specs.Laws.{NothingIsLost}
use Rattle.proposal.specs.Reading.{Draft, begun, ended, taken, line_taken, finished}
use Rattle.proposal.specs.Written.{lines_of, written}
use Rattle.proposal.proofs.Kept.{Kept, draft_at, kept_begun, kept_taken, same_protocol}
use Rattle.proposal.proofs.Spoken.{Spoken, line_spoken}

-- A line that is taken says what it adds, with just its bytes.
spoken_taken : (draft after : Draft) (number : ℕ) (lines : List (List ℕ)) (bytes : List ℕ) → Kept draft number → Spoken draft lines → taken draft number bytes ≡ Ok after → Spoken after (lines ++ bytes ∷ [])
spoken_taken draft after number lines bytes kept spoken is =
    let known = bind_ok (recognised file.Proposal bytes) _ after is in
    let k = known.0.0 in
    let rest = known.0.1 in
    let follows = first_ok (may_follow file.Proposal draft.row k) _ _ after known.2 in
    let words = bind_ok (read file.Proposal k rest) _ after follows.1 in
    let l = words.0 in
    let adds = bind_ok (line_taken draft.protocol number l draft.made) _ after words.2 in
    let same : key_of_line l ≡ k = line_key file.Proposal k (first_place k rest) l words.1 in
    let may : may_follow file.Proposal draft.row (key_of_line l) ≡ true = subst (λ j. may_follow file.Proposal draft.row j ≡ true) (sym same) follows.0 in
    let then = line_spoken draft.protocol draft.row draft.made adds.0 number kept lines spoken l may adds.1 in
    let these : written_line file.Proposal (said l) ≡ bytes = nothing_is_lost file.Proposal bytes rest k l known.1 words.1 in
    subst (λ d. Spoken d (lines ++ bytes ∷ [])) (same_ok (draft_at draft.protocol (row_of file.Proposal k) adds.0) after adds.2)
    (subst (λ j. Spoken (draft_at draft.protocol (row_of file.Proposal j) adds.0) (lines ++ bytes ∷ [])) same
    (subst (λ b. Spoken (draft_at draft.protocol (row_of file.Proposal (key_of_line l)) adds.0) (lines ++ b ∷ [])) these then))

spoken_begun : (p : ProtocolV) → Spoken (begun p) []
spoken_begun p = record { none = λ zero. refl; some = λ low. absurd (omega arith); all = λ five. absurd (omega arith) }

joined_map : {X Y A : Type 0} (f : Y → List A) (g : X → Y) (xs : List X) → flat_map f (map g xs) ≡ flat_map (λ x. f (g x)) xs
joined_map f g [] = refl
joined_map f g (x ∷ xs) = ap (λ more. f (g x) ++ more) (joined_map f g xs)

module _ (p : ProtocolV) (lawful : LawfulTerms (declared_by p.types p.variables) p.terms) where
  abbrev KeptSpoken : Draft → ℕ → List (List ℕ) → Type 0
  KeptSpoken draft number lines = Kept draft number × (p ≡ draft.protocol) × Spoken draft lines

  -- What is left of a file that was read is written with the file's bytes.
  pub left_written : (text : List ℕ) (after : Draft) → read_through taken ended (begun p) text ≡ Ok after → written p (finished p after.made) ≡ text
  left_written text after is =
      let left = lines_read taken ended KeptSpoken
      (λ before then number lines line kept made.
      (kept_taken before then number line kept.0 made, kept.1 ∙ same_protocol before then number line made, spoken_taken before then number lines line kept.0 kept.2 made))
      (begun p) after text (kept_begun p lawful, refl, spoken_begun p) is in
      let row : after.row ≡ 5 = eqb-true after.row 5 left.2 in
      let lines : (split text).lines ≡ map (written_line file.Proposal) (lines_of p (finished p after.made)) =
      left.1.2.all row ∙ ap (λ (r : ProtocolV). map (written_line file.Proposal) (lines_of r (finished r after.made))) (sym left.1.1) in
      sym (joined_map (λ line. line ++ 10 ∷ []) (written_line file.Proposal) (lines_of p (finished p after.made))) ∙ ap closed (sym lines) ∙ left.3

pub proposal_written : NothingIsLost
proposal_written p text q lawful is =
    let out = bind_ok (read_through taken ended (begun p) text) _ q is in
    ap (written p) (sym (same_ok (finished p out.0.made) q out.2)) ∙ left_written p lawful text out.0 out.1
