use Rattle.std.proofs.Common.{◌≡◌, ℕ, ◌+◌, ◌≤◌, List, [], ◌∷◌, ◌++◌, map, length, get_or, vec_items, vec_len, sym, ap, ◌∙◌, subst, arith}
use Rattle.std.proofs.lemmas.List.{length-map}
use Rattle.names.specs.Names.{spelled}
use Rattle.words.specs.Repeats.{start}
use Rattle.words.specs.Words.{words_left}
use Rattle.tables.specs.Spellings.{spellings}
use Rattle.protocol.proofs.TypeLaws.{few_pushed, mapped_push}
use Rattle.protocol.proofs.types.add_type.Goals as goal
use Rattle.protocol.proofs.types.add_type.Goals.{After-push_reserved-3}

abbrev row : After-push_reserved-3 → List (List ℕ)
row c = map (λ w. w.bytes) (words_left (start c.args.values.now))

-- the values of the types with those of the new one
values_more : (c : After-push_reserved-3) → spellings c.push_reserved-2.new.self ≡ spellings c.args.types.now.values ++ row c ∷ []
values_more c =
    mapped_push (λ v. map spelled (vec_items v)) (vec_items c.args.types.now.values) (vec_items c.push_reserved-2.new.self) c.in_ok-values.values (row c)
    (c.push_reserved-2.ensures.items ∙ ap (λ vs. vs ++ c.in_ok-values.values ∷ []) c.reserve-2.ensures.items) c.in_ok-values.ensures.an_owned_name_for_each_word

pub invariant_of-types-2 : goal.invariant_of-types-2
invariant_of-types-2 c =
    let was = c.args.types.now in
    let names : vec_len c.push_reserved.new.self ≡ vec_len was.names + 1 = omega (arith, c.push_reserved.ensures.len, c.reserve.ensures.len) in
    let values : vec_len c.push_reserved-2.new.self ≡ vec_len was.values + 1 = omega (arith, c.push_reserved-2.ensures.len, c.reserve-2.ensures.len) in
    let sizes : vec_len c.push_reserved-3.new.self ≡ vec_len was.sizes + 1 = omega (arith, c.push_reserved-3.ensures.len, c.reserve-3.ensures.len) in
    let short : length (row c) ≤ 16 = omega (arith, c.requires.few_values, length-map (words_left (start c.args.values.now)) (λ w. w.bytes)) in
    let few : vec_len c.push_reserved.new.self ≤ 8 = omega (arith, c.requires.one_more_may_stand) in
    let sized : vec_len c.push_reserved-3.new.self ≡ vec_len c.push_reserved.new.self = omega (arith, was.all_sized) in
    let valued : vec_len c.push_reserved-2.new.self ≡ vec_len c.push_reserved.new.self = omega (arith, was.all_valued) in
    record { few = few; all_sized = sized; all_valued = valued; few_values = (λ k. subst (λ lists. length (get_or lists k []) ≤ 16) (sym (values_more c)) (few_pushed (spellings was.values) (row c) was.few_values short k)) }

pub returns : goal.returns
returns c =
    let was = c.args.types.now in
    let names =
    mapped_push spelled (vec_items was.names) (vec_items c.push_reserved.new.self) c.in_ok-name.name c.args.name.now
    (c.push_reserved.ensures.items ∙ ap (λ ns. ns ++ c.in_ok-name.name ∷ []) c.reserve.ensures.items) c.in_ok-name.ensures.a_name_with_these_bytes in
    let values = values_more (goal.at.returns c).After-push_reserved-3 in
    let sizes = c.push_reserved-3.ensures.items ∙ ap (λ ns. ns ++ c.args.size ∷ []) c.reserve-3.ensures.items in
    record { one_type_more = λ i. record { names = names i; values = values i; sizes = sizes i } }
