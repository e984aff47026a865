use Rattle.std.proofs.Common.{◌≡◌, vec_items, ◌∙◌}
use Rattle.protocol.proofs.parts.Parts.copy.Goals as goal

pub returns : goal.returns
returns c =
    let name = c.in_ok-name.ensures.a_name_spelled_the_same in
    let types = c.in_ok-types.ensures.types_that_say_the_same in
    let variables = c.in_ok-variables.ensures.variables_that_say_the_same in
    let terms = c.in_ok-terms.ensures.terms_that_say_the_same in
    let initial : vec_items c.in_ok-initial.initial ≡ vec_items c.args.self.now.initial = c.in_ok-initial.ensures.items_if_clones_equal (λ x y same. same) ∙ c.as_slice.ensures.value in
    let rules = c.in_ok-rules.ensures.rules_that_say_the_same in
    record { parts_that_say_the_same = λ i. record { name = name i; types = types i; variables = variables i; terms = terms i; initial = initial i; rules = rules i } }
