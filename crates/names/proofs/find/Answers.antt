use Rattle.std.proofs.Common.{Some, sym, ◌∙◌, rules}
use borrow.Author.Tests.{tests}
use Rattle.std.proofs.lemmas.Iterator.{YieldsList-from_slice}
use Rattle.std.proofs.lemmas.Iterator.Search.{position_from_yields_List}
use Rattle.std.specs.Str.{bytes_eq}
use Rattle.names.proofs.Places.{by_position, told}
use Rattle.names.proofs.find.Goals as goal

pub returns-in_err-place-clause-the_number_of_the_first_so_named : goal.returns-in_err-place-clause-the_number_of_the_first_so_named
returns-in_err-place-clause-the_number_of_the_first_so_named g c =
    let rows = c.args.rows.now in
    let name = c.args.name.now in
    let named = g.T.Named.named in
    c.from_residual.ensures ∙ sym c.in_err-place.was
    ∙ position_from_yields_List (λ x. bytes_eq (named x) name) c.position.new.self _ c.position.result c.position.ensures.ran (YieldsList-from_slice rows cc) (λ x b q k. search (rules, tests))
    ∙ by_position named rows name

pub returns-in_err-place-clause-found_is_so_named_and_none_means_no_row_is : goal.returns-in_err-place-clause-found_is_so_named_and_none_means_no_row_is
returns-in_err-place-clause-found_is_so_named_and_none_means_no_row_is g c =
    told g.T.Named.named c.args.rows.now c.args.name.now c.from_residual.result (returns-in_err-place-clause-the_number_of_the_first_so_named g c)

pub returns-clause-the_number_of_the_first_so_named : goal.returns-clause-the_number_of_the_first_so_named
returns-clause-the_number_of_the_first_so_named g c =
    let rows = c.args.rows.now in
    let name = c.args.name.now in
    let named = g.T.Named.named in
    sym c.in_ok-place.was
    ∙ position_from_yields_List (λ x. bytes_eq (named x) name) c.position.new.self _ c.position.result c.position.ensures.ran (YieldsList-from_slice rows cc) (λ x b q k. search (rules, tests))
    ∙ by_position named rows name

pub returns-clause-found_is_so_named_and_none_means_no_row_is : goal.returns-clause-found_is_so_named_and_none_means_no_row_is
returns-clause-found_is_so_named_and_none_means_no_row_is g c =
    told g.T.Named.named c.args.rows.now c.args.name.now (Some c.in_ok-place.place) (returns-clause-the_number_of_the_first_so_named g c)
