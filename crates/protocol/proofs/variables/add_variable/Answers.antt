use Rattle.std.proofs.Common.{[], ◌∷◌, ◌++◌, vec_items, ap, ◌∙◌}
use Rattle.names.specs.Names.{spelled}
use Rattle.protocol.proofs.TypeLaws.{mapped_push}
use Rattle.protocol.proofs.variables.add_variable.Goals as goal

pub returns : goal.returns
returns c =
    let was = c.args.variables.now in
    let names =
    mapped_push spelled (vec_items was.names) (vec_items c.push_reserved.new.self) c.in_ok-name.name c.args.name.now
    (c.push_reserved.ensures.items ∙ ap (λ ns. ns ++ c.in_ok-name.name ∷ []) c.reserve.ensures.items) c.in_ok-name.ensures.a_name_with_these_bytes in
    let kinds = c.push_reserved-2.ensures.items ∙ ap (λ ks. ks ++ c.args.row.kind ∷ []) c.reserve-2.ensures.items in
    record { one_row_more = λ i. record { names = names i; kinds = kinds i; states = c.args.row.states } }
