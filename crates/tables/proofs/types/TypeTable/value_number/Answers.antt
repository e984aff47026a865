use Rattle.std.proofs.Common.{◌≡◌, [], map, length, get_or, vec_items, sym, ap, ◌∙◌, arith}
use Rattle.std.proofs.lemmas.List.{length-map, get_or-map, get_or_past}
use Rattle.names.specs.Names.{spelled, place_in}
use Rattle.tables.specs.Spellings.{spellings}
use Rattle.tables.proofs.types.TypeTable.value_number.Goals as goal
use Rattle.tables.proofs.types.TypeTable.value_number.Goals.{After-index}

-- there are as many lists of values as the table has
long : (c : After-index) → length (spellings c.args.self.now.values) ≡ length (vec_items c.args.self.now.values)
long c = length-map (vec_items c.args.self.now.values) (λ v. map spelled (vec_items v))

-- the values that are read are those of the type
read_there : (c : After-index) → get_or (spellings c.args.self.now.values) c.args.kind [] ≡ map spelled (vec_items c.index.result.now)
read_there c =
    let values = c.args.self.now.values in
    get_or-map (λ v. map spelled (vec_items v)) (vec_items values) c.args.kind c.index.result.now [] (omega (arith, values.ok.0))
    ∙ ap (λ v. map spelled (vec_items v)) (sym c.index.ensures)

pub returns-then-kind-len : goal.returns-then-kind-len
returns-then-kind-len c =
    let values = c.args.self.now.values in
    record {
      its_number_among_the_values =
          ap (λ names. place_in names c.args.value.now)
          (sym (get_or_past (spellings values) c.args.kind [] (omega (arith, values.ok.0, length-map (vec_items values) (λ v. map spelled (vec_items v))))));
    }

pub number_in-requires : goal.number_in-requires
number_in-requires c =
    let few = c.args.self.now.few_values c.args.kind in
    let same = ap length (read_there (goal.at.number_in-requires c).After-index) in
    let names = c.index.result.now in
    record { few = omega (arith, few, same, names.ok.0, length-map (vec_items names) spelled) }

pub returns : goal.returns
returns c =
    record {
      its_number_among_the_values =
          c.number_in.ensures.its_number_among_the_names ∙ ap (λ names. place_in names c.args.value.now) (sym (read_there (goal.at.returns c).After-index));
    }
