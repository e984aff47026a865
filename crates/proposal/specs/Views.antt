-- What the program's parts of a proposal stand for.
use Rattle.std.specs.Prelude.{List, map, vec_items}
use Rattle.names.specs.Names.{spelled}
use Rattle.tables.specs.Views.{terms_seen}
use Rattle.proposal.specs.Records.{InvariantV, ProposalV}
use Rattle.proposal.specs.declared.invariants.Invariant.{Invariant}
use Rattle.proposal.specs.declared.invariants.InvariantTable.{InvariantTable}
use Rattle.proposal.specs.declared.parts.Parts.{Parts}

abbrev pub invariant_seen : Invariant → InvariantV
invariant_seen i = record { name = spelled i.name; formula = i.formula; line = i.line }

abbrev pub invariants_seen : InvariantTable → List InvariantV
invariants_seen t = map invariant_seen (vec_items t.rows)

abbrev pub parts_seen : Parts → ProposalV
parts_seen p =
    record { name = spelled p.name; terms = terms_seen p.terms; invariants = invariants_seen p.invariants; claims = vec_items p.claims }
