use Rattle.std.proofs.Common.{rules}
use mathlib.Core.List.{map-map}
use Rattle.proposal.specs.Views.{invariant_seen}
use Rattle.proposal.proofs.invariants.InvariantTable.number.Goals as goal

pub returns : goal.returns
returns c = let named = map-map (λ i. i.name) invariant_seen c.args.self.now.rows.items in search rules
