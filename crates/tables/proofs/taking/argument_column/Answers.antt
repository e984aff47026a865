use Rattle.std.proofs.Common.{rules}
use Rattle.tables.proofs.taking.argument_column.Goals as goal
use Rattle.tables.proofs.taking.argument_column.Goals.{in-Var, in-Not, in-Ite, in-Eq, in-Eq-2, in-Eq-3, in-Eq-4}

pub returns : goal.returns
returns c = elim c.match-form.branch [ in-Var w ↦ search rules | in-Not w ↦ search rules | in-Ite w ↦ search rules | in-Eq w ↦ search rules | in-Eq-2 w ↦ search rules | in-Eq-3 w ↦ search rules | in-Eq-4 w ↦ search rules ]
