use Rattle.std.proofs.Common.{rules}
use Rattle.protocol.proofs.Rows.{part_of_row}
use Rattle.rules.specs.Views.{rule_seen}
use Rattle.protocol.specs.Looking.{guard_of_rule}
use Rattle.protocol.proofs.record.Protocol.guard.Goals as goal

pub returns : goal.returns
returns c =
    let part = part_of_row rule_seen guard_of_rule c.deref.result.now c.args.i c.get.result c.get.ensures.lookup in
    search rules
