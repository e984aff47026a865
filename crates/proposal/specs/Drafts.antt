-- What half a file stands for.
use Rattle.protocol.specs.Answers.{protocol_seen}
use Rattle.proposal.specs.Reading.{Draft}
use Rattle.proposal.specs.Views.{parts_seen}
use Rattle.proposal.specs.declared.reader.ProposalReader.{ProposalReader}

abbrev pub draft_seen : ProposalReader → Draft
draft_seen r = record { protocol = protocol_seen r.protocol.now; row = r.row; made = parts_seen r.parts }
