use Rattle.event_journal.proofs.RoomLaws.{octets_add_up}
use Rattle.event_journal.proofs.laws.octets_add_up.Goals as goal

pub returns : goal.returns
returns c = octets_add_up
