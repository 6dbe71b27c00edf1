use Rattle.flow_aggregate.proofs.KeptLaws.{kept_first}
use Rattle.flow_aggregate.proofs.running.Running.release.Goals as goal

pub invariant_of-self : goal.invariant_of-self
invariant_of-self c =
    kept_first c.self.inside.counted c.self.inside.groups.entries c.truncate.new.groups.entries c.self.inside.agenda.by_time.entries c.truncate.new.agenda.by_time.entries
    c.self.invariant c.truncate.ensures.entries c.truncate.ensures.listed
