use Rattle.sequences.proofs.BeforeLaws.{last_of-found, last_of-only}
use Rattle.sequences.proofs.laws.last_entry_has_the_last_value.Goals as goal

pub returns : goal.returns
returns g c = λ f start entries value. (last_of-found f start entries value, last_of-only f start entries value)
