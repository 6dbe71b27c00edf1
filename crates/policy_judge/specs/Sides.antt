-- Source and destination as values of the program.
use Rattle.std.specs.Prelude.{Bool}
use Rattle.ipfix_element.specs.Element.{Element}
use Rattle.policy_judge.specs.declared.occurrences.Side.{Side}
use Rattle.policy_judge.specs.declared.occurrences.Side.TheVariants.{Source, Destination}
use Rattle.policy_judge.specs.Occurrences.{is_source, is_destination}

abbrev pub is_of : Side → Element → Bool
is_of Source e = is_source e
is_of Destination e = is_destination e
