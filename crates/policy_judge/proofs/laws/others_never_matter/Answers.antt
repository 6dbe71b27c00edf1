use Rattle.policy_judge.proofs.NeverLaws.{never_matches, decides_alone, acts_alone}
use Rattle.policy_judge.proofs.laws.others_never_matter.Goals as goal

pub returns : goal.returns
returns c = record { matches = never_matches; decides = decides_alone; acts = acts_alone }
