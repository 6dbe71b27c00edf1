use Rattle.std.proofs.Common.{refl}
use Rattle.sequences.proofs.BeforeLaws.{each_with_before-push}
use Rattle.sequences.proofs.laws.one_entry_more.Goals as goal

pub returns-clause-start : goal.returns-clause-start
returns-clause-start g c = λ f. refl

pub returns-clause-more : goal.returns-clause-more
returns-clause-more g c = λ f h e. each_with_before-push f h e
