use Rattle.ipfix_template.proofs.WrittenLaws.{record_text-splits, record_text-only}
use Rattle.ipfix_template.proofs.laws.record_splits_back.Goals as goal

pub returns-clause-splits : goal.returns-clause-splits
returns-clause-splits c = λ r sound. record_text-splits r.template.fields r.values sound.fit

pub returns-clause-only : goal.returns-clause-only
returns-clause-only c = λ r text before after values sound. record_text-only r.template.fields r.values text before after values sound.fit
