use Rattle.policy_text.proofs.SpellLaws.{parses-found, parses-only}
use Rattle.policy_text.proofs.OneFaultLaws.{parses-first}
use Rattle.policy_text.proofs.policy.Policy.parse.Goals as goal

pub returns-clause-found : goal.returns-clause-found
returns-clause-found c = parses-found c.args.text.now c.read.result c.read.ensures.exact

pub returns-clause-only : goal.returns-clause-only
returns-clause-only c = λ policy spelled. parses-only c.args.text.now c.read.result policy c.read.ensures.exact spelled

pub returns-clause-memory : goal.returns-clause-memory
returns-clause-memory c = c.read.ensures.memory

pub returns-clause-first : goal.returns-clause-first
returns-clause-first c = parses-first c.args.text.now c.read.result c.read.ensures.exact
