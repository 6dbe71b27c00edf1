use Rattle.replay_text.proofs.TextLaws.{reads-found, reads-only, reads-first}
use Rattle.replay_text.proofs.call_list.read_call_list.Goals as goal

pub returns-clause-found : goal.returns-clause-found
returns-clause-found c = reads-found c.args.text.now c.read_lines.result c.read_lines.ensures

pub returns-clause-only : goal.returns-clause-only
returns-clause-only c = reads-only c.args.text.now c.read_lines.result c.read_lines.ensures

pub returns-clause-first : goal.returns-clause-first
returns-clause-first c = reads-first c.args.text.now c.read_lines.result c.read_lines.ensures
