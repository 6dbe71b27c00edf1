use Rattle.admin_text.proofs.LineLaws.{if_found, if_only, if_memory}
use Rattle.admin_text.proofs.command.read_command.Goals as goal

pub returns-clause-found : goal.returns-clause-found
returns-clause-found c = if_found c.args.line.now c.read_line.result c.read_line.ensures.value

pub returns-clause-only : goal.returns-clause-only
returns-clause-only c = if_only c.args.line.now c.read_line.result c.read_line.ensures.value

pub returns-clause-memory : goal.returns-clause-memory
returns-clause-memory c = if_memory c.args.line.now c.read_line.result c.read_line.ensures.memory
