use Rattle.ipmd_commands.proofs.Naming.{at_a_file}
use Rattle.ipmd_commands.proofs.fault.Fault.at_file.Goals as goal

pub returns-in-Ok : goal.returns-in-Ok
returns-in-Ok c = at_a_file c.args.path.now c.in-Ok.path c.at.result c.in-Ok.ensures.ok c.at.ensures.either
