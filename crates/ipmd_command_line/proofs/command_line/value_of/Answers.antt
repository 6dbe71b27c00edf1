use Rattle.std.proofs.Common.{refl}
use Rattle.ipmd_command_line.proofs.GivenRows.{given_row}
use Rattle.ipmd_command_line.proofs.command_line.value_of.Goals as goal

pub returns : goal.returns
returns c = given_row c.args.chosen.now c.args.name.now c.get_str.result c.get_str.result c.get_str.ensures refl
