use Rattle.std.proofs.Common.{rules}
use Rattle.std.proofs.lemmas.List.Elements.{filter_from_retain}
use Rattle.ipmd_commands.specs.HexText.{is_no_white_space}
use Rattle.ipmd_commands.proofs.hex_input.skip_white_space.Goals as goal

pub returns : goal.returns
returns c = filter_from_retain _ is_no_white_space (λ p x b q h. search rules) _ _ _ c.retain.ensures.filtered
