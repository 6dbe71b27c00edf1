use Rattle.std.proofs.Common.{arith}
use Rattle.std.proofs.lemmas.Grind.{common_steps}
use Rattle.std.proofs.lemmas.List.Elements.{filter_map-append}
use Rattle.rule_table.proofs.asked.ask_one.Goals as goal
use Rattle.rule_table.proofs.asked.ask_one.Goals.{in-Some+in_ok-push, in_default}

pub loop-shape-preserved : goal.loop-shape-preserved
loop-shape-preserved c =
    elim c.match-asked_at.branch [ in-Some+in_ok-push w ↦ grind (arith, common_steps, filter_map-append) | in_default w ↦ grind (arith, common_steps, filter_map-append) ]
