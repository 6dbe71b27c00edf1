use Rattle.std.proofs.Common.{arith}
use Rattle.rule_table.proofs.TableLaws.{all_candidates, place_more}
use Rattle.rule_table.proofs.table.all_places.Goals as goal

pub loop-place-preserved : goal.loop-place-preserved
loop-place-preserved c = place_more c.loop-place.place c.loop-place.places.items c.push.new.self.items c.loop-place.invariant c.in_ok-push.ensures.items

pub returns : goal.returns
returns c = λ name domain r. all_candidates c.args.rules.now c.loop-place.places.items c.loop-place.place name domain r c.requires (omega arith) c.loop-place.invariant
