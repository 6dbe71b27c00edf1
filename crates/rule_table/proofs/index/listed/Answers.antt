use Rattle.std.proofs.Common.{Some, sym, ap, ◌∙◌, arith}
use Rattle.std.proofs.lemmas.Option.{slice_get-get_or}
use Rattle.rule_table.proofs.IndexLaws.{standing_more, standing_all}
use Rattle.rule_table.proofs.index.listed.Goals as goal

pub loop-place-preserved : goal.loop-place-preserved
loop-place-preserved c =
    standing_more c.args.rules.now c.loop-place.entries.items c.push.new.self.items c.rarest_mark.result c.loop-place.place c.entry.result _ c.in_ok-push.ensures.items c.entry.ensures c.loop-place.invariant
    (slice_get-get_or c.args.rules.now c.loop-place.place c.index-rules-place.result (omega arith) ∙ ap Some (sym c.index-rules-place.is)) c.rarest_mark.ensures

pub returns : goal.returns
returns c = standing_all c.args.rules.now c.loop-place.entries.items c.loop-place.place (omega arith) c.loop-place.invariant
