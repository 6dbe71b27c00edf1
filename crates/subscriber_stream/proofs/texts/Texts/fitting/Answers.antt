use Rattle.std.proofs.Common.{◌≡◌, ◌∙◌, arith}
use Rattle.subscriber_stream.proofs.TextLaws.{none_left_over, over_fitting, more_fitting, all_fitting, none_fitting}
use Rattle.subscriber_stream.proofs.texts.Texts.fitting.Goals as goal

pub loop-count-init : goal.loop-count-init
loop-count-init c = none_fitting c.args.room c.args.self.now

pub returns-then-all-room : goal.returns-then-all-room
returns-then-all-room c = none_left_over c.args.room c.args.self.now c.len-most.result c.octets-all.result (omega arith) c.octets-all.ensures.exact (omega arith)

pub returns-then-octets-room : goal.returns-then-octets-room
returns-then-octets-room c =
    over_fitting c.args.room c.args.self.now c.loop-count.count c.octets.result c.loop-count.invariant (omega arith) c.octets.ensures.exact (omega arith)

pub loop-count-preserved : goal.loop-count-preserved
loop-count-preserved c =
    more_fitting c.args.room c.args.self.now c.loop-count.count c.octets.result c.loop-count.invariant (omega arith) c.octets.ensures.exact (omega arith)

pub returns : goal.returns
returns c =
    let last : c.len-most.result ≡ c.loop-count.count = omega arith in
    last ∙ all_fitting c.args.room c.args.self.now c.loop-count.count c.loop-count.invariant (omega arith)
