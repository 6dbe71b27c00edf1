use Rattle.std.proofs.Common.{◌++◌, take}
use Rattle.flow_anonymize.specs.Stretches.{shown_in}
use Rattle.flow_anonymize.proofs.StretchLaws.{closed_at}
use Rattle.flow_anonymize.proofs.stretch.close_up.Goals as goal

pub loop-stretch-preserved : goal.loop-stretch-preserved
loop-stretch-preserved c =
    closed_at c.args.held (take c.args.held c.args.text.now.items ++ shown_in c.args.stretches.now c.args.octets.now) c.args.octets.now c.args.stretches.now c.loop-stretch.stretch-index _ c.loop-stretch.put c.put_stretch-put.result
    c.loop-stretch.rest.now c.behind-left.result.now c.loop-stretch.text.items c.put_stretch-put.new.text.items c.loop-stretch-test.true c.loop-stretch.invariant c.put_stretch-put.ensures.count c.put_stretch-put.ensures.text c.behind-left.ensures
