use Rattle.flow_anonymize.proofs.StretchLaws.{closed_only}
use Rattle.flow_anonymize.proofs.stretch.close_one.Goals as goal

pub returns-clause-shown : goal.returns-clause-shown
returns-clause-shown c =
    closed_only c.args.only c.args.octets.now c.args.text.now.items c.put_stretch.new.text.items c.args.held c.put_stretch.result c.requires.within c.requires.there c.put_stretch.ensures.text c.put_stretch.ensures.count
