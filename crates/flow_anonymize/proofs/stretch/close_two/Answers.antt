use Rattle.flow_anonymize.proofs.StretchLaws.{closed_two}
use Rattle.flow_anonymize.proofs.stretch.close_two.Goals as goal

pub returns-clause-shown : goal.returns-clause-shown
returns-clause-shown c =
    closed_two c.args.first c.args.second c.args.octets.now c.behind-rest.result.now c.args.text.now.items c.put_stretch-front.new.text.items c.put_stretch.new.text.items c.args.held c.put_stretch-front.result c.put_stretch.result
    c.requires.within c.requires.there c.behind-rest.ensures c.put_stretch-front.ensures.text c.put_stretch-front.ensures.count c.put_stretch.ensures.text c.put_stretch.ensures.count
