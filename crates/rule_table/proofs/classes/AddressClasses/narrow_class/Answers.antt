use Rattle.std.proofs.Common.{ap, ◌^◌, ◌<◌, ◌∙◌}
use Rattle.rule_table.specs.Classes.{class_of}
use Rattle.rule_table.proofs.classes.AddressClasses.narrow_class.Goals as goal

pub returns-clause-class : goal.returns-clause-class
returns-clause-class c =
    let low : c.args.address < 2 ^ 32 = c.ranges.address.fits in
    c.class.ensures.class ∙ c.self.invariant.below c.args.address low ∙ ap (λ xs. class_of xs c.args.address) c.self.view_is
