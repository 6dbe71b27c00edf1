use Rattle.std.proofs.Common.{◌≡◌, ◌<◌, ◌^◌, ℕ, IfSome, ap, subst, ◌∙◌}
use Rattle.rule_table.specs.Classes.{class_of}
use Rattle.rule_table.proofs.classes.AddressClasses.known_class.Goals as goal

pub returns-clause-class : goal.returns-clause-class
returns-clause-class c =
    let low : c.args.address < 2 ^ 32 = c.ranges.address.fits in
    let same = c.self.invariant.below c.args.address low ∙ ap (λ xs. class_of xs c.args.address) c.self.view_is in
    subst (λ (n : ℕ). IfSome c.known_class.result (λ class. class ≡ n)) same c.known_class.ensures.class
