use Rattle.std.proofs.Common.{ℕ, List, None, sym, ap, ◌∙◌}
use Rattle.std.specs.Map.{update}
use Rattle.std.specs.Str.{bytes_eq}
use Rattle.mediator_tables.specs.Naming.{number_under, name_of_sub}
use Rattle.mediator_tables.proofs.NameLaws.{named_less, names_less, name_in}
use Rattle.mediator_tables.proofs.subscriptions.Subscriptions.remove.Goals as goal

pub invariant_of-self : goal.invariant_of-self
invariant_of-self c =
    let s = c.self.inside in
    let es = s.by_number.entries in
    named_less (number_under s.names) (number_under c.remove-in-Some.new.self) (name_of_sub es) (name_of_sub c.remove.new.self.entries) c.args.sub.0 c.in-Some.gone.name
    (ap name_in (sym c.in-Some.ensures.value))
    (λ n. c.remove-in-Some.ensures n ∙ ap (λ (bs : List ℕ). update bytes_eq (number_under s.names) bs None n) c.as_str.ensures)
    (names_less es c.remove.new.self.entries c.args.sub.0 c.remove.ensures.updates.0)
    c.self.invariant
