use Rattle.std.proofs.Common.{◌≡◌, ◌&&◌, nat_eq, rules}
use Rattle.std.specs.Bool.{Decides}
use Rattle.std.proofs.lemmas.Slice.Eq.{slice_eq-Decides}
use Rattle.disclosure_audit.specs.declared.entry.RemovedField.{RemovedField}
use Rattle.disclosure_audit.proofs.line_list.are_same.Goals as goal

-- two removed fields are the same exactly where their places and their rules are
same_field : (a b : RemovedField) → Decides (nat_eq a.place b.place && nat_eq a.rule b.rule) (a ≡ b)
same_field a b = (search rules, search rules)

pub returns-in_default : goal.returns-in_default
returns-in_default c = (slice_eq-Decides same_field c.args.one.now c.args.other.now c.eq.result c.eq.ensures).0
