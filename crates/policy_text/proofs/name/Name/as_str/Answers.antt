use Rattle.std.proofs.Common.{List, ℕ, subst, sym}
use Rattle.std.specs.Str.{IsUtf8}
use Rattle.policy_text.proofs.NameLaws.{is_name-text}
use Rattle.policy_text.proofs.name.Name.as_str.Goals as goal

pub unreachable-requires : goal.unreachable-requires
unreachable-requires c =
    let P : List ℕ → Type 0 = λ octets. IsUtf8 octets in
    absurd (c.in-Err.ensures.cases.0 (subst P (sym c.as_slice.ensures.value) (is_name-text c.self.inside.octets.items c.self.invariant)))
