-- The shapes of prefixes.
use Rattle.std.proofs.Common.{◌≡◌, ℕ, ◌/◌, ◌^◌, ◌-◌, ◌<◌, ◌≤◌, Bool, true, List, ap, sym, ◌∙◌, arith, ◌==◌, ◌&&◌, subst}
use Rattle.std.specs.List.{Contains, list_any}
use Rattle.std.proofs.lemmas.Bool.{and_parts, eqb-true}
use Rattle.std.proofs.Math.Nat.{pow-le-pow_right, div-eq_of_lt}
use Rattle.flow_prefix.specs.Bits.{truncated}
use Rattle.rule_table.specs.declared.addresses.Shape.{Shape}
use Rattle.rule_table.proofs.Members.{Passing, passing}

abbrev shaped : ℕ → ℕ → Shape
shaped width length = record { width = width; length = length }

pub has_shape : (shapes : List Shape) (shape : Shape) → list_any (λ other. other.width == shape.width && other.length == shape.length) shapes ≡ true → Contains shapes shape
has_shape shapes shape e =
    let p : Passing (λ (other : Shape). other.width == shape.width && other.length == shape.length) shapes = passing _ shapes e in
    let both = and_parts (p.item.width == shape.width) (p.item.length == shape.length) p.passes in
    let same : p.item ≡ shape = ap (λ w. shaped w p.item.length) (eqb-true p.item.width shape.width both.0) ∙ ap (λ l. shaped shape.width l) (eqb-true p.item.length shape.length both.1) in
    let P : Shape → Type 0 = λ s. Contains shapes s in
    subst P same p.among

-- no bit is kept of a number that has fewer than are left out
pub truncated-none : (w n v : ℕ) → v < 2 ^ 128 → 128 ≤ w - n → truncated w n v ≡ 0
truncated-none w n v below most =
    let up : 2 ^ 128 ≤ 2 ^ (w - n) = pow-le-pow_right (omega arith) most in
    let small : v < 2 ^ (w - n) = omega (arith, below, up) in
    let none : v / 2 ^ (w - n) ≡ 0 = div-eq_of_lt small in
    rw none (omega arith)

-- the same of a test's answer, over the shapes as they were read
pub noted : (shapes read : List Shape) (shape : Shape) (there : Bool) → read ≡ shapes
    → there ≡ list_any (λ other. other.width == shape.width && other.length == shape.length) read → there ≡ true → Contains shapes shape
noted shapes read shape there same is yes' =
    has_shape shapes shape (ap (list_any (λ (other : Shape). other.width == shape.width && other.length == shape.length)) (sym same) ∙ sym is ∙ yes')
