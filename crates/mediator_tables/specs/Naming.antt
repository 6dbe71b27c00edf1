-- What the table keeps of itself: its names, and room that was reserved.
use Rattle.std.specs.Prelude.{◌≡◌, ◌≤◌, ℕ, List, Option, Some}
use Rattle.std.specs.Option.{option_map}
use Rattle.std.specs.BTreeMap.{get_by_text}
use Rattle.ipfix_session.specs.Keeping.{at_key}
use Rattle.mediator_tables.specs.declared.subscription.Subscription.{Subscription}
use Rattle.mediator_tables.specs.declared.names.Names.{Names}
use Rattle.mediator_tables.specs.SubscriptionTable.{Related}

-- the number under a name
abbrev pub number_under : Names → List ℕ → Option ℕ
number_under names name = get_by_text names.by_name name

-- the name of the subscription with this number
abbrev pub name_of_sub : List (ℕ × Subscription) → ℕ → Option (List ℕ)
name_of_sub live sub = option_map (λ s. s.name) (at_key sub live)

-- each subscription's name has its number, and each number is that of a subscription with the name
pub record AreNamed (numbers : List ℕ → Option ℕ) (names : ℕ → Option (List ℕ)) : Type 0 where
  pub each : (sub : ℕ) (name : List ℕ) → names sub ≡ Some name → numbers name ≡ Some sub
  pub only : (sub : ℕ) (name : List ℕ) → numbers name ≡ Some sub → names sub ≡ Some name

-- no subscription has less room reserved than before
abbrev pub KeepsSpare : List (ℕ × Subscription) → List (ℕ × Subscription) → Type 0
KeepsSpare old new = (sub : ℕ) → Related (λ s t. s.stream.spare ≤ t.stream.spare) (at_key sub old) (at_key sub new)
