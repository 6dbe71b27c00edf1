-- Subscriptions that no rule tells apart: what becomes of a record is the same for each of them. All of this is this project's own rule.
use Rattle.std.specs.Prelude.{◌≡◌, ℕ, Bool, false, List, [], ◌∷◌, Option, Some, None, slice_get}
use Rattle.std.specs.List.{list_any, AllByRecursion}
use Rattle.std.specs.Str.{bytes_eq}
use Rattle.policy_text.specs.declared.rule.Rule.{Rule}
use Rattle.policy_judge.specs.Laws.{concerns}
use Rattle.mediator_tables.specs.declared.served.Served.{Served}

-- of whom a rule speaks, this is the one
abbrev pub is_who : List ℕ → Option (List ℕ) → Bool
is_who name None = false
is_who name (Some other) = bytes_eq name other

-- a rule names this subscriber
abbrev pub is_told_apart : List ℕ → List Rule → Bool
is_told_apart name rules = list_any (λ rule. is_who name rule.who) rules

-- each rule speaks of both subscribers, or of neither
pub record AreJudgedAlike (rules : List Rule) (a b : List ℕ) : Type 0 where
  pub each : AllByRecursion (λ rule. concerns a rule ≡ concerns b rule) rules

-- the one at this place among those for whom records are judged is judged as this one is
pub record IsLed (rules : List Rule) (leaders : List Served) (who : Served) (place : ℕ) : Type 0 where
  pub leader : Served
  pub there : slice_get leaders place ≡ Some leader
  pub alike : AreJudgedAlike rules leader.name.now who.name.now

-- for each that is served, a place
abbrev pub AreLed : List Rule → List Served → List Served → List ℕ → Type 0
AreLed rules leaders [] [] = Unit {0}
AreLed rules leaders [] (place ∷ places) = ⊥
AreLed rules leaders (who ∷ served) [] = ⊥
AreLed rules leaders (who ∷ served) (place ∷ places) = IsLed rules leaders who place × AreLed rules leaders served places

-- the leader at this place is one that no rule names
pub record LeadsUnnamed (rules : List Rule) (leaders : List Served) (place : ℕ) : Type 0 where
  pub leader : Served
  pub there : slice_get leaders place ≡ Some leader
  pub unnamed : is_told_apart leader.name.now rules ≡ false

-- those that are served have a leader each, and at this place stands the one of those that no rule names, if there is one
pub record IsGrouping (rules : List Rule) (leaders : List Served) (unnamed : Option ℕ) (served : List Served) (places : List ℕ) : Type 0 where
  pub led : AreLed rules leaders served places
  pub first : (place : ℕ) → unnamed ≡ Some place → LeadsUnnamed rules leaders place
