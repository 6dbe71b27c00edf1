-- What an entry leaves of the clock and of running groups; and what is added to groups, one subscription after another.
use Rattle.std.proofs.Common.{◌≡◌, ◌≢◌, ℕ, Bool, true, false, cond, List, [], ◌∷◌, ◌++◌, Option, None, refl, sym, ap, ◌∙◌, subst}
use Rattle.std.specs.Prelude.{unwrap_or, ◌==◌, if◌then◌else◌}
use Rattle.std.proofs.lemmas.Bool.{eqb-true, eqb-false}
use Rattle.sequences.proofs.BeforeLaws.{last_of-push}
use Rattle.flow_aggregate.specs.Running.{Entries, HeldGroups, nothing_held, SumsStand}
use Rattle.event_journal.specs.declared.entry.Entry.{Entry}
use Rattle.mediator_history.specs.Counting.{clock_in, clock_of, running}
use Rattle.mediator_shares.specs.InForce.{InForce}
use Rattle.mediator_tables.specs.GroupTable.{held_at, groups_at}
use Rattle.mediator_state.specs.declared.engine.Engine.{Engine}
use Rattle.mediator_state.specs.Standing.{Stands}

-- ---- the clock

pub clock_stays : (h : List Entry) (x : Entry) → clock_in x ≡ None → clock_of (h ++ x ∷ []) ≡ clock_of h
clock_stays h x none = last_of-push clock_in 0 h x ∙ ap (λ (o : Option ℕ). unwrap_or o (clock_of h)) none

pub clock_kept : {Q : Type 0} (d e : Engine Q) (h : List Entry) (x : Entry) → Stands d h → e.in_force ≡ d.in_force → clock_in x ≡ None → e.in_force.clock ≡ clock_of (h ++ x ∷ [])
clock_kept d e h x so same none = ap (λ (f : InForce). f.clock) same ∙ so.clock ∙ sym (clock_stays h x none)

-- ---- running groups

pub none_stand : SumsStand [] []
none_stand g = refl

-- an entry that changes nothing of what runs
pub groups_kept : {Q : Type 0} (d e : Engine Q) (h : List Entry) (x : Entry) → Stands d h → e.groups ≡ d.groups → ((sub : ℕ) → running sub (h ++ x ∷ []) ≡ running sub h)
    → (sub : ℕ) → SumsStand (groups_at e.groups sub) (running sub (h ++ x ∷ []))
groups_kept d e h x so same still sub =
    subst (λ (t : List (ℕ × HeldGroups)). SumsStand (groups_at t sub) (running sub (h ++ x ∷ []))) (sym same)
    (subst (SumsStand (groups_at d.groups sub)) (sym (still sub)) (so.groups sub))

-- one that ends what runs for one subscription
pub groups_ended : {Q : Type 0} (d e : Engine Q) (h : List Entry) (x : Entry) (n : ℕ) → Stands d h → groups_at e.groups n ≡ [] → ((q : ℕ) → q ≢ n → groups_at e.groups q ≡ groups_at d.groups q)
    → running n (h ++ x ∷ []) ≡ [] → ((q : ℕ) → q ≢ n → running q (h ++ x ∷ []) ≡ running q h)
    → (sub : ℕ) → SumsStand (groups_at e.groups sub) (running sub (h ++ x ∷ []))
groups_ended d e h x n so gone others ended still sub = by_number (sub == n) refl where
  here : SumsStand (groups_at e.groups n) (running n (h ++ x ∷ []))
  here = subst (λ (es : Entries). SumsStand es (running n (h ++ x ∷ []))) (sym gone) (subst (SumsStand []) (sym ended) none_stand)

  by_number : (same : Bool) → (sub == n) ≡ same → SumsStand (groups_at e.groups sub) (running sub (h ++ x ∷ []))
  by_number true is = subst (λ (q : ℕ). SumsStand (groups_at e.groups q) (running q (h ++ x ∷ []))) (sym (eqb-true sub n is)) here
  by_number false is =
      let apart : sub ≢ n = eqb-false sub n is in
      subst (λ (es : Entries). SumsStand es (running sub (h ++ x ∷ []))) (sym (others sub apart)) (subst (SumsStand (groups_at d.groups sub)) (sym (still sub apart)) (so.groups sub))

-- the same table, one of whose numbers is taken out
pub removed_at : (old new : List (ℕ × HeldGroups)) (n : ℕ) → held_at new n ≡ nothing_held → ((q : ℕ) → q ≢ n → held_at new q ≡ held_at old q)
    → (q : ℕ) → held_at new q ≡ (if q == n then nothing_held else held_at old q)
removed_at old new n gone others q = by_number (q == n) refl where
  by_number : (same : Bool) → (q == n) ≡ same → held_at new q ≡ cond same nothing_held (held_at old q)
  by_number true is = ap (held_at new) (eqb-true q n is) ∙ gone
  by_number false is = others q (eqb-false q n is)
