-- Subscriptions that are cut one after another.
use Rattle.std.proofs.Common.{◌≡◌, ℕ, ◌+◌, ◌≤◌, ◌<◌, Bool, true, false, cond, List, [], ◌∷◌, ◌++◌, length, take, Option, Some, None, refl, sym, ap, ◌∙◌, subst, arith, append-nil, length-append}
use Rattle.std.specs.Prelude.{◌==◌, ◌||◌, get_or, if◌then◌else◌}
use Rattle.std.specs.Option.{option_map}
use Rattle.std.proofs.lemmas.Bool.{eqb-true, eqb-false, eq-eqb, ne_eqb}
use Rattle.std.proofs.lemmas.List.{take_more, length-take-le}
use Rattle.event_journal.specs.declared.entry.Entry.{Entry}
use Rattle.event_journal.specs.declared.entry.Entry.TheVariants.{Cut}
use Rattle.mediator_history.specs.Numbers.{is_in}
use Rattle.mediator_history.specs.Cuts.{after_cuts}
use Rattle.mediator_history.proofs.ListFilters.{is_in-append}
use Rattle.mediator_history.proofs.CutLaws.{after_cuts-push, length-cuts}
use Rattle.flow_aggregate.specs.Running.{HeldGroups, nothing_held}
use Rattle.mediator_tables.specs.GroupTable.{held_at}
use Rattle.mediator_tables.specs.declared.subscription.Subscription.{Subscription}
use Rattle.mediator_tables.specs.SubscriptionTable.{at, cut_off}
use Rattle.mediator_state.specs.declared.engine.Engine.{Engine}
use Rattle.mediator_state.specs.Standing.{Stands}
use Rattle.disclosure_audit.specs.Queue.{most_notes}
use Rattle.mediator_state.specs.Steps.{HasAuditRoom, KeepsRest, IsCutOnce, CutsInARow}

-- the first `done` of the numbers are cut
pub record IsCutting {Q : Type 0} (old now : Engine Q) (position all done : ℕ) (numbers : List ℕ) : Type 0 where
  pub within : done ≤ all
  pub stands : (h : List Entry) → Stands old h → length h ≡ position → Stands now (after_cuts h (take done numbers))
  pub row : CutsInARow (take done numbers) old now
  pub room : HasAuditRoom old.audit all
  pub notes : most_notes now.audit ≡ most_notes old.audit

rest_once : {Q : Type 0} (a b c : Engine Q) → KeepsRest a b → KeepsRest b c → KeepsRest a c
rest_once a b c f g = record {
  in_force = g.in_force ∙ f.in_force;
  edits = g.edits ∙ f.edits;
  opened = g.opened ∙ f.opened;
  begun = g.begun ∙ f.begun;
  sessions = g.sessions ∙ f.sessions;
  limits = g.limits ∙ f.limits;
  audit_limit = g.audit_limit ∙ f.audit_limit;
  drained = g.drained ∙ f.drained;
}

-- no number is among none
pub none_cut : {Q : Type 0} (e : Engine Q) (position : ℕ) (numbers : List ℕ) → HasAuditRoom e.audit (length numbers) → IsCutting e e position (length numbers) 0 numbers
none_cut e position numbers room = record {
  within = omega arith;
  stands = λ h so is. subst (Stands e) (sym (append-nil h)) so;
  row = record {
    rest = record { in_force = refl; edits = refl; opened = refl; begun = refl; sessions = refl; limits = refl; audit_limit = refl; drained = refl };
    table = λ q. refl;
    groups = λ q. refl;
    places = refl;
    entries = omega arith;
    spare = omega arith;
  };
  room = room;
  notes = refl;
}

cut_again : (q number : ℕ) (numbers : List ℕ) (s : Option Subscription) → (if q == number then option_map cut_off (if is_in q numbers then option_map cut_off s else s) else (if is_in q numbers then option_map cut_off s else s))
    ≡ (if is_in q (numbers ++ number ∷ []) then option_map cut_off s else s)
cut_again q number numbers s = by_tests (is_in q numbers) (q == number) refl ∙ ap (λ (b : Bool). cond b (option_map cut_off s) s) (sym (is_in-append q numbers (number ∷ [])))
  where
    flipped : (same : Bool) → (q == number) ≡ same → (number == q) ≡ same
    flipped true is = eq-eqb number q (sym (eqb-true q number is))
    flipped false is = ne_eqb number q (λ e. eqb-false q number is (sym e))

    twice : (o : Option Subscription) → option_map cut_off (option_map cut_off o) ≡ option_map cut_off o
    twice None = refl
    twice (Some x) = refl

    by_tests : (in' same : Bool) → (q == number) ≡ same → cond same (option_map cut_off (cond in' (option_map cut_off s) s)) (cond in' (option_map cut_off s) s) ≡ cond (in' || (number == q || false)) (option_map cut_off s) s
    by_tests true true is = twice s
    by_tests true false is = refl
    by_tests false true is = ap (λ (b : Bool). cond (b || false) (option_map cut_off s) s) (sym (flipped true is))
    by_tests false false is = ap (λ (b : Bool). cond (b || false) (option_map cut_off s) s) (sym (flipped false is))

gone_again : (q number : ℕ) (numbers : List ℕ) (s : HeldGroups) → (if q == number then nothing_held else (if is_in q numbers then nothing_held else s)) ≡ (if is_in q (numbers ++ number ∷ []) then nothing_held else s)
gone_again q number numbers s = by_tests (is_in q numbers) (q == number) refl ∙ ap (λ (b : Bool). cond b nothing_held s) (sym (is_in-append q numbers (number ∷ [])))
  where
    by_tests : (in' same : Bool) → (q == number) ≡ same → cond same nothing_held (cond in' nothing_held s) ≡ cond (in' || (number == q || false)) nothing_held s
    by_tests true true is = refl
    by_tests true false is = refl
    by_tests false true is = ap (λ (b : Bool). cond (b || false) nothing_held s) (sym (eq-eqb number q (sym (eqb-true q number is))))
    by_tests false false is = ap (λ (b : Bool). cond (b || false) nothing_held s) (sym (ne_eqb number q (λ e. eqb-false q number is (sym e))))

-- one more
pub one_cut : {Q : Type 0} (old now new : Engine Q) (position done number : ℕ) (numbers : List ℕ) → IsCutting old now position (length numbers) done numbers → done < length numbers → number ≡ get_or numbers done number
    → ((h : List Entry) → Stands now h → length h ≡ position + done → Stands new (h ++ Cut number ∷ [])) → IsCutOnce number now new → most_notes new.audit ≡ most_notes now.audit → IsCutting old new position (length numbers) (done + 1) numbers
one_cut old now new position done number numbers so within is stands once noting =
    let more : take (done + 1) numbers ≡ take done numbers ++ number ∷ [] = take_more numbers done number within ∙ ap (λ n. take done numbers ++ n ∷ []) (sym is) in
    let long : length (take done numbers) ≡ done = length-take-le done numbers (omega (arith, within)) in
    record {
      within = omega (arith, within);
      stands = λ h at counted. subst (λ ns. Stands new (after_cuts h ns)) (sym more)
          (subst (Stands new) (sym (after_cuts-push h (take done numbers) number)) (stands (after_cuts h (take done numbers)) (so.stands h at counted) (length-cuts h (take done numbers) ∙ omega (arith, counted, long))));
      row = subst (λ ns. CutsInARow ns old new) (sym more) (record {
        rest = rest_once old now new so.row.rest once.rest;
        table = λ q. once.table q ∙ ap (λ (s : Option Subscription). if q == number then option_map cut_off s else s) (so.row.table q) ∙ cut_again q number (take done numbers) (at old.subscriptions q);
        groups = λ q. once.groups q ∙ ap (λ (s : HeldGroups). if q == number then nothing_held else s) (so.row.groups q) ∙ gone_again q number (take done numbers) (held_at old.groups q);
        places = once.places ∙ so.row.places;
        entries = omega (arith, once.entries, so.row.entries, length-append (take done numbers) (number ∷ []));
        spare = omega (arith, once.spare, so.row.spare, length-append (take done numbers) (number ∷ []));
      });
      room = so.room;
      notes = noting ∙ so.notes;
    }

-- there is room for one more
pub room_left : {Q : Type 0} (old now : Engine Q) (position done : ℕ) (numbers : List ℕ) → IsCutting old now position (length numbers) done numbers → done < length numbers → HasAuditRoom now.audit 1
room_left old now position done numbers so within =
    let long : length (take done numbers) ≡ done = length-take-le done numbers (omega (arith, within)) in
    record {
      room = omega (arith, so.row.entries, so.row.rest.audit_limit, so.room.room, long, within);
      reserved = omega (arith, so.row.spare, so.room.reserved, long, within);
      count = omega (arith, so.row.entries, so.row.rest.drained, so.room.count, long, within);
    }
