-- An engine that advances the clock stands for the history with the advance.
use Rattle.std.proofs.Common.{◌≡◌, ℕ, ◌≤◌, false, List, [], ◌∷◌, ◌++◌, length, Option, Some, None, refl, sym, ap, ◌∙◌, subst, arith, append-nil}
use Rattle.std.specs.Prelude.{not}
use Rattle.std.specs.List.{flat_map, AllByRecursion}
use Rattle.sequences.proofs.BeforeLaws.{last_of-push}
use Rattle.ipfix_template.specs.DataRecord.{DataRecord}
use Rattle.ipfix_session.specs.Keeping.{at_key}
use Rattle.policy_text.specs.Policies.{nothing as no_policy}
use Rattle.subscriber_stream.specs.declared.limits.StreamLimits.{StreamLimits}
use Rattle.subscriber_stream.specs.Standing.{StandsAt}
use Rattle.flow_aggregate.specs.Groups.{Sample}
use Rattle.flow_aggregate.specs.Running.{staying, SumsStand as StandsForRecords}
use Rattle.flow_aggregate.specs.Closing.{closed_by}
use Rattle.disclosure_audit.specs.Queue.{StandsIn}
use Rattle.event_journal.specs.declared.entry.Entry.{Entry}
use Rattle.event_journal.specs.declared.entry.Entry.TheVariants.{Advance}
use Rattle.mediator_history.specs.Numbers.{AreDistinct}
use Rattle.mediator_history.specs.Sessions.{opens, is_open, opened_in, sessions_opened}
use Rattle.mediator_history.specs.Subscriptions.{policy_from, texts_in, named, name_of, begins, is_live, switched, is_served, subscribed_in, subscriptions_begun}
use Rattle.mediator_history.specs.Counting.{clock_in, clock_of, running}
use Rattle.mediator_history.specs.Disclosed.{given_at, disclosed}
use Rattle.mediator_history.specs.Auditing.{audit_list}
use Rattle.mediator_history.proofs.HistoryLaws.{disclosed-push}
use Rattle.mediator_history.proofs.EntryLaws.{served_same, messages_same, audit_same}
use Rattle.mediator_history.proofs.CountingLaws.{counted_same, running_unserved, running-advance}
use Rattle.mediator_tables.specs.declared.open_session.OpenSession.{OpenSession}
use Rattle.mediator_tables.specs.declared.subscription.Subscription.{Subscription}
use Rattle.mediator_tables.specs.SubscriptionTable.{at, Related, TakesGiven, given_to}
use Rattle.mediator_shares.specs.InForce.{InForce, in_force_with}
use Rattle.mediator_tables.specs.GroupTable.{groups_at}
use Rattle.mediator_state.specs.declared.engine.Engine.{Engine}
use Rattle.mediator_state.specs.Ascending.{Ascend}
use Rattle.mediator_tables.specs.Sessions.{IsSession}
use Rattle.mediator_state.specs.Standing.{Stands, place, IsLiveAs, AreNumbered, AreEngineLimits}
use Rattle.mediator_state.specs.Seen.{place_in, handed_place}
use Rattle.mediator_state.specs.Advancing.{AreClosings}
use Rattle.mediator_state.proofs.CutSteps.{no_entry, session_stays, unopened_stays, unbegun_stays}
use Rattle.mediator_state.proofs.MessageSteps.{GivesServedOnly, given_is, small_given}

-- ---- an advance opens, closes, begins and ends nothing

is_open-advance : (session : ℕ) (h : List Entry) (t : ℕ) → is_open session (h ++ Advance t ∷ []) ≡ is_open session h
is_open-advance session h t = last_of-push (opens session) false h (Advance t)

is_live-advance : (sub : ℕ) (h : List Entry) (t : ℕ) → is_live sub (h ++ Advance t ∷ []) ≡ is_live sub h
is_live-advance sub h t = last_of-push (begins sub) false h (Advance t)

is_served-advance : (sub : ℕ) (h : List Entry) (t : ℕ) → is_served sub (h ++ Advance t ∷ []) ≡ is_served sub h
is_served-advance sub h t = last_of-push (switched sub) false h (Advance t)

name-advance : (sub : ℕ) (h : List Entry) (t : ℕ) → name_of sub (h ++ Advance t ∷ []) ≡ name_of sub h
name-advance sub h t = last_of-push (named sub) [] h (Advance t)

subscribed-advance : (h : List Entry) (t : ℕ) → flat_map subscribed_in (h ++ Advance t ∷ []) ≡ flat_map subscribed_in h
subscribed-advance h t = no_entry subscribed_in h (Advance t) refl

-- it closes nothing where nothing runs
nothing_closed : (t : ℕ) → closed_by t [] ≡ []
unfolding closed_by
nothing_closed t = refl

pub closes_served_only : (h : List Entry) (t : ℕ) → GivesServedOnly h (Advance t)
closes_served_only h t sub off = ap (closed_by t) (running_unserved sub h off) ∙ nothing_closed t

-- ---- subscriptions

live_advanced : (h : List Entry) (t : ℕ) (limits : StreamLimits) (sub : ℕ) (old new : Option Subscription)
    → Related (TakesGiven (given_at sub h (Advance t))) old new → IsLiveAs h limits sub old → IsLiveAs (h ++ Advance t ∷ []) limits sub new
live_advanced h t limits sub None None takes so = is_live-advance sub h t ∙ so
live_advanced h t limits sub None (Some y) takes so = absurd takes
live_advanced h t limits sub (Some s) None takes so = absurd takes
live_advanced h t limits sub (Some s) (Some y) takes so =
    let stands = takes.takes.stands (disclosed sub h) (place s.stream.standing) so.stream in
    let moved : place y.stream.standing ≡ place s.stream.standing = stands.place in
    record {
      live = is_live-advance sub h t ∙ so.live;
      name = takes.name ∙ so.name ∙ sym (name-advance sub h t);
      cut = takes.is_cut ∙ so.cut ∙ sym (ap not (is_served-advance sub h t));
      stream = subst (λ l. StandsAt y.stream.standing l (place y.stream.standing)) (sym (disclosed-push sub h (Advance t)))
          (subst (λ p. StandsAt y.stream.standing (disclosed sub h ++ given_at sub h (Advance t)) p) (sym moved) stands);
      limits_are = takes.limits ∙ so.limits_are;
    }

-- ---- numbers

numbered_advance : (h : List Entry) (t : ℕ) → AreNumbered h → AreNumbered (h ++ Advance t ∷ [])
numbered_advance h t so =
    let opened : sessions_opened (h ++ Advance t ∷ []) ≡ sessions_opened h = ap (λ (ns : List ℕ). length ns) (no_entry opened_in h (Advance t) refl) in
    let begun : subscriptions_begun (h ++ Advance t ∷ []) ≡ subscriptions_begun h = ap (λ (ns : List ℕ). length ns) (subscribed-advance h t) in
    record {
      sessions = λ id above. unopened_stays h (h ++ Advance t ∷ []) id (is_open-advance id h t) (messages_same id h (Advance t) refl) (so.sessions id (omega (arith, above, opened)));
      subscriptions = λ sub above.
          let before = so.subscriptions sub (omega (arith, above, begun)) in
          unbegun_stays h (h ++ Advance t ∷ []) sub (is_live-advance sub h t) (λ off. is_served-advance sub h t ∙ off)
          (disclosed-push sub h (Advance t) ∙ ap (λ (l : List DataRecord). disclosed sub h ++ l) (closes_served_only h t sub before.unserved) ∙ append-nil (disclosed sub h))
          (counted_same sub h (Advance t) refl) before;
      distinct = subst AreDistinct (sym (subscribed-advance h t)) so.distinct;
      ascending = subst Ascend (sym (subscribed-advance h t)) so.ascending;
      within = subst (λ (ns : List ℕ). AllByRecursion (λ sub. sub ≤ length ns) ns) (sym (subscribed-advance h t)) so.within;
    }

-- ---- the step

-- the streams take their shares, the groups that are due are closed, and the clock is advanced
pub record Closes {Q : Type 0} (d e : Engine Q) (t : ℕ) (shares : List (ℕ × List DataRecord)) : Type 0 where
  pub in_force : e.in_force ≡ in_force_with d.in_force.policy t
  pub edits : e.edits ≡ d.edits
  pub opened : e.opened ≡ d.opened
  pub begun : e.begun ≡ d.begun
  pub sessions : e.sessions ≡ d.sessions
  pub limits : e.limits ≡ d.limits
  pub each : (sub : ℕ) → Related (TakesGiven (given_to sub shares)) (at d.subscriptions sub) (at e.subscriptions sub)
  pub served : e.subscriptions.served ≡ d.subscriptions.served
  pub stays : (q : ℕ) (counted : List Sample) → StandsForRecords (groups_at d.groups q) counted → StandsForRecords (groups_at e.groups q) (staying t counted)
  pub audit : e.audit ≡ d.audit

pub advance_step : {Q : Type 0} (d e : Engine Q) (h : List Entry) (t : ℕ) (shares : List (ℕ × List DataRecord)) → Stands d h → clock_of h ≤ t → AreClosings d h t shares → Closes d e t shares → Stands e (h ++ Advance t ∷ [])
advance_step d e h t shares so ahead is did = record {
  policy = ap (λ (f : InForce). f.policy) did.in_force ∙ so.policy ∙ sym (last_of-push policy_from no_policy h (Advance t));
  clock = ap (λ (f : InForce). f.clock) did.in_force ∙ sym (last_of-push clock_in 0 h (Advance t));
  edits = did.edits ∙ so.edits ∙ sym (ap (λ (ts : List (List ℕ)). length ts) (no_entry texts_in h (Advance t) refl));
  opened = did.opened ∙ so.opened ∙ sym (ap (λ (ns : List ℕ). length ns) (no_entry opened_in h (Advance t) refl));
  begun = did.begun ∙ so.begun ∙ sym (ap (λ (ns : List ℕ). length ns) (subscribed-advance h t));
  sessions = λ session. session_stays h (h ++ Advance t ∷ []) session (is_open-advance session h t) (messages_same session h (Advance t) refl) (at_key session e.sessions)
      (subst (λ (ss : List (ℕ × OpenSession)). IsSession h session (at_key session ss)) (sym did.sessions) (so.sessions session));
  subscriptions = λ sub. subst (λ limits. IsLiveAs (h ++ Advance t ∷ []) limits sub (at e.subscriptions sub)) (sym did.limits)
      (live_advanced h t d.limits sub (at d.subscriptions sub) (at e.subscriptions sub) (subst (λ l. Related (TakesGiven l) (at d.subscriptions sub) (at e.subscriptions sub)) (gives sub) (did.each sub)) (so.subscriptions sub));
  served_are = did.served ∙ so.served_are ∙ sym (served_same h (Advance t) (λ sub. refl) refl);
  groups = λ sub. subst (StandsForRecords (groups_at e.groups sub)) (sym (running-advance sub h t ahead)) (did.stays sub (running sub h) (so.groups sub));
  audit = subst (λ a. StandsIn a.standing (audit_list (h ++ Advance t ∷ []))) (sym did.audit) (subst (StandsIn d.audit.standing) (sym (audit_same h (Advance t) refl)) so.audit);
  limits = subst AreEngineLimits (sym did.limits) so.limits;
  numbered = numbered_advance h t so.numbered;
  small = small_given d h (Advance t) shares so (closes_served_only h t) (omega arith) is.shares_are is.room is.streamable;
}
  where
    gives : (sub : ℕ) → given_to sub shares ≡ given_at sub h (Advance t)
    gives sub = ap (given_to sub) is.shares_are ∙ given_is h (Advance t) sub so.numbered (closes_served_only h t)

-- the places stay
pub places_closed : {Q : Type 0} (d e : Engine Q) (h : List Entry) (shares : List (ℕ × List DataRecord)) → Stands d h → ((sub : ℕ) → Related (TakesGiven (given_to sub shares)) (at d.subscriptions sub) (at e.subscriptions sub)) → (sub : ℕ) → handed_place e sub ≡ handed_place d sub
places_closed d e h shares so each sub = at_one (given_to sub shares) (at d.subscriptions sub) (at e.subscriptions sub) (each sub) (so.subscriptions sub) where
  at_one : (more : List DataRecord) (old new : Option Subscription) → Related (TakesGiven more) old new → IsLiveAs h d.limits sub old → place_in new ≡ place_in old
  at_one more None None takes is = refl
  at_one more None (Some y) takes is = absurd takes
  at_one more (Some s) None takes is = absurd takes
  at_one more (Some s) (Some y) takes is = (takes.takes.stands (disclosed sub h) (place s.stream.standing) is.stream).place
