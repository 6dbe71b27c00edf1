-- An engine that cuts a subscription stands for the history with the cut.
use Rattle.std.proofs.Common.{◌≡◌, ℕ, ◌≤◌, Bool, true, false, cond, List, [], ◌∷◌, ◌++◌, length, Option, Some, None, refl, sym, ap, ◌∙◌, subst, arith, append-nil, length-append}
use Rattle.std.specs.Prelude.{◌≢◌, not, ◌==◌, filter, unwrap_or, if◌then◌else◌}
use Rattle.std.specs.Option.{option_map}
use Rattle.std.specs.List.{flat_map, AllByRecursion}
use Rattle.std.proofs.lemmas.Bool.{eqb-true, eqb-false, eq-eqb, ne_eqb}
use Rattle.sequences.proofs.BeforeLaws.{last_of-push}
use Rattle.ipfix_session.specs.Keeping.{at_key}
use Rattle.ipfix_session.specs.Standing.{StandsFor}
use Rattle.policy_text.specs.Policies.{nothing as no_policy}
use Rattle.subscriber_stream.specs.declared.limits.StreamLimits.{StreamLimits}
use Rattle.subscriber_stream.specs.Standing.{StandsAt}
use Rattle.stream_meaning.specs.Served.{AreStreamable}
use Rattle.disclosure_audit.specs.Queue.{StandsIn, TakesEntries}
use Rattle.ipfix_template.specs.DataRecord.{DataRecord}
use Rattle.disclosure_audit.specs.declared.entry.AuditEntry.{AuditEntry}
use Rattle.disclosure_audit.specs.declared.entry.What.TheVariants.{Cut as CutOff}
use Rattle.event_journal.specs.declared.entry.Entry.{Entry}
use Rattle.event_journal.specs.declared.entry.Entry.TheVariants.{Cut}
use Rattle.mediator_history.specs.Numbers.{AreDistinct}
use Rattle.mediator_history.specs.Sessions.{opens, is_open, opened_in, sessions_opened, messages_of}
use Rattle.mediator_history.specs.Subscriptions.{policy_from, texts_in, named, name_of, begins, is_live, switched, is_served, subscribed_in, subscriptions_begun, served}
use Rattle.mediator_history.specs.Counting.{counted}
use Rattle.mediator_history.specs.Disclosed.{disclosed}
use Rattle.mediator_history.specs.Auditing.{audit_at, audit_list, audit_entry}
use Rattle.mediator_history.proofs.HistoryLaws.{flat_map-push, audit-push}
use Rattle.mediator_history.proofs.CountingLaws.{counted_same, running-cut, running_cut}
use Rattle.mediator_history.proofs.EntryLaws.{served-cut, messages_same, given_same}
use Rattle.mediator_tables.specs.declared.open_session.OpenSession.{OpenSession}
use Rattle.mediator_tables.specs.declared.subscription.Subscription.{Subscription}
use Rattle.mediator_tables.specs.SubscriptionTable.{at, cut_off}
use Rattle.mediator_shares.specs.InForce.{InForce}
use Rattle.mediator_tables.specs.GroupTable.{groups_at}
use Rattle.mediator_state.specs.declared.engine.Engine.{Engine}
use Rattle.mediator_state.specs.Ascending.{Ascend}
use Rattle.mediator_tables.specs.Sessions.{IsSession, IsUnopened}
use Rattle.mediator_state.specs.Standing.{Stands, place, IsLiveAs, IsUnbegun, AreNumbered, IsSmall, AreEngineLimits}
use Rattle.mediator_state.specs.Steps.{KeepsRest}
use Rattle.mediator_state.proofs.GroupLaws.{clock_kept, groups_ended}

-- ---- what stays of a session, and of the numbers, where what decides it stays

pub session_stays : (h g : List Entry) (session : ℕ) → is_open session g ≡ is_open session h → messages_of session g ≡ messages_of session h → (o : Option OpenSession) → IsSession h session o → IsSession g session o
session_stays h g session opened messages None so = opened ∙ so
session_stays h g session opened messages (Some o) so = (opened ∙ so.0, so.1 ∙ ap (λ (ms : List (List ℕ)). length ms) (sym messages), subst (λ ms. StandsFor o.session ms) (sym messages) so.2)

pub unopened_stays : (h g : List Entry) (session : ℕ) → is_open session g ≡ is_open session h → messages_of session g ≡ messages_of session h → IsUnopened h session → IsUnopened g session
unopened_stays h g session opened messages so = record { closed = opened ∙ so.closed; silent = messages ∙ so.silent }

pub unbegun_stays : (h g : List Entry) (sub : ℕ) → is_live sub g ≡ is_live sub h → (is_served sub h ≡ false → is_served sub g ≡ false) → disclosed sub g ≡ disclosed sub h → counted sub g ≡ counted sub h → IsUnbegun h sub → IsUnbegun g sub
unbegun_stays h g sub live unserved listed counts so = record { gone = live ∙ so.gone; unserved = unserved so.unserved; nothing = listed ∙ so.nothing; uncounted = counts ∙ so.uncounted }

-- ---- a cut

pub no_entry : {A : Type 0} (f : Entry → List A) (h : List Entry) (e : Entry) → f e ≡ [] → flat_map f (h ++ e ∷ []) ≡ flat_map f h
no_entry {A} f h e none = flat_map-push f h e ∙ ap (λ (t : List A). flat_map f h ++ t) none ∙ append-nil (flat_map f h)

is_open-cut : (session : ℕ) (h : List Entry) (number : ℕ) → is_open session (h ++ Cut number ∷ []) ≡ is_open session h
is_open-cut session h number = last_of-push (opens session) false h (Cut number)

is_live-cut : (sub : ℕ) (h : List Entry) (number : ℕ) → is_live sub (h ++ Cut number ∷ []) ≡ is_live sub h
is_live-cut sub h number = last_of-push (begins sub) false h (Cut number)

name-cut : (sub : ℕ) (h : List Entry) (number : ℕ) → name_of sub (h ++ Cut number ∷ []) ≡ name_of sub h
name-cut sub h number = last_of-push (named sub) [] h (Cut number)

messages-cut : (session : ℕ) (h : List Entry) (number : ℕ) → messages_of session (h ++ Cut number ∷ []) ≡ messages_of session h
messages-cut session h number = messages_same session h (Cut number) refl

disclosed-cut : (sub : ℕ) (h : List Entry) (number : ℕ) → disclosed sub (h ++ Cut number ∷ []) ≡ disclosed sub h
disclosed-cut sub h number = given_same sub h (Cut number) refl

is_served-cut : (sub : ℕ) (h : List Entry) (number : ℕ) → is_served sub (h ++ Cut number ∷ []) ≡ unwrap_or (switched sub (Cut number)) (is_served sub h)
is_served-cut sub h number = last_of-push (switched sub) false h (Cut number)

-- the one that is cut is served no more
served_here : (sub : ℕ) (h : List Entry) (number : ℕ) → (sub == number) ≡ true → is_served sub (h ++ Cut number ∷ []) ≡ false
served_here sub h number same = is_served-cut sub h number ∙ ap (λ (b : Bool). unwrap_or (cond b (Some false) None) (is_served sub h)) (eq-eqb number sub (sym (eqb-true sub number same)))

-- each other as before
served_there : (sub : ℕ) (h : List Entry) (number : ℕ) → (sub == number) ≡ false → is_served sub (h ++ Cut number ∷ []) ≡ is_served sub h
served_there sub h number other = is_served-cut sub h number ∙ ap (λ (b : Bool). unwrap_or (cond b (Some false) None) (is_served sub h)) (ne_eqb number sub (λ same. eqb-false sub number other (sym same)))

unserved_cut : (sub : ℕ) (h : List Entry) (number : ℕ) → is_served sub h ≡ false → is_served sub (h ++ Cut number ∷ []) ≡ false
unserved_cut sub h number off = by_number (sub == number) refl where
  by_number : (same : Bool) → (sub == number) ≡ same → is_served sub (h ++ Cut number ∷ []) ≡ false
  by_number true is = served_here sub h number is
  by_number false is = served_there sub h number is ∙ off

-- what a cut leaves of a subscription in the table
live_cut : (h : List Entry) (limits : StreamLimits) (number sub : ℕ) (same : Bool) → (sub == number) ≡ same → (s : Option Subscription) → IsLiveAs h limits sub s
    → IsLiveAs (h ++ Cut number ∷ []) limits sub (cond same (option_map cut_off s) s)
live_cut h limits number sub true is None so = is_live-cut sub h number ∙ so
live_cut h limits number sub false is None so = is_live-cut sub h number ∙ so
live_cut h limits number sub true is (Some s) so = record {
  live = is_live-cut sub h number ∙ so.live;
  name = so.name ∙ sym (name-cut sub h number);
  cut = sym (ap not (served_here sub h number is));
  stream = subst (λ l. StandsAt s.stream.standing l (place s.stream.standing)) (sym (disclosed-cut sub h number)) so.stream;
  limits_are = so.limits_are;
}
live_cut h limits number sub false is (Some s) so = record {
  live = is_live-cut sub h number ∙ so.live;
  name = so.name ∙ sym (name-cut sub h number);
  cut = so.cut ∙ sym (ap not (served_there sub h number is));
  stream = subst (λ l. StandsAt s.stream.standing l (place s.stream.standing)) (sym (disclosed-cut sub h number)) so.stream;
  limits_are = so.limits_are;
}

opened-cut : (h : List Entry) (number : ℕ) → sessions_opened (h ++ Cut number ∷ []) ≡ sessions_opened h
opened-cut h number = ap (λ (ns : List ℕ). length ns) (no_entry opened_in h (Cut number) refl)

subscribed-cut : (h : List Entry) (number : ℕ) → flat_map subscribed_in (h ++ Cut number ∷ []) ≡ flat_map subscribed_in h
subscribed-cut h number = no_entry subscribed_in h (Cut number) refl

begun-cut : (h : List Entry) (number : ℕ) → subscriptions_begun (h ++ Cut number ∷ []) ≡ subscriptions_begun h
begun-cut h number = ap (λ (ns : List ℕ). length ns) (subscribed-cut h number)

numbered_cut : (h : List Entry) (number : ℕ) → AreNumbered h → AreNumbered (h ++ Cut number ∷ [])
numbered_cut h number so = record {
  sessions = λ session above. unopened_stays h (h ++ Cut number ∷ []) session (is_open-cut session h number) (messages-cut session h number) (so.sessions session (omega (arith, above, opened-cut h number)));
  subscriptions = λ sub above. unbegun_stays h (h ++ Cut number ∷ []) sub (is_live-cut sub h number) (unserved_cut sub h number) (disclosed-cut sub h number) (counted_same sub h (Cut number) refl) (so.subscriptions sub (omega (arith, above, begun-cut h number)));
  distinct = subst AreDistinct (sym (subscribed-cut h number)) so.distinct;
  ascending = subst Ascend (sym (subscribed-cut h number)) so.ascending;
  within = subst (λ (ns : List ℕ). AllByRecursion (λ sub. sub ≤ length ns) ns) (sym (subscribed-cut h number)) so.within;
}

small_cut : (h : List Entry) (number : ℕ) → IsSmall h → IsSmall (h ++ Cut number ∷ [])
small_cut h number so = record {
  listed = λ sub. omega (arith, so.listed sub, ap (λ (l : List DataRecord). length l) (disclosed-cut sub h number), length-append h (Cut number ∷ []));
  audited = omega (arith, so.audited, ap (λ (l : List AuditEntry). length l) (audit-push h (Cut number)), length-append (audit_list h) (audit_at h (Cut number)), length-append h (Cut number ∷ []));
  streamable = λ sub. subst AreStreamable (sym (disclosed-cut sub h number)) (so.streamable sub);
}

pub cut_step : {Q : Type 0} (d e : Engine Q) (h : List Entry) (number : ℕ) → Stands d h → KeepsRest d e
    → ((q : ℕ) → at e.subscriptions q ≡ (if q == number then option_map cut_off (at d.subscriptions q) else at d.subscriptions q))
    → e.subscriptions.served ≡ filter (λ q. not (q == number)) d.subscriptions.served
    → groups_at e.groups number ≡ [] → ((q : ℕ) → q ≢ number → groups_at e.groups q ≡ groups_at d.groups q)
    → TakesEntries d.audit.standing (audit_entry (length h) 0 number CutOff ∷ []) e.audit.standing
    → Stands e (h ++ Cut number ∷ [])
cut_step d e h number so rest table served no_groups other_groups takes = record {
  policy = ap (λ (f : InForce). f.policy) rest.in_force ∙ so.policy ∙ sym (last_of-push policy_from no_policy h (Cut number));
  clock = clock_kept d e h (Cut number) so rest.in_force refl;
  groups = groups_ended d e h (Cut number) number so no_groups other_groups (running_cut number h) (λ q other. running-cut q h number (λ e. other (sym e)));
  edits = rest.edits ∙ so.edits ∙ sym (ap (λ (ts : List (List ℕ)). length ts) (no_entry texts_in h (Cut number) refl));
  opened = rest.opened ∙ so.opened ∙ sym (opened-cut h number);
  begun = rest.begun ∙ so.begun ∙ sym (begun-cut h number);
  sessions = λ session. session_stays h (h ++ Cut number ∷ []) session (is_open-cut session h number) (messages-cut session h number) (at_key session e.sessions) (subst (λ ss. IsSession h session (at_key session ss)) (sym rest.sessions) (so.sessions session));
  subscriptions = λ sub. subst (λ limits. IsLiveAs (h ++ Cut number ∷ []) limits sub (at e.subscriptions sub)) (sym rest.limits)
      (subst (IsLiveAs (h ++ Cut number ∷ []) d.limits sub) (sym (table sub)) (live_cut h d.limits number sub (sub == number) refl (at d.subscriptions sub) (so.subscriptions sub)));
  served_are = served ∙ ap (filter (λ q. not (q == number))) so.served_are ∙ sym (served-cut h number);
  audit = subst (StandsIn e.audit.standing) (sym (audit-push h (Cut number))) (takes (audit_list h) so.audit);
  limits = subst AreEngineLimits (sym rest.limits) so.limits;
  numbered = numbered_cut h number so.numbered;
  small = small_cut h number so.small;
}
