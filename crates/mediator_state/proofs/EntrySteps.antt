-- An engine that stands for a history stands for one entry more, where its fields change as the entry says: an entry that
-- opens or closes a session, brings a policy, or begins or ends a subscription.
use Rattle.std.proofs.Common.{◌≡◌, ℕ, ◌+◌, ◌≤◌, ◌<◌, Bool, true, false, cond, List, [], ◌∷◌, ◌++◌, length, Option, Some, None, Ok, refl, sym, ap, ◌∙◌, subst, arith, append-nil}
use Rattle.std.specs.Prelude.{◌≢◌, not, ◌==◌, if◌then◌else◌, filter, unwrap_or, IsSomeAnd, IfSome, IfNone}
use Rattle.std.specs.List.{flat_map, AllByRecursion}
use Rattle.std.proofs.lemmas.Bool.{eqb-true, eqb-false, eq-eqb, ne_eqb}
use Rattle.std.proofs.lemmas.List.{length_push}
use Rattle.sequences.specs.Before.{last_of}
use Rattle.sequences.proofs.BeforeLaws.{last_of-push}
use Rattle.sequences.proofs.ListLaws.{AllByRecursion-append}
use Rattle.policy_text.specs.Policies.{PolicyMeaning as Policy, nothing as no_policy}
use Rattle.policy_text.specs.Parsing.{policy_of}
use Rattle.ipfix_session.specs.Keeping.{at_key}
use Rattle.ipfix_session.specs.Standing.{StandsFor}
use Rattle.subscriber_stream.specs.declared.limits.StreamLimits.{StreamLimits}
use Rattle.subscriber_stream.specs.Shapes.{shapes_of}
use Rattle.subscriber_stream.specs.Standing.{StandsAt, KeptStream}
use Rattle.stream_meaning.specs.Served.{AreStreamable}
use Rattle.disclosure_audit.specs.Queue.{StandsIn}
use Rattle.event_journal.specs.declared.entry.Entry.{Entry}
use Rattle.event_journal.specs.declared.entry.Entry.TheVariants.{Open, Close, Edit, Subscribe, Unsubscribe}
use Rattle.mediator_history.specs.Numbers.{AreDistinct}
use Rattle.mediator_history.specs.Sessions.{opens, is_open, opened_in, sessions_opened, message_in, messages_of}
use Rattle.mediator_history.specs.Subscriptions.{policy_or_none, policy_from, policy_in_force, texts_in, named, name_of, begins, is_live, switched, is_served, subscribed_in, subscriptions_begun}
use Rattle.mediator_history.specs.Counting.{counted_at, running}
use Rattle.mediator_history.specs.Disclosed.{given_at, disclosed}
use Rattle.mediator_history.specs.Auditing.{audit_at, audit_list}
use Rattle.mediator_history.proofs.HistoryLaws.{flat_map-push}
use Rattle.mediator_history.proofs.ListFilters.{distinct_push}
use Rattle.mediator_history.proofs.CountingLaws.{counted_same, running_unserved, running-open, running-close, running-edit, running-subscribe, running_begun, running-unsubscribe, running_ended}
use Rattle.mediator_history.proofs.EntryLaws.{edits_few, opened_few, subscribed_few, served_same, served-subscribe, served-unsubscribe, messages_same, given_same, audit_same}
use Rattle.mediator_tables.specs.declared.open_session.OpenSession.{OpenSession}
use Rattle.mediator_tables.specs.SessionTable.{IsFresh}
use Rattle.mediator_tables.specs.declared.subscription.Subscription.{Subscription}
use Rattle.mediator_tables.specs.SubscriptionTable.{SubscriptionRows, at}
use Rattle.flow_aggregate.specs.Running.{Entries, SumsStand as StandsForRecords}
use Rattle.mediator_shares.specs.InForce.{InForce, in_force_with}
use Rattle.mediator_tables.specs.GroupTable.{groups_at}
use Rattle.mediator_state.specs.declared.engine.Engine.{Engine}
use Rattle.mediator_state.proofs.GroupLaws.{clock_stays, clock_kept, none_stand, groups_kept, groups_ended}
use Rattle.mediator_state.specs.Ascending.{Ascend}
use Rattle.mediator_tables.specs.Sessions.{IsSession, IsUnopened}
use Rattle.mediator_state.specs.Standing.{place, IsSubscription, IsLiveAs, IsUnbegun, AreNumbered, IsSmall, AreEngineLimits, Stands, StandsSomewhere}
use Rattle.mediator_state.proofs.AscendLaws.{ascend_push, all_below}

-- ---- what stays where an entry has no word in it

last_stays : {B : Type 0} (f : Entry → Option B) (start : B) (h : List Entry) (x : Entry) → f x ≡ None → last_of f start (h ++ x ∷ []) ≡ last_of f start h
last_stays {B} f start h x none = last_of-push f start h x ∙ ap (λ (o : Option B). unwrap_or o (last_of f start h)) none

count_stays : {A : Type 0} (f : Entry → List A) (h : List Entry) (x : Entry) → f x ≡ [] → length (flat_map f (h ++ x ∷ [])) ≡ length (flat_map f h)
count_stays {A} f h x none = ap (λ (t : List A). length t) (flat_map-push f h x ∙ ap (λ (t : List A). flat_map f h ++ t) none ∙ append-nil (flat_map f h))

count_more : {A : Type 0} (f : Entry → List A) (h : List Entry) (x : Entry) (one : A) → f x ≡ one ∷ [] → length (flat_map f (h ++ x ∷ [])) ≡ length (flat_map f h) + 1
count_more {A} f h x one is = ap (λ (t : List A). length t) (flat_map-push f h x ∙ ap (λ (t : List A). flat_map f h ++ t) is) ∙ length_push (flat_map f h) one

-- ---- sessions

session_stays : (h : List Entry) (x : Entry) (session : ℕ) (o : Option OpenSession) → opens session x ≡ None → message_in session x ≡ [] → IsSession h session o → IsSession (h ++ x ∷ []) session o
session_stays h x session None still silent so = last_stays (opens session) false h x still ∙ so
session_stays h x session (Some o) still silent so =
    let same : messages_of session (h ++ x ∷ []) ≡ messages_of session h = messages_same session h x silent in (
      last_stays (opens session) false h x still ∙ so.0,
      so.1 ∙ sym (ap (λ (older : List (List ℕ)). length older) same),
      subst (λ (older : List (List ℕ)). StandsFor o.session older) (sym same) so.2,
    )

-- a session that is open, and of which there is no message
fresh_session : (h : List Entry) (session : ℕ) (o : Option OpenSession) → is_open session h ≡ true → messages_of session h ≡ [] → IsSomeAnd o IsFresh → IsSession h session o
fresh_session h session None on silent fresh = absurd fresh
fresh_session h session (Some o) on silent fresh = (
  on,
  fresh.0 ∙ sym (ap (λ (older : List (List ℕ)). length older) silent),
  subst (λ (older : List (List ℕ)). StandsFor o.session older) (sym silent) fresh.1,
)

-- ---- subscriptions

subscription_stays : (h : List Entry) (x : Entry) (limits : StreamLimits) (sub : ℕ) (o : Option Subscription) → begins sub x ≡ None → switched sub x ≡ None → named sub x ≡ None → given_at sub h x ≡ [] → IsLiveAs h limits sub o → IsLiveAs (h ++ x ∷ []) limits sub o
subscription_stays h x limits sub None begun on name given so = last_stays (begins sub) false h x begun ∙ so
subscription_stays h x limits sub (Some s) begun on name given so = record {
  live = last_stays (begins sub) false h x begun ∙ so.live;
  name = so.name ∙ sym (last_stays (named sub) [] h x name);
  cut = so.cut ∙ sym (ap not (last_stays (switched sub) false h x on));
  stream = subst (λ listed. StandsAt s.stream.standing listed (place s.stream.standing)) (sym (given_same sub h x given)) so.stream;
  limits_are = so.limits_are;
}

-- none is live under a number that was not given out
none_live : (h : List Entry) (limits : StreamLimits) (sub : ℕ) (o : Option Subscription) → is_live sub h ≡ false → IsLiveAs h limits sub o → o ≡ None
none_live h limits sub None gone so = refl
none_live h limits sub (Some s) gone so = let live : is_live sub h ≡ true = so.live in absurd cc

-- ---- numbers

unopened_stays : (h : List Entry) (x : Entry) (session : ℕ) → unwrap_or (opens session x) false ≡ false → message_in session x ≡ [] → IsUnopened h session → IsUnopened (h ++ x ∷ []) session
unopened_stays h x session still silent so = record {
  closed = last_of-push (opens session) false h x ∙ ap (λ (b : Bool). unwrap_or (opens session x) b) so.closed ∙ still;
  silent = messages_same session h x silent ∙ so.silent;
}

unbegun_stays : (h : List Entry) (x : Entry) (sub : ℕ) → unwrap_or (begins sub x) false ≡ false → unwrap_or (switched sub x) false ≡ false → given_at sub h x ≡ [] → counted_at sub h x ≡ [] → IsUnbegun h sub → IsUnbegun (h ++ x ∷ []) sub
unbegun_stays h x sub begun on given counts so = record {
  gone = last_of-push (begins sub) false h x ∙ ap (λ (b : Bool). unwrap_or (begins sub x) b) so.gone ∙ begun;
  unserved = last_of-push (switched sub) false h x ∙ ap (λ (b : Bool). unwrap_or (switched sub x) b) so.unserved ∙ on;
  nothing = given_same sub h x given ∙ so.nothing;
  uncounted = counted_same sub h x counts ∙ so.uncounted;
}

-- an entry that gives out no number
numbered_stays : (h : List Entry) (x : Entry) → opened_in x ≡ [] → subscribed_in x ≡ []
    → ((session : ℕ) → unwrap_or (opens session x) false ≡ false) → ((session : ℕ) → message_in session x ≡ [])
    → ((sub : ℕ) → unwrap_or (begins sub x) false ≡ false) → ((sub : ℕ) → unwrap_or (switched sub x) false ≡ false) → ((sub : ℕ) → given_at sub h x ≡ []) → ((sub : ℕ) → counted_at sub h x ≡ [])
    → AreNumbered h → AreNumbered (h ++ x ∷ [])
numbered_stays h x opened begun still silent gone off given counts so =
    let same : flat_map subscribed_in (h ++ x ∷ []) ≡ flat_map subscribed_in h = flat_map-push subscribed_in h x ∙ ap (λ t. flat_map subscribed_in h ++ t) begun ∙ append-nil (flat_map subscribed_in h) in
    let count : sessions_opened (h ++ x ∷ []) ≡ sessions_opened h = count_stays opened_in h x opened in
    let count_too : subscriptions_begun (h ++ x ∷ []) ≡ subscriptions_begun h = ap (λ (t : List ℕ). length t) same in
    record {
      sessions = λ session above. unopened_stays h x session (still session) (silent session) (so.sessions session (subst (λ (n : ℕ). n < session) count above));
      subscriptions = λ sub above. unbegun_stays h x sub (gone sub) (off sub) (given sub) (counts sub) (so.subscriptions sub (subst (λ (n : ℕ). n < sub) count_too above));
      distinct = subst AreDistinct (sym same) so.distinct;
      ascending = subst Ascend (sym same) so.ascending;
      within = subst (λ (t : List ℕ). AllByRecursion (λ sub. sub ≤ length t) t) (sym same) so.within;
    }

within_more : (n m : ℕ) (xs : List ℕ) → n ≤ m → AllByRecursion (λ sub. sub ≤ n) xs → AllByRecursion (λ sub. sub ≤ m) xs
within_more n m [] low all = tt
within_more n m (x ∷ xs) low all = (omega (arith, all.0), within_more n m xs low all.1)

apart_above : (n m : ℕ) (xs : List ℕ) → n < m → AllByRecursion (λ sub. sub ≤ n) xs → AllByRecursion (λ sub. sub ≢ m) xs
apart_above n m [] low all = tt
apart_above n m (x ∷ xs) low all = (λ same. absurd (omega (arith, all.0, same)), apart_above n m xs low all.1)

-- ---- bounds

small_stays : (h : List Entry) (x : Entry) → ((sub : ℕ) → given_at sub h x ≡ []) → audit_at h x ≡ [] → IsSmall h → IsSmall (h ++ x ∷ [])
small_stays h x given audited so = record {
  listed = λ sub. rw (given_same sub h x (given sub), length_push h x) (omega (arith, so.listed sub));
  audited = rw (audit_same h x audited, length_push h x) (omega (arith, so.audited));
  streamable = λ sub. subst AreStreamable (sym (given_same sub h x (given sub))) (so.streamable sub);
}

-- ---- an engine that changes in some of its fields

same_subscriptions : {Q : Type 0} (e d : Engine Q) (h : List Entry) (x : Entry) → Stands e h → d.subscriptions ≡ e.subscriptions → d.limits ≡ e.limits
    → ((sub : ℕ) → begins sub x ≡ None) → ((sub : ℕ) → switched sub x ≡ None) → ((sub : ℕ) → named sub x ≡ None) → ((sub : ℕ) → given_at sub h x ≡ [])
    → (sub : ℕ) → IsLiveAs (h ++ x ∷ []) d.limits sub (at d.subscriptions sub)
same_subscriptions e d h x so table limits begun on name given sub =
    subst (λ (l : StreamLimits). IsLiveAs (h ++ x ∷ []) l sub (at d.subscriptions sub)) (sym limits)
    (subst (λ (t : SubscriptionRows). IsLiveAs (h ++ x ∷ []) e.limits sub (at t sub)) (sym table)
    (subscription_stays h x e.limits sub (at e.subscriptions sub) (begun sub) (on sub) (name sub) (given sub) (so.subscriptions sub)))

same_sessions : {Q : Type 0} (e d : Engine Q) (h : List Entry) (x : Entry) → Stands e h → d.sessions ≡ e.sessions → ((session : ℕ) → opens session x ≡ None) → ((session : ℕ) → message_in session x ≡ [])
    → (session : ℕ) → IsSession (h ++ x ∷ []) session (at_key session d.sessions)
same_sessions e d h x so sessions still silent session =
    subst (λ (t : List (ℕ × OpenSession)). IsSession (h ++ x ∷ []) session (at_key session t)) (sym sessions)
    (session_stays h x session (at_key session e.sessions) (still session) (silent session) (so.sessions session))

same_audit : {Q : Type 0} (e d : Engine Q) (h : List Entry) (x : Entry) → Stands e h → d.audit ≡ e.audit → audit_at h x ≡ [] → StandsIn d.audit.standing (audit_list (h ++ x ∷ []))
same_audit e d h x so audit none = subst (StandsIn d.audit.standing) (sym (audit_same h x none)) (subst (λ a. StandsIn a.standing (audit_list h)) (sym audit) so.audit)

-- a session is opened
pub stands-open : {Q : Type 0} (e d : Engine Q) (h : List Entry) (n : ℕ) → Stands e h → n ≡ e.opened + 1
    → d.in_force ≡ e.in_force → d.groups ≡ e.groups → d.edits ≡ e.edits → d.opened ≡ n → d.begun ≡ e.begun → d.subscriptions ≡ e.subscriptions → d.audit ≡ e.audit → d.limits ≡ e.limits
    → ((q : ℕ) → q ≢ n → at_key q d.sessions ≡ at_key q e.sessions) → IsSomeAnd (at_key n d.sessions) IsFresh
    → Stands d (h ++ Open n ∷ [])
stands-open e d h n so next in_force groups edits opened begun table audit limits others fresh = record {
  policy = ap (λ (f : InForce). f.policy) in_force ∙ so.policy ∙ sym (last_stays policy_from no_policy h x refl);
  clock = clock_kept e d h x so in_force refl;
  groups = groups_kept e d h x so groups (λ sub. running-open sub h n);
  edits = edits ∙ so.edits ∙ sym (count_stays texts_in h x refl);
  opened = opened ∙ next ∙ ap (λ (m : ℕ). m + 1) so.opened ∙ sym (count_more opened_in h x n refl);
  begun = begun ∙ so.begun ∙ sym (count_stays subscribed_in h x refl);
  sessions = λ session. by_number session (n == session) refl;
  subscriptions = same_subscriptions e d h x so table limits (λ sub. refl) (λ sub. refl) (λ sub. refl) (λ sub. refl);
  served_are = ap (λ (t : SubscriptionRows). t.served) table ∙ so.served_are ∙ sym (served_same h x (λ sub. refl) refl);
  audit = same_audit e d h x so audit refl;
  limits = subst AreEngineLimits (sym limits) so.limits;
  numbered = numbered;
  small = small_stays h x (λ sub. refl) refl so.small;
} where
  x : Entry
  x = Open n

  count : sessions_opened (h ++ Open n ∷ []) ≡ sessions_opened h + 1
  count = count_more opened_in h (Open n) n refl

  above : sessions_opened h < n
  above = omega (arith, so.opened)

  other : (session : ℕ) → n ≢ session → opens session (Open n) ≡ None
  other session apart = rw (ne_eqb n session apart) refl

  on : is_open n (h ++ Open n ∷ []) ≡ true
  on = last_of-push (opens n) false h (Open n) ∙ (rw (eq-eqb n n refl) refl)

  by_number : (session : ℕ) (same : Bool) → (n == session) ≡ same → IsSession (h ++ Open n ∷ []) session (at_key session d.sessions)
  by_number session true same =
      subst (λ (s : ℕ). IsSession (h ++ Open n ∷ []) s (at_key s d.sessions)) (eqb-true n session same)
      (fresh_session (h ++ Open n ∷ []) n (at_key n d.sessions) on (messages_same n h (Open n) refl ∙ (so.numbered.sessions n above).silent) fresh)
  by_number session false same =
      let apart : n ≢ session = eqb-false n session same in
      rw (others session (λ is. apart (sym is)))
      (session_stays h (Open n) session (at_key session e.sessions) (other session apart) refl (so.sessions session))

  numbered : AreNumbered (h ++ Open n ∷ [])
  numbered =
      let same : flat_map subscribed_in (h ++ Open n ∷ []) ≡ flat_map subscribed_in h = flat_map-push subscribed_in h (Open n) ∙ append-nil (flat_map subscribed_in h) in
      record {
        sessions = λ session higher. unopened_stays h (Open n) session (ap (λ (o : Option Bool). unwrap_or o false) (other session (λ is. absurd (omega (arith, count, so.opened, is, higher))))) refl (so.numbered.sessions session (omega (arith, count, higher)));
        subscriptions = λ sub higher. unbegun_stays h (Open n) sub refl refl refl refl (so.numbered.subscriptions sub (subst (λ (t : List ℕ). length t < sub) same higher));
        distinct = subst AreDistinct (sym same) so.numbered.distinct;
        ascending = subst Ascend (sym same) so.numbered.ascending;
        within = subst (λ (t : List ℕ). AllByRecursion (λ sub. sub ≤ length t) t) (sym same) so.numbered.within;
      }

-- a session is closed
pub stands-close : {Q : Type 0} (e d : Engine Q) (h : List Entry) (n : ℕ) → Stands e h
    → d.in_force ≡ e.in_force → d.groups ≡ e.groups → d.edits ≡ e.edits → d.opened ≡ e.opened → d.begun ≡ e.begun → d.subscriptions ≡ e.subscriptions → d.audit ≡ e.audit → d.limits ≡ e.limits
    → ((q : ℕ) → at_key q d.sessions ≡ (if q == n then None else at_key q e.sessions))
    → Stands d (h ++ Close n ∷ [])
stands-close e d h n so in_force groups edits opened begun table audit limits left = record {
  policy = ap (λ (f : InForce). f.policy) in_force ∙ so.policy ∙ sym (last_stays policy_from no_policy h x refl);
  clock = clock_kept e d h x so in_force refl;
  groups = groups_kept e d h x so groups (λ sub. running-close sub h n);
  edits = edits ∙ so.edits ∙ sym (count_stays texts_in h x refl);
  opened = opened ∙ so.opened ∙ sym (count_stays opened_in h x refl);
  begun = begun ∙ so.begun ∙ sym (count_stays subscribed_in h x refl);
  sessions = λ session. by_number session (n == session) refl;
  subscriptions = same_subscriptions e d h x so table limits (λ sub. refl) (λ sub. refl) (λ sub. refl) (λ sub. refl);
  served_are = ap (λ (t : SubscriptionRows). t.served) table ∙ so.served_are ∙ sym (served_same h x (λ sub. refl) refl);
  audit = same_audit e d h x so audit refl;
  limits = subst AreEngineLimits (sym limits) so.limits;
  numbered = numbered_stays h x refl refl (λ session. ends (n == session)) (λ session. refl) (λ sub. refl) (λ sub. refl) (λ sub. refl) (λ sub. refl) so.numbered;
  small = small_stays h x (λ sub. refl) refl so.small;
} where
  x : Entry
  x = Close n

  ends : (same : Bool) → (let at : Option Bool = cond same (Some false) None in unwrap_or at false ≡ false)
  ends true = refl
  ends false = refl

  off : is_open n (h ++ Close n ∷ []) ≡ false
  off = last_of-push (opens n) false h (Close n) ∙ (rw (eq-eqb n n refl) refl)

  gone : at_key n d.sessions ≡ None
  gone = left n ∙ (rw (eq-eqb n n refl) refl)

  closed : IsSession (h ++ Close n ∷ []) n (at_key n d.sessions)
  closed = rw gone off

  by_number : (session : ℕ) (same : Bool) → (n == session) ≡ same → IsSession (h ++ Close n ∷ []) session (at_key session d.sessions)
  by_number session true same = subst (λ (s : ℕ). IsSession (h ++ Close n ∷ []) s (at_key s d.sessions)) (eqb-true n session same) closed
  by_number session false same =
      let apart : n ≢ session = eqb-false n session same in
      let stays : at_key session d.sessions ≡ at_key session e.sessions = left session ∙ (rw (ne_eqb session n (λ is. apart (sym is))) refl) in
      rw stays (session_stays h (Close n) session (at_key session e.sessions) (rw same refl) refl (so.sessions session))

-- a policy is put in force
pub stands-edit : {Q : Type 0} (e d : Engine Q) (h : List Entry) (text : List ℕ) (policy : Policy) → Stands e h → policy_of text ≡ Ok policy
    → d.in_force.policy ≡ policy → d.in_force.clock ≡ e.in_force.clock → d.groups ≡ e.groups → d.edits ≡ e.edits + 1 → d.opened ≡ e.opened → d.begun ≡ e.begun → d.sessions ≡ e.sessions → d.subscriptions ≡ e.subscriptions → d.audit ≡ e.audit → d.limits ≡ e.limits
    → Stands d (h ++ Edit text ∷ [])
stands-edit e d h text p so spelled policy clock groups edits opened begun sessions table audit limits = record {
  policy = policy ∙ sym (last_of-push policy_from no_policy h x ∙ ap (λ r. unwrap_or (policy_or_none r) (policy_in_force h)) spelled);
  clock = clock ∙ so.clock ∙ sym (clock_stays h x refl);
  groups = groups_kept e d h x so groups (λ sub. running-edit sub h text);
  edits = edits ∙ ap (λ (m : ℕ). m + 1) so.edits ∙ sym (count_more texts_in h x text refl);
  opened = opened ∙ so.opened ∙ sym (count_stays opened_in h x refl);
  begun = begun ∙ so.begun ∙ sym (count_stays subscribed_in h x refl);
  sessions = same_sessions e d h x so sessions (λ session. refl) (λ session. refl);
  subscriptions = same_subscriptions e d h x so table limits (λ sub. refl) (λ sub. refl) (λ sub. refl) (λ sub. refl);
  served_are = ap (λ (t : SubscriptionRows). t.served) table ∙ so.served_are ∙ sym (served_same h x (λ sub. refl) refl);
  audit = same_audit e d h x so audit refl;
  limits = subst AreEngineLimits (sym limits) so.limits;
  numbered = numbered_stays h x refl refl (λ session. refl) (λ session. refl) (λ sub. refl) (λ sub. refl) (λ sub. refl) (λ sub. refl) so.numbered;
  small = small_stays h x (λ sub. refl) refl so.small;
} where
  x : Entry
  x = Edit text

-- a subscription ends
pub stands-unsubscribe : {Q : Type 0} (e d : Engine Q) (h : List Entry) (n : ℕ) → Stands e h
    → d.in_force ≡ e.in_force → d.edits ≡ e.edits → d.opened ≡ e.opened → d.begun ≡ e.begun → d.sessions ≡ e.sessions → d.audit ≡ e.audit → d.limits ≡ e.limits
    → ((q : ℕ) → at d.subscriptions q ≡ (if q == n then None else at e.subscriptions q)) → d.subscriptions.served ≡ filter (λ q. not (q == n)) e.subscriptions.served
    → groups_at d.groups n ≡ [] → ((q : ℕ) → q ≢ n → groups_at d.groups q ≡ groups_at e.groups q)
    → Stands d (h ++ Unsubscribe n ∷ [])
stands-unsubscribe e d h n so in_force edits opened begun sessions audit limits left fewer no_groups other_groups = record {
  policy = ap (λ (f : InForce). f.policy) in_force ∙ so.policy ∙ sym (last_stays policy_from no_policy h x refl);
  clock = clock_kept e d h x so in_force refl;
  groups = groups_ended e d h x n so no_groups other_groups (running_ended n h) (λ q other. running-unsubscribe q h n (λ e. other (sym e)));
  edits = edits ∙ so.edits ∙ sym (count_stays texts_in h x refl);
  opened = opened ∙ so.opened ∙ sym (count_stays opened_in h x refl);
  begun = begun ∙ so.begun ∙ sym (count_stays subscribed_in h x refl);
  sessions = same_sessions e d h x so sessions (λ session. refl) (λ session. refl);
  subscriptions = λ sub. subst (λ (l : StreamLimits). IsLiveAs (h ++ Unsubscribe n ∷ []) l sub (at d.subscriptions sub)) (sym limits) (by_number sub (n == sub) refl);
  served_are = fewer ∙ ap (filter (λ q. not (q == n))) so.served_are ∙ sym (served-unsubscribe h n);
  audit = same_audit e d h x so audit refl;
  limits = subst AreEngineLimits (sym limits) so.limits;
  numbered = numbered_stays h x refl refl (λ session. refl) (λ session. refl) (λ sub. ends (n == sub)) (λ sub. ends (n == sub)) (λ sub. refl) (λ sub. refl) so.numbered;
  small = small_stays h x (λ sub. refl) refl so.small;
} where
  x : Entry
  x = Unsubscribe n

  ends : (same : Bool) → (let at : Option Bool = cond same (Some false) None in unwrap_or at false ≡ false)
  ends true = refl
  ends false = refl

  off : is_live n (h ++ Unsubscribe n ∷ []) ≡ false
  off = last_of-push (begins n) false h (Unsubscribe n) ∙ (rw (eq-eqb n n refl) refl)

  gone : at d.subscriptions n ≡ None
  gone = left n ∙ (rw (eq-eqb n n refl) refl)

  ended : IsLiveAs (h ++ Unsubscribe n ∷ []) e.limits n (at d.subscriptions n)
  ended = rw gone off

  by_number : (sub : ℕ) (same : Bool) → (n == sub) ≡ same → IsLiveAs (h ++ Unsubscribe n ∷ []) e.limits sub (at d.subscriptions sub)
  by_number sub true same = subst (λ (s : ℕ). IsLiveAs (h ++ Unsubscribe n ∷ []) e.limits s (at d.subscriptions s)) (eqb-true n sub same) ended
  by_number sub false same =
      let apart : n ≢ sub = eqb-false n sub same in
      let stays : at d.subscriptions sub ≡ at e.subscriptions sub = left sub ∙ (rw (ne_eqb sub n (λ is. apart (sym is))) refl) in
      rw stays (subscription_stays h (Unsubscribe n) e.limits sub (at e.subscriptions sub) (rw same refl) (rw same refl) refl refl (so.subscriptions sub))

-- the number of the next subscription is one under which none is live
pub next_is_free : {Q : Type 0} (e : Engine Q) (h : List Entry) (n : ℕ) → Stands e h → n ≡ e.begun + 1 → at e.subscriptions n ≡ None
next_is_free e h n so next = none_live h e.limits n (at e.subscriptions n) (so.numbered.subscriptions n (omega (arith, so.begun))).gone (so.subscriptions n)

-- a subscription begins
pub stands-subscribe : {Q : Type 0} (e d : Engine Q) (h : List Entry) (n : ℕ) (name : List ℕ) (stream : KeptStream) → Stands e h → n ≡ e.begun + 1
    → d.in_force ≡ e.in_force → d.groups ≡ e.groups → d.edits ≡ e.edits → d.opened ≡ e.opened → d.begun ≡ n → d.sessions ≡ e.sessions → d.audit ≡ e.audit → d.limits ≡ e.limits
    → StandsAt stream.standing [] 0 → stream.limits ≡ e.limits
    → ((q : ℕ) → at d.subscriptions q ≡ (if q == n then Some (record { name = name; is_cut = false; stream = stream }) else at e.subscriptions q)) → d.subscriptions.served ≡ e.subscriptions.served ++ n ∷ []
    → Stands d (h ++ Subscribe n name ∷ [])
stands-subscribe e d h n name stream so next in_force groups edits opened begun sessions audit limits start bound left more = record {
  policy = ap (λ (f : InForce). f.policy) in_force ∙ so.policy ∙ sym (last_stays policy_from no_policy h x refl);
  clock = clock_kept e d h x so in_force refl;
  groups = groups_kept e d h x so groups still;
  edits = edits ∙ so.edits ∙ sym (count_stays texts_in h x refl);
  opened = opened ∙ so.opened ∙ sym (count_stays opened_in h x refl);
  begun = begun ∙ next ∙ ap (λ (m : ℕ). m + 1) so.begun ∙ sym (count_more subscribed_in h x n refl);
  sessions = same_sessions e d h x so sessions (λ session. refl) (λ session. refl);
  subscriptions = λ sub. subst (λ (l : StreamLimits). IsLiveAs (h ++ Subscribe n name ∷ []) l sub (at d.subscriptions sub)) (sym limits) (by_number sub (n == sub) refl);
  served_are = more ∙ ap (λ (t : List ℕ). t ++ n ∷ []) so.served_are ∙ sym (served-subscribe h n name new);
  audit = same_audit e d h x so audit refl;
  limits = subst AreEngineLimits (sym limits) so.limits;
  numbered = numbered;
  small = small_stays h x (λ sub. refl) refl so.small;
} where
  x : Entry
  x = Subscribe n name

  pushed : flat_map subscribed_in (h ++ Subscribe n name ∷ []) ≡ flat_map subscribed_in h ++ n ∷ []
  pushed = flat_map-push subscribed_in h (Subscribe n name)

  count : subscriptions_begun (h ++ Subscribe n name ∷ []) ≡ subscriptions_begun h + 1
  count = count_more subscribed_in h (Subscribe n name) n refl

  above : subscriptions_begun h < n
  above = omega (arith, so.begun)

  new : AllByRecursion (λ sub. sub ≢ n) (flat_map subscribed_in h)
  new = apart_above (subscriptions_begun h) n (flat_map subscribed_in h) above so.numbered.within

  unbegun : IsUnbegun h n
  unbegun = so.numbered.subscriptions n above

  still : (sub : ℕ) → running sub (h ++ Subscribe n name ∷ []) ≡ running sub h
  still sub = by_number (sub == n) refl where
    here : running n (h ++ Subscribe n name ∷ []) ≡ running n h
    here = running_begun n h name unbegun.uncounted ∙ sym (running_unserved n h unbegun.unserved)

    by_number : (same : Bool) → (sub == n) ≡ same → running sub (h ++ Subscribe n name ∷ []) ≡ running sub h
    by_number true is = subst (λ (q : ℕ). running q (h ++ Subscribe n name ∷ []) ≡ running q h) (sym (eqb-true sub n is)) here
    by_number false is = running-subscribe sub h n name (λ e. eqb-false sub n is (sym e))

  begun_other : (sub : ℕ) → n ≢ sub → begins sub (Subscribe n name) ≡ None
  begun_other sub apart = rw (ne_eqb n sub apart) refl

  on_other : (sub : ℕ) → n ≢ sub → switched sub (Subscribe n name) ≡ None
  on_other sub apart = rw (ne_eqb n sub apart) refl

  named_other : (sub : ℕ) → n ≢ sub → named sub (Subscribe n name) ≡ None
  named_other sub apart = rw (ne_eqb n sub apart) refl

  live : is_live n (h ++ Subscribe n name ∷ []) ≡ true
  live = last_of-push (begins n) false h (Subscribe n name) ∙ (rw (eq-eqb n n refl) refl)

  on : is_served n (h ++ Subscribe n name ∷ []) ≡ true
  on = last_of-push (switched n) false h (Subscribe n name) ∙ (rw (eq-eqb n n refl) refl)

  is_named : name_of n (h ++ Subscribe n name ∷ []) ≡ name
  is_named = last_of-push (named n) [] h (Subscribe n name) ∙ (rw (eq-eqb n n refl) refl)

  begins_here : IsSubscription (h ++ Subscribe n name ∷ []) e.limits n (record { name = name; is_cut = false; stream = stream })
  begins_here = record {
    live = live;
    name = sym is_named;
    cut = sym (ap not on);
    stream = subst (λ (p : ℕ). StandsAt stream.standing (disclosed n (h ++ Subscribe n name ∷ [])) p) (sym start.place)
        (subst (λ listed. StandsAt stream.standing listed 0) (sym (given_same n h (Subscribe n name) refl ∙ unbegun.nothing)) start);
    limits_are = bound;
  }

  added : IsLiveAs (h ++ Subscribe n name ∷ []) e.limits n (at d.subscriptions n)
  added = rw (left n, eq-eqb n n refl) begins_here

  by_number : (sub : ℕ) (same : Bool) → (n == sub) ≡ same → IsLiveAs (h ++ Subscribe n name ∷ []) e.limits sub (at d.subscriptions sub)
  by_number sub true same = subst (λ (s : ℕ). IsLiveAs (h ++ Subscribe n name ∷ []) e.limits s (at d.subscriptions s)) (eqb-true n sub same) added
  by_number sub false same =
      let apart : n ≢ sub = eqb-false n sub same in
      let stays : at d.subscriptions sub ≡ at e.subscriptions sub = left sub ∙ (rw (ne_eqb sub n (λ is. apart (sym is))) refl) in
      rw stays (subscription_stays h (Subscribe n name) e.limits sub (at e.subscriptions sub) (begun_other sub apart) (on_other sub apart) (named_other sub apart) refl (so.subscriptions sub))

  numbered : AreNumbered (h ++ Subscribe n name ∷ [])
  numbered = record {
    sessions = λ session higher. unopened_stays h (Subscribe n name) session refl refl (so.numbered.sessions session (subst (λ (m : ℕ). m < session) (count_stays opened_in h (Subscribe n name) refl) higher));
    subscriptions = λ sub higher.
        let apart : n ≢ sub = λ is. absurd (omega (arith, count, so.begun, is, higher)) in
        unbegun_stays h (Subscribe n name) sub (ap (λ (o : Option Bool). unwrap_or o false) (begun_other sub apart)) (ap (λ (o : Option Bool). unwrap_or o false) (on_other sub apart)) refl refl
        (so.numbered.subscriptions sub (omega (arith, count, higher)));
    distinct = subst AreDistinct (sym pushed) (distinct_push (flat_map subscribed_in h) n so.numbered.distinct new);
    ascending = subst Ascend (sym pushed) (ascend_push (flat_map subscribed_in h) n so.numbered.ascending (all_below (subscriptions_begun h) n (flat_map subscribed_in h) above so.numbered.within));
    within = subst (λ (t : List ℕ). AllByRecursion (λ sub. sub ≤ subscriptions_begun (h ++ Subscribe n name ∷ [])) t) (sym pushed)
        (AllByRecursion-append (λ sub. sub ≤ subscriptions_begun (h ++ Subscribe n name ∷ [])) (flat_map subscribed_in h) (n ∷ [])
        (within_more (subscriptions_begun h) (subscriptions_begun (h ++ Subscribe n name ∷ [])) (flat_map subscribed_in h) (omega (arith, count)) so.numbered.within)
        (omega (arith, count, so.begun), tt));
  }

-- ---- before any entry

no_shapes : shapes_of [] ≡ []
unfolding shapes_of
no_shapes = refl

none_streamable : AreStreamable []
none_streamable = record { each = tt; shapes = rw no_shapes (omega arith) }

pub stands-new : {Q : Type 0} (d : Engine Q) → d.in_force ≡ in_force_with no_policy 0 → ((q : ℕ) → groups_at d.groups q ≡ []) → d.edits ≡ 0 → d.opened ≡ 0 → d.begun ≡ 0 → d.sessions ≡ [] → d.subscriptions ≡ record { live = []; served = [] } → StandsIn d.audit.standing [] → AreEngineLimits d.limits → Stands d []
stands-new d in_force groups edits opened begun sessions table audit range = record {
  policy = ap (λ (f : InForce). f.policy) in_force;
  clock = ap (λ (f : InForce). f.clock) in_force;
  groups = λ sub. subst (λ (es : Entries). StandsForRecords es []) (sym (groups sub)) none_stand;
  edits = edits;
  opened = opened;
  begun = begun;
  sessions = λ session. subst (λ (t : List (ℕ × OpenSession)). IsSession [] session (at_key session t)) (sym sessions) refl;
  subscriptions = λ sub. subst (λ (t : SubscriptionRows). IsLiveAs [] d.limits sub (at t sub)) (sym table) refl;
  served_are = ap (λ (t : SubscriptionRows). t.served) table;
  audit = audit;
  limits = range;
  numbered = record {
    sessions = λ session above. record { closed = refl; silent = refl };
    subscriptions = λ sub above. record { gone = refl; unserved = refl; nothing = refl; uncounted = refl };
    distinct = tt;
    ascending = tt;
    within = tt;
  };
  small = record {
    listed = λ sub. omega arith;
    audited = omega arith;
    streamable = λ sub. none_streamable;
  };
}

-- ---- who has a name

-- where no subscription in the table has the name, none that is live has it
pub none_named : (h : List Entry) (limits : StreamLimits) (sub : ℕ) (name : List ℕ) (o : Option Subscription) → IsLiveAs h limits sub o → IfSome o (λ s. s.name ≢ name) → is_live sub h ≡ true → name_of sub h ≢ name
none_named h limits sub name None so free live same = let gone : is_live sub h ≡ false = so in absurd cc
none_named h limits sub name (Some s) so free live same = free (so.name ∙ same)

pub if_none : {A P Q : Type 0} (o : Option A) → (P → Q) → IfNone o P → IfNone o Q
if_none None so p = so p
if_none (Some x) so p = tt

-- ---- counts stay far from their ends

pub few_edits : {Q : Type 0} (e : Engine Q) (count : ℕ) → StandsSomewhere e count → e.edits ≤ count
few_edits e count so = omega (arith, so.stands.edits, so.counted, edits_few so.history)

pub few_opened : {Q : Type 0} (e : Engine Q) (count : ℕ) → StandsSomewhere e count → e.opened ≤ count
few_opened e count so = omega (arith, so.stands.opened, so.counted, opened_few so.history)

pub few_begun : {Q : Type 0} (e : Engine Q) (count : ℕ) → StandsSomewhere e count → e.begun ≤ count
few_begun e count so = omega (arith, so.stands.begun, so.counted, subscribed_few so.history)
