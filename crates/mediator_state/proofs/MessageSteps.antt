-- An engine that takes a message stands for the history with the message.
use Rattle.std.proofs.Common.{◌≡◌, ◌≢◌, ℕ, zero, suc, ◌≤◌, ◌<◌, Bool, true, false, cond, List, [], ◌∷◌, ◌++◌, length, map, Option, Some, None, refl, sym, ap, ◌∙◌, subst, arith, append-nil, length-append}
use Rattle.std.specs.Prelude.{not, ◌==◌, ◌||◌, if◌then◌else◌, IsSomeAnd}
use Rattle.std.specs.List.{flat_map, AllByRecursion}
use Rattle.std.proofs.lemmas.Bool.{eqb-true, eqb-false, eq-eqb, ne_eqb}
use Rattle.std.proofs.lemmas.List.{nil_from_length}
use Rattle.std.proofs.lemmas.List.Concat.{flat_map-cons}
use Rattle.sequences.proofs.BeforeLaws.{last_of-push}
use Rattle.ipfix_template.specs.DataRecord.{DataRecord}
use Rattle.ipfix_session.specs.Keeping.{at_key}
use Rattle.ipfix_session.specs.ReadAhead.{Ahead, IsReadingOf}
use Rattle.ipfix_session.specs.Standing.{StandsFor}
use Rattle.subscriber_stream.specs.declared.limits.StreamLimits.{StreamLimits}
use Rattle.subscriber_stream.specs.Standing.{StreamStanding, StandsAt, HasStreamRoom}
use Rattle.subscriber_stream.proofs.Standings.{room_is_limits}
use Rattle.stream_meaning.specs.Served.{AreStreamable}
use Rattle.stream_meaning.proofs.Handing.{streamable_more}
use Rattle.disclosure_audit.specs.declared.entry.AuditEntry.{AuditEntry}
use Rattle.disclosure_audit.specs.Queue.{StandsIn, TakesEntries}
use Rattle.event_journal.specs.declared.entry.Entry.{Entry}
use Rattle.event_journal.specs.declared.entry.Entry.TheVariants.{Message}
use Rattle.mediator_history.specs.Numbers.{AreDistinct, is_in}
use Rattle.mediator_history.specs.Sessions.{opens, is_open, opened_in, sessions_opened, messages_of}
use Rattle.mediator_history.specs.Subscriptions.{texts_in, begins, is_live, is_served, subscribed_in, subscriptions_begun, served}
use Rattle.mediator_history.specs.Counting.{counted_at, running}
use Rattle.mediator_history.specs.Disclosed.{given_at, disclosed}
use Rattle.mediator_history.specs.Auditing.{audit_at, audit_list}
use Rattle.mediator_history.proofs.HistoryLaws.{policy-message, name-message, is_served-message, subscribed-message, disclosed-push, audit-push}
use Rattle.mediator_history.proofs.ListFilters.{distinct_filter}
use Rattle.mediator_history.proofs.EntryLaws.{served_same, messages-any, is_in-served}
use Rattle.mediator_history.proofs.CutLaws.{given-unserved}
use Rattle.mediator_history.proofs.CountingLaws.{counted_same, counted_unserved, running-message}
use Rattle.mediator_tables.specs.declared.open_session.OpenSession.{OpenSession}
use Rattle.mediator_tables.specs.SessionTable.{KeepsOn}
use Rattle.mediator_tables.specs.declared.subscription.Subscription.{Subscription}
use Rattle.mediator_tables.specs.SubscriptionTable.{at, Related, TakesGiven, given_to}
use Rattle.flow_aggregate.specs.Counts.{Count, count_of}
use Rattle.flow_aggregate.specs.Groups.{Sample}
use Rattle.flow_aggregate.specs.Running.{SumsStand as StandsForRecords}
use Rattle.mediator_shares.specs.InForce.{InForce}
use Rattle.mediator_tables.specs.GroupTable.{groups_at}
use Rattle.mediator_state.specs.declared.engine.Engine.{Engine}
use Rattle.mediator_state.specs.Ascending.{Ascend}
use Rattle.mediator_tables.specs.Sessions.{IsSession}
use Rattle.mediator_state.specs.Standing.{Stands, place, IsLiveAs, AreNumbered, IsSmall, AreEngineLimits}
use Rattle.mediator_state.specs.Seen.{place_in, handed_place}
use Rattle.mediator_tables.specs.Adding.{added_to}
use Rattle.mediator_state.specs.Planning.{share_at, tally_at, HasRoomIn, AreStreamed}
use Rattle.mediator_state.proofs.GroupLaws.{clock_kept}
use Rattle.mediator_state.specs.Accepting.{IsBroughtBy}
use Rattle.mediator_state.proofs.CutSteps.{no_entry, session_stays, unopened_stays, unbegun_stays}
use Rattle.subscriber_stream.specs.declared.limits.TheConstants.{MOST_QUEUE}
use Rattle.disclosure_audit.specs.declared.audit.TheConstants.{MOST_ENTRIES as MOST_AUDITED}

-- ---- a message opens, closes and begins nothing

is_open-message : (id : ℕ) (h : List Entry) (session number : ℕ) (octets : List ℕ) → is_open id (h ++ Message session number octets ∷ []) ≡ is_open id h
is_open-message id h session number octets = last_of-push (opens id) false h (Message session number octets)

is_live-message : (sub : ℕ) (h : List Entry) (session number : ℕ) (octets : List ℕ) → is_live sub (h ++ Message session number octets ∷ []) ≡ is_live sub h
is_live-message sub h session number octets = last_of-push (begins sub) false h (Message session number octets)

-- it is the newest of its session, and of no other
messages-other : (id session number : ℕ) (octets : List ℕ) (h : List Entry) → id ≢ session → messages_of id (h ++ Message session number octets ∷ []) ≡ messages_of id h
messages-other id session number octets h other = messages-any id session number octets h ∙ ap (λ (b : Bool). cond b (octets ∷ messages_of id h) (messages_of id h)) (ne_eqb session id (λ same. other (sym same)))

messages-own : (session number : ℕ) (octets : List ℕ) (h : List Entry) → messages_of session (h ++ Message session number octets ∷ []) ≡ octets ∷ messages_of session h
messages-own session number octets h = messages-any session session number octets h ∙ ap (λ (b : Bool). cond b (octets ∷ messages_of session h) (messages_of session h)) (eq-eqb session session refl)

-- ---- what all shares give to one subscription

not_in : (q : ℕ) (ns : List ℕ) → AllByRecursion (λ n. n ≢ q) ns → is_in q ns ≡ false
not_in q [] apart = refl
not_in q (n ∷ ns) apart = ap (λ (b : Bool). b || is_in q ns) (ne_eqb n q apart.0) ∙ not_in q ns apart.1

given_none : (g : ℕ → List DataRecord) (q : ℕ) (ns : List ℕ) → AllByRecursion (λ n. n ≢ q) ns → given_to q (map (λ n. (n, g n)) ns) ≡ []
given_none g q [] apart = refl
given_none g q (n ∷ ns) apart =
    flat_map-cons (λ (s : ℕ × List DataRecord). if s.0 == q then s.1 else []) (n, g n) (map (λ n. (n, g n)) ns)
    ∙ ap (λ (b : Bool). cond b (g n) [] ++ given_to q (map (λ n. (n, g n)) ns)) (ne_eqb n q apart.0)
    ∙ given_none g q ns apart.1

apart_from : (q n : ℕ) (ns : List ℕ) → n ≡ q → AllByRecursion (λ m. m ≢ n) ns → AllByRecursion (λ m. m ≢ q) ns
apart_from q n ns same apart = subst (λ x. AllByRecursion (λ m. m ≢ x) ns) same apart

pub given_one : (g : ℕ → List DataRecord) (q : ℕ) (ns : List ℕ) → AreDistinct ns → given_to q (map (λ n. (n, g n)) ns) ≡ cond (is_in q ns) (g q) []
given_one g q [] distinct = refl
given_one g q (n ∷ ns) distinct =
    flat_map-cons (λ (s : ℕ × List DataRecord). if s.0 == q then s.1 else []) (n, g n) (map (λ n. (n, g n)) ns) ∙ by_number (given_one g q ns distinct.1) (n == q) refl
  where
    by_number : given_to q (map (λ n. (n, g n)) ns) ≡ cond (is_in q ns) (g q) [] → (same : Bool) → (n == q) ≡ same → (cond same (g n) [] ++ given_to q (map (λ n. (n, g n)) ns)) ≡ cond (same || is_in q ns) (g q) []
    by_number rest true is = ap (λ (l : List DataRecord). g n ++ l) (given_none g q ns (apart_from q n ns (eqb-true n q is) distinct.0)) ∙ append-nil (g n) ∙ ap g (eqb-true n q is)
    by_number rest false is = rest

-- ---- the shares of an entry are what it gives

-- what an entry gives to those that are not served
abbrev pub GivesServedOnly : List Entry → Entry → Type 0
GivesServedOnly h x = (sub : ℕ) → is_served sub h ≡ false → given_at sub h x ≡ []

pub given_is : (h : List Entry) (x : Entry) (sub : ℕ) → AreNumbered h → GivesServedOnly h x → given_to sub (map (share_at h x) (served h)) ≡ given_at sub h x
given_is h x sub so only =
    given_one (λ n. given_at n h x) sub (served h) (distinct_filter (λ s. is_served s h) (flat_map subscribed_in h) so.distinct)
    ∙ by_test (is_in sub (served h)) refl
  where
    by_test : (in' : Bool) → is_in sub (served h) ≡ in' → cond in' (given_at sub h x) [] ≡ given_at sub h x
    by_test true is = refl
    by_test false is = sym (only sub (sym (is_in-served sub h) ∙ is))

-- the same of what is added to aggregates
added_none : (g : ℕ → List Count) (q : ℕ) (ns : List ℕ) → AllByRecursion (λ n. n ≢ q) ns → added_to q (map (λ n. (n, g n)) ns) ≡ []
added_none g q [] apart = refl
added_none g q (n ∷ ns) apart =
    flat_map-cons (λ (s : ℕ × List Count). if s.0 == q then s.1 else []) (n, g n) (map (λ n. (n, g n)) ns)
    ∙ ap (λ (b : Bool). cond b (g n) [] ++ added_to q (map (λ n. (n, g n)) ns)) (ne_eqb n q apart.0)
    ∙ added_none g q ns apart.1

added_one : (g : ℕ → List Count) (q : ℕ) (ns : List ℕ) → AreDistinct ns → added_to q (map (λ n. (n, g n)) ns) ≡ cond (is_in q ns) (g q) []
added_one g q [] distinct = refl
added_one g q (n ∷ ns) distinct =
    flat_map-cons (λ (s : ℕ × List Count). if s.0 == q then s.1 else []) (n, g n) (map (λ n. (n, g n)) ns) ∙ by_number (added_one g q ns distinct.1) (n == q) refl
  where
    by_number : added_to q (map (λ n. (n, g n)) ns) ≡ cond (is_in q ns) (g q) [] → (same : Bool) → (n == q) ≡ same → (cond same (g n) [] ++ added_to q (map (λ n. (n, g n)) ns)) ≡ cond (same || is_in q ns) (g q) []
    by_number rest true is = ap (λ (l : List Count). g n ++ l) (added_none g q ns (apart_from q n ns (eqb-true n q is) distinct.0)) ∙ append-nil (g n) ∙ ap g (eqb-true n q is)
    by_number rest false is = rest

added_is : (h : List Entry) (session number : ℕ) (octets : List ℕ) (sub : ℕ) → AreNumbered h
    → added_to sub (map (tally_at h (Message session number octets)) (served h)) ≡ map count_of (counted_at sub h (Message session number octets))
added_is h session number octets sub so =
    added_one (λ n. map count_of (counted_at n h (Message session number octets))) sub (served h) (distinct_filter (λ s. is_served s h) (flat_map subscribed_in h) so.distinct)
    ∙ by_test (is_in sub (served h)) refl
  where
    by_test : (in' : Bool) → is_in sub (served h) ≡ in' → cond in' (map count_of (counted_at sub h (Message session number octets))) [] ≡ map count_of (counted_at sub h (Message session number octets))
    by_test true is = refl
    by_test false is = ap (map count_of) (sym (counted_unserved sub h (Message session number octets) (sym (is_in-served sub h) ∙ is)))

-- what holds of each share holds of the one of a subscription that is served
pub share_of_served : (P : ℕ × List DataRecord → Type 0) (f : ℕ → ℕ × List DataRecord) (q : ℕ) (ns : List ℕ) → is_in q ns ≡ true → AllByRecursion P (map f ns) → P (f q)
share_of_served P f q [] is all = absurd cc
share_of_served P f q (n ∷ ns) is all = by_number (λ rest. share_of_served P f q ns rest all.1) (n == q) refl is where
  by_number : (is_in q ns ≡ true → P (f q)) → (same : Bool) → (n == q) ≡ same → (same || is_in q ns) ≡ true → P (f q)
  by_number others true here rest = subst (λ m. P (f m)) (eqb-true n q here) all.0
  by_number others false here rest = others rest

-- ---- sessions

pub session_taken : (h : List Entry) (session number : ℕ) (octets : List ℕ) (reading : Ahead) (old new : Option OpenSession) → KeepsOn reading old new → IsReadingOf (messages_of session h) octets reading
    → IsSession h session old → IsSession (h ++ Message session number octets ∷ []) session new
session_taken h session number octets reading None new keeps read so = absurd keeps
session_taken h session number octets reading (Some s) None keeps read so = absurd keeps
session_taken h session number octets reading (Some s) (Some t) keeps read so = (
  is_open-message session h session number octets ∙ so.0,
  omega (arith, keeps.0, so.1, ap (λ (ms : List (List ℕ)). length ms) (messages-own session number octets h)),
  subst (λ ms. StandsFor t.session ms) (sym (messages-own session number octets h)) (keeps.1 (messages_of session h) octets so.2 read),
)

-- ---- subscriptions

pub place_kept : (old new : StreamStanding) (listed more : List DataRecord) → StandsAt new (listed ++ more) (place old) → place new ≡ place old
place_kept old new listed more so = so.place

pub live_taken : (h : List Entry) (session number : ℕ) (octets : List ℕ) (limits : StreamLimits) (sub : ℕ) (old new : Option Subscription)
    → Related (TakesGiven (given_at sub h (Message session number octets))) old new → IsLiveAs h limits sub old → IsLiveAs (h ++ Message session number octets ∷ []) limits sub new
live_taken h session number octets limits sub None None takes so = is_live-message sub h session number octets ∙ so
live_taken h session number octets limits sub None (Some t) takes so = absurd takes
live_taken h session number octets limits sub (Some s) None takes so = absurd takes
live_taken h session number octets limits sub (Some s) (Some t) takes so =
    let stands = takes.takes.stands (disclosed sub h) (place s.stream.standing) so.stream in
    let moved : place t.stream.standing ≡ place s.stream.standing = stands.place in
    record {
      live = is_live-message sub h session number octets ∙ so.live;
      name = takes.name ∙ so.name ∙ sym (name-message sub h session number octets);
      cut = takes.is_cut ∙ so.cut ∙ sym (ap not (is_served-message sub h session number octets));
      stream = subst (λ l. StandsAt t.stream.standing l (place t.stream.standing)) (sym (disclosed-push sub h (Message session number octets)))
          (subst (λ p. StandsAt t.stream.standing (disclosed sub h ++ given_at sub h (Message session number octets)) p) (sym moved) stands);
      limits_are = takes.limits ∙ so.limits_are;
    }

-- ---- numbers

numbered_message : (h : List Entry) (session number : ℕ) (octets : List ℕ) → is_open session h ≡ true → AreNumbered h → AreNumbered (h ++ Message session number octets ∷ [])
numbered_message h session number octets on so =
    let opened : sessions_opened (h ++ Message session number octets ∷ []) ≡ sessions_opened h = ap (λ (ns : List ℕ). length ns) (no_entry opened_in h (Message session number octets) refl) in
    let begun : subscriptions_begun (h ++ Message session number octets ∷ []) ≡ subscriptions_begun h = ap (λ (ns : List ℕ). length ns) (subscribed-message h session number octets) in
    record {
      sessions = λ id above.
          let before = so.sessions id (omega (arith, above, opened)) in
          unopened_stays h (h ++ Message session number octets ∷ []) id (is_open-message id h session number octets) (messages-other id session number octets h (λ same. closed id same before.closed)) before;
      subscriptions = λ sub above.
          let before = so.subscriptions sub (omega (arith, above, begun)) in
          unbegun_stays h (h ++ Message session number octets ∷ []) sub (is_live-message sub h session number octets) (λ off. is_served-message sub h session number octets ∙ off)
          (disclosed-push sub h (Message session number octets) ∙ ap (λ (l : List DataRecord). disclosed sub h ++ l) (given-unserved sub session number octets h before.unserved) ∙ append-nil (disclosed sub h))
          (counted_same sub h (Message session number octets) (counted_unserved sub h (Message session number octets) before.unserved)) before;
      distinct = subst AreDistinct (sym (subscribed-message h session number octets)) so.distinct;
      ascending = subst Ascend (sym (subscribed-message h session number octets)) so.ascending;
      within = subst (λ (ns : List ℕ). AllByRecursion (λ sub. sub ≤ length ns) ns) (sym (subscribed-message h session number octets)) so.within;
    }
  where
    closed : (id : ℕ) → id ≡ session → is_open id h ≡ false → ⊥
    closed id same off = false_true (sym off ∙ ap (λ s. is_open s h) same ∙ on) where
      false_true : false ≡ true → ⊥
      false_true e = absurd cc

-- ---- sizes

pub few_given : (share : ℕ × List DataRecord) (limits : StreamLimits) (h : List Entry) (s : Option Subscription) → AreEngineLimits limits → IsLiveAs h limits share.0 s → (0 < length share.1 → IsSomeAnd s (λ x. HasStreamRoom x.stream share.1)) → length share.1 ≤ MOST_QUEUE
few_given share limits h s range so room = by_size (length share.1) refl where
  with_room : (o : Option Subscription) → IsLiveAs h limits share.0 o → IsSomeAnd o (λ x. HasStreamRoom x.stream share.1) → length share.1 ≤ MOST_QUEUE
  with_room None so there = absurd there
  with_room (Some x) so there = omega (arith, there.queue, range.queue, ap (λ (l : StreamLimits). l.queue) so.limits_are)

  by_size : (n : ℕ) → length share.1 ≡ n → length share.1 ≤ MOST_QUEUE
  by_size zero is = omega (arith, is)
  by_size (suc n) is = with_room s so (room (omega (arith, is)))

streamable_given : (share : ℕ × List DataRecord) (limits : StreamLimits) (h : List Entry) (s : Option Subscription) → AreEngineLimits limits → IsLiveAs h limits share.0 s → (0 < length share.1 → IsSomeAnd s (λ x. HasStreamRoom x.stream share.1))
    → AreStreamed share → AreStreamable (disclosed share.0 h) → AreStreamable (disclosed share.0 h ++ share.1)
streamable_given share limits h s range so room each before = by_size (length share.1) refl where
  with_room : (o : Option Subscription) → IsLiveAs h limits share.0 o → IsSomeAnd o (λ x. HasStreamRoom x.stream share.1) → AreStreamable (disclosed share.0 h ++ share.1)
  with_room None so there = absurd there
  with_room (Some x) so there =
      streamable_more x.stream.limits (disclosed share.0 h) share.1 (place x.stream.standing) before each ((room_is_limits x.stream (disclosed share.0 h) (place x.stream.standing) share.1 so.stream).0 there) (omega (arith, range.shapes, ap (λ (l : StreamLimits). l.shapes) so.limits_are))

  by_size : (n : ℕ) → length share.1 ≡ n → AreStreamable (disclosed share.0 h ++ share.1)
  by_size zero is = subst AreStreamable (sym (ap (λ (l : List DataRecord). disclosed share.0 h ++ l) (nil_from_length share.1 is) ∙ append-nil (disclosed share.0 h))) before
  by_size (suc n) is = with_room s so (room (omega (arith, is)))

pub small_given : {Q : Type 0} (e : Engine Q) (h : List Entry) (x : Entry) (shares : List (ℕ × List DataRecord)) → Stands e h → GivesServedOnly h x → length (audit_at h x) ≤ MOST_AUDITED
    → shares ≡ map (share_at h x) (served h) → AllByRecursion (HasRoomIn e.subscriptions) shares → AllByRecursion AreStreamed shares → IsSmall (h ++ x ∷ [])
small_given e h x shares so only noted are room streamable = record {
  listed = λ sub. omega (arith, so.small.listed sub, few sub, ap (λ (l : List DataRecord). length l) (disclosed-push sub h x), length-append (disclosed sub h) (given_at sub h x), length-append h (x ∷ []));
  audited = omega (arith, so.small.audited, noted, ap (λ (l : List AuditEntry). length l) (audit-push h x), length-append (audit_list h) (audit_at h x), length-append h (x ∷ []));
  streamable = λ sub. subst AreStreamable (sym (disclosed-push sub h x)) (more sub);
}
  where
    rooms : AllByRecursion (HasRoomIn e.subscriptions) (map (share_at h x) (served h))
    rooms = subst (AllByRecursion (HasRoomIn e.subscriptions)) are room

    streams : AllByRecursion AreStreamed (map (share_at h x) (served h))
    streams = subst (AllByRecursion AreStreamed) are streamable

    few : (sub : ℕ) → length (given_at sub h x) ≤ MOST_QUEUE
    few sub = by_test (is_served sub h) refl where
      by_test : (on : Bool) → is_served sub h ≡ on → length (given_at sub h x) ≤ MOST_QUEUE
      by_test false off = omega (arith, ap (λ (l : List DataRecord). length l) (only sub off))
      by_test true on =
          few_given (share_at h x sub) e.limits h (at e.subscriptions sub) so.limits (so.subscriptions sub)
          (share_of_served (HasRoomIn e.subscriptions) (share_at h x) sub (served h) (is_in-served sub h ∙ on) rooms)

    more : (sub : ℕ) → AreStreamable (disclosed sub h ++ given_at sub h x)
    more sub = by_test (is_served sub h) refl where
      by_test : (on : Bool) → is_served sub h ≡ on → AreStreamable (disclosed sub h ++ given_at sub h x)
      by_test false off = subst AreStreamable (sym (ap (λ (l : List DataRecord). disclosed sub h ++ l) (only sub off) ∙ append-nil (disclosed sub h))) (so.small.streamable sub)
      by_test true on =
          streamable_given (share_at h x sub) e.limits h (at e.subscriptions sub) so.limits (so.subscriptions sub)
          (share_of_served (HasRoomIn e.subscriptions) (share_at h x) sub (served h) (is_in-served sub h ∙ on) rooms)
          (share_of_served AreStreamed (share_at h x) sub (served h) (is_in-served sub h ∙ on) streams)
          (so.small.streamable sub)

-- ---- the step

served_only : (session number : ℕ) (octets : List ℕ) (h : List Entry) → GivesServedOnly h (Message session number octets)
served_only session number octets h sub off = given-unserved sub session number octets h off

pub record TakesMessage {Q : Type 0} (d e : Engine Q) (session : ℕ) (reading : Ahead) (shares : List (ℕ × List DataRecord)) (tallies : List (ℕ × List Count)) (entries : List AuditEntry) : Type 0 where
  pub in_force : e.in_force ≡ d.in_force
  pub edits : e.edits ≡ d.edits
  pub opened : e.opened ≡ d.opened
  pub begun : e.begun ≡ d.begun
  pub limits : e.limits ≡ d.limits
  pub others : (q : ℕ) → q ≢ session → at_key q e.sessions ≡ at_key q d.sessions
  pub keeps : KeepsOn reading (at_key session d.sessions) (at_key session e.sessions)
  pub each : (sub : ℕ) → Related (TakesGiven (given_to sub shares)) (at d.subscriptions sub) (at e.subscriptions sub)
  pub served : e.subscriptions.served ≡ d.subscriptions.served
  pub adds : (q : ℕ) (before more : List Sample) → StandsForRecords (groups_at d.groups q) before → added_to q tallies ≡ map count_of more → StandsForRecords (groups_at e.groups q) (before ++ more)
  pub takes : TakesEntries d.audit.standing entries e.audit.standing

pub message_step : {Q : Type 0} (d e : Engine Q) (h : List Entry) (session number : ℕ) (octets : List ℕ) (reading : Ahead) (shares : List (ℕ × List DataRecord)) (tallies : List (ℕ × List Count)) (entries : List AuditEntry)
    → Stands d h → IsBroughtBy d h session number octets (record { reading = reading; shares = shares; tallies = tallies; entries = entries }) → TakesMessage d e session reading shares tallies entries → Stands e (h ++ Message session number octets ∷ [])
message_step d e h session number octets reading shares tallies entries so is did = record {
  policy = ap (λ (f : InForce). f.policy) did.in_force ∙ so.policy ∙ sym (policy-message h session number octets);
  clock = clock_kept d e h (Message session number octets) so did.in_force refl;
  groups = λ sub. subst (StandsForRecords (groups_at e.groups sub)) (sym (running-message sub h session number octets))
      (did.adds sub (running sub h) (counted_at sub h (Message session number octets)) (so.groups sub) (adds sub));
  edits = did.edits ∙ so.edits ∙ sym (ap (λ (ts : List (List ℕ)). length ts) (no_entry texts_in h (Message session number octets) refl));
  opened = did.opened ∙ so.opened ∙ sym (ap (λ (ns : List ℕ). length ns) (no_entry opened_in h (Message session number octets) refl));
  begun = did.begun ∙ so.begun ∙ sym (ap (λ (ns : List ℕ). length ns) (subscribed-message h session number octets));
  sessions = λ q. by_session q (q == session) refl;
  subscriptions = λ sub. subst (λ limits. IsLiveAs (h ++ Message session number octets ∷ []) limits sub (at e.subscriptions sub)) (sym did.limits)
      (live_taken h session number octets d.limits sub (at d.subscriptions sub) (at e.subscriptions sub) (subst (λ l. Related (TakesGiven l) (at d.subscriptions sub) (at e.subscriptions sub)) (gives sub) (did.each sub)) (so.subscriptions sub));
  served_are = did.served ∙ so.served_are ∙ sym (served_same h (Message session number octets) (λ sub. refl) refl);
  audit = subst (StandsIn e.audit.standing) (ap (λ (l : List AuditEntry). audit_list h ++ l) is.entries_are ∙ sym (audit-push h (Message session number octets))) (did.takes (audit_list h) so.audit);
  limits = subst AreEngineLimits (sym did.limits) so.limits;
  numbered = numbered_message h session number octets is.opened so.numbered;
  small = small_given d h (Message session number octets) shares so (served_only session number octets h) few_noted is.shares_are is.room is.streamable;
}
  where
    gives : (sub : ℕ) → given_to sub shares ≡ given_at sub h (Message session number octets)
    gives sub = ap (given_to sub) is.shares_are ∙ given_is h (Message session number octets) sub so.numbered (served_only session number octets h)

    few_noted : length (audit_at h (Message session number octets)) ≤ MOST_AUDITED
    few_noted = omega (arith, is.few, ap (λ (l : List AuditEntry). length l) is.entries_are)

    adds : (sub : ℕ) → added_to sub tallies ≡ map count_of (counted_at sub h (Message session number octets))
    adds sub = ap (added_to sub) is.tallies_are ∙ added_is h session number octets sub so.numbered

    own : IsSession (h ++ Message session number octets ∷ []) session (at_key session e.sessions)
    own = session_taken h session number octets reading (at_key session d.sessions) (at_key session e.sessions) did.keeps is.read (so.sessions session)

    by_session : (q : ℕ) (same : Bool) → (q == session) ≡ same → IsSession (h ++ Message session number octets ∷ []) q (at_key q e.sessions)
    by_session q true here = subst (λ s. IsSession (h ++ Message session number octets ∷ []) s (at_key s e.sessions)) (sym (eqb-true q session here)) own
    by_session q false here =
        session_stays h (h ++ Message session number octets ∷ []) q (is_open-message q h session number octets) (messages-other q session number octets h (eqb-false q session here)) (at_key q e.sessions)
        (subst (IsSession h q) (sym (did.others q (eqb-false q session here))) (so.sessions q))

-- the places stay
pub places_taken : {Q : Type 0} (d e : Engine Q) (h : List Entry) (session : ℕ) (reading : Ahead) (shares : List (ℕ × List DataRecord)) (tallies : List (ℕ × List Count)) (entries : List AuditEntry) → Stands d h → TakesMessage d e session reading shares tallies entries → (sub : ℕ) → handed_place e sub ≡ handed_place d sub
places_taken d e h session reading shares tallies entries so did sub = at_one (given_to sub shares) (at d.subscriptions sub) (at e.subscriptions sub) (did.each sub) (so.subscriptions sub) where
  at_one : (more : List DataRecord) (old new : Option Subscription) → Related (TakesGiven more) old new → IsLiveAs h d.limits sub old → place_in new ≡ place_in old
  at_one more None None takes so = refl
  at_one more None (Some t) takes so = absurd takes
  at_one more (Some s) None takes so = absurd takes
  at_one more (Some s) (Some t) takes so = (takes.takes.stands (disclosed sub h) (place s.stream.standing) so.stream).place
