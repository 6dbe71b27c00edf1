-- An engine in which room was made is as it was, for all that contracts see.
use Rattle.std.proofs.Common.{◌≡◌, ℕ, ◌≤◌, ◌+◌, List, [], ◌∷◌, length, Option, Some, None, refl, sym, ap, ◌∙◌, subst}
use Rattle.std.specs.Prelude.{IsSomeAnd}
use Rattle.std.specs.Option.{option_map}
use Rattle.std.specs.List.{AllByRecursion}
use Rattle.ipfix_template.specs.DataRecord.{DataRecord}
use Rattle.ipfix_session.specs.Keeping.{at_key}
use Rattle.ipfix_session.specs.Standing.{SessionStanding, SessionStands as HoldsFor}
use Rattle.subscriber_stream.specs.declared.limits.StreamLimits.{StreamLimits}
use Rattle.subscriber_stream.specs.Shapes.{shapes_after}
use Rattle.subscriber_stream.specs.Standing.{StreamStanding, StandsAt, HasStreamRoom, queue_size}
use Rattle.disclosure_audit.specs.Queue.{StandsIn, notes_for, most_notes, AuditStanding as Audited}
use Rattle.disclosure_audit.specs.declared.entry.AuditEntry.{AuditEntry}
use Rattle.event_journal.specs.declared.entry.Entry.{Entry}
use Rattle.event_journal.specs.declared.entry.Entry.TheVariants.{Message}
use Rattle.mediator_history.specs.Sessions.{messages_of}
use Rattle.mediator_history.specs.Subscriptions.{served}
use Rattle.mediator_history.specs.Counting.{running}
use Rattle.mediator_history.specs.Disclosed.{disclosed, given_at}
use Rattle.mediator_history.specs.Auditing.{audit_list}
use Rattle.mediator_history.specs.Cuts.{overflows, is_cut_by}
use Rattle.mediator_history.proofs.ListFilters.{filter_ext}
use Rattle.mediator_tables.specs.declared.open_session.OpenSession.{OpenSession}
use Rattle.mediator_tables.specs.SessionTable.{SeenSession, seen as session_seen}
use Rattle.mediator_tables.specs.declared.subscription.Subscription.{Subscription}
use Rattle.mediator_tables.specs.SubscriptionTable.{SeenSubscription, seen_subscription, at}
use Rattle.mediator_shares.specs.InForce.{InForce}
use Rattle.flow_aggregate.specs.Running.{Entries, SumsStand as StandsForRecords}
use Rattle.mediator_state.specs.declared.engine.Engine.{Engine}
use Rattle.mediator_state.specs.declared.plan.MessagePlan.{MessagePlan}
use Rattle.mediator_tables.specs.Sessions.{IsSession}
use Rattle.mediator_state.specs.Standing.{place, IsLiveAs, AreEngineLimits, Stands}
use Rattle.mediator_state.specs.Seen.{place_in, waiting_in, waiting_of, IsUntouched, IsSameEngine}
use Rattle.disclosure_audit.specs.Noting.{kept_notes}
use Rattle.mediator_state.specs.Planning.{HasRoomIn, IsJudged, IsPlan}

some_same : {A : Type 0} (x y : A) → Some x ≡ Some y → x ≡ y
some_same x y e = cc

-- ---- one session, one subscription

session_same : (h : List Entry) (session : ℕ) (o n : Option OpenSession) → option_map session_seen n ≡ option_map session_seen o → IsSession h session o → IsSession h session n
session_same h session None None e is = is
session_same h session None (Some t) e is = absurd cc
session_same h session (Some s) None e is = absurd cc
session_same h session (Some s) (Some t) e is =
    let same : session_seen t ≡ session_seen s = some_same (session_seen t) (session_seen s) e in
    (is.0, ap (λ (x : SeenSession). x.accepted) same ∙ is.1, subst (λ (x : SessionStanding). HoldsFor x (messages_of session h)) (sym (ap (λ (x : SeenSession). x.standing) same)) is.2)

subscription_same : (h : List Entry) (limits : StreamLimits) (sub : ℕ) (o n : Option Subscription) → option_map seen_subscription n ≡ option_map seen_subscription o → IsLiveAs h limits sub o → IsLiveAs h limits sub n
subscription_same h limits sub None None e is = is
subscription_same h limits sub None (Some t) e is = absurd cc
subscription_same h limits sub (Some s) None e is = absurd cc
subscription_same h limits sub (Some s) (Some t) e is =
    let same : seen_subscription t ≡ seen_subscription s = some_same (seen_subscription t) (seen_subscription s) e in
    record {
      live = is.live;
      name = ap (λ (x : SeenSubscription). x.name) same ∙ is.name;
      cut = ap (λ (x : SeenSubscription). x.is_cut) same ∙ is.cut;
      stream = subst (λ (x : StreamStanding). StandsAt x (disclosed sub h) (place x)) (sym (ap (λ (x : SeenSubscription). x.standing) same)) is.stream;
      limits_are = ap (λ (x : SeenSubscription). x.limits) same ∙ is.limits_are;
    }

place_same : (o n : Option Subscription) → option_map seen_subscription n ≡ option_map seen_subscription o → place_in n ≡ place_in o
place_same None None e = refl
place_same None (Some t) e = absurd cc
place_same (Some s) None e = absurd cc
place_same (Some s) (Some t) e = ap (λ (x : SeenSubscription). place x.standing) (some_same (seen_subscription t) (seen_subscription s) e)

waiting_same : (o n : Option Subscription) → option_map seen_subscription n ≡ option_map seen_subscription o → waiting_in n ≡ waiting_in o
waiting_same None None e = refl
waiting_same None (Some t) e = absurd cc
waiting_same (Some s) None e = absurd cc
waiting_same (Some s) (Some t) e = ap (λ (x : SeenSubscription). queue_size x.standing) (some_same (seen_subscription t) (seen_subscription s) e)

room_same : (more : List DataRecord) (o n : Option Subscription) → option_map seen_subscription n ≡ option_map seen_subscription o → IsSomeAnd o (λ s. HasStreamRoom s.stream more) → IsSomeAnd n (λ s. HasStreamRoom s.stream more)
room_same more None n e is = absurd is
room_same more (Some s) None e is = absurd cc
room_same more (Some s) (Some t) e is =
    let same : seen_subscription t ≡ seen_subscription s = some_same (seen_subscription t) (seen_subscription s) e in
    record {
      queue = subst (λ (x : SeenSubscription). queue_size x.standing + length more ≤ x.limits.queue) (sym same) is.queue;
      shapes = subst (λ (x : SeenSubscription). length (shapes_after x.standing.shapes more) ≤ x.limits.shapes) (sym same) is.shapes;
    }

-- ---- the engine

pub stands_same : {Q : Type 0} (d e : Engine Q) (h : List Entry) → IsSameEngine d e → Stands d h → Stands e h
stands_same d e h same s = record {
  policy = ap (λ (f : InForce). f.policy) same.in_force ∙ s.policy;
  clock = ap (λ (f : InForce). f.clock) same.in_force ∙ s.clock;
  groups = λ n. subst (λ (es : Entries). StandsForRecords es (running n h)) (sym (same.groups n)) (s.groups n);
  edits = same.edits ∙ s.edits;
  opened = same.opened ∙ s.opened;
  begun = same.begun ∙ s.begun;
  sessions = λ n. session_same h n (at_key n d.sessions) (at_key n e.sessions) (same.sessions n) (s.sessions n);
  subscriptions = λ n. subst (λ (l : StreamLimits). IsLiveAs h l n (at e.subscriptions n)) (sym same.limits) (subscription_same h d.limits n (at d.subscriptions n) (at e.subscriptions n) (same.subscriptions.each n) (s.subscriptions n));
  served_are = same.subscriptions.served ∙ s.served_are;
  audit = subst (λ (a : Audited). StandsIn a (audit_list h)) (sym same.audit) s.audit;
  limits = subst (λ (l : StreamLimits). AreEngineLimits l) (sym same.limits) s.limits;
  numbered = s.numbered;
  small = s.small;
}

pub untouched_same : {Q : Type 0} (d e : Engine Q) → IsSameEngine d e → IsUntouched d e
untouched_same d e same = record {
  places = λ n. place_same (at d.subscriptions n) (at e.subscriptions n) (same.subscriptions.each n);
  drained = ap (λ (a : Audited). a.drained) same.audit;
  limits = same.limits;
  audit_limit = same.audit_limit;
}

pub untouched_after : {Q : Type 0} (a b c : Engine Q) → IsUntouched a b → IsUntouched b c → IsUntouched a c
untouched_after a b c first then = record {
  places = λ n. then.places n ∙ first.places n;
  drained = then.drained ∙ first.drained;
  limits = then.limits ∙ first.limits;
  audit_limit = then.audit_limit ∙ first.audit_limit;
}

cut_by_same : {Q : Type 0} (d e : Engine Q) (h : List Entry) (entry : Entry) → IsSameEngine d e → (sub : ℕ) → is_cut_by d.limits h entry (waiting_of d) sub ≡ is_cut_by e.limits h entry (waiting_of e) sub
cut_by_same d e h entry same sub =
    ap (λ (n : ℕ). overflows d.limits (disclosed sub h) n (given_at sub h entry)) (sym (waiting_same (at d.subscriptions sub) (at e.subscriptions sub) (same.subscriptions.each sub)))
    ∙ ap (λ (l : StreamLimits). overflows l (disclosed sub h) (waiting_of e sub) (given_at sub h entry)) (sym same.limits)

rooms_same : {Q : Type 0} (d e : Engine Q) → IsSameEngine d e → (shares : List (ℕ × List DataRecord)) → AllByRecursion (HasRoomIn d.subscriptions) shares → AllByRecursion (HasRoomIn e.subscriptions) shares
rooms_same d e same [] all = tt
rooms_same d e same (s ∷ ss) all = (λ some. room_same s.1 (at d.subscriptions s.0) (at e.subscriptions s.0) (same.subscriptions.each s.0) (all.0 some), rooms_same d e same ss all.1)

pub judged_same : {Q : Type 0} (d e : Engine Q) (h : List Entry) (entry : Entry) (cuts : List ℕ) (shares : List (ℕ × List DataRecord)) (entries : List AuditEntry) → IsSameEngine d e → IsJudged d h entry cuts shares entries → IsJudged e h entry cuts shares entries
judged_same d e h entry cuts shares entries same j = record {
  cuts_are = j.cuts_are ∙ filter_ext (is_cut_by d.limits h entry (waiting_of d)) (is_cut_by e.limits h entry (waiting_of e)) (cut_by_same d e h entry same) (served h);
  shares_are = j.shares_are;
  entries_are = j.entries_are;
  room = rooms_same d e same shares j.room;
  streamable = j.streamable;
}

-- as many notes of a message are to be kept
notes_same : {Q : Type 0} (d e : Engine Q) → IsSameEngine d e → most_notes e.audit ≡ most_notes d.audit
notes_same d e same = ap (λ (a : Audited). notes_for a.entries e.audit.limit) same.audit ∙ ap (λ (n : ℕ). notes_for d.audit.standing.entries n) same.audit_limit

pub plan_same : {Q : Type 0} (d e : Engine Q) (h : List Entry) (number : ℕ) (octets : List ℕ) (p : MessagePlan) → IsSameEngine d e → IsPlan d h number octets p → IsPlan e h number octets p
plan_same d e h number octets p same plan = record {
  opened = plan.opened;
  turn = plan.turn;
  read = plan.read;
  named = plan.named;
  kept = plan.kept ∙ ap (λ (n : ℕ). kept_notes n plan.named) (sym (notes_same d e same));
  judged = judged_same d e h (Message p.session.0 number octets) p.cuts.items _ _ same plan.judged;
  tallied_are = plan.tallied_are;
}
