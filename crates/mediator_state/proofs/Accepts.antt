-- A plan that is carried out: the cuts, and then the message.
use Rattle.std.proofs.Common.{◌≡◌, ◌≢◌, ℕ, ◌+◌, ◌*◌, ◌≤◌, ◌<◌, ◌^◌, Bool, true, false, cond, List, [], ◌∷◌, length, map, take, drop, slice_get, Option, Some, None, refl, sym, ap, ◌∙◌, subst, arith, length-append}
use Rattle.std.specs.Prelude.{IsSomeAnd, IfSome, not, ◌&&◌}
use Rattle.std.specs.Option.{option_map}
use Rattle.std.specs.List.{flat_map, AllByRecursion}
use Rattle.std.proofs.lemmas.List.{length-map, length-drop, take-append-drop}
use Rattle.ipfix_template.specs.DataRecord.{DataRecord}
use Rattle.ipfix_session.specs.Keeping.{at_key}
use Rattle.ipfix_session.specs.ReadAhead.{Ahead, IsReadingOf, HasRoomFor}
use Rattle.subscriber_stream.specs.declared.limits.StreamLimits.{StreamLimits}
use Rattle.subscriber_stream.specs.Parts.{parts, records_of_parts}
use Rattle.subscriber_stream.specs.Standing.{StreamStanding, StandsAt, HasStreamRoom, queue_size}
use Rattle.subscriber_stream.proofs.CallLaws.{parts_bring}
use Rattle.subscriber_stream.proofs.Standings.{records_in-append}
use Rattle.disclosure_audit.specs.Noting.{KeptNotes, kept_notes}
use Rattle.disclosure_audit.specs.Queue.{stamp, most_notes}
use Rattle.event_journal.specs.declared.entry.Entry.{Entry}
use Rattle.event_journal.specs.declared.entry.Entry.TheVariants.{Message, Advance}
use Rattle.mediator_history.specs.Numbers.{AreDistinct, is_in}
use Rattle.mediator_history.specs.Sessions.{is_open}
use Rattle.mediator_history.specs.Subscriptions.{is_served, subscribed_in, served}
use Rattle.mediator_history.specs.Counting.{counted_at}
use Rattle.mediator_history.specs.Disclosed.{given_at, disclosed}
use Rattle.mediator_history.specs.Auditing.{audit_list}
use Rattle.mediator_history.specs.Cuts.{after_cuts}
use Rattle.mediator_history.proofs.ListFilters.{distinct_filter}
use Rattle.mediator_history.proofs.EntryLaws.{messages_few, all_served}
use Rattle.mediator_history.proofs.CutLaws.{is_open-cuts, messages-cuts, length-cuts, is_served-cuts}
use Rattle.flow_aggregate.specs.declared.addition.Addition.{Addition}
use Rattle.flow_aggregate.specs.Counts.{Count, count_of}
use Rattle.flow_aggregate.specs.Additions.{AreReadyToAdd}
use Rattle.flow_aggregate.specs.Running.{HeldGroups, nothing_held}
use Rattle.mediator_tables.specs.GroupTable.{held_at}
use Rattle.mediator_tables.specs.SubscriptionTable.{shown}
use Rattle.mediator_tables.specs.Adding.{tallied}
use Rattle.mediator_tables.specs.declared.open_session.OpenSession.{OpenSession}
use Rattle.mediator_tables.specs.declared.subscription.Subscription.{Subscription}
use Rattle.mediator_tables.specs.SubscriptionTable.{at, cut_off, HasSpare, IsReady, AreReadyAmong}
use Rattle.mediator_state.specs.declared.engine.Engine.{Engine}
use Rattle.mediator_state.specs.declared.closing.Closing.{Closing}
use Rattle.mediator_state.specs.declared.plan.MessagePlan.{MessagePlan}
use Rattle.mediator_tables.specs.Sessions.{IsSession}
use Rattle.mediator_state.specs.Standing.{Stands, place, IsLiveAs, AreEngineLimits}
use Rattle.mediator_state.specs.Steps.{CutsInARow, HasAuditRoom}
use Rattle.mediator_tables.specs.Adding.{AllReady, NoneTwice}
use Rattle.mediator_state.specs.Planning.{share_at, AreTallied, HasRoomIn, IsJudged, IsPlan}
use Rattle.mediator_state.specs.Accepting.{HasRoomForPlan, IsPlannedFor, IsReadyToTake, IsBroughtBy}
use Rattle.mediator_state.specs.Advancing.{HasRoomToClose, IsClosingFor, IsReadyToClose, AreClosings}
use Rattle.mediator_state.proofs.MessageSteps.{few_given}
use Rattle.event_journal.specs.declared.limits.TheConstants.{MOST_ENTRIES}
use Rattle.disclosure_audit.specs.declared.audit.TheConstants.{MOST_ENTRIES as MOST_AUDITED}
use Rattle.subscriber_stream.specs.declared.limits.TheConstants.{MOST_QUEUE}

-- ---- counts

-- what was handed out and what waits is the whole list
whole : (s : StreamStanding) (records : List DataRecord) → StandsAt s records (place s) → s.handed + queue_size s ≡ length records
whole s records so =
    omega (arith, so.handed, ap (λ ps. length (records_of_parts ps)) so.waiting, streamed records (place s))
  where
    streamed : (records : List DataRecord) (p : ℕ) → length (records_of_parts (take p (parts records))) + length (records_of_parts (drop p (parts records))) ≡ length records
    streamed records p =
        sym (length-append (records_of_parts (take p (parts records))) (records_of_parts (drop p (parts records))))
        ∙ ap (λ (rs : List DataRecord). length rs) (sym (records_in-append (take p (parts records)) (drop p (parts records))) ∙ ap records_of_parts (take-append-drop p (parts records)) ∙ parts_bring records)

-- the audit counts no more than the history allows
pub audit_count : {Q : Type 0} (e : Engine Q) (h : List Entry) → Stands e h → e.audit.standing.drained + e.audit.standing.waiting ≤ MOST_AUDITED * length h
audit_count e h so = omega (arith, so.audit.within, so.audit.waiting, length-drop e.audit.standing.drained (audit_list h), so.small.audited)

-- ---- the session

session_room : (h : List Entry) (session : ℕ) (reading : Ahead) (o : Option OpenSession) → IsSession h session o → is_open session h ≡ true → IfSome o (λ s. HasRoomFor s.session reading) → IsSomeAnd o (λ s. HasRoomFor s.session reading)
session_room h session reading None so on room = false_true (sym so ∙ on) where
  false_true : false ≡ true → ⊥
  false_true e = absurd cc
session_room h session reading (Some s) so on room = room

session_count : (h : List Entry) (session : ℕ) (o : Option OpenSession) → length h ≤ MOST_ENTRIES → IsSession h session o → IfSome o (λ s. s.accepted + 1 < 2 ^ 64)
session_count h session None few so = tt
session_count h session (Some s) few so = omega (arith, so.1, messages_few session h, few)

-- ---- the streams

-- a cut leaves a subscription's stream
same_room : (more : List DataRecord) (in' : Bool) (s : Option Subscription) → IsSomeAnd s (λ x. HasStreamRoom x.stream more) → IsSomeAnd (cond in' (option_map cut_off s) s) (λ x. HasStreamRoom x.stream more)
same_room more true None room = room
same_room more true (Some s) room = room
same_room more false s room = room

kept_room : {Q : Type 0} (d e : Engine Q) (cuts : List ℕ) → CutsInARow cuts d e → (share : ℕ × List DataRecord) → HasRoomIn d.subscriptions share → HasRoomIn e.subscriptions share
kept_room d e cuts row share room some =
    subst (λ (s : Option Subscription). IsSomeAnd s (λ x. HasStreamRoom x.stream share.1)) (sym (row.table share.0)) (same_room share.1 (is_in share.0 cuts) (at d.subscriptions share.0) (room some))

pub rooms_kept : {Q : Type 0} (d e : Engine Q) (cuts : List ℕ) → CutsInARow cuts d e → (shares : List (ℕ × List DataRecord)) → AllByRecursion (HasRoomIn d.subscriptions) shares → AllByRecursion (HasRoomIn e.subscriptions) shares
rooms_kept d e cuts row [] rooms = tt
rooms_kept d e cuts row (share ∷ shares) rooms = (kept_room d e cuts row share rooms.0, rooms_kept d e cuts row shares rooms.1)

same_spare : (n : ℕ) (in' : Bool) (s : Option Subscription) → IfSome s (λ x. n ≤ x.stream.spare) → IfSome (cond in' (option_map cut_off s) s) (λ x. n ≤ x.stream.spare)
same_spare n true None spare = spare
same_spare n true (Some s) spare = spare
same_spare n false s spare = spare

-- a live subscription is ready for its share
ready_one : (limits : StreamLimits) (h : List Entry) (share : ℕ × List DataRecord) (s : Option Subscription) → AreEngineLimits limits → length h ≤ 2 * MOST_ENTRIES → length (disclosed share.0 h) ≤ MOST_QUEUE * length h → IsLiveAs h limits share.0 s
    → (0 < length share.1 → IsSomeAnd s (λ x. HasStreamRoom x.stream share.1)) → IfSome s (λ x. length share.1 ≤ x.stream.spare) → IfSome s (λ x. IsReady x.stream share.1)
ready_one limits h share None range short listed so room spare = tt
ready_one limits h share (Some x) range short listed so room spare = record {
  room = room;
  reserved = spare;
  count = omega (arith, whole x.stream.standing (disclosed share.0 h) so.stream, listed, short, few_given share limits h (Some x) range so room);
}

others_apart : (f : ℕ → List DataRecord) (n : ℕ) (ns : List ℕ) → AllByRecursion (λ m. m ≢ n) ns → AllByRecursion (λ (o : ℕ × List DataRecord). o.0 ≢ n) (map (λ m. (m, f m)) ns)
others_apart f n [] apart = tt
others_apart f n (m ∷ ns) apart = (apart.0, others_apart f n ns apart.1)

ready_all : {Q : Type 0} (e : Engine Q) (f : ℕ → List DataRecord) (ns : List ℕ) → ((n : ℕ) → HasRoomIn e.subscriptions (n, f n) → HasSpare e.subscriptions.live (n, f n) → IfSome (at e.subscriptions n) (λ x. IsReady x.stream (f n))) → AreDistinct ns
    → AllByRecursion (HasRoomIn e.subscriptions) (map (λ n. (n, f n)) ns) → AllByRecursion (HasSpare e.subscriptions.live) (map (λ n. (n, f n)) ns) → AreReadyAmong e.subscriptions.live (map (λ n. (n, f n)) ns)
ready_all e f [] one distinct rooms spares = tt
ready_all e f (n ∷ ns) one distinct rooms spares = (one n rooms.0 spares.0, others_apart f n ns distinct.0, ready_all e f ns one distinct.1 rooms.1 spares.1)

spares_kept : {Q : Type 0} (d e : Engine Q) (cuts : List ℕ) → CutsInARow cuts d e → (shares : List (ℕ × List DataRecord)) → AllByRecursion (HasSpare d.subscriptions.live) shares → AllByRecursion (HasSpare e.subscriptions.live) shares
spares_kept d e cuts row [] spares = tt
spares_kept d e cuts row (share ∷ shares) spares = (
  subst (λ (s : Option Subscription). IfSome s (λ x. length share.1 ≤ x.stream.spare)) (sym (row.table share.0)) (same_spare (length share.1) (is_in share.0 cuts) (at d.subscriptions share.0) spares.0),
  spares_kept d e cuts row shares spares.1,
)

-- the streams of those that are left are ready for what an entry gives them
pub streams_ready : {Q : Type 0} (d e : Engine Q) (h : List Entry) (x : Entry) (cuts : List ℕ) (shares : List (ℕ × List DataRecord))
    → Stands e (after_cuts h cuts) → length (after_cuts h cuts) ≤ 2 * MOST_ENTRIES → CutsInARow cuts d e → shares ≡ map (share_at (after_cuts h cuts) x) (served (after_cuts h cuts))
    → AllByRecursion (HasRoomIn d.subscriptions) shares → AllByRecursion (HasSpare d.subscriptions.live) shares → AreReadyAmong e.subscriptions.live shares
streams_ready d e h x cuts shares so long row are rooms spares =
    subst (AreReadyAmong e.subscriptions.live) (sym are)
    (ready_all e (λ n. given_at n (after_cuts h cuts) x) (served (after_cuts h cuts))
    (λ n has spare. ready_one e.limits (after_cuts h cuts) (n, given_at n (after_cuts h cuts) x) (at e.subscriptions n) so.limits long (so.small.listed n) (so.subscriptions n) has spare)
    (distinct_filter (λ s. is_served s (after_cuts h cuts)) (flat_map subscribed_in (after_cuts h cuts)) so.numbered.distinct)
    (subst (AllByRecursion (HasRoomIn e.subscriptions)) are (rooms_kept d e cuts row shares rooms))
    (subst (AllByRecursion (HasSpare e.subscriptions.live)) are (spares_kept d e cuts row shares spares)))

-- ---- groups

left_uncut : (h : List Entry) (cuts : List ℕ) (ns : List ℕ) → AllByRecursion (λ n. is_served n (after_cuts h cuts) ≡ true) ns → AllByRecursion (λ n. is_in n cuts ≡ false) ns
left_uncut h cuts [] on = tt
left_uncut h cuts (n ∷ ns) on = (uncut (is_served n h) (is_in n cuts) (sym (is_served-cuts n h cuts) ∙ on.0), left_uncut h cuts ns on.1) where
  uncut : (a b : Bool) → (a && not b) ≡ true → b ≡ false
  uncut true false so = refl
  uncut true true so = absurd cc
  uncut false b so = absurd cc

tallies_apart : (g : ℕ → List Count) (n : ℕ) (ns : List ℕ) → AllByRecursion (λ m. m ≢ n) ns → AllByRecursion (λ (o : ℕ × List Count). o.0 ≢ n) (map (λ m. (m, g m)) ns)
tallies_apart g n [] apart = tt
tallies_apart g n (m ∷ ns) apart = (apart.0, tallies_apart g n ns apart.1)

all_apart : (g : ℕ → List Count) (ns : List ℕ) → AreDistinct ns → NoneTwice (map (λ n. (n, g n)) ns)
all_apart g [] distinct = tt
all_apart g (n ∷ ns) distinct = (tallies_apart g n ns distinct.0, all_apart g ns distinct.1)

-- what is ready for those that are left stays so
left_ready : {Q : Type 0} (d e : Engine Q) (cuts : List ℕ) (g : ℕ → List Count) (reserved : List (ℕ × List Addition)) (ns : List ℕ) → CutsInARow cuts d e → AllByRecursion (λ n. is_in n cuts ≡ false) ns
    → AllReady d.groups reserved (map (λ n. (n, g n)) ns) → AllReady e.groups reserved (map (λ n. (n, g n)) ns)
left_ready d e cuts g [] [] row uncut made = tt
left_ready d e cuts g [] (n ∷ ns) row uncut made = absurd made
left_ready d e cuts g (r ∷ rs) [] row uncut made = absurd made
left_ready d e cuts g (r ∷ rs) (n ∷ ns) row uncut made = (
  (λ some. ap (λ (ks : List ℕ). slice_get ks r.0) row.places ∙ made.0.0 some, subst (λ (h : HeldGroups). AreReadyToAdd h r.1 (g n)) (sym (row.groups n ∙ ap (λ (b : Bool). cond b nothing_held (held_at d.groups n)) uncut.0)) made.0.1),
  left_ready d e cuts g rs ns row uncut.1 made.1,
)

pub groups_ready : {Q : Type 0} (d e : Engine Q) (h : List Entry) (x : Entry) (cuts : List ℕ) (reserved : List (ℕ × List Addition)) (tallies : List (ℕ × List Count))
    → Stands e (after_cuts h cuts) → CutsInARow cuts d e → AreTallied (after_cuts h cuts) x tallies → (NoneTwice tallies → AllReady d.groups reserved tallies)
    → AllReady e.groups reserved tallies × NoneTwice tallies
groups_ready d e h x cuts reserved tallies so row are made =
    let g : ℕ → List Count = λ n. map count_of (counted_at n (after_cuts h cuts) x) in
    let left : List ℕ = served (after_cuts h cuts) in
    let apart : NoneTwice tallies =
    subst NoneTwice (sym are) (all_apart g left (distinct_filter (λ s. is_served s (after_cuts h cuts)) (flat_map subscribed_in (after_cuts h cuts)) so.numbered.distinct)) in (
      subst (AllReady e.groups reserved) (sym are)
          (left_ready d e cuts g reserved left row (left_uncut h cuts left (all_served (after_cuts h cuts))) (subst (AllReady d.groups reserved) are (made apart))),
      apart,
    )

-- ---- a plan

-- behind the cuts the message is what the plan says
pub is_message : {Q : Type 0} (d e : Engine Q) (h : List Entry) (number : ℕ) (octets : List ℕ) (p : MessagePlan) (reserved : List (ℕ × List Addition)) (plan : IsPlan d h number octets p) → HasRoomForPlan d p reserved → CutsInARow p.cuts.items d e
    → IsBroughtBy e (after_cuts h p.cuts.items) p.session.0 number octets (record { reading = p.reading; shares = map shown p.shares.items; tallies = map tallied p.tallies.items; entries = map (stamp p.position) plan.named })
is_message d e h number octets p reserved plan room row = record {
  opened = is_open-cuts p.session.0 h p.cuts.items ∙ plan.opened;
  read = subst (λ ms. IsReadingOf ms octets p.reading) (sym (messages-cuts p.session.0 h p.cuts.items)) plan.read;
  shares_are = plan.judged.shares_are;
  tallies_are = plan.tallied_are;
  entries_are = plan.judged.entries_are;
  room = rooms_kept d e p.cuts.items row (map shown p.shares.items) plan.judged.room;
  streamable = plan.judged.streamable;
  few = omega (arith, room.audit, room.limit, length-map plan.named (stamp p.position), ap (λ (k : KeptNotes). k.count) plan.kept);
}

-- there is room for the cuts
pub cuts_room : {Q : Type 0} (d : Engine Q) (position : ℕ) (p : MessagePlan) (reserved : List (ℕ × List Addition)) → IsPlannedFor d position p → HasRoomForPlan d p reserved → HasAuditRoom d.audit (length p.cuts.items)
cuts_room d position p reserved planned room = record {
  room = omega (arith, room.audit);
  reserved = omega (arith, room.reserved);
  count = omega (arith, audit_count d planned.history planned.stands, planned.counted, planned.short, room.audit, room.limit);
}

-- and behind them for the message
pub ready : {Q : Type 0} (d e : Engine Q) (position : ℕ) (p : MessagePlan) (reserved : List (ℕ × List Addition)) → IsPlannedFor d position p → HasRoomForPlan d p reserved → CutsInARow p.cuts.items d e → most_notes e.audit ≡ most_notes d.audit
    → ((h : List Entry) → Stands d h → length h ≡ position → Stands e (after_cuts h p.cuts.items)) → IsReadyToTake e p.session.0 p.reading (map shown p.shares.items) reserved p.notes
ready d e position p reserved planned room row noting stands =
    let h = planned.history in
    let cuts = p.cuts.items in
    let so : Stands e (after_cuts h cuts) = stands h planned.stands planned.counted in
    let long : length (after_cuts h cuts) ≤ 2 * MOST_ENTRIES = omega (arith, length-cuts h cuts, planned.counted, planned.short, room.audit, room.limit) in
    let E : Entry = Message p.session.0 planned.number planned.octets in
    record {
      history = after_cuts h cuts;
      stands = so;
      session_room = subst (λ ss. IsSomeAnd (at_key p.session.0 ss) (λ o. HasRoomFor o.session p.reading)) (sym row.rest.sessions) (session_room h p.session.0 p.reading (at_key p.session.0 d.sessions) (planned.stands.sessions p.session.0) planned.plan.opened room.session);
      session_count = subst (λ ss. IfSome (at_key p.session.0 ss) (λ o. o.accepted + 1 < 2 ^ 64)) (sym row.rest.sessions) (session_count h p.session.0 (at_key p.session.0 d.sessions) (omega (arith, planned.counted, planned.short)) (planned.stands.sessions p.session.0));
      streams = streams_ready d e h E cuts (map shown p.shares.items) so long row planned.plan.judged.shares_are planned.plan.judged.room room.streams;
      groups = let made = groups_ready d e h E cuts reserved (map tallied p.tallies.items) so row planned.plan.tallied_are room.groups in (map tallied p.tallies.items, made.0, made.1);
      named = planned.plan.named;
      kept = planned.plan.kept ∙ ap (λ (n : ℕ). kept_notes n planned.plan.named) (sym noting);
      audit = omega (arith, row.entries, row.rest.audit_limit, room.audit);
      reserved = omega (arith, row.spare, room.reserved);
      count = omega (arith, audit_count e (after_cuts h cuts) so, long, room.audit, room.limit);
    }

-- ---- an advance of the clock

pub close_cuts_room : {Q : Type 0} (d : Engine Q) (position t : ℕ) (c : Closing) → IsClosingFor d position t c → HasRoomToClose d c → HasAuditRoom d.audit (length c.cuts.items)
close_cuts_room d position t c planned room = record {
  room = room.audit.room;
  reserved = room.audit.reserved;
  count = omega (arith, audit_count d planned.history planned.stands, planned.counted, planned.short, room.audit.room, room.audit.limit);
}

pub ready_to_close : {Q : Type 0} (d e : Engine Q) (position t : ℕ) (c : Closing) → IsClosingFor d position t c → HasRoomToClose d c → CutsInARow c.cuts.items d e
    → ((h : List Entry) → Stands d h → length h ≡ position → Stands e (after_cuts h c.cuts.items)) → IsReadyToClose e (map shown c.shares.items)
ready_to_close d e position t c planned room row stands =
    let h = planned.history in
    let cuts = c.cuts.items in
    let so : Stands e (after_cuts h cuts) = stands h planned.stands planned.counted in
    let long : length (after_cuts h cuts) ≤ 2 * MOST_ENTRIES = omega (arith, length-cuts h cuts, planned.counted, planned.short, room.audit.room, room.audit.limit) in
    record {
      history = after_cuts h cuts;
      stands = so;
      streams = streams_ready d e h (Advance t) cuts (map shown c.shares.items) so long row planned.judged.shares_are planned.judged.room room.streams;
    }

pub are_closings : {Q : Type 0} (d e : Engine Q) (h : List Entry) (t : ℕ) (c : Closing) → IsJudged d h (Advance t) c.cuts.items (map shown c.shares.items) [] → CutsInARow c.cuts.items d e
    → AreClosings e (after_cuts h c.cuts.items) t (map shown c.shares.items)
are_closings d e h t c judged row = record {
  shares_are = judged.shares_are;
  room = rooms_kept d e c.cuts.items row (map shown c.shares.items) judged.room;
  streamable = judged.streamable;
}
