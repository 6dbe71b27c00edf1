-- What the calls of a mediator's state say to its callers.
use Rattle.std.proofs.Common.{◌≡◌, ℕ, ◌+◌, ◌<◌, ◌≤◌, ◌^◌, Bool, true, false, cond, List, [], ◌∷◌, ◌++◌, length, take, drop, Option, Some, None, Result, Ok, Err, refl, sym, ap, ◌∙◌, subst, append-nil, arith}
use Rattle.std.specs.Prelude.{◌≢◌, ◌==◌, min, unwrap_or, OnOk, OnErr, IfOk, IfErr}
use Rattle.std.proofs.lemmas.Bool.{false≢true, eq-eqb}
use Rattle.std.proofs.lemmas.List.{length-take}
use Rattle.sequences.proofs.BeforeLaws.{last_of-push}
use Rattle.ipfix_session.specs.Meaning.{meaning_of}
use Rattle.subscriber_stream.specs.declared.limits.StreamLimits.{StreamLimits}
use Rattle.subscriber_stream.specs.Message.{built, place_after}
use Rattle.disclosure_audit.specs.declared.entry.AuditEntry.{AuditEntry}
use Rattle.event_journal.specs.declared.entry.Entry.{Entry}
use Rattle.event_journal.specs.declared.entry.Entry.TheVariants.{Open, Close, Message, Edit, Subscribe, Unsubscribe, Advance}
use Rattle.event_journal.specs.Room.{JournalLimits, HasRoomAfter}
use Rattle.mediator_history.specs.Subscriptions.{begins, is_live, subscriptions_begun}
use Rattle.mediator_history.specs.Disclosed.{disclosed}
use Rattle.mediator_history.specs.Auditing.{audit_list}
use Rattle.prepared_message.specs.Preparation.{Preparation}
use Rattle.mediator_state.specs.declared.fault.Fault.{Fault}
use Rattle.mediator_state.specs.declared.fault.Fault.TheVariants as fault
use Rattle.mediator_state.specs.declared.receipt.Receipt.{Receipt}
use Rattle.mediator_state.specs.declared.receipt.Status.{Status}
use Rattle.mediator_state.specs.Accepting.{receipt_of}
use Rattle.mediator_state.specs.Seen.{handed_place, IsUntouched}
use Rattle.mediator_state.specs.Standing.{AreNumbered, Stands}
use Rattle.mediator_state.specs.Calls as state
use Rattle.mediator_calls.specs.declared.limits.Limits.{Limits}
use Rattle.mediator_calls.specs.Held.{IsHeld}
use Rattle.mediator_calls.specs.Mediation.{Place, Mediation, started, place_at, noted_at, journal_limits}
use Rattle.mediator_calls.specs.View.{KeptState, view_of, tells, limits_of, StandsForJournal, IsStateKept}
use Rattle.mediator_calls.specs.Calls.{GoesOn, Opens, Closes, AuditHolds, with_cuts, Receives, RefusesReceive, RefusesReceivePrepared, Edits, Subscribes, Unsubscribes, Advances, RefusesAdvance, Pulls, IsStatusOf, Drains}
use Rattle.mediator_calls.specs.Sound.{IsSoundMediation}
use Rattle.mediator_calls.proofs.HeldLaws.{held_start, held_open, held_close, held_edit, held_subscribe, held_unsubscribe, held_receive, held_advance, held_pull, held_drain}
use Rattle.mediator_calls.proofs.Places.{place_is, within, unplaced_at, cuts_are, places_same}

-- ---- results

pub on_ok_gives : {X E P Q : Type 0} (r : Result X E) → OnOk r P → (P → Q) → OnOk r Q
on_ok_gives (Ok x) p f = f p
on_ok_gives (Err e) p f = tt

pub if_ok_gives : {X E : Type 0} {P Q : X → Type 0} (r : Result X E) → IfOk r P → ((x : X) → P x → Q x) → IfOk r Q
if_ok_gives (Ok x) p f = f x p
if_ok_gives (Err e) p f = tt

pub if_err_gives : {X E : Type 0} {P Q : E → Type 0} (r : Result X E) → IfErr r P → ((e : E) → P e → Q e) → IfErr r Q
if_err_gives (Ok x) p f = tt
if_err_gives (Err e) p f = f e p

pub if_ok_at : {X E : Type 0} (P : X → Type 0) (r : Result X E) (x : X) → r ≡ Ok x → P x → IfOk r P
if_ok_at P r x is p = rw is p

-- ---- the same mediator

limits_same : (s t : KeptState) → t.engine.limits ≡ s.engine.limits → t.engine.audit.limit ≡ s.engine.audit.limit → t.chronicle.limits ≡ s.chronicle.limits → (view_of t).limits ≡ (view_of s).limits
limits_same s t streams audit journal =
    let of_streams : StreamLimits → Limits = λ l. record { queue = l.queue; shapes = l.shapes; audit = t.engine.audit.limit; entries = t.chronicle.limits.entries; octets = t.chronicle.limits.octets } in
    let of_audit : ℕ → Limits = λ n. record { queue = s.engine.limits.queue; shapes = s.engine.limits.shapes; audit = n; entries = t.chronicle.limits.entries; octets = t.chronicle.limits.octets } in
    let of_journal : JournalLimits → Limits = λ l. record { queue = s.engine.limits.queue; shapes = s.engine.limits.shapes; audit = s.engine.audit.limit; entries = l.entries; octets = l.octets } in
    ap of_streams streams ∙ ap of_audit audit ∙ ap of_journal journal

abbrev made : List Entry → List Place → ℕ → Limits → Mediation
made h places drained limits = record { history = h; places = places; drained = drained; limits = limits }

made_same : (h g : List Entry) (ps qs : List Place) (m n : ℕ) (k l : Limits) → g ≡ h → qs ≡ ps → n ≡ m → l ≡ k → made g qs n l ≡ made h ps m k
made_same h g ps qs m n k l hs places drained limits =
    ap (λ (x : List Entry). made x qs n l) hs ∙ ap (λ (x : List Place). made h x n l) places ∙ ap (λ (x : ℕ). made h ps x l) drained ∙ ap (λ (x : Limits). made h ps m x) limits

pub view_same : (s t : KeptState) → t.chronicle.entries ≡ s.chronicle.entries → IsUntouched s.engine t.engine → t.chronicle.limits ≡ s.chronicle.limits → view_of t ≡ view_of s
view_same s t entries untouched journaled =
    made_same s.chronicle.entries t.chronicle.entries (view_of s).places (view_of t).places s.engine.audit.standing.drained t.engine.audit.standing.drained (view_of s).limits (view_of t).limits
    entries (places_same s t entries untouched.places) untouched.drained (limits_same s t untouched.limits untouched.audit_limit journaled)

-- for every history for which the one stands the other does
abbrev pub KeepsHistories : KeptState → KeptState → Type 0
KeepsHistories s t = state.KeepsHistories tells s t

-- all that contracts see of the one is so of the other
abbrev pub StaysSame : KeptState → KeptState → Type 0
StaysSame s t = state.StaysSame tells limits_of s t

-- a state that stands for a history stands for its journal
pub for_journal : (t : KeptState) (h : List Entry) → state.StateStandsFor tells t h → StandsForJournal t
for_journal t h stands = record { told = refl; stands = subst (λ (g : List Entry). Stands t.engine g) (sym stands.told) stands.stands }

pub stands_on : (s t : KeptState) → StandsForJournal s → KeepsHistories s t → StandsForJournal t
stands_on s t stands keeps = for_journal t s.chronicle.entries (keeps s.chronicle.entries stands)

pub same_on : (s t : KeptState) → StandsForJournal s → StaysSame s t → view_of t ≡ view_of s
same_on s t stands same = view_same s t (same.histories s.chronicle.entries stands).told same.untouched same.journaled

-- a refused call leaves the mediator as it was
pub refused_same : {X E : Type 0} (r : Result X E) (s t : KeptState) (m : Mediation) → StandsForJournal s → view_of s ≡ m → OnErr r (StaysSame s t) → OnErr r (view_of t ≡ m)
refused_same (Ok x) s t m stands is same = tt
refused_same (Err e) s t m stands is same = same_on s t stands same ∙ is

pub for_some : (s : KeptState) → StandsForJournal s → state.StandsForSome tells s
for_some s stands = record { history = s.chronicle.entries; stands = stands }

-- ---- a history that goes on

-- the state goes on with these entries
abbrev pub AcceptsNext : KeptState → KeptState → List Entry → Type 0
AcceptsNext s t more = state.Accepts tells limits_of s t s.chronicle.entries more

pub accepted_stands : (s t : KeptState) (more : List Entry) → AcceptsNext s t more → StandsForJournal t
accepted_stands s t more accepts = for_journal t (s.chronicle.entries ++ more) accepts.stands

pub goes_on_where : (s t : KeptState) (more : List Entry) → StandsForJournal s → AcceptsNext s t more → ((sub : ℕ) → is_live sub t.chronicle.entries ≡ true → handed_place t.engine sub ≡ handed_place s.engine sub)
    → t.engine.audit.standing.drained ≡ s.engine.audit.standing.drained → t.engine.limits ≡ s.engine.limits → t.engine.audit.limit ≡ s.engine.audit.limit → t.chronicle.limits ≡ s.chronicle.limits → GoesOn (view_of s) more (view_of t)
goes_on_where s t more stands accepts places drained streams audit journaled = record {
  room = accepts.room;
  history = accepts.stands.told;
  places = λ sub on. place_is t (accepted_stands s t more accepts) sub ∙ places sub on ∙ sym (place_is s stands sub);
  drained = drained;
  limits = limits_same s t streams audit journaled;
}

pub goes_on : (s t : KeptState) (more : List Entry) → StandsForJournal s → AcceptsNext s t more → IsUntouched s.engine t.engine → t.chronicle.limits ≡ s.chronicle.limits → GoesOn (view_of s) more (view_of t)
goes_on s t more stands accepts untouched journaled = goes_on_where s t more stands accepts (λ sub on. untouched.places sub) untouched.drained untouched.limits untouched.audit_limit journaled

-- ---- each call

pub opens : (s t : KeptState) (n : ℕ) → StandsForJournal s → state.OpensAfter n s.chronicle.entries (AcceptsNext s t) → IsUntouched s.engine t.engine → t.chronicle.limits ≡ s.chronicle.limits → Opens (view_of s) n (view_of t)
opens s t n stands opened untouched journaled = record { number = opened.number; goes_on = goes_on s t (Open n ∷ []) stands opened.accepts untouched journaled }

pub closes : (s t : KeptState) (session : ℕ) → StandsForJournal s → state.ClosesAfter session s.chronicle.entries (AcceptsNext s t) → IsUntouched s.engine t.engine → t.chronicle.limits ≡ s.chronicle.limits → Closes (view_of s) session (view_of t)
closes s t session stands closed untouched journaled = record { opened = closed.opened; goes_on = goes_on s t (Close session ∷ []) stands closed.accepts untouched journaled }

pub edits : (s t : KeptState) (text : List ℕ) (n : ℕ) → StandsForJournal s → state.EditsAfter text n s.chronicle.entries (AcceptsNext s t) → IsUntouched s.engine t.engine → t.chronicle.limits ≡ s.chronicle.limits → Edits (view_of s) text n (view_of t)
edits s t text n stands edited untouched journaled = record {
  policy = edited.policy;
  spelled = edited.spelled;
  revision = edited.revision;
  goes_on = goes_on s t (Edit text ∷ []) stands edited.accepts untouched journaled;
}

-- a subscription that never began has no place
new_place : (s : KeptState) (n : ℕ) → StandsForJournal s → n ≡ subscriptions_begun s.chronicle.entries + 1 → place_at (view_of s) n ≡ 0
new_place s n stands next =
    unplaced_at s stands n (stands.stands.numbered.subscriptions n (omega (arith, next))).gone

pub subscribes : (s t : KeptState) (name : List ℕ) (n : ℕ) → StandsForJournal s → state.SubscribesAfter name n s.chronicle.entries (AcceptsNext s t) → IsUntouched s.engine t.engine → t.chronicle.limits ≡ s.chronicle.limits → Subscribes (view_of s) name n (view_of t)
subscribes s t name n stands begun untouched journaled = record {
  named = begun.named;
  free = begun.free;
  number = begun.number;
  goes_on = goes_on s t (Subscribe n name ∷ []) stands begun.accepts untouched journaled;
  start = place_is t (accepted_stands s t (Subscribe n name ∷ []) begun.accepts) n ∙ untouched.places n ∙ sym (place_is s stands n) ∙ new_place s n stands begun.number;
}

-- what ended isn't live
ended : (h : List Entry) (sub : ℕ) → is_live sub (h ++ Unsubscribe sub ∷ []) ≡ false
ended h sub = last_of-push (begins sub) false h (Unsubscribe sub) ∙ (rw (eq-eqb sub sub refl) refl)

pub unsubscribes : (s t : KeptState) (sub : ℕ) → StandsForJournal s → state.UnsubscribesAfter sub s.chronicle.entries (AcceptsNext s t) → ((q : ℕ) → q ≢ sub → handed_place t.engine q ≡ handed_place s.engine q)
    → t.engine.audit.standing.drained ≡ s.engine.audit.standing.drained → t.engine.limits ≡ s.engine.limits → t.engine.audit.limit ≡ s.engine.audit.limit → t.chronicle.limits ≡ s.chronicle.limits → Unsubscribes (view_of s) sub (view_of t)
unsubscribes s t sub stands over others drained streams audit journaled = record {
  live = over.live;
  goes_on = goes_on_where s t (Unsubscribe sub ∷ []) stands over.accepts kept drained streams audit journaled;
} where
  kept : (q : ℕ) → is_live q t.chronicle.entries ≡ true → handed_place t.engine q ≡ handed_place s.engine q
  kept q on = others q (λ same. false≢true (sym (ap (λ (n : ℕ). is_live n t.chronicle.entries) same ∙ ap (is_live sub) over.accepts.stands.told ∙ ended s.chronicle.entries sub) ∙ ap (λ (n : ℕ). is_live n t.chronicle.entries) refl ∙ on))

-- ---- a message

with_cuts_are : (s : KeptState) → StandsForJournal s → (entry : Entry) → state.with_cuts_after s.engine s.chronicle.entries entry ≡ with_cuts (view_of s) entry
with_cuts_are s stands entry = ap (λ (cuts : List Entry). cuts ++ entry ∷ []) (cuts_are s stands entry)

goes_on_with_cuts : (s t : KeptState) (entry : Entry) → StandsForJournal s → AcceptsNext s t (state.with_cuts_after s.engine s.chronicle.entries entry) → IsUntouched s.engine t.engine → t.chronicle.limits ≡ s.chronicle.limits → GoesOn (view_of s) (with_cuts (view_of s) entry) (view_of t)
goes_on_with_cuts s t entry stands accepts untouched journaled =
    goes_on s t (with_cuts (view_of s) entry) stands (subst (AcceptsNext s t) (with_cuts_are s stands entry) accepts) untouched journaled

-- the audit holds what is named of an entry and its cuts
audit_seen : (s : KeptState) (entry : Entry) → StandsForJournal s → state.AuditHoldsAfter s.engine s.chronicle.entries (state.with_cuts_after s.engine s.chronicle.entries entry) → AuditHolds (view_of s) (with_cuts (view_of s) entry)
audit_seen s entry stands holds = record {
  before = subst (λ (n : ℕ). n ≤ s.engine.audit.limit) stands.stands.audit.waiting holds.before;
  after = subst (λ (more : List Entry). length (drop s.engine.audit.standing.drained (audit_list (s.chronicle.entries ++ more))) ≤ s.engine.audit.limit) (with_cuts_are s stands entry) holds.after;
}

pub receives : (s t : KeptState) (session number : ℕ) (octets : List ℕ) (r : Receipt) → StandsForJournal s → state.ReceivesAfter s.engine session number octets r s.chronicle.entries (AcceptsNext s t) → IsUntouched s.engine t.engine → t.chronicle.limits ≡ s.chronicle.limits → Receives (view_of s) session number octets r (view_of t)
receives s t session number octets r stands got untouched journaled = record {
  next = got.next;
  meaning = got.meaning;
  means = got.means;
  audit = audit_seen s (Message session number octets) stands got.audit;
  goes_on = goes_on_with_cuts s t (Message session number octets) stands got.accepts untouched journaled;
  receipt = got.receipt ∙ ap (λ (cuts : List Entry). receipt_of (length s.chronicle.entries) (length cuts) got.meaning) (cuts_are s stands (Message session number octets));
}

-- there is no room for the entry and its cuts
no_room : (s : KeptState) (entry : Entry) → StandsForJournal s → (HasRoomAfter s.chronicle.limits s.chronicle.entries (state.with_cuts_after s.engine s.chronicle.entries entry) → ⊥) → HasRoomAfter s.chronicle.limits s.chronicle.entries (with_cuts (view_of s) entry) → ⊥
no_room s entry stands lacks room = lacks (subst (λ (more : List Entry). HasRoomAfter s.chronicle.limits s.chronicle.entries more) (sym (with_cuts_are s stands entry)) room)

-- the audit entries of these entries behind a history are so many
abbrev Notes : List Entry → List Entry → ℕ → Type 0
Notes h more need = (noted : List AuditEntry) × (audit_list (h ++ more) ≡ audit_list h ++ noted) × (need ≡ length noted)

-- there is room for the entry and its cuts, but the audit has none
abbrev LacksAuditFor : KeptState → List Entry → ℕ → ℕ → Type 0
LacksAuditFor s more need room =
    HasRoomAfter s.chronicle.limits s.chronicle.entries more × Notes s.chronicle.entries more need × (room + s.engine.audit.standing.waiting ≡ s.engine.audit.limit) × (room < need)

abbrev LacksAuditSeen : Mediation → List Entry → ℕ → ℕ → Type 0
LacksAuditSeen m more need room =
    HasRoomAfter (journal_limits m.limits) m.history more × Notes m.history more need × (room + length (noted_at m) ≡ m.limits.audit) × (room < need)

no_audit : (s : KeptState) (entry : Entry) (need room : ℕ) → StandsForJournal s → LacksAuditFor s (state.with_cuts_after s.engine s.chronicle.entries entry) need room → LacksAuditSeen (view_of s) (with_cuts (view_of s) entry) need room
no_audit s entry need room stands r =
    let same = with_cuts_are s stands entry in (
      subst (λ (more : List Entry). HasRoomAfter s.chronicle.limits s.chronicle.entries more) same r.0,
      subst (λ (more : List Entry). Notes s.chronicle.entries more need) same r.1,
      subst (λ (n : ℕ). room + n ≡ s.engine.audit.limit) stands.stands.audit.waiting r.2,
      r.3,
    )

pub refuses_receive : (why : Fault) (s : KeptState) (session number : ℕ) (octets : List ℕ) → StandsForJournal s → state.RefusesReceiveAfter why s.chronicle.limits s.engine s.chronicle.entries session number octets → RefusesReceive why (view_of s) session number octets
refuses_receive fault.JournalFull s session number octets stands r = (r.0, r.1, no_room s (Message session number octets) stands r.2)
refuses_receive (fault.AuditFull need room) s session number octets stands r =
    let lacks = no_audit s (Message session number octets) need room stands (r.2, r.3, r.4, r.5) in
    (r.0, r.1, lacks.0, lacks.1, lacks.2, lacks.3)
refuses_receive fault.OutOfMemory s session number octets stands r = r
refuses_receive fault.UnknownSession s session number octets stands r = r
refuses_receive (fault.OutOfTurn expected) s session number octets stands r = r
refuses_receive (fault.Malformed why) s session number octets stands r = r
refuses_receive fault.Stale s session number octets stands r = r
refuses_receive (fault.Policy why) s session number octets stands r = r
refuses_receive fault.BadName s session number octets stands r = r
refuses_receive (fault.AlreadySubscribed sub) s session number octets stands r = r
refuses_receive fault.UnknownSub s session number octets stands r = r
refuses_receive fault.NoHandle s session number octets stands r = r
refuses_receive fault.HandedFull s session number octets stands r = r
refuses_receive fault.BadLimits s session number octets stands r = r
refuses_receive (fault.ClockBack last) s session number octets stands r = r

pub refuses_prepared : (why : Fault) (s : KeptState) (session number : ℕ) (p : Preparation) → StandsForJournal s → state.RefusesReceivePreparedAfter why s.chronicle.limits s.engine s.chronicle.entries session number p → RefusesReceivePrepared why (view_of s) session number p
refuses_prepared fault.JournalFull s session number p stands r = refuses_receive fault.JournalFull s session number p.message stands r
refuses_prepared (fault.AuditFull need room) s session number p stands r = refuses_receive (fault.AuditFull need room) s session number p.message stands r
refuses_prepared fault.OutOfMemory s session number p stands r = r
refuses_prepared fault.UnknownSession s session number p stands r = r
refuses_prepared (fault.OutOfTurn expected) s session number p stands r = r
refuses_prepared (fault.Malformed why) s session number p stands r = absurd r
refuses_prepared fault.Stale s session number p stands r = r
refuses_prepared (fault.Policy why) s session number p stands r = r
refuses_prepared fault.BadName s session number p stands r = r
refuses_prepared (fault.AlreadySubscribed sub) s session number p stands r = r
refuses_prepared fault.UnknownSub s session number p stands r = r
refuses_prepared fault.NoHandle s session number p stands r = r
refuses_prepared fault.HandedFull s session number p stands r = r
refuses_prepared fault.BadLimits s session number p stands r = r
refuses_prepared (fault.ClockBack last) s session number p stands r = r

-- ---- an advance of the clock

pub advances : (s t : KeptState) (time : ℕ) → StandsForJournal s → state.AdvancesAfter s.engine time s.chronicle.entries (AcceptsNext s t) → IsUntouched s.engine t.engine → t.chronicle.limits ≡ s.chronicle.limits → Advances (view_of s) time (view_of t)
advances s t time stands advanced untouched journaled = record {
  ahead = advanced.ahead;
  audit = audit_seen s (Advance time) stands advanced.audit;
  goes_on = goes_on_with_cuts s t (Advance time) stands advanced.accepts untouched journaled;
}

pub refuses_advance : (why : Fault) (s : KeptState) (time : ℕ) → StandsForJournal s → state.RefusesAdvanceAfter why s.chronicle.limits s.engine s.chronicle.entries time → RefusesAdvance why (view_of s) time
refuses_advance (fault.ClockBack last) s time stands r = r
refuses_advance fault.JournalFull s time stands r = (r.0, no_room s (Advance time) stands r.1)
refuses_advance (fault.AuditFull need room) s time stands r =
    let lacks = no_audit s (Advance time) need room stands (r.1, r.2, r.3, r.4) in
    (r.0, lacks.0, lacks.1, lacks.2, lacks.3)
refuses_advance fault.OutOfMemory s time stands r = r
refuses_advance fault.UnknownSession s time stands r = absurd r
refuses_advance (fault.OutOfTurn expected) s time stands r = absurd r
refuses_advance (fault.Malformed why) s time stands r = absurd r
refuses_advance fault.Stale s time stands r = absurd r
refuses_advance (fault.Policy why) s time stands r = absurd r
refuses_advance fault.BadName s time stands r = absurd r
refuses_advance (fault.AlreadySubscribed sub) s time stands r = absurd r
refuses_advance fault.UnknownSub s time stands r = absurd r
refuses_advance fault.NoHandle s time stands r = absurd r
refuses_advance fault.HandedFull s time stands r = absurd r
refuses_advance fault.BadLimits s time stands r = absurd r

-- ---- what is handed out

pub pulls : (s t : KeptState) (sub now target : ℕ) (answer : Option (List ℕ)) → StandsForJournal s → KeepsHistories s t → now < 2 ^ 32 → target < 2 ^ 16 → state.PullsAfter s.engine t.engine sub now target answer s.chronicle.entries → ((q : ℕ) → q ≢ sub → handed_place t.engine q ≡ handed_place s.engine q)
    → t.engine.audit.standing.drained ≡ s.engine.audit.standing.drained → t.engine.limits ≡ s.engine.limits → t.engine.audit.limit ≡ s.engine.audit.limit → t.chronicle.limits ≡ s.chronicle.limits → Pulls (view_of s) sub now target answer (view_of t)
pulls s t sub now target answer stands keeps time size pulled others drained streams audit journaled =
    let after : StandsForJournal t = stands_on s t stands keeps in
    record {
      time = time;
      size = size;
      live = pulled.live;
      message = pulled.message ∙ ap (λ (p : ℕ). built (disclosed sub s.chronicle.entries) p now target) (sym (place_is s stands sub));
      moved = place_is t after sub ∙ pulled.moved ∙ ap (λ (p : ℕ). place_after (disclosed sub s.chronicle.entries) p target) (sym (place_is s stands sub));
      others = λ q other. place_is t after q ∙ others q other ∙ sym (place_is s stands q);
      history = (keeps s.chronicle.entries stands).told;
      drained = drained;
      limits = limits_same s t streams audit journaled;
    }

pub status_is : (s : KeptState) (sub : ℕ) (status : Status) → StandsForJournal s → state.IsStatus s.chronicle.entries sub (handed_place s.engine sub) status → IsStatusOf (view_of s) sub status
status_is s sub status stands is = subst (λ (p : ℕ). state.IsStatus s.chronicle.entries sub p status) (sym (place_is s stands sub)) is

-- a mediator keeps the entries
pub entries_kept : {A B : Type 0} → (true ≡ true → A) × B → A × B
entries_kept both = (both.0 refl, both.1)

pub drains : (s t : KeptState) (most : ℕ) (out : List AuditEntry) → StandsForJournal s → (out ≡ take most (drop s.engine.audit.standing.drained (audit_list s.chronicle.entries))) × state.StateStandsFor tells t s.chronicle.entries → ((q : ℕ) → handed_place t.engine q ≡ handed_place s.engine q)
    → t.engine.audit.standing.drained ≡ s.engine.audit.standing.drained + min most s.engine.audit.standing.waiting → t.engine.limits ≡ s.engine.limits → t.engine.audit.limit ≡ s.engine.audit.limit → t.chronicle.limits ≡ s.chronicle.limits → Drains (view_of s) most out (view_of t)
drains s t most out stands drained places count streams audit journaled = record {
  entries = drained.0;
  drained = omega (arith, count, stands.stands.audit.waiting, ap (λ (l : List AuditEntry). length l) drained.0, length-take most (drop s.engine.audit.standing.drained (audit_list s.chronicle.entries)));
  history = drained.1.told;
  places = λ sub. place_is t (for_journal t s.chronicle.entries drained.1) sub ∙ places sub ∙ sym (place_is s stands sub);
  limits = limits_same s t streams audit journaled;
}

-- ---- what every mediator keeps

pub is_sound : (s : KeptState) → IsStateKept s → IsSoundMediation (view_of s)
is_sound s kept = record {
  streamable = kept.stands.stands.small.streamable;
  places = within s kept.stands;
  drained = kept.stands.stands.audit.within;
  numbered = kept.stands.stands.numbered;
  held = kept.held;
}

-- a refused call leaves it so
pub kept_same : (s t : KeptState) → IsStateKept s → StaysSame s t → IsStateKept t
kept_same s t kept same = record {
  stands = stands_on s t kept.stands same.histories;
  held = subst IsHeld (sym (same_on s t kept.stands same)) kept.held;
}

-- whatever a call answers, where it keeps so what it accepts
pub kept_by : {X E : Type 0} {P : X → Type 0} (r : Result X E) (s t : KeptState) → IsStateKept s → IfOk r P → ((x : X) → P x → IsStateKept t) → OnErr r (StaysSame s t) → IsStateKept t
kept_by (Ok x) s t kept ok does same = does x ok
kept_by (Err e) s t kept ok does same = kept_same s t kept same

pub kept_done : {X E P : Type 0} (r : Result X E) (s t : KeptState) → IsStateKept s → OnOk r P → (P → IsStateKept t) → OnErr r (StaysSame s t) → IsStateKept t
kept_done (Ok x) s t kept ok does same = does ok
kept_done (Err e) s t kept ok does same = kept_same s t kept same

pub both_ok : {X E : Type 0} (P Q : X → Type 0) (r : Result X E) → IfOk r P → IfOk r Q → IfOk r (λ x. P x × Q x)
both_ok P Q (Ok x) p q = (p, q)
both_ok P Q (Err e) p q = tt

-- a refused call leaves all as it was
pub kept_or_same : {X E : Type 0} {P : X → Type 0} (r : Result X E) (s t : KeptState) → IsStateKept s → IfOk r P → ((x : X) → P x → IsStateKept t) → OnErr r (t ≡ s) → IsStateKept t
kept_or_same (Ok x) s t kept ok does same = does x ok
kept_or_same (Err e) s t kept ok does same = subst IsStateKept (sym same) kept

pub kept_open : (s t : KeptState) (n : ℕ) → IsStateKept s → state.OpensAfter n s.chronicle.entries (AcceptsNext s t) → IsUntouched s.engine t.engine → t.chronicle.limits ≡ s.chronicle.limits → IsStateKept t
kept_open s t n kept is untouched journaled = record {
  stands = accepted_stands s t (Open n ∷ []) is.accepts;
  held = held_open (view_of s) (view_of t) n (is_sound s kept) (opens s t n kept.stands is untouched journaled);
}

pub kept_close : (s t : KeptState) (session : ℕ) → IsStateKept s → state.ClosesAfter session s.chronicle.entries (AcceptsNext s t) → IsUntouched s.engine t.engine → t.chronicle.limits ≡ s.chronicle.limits → IsStateKept t
kept_close s t session kept is untouched journaled = record {
  stands = accepted_stands s t (Close session ∷ []) is.accepts;
  held = held_close (view_of s) (view_of t) session (is_sound s kept) (closes s t session kept.stands is untouched journaled);
}

pub kept_edit : (s t : KeptState) (text : List ℕ) (n : ℕ) → IsStateKept s → state.EditsAfter text n s.chronicle.entries (AcceptsNext s t) → IsUntouched s.engine t.engine → t.chronicle.limits ≡ s.chronicle.limits → IsStateKept t
kept_edit s t text n kept is untouched journaled = record {
  stands = accepted_stands s t (Edit text ∷ []) is.accepts;
  held = held_edit (view_of s) (view_of t) text n (is_sound s kept) (edits s t text n kept.stands is untouched journaled);
}

pub kept_subscribe : (s t : KeptState) (name : List ℕ) (n : ℕ) → IsStateKept s → state.SubscribesAfter name n s.chronicle.entries (AcceptsNext s t) → IsUntouched s.engine t.engine → t.chronicle.limits ≡ s.chronicle.limits → IsStateKept t
kept_subscribe s t name n kept is untouched journaled = record {
  stands = accepted_stands s t (Subscribe n name ∷ []) is.accepts;
  held = held_subscribe (view_of s) (view_of t) name n (is_sound s kept) (subscribes s t name n kept.stands is untouched journaled);
}

pub kept_unsubscribe : (s t : KeptState) (sub : ℕ) → IsStateKept s → state.UnsubscribesAfter sub s.chronicle.entries (AcceptsNext s t) → ((q : ℕ) → q ≢ sub → handed_place t.engine q ≡ handed_place s.engine q)
    → t.engine.audit.standing.drained ≡ s.engine.audit.standing.drained → t.engine.limits ≡ s.engine.limits → t.engine.audit.limit ≡ s.engine.audit.limit → t.chronicle.limits ≡ s.chronicle.limits → IsStateKept t
kept_unsubscribe s t sub kept is others drained streams audit journaled = record {
  stands = accepted_stands s t (Unsubscribe sub ∷ []) is.accepts;
  held = held_unsubscribe (view_of s) (view_of t) sub (is_sound s kept) (unsubscribes s t sub kept.stands is others drained streams audit journaled);
}

pub kept_receive : (s t : KeptState) (session number : ℕ) (octets : List ℕ) (r : Receipt) → IsStateKept s → state.ReceivesAfter s.engine session number octets r s.chronicle.entries (AcceptsNext s t) → IsUntouched s.engine t.engine → t.chronicle.limits ≡ s.chronicle.limits → IsStateKept t
kept_receive s t session number octets r kept is untouched journaled = record {
  stands = accepted_stands s t (state.with_cuts_after s.engine s.chronicle.entries (Message session number octets)) is.accepts;
  held = held_receive (view_of s) (view_of t) session number octets r (is_sound s kept) (receives s t session number octets r kept.stands is untouched journaled);
}

pub kept_advance : (s t : KeptState) (time : ℕ) → IsStateKept s → state.AdvancesAfter s.engine time s.chronicle.entries (AcceptsNext s t) → IsUntouched s.engine t.engine → t.chronicle.limits ≡ s.chronicle.limits → IsStateKept t
kept_advance s t time kept is untouched journaled = record {
  stands = accepted_stands s t (state.with_cuts_after s.engine s.chronicle.entries (Advance time)) is.accepts;
  held = held_advance (view_of s) (view_of t) time (is_sound s kept) (advances s t time kept.stands is untouched journaled);
}

pub kept_pull : (s t : KeptState) (sub now target : ℕ) (answer : Option (List ℕ)) → IsStateKept s → KeepsHistories s t → now < 2 ^ 32 → target < 2 ^ 16 → state.PullsAfter s.engine t.engine sub now target answer s.chronicle.entries → ((q : ℕ) → q ≢ sub → handed_place t.engine q ≡ handed_place s.engine q)
    → t.engine.audit.standing.drained ≡ s.engine.audit.standing.drained → t.engine.limits ≡ s.engine.limits → t.engine.audit.limit ≡ s.engine.audit.limit → t.chronicle.limits ≡ s.chronicle.limits → IsStateKept t
kept_pull s t sub now target answer kept keeps time size is others drained streams audit journaled = record {
  stands = stands_on s t kept.stands keeps;
  held = held_pull (view_of s) (view_of t) sub now target answer kept.held (pulls s t sub now target answer kept.stands keeps time size is others drained streams audit journaled);
}

pub kept_drain : (s t : KeptState) (most : ℕ) (out : List AuditEntry) → IsStateKept s → (out ≡ take most (drop s.engine.audit.standing.drained (audit_list s.chronicle.entries))) × state.StateStandsFor tells t s.chronicle.entries → ((q : ℕ) → handed_place t.engine q ≡ handed_place s.engine q)
    → t.engine.audit.standing.drained ≡ s.engine.audit.standing.drained + min most s.engine.audit.standing.waiting → t.engine.limits ≡ s.engine.limits → t.engine.audit.limit ≡ s.engine.audit.limit → t.chronicle.limits ≡ s.chronicle.limits → IsStateKept t
kept_drain s t most out kept is places count streams audit journaled = record {
  stands = for_journal t s.chronicle.entries is.1;
  held = held_drain (view_of s) (view_of t) most out kept.held (drains s t most out kept.stands is places count streams audit journaled);
}

-- before any call
pub kept_start : (limits : Limits) (s : KeptState) → StandsForJournal s → view_of s ≡ started limits → IsStateKept s
kept_start limits s stands is = record { stands = stands; held = subst IsHeld (sym is) (held_start limits) }
