-- What the calls of a state answer and leave, by what its parts do.
use Rattle.std.proofs.Common.{◌≡◌, ℕ, suc, ◌+◌, ◌≤◌, Bool, true, false, List, [], ◌∷◌, ◌++◌, length, drop, map, Result, Ok, Err, refl, sym, ap, ◌∙◌, subst, append_assoc, length-append, arith}
use Rattle.std.specs.Prelude.{◌↔◌, IsTrue, IfOk, OnErr}
use Rattle.std.specs.Result.{IsErr, IsErrAnd, IfErr}
use Rattle.std.proofs.lemmas.List.{length-map, drop-append-le}
use Rattle.policy_text.specs.Naming.{is_name}
use Rattle.policy_text.specs.Parsing.{policy_of}
use Rattle.policy_text.specs.Policies.{PolicyMeaning as Policy}
use Rattle.ipfix_session.specs.Meaning.{meaning_of}
use Rattle.flow_aggregate.specs.declared.addition.Addition.{Addition}
use Rattle.disclosure_audit.specs.declared.entry.AuditEntry.{AuditEntry}
use Rattle.disclosure_audit.specs.Queue.{AuditStanding, StandsIn, stamp}
use Rattle.event_journal.specs.Sizes.{history_octets, IsCountOf}
use Rattle.event_journal.specs.declared.entry.Entry.{Entry}
use Rattle.event_journal.specs.declared.entry.Entry.TheVariants.{Message, Edit, Subscribe, Cut}
use Rattle.event_journal.specs.Room.{JournalLimits, HasRoom, HasRoomAfter}
use Rattle.mediator_history.specs.Sessions.{is_open, messages_of}
use Rattle.mediator_history.specs.Subscriptions.{subscriptions_begun}
use Rattle.mediator_history.specs.Auditing.{audit_at, audit_list, cut_entries}
use Rattle.mediator_history.specs.Cuts.{cuts_before, after_cuts}
use Rattle.mediator_history.proofs.CutLaws.{audit-cuts}
use Rattle.mediator_history.proofs.HistoryLaws.{audit-push}
use Rattle.ipfix_session.specs.ReadAhead.{Ahead}
use Rattle.prepared_message.specs.Preparation.{Preparation}
use Rattle.mediator_state.specs.declared.engine.Engine.{Engine}
use Rattle.mediator_state.specs.declared.plan.MessagePlan.{MessagePlan}
use Rattle.mediator_state.specs.declared.receipt.Receipt.{Receipt}
use Rattle.mediator_state.specs.declared.fault.Fault.{Fault}
use Rattle.mediator_state.specs.declared.fault.Fault.TheVariants as fault
use Rattle.mediator_state.specs.declared.state.State.{State}
use Rattle.mediator_state.specs.Standing.{Stands, StandsSomewhere}
use Rattle.mediator_state.specs.Seen.{waiting_of, IsUntouched, IsSameEngine}
use Rattle.disclosure_audit.specs.Noting.{KeptNotes}
use Rattle.mediator_state.specs.Planning.{IsPlan, IsNext, IsNextReading, RefusesMessage}
use Rattle.mediator_state.specs.Accepting.{LacksAudit, HasRoomForPlan, IsPlannedFor, receipt_of}
use Rattle.mediator_state.specs.Calls.{StateStandsFor, StandsForSome, StaysSame, AuditHoldsAfter, Accepts, LacksRoom, LacksRoomAfter, with_cuts_after, HasMeaning, RefusesReceiveAfter, RefusesReceivePreparedAfter, ReceivesAfter, IsFree, RefusesEdit, RefusesSubscribe}
use Rattle.mediator_state.proofs.SameLaws.{stands_same, untouched_same, plan_same}
use Rattle.event_journal.specs.declared.limits.TheConstants.{MOST_ENTRIES}

-- ---- what keeps the history counts it

abbrev pub Counts : {C : Type 0} → (C → List Entry → Type 0) → C → ℕ → ℕ → Type 0
Counts tells c count octets = (h : List Entry) → tells c h → IsCountOf h count octets

pub somewhere : {C Q : Type 0} (tells : C → List Entry → Type 0) (s : State C Q) (count octets position : ℕ) → Counts tells s.chronicle count octets → position ≡ count → StandsForSome tells s → StandsSomewhere s.engine position
somewhere tells s count octets position counted is some = record {
  history = some.history;
  stands = some.stands.stands;
  counted = sym (is ∙ (counted some.history some.stands.told).entries);
}

pub room_after : (limits : JournalLimits) (count octets : ℕ) (h more : List Entry) → IsCountOf h count octets → HasRoom limits count octets more → HasRoomAfter limits h more
room_after limits count octets h more c r = record {
  entries_fit = subst (λ (n : ℕ). n + length more ≤ limits.entries) c.entries r.entries_fit;
  octets_fit = subst (λ (n : ℕ). n + history_octets more ≤ limits.octets) c.sizes r.octets_fit;
  spelled = r.spelled;
}

pub room_before : (limits : JournalLimits) (count octets : ℕ) (h more : List Entry) → IsCountOf h count octets → HasRoomAfter limits h more → HasRoom limits count octets more
room_before limits count octets h more c r = record {
  entries_fit = subst (λ (n : ℕ). n + length more ≤ limits.entries) (sym c.entries) r.entries_fit;
  octets_fit = subst (λ (n : ℕ). n + history_octets more ≤ limits.octets) (sym c.sizes) r.octets_fit;
  spelled = r.spelled;
}

pub lacks_after : (e : Fault) (limits : JournalLimits) (count octets : ℕ) (h more : List Entry) → IsCountOf h count octets → LacksRoom e limits count octets more → LacksRoomAfter e limits h more
lacks_after fault.JournalFull limits count octets h more c lacks = λ r. lacks (room_before limits count octets h more c r)
lacks_after fault.OutOfMemory limits count octets h more c lacks = room_after limits count octets h more c lacks
lacks_after fault.UnknownSession limits count octets h more c lacks = absurd lacks
lacks_after (fault.OutOfTurn expected) limits count octets h more c lacks = absurd lacks
lacks_after (fault.Malformed why) limits count octets h more c lacks = absurd lacks
lacks_after fault.Stale limits count octets h more c lacks = absurd lacks
lacks_after (fault.Policy why) limits count octets h more c lacks = absurd lacks
lacks_after fault.BadName limits count octets h more c lacks = absurd lacks
lacks_after (fault.AlreadySubscribed sub) limits count octets h more c lacks = absurd lacks
lacks_after fault.UnknownSub limits count octets h more c lacks = absurd lacks
lacks_after fault.NoHandle limits count octets h more c lacks = absurd lacks
lacks_after fault.HandedFull limits count octets h more c lacks = absurd lacks
lacks_after fault.BadLimits limits count octets h more c lacks = absurd lacks
lacks_after (fault.ClockBack last) limits count octets h more c lacks = absurd lacks
lacks_after (fault.AuditFull need room) limits count octets h more c lacks = absurd lacks

-- ---- a message and its cuts

pub next_of : {Q : Type 0} (e : Engine Q) (h : List Entry) (session number : ℕ) (octets : List ℕ) (p : MessagePlan) → p.session.0 ≡ session → IsPlan e h number octets p → IsNext h session number
next_of e h session number octets p is plan = record {
  opened = subst (λ (s : ℕ). is_open s h ≡ true) is plan.opened;
  turn = subst (λ (s : ℕ). number ≡ length (messages_of s h)) is plan.turn;
}

means_of : {Q : Type 0} (e : Engine Q) (h : List Entry) (session number : ℕ) (octets : List ℕ) (p : MessagePlan) → p.session.0 ≡ session → IsPlan e h number octets p → meaning_of (messages_of session h) octets ≡ Ok p.reading.meaning
means_of e h session number octets p is plan = ap (λ (s : ℕ). meaning_of (messages_of s h) octets) (sym is) ∙ plan.read.means

cuts_of : {Q : Type 0} (e : Engine Q) (h : List Entry) (session number : ℕ) (octets : List ℕ) (p : MessagePlan) → p.session.0 ≡ session → IsPlan e h number octets p → map Cut p.cuts.items ≡ cuts_before e.limits h (Message session number octets) (waiting_of e)
cuts_of e h session number octets p is plan =
    ap (λ (cuts : List ℕ). map Cut cuts) plan.judged.cuts_are ∙ ap (λ (s : ℕ). cuts_before e.limits h (Message s number octets) (waiting_of e)) is

-- the entries that are appended
pub entries_are : {Q : Type 0} (e : Engine Q) (h : List Entry) (session number : ℕ) (octets : List ℕ) (p : MessagePlan) (entries : List Entry) → p.session.0 ≡ session → entries ≡ map Cut p.cuts.items ++ Message session number octets ∷ [] → IsPlan e h number octets p → entries ≡ with_cuts_after e h (Message session number octets)
entries_are e h session number octets p entries is made plan =
    made ∙ ap (λ (cuts : List Entry). cuts ++ Message session number octets ∷ []) (cuts_of e h session number octets p is plan)

-- ---- what is noted of it

pub length-cut_entries : (n : ℕ) (subs : List ℕ) → length (cut_entries n subs) ≡ length subs
length-cut_entries n [] = refl
length-cut_entries n (sub ∷ subs) = ap (λ (k : ℕ). suc k) (length-cut_entries (n + 1) subs)

-- the entries of what the audit names of a message
abbrev entries_of : {Q : Type 0} (e : Engine Q) (h : List Entry) (number : ℕ) (octets : List ℕ) (p : MessagePlan) → IsPlan e h number octets p → List AuditEntry
entries_of e h number octets p plan = map (stamp p.position) plan.named

length-named : {Q : Type 0} (e : Engine Q) (h : List Entry) (number : ℕ) (octets : List ℕ) (p : MessagePlan) (plan : IsPlan e h number octets p)
    → length (cut_entries (length h) p.cuts.items ++ entries_of e h number octets p plan) ≡ length p.cuts.items + p.notes.count
length-named e h number octets p plan =
    omega (arith, length-append (cut_entries (length h) p.cuts.items) (entries_of e h number octets p plan), length-cut_entries (length h) p.cuts.items, length-map plan.named (stamp p.position), ap (λ (k : KeptNotes). k.count) plan.kept)

noted_of : {Q : Type 0} (e : Engine Q) (h : List Entry) (session number : ℕ) (octets : List ℕ) (p : MessagePlan) → p.session.0 ≡ session → (plan : IsPlan e h number octets p)
    → audit_list (h ++ with_cuts_after e h (Message session number octets)) ≡ audit_list h ++ (cut_entries (length h) p.cuts.items ++ entries_of e h number octets p plan)
noted_of e h session number octets p is plan =
    let message : Entry = Message session number octets in
    let cuts : List ℕ = p.cuts.items in
    ap (λ (c : List Entry). audit_list (h ++ (c ++ message ∷ []))) (sym (cuts_of e h session number octets p is plan))
    ∙ ap audit_list (sym (append_assoc h (map Cut cuts) (message ∷ [])))
    ∙ audit-push (after_cuts h cuts) message
    ∙ ap (λ (t : List AuditEntry). t ++ audit_at (after_cuts h cuts) message) (audit-cuts h cuts)
    ∙ ap (λ (t : List AuditEntry). (audit_list h ++ cut_entries (length h) cuts) ++ t) (sym (subst (λ (s : ℕ). entries_of e h number octets p plan ≡ audit_at (after_cuts h cuts) (Message s number octets)) is plan.judged.entries_are))
    ∙ append_assoc (audit_list h) (cut_entries (length h) cuts) (entries_of e h number octets p plan)

-- ---- why a message is refused

pub refused_message : {Q : Type 0} (why : Fault) (limits : JournalLimits) (e : Engine Q) (h : List Entry) (session number : ℕ) (octets : List ℕ) → RefusesMessage why h session number octets → RefusesReceiveAfter why limits e h session number octets
refused_message fault.JournalFull limits e h session number octets r = absurd r
refused_message fault.OutOfMemory limits e h session number octets r = r
refused_message fault.UnknownSession limits e h session number octets r = r
refused_message (fault.OutOfTurn expected) limits e h session number octets r = r
refused_message (fault.Malformed why) limits e h session number octets r = r
refused_message fault.Stale limits e h session number octets r = r
refused_message (fault.Policy why) limits e h session number octets r = r
refused_message fault.BadName limits e h session number octets r = r
refused_message (fault.AlreadySubscribed sub) limits e h session number octets r = r
refused_message fault.UnknownSub limits e h session number octets r = r
refused_message fault.NoHandle limits e h session number octets r = r
refused_message fault.HandedFull limits e h session number octets r = r
refused_message fault.BadLimits limits e h session number octets r = r
refused_message (fault.ClockBack last) limits e h session number octets r = r
refused_message (fault.AuditFull need room) limits e h session number octets r = absurd r

-- so it is where the message was prepared, which then has a meaning
pub refused_as_prepared : {Q : Type 0} (why : Fault) (limits : JournalLimits) (e : Engine Q) (h : List Entry) (session number : ℕ) (p : Preparation) (reading : Ahead) → IsNextReading h session number p.message reading → RefusesReceiveAfter why limits e h session number p.message
    → RefusesReceivePreparedAfter why limits e h session number p
refused_as_prepared fault.JournalFull limits e h session number p reading read r = r
refused_as_prepared fault.OutOfMemory limits e h session number p reading read r = r
refused_as_prepared fault.UnknownSession limits e h session number p reading read r = r
refused_as_prepared (fault.OutOfTurn expected) limits e h session number p reading read r = r
refused_as_prepared (fault.Malformed why) limits e h session number p reading read r = let means = read.read.means in let fails = r.1 in absurd cc
refused_as_prepared fault.Stale limits e h session number p reading read r = absurd r
refused_as_prepared (fault.Policy why) limits e h session number p reading read r = r
refused_as_prepared fault.BadName limits e h session number p reading read r = r
refused_as_prepared (fault.AlreadySubscribed sub) limits e h session number p reading read r = r
refused_as_prepared fault.UnknownSub limits e h session number p reading read r = r
refused_as_prepared fault.NoHandle limits e h session number p reading read r = r
refused_as_prepared fault.HandedFull limits e h session number p reading read r = r
refused_as_prepared fault.BadLimits limits e h session number p reading read r = r
refused_as_prepared (fault.ClockBack last) limits e h session number p reading read r = r
refused_as_prepared (fault.AuditFull need room) limits e h session number p reading read r = r

-- what was found out of a message before it is accepted
pub record IsFound {Q : Type 0} (e : Engine Q) (h : List Entry) (session number : ℕ) (octets : List ℕ) (p : MessagePlan) (entries : List Entry) : Type 0 where
  pub plan : IsPlan e h number octets p
  pub session_is : p.session.0 ≡ session
  pub entries_made : entries ≡ map Cut p.cuts.items ++ Message session number octets ∷ []

has_meaning : {Q : Type 0} (e : Engine Q) (h : List Entry) (session number : ℕ) (octets : List ℕ) (p : MessagePlan) → p.session.0 ≡ session → IsPlan e h number octets p → HasMeaning h session octets
has_meaning e h session number octets p is plan = record { meaning = p.reading.meaning; means = means_of e h session number octets p is plan }

pub refused_full : {Q : Type 0} (limits : JournalLimits) (count sizes : ℕ) (e : Engine Q) (h : List Entry) (session number : ℕ) (octets : List ℕ) (p : MessagePlan) (entries : List Entry) → IsCountOf h count sizes → IsFound e h session number octets p entries → (HasRoom limits count sizes entries → ⊥) → RefusesReceiveAfter fault.JournalFull limits e h session number octets
refused_full limits count sizes e h session number octets p entries c f full = (
  next_of e h session number octets p f.session_is f.plan,
  has_meaning e h session number octets p f.session_is f.plan,
  λ r. full (room_before limits count sizes h entries c (subst (λ (more : List Entry). HasRoomAfter limits h more) (sym (entries_are e h session number octets p entries f.session_is f.entries_made f.plan)) r)),
)

pub refused_audit : {Q : Type 0} (why : Fault) (limits : JournalLimits) (count sizes : ℕ) (e : Engine Q) (h : List Entry) (session number : ℕ) (octets : List ℕ) (p : MessagePlan) (entries : List Entry) → IsCountOf h count sizes → IsFound e h session number octets p entries → HasRoom limits count sizes entries → LacksAudit why e.audit (length p.cuts.items + p.notes.count) → RefusesReceiveAfter why limits e h session number octets
refused_audit (fault.AuditFull need room) limits count sizes e h session number octets p entries c f r lacks = (
  next_of e h session number octets p f.session_is f.plan,
  has_meaning e h session number octets p f.session_is f.plan,
  subst (λ (more : List Entry). HasRoomAfter limits h more) (entries_are e h session number octets p entries f.session_is f.entries_made f.plan) (room_after limits count sizes h entries c r),
  (
    cut_entries (length h) p.cuts.items ++ entries_of e h number octets p f.plan,
    noted_of e h session number octets p f.session_is f.plan,
    lacks.0 ∙ sym (length-named e h number octets p f.plan),
  ),
  lacks.2,
  lacks.1,
)
refused_audit fault.OutOfMemory limits count sizes e h session number octets p entries c f r lacks = next_of e h session number octets p f.session_is f.plan
refused_audit fault.JournalFull limits count sizes e h session number octets p entries c f r lacks = absurd lacks
refused_audit fault.UnknownSession limits count sizes e h session number octets p entries c f r lacks = absurd lacks
refused_audit (fault.OutOfTurn expected) limits count sizes e h session number octets p entries c f r lacks = absurd lacks
refused_audit (fault.Malformed why) limits count sizes e h session number octets p entries c f r lacks = absurd lacks
refused_audit fault.Stale limits count sizes e h session number octets p entries c f r lacks = absurd lacks
refused_audit (fault.Policy why) limits count sizes e h session number octets p entries c f r lacks = absurd lacks
refused_audit fault.BadName limits count sizes e h session number octets p entries c f r lacks = absurd lacks
refused_audit (fault.AlreadySubscribed sub) limits count sizes e h session number octets p entries c f r lacks = absurd lacks
refused_audit fault.UnknownSub limits count sizes e h session number octets p entries c f r lacks = absurd lacks
refused_audit fault.NoHandle limits count sizes e h session number octets p entries c f r lacks = absurd lacks
refused_audit fault.HandedFull limits count sizes e h session number octets p entries c f r lacks = absurd lacks
refused_audit fault.BadLimits limits count sizes e h session number octets p entries c f r lacks = absurd lacks
refused_audit (fault.ClockBack last) limits count sizes e h session number octets p entries c f r lacks = absurd lacks

-- memory ran out behind what was found out of a message
pub next_memory : {Q : Type 0} (why : Fault) (limits : JournalLimits) (e : Engine Q) (h : List Entry) (session number : ℕ) (octets : List ℕ) → why ≡ fault.OutOfMemory → IsNext h session number → RefusesReceiveAfter why limits e h session number octets
next_memory why limits e h session number octets is next = rw is next

-- ---- that the audit holds what is named

pub audit_holds : {Q : Type 0} (e : Engine Q) (h more : List Entry) (noted : List AuditEntry) → StandsIn e.audit.standing (audit_list h) → audit_list (h ++ more) ≡ audit_list h ++ noted
    → e.audit.standing.waiting + length noted ≤ e.audit.limit → AuditHoldsAfter e h more
audit_holds e h more noted stands is room = record {
  before = omega (arith, room);
  after = subst (λ (n : ℕ). n ≤ e.audit.limit) (sym waiting) room;
}
  where
    waiting : length (drop e.audit.standing.drained (audit_list (h ++ more))) ≡ e.audit.standing.waiting + length noted
    waiting =
        ap (λ (all : List AuditEntry). length (drop e.audit.standing.drained all)) is
        ∙ ap (λ (l : List AuditEntry). length l) (drop-append-le e.audit.standing.drained (audit_list h) noted stands.within)
        ∙ length-append (drop e.audit.standing.drained (audit_list h)) noted
        ∙ ap (λ (n : ℕ). n + length noted) (sym stands.waiting)

-- the room that was made for a message holds what is named of it and its cuts
pub message_held : {Q : Type 0} (d e : Engine Q) (h : List Entry) (session number : ℕ) (octets : List ℕ) (p : MessagePlan) (entries : List Entry) (added : List (ℕ × List Addition)) → IsSameEngine d e → Stands d h → IsFound d h session number octets p entries → HasRoomForPlan e p added
    → AuditHoldsAfter d h (with_cuts_after d h (Message session number octets))
message_held d e h session number octets p entries added same so f room =
    audit_holds d h (with_cuts_after d h (Message session number octets)) (cut_entries (length h) p.cuts.items ++ entries_of d h number octets p f.plan) so.audit (noted_of d h session number octets p f.session_is f.plan)
    (omega (arith, room.audit, same.audit_limit, ap (λ (s : AuditStanding). s.waiting) same.audit, length-named d h number octets p f.plan))

-- ---- what an accepted message leaves

-- room was made for it, which the engine shows in nothing else
pub planned_for : {Q : Type 0} (d e : Engine Q) (h : List Entry) (number : ℕ) (octets : List ℕ) (position : ℕ) (p : MessagePlan) → IsSameEngine d e → Stands d h → length h ≡ position → position ≤ MOST_ENTRIES → IsPlan d h number octets p → IsPlannedFor e position p
planned_for d e h number octets position p same stands counted short plan = record {
  history = h;
  number = number;
  octets = octets;
  stands = stands_same d e h same stands;
  counted = counted;
  short = short;
  plan = plan_same d e h number octets p same plan;
}

-- what accept says of the engine
abbrev pub AcceptsPlan : {Q : Type 0} → Engine Q → ℕ → MessagePlan → Engine Q → Type 0
AcceptsPlan e position p new = (h : List Entry) (number : ℕ) (octets : List ℕ) → Stands e h → length h ≡ position → IsPlan e h number octets p → Stands new (after_cuts h p.cuts.items ++ Message p.session.0 number octets ∷ [])

pub received : {C Q : Type 0} (tells : C → List Entry → Type 0) (limits : C → JournalLimits) (old new : State C Q) (e : Engine Q) (count sizes : ℕ) (h : List Entry) (session number : ℕ) (octets : List ℕ) (p : MessagePlan) (entries : List Entry) (r : Receipt) (position : ℕ)
    → StateStandsFor tells old h → IsCountOf h count sizes → position ≡ count → IsFound old.engine h session number octets p entries → HasRoom (limits old.chronicle) count sizes entries → IsSameEngine old.engine e → AuditHoldsAfter old.engine h (with_cuts_after old.engine h (Message session number octets))
    → tells new.chronicle (h ++ entries) → AcceptsPlan e position p new.engine → r ≡ receipt_of position (length p.cuts.items) p.reading.meaning → ReceivesAfter old.engine session number octets r h (Accepts tells limits old new h)
received tells limits old new e count sizes h session number octets p entries r position stands c at f room same held told accepts receipt =
    let counted : length h ≡ position = sym (at ∙ c.entries) in
    let same_entries : entries ≡ with_cuts_after old.engine h (Message session number octets) = entries_are old.engine h session number octets p entries f.session_is f.entries_made f.plan in
    let after : Stands new.engine (after_cuts h p.cuts.items ++ Message p.session.0 number octets ∷ []) = accepts h number octets (stands_same old.engine e h same stands.stands) counted (plan_same old.engine e h number octets p same f.plan) in
    let history : after_cuts h p.cuts.items ++ Message p.session.0 number octets ∷ [] ≡ h ++ entries =
    append_assoc h (map Cut p.cuts.items) (Message p.session.0 number octets ∷ []) ∙ ap (λ (s : ℕ). h ++ (map Cut p.cuts.items ++ Message s number octets ∷ [])) f.session_is ∙ ap (λ (more : List Entry). h ++ more) (sym f.entries_made) in
    record {
      next = next_of old.engine h session number octets p f.session_is f.plan;
      meaning = p.reading.meaning;
      means = means_of old.engine h session number octets p f.session_is f.plan;
      audit = held;
      accepts = record {
        room = subst (λ (more : List Entry). HasRoomAfter (limits old.chronicle) h more) same_entries (room_after (limits old.chronicle) count sizes h entries c room);
        stands = record {
          told = subst (λ (more : List Entry). tells new.chronicle (h ++ more)) same_entries told;
          stands = subst (λ (more : List Entry). Stands new.engine (h ++ more)) same_entries (subst (λ (all : List Entry). Stands new.engine all) history after);
        };
      };
      receipt = receipt ∙ ap (λ (n : ℕ). receipt_of n (length p.cuts.items) p.reading.meaning) (sym counted)
          ∙ ap (λ (n : ℕ). receipt_of (length h) n p.reading.meaning) (sym (length-map p.cuts.items Cut) ∙ ap (λ (l : List Entry). length l) (cuts_of old.engine h session number octets p f.session_is f.plan));
    }

-- ---- one entry more

-- room was made for the entry, it was appended, and the engine goes on with it
pub accepts_one : {C Q : Type 0} (tells : C → List Entry → Type 0) (limits : C → JournalLimits) (count sizes : C → ℕ) (old mid : State C Q) (chronicle : C) (engine : Engine Q) (h : List Entry) (written entry : Entry)
    → StateStandsFor tells old h → IsCountOf h (count old.chronicle) (sizes old.chronicle)
    → limits mid.chronicle ≡ limits old.chronicle → count mid.chronicle ≡ count old.chronicle → sizes mid.chronicle ≡ sizes old.chronicle
    → HasRoom (limits mid.chronicle) (count mid.chronicle) (sizes mid.chronicle) (written ∷ []) → written ≡ entry
    → ((g : List Entry) → tells old.chronicle g → tells mid.chronicle g) → ((g : List Entry) → tells mid.chronicle g → tells chronicle (g ++ written ∷ []))
    → mid.engine ≡ old.engine → ((g : List Entry) → Stands mid.engine g → Stands engine (g ++ entry ∷ []))
    → Accepts tells limits old (record { chronicle = chronicle; engine = engine }) h (entry ∷ [])
accepts_one tells limits count sizes old mid chronicle engine h written entry s c same_limits same_count same_sizes room is keeps goes_on same_engine stands = record {
  room = room_after (limits old.chronicle) (count old.chronicle) (sizes old.chronicle) h (entry ∷ []) c
      (subst (λ (l : JournalLimits). HasRoom l (count old.chronicle) (sizes old.chronicle) (entry ∷ [])) same_limits
      (subst (λ (n : ℕ). HasRoom (limits mid.chronicle) n (sizes old.chronicle) (entry ∷ [])) same_count
      (subst (λ (n : ℕ). HasRoom (limits mid.chronicle) (count mid.chronicle) n (entry ∷ [])) same_sizes
      (subst (λ (e : Entry). HasRoom (limits mid.chronicle) (count mid.chronicle) (sizes mid.chronicle) (e ∷ [])) is room))));
  stands = record {
    told = subst (λ (e : Entry). tells chronicle (h ++ e ∷ [])) is (goes_on h (keeps h s.told));
    stands = stands h (subst (λ (e : Engine _). Stands e h) (sym same_engine) s.stands);
  };
}

-- ---- why a subscription is refused

pub refused_subscribe : (e : Fault) (limits : JournalLimits) (count sizes : ℕ) (h : List Entry) (name : List ℕ) (n : ℕ) (written : List ℕ) → n ≡ subscriptions_begun h + 1 → written ≡ name → IsCountOf h count sizes → is_name name ≡ true → IsFree h name → LacksRoom e limits count sizes (Subscribe n written ∷ []) → RefusesSubscribe e limits h name
refused_subscribe fault.JournalFull limits count sizes h name n written next is c named free lacks =
    (named, free, subst (λ (w : List ℕ). LacksRoomAfter fault.JournalFull limits h (Subscribe (subscriptions_begun h + 1) w ∷ [])) is (subst (λ (k : ℕ). LacksRoomAfter fault.JournalFull limits h (Subscribe k written ∷ [])) next (lacks_after fault.JournalFull limits count sizes h (Subscribe n written ∷ []) c lacks)))
refused_subscribe fault.OutOfMemory limits count sizes h name n written next is c named free lacks = (named, free)
refused_subscribe fault.UnknownSession limits count sizes h name n written next is c named free lacks = absurd lacks
refused_subscribe (fault.OutOfTurn expected) limits count sizes h name n written next is c named free lacks = absurd lacks
refused_subscribe (fault.Malformed why) limits count sizes h name n written next is c named free lacks = absurd lacks
refused_subscribe fault.Stale limits count sizes h name n written next is c named free lacks = absurd lacks
refused_subscribe (fault.Policy why) limits count sizes h name n written next is c named free lacks = absurd lacks
refused_subscribe fault.BadName limits count sizes h name n written next is c named free lacks = absurd lacks
refused_subscribe (fault.AlreadySubscribed sub) limits count sizes h name n written next is c named free lacks = absurd lacks
refused_subscribe fault.UnknownSub limits count sizes h name n written next is c named free lacks = absurd lacks
refused_subscribe fault.NoHandle limits count sizes h name n written next is c named free lacks = absurd lacks
refused_subscribe fault.HandedFull limits count sizes h name n written next is c named free lacks = absurd lacks
refused_subscribe fault.BadLimits limits count sizes h name n written next is c named free lacks = absurd lacks
refused_subscribe (fault.ClockBack last) limits count sizes h name n written next is c named free lacks = absurd lacks
refused_subscribe (fault.AuditFull need room) limits count sizes h name n written next is c named free lacks = absurd lacks

-- ---- why an edit is refused

pub refused_edit : (e : Fault) (limits : JournalLimits) (count sizes : ℕ) (h : List Entry) (text written : List ℕ) (policy : Policy) → written ≡ text → IsCountOf h count sizes → policy_of text ≡ Ok policy → LacksRoom e limits count sizes (Edit written ∷ []) → RefusesEdit e limits h text
refused_edit fault.JournalFull limits count sizes h text written policy is c spelled lacks =
    (record { policy = policy; spelled = spelled }, subst (λ (w : List ℕ). LacksRoomAfter fault.JournalFull limits h (Edit w ∷ [])) is (lacks_after fault.JournalFull limits count sizes h (Edit written ∷ []) c lacks))
refused_edit fault.OutOfMemory limits count sizes h text written policy is c spelled lacks = tt
refused_edit fault.UnknownSession limits count sizes h text written policy is c spelled lacks = absurd lacks
refused_edit (fault.OutOfTurn expected) limits count sizes h text written policy is c spelled lacks = absurd lacks
refused_edit (fault.Malformed why) limits count sizes h text written policy is c spelled lacks = absurd lacks
refused_edit fault.Stale limits count sizes h text written policy is c spelled lacks = absurd lacks
refused_edit (fault.Policy why) limits count sizes h text written policy is c spelled lacks = absurd lacks
refused_edit fault.BadName limits count sizes h text written policy is c spelled lacks = absurd lacks
refused_edit (fault.AlreadySubscribed sub) limits count sizes h text written policy is c spelled lacks = absurd lacks
refused_edit fault.UnknownSub limits count sizes h text written policy is c spelled lacks = absurd lacks
refused_edit fault.NoHandle limits count sizes h text written policy is c spelled lacks = absurd lacks
refused_edit fault.HandedFull limits count sizes h text written policy is c spelled lacks = absurd lacks
refused_edit fault.BadLimits limits count sizes h text written policy is c spelled lacks = absurd lacks
refused_edit (fault.ClockBack last) limits count sizes h text written policy is c spelled lacks = absurd lacks
refused_edit (fault.AuditFull need room) limits count sizes h text written policy is c spelled lacks = absurd lacks

-- memory ran out where there was room in the journal
pub room_memory : (e : Fault) (limits : JournalLimits) (count octets : ℕ) (more : List Entry) → e ≡ fault.OutOfMemory → HasRoom limits count octets more → LacksRoom e limits count octets more
room_memory e limits count octets more is room = rw is room

pub room_memory_after : (e : Fault) (limits : JournalLimits) (count octets : ℕ) (h more : List Entry) → e ≡ fault.OutOfMemory → IsCountOf h count octets → HasRoom limits count octets more → LacksRoomAfter e limits h more
room_memory_after e limits count octets h more is c room = lacks_after e limits count octets h more c (room_memory e limits count octets more is room)

pub refused_memory : (e : Fault) (limits : JournalLimits) (h : List Entry) (name : List ℕ) → e ≡ fault.OutOfMemory → is_name name ≡ true → IsFree h name → RefusesSubscribe e limits h name
refused_memory e limits h name is named free = rw is (named, free)

-- ---- a state that stays

pub same_state : {C Q : Type 0} (tells : C → List Entry → Type 0) (limits : C → JournalLimits) (s : State C Q) → StaysSame tells limits s s
same_state tells limits s = record {
  histories = λ h so. so;
  untouched = record { places = λ n. refl; drained = refl; limits = refl; audit_limit = refl };
  journaled = refl;
}

-- the engine is the same, and what keeps the history tells of no other
pub same_kept : {C Q : Type 0} (tells : C → List Entry → Type 0) (limits : C → JournalLimits) (old : State C Q) (chronicle : C) (engine : Engine Q)
    → ((h : List Entry) → tells old.chronicle h → tells chronicle h) → engine ≡ old.engine → limits chronicle ≡ limits old.chronicle
    → StaysSame tells limits old (record { chronicle = chronicle; engine = engine })
same_kept tells limits old chronicle engine keeps same journaled = record {
  histories = λ h so. record { told = keeps h so.told; stands = subst (λ (e : Engine _). Stands e h) (sym same) so.stands };
  untouched = subst (λ (e : Engine _). IsUntouched old.engine e) (sym same) (record { places = λ n. refl; drained = refl; limits = refl; audit_limit = refl });
  journaled = journaled;
}

-- in the engine reserved room has changed too
pub same_roomed : {C Q : Type 0} (tells : C → List Entry → Type 0) (limits : C → JournalLimits) (old : State C Q) (chronicle : C) (engine : Engine Q)
    → ((h : List Entry) → tells old.chronicle h → tells chronicle h) → IsSameEngine old.engine engine → limits chronicle ≡ limits old.chronicle
    → StaysSame tells limits old (record { chronicle = chronicle; engine = engine })
same_roomed tells limits old chronicle engine keeps same journaled = record {
  histories = λ h so. record { told = keeps h so.told; stands = stands_same old.engine engine h same so.stands };
  untouched = untouched_same old.engine engine same;
  journaled = journaled;
}

-- ---- results

pub if_ok_gives : {X E : Type 0} {P Q : X → Type 0} (r : Result X E) → IfOk r P → ((x : X) → P x → Q x) → IfOk r Q
if_ok_gives (Ok x) known f = f x known
if_ok_gives (Err e) known f = tt

pub err_gives : {X E : Type 0} {P Q : E → Type 0} (r : Result X E) → IsErr r × IsErrAnd r P → ((e : E) → P e → Q e) → IfErr r Q
err_gives (Ok x) known f = tt
err_gives (Err e) known f = f e known.1

pub if_err_gives : {X E : Type 0} {P Q : E → Type 0} (r : Result X E) → IfErr r P → ((e : E) → P e → Q e) → IfErr r Q
if_err_gives (Ok x) known f = tt
if_err_gives (Err e) known f = f e known

pub on_err : {X E P : Type 0} (r : Result X E) → P → OnErr r P
on_err (Ok x) p = tt
on_err (Err e) p = p

pub full_where : (b : Bool) (limits : JournalLimits) (count sizes : ℕ) (seen entries : List Entry) → (IsTrue b ↔ HasRoom limits count sizes seen) → seen ≡ entries → b ≡ false → HasRoom limits count sizes entries → ⊥
full_where b limits count sizes seen entries exact is no_room r = let has : b ≡ true = exact.1 (subst (λ (more : List Entry). HasRoom limits count sizes more) (sym is) r) in absurd cc

pub room_where : (b : Bool) (limits : JournalLimits) (count sizes : ℕ) (seen entries : List Entry) → (IsTrue b ↔ HasRoom limits count sizes seen) → seen ≡ entries → b ≡ true → HasRoom limits count sizes entries
room_where b limits count sizes seen entries exact is has = subst (λ (more : List Entry). HasRoom limits count sizes more) is (exact.0 has)

-- what was found out, where the cuts were lent as a slice
pub found : {Q : Type 0} (e : Engine Q) (h : List Entry) (session number : ℕ) (octets : List ℕ) (p : MessagePlan) (entries : List Entry) (seen : List ℕ) → IsPlan e h number octets p → p.session.0 ≡ session → entries ≡ map Cut seen ++ Message session number octets ∷ [] → seen ≡ p.cuts.items → IsFound e h session number octets p entries
found e h session number octets p entries seen plan is made lent = record {
  plan = plan;
  session_is = is;
  entries_made = made ∙ ap (λ (cuts : List ℕ). map Cut cuts ++ Message session number octets ∷ []) lent;
}
