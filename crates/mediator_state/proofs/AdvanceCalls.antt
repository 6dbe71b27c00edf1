-- What an advance of the clock answers and leaves, by what its steps do.
use Rattle.std.proofs.Common.{◌≡◌, ℕ, ◌≤◌, List, [], ◌∷◌, ◌++◌, length, map, refl, sym, ap, ◌∙◌, subst, append_assoc, arith}
use Rattle.disclosure_audit.specs.Queue.{AuditStanding}
use Rattle.event_journal.specs.Sizes.{IsCountOf}
use Rattle.event_journal.specs.declared.entry.Entry.{Entry}
use Rattle.event_journal.specs.declared.entry.Entry.TheVariants.{Advance, Cut}
use Rattle.event_journal.specs.Room.{JournalLimits, HasRoom, HasRoomAfter}
use Rattle.mediator_history.specs.Counting.{clock_of}
use Rattle.mediator_history.specs.Auditing.{audit_list, cut_entries}
use Rattle.mediator_history.specs.Cuts.{cuts_before, after_cuts}
use Rattle.mediator_history.proofs.CutLaws.{audit-cuts}
use Rattle.mediator_history.proofs.EntryLaws.{audit_same}
use Rattle.mediator_tables.specs.SubscriptionTable.{shown}
use Rattle.mediator_state.specs.declared.engine.Engine.{Engine}
use Rattle.mediator_state.specs.declared.closing.Closing.{Closing}
use Rattle.mediator_state.specs.declared.fault.Fault.{Fault}
use Rattle.mediator_state.specs.declared.fault.Fault.TheVariants as fault
use Rattle.mediator_state.specs.declared.state.State.{State}
use Rattle.mediator_state.specs.Standing.{Stands}
use Rattle.mediator_state.specs.Seen.{waiting_of, IsSameEngine}
use Rattle.mediator_state.specs.Planning.{IsJudged}
use Rattle.mediator_state.specs.Accepting.{LacksAudit}
use Rattle.mediator_state.specs.Advancing.{HasRoomToClose, IsClosingFor}
use Rattle.mediator_state.specs.Calls.{StateStandsFor, Accepts, AuditHoldsAfter, with_cuts_after, AdvancesAfter, RefusesAdvanceAfter}
use Rattle.mediator_state.proofs.SameLaws.{stands_same, judged_same}
use Rattle.mediator_state.proofs.CallLaws.{room_after, room_before, length-cut_entries, audit_holds}
use Rattle.event_journal.specs.declared.limits.TheConstants.{MOST_ENTRIES}

-- what was found out of an advance before it is accepted
pub record IsClosing {Q : Type 0} (e : Engine Q) (h : List Entry) (t : ℕ) (c : Closing) (entries : List Entry) : Type 0 where
  pub ahead : clock_of h ≤ t
  pub judged : IsJudged e h (Advance t) c.cuts.items (map shown c.shares.items) []
  pub entries_made : entries ≡ map Cut c.cuts.items ++ Advance t ∷ []

cuts_made : {Q : Type 0} (e : Engine Q) (h : List Entry) (t : ℕ) (c : Closing) (entries : List Entry) → IsClosing e h t c entries → map Cut c.cuts.items ≡ cuts_before e.limits h (Advance t) (waiting_of e)
cuts_made e h t c entries f = ap (λ (cuts : List ℕ). map Cut cuts) f.judged.cuts_are

entries_closing : {Q : Type 0} (e : Engine Q) (h : List Entry) (t : ℕ) (c : Closing) (entries : List Entry) → IsClosing e h t c entries → entries ≡ with_cuts_after e h (Advance t)
entries_closing e h t c entries f = f.entries_made ∙ ap (λ (cuts : List Entry). cuts ++ Advance t ∷ []) (cuts_made e h t c entries f)

-- the audit gains its cuts alone
noted_closing : {Q : Type 0} (e : Engine Q) (h : List Entry) (t : ℕ) (c : Closing) (entries : List Entry) → IsClosing e h t c entries
    → audit_list (h ++ with_cuts_after e h (Advance t)) ≡ audit_list h ++ cut_entries (length h) c.cuts.items
noted_closing e h t c entries f =
    ap (λ (cuts : List Entry). audit_list (h ++ (cuts ++ Advance t ∷ []))) (sym (cuts_made e h t c entries f))
    ∙ ap audit_list (sym (append_assoc h (map Cut c.cuts.items) (Advance t ∷ [])))
    ∙ audit_same (after_cuts h c.cuts.items) (Advance t) refl
    ∙ audit-cuts h c.cuts.items

pub closing_full : {Q : Type 0} (limits : JournalLimits) (count sizes : ℕ) (e : Engine Q) (h : List Entry) (t : ℕ) (c : Closing) (entries : List Entry) → IsCountOf h count sizes → IsClosing e h t c entries
    → (HasRoom limits count sizes entries → ⊥) → RefusesAdvanceAfter fault.JournalFull limits e h t
closing_full limits count sizes e h t c entries counts f full = (
  f.ahead,
  λ r. full (room_before limits count sizes h entries counts (subst (λ (more : List Entry). HasRoomAfter limits h more) (sym (entries_closing e h t c entries f)) r)),
)

pub closing_audit : {Q : Type 0} (why : Fault) (limits : JournalLimits) (count sizes : ℕ) (e : Engine Q) (h : List Entry) (t : ℕ) (c : Closing) (entries : List Entry) → IsCountOf h count sizes → IsClosing e h t c entries
    → HasRoom limits count sizes entries → LacksAudit why e.audit (length c.cuts.items) → RefusesAdvanceAfter why limits e h t
closing_audit (fault.AuditFull need room) limits count sizes e h t c entries counts f r lacks = (
  f.ahead,
  subst (λ (more : List Entry). HasRoomAfter limits h more) (entries_closing e h t c entries f) (room_after limits count sizes h entries counts r),
  (cut_entries (length h) c.cuts.items, noted_closing e h t c entries f, lacks.0 ∙ sym (length-cut_entries (length h) c.cuts.items)),
  lacks.2,
  lacks.1,
)
closing_audit fault.OutOfMemory limits count sizes e h t c entries counts f r lacks = f.ahead
closing_audit fault.JournalFull limits count sizes e h t c entries counts f r lacks = absurd lacks
closing_audit fault.UnknownSession limits count sizes e h t c entries counts f r lacks = absurd lacks
closing_audit (fault.OutOfTurn expected) limits count sizes e h t c entries counts f r lacks = absurd lacks
closing_audit (fault.Malformed why) limits count sizes e h t c entries counts f r lacks = absurd lacks
closing_audit fault.Stale limits count sizes e h t c entries counts f r lacks = absurd lacks
closing_audit (fault.Policy why) limits count sizes e h t c entries counts f r lacks = absurd lacks
closing_audit fault.BadName limits count sizes e h t c entries counts f r lacks = absurd lacks
closing_audit (fault.AlreadySubscribed sub) limits count sizes e h t c entries counts f r lacks = absurd lacks
closing_audit fault.UnknownSub limits count sizes e h t c entries counts f r lacks = absurd lacks
closing_audit fault.NoHandle limits count sizes e h t c entries counts f r lacks = absurd lacks
closing_audit fault.HandedFull limits count sizes e h t c entries counts f r lacks = absurd lacks
closing_audit fault.BadLimits limits count sizes e h t c entries counts f r lacks = absurd lacks
closing_audit (fault.ClockBack last) limits count sizes e h t c entries counts f r lacks = absurd lacks

-- memory ran out where the clock doesn't stand later
pub ahead_memory : {Q : Type 0} (why : Fault) (limits : JournalLimits) (e : Engine Q) (h : List Entry) (t : ℕ) → why ≡ fault.OutOfMemory → clock_of h ≤ t → RefusesAdvanceAfter why limits e h t
ahead_memory why limits e h t is ahead = rw is ahead

-- the room that was made for an advance holds what is named of its cuts
pub closing_held : {Q : Type 0} (d e : Engine Q) (h : List Entry) (t : ℕ) (c : Closing) (entries : List Entry) → IsSameEngine d e → Stands d h → IsClosing d h t c entries → HasRoomToClose e c → AuditHoldsAfter d h (with_cuts_after d h (Advance t))
closing_held d e h t c entries same so f room =
    audit_holds d h (with_cuts_after d h (Advance t)) (cut_entries (length h) c.cuts.items) so.audit (noted_closing d h t c entries f)
    (omega (arith, room.audit.room, same.audit_limit, ap (λ (s : AuditStanding). s.waiting) same.audit, length-cut_entries (length h) c.cuts.items))

-- room was made for it, which the engine shows in nothing else
pub closing_for : {Q : Type 0} (d e : Engine Q) (h : List Entry) (t position : ℕ) (c : Closing) → IsSameEngine d e → Stands d h → length h ≡ position → position ≤ MOST_ENTRIES
    → IsJudged d h (Advance t) c.cuts.items (map shown c.shares.items) [] → IsClosingFor e position t c
closing_for d e h t position c same stands counted short judged = record {
  history = h;
  stands = stands_same d e h same stands;
  counted = counted;
  short = short;
  judged = judged_same d e h (Advance t) c.cuts.items (map shown c.shares.items) [] same judged;
}

-- what the engine's advance says
abbrev pub AcceptsClosing : {Q : Type 0} → Engine Q → ℕ → ℕ → Closing → Engine Q → Type 0
AcceptsClosing e position t c new = (h : List Entry) → Stands e h → length h ≡ position → clock_of h ≤ t → IsJudged e h (Advance t) c.cuts.items (map shown c.shares.items) []
    → Stands new (after_cuts h c.cuts.items ++ Advance t ∷ [])

pub advanced : {C Q : Type 0} (tells : C → List Entry → Type 0) (limits : C → JournalLimits) (old new : State C Q) (e : Engine Q) (count sizes : ℕ) (h : List Entry) (t : ℕ) (c : Closing) (entries : List Entry) (position : ℕ)
    → StateStandsFor tells old h → IsCountOf h count sizes → position ≡ count → IsClosing old.engine h t c entries → HasRoom (limits old.chronicle) count sizes entries → IsSameEngine old.engine e → AuditHoldsAfter old.engine h (with_cuts_after old.engine h (Advance t))
    → tells new.chronicle (h ++ entries) → AcceptsClosing e position t c new.engine → AdvancesAfter old.engine t h (Accepts tells limits old new h)
advanced tells limits old new e count sizes h t c entries position stands counts at f room same held told accepts =
    let same_entries : entries ≡ with_cuts_after old.engine h (Advance t) = entries_closing old.engine h t c entries f in
    let after : Stands new.engine (after_cuts h c.cuts.items ++ Advance t ∷ []) =
    accepts h (stands_same old.engine e h same stands.stands) (sym (at ∙ counts.entries)) f.ahead (judged_same old.engine e h (Advance t) c.cuts.items (map shown c.shares.items) [] same f.judged) in
    let history : after_cuts h c.cuts.items ++ Advance t ∷ [] ≡ h ++ entries = append_assoc h (map Cut c.cuts.items) (Advance t ∷ []) ∙ ap (λ (more : List Entry). h ++ more) (sym f.entries_made) in
    record {
      ahead = f.ahead;
      audit = held;
      accepts = record {
        room = subst (λ (more : List Entry). HasRoomAfter (limits old.chronicle) h more) same_entries (room_after (limits old.chronicle) count sizes h entries counts room);
        stands = record {
          told = subst (λ (more : List Entry). tells new.chronicle (h ++ more)) same_entries told;
          stands = subst (λ (more : List Entry). Stands new.engine (h ++ more)) same_entries (subst (λ (all : List Entry). Stands new.engine all) history after);
        };
      };
    }

-- the clock stands no later than the time
pub ahead_of : {Q : Type 0} (e : Engine Q) (h : List Entry) (t last : ℕ) → Stands e h → last ≡ e.in_force.clock → last ≤ t → clock_of h ≤ t
ahead_of e h t last so is ahead = subst (λ (n : ℕ). n ≤ t) (is ∙ so.clock) ahead

-- what was found out, where the cuts were lent as a slice
pub closing_found : {Q : Type 0} (e : Engine Q) (h : List Entry) (t : ℕ) (c : Closing) (entries : List Entry) (seen : List ℕ) → clock_of h ≤ t → IsJudged e h (Advance t) c.cuts.items (map shown c.shares.items) []
    → entries ≡ map Cut seen ++ Advance t ∷ [] → seen ≡ c.cuts.items → IsClosing e h t c entries
closing_found e h t c entries seen ahead judged made lent = record {
  ahead = ahead;
  judged = judged;
  entries_made = made ∙ ap (λ (cuts : List ℕ). map Cut cuts ++ Advance t ∷ []) lent;
}
