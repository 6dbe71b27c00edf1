-- What handles keep, as they keep more.
use Rattle.std.proofs.Common.{◌≡◌, ℕ, ◌+◌, ◌<◌, List, [], ◌∷◌, ◌++◌, length, take, drop, get_or, refl, sym, ap, ◌∙◌, subst, arith, append-nil}
use Rattle.std.specs.List.{AllByRecursion}
use Rattle.std.proofs.lemmas.List.{length-append, take_more}
use Rattle.std.proofs.Math.Seq.{drop-append_seam}
use Rattle.sequences.proofs.ListLaws.{AllByRecursion-append}
use Rattle.event_journal.specs.declared.entry.Entry.{Entry}
use Rattle.event_journal.specs.declared.entry.Entry.TheVariants.{Message}
use Rattle.prepared_message.specs.Preparation.{Preparation}
use Rattle.mediator_state.specs.declared.fault.Fault.{Fault as MediatorFault}
use Rattle.mediator_state.specs.declared.fault.Fault.TheVariants as fault
use Rattle.mediator_state.specs.Calls.{RefusesSnapshot}
use Rattle.mediator_calls.specs.Mediation.{Mediation}
use Rattle.mediator_calls.specs.Calls.{RefusesReceive, RefusesReceivePrepared}
use Rattle.shared_mediator.specs.declared.kept.KeptEntry.{KeptEntry}
use Rattle.shared_mediator.specs.declared.handed.Handed.{Handed}
use Rattle.shared_mediator.specs.Counted.{CountedMediation, has_receipt}
use Rattle.shared_mediator.specs.Handing.{RefusesHanding}
use Rattle.shared_mediator.specs.Locked.{Exporting}
use Rattle.shared_mediator.specs.Handles.{HasReceipt, IsSessionMessage, AreSessionMessages, IsExporting, MayRefuseOffer, MayRefusePull, KeepsSome}
use Rattle.shared_mediator.specs.Closing.{KeepsMessages}

-- messages have receipts
pub have_receipts : (session number : ℕ) (kept : List KeptEntry) → AreSessionMessages session number kept → AllByRecursion HasReceipt kept
have_receipts session number [] messages = tt
have_receipts session number (k ∷ kept) messages = (ap has_receipt messages.0.entry_is, have_receipts session (number + 1) kept messages.1)

-- one message more
pub more_messages : (session number next : ℕ) (kept : List KeptEntry) (k : KeptEntry) → AreSessionMessages session number kept → next ≡ number + length kept → IsSessionMessage session next k → AreSessionMessages session number (kept ++ k ∷ [])
more_messages session number next [] k messages counted is = (subst (λ n. IsSessionMessage session n k) (omega (arith, counted)) is, tt)
more_messages session number next (x ∷ kept) k messages counted is = (messages.0, more_messages session (number + 1) next kept k messages.1 (omega (arith, counted)) is)

-- a message was offered, and its receipt is kept
pub offered : (session number position parts parts_new share share_new : ℕ) (octets : List ℕ) (kept new : List KeptEntry) → IsExporting session kept parts share → number ≡ length kept → parts_new ≡ parts → share_new ≡ share + 1
    → new ≡ kept ++ record { position = position; entry = Message session number octets } ∷ [] → IsExporting session new parts_new share_new
offered session number position parts parts_new share share_new octets kept new old counted same_parts more_share is = record {
  part = same_parts ∙ old.part;
  amount = more_share ∙ omega (arith, old.amount, ap length is, length-append kept (record { position = position; entry = Message session number octets } ∷ []));
  messages = subst (AreSessionMessages session 0) (sym is) (more_messages session 0 number kept (record { position = position; entry = Message session number octets }) old.messages (omega (arith, counted)) (record { octets = octets; entry_is = refl }));
}

all_more : {A : Type 0} (P : A → Type 0) (xs : List A) (i : ℕ) (x : A) → i < length xs → x ≡ get_or xs i x → AllByRecursion P (take i xs) → P x → AllByRecursion P (take (i + 1) xs)
all_more {A} P xs i x low is before next = subst (AllByRecursion P) (sym (take_more xs i x low ∙ ap (λ (y : A). take i xs ++ y ∷ []) (sym is))) (AllByRecursion-append P (take i xs) (x ∷ []) before (next, tt))

-- loops over handles
pub messages_more : (xs : List Exporting) (i : ℕ) (x : Exporting) → i < length xs → x ≡ get_or xs i x → AllByRecursion KeepsMessages (take i xs) → AreSessionMessages x.session 0 x.kept → AllByRecursion KeepsMessages (take (i + 1) xs)
messages_more xs i x low is before next = all_more KeepsMessages xs i x low is before next

pub entries_more : (xs : List (List KeptEntry)) (i : ℕ) (x : List KeptEntry) → i < length xs → x ≡ get_or xs i x → AllByRecursion (AllByRecursion HasReceipt) (take i xs) → AllByRecursion HasReceipt x → AllByRecursion (AllByRecursion HasReceipt) (take (i + 1) xs)
entries_more xs i x low is before next = all_more (AllByRecursion HasReceipt) xs i x low is before next

-- ---- several messages are kept

-- so many messages are kept behind the others
pub record KeepsMany (old : List Handed) (now target count : ℕ) (new : List Handed) : Type 0 where
  pub messages : List Handed
  pub some : KeepsSome old now target messages new
  pub counted : count ≡ length messages

pub keeps_none : (kept : List Handed) (now target : ℕ) → KeepsMany kept now target 0 kept
keeps_none kept now target = record { messages = []; some = record { built = tt; kept = sym (append-nil kept) }; counted = refl }

-- they are those that stand behind what was kept before
since_are : (old new messages : List Handed) → new ≡ old ++ messages → drop (length old) new ≡ messages
since_are old new messages is = ap (drop (length old)) is ∙ drop-append_seam old messages

pub some_since : (old : List Handed) (now target count : ℕ) (new : List Handed) → KeepsMany old now target count new → KeepsSome old now target (drop (length old) new) new
some_since old now target count new k = subst (λ ms. KeepsSome old now target ms new) (sym (since_are old new k.messages k.some.kept)) k.some

pub few_since : (old : List Handed) (now target count : ℕ) (new : List Handed) → KeepsMany old now target count new → length (drop (length old) new) ≡ count
few_since old now target count new k = ap length (since_are old new k.messages k.some.kept) ∙ sym k.counted

-- ---- why an offer or a pull is refused

pub offer_refused : (why : MediatorFault) (m : Mediation) (session number : ℕ) (octets : List ℕ) → RefusesReceive why m session number octets → MayRefuseOffer why
offer_refused fault.UnknownSession m session number octets r = tt
offer_refused (fault.OutOfTurn expected) m session number octets r = tt
offer_refused (fault.Malformed why) m session number octets r = tt
offer_refused fault.Stale m session number octets r = tt
offer_refused fault.JournalFull m session number octets r = tt
offer_refused (fault.AuditFull need room) m session number octets r = tt
offer_refused fault.OutOfMemory m session number octets r = tt
offer_refused _ m session number octets r = absurd r

pub prepared_refused : (why : MediatorFault) (m : Mediation) (session number : ℕ) (p : Preparation) → RefusesReceivePrepared why m session number p → MayRefuseOffer why
prepared_refused fault.UnknownSession m session number p r = tt
prepared_refused (fault.OutOfTurn expected) m session number p r = tt
prepared_refused (fault.Malformed why) m session number p r = tt
prepared_refused fault.Stale m session number p r = tt
prepared_refused fault.JournalFull m session number p r = tt
prepared_refused (fault.AuditFull need room) m session number p r = tt
prepared_refused fault.OutOfMemory m session number p r = tt
prepared_refused _ m session number p r = absurd r

pub snapshot_refused : (why : MediatorFault) (h : List Entry) (session : ℕ) → RefusesSnapshot why h session → MayRefuseOffer why
snapshot_refused fault.UnknownSession h session r = tt
snapshot_refused fault.OutOfMemory h session r = tt
snapshot_refused _ h session r = absurd r

pub handing_refused : (why : MediatorFault) (c : CountedMediation) (sub : ℕ) → RefusesHanding why c sub → MayRefusePull why
handing_refused fault.UnknownSub c sub r = tt
handing_refused fault.HandedFull c sub r = tt
handing_refused fault.OutOfMemory c sub r = tt
handing_refused _ c sub r = absurd r
