-- One message more: what it adds to a history, to what is due and to the audit.
use Rattle.std.proofs.Common.{◌≡◌, ℕ, zero, suc, ◌+◌, ◌≤◌, ◌<◌, ◌^◌, List, [], ◌∷◌, ◌++◌, length, Option, None, refl, sym, ap, ◌∙◌, subst, arith}
use Rattle.std.specs.Prelude.{fold}
use Rattle.std.proofs.lemmas.List.{drop_all}
use Rattle.sequences.specs.Before.{each_after}
use Rattle.sequences.proofs.BeforeLaws.{each_with_before-append, each_with_before-push}
use Rattle.ipfix_template.specs.DataRecord.{DataRecord}
use Rattle.subscriber_stream.specs.Parts.{parts}
use Rattle.subscriber_stream.specs.Message.{built, place_after, next_message}
use Rattle.stream_meaning.specs.Served.{AreStreamable}
use Rattle.disclosure_audit.specs.declared.entry.AuditEntry.{AuditEntry}
use Rattle.mediator_history.specs.Auditing.{audit_at, audit_list}
use Rattle.mediator_offline.specs.declared.job.OfflineJob.{OfflineJob}
use Rattle.mediator_offline.specs.Lines.{lines_for}
use Rattle.mediator_offline.specs.Offline.{first_entries, after_message, history_of, and_then, messages_pulled as pulled_list, due_by, due, audit_due, cuts_by, next_message as next_entry}
use Rattle.mediator_offline.specs.HandsOut.{HandsOutAll}
use Rattle.mediator_offline.proofs.Lines.{lines_for-append}
use Rattle.mediator_offline.proofs.Delivering.{pulled}

-- ---- one message more

pub fold-snoc : {S A : Type 0} (f : S → A → S) (s : S) (xs : List A) (x : A) → fold f s (xs ++ x ∷ []) ≡ f (fold f s xs) x
fold-snoc f s [] x = refl
fold-snoc f s (y ∷ xs) x = fold-snoc f (f s y) xs x

pub history_more : (job : OfflineJob) (messages : List (List ℕ)) (octets : List ℕ) → history_of job (messages ++ octets ∷ []) ≡ after_message (history_of job messages) octets
history_more job messages octets = fold-snoc after_message (first_entries job) messages octets

pub due_more : (job : OfflineJob) (messages : List (List ℕ)) (octets : List ℕ) → due job (messages ++ octets ∷ []) ≡ due job messages ++ due_by job messages octets
due_more job messages octets = each_with_before-push (due_by job) messages octets

-- what a message adds to the audit
pub audit_more : (job : OfflineJob) (messages : List (List ℕ)) (octets : List ℕ) → (added : List AuditEntry) × (audit_list (history_of job (messages ++ octets ∷ [])) ≡ audit_list (history_of job messages) ++ added)
audit_more job messages octets = (
  each_after audit_at (history_of job messages) (cuts_by (history_of job messages) octets ++ next_entry (history_of job messages) octets ∷ []),
  ap audit_list (history_more job messages octets) ∙ each_with_before-append audit_at (history_of job messages) (cuts_by (history_of job messages) octets ++ next_entry (history_of job messages) octets ∷ []),
)

pub lines_more : (job : OfflineJob) (messages : List (List ℕ)) (octets : List ℕ) (added : List AuditEntry) → audit_list (history_of job (messages ++ octets ∷ [])) ≡ audit_list (history_of job messages) ++ added
    → audit_due job (messages ++ octets ∷ []) ≡ audit_due job messages ++ lines_for job.audit added
lines_more job messages octets added is = ap (lines_for job.audit) is ∙ lines_for-append job.audit (audit_list (history_of job messages)) added

-- ---- messages that were handed out are those that pulls give

pub parts_none : length (parts []) ≡ 0
unfolding parts
parts_none = refl

pub ended : (records : List DataRecord) (now target : ℕ) → built records (length (parts records)) now target ≡ None
unfolding next_message
ended records now target = ap (next_message now target _) (drop_all (length (parts records)) (parts records) (omega arith))

pub pulled-ended : (n : ℕ) (records : List DataRecord) (p now target : ℕ) → built records p now target ≡ None → pulled_list n records p now target ≡ []
pulled-ended zero records p now target is = refl
pulled-ended (suc n) records p now target is = ap (λ m. and_then m (pulled_list n records (place_after records p target) now target)) is

-- a front of them
pub handed_front : (n : ℕ) (records : List DataRecord) (now target p q : ℕ) (messages : List (List ℕ)) → HandsOutAll records now target p messages q → length messages ≤ n
    → (others : List (List ℕ)) × (pulled_list n records p now target ≡ messages ++ others)
handed_front n records now target p q [] hands few = (pulled_list n records p now target, refl)
handed_front zero records now target p q (m ∷ messages) hands few = absurd (omega arith)
handed_front (suc n) records now target p q (m ∷ messages) hands few =
    let rest = handed_front n records now target (place_after records p target) q messages hands.1 (omega arith) in
    (rest.0, ap (λ x. and_then x (pulled_list n records (place_after records p target) now target)) hands.0 ∙ ap (λ t. m ∷ t) rest.1)

-- all of them
pub handed_all : (n : ℕ) (records : List DataRecord) (now target p : ℕ) (messages : List (List ℕ)) → HandsOutAll records now target p messages (length (parts records)) → length messages ≤ n
    → pulled_list n records p now target ≡ messages
handed_all n records now target p [] hands few = pulled-ended n records p now target (subst (λ x. built records x now target ≡ None) (sym hands) (ended records now target))
handed_all zero records now target p (m ∷ messages) hands few = absurd (omega arith)
handed_all (suc n) records now target p (m ∷ messages) hands few =
    ap (λ x. and_then x (pulled_list n records (place_after records p target) now target)) hands.0
    ∙ ap (λ t. m ∷ t) (handed_all n records now target (place_after records p target) messages hands.1 (omega arith))

-- no more messages than parts
pub handed_few : (records : List DataRecord) (now target p q : ℕ) (messages : List (List ℕ)) → AreStreamable records → target < 2 ^ 16 → p ≤ length (parts records) → HandsOutAll records now target p messages q
    → p + length messages ≤ length (parts records)
handed_few records now target p q [] streamable below within hands = omega arith
handed_few records now target p q (m ∷ messages) streamable below within hands =
    let one = pulled records now target p m streamable below hands.0 in
    let more = handed_few records now target (place_after records p target) q messages streamable below (one.within within) hands.1 in
    omega (arith, one.goes_on, more)
