-- What is due is built message after message, to the end of what is disclosed.
use Rattle.std.proofs.Common.{◌≡◌, ℕ, zero, suc, ◌+◌, ◌≤◌, ◌<◌, List, [], ◌∷◌, ◌++◌, length, take, drop, Option, Some, None, refl, sym, ap, ◌∙◌, subst, arith, length-append, length-drop}
use Rattle.std.proofs.lemmas.List.{length-take}
use Rattle.sequences.specs.Before.{each_after}
use Rattle.sequences.proofs.BeforeLaws.{each_with_before-append}
use Rattle.ipfix_template.specs.DataRecord.{DataRecord}
use Rattle.subscriber_stream.specs.Parts.{Part, parts, records_of_parts}
use Rattle.subscriber_stream.specs.Message.{run_length, parts_taken, next_message, built, place_after}
use Rattle.subscriber_stream.proofs.CallLaws.{parts_more, run_some}
use Rattle.event_journal.specs.declared.entry.Entry.{Entry}
use Rattle.mediator_history.specs.Disclosed.{given_at, disclosed}
use Rattle.mediator_offline.specs.declared.job.OfflineJob.{OfflineJob}
use Rattle.mediator_offline.specs.Offline.{cuts_by, next_message as next_entry, history_of, disclosed_by, and_then, messages_pulled, due_by, due}
use Rattle.mediator_offline.specs.HandsOut.{HandsOutAll}
use Rattle.mediator_offline.specs.Due.{end_by, IsWrittenFor}
use Rattle.mediator_offline.proofs.Delivering.{at_end}
use Rattle.mediator_offline.proofs.OneMore.{history_more, parts_none, handed_all}

-- ---- one pull

within : (records : List DataRecord) (target p : ℕ) → p ≤ length (parts records) → place_after records p target ≤ length (parts records)
within records target p le = omega (arith, le, length-take (parts_taken records p target) (drop p (parts records)), length-drop p (parts records))

-- a message takes a part or more
goes_on : (records : List DataRecord) (now target p : ℕ) (m : List ℕ) → built records p now target ≡ Some m → p < place_after records p target
unfolding next_message
goes_on records now target p m is = at (drop p (parts records)) refl
  where
    at : (ps : List Part) → drop p (parts records) ≡ ps → p < place_after records p target
    at [] e = absurd (nothing (ap (next_message now target (length (records_of_parts (take p (parts records))))) (sym e) ∙ is)) where
      nothing : next_message now target (length (records_of_parts (take p (parts records)))) [] ≡ Some m → ⊥
      nothing x = absurd cc
    at (part ∷ ps) e = omega (arith, many, run_some target (part ∷ ps), length-take (run_length target (part ∷ ps)) (part ∷ ps))
      where
        many : length (take (parts_taken records p target) (drop p (parts records))) ≡ length (take (run_length target (part ∷ ps)) (part ∷ ps))
        many = ap (λ qs. length (take (run_length target qs) qs)) e

-- ---- pulls to the end

turn_built : (records : List DataRecord) (now target p : ℕ) (answer : Option (List ℕ)) (rest : List (List ℕ)) → built records p now target ≡ answer → p ≤ length (parts records)
    → (p < place_after records p target → HandsOutAll records now target (place_after records p target) rest (length (parts records))) → HandsOutAll records now target p (and_then answer rest) (length (parts records))
turn_built records now target p None rest is le more = at_end records now target p is le
turn_built records now target p (Some m) rest is le more = (is, more (goes_on records now target p m is))

built_to_end : (n : ℕ) (records : List DataRecord) (now target p : ℕ) → p ≤ length (parts records) → length (parts records) ≤ p + n → HandsOutAll records now target p (messages_pulled n records p now target) (length (parts records))
built_to_end zero records now target p le few = omega (arith, le, few)
built_to_end (suc n) records now target p le few =
    turn_built records now target p (built records p now target) (messages_pulled n records (place_after records p target) now target) refl le
    (λ on. built_to_end n records now target (place_after records p target) (within records target p le) (omega (arith, on, few)))

-- no more messages than parts
handed_within : (records : List DataRecord) (now target p q : ℕ) (messages : List (List ℕ)) → p ≤ length (parts records) → HandsOutAll records now target p messages q → p + length messages ≤ length (parts records)
handed_within records now target p q [] le hands = omega (arith, le)
handed_within records now target p q (m ∷ messages) le hands =
    omega (arith, goes_on records now target p m hands.0, handed_within records now target (place_after records p target) q messages (within records target p le) hands.1)

-- ---- a message more discloses more

grows : (job : OfflineJob) (before : List (List ℕ)) (octets : List ℕ) → end_by job before ≤ end_by job (before ++ octets ∷ [])
grows job before octets = omega (arith, ap length longer, length-append (parts (disclosed_by job before)) others)
  where
    h : List Entry
    h = history_of job before

    more : List DataRecord
    more = each_after (given_at 1) h (cuts_by h octets ++ next_entry h octets ∷ [])

    others : List Part
    others = (parts_more (disclosed_by job before) more).0

    listed : disclosed_by job (before ++ octets ∷ []) ≡ disclosed_by job before ++ more
    listed = ap (disclosed 1) (history_more job before octets) ∙ each_with_before-append (given_at 1) h (cuts_by h octets ++ next_entry h octets ∷ [])

    longer : parts (disclosed_by job (before ++ octets ∷ [])) ≡ parts (disclosed_by job before) ++ others
    longer = ap parts listed ∙ (parts_more (disclosed_by job before) more).1

-- ---- all that is due

due_after : (job : OfflineJob) (before messages : List (List ℕ)) → IsWrittenFor job before (end_by job before) messages (each_after (due_by job) before messages)
due_after job before [] = refl
due_after job before (octets ∷ messages) = (
  due_by job before octets,
  each_after (due_by job) (before ++ octets ∷ []) messages,
  refl,
  built_to_end (end_by job (before ++ octets ∷ [])) (disclosed_by job (before ++ octets ∷ [])) job.now job.target (end_by job before) (grows job before octets) (omega arith),
  due_after job (before ++ octets ∷ []) messages,
)

only_after : (job : OfflineJob) (before messages written : List (List ℕ)) → IsWrittenFor job before (end_by job before) messages written → written ≡ each_after (due_by job) before messages
only_after job before [] written so = so
only_after job before (octets ∷ messages) written (next, later, is, hands, more) =
    is ∙ ap (λ t. t ++ later) (sym one) ∙ ap (λ t. due_by job before octets ++ t) (only_after job (before ++ octets ∷ []) messages later more)
  where
    one : due_by job before octets ≡ next
    one = handed_all (end_by job (before ++ octets ∷ [])) (disclosed_by job (before ++ octets ∷ [])) job.now job.target (end_by job before) next hands
        (omega (arith, handed_within (disclosed_by job (before ++ octets ∷ [])) job.now job.target (end_by job before) (end_by job (before ++ octets ∷ [])) next (grows job before octets) hands))

pub due_found : (job : OfflineJob) (messages : List (List ℕ)) → IsWrittenFor job [] 0 messages (due job messages)
due_found job messages = subst (λ p. IsWrittenFor job [] p messages (due job messages)) parts_none (due_after job [] messages)

pub due_only : (job : OfflineJob) (messages written : List (List ℕ)) → IsWrittenFor job [] 0 messages written → written ≡ due job messages
due_only job messages written so = only_after job [] messages written (subst (λ p. IsWrittenFor job [] p messages written) (sym parts_none) so)
