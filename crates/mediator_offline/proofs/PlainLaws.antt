-- Where each message is accepted and cuts nobody, the history has the messages alone.
use Rattle.std.proofs.Common.{◌≡◌, ℕ, ◌+◌, List, [], ◌∷◌, ◌++◌, length, refl, sym, ap, ◌∙◌, arith, append_assoc, append-nil}
use Rattle.std.specs.List.{flat_map}
use Rattle.std.proofs.lemmas.List.{length-reverse}
use Rattle.event_journal.specs.declared.entry.Entry.{Entry}
use Rattle.event_journal.specs.declared.entry.Entry.TheVariants.{Message}
use Rattle.mediator_history.specs.Sessions.{message_in, messages_of}
use Rattle.mediator_offline.specs.declared.job.OfflineJob.{OfflineJob}
use Rattle.mediator_offline.specs.Offline.{first_entries, next_message, history_of}
use Rattle.mediator_offline.specs.Accepting.{AreAccepted}
use Rattle.mediator_offline.specs.PlainHistory.{entries_from, plain_history}
use Rattle.mediator_offline.proofs.OneMore.{history_more}

-- one message more has the number of those before it
entries_from-push : (n : ℕ) (messages : List (List ℕ)) (m : List ℕ) → entries_from n (messages ++ m ∷ []) ≡ entries_from n messages ++ Message 1 (n + length messages) m ∷ []
entries_from-push n [] m = let same : n ≡ n + 0 = omega arith in ap (λ (k : ℕ). Message 1 k m ∷ []) same
entries_from-push n (x ∷ messages) m =
    let same : n + 1 + length messages ≡ n + length (x ∷ messages) = omega arith in
    ap (λ (es : List Entry). Message 1 n x ∷ es) (entries_from-push (n + 1) messages m ∙ ap (λ (k : ℕ). entries_from (n + 1) messages ++ Message 1 k m ∷ []) same)

-- they bring the messages
brought : (n : ℕ) (messages : List (List ℕ)) → flat_map (message_in 1) (entries_from n messages) ≡ messages
brought n [] = refl
brought n (m ∷ messages) = ap (λ (ms : List (List ℕ)). m ∷ ms) (brought (n + 1) messages)

counted : (job : OfflineJob) (messages : List (List ℕ)) → length (messages_of 1 (plain_history job messages)) ≡ length messages
counted job messages = length-reverse (flat_map (message_in 1) (entries_from 0 messages)) ∙ ap length (brought 0 messages)

one_more : (job : OfflineJob) (messages : List (List ℕ)) (m : List ℕ) → plain_history job messages ++ next_message (plain_history job messages) m ∷ [] ≡ plain_history job (messages ++ m ∷ [])
one_more job messages m =
    let number : length (messages_of 1 (plain_history job messages)) ≡ 0 + length messages = omega (arith, counted job messages) in
    ap (λ (k : ℕ). plain_history job messages ++ Message 1 k m ∷ []) number
    ∙ append_assoc (first_entries job) (entries_from 0 messages) (Message 1 (0 + length messages) m ∷ [])
    ∙ ap (λ (es : List Entry). first_entries job ++ es) (sym (entries_from-push 0 messages m))

history_on : (job : OfflineJob) (before messages : List (List ℕ)) → history_of job before ≡ plain_history job before → AreAccepted job before messages → history_of job (before ++ messages) ≡ plain_history job (before ++ messages)
history_on job before [] plain so = ap (history_of job) (append-nil before) ∙ plain ∙ ap (plain_history job) (sym (append-nil before))
history_on job before (m ∷ messages) plain so =
    let here : history_of job (before ++ m ∷ []) ≡ plain_history job (before ++ m ∷ []) = history_more job before m
    ∙ ap (λ (cuts : List Entry). history_of job before ++ (cuts ++ next_message (history_of job before) m ∷ [])) so.0.1
    ∙ ap (λ (h : List Entry). h ++ next_message h m ∷ []) plain
    ∙ one_more job before m in
    ap (history_of job) (sym (append_assoc before (m ∷ []) messages))
    ∙ history_on job (before ++ m ∷ []) messages here so.1
    ∙ ap (plain_history job) (append_assoc before (m ∷ []) messages)

pub history_is_plain : (job : OfflineJob) (messages : List (List ℕ)) → AreAccepted job [] messages → history_of job messages ≡ plain_history job messages
history_is_plain job messages so = history_on job [] messages (sym (append-nil (first_entries job))) so
