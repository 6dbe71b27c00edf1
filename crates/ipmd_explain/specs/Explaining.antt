-- What a subscription saw of each record of a history, and by which rules: a line for each, by the same words as the audit's, which
-- say who is served, what a subscription is called, and what was in force.
use Rattle.std.specs.Prelude.{ℕ, Bool, true, false, is_some, List, [], ◌∷◌, ◌++◌, length, codes, nat_lt, Option, Some, None, ◌==◌, ◌&&◌, if◌then◌else◌}
use Rattle.std.specs.List.{flat_map, list_any}
use Rattle.std.specs.Fmt.{decimal}
use Rattle.sequences.specs.Before.{each_with_before}
use Rattle.ipfix_template.specs.DataRecord.{DataRecord}
use Rattle.policy_text.specs.Policies.{PolicyMeaning as Policy}
use Rattle.event_journal.specs.declared.entry.Entry.{Entry}
use Rattle.event_journal.specs.declared.entry.Entry.TheVariants.{Message}
use Rattle.mediator_history.specs.Subscriptions.{policy_in_force, name_of, named, is_served}
use Rattle.mediator_history.specs.Accepted.{AcceptedRecord, accepted_at, records_at}
use Rattle.mediator_history.specs.Counting.{clock_of}
use Rattle.ipmd_commands.specs.declared.fault.Absent.{Absent}
use Rattle.ipmd_commands.specs.declared.fault.Absent.TheVariants as absent
use Rattle.ipmd_explain.specs.declared.question.Question.{Question}
use Rattle.ipmd_explain.specs.FlowWords.{flow_words}
use Rattle.ipmd_explain.specs.Wording.{explanation}

-- ---- the lines

-- the line of a record: where it stands, where from and to its flow goes, what the subscriber of a name sees of it, and a line feed (10)
abbrev pub line_by : Policy → List ℕ → ℕ → ℕ → ℕ → ℕ → DataRecord → List ℕ
line_by policy name domain clock position index r =
    codes "position " ++ (decimal position ++ (codes " index " ++ (decimal index ++ (codes ": " ++ (flow_words r ++ (explanation policy name domain clock r ++ 10 ∷ []))))))

-- by what was in force when the record was accepted
abbrev pub explained_line : ℕ → List Entry → AcceptedRecord → List ℕ
explained_line sub before a = line_by (policy_in_force before) (name_of sub before) a.domain (clock_of before) a.position a.index a.flow

-- the number is the one that is asked for, or each is
abbrev pub is_asked : Option ℕ → ℕ → Bool
is_asked None n = true
is_asked (Some m) n = m == n

-- the line of an accepted record, if it is asked for and the subscription is served
abbrev pub explained_of : Question → List Entry → AcceptedRecord → List ℕ
explained_of q before a =
    if (is_asked q.position a.position && is_served q.sub before) && is_asked q.index a.index then explained_line q.sub before a else []

-- of each record of an entry, by what stands before it
abbrev pub explained_at : Question → List Entry → Entry → List ℕ
explained_at q before entry = flat_map (explained_of q before) (accepted_at before entry)

-- of each record of a history, in the order of position and index
abbrev pub explanations : Question → List Entry → List ℕ
explanations q h = each_with_before (explained_at q) h

-- ---- what is asked for, and isn't there

-- the subscription begins here
abbrev pub subscribes : ℕ → Entry → Bool
subscribes sub entry = is_some (named sub entry)

abbrev pub has_begun : ℕ → List Entry → Bool
has_begun sub h = list_any (subscribes sub) h

-- how many records a message has, if it is asked for
abbrev pub asked_at : Option ℕ → List Entry → Entry → List ℕ
asked_at position before (Message session number octets) =
    if is_asked position (length before) then length (records_at before (Message session number octets)) ∷ [] else []
asked_at position before _ = []

abbrev pub asked_messages : Option ℕ → List Entry → List ℕ
asked_messages position h = each_with_before (asked_at position) h

-- a message of so many records has the one that is asked for, or all are
abbrev pub is_within : Option ℕ → ℕ → Bool
is_within None records = true
is_within (Some index) records = nat_lt index records

abbrev pub has_message : Question → List Entry → Bool
has_message q h = list_any (λ n. true) (asked_messages q.position h)

abbrev pub has_record : Question → List Entry → Bool
has_record q h = list_any (is_within q.index) (asked_messages q.position h)

abbrev pub no_record : Bool → ℕ → Option ℕ → Option Absent
no_record met position None = None
no_record met position (Some index) = if met then None else Some (absent.Record position index)

abbrev pub no_message : Bool → Bool → Option ℕ → Option ℕ → Option Absent
no_message met_message met_record None index = None
no_message met_message met_record (Some position) index = if met_message then no_record met_record position index else Some (absent.Message position)

abbrev pub absent_by : Question → Bool → Bool → Bool → Option Absent
absent_by q begun met_message met_record = if begun then no_message met_message met_record q.position q.index else Some (absent.Subscription q.sub)

-- the subscription never began; else no message stands at the position that is asked for; else that has no such record
abbrev pub absent_of : Question → List Entry → Option Absent
absent_of q h = absent_by q (has_begun q.sub h) (has_message q h) (has_record q h)
