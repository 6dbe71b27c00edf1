-- The text of an answer: words parted by one space, and a line feed (10); all numbers are decimal, octets hexadecimal.
use Rattle.std.specs.Prelude.{ℕ, Bool, true, false, List, [], ◌∷◌, ◌++◌, length, codes, Option, Some, None}
use Rattle.std.specs.List.{flat_map}
use Rattle.std.specs.Fmt.{decimal}
use Rattle.hex.specs.Hex.{encode_lower}
use Rattle.ipfix_message.specs.declared.fault.Fault.{Fault as DecodeError}
use Rattle.ipfix_message.specs.declared.fault.Fault.TheVariants as decode
use Rattle.ipfix_session.specs.declared.fault.Fault.{Fault as ReadError}
use Rattle.ipfix_session.specs.declared.fault.Fault.TheVariants as read
use Rattle.ipfix_session.specs.declared.read.Gap.{Gap}
use Rattle.ipfix_session.specs.declared.read.Skips.{Skips}
use Rattle.policy_text.specs.FaultTexts.{text_of_kind}
use Rattle.disclosure_audit.specs.declared.entry.AuditEntry.{AuditEntry}
use Rattle.disclosure_audit.specs.Lines.{audit_line}
use Rattle.mediator_state.specs.declared.fault.Fault.{Fault as MediatorFault}
use Rattle.mediator_state.specs.declared.fault.Fault.TheVariants as fault
use Rattle.mediator_state.specs.declared.receipt.Receipt.{Receipt}
use Rattle.mediator_state.specs.declared.receipt.Status.{Status}
use Rattle.mediator_state.specs.FaultTexts.{text_of_fault}
use Rattle.mediator_calls.specs.declared.call.Reply.{Reply}
use Rattle.mediator_calls.specs.declared.call.Reply.TheVariants as reply

-- ---- answers of calls that were done

abbrev pub skips_text : Skips → List ℕ
skips_text skips = codes " unknown " ++ decimal skips.unknown ++ codes " reserved " ++ decimal skips.reserved ++ codes " refused " ++ decimal skips.refused

abbrev pub gap_text : Option Gap → List ℕ
gap_text None = []
gap_text (Some gap) = codes " gap " ++ decimal gap.expected ++ codes " " ++ decimal gap.got

abbrev pub receipt_text : Receipt → List ℕ
receipt_text receipt =
    codes "ok " ++ decimal receipt.position ++ codes " records " ++ decimal receipt.records ++ codes " cut " ++ decimal receipt.cut
    ++ skips_text receipt.skips ++ gap_text receipt.gap

abbrev pub pulled_text : Option (List ℕ) → List ℕ
pulled_text None = codes "ok none"
pulled_text (Some message) = codes "ok " ++ encode_lower message

abbrev pub cut_word : Bool → List ℕ
cut_word true = codes "cut"
cut_word false = codes "live"

abbrev pub status_text : Status → List ℕ
status_text status =
    codes "ok " ++ decimal status.queued ++ codes " " ++ decimal status.handed ++ codes " " ++ decimal status.shapes ++ codes " " ++ cut_word status.cut

-- how many entries there are, and then a line for each
abbrev pub drained_text : List AuditEntry → List ℕ
drained_text entries = codes "ok " ++ decimal (length entries) ++ 10 ∷ flat_map audit_line entries

-- ---- refusals

abbrev pub decode_word : DecodeError → List ℕ
decode_word decode.ShortHeader = codes "ShortHeader"
decode_word decode.BadVersion = codes "BadVersion"
decode_word decode.BadLength = codes "BadLength"
decode_word decode.BadSetLength = codes "BadSetLength"
decode_word decode.TemplateOverrun = codes "TemplateOverrun"
decode_word decode.OutOfMemory = codes "OutOfMemory"

-- why a message is malformed
abbrev pub read_word : ReadError → List ℕ
read_word (read.Malformed why) = decode_word why
read_word read.RecordOverrun = codes "RecordOverrun"
read_word read.OutOfMemory = codes "OutOfMemory"

-- what is said of a fault behind its name
abbrev pub fault_details : MediatorFault → List ℕ
fault_details (fault.OutOfTurn expected) = codes " " ++ decimal expected
fault_details (fault.Malformed why) = codes " " ++ read_word why
fault_details (fault.Policy why) = codes " " ++ decimal why.line ++ codes " " ++ text_of_kind why.kind
fault_details (fault.AlreadySubscribed sub) = codes " " ++ decimal sub
fault_details (fault.ClockBack last) = codes " " ++ decimal last
fault_details (fault.AuditFull need room) = codes " " ++ decimal need ++ codes " " ++ decimal room
fault_details fault.BadLimits = []
fault_details fault.UnknownSession = []
fault_details fault.Stale = []
fault_details fault.BadName = []
fault_details fault.UnknownSub = []
fault_details fault.NoHandle = []
fault_details fault.HandedFull = []
fault_details fault.JournalFull = []
fault_details fault.OutOfMemory = []

abbrev pub refusal_text : MediatorFault → List ℕ
refusal_text why = codes "err " ++ text_of_fault why ++ fault_details why

-- ---- the lines of an answer

abbrev pub answer_text : Reply → List ℕ
answer_text (reply.Opened session) = codes "ok " ++ decimal session.0 ++ 10 ∷ []
answer_text reply.Closed = codes "ok" ++ 10 ∷ []
answer_text (reply.Received receipt) = receipt_text receipt ++ 10 ∷ []
answer_text (reply.Edited revision) = codes "ok " ++ decimal revision ++ 10 ∷ []
answer_text (reply.Subscribed sub) = codes "ok " ++ decimal sub.0 ++ 10 ∷ []
answer_text reply.Unsubscribed = codes "ok" ++ 10 ∷ []
answer_text reply.Advanced = codes "ok" ++ 10 ∷ []
answer_text (reply.Pulled message) = pulled_text message ++ 10 ∷ []
answer_text (reply.Stands status) = status_text status ++ 10 ∷ []
answer_text (reply.Drained entries) = drained_text entries.items
answer_text (reply.Refused why) = refusal_text why ++ 10 ∷ []

-- the answers of replies, one after another
abbrev pub answers_text : List Reply → List ℕ
answers_text replies = flat_map answer_text replies
