-- The commands of an administrator's connection with their answers, and where serving it stops.
use Rattle.std.specs.Prelude.{◌≡◌, ◌≢◌, ◌⊎◌, ◌↔◌, IsTrue, ℕ, ◌+◌, ◌≤◌, ◌<◌, ◌^◌, Bool, List, [], ◌∷◌, ◌++◌, length, Option, Some, None, IsSome, IsUtf8}
use Rattle.std.specs.List.{flat_map, AllByRecursion}
use Rattle.std.specs.Io.KnownBytes.{Consumes, Appends, IsAtEnd}
use Rattle.octet_io.specs.Moments.{Reader, Writer}
use Rattle.octet_io.specs.Written.{WritesFront}
use Rattle.event_journal.specs.declared.entry.Entry.TheVariants.{Edit, Subscribe, Unsubscribe, Advance}
use Rattle.shared_mediator.specs.declared.kept.KeptEntry.{KeptEntry}
use Rattle.ipfix_reader.specs.declared.fault.FramingFault.TheVariants as framing
use Rattle.mediator_state.specs.declared.fault.Fault.TheVariants as fault
use Rattle.shared_mediator.specs.Handles.{KeepsEntry}
use Rattle.admin_text.specs.Sayings.{AdminSaying}
use Rattle.admin_text.specs.Sayings.AdminSaying.{to_edit, to_subscribe, to_unsubscribe, to_advance, to_tell_status, to_drain_audit, to_tell, to_stop}
use Rattle.admin_text.specs.Reading.{command_of}
use Rattle.admin_text.specs.Answers.{IsAnswerText}
use Rattle.admin_text.specs.declared.answer.Answer.{Answer}
use Rattle.admin_text.specs.declared.answer.Answer.TheVariants as answer
use Rattle.mediator_connections.specs.declared.fault.Fault.{Fault}
use Rattle.mediator_connections.specs.declared.fault.Fault.TheVariants.{Read, Write, Framing, Turns, Mediator}
use Rattle.mediator_connections.specs.CommandInput.{InputState, HandsOutOctets, IsLine, IsInside, StopsReading}

-- what an administrator's handle keeps, before and after
pub record Handle : Type 0 where
  pub before : List KeptEntry
  pub after : List KeptEntry

abbrev pub handle_of : List KeptEntry → List KeptEntry → Handle
handle_of before after = record { before = before; after = after }

-- ---- one call

-- what an edit by these octets answers, and what the handle keeps
abbrev pub AnswersEdit : List ℕ → Answer → List KeptEntry → List KeptEntry → Type 0
AnswersEdit text (answer.Edited revision) old new = KeepsEntry old (Edit text) new
AnswersEdit text (answer.Refused why) old new = new ≡ old
AnswersEdit text answer.BadText old new = ¬ (IsUtf8 text) × (new ≡ old)
AnswersEdit text _ old new = ⊥

abbrev pub AnswersSubscribe : List ℕ → Answer → List KeptEntry → List KeptEntry → Type 0
AnswersSubscribe name (answer.Subscribed sub) old new = KeepsEntry old (Subscribe sub name) new
AnswersSubscribe name (answer.Refused why) old new = new ≡ old
AnswersSubscribe name _ old new = ⊥

abbrev pub AnswersUnsubscribe : ℕ → Answer → List KeptEntry → List KeptEntry → Type 0
AnswersUnsubscribe sub answer.Done old new = KeepsEntry old (Unsubscribe sub) new
AnswersUnsubscribe sub (answer.Refused why) old new = new ≡ old
AnswersUnsubscribe sub _ old new = ⊥

abbrev pub AnswersAdvance : ℕ → Answer → List KeptEntry → List KeptEntry → Type 0
AnswersAdvance t answer.Done old new = KeepsEntry old (Advance t) new
AnswersAdvance t (answer.Refused why) old new = new ≡ old
AnswersAdvance t _ old new = ⊥

-- no subscription has the number, or this is how it stands
abbrev pub TellsStatus : Answer → List KeptEntry → List KeptEntry → Type 0
TellsStatus (answer.Stands status) old new = new ≡ old
TellsStatus (answer.Refused why) old new = (why ≡ fault.UnknownSub) × (new ≡ old)
TellsStatus _ old new = ⊥

abbrev pub DrainsAudit : Answer → List KeptEntry → List KeptEntry → Type 0
DrainsAudit (answer.Drained entries) old new = new ≡ old
DrainsAudit (answer.Refused why) old new = (why ≡ fault.OutOfMemory) × (new ≡ old)
DrainsAudit _ old new = ⊥

-- a page was told, or there was no memory for it
abbrev pub TellsPage : Answer → List KeptEntry → List KeptEntry → Type 0
TellsPage (answer.Told page) old new = new ≡ old
TellsPage (answer.Refused why) old new = (why ≡ fault.OutOfMemory) × (new ≡ old)
TellsPage _ old new = ⊥

-- what is answered to what a line asks for, with the octets behind the line that belong to it, and what the handle keeps by it
abbrev pub AnswersLine : Option AdminSaying → List ℕ → Answer → List KeptEntry → List KeptEntry → Type 0
AnswersLine (Some (to_edit octets)) text reply old new = (length text ≡ octets) × AnswersEdit text reply old new
AnswersLine (Some (to_subscribe name)) text reply old new = (text ≡ []) × AnswersSubscribe name reply old new
AnswersLine (Some (to_unsubscribe sub)) text reply old new = (text ≡ []) × AnswersUnsubscribe sub reply old new
AnswersLine (Some (to_advance t)) text reply old new = (text ≡ []) × AnswersAdvance t reply old new
AnswersLine (Some (to_tell_status sub)) text reply old new = (text ≡ []) × TellsStatus reply old new
AnswersLine (Some (to_drain_audit most)) text reply old new = (text ≡ []) × DrainsAudit reply old new
AnswersLine (Some (to_tell topic)) text reply old new = (text ≡ []) × TellsPage reply old new
AnswersLine (Some to_stop) text reply old new = (text ≡ []) × (reply ≡ answer.Done) × (new ≡ old)
AnswersLine None text reply old new = (text ≡ []) × (reply ≡ answer.BadLine) × (new ≡ old)

-- ---- one line after another

-- a line with the octets that it was read from, the text behind it, the reply, and the octets that were due for it
pub record Exchange : Type 0 where
  pub line : List ℕ
  pub octets : List ℕ
  pub text : List ℕ
  pub reply : Answer
  pub written : List ℕ

-- the octets of exchanges, as they are read and as they are written
abbrev pub octets_read : List Exchange → List ℕ
octets_read exchanges = flat_map (λ x. x.octets ++ x.text) exchanges

abbrev pub octets_written : List Exchange → List ℕ
octets_written exchanges = flat_map (λ x. x.written) exchanges

-- the line was read, and its call was made: the handle keeps what the reply says
pub record IsExchange (x : Exchange) (old new : List KeptEntry) : Type 0 where
  pub line : IsLine x.line x.octets
  pub answers : AnswersLine (command_of x.line) x.text x.reply old new
  pub written : IsAnswerText x.reply x.written

abbrev pub AreExchanges : List Exchange → List KeptEntry → List KeptEntry → Type 0
AreExchanges [] old new = new ≡ old
AreExchanges (x ∷ xs) old new = (mid : List KeptEntry) × IsExchange x old mid × AreExchanges xs mid new

-- a command, behind which more may come: one that isn't to stop
abbrev pub MayBeFollowed : Exchange → Type 0
MayBeFollowed x = IsSome (command_of x.line) × (command_of x.line ≢ Some to_stop)

-- commands were read and their calls were made, in order, and then this line's, if there is one; and these octets behind them were read
pub record Exchanges (commands last : List Exchange) (rest : List ℕ) (reader : Reader) (handle : Handle) : Type 0 where
  pub are : AllByRecursion MayBeFollowed commands
  pub done : AreExchanges (commands ++ last) handle.before handle.after
  pub read : Consumes reader.given reader.left (octets_read (commands ++ last) ++ rest)

-- ---- where it ends

-- the input ended behind the commands; or behind them one line more is no command, or to stop, and this one is counted too
abbrev pub EndsAt : List Exchange → ℕ → List ℕ → Option (List ℕ) → Type 0
EndsAt [] more rest left = (more ≡ 0) × (rest ≡ []) × IsAtEnd left
EndsAt (x ∷ []) more rest left = ((command_of x.line ≡ None) × (more ≡ 0)) ⊎ ((command_of x.line ≡ Some to_stop) × (more ≡ 1))
EndsAt _ more rest left = ⊥

-- all were answered, and the commands counted
pub record ServesAdmin (count : ℕ) (reader : Reader) (writer : Writer) (handle : Handle) : Type 0 where
  pub commands : List Exchange
  pub last : List Exchange
  pub rest : List ℕ
  pub exchanges : Exchanges commands last rest reader handle
  pub written : Appends writer.held writer.holds (octets_written (commands ++ last))
  pub more : ℕ
  pub counted : count ≡ length commands + more
  pub ends : EndsAt last more rest reader.left

-- ---- where it stops

-- commands were answered, and of the next one these octets were read at least, and no call was made
pub record StopsInside (commands : List Exchange) (begun : List ℕ) (reader : Reader) (writer : Writer) (handle : Handle) : Type 0 where
  pub exchanges : Exchanges commands [] begun reader handle
  pub written : Appends writer.held writer.holds (octets_written commands)

-- commands were answered, and the call of the next line was made
pub record StopsBehind (commands : List Exchange) (last : Exchange) (reader : Reader) (handle : Handle) : Type 0 where
  pub rest : List ℕ
  pub exchanges : Exchanges commands (last ∷ []) rest reader handle

-- why it stops: the reader failed; no read is left, and each gave some octets; the input ended inside a command; there was no memory
-- for what was read; the writer failed inside an answer; or with the next answer, the octets could not be counted
abbrev pub StopsAdmin : Fault → ℕ → Reader → Writer → Bool → Handle → List Exchange → Type 0
StopsAdmin Read turns reader writer has_failed handle commands = (begun : List ℕ) × StopsInside commands begun reader writer handle
StopsAdmin Turns turns reader writer has_failed handle commands =
    (begun : List ℕ) × StopsInside commands begun reader writer handle × (turns ≤ length (octets_read commands ++ begun))
StopsAdmin (Framing framing.CutOff) turns reader writer has_failed handle commands =
    (begun : List ℕ) × StopsInside commands begun reader writer handle × (0 < length begun) × IsAtEnd reader.left
StopsAdmin (Mediator fault.OutOfMemory) turns reader writer has_failed handle commands =
    (begun : List ℕ) × StopsInside commands begun reader writer handle
StopsAdmin (Write sent) turns reader writer has_failed handle commands =
    (last : Exchange) × StopsBehind commands last reader handle
    × WritesFront writer.held writer.holds (octets_written (commands ++ last ∷ [])) sent has_failed × (length (octets_written commands) ≤ sent)
StopsAdmin (Mediator fault.HandedFull) turns reader writer has_failed handle commands =
    (last : Exchange) × StopsBehind commands last reader handle
    × Appends writer.held writer.holds (octets_written commands) × (2 ^ 64 ≤ length (octets_written (commands ++ last ∷ [])))
StopsAdmin _ turns reader writer has_failed handle commands = ⊥

-- ---- what no public clause cites

-- octets behind a line were handed out, and what the line asks for was answered so
pub record Performs (read : Option AdminSaying) (reply : Answer) (old : InputState) (reader : Reader) (new : InputState) (handle : Handle) : Type 0 where
  pub text : List ℕ
  pub handed : HandsOutOctets old reader.given reader.left text new
  pub answers : AnswersLine read text reply handle.before handle.after

-- a line was handed out, with the text behind it, and answered so; and whether it asks to stop
pub record Hears (reply : Answer) (stops : Bool) (old : InputState) (reader : Reader) (new : InputState) (handle : Handle) : Type 0 where
  pub line : List ℕ
  pub octets : List ℕ
  pub text : List ℕ
  pub is_line : IsLine line octets
  pub handed : HandsOutOctets old reader.given reader.left (octets ++ text) new
  pub answers : AnswersLine (command_of line) text reply handle.before handle.after
  pub stop : IsTrue stops ↔ (command_of line ≡ Some to_stop)

-- nothing was answered, behind these octets of a command
pub record StopsHearing (e : Fault) (old : InputState) (given left : Option (List ℕ)) (new : InputState) : Type 0 where
  pub octets : List ℕ
  pub stops : StopsReading e old given left octets new
  pub begun : IsInside e octets

-- the writer failed inside these octets; or behind so many they can't be counted
abbrev pub StopsSendingOctets : Fault → List ℕ → ℕ → Option (List ℕ) → Option (List ℕ) → Bool → Type 0
StopsSendingOctets (Write count) octets sent held holds has_failed = (front : ℕ) × (count ≡ sent + front) × WritesFront held holds octets front has_failed
StopsSendingOctets (Mediator fault.HandedFull) octets sent held holds has_failed = (holds ≡ held) × (2 ^ 64 ≤ sent + length octets)
StopsSendingOctets _ octets sent held holds has_failed = ⊥

pub record StopsReplying (e : Fault) (reply : Answer) (sent : ℕ) (held holds : Option (List ℕ)) (has_failed : Bool) : Type 0 where
  pub text : List ℕ
  pub is : IsAnswerText reply text
  pub stops : StopsSendingOctets e text sent held holds has_failed
