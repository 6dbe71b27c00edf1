-- The lines of an answer: words parted by one space, each line with a line feed (10) behind it; all numbers are decimal.
use Rattle.std.specs.Prelude.{◌≡◌, ◌⊎◌, ℕ, List, [], ◌∷◌, ◌++◌, ◌==◌, length, codes, Bool, Option, filter}
use Rattle.std.specs.Fmt.{decimal}
use Rattle.mediator_state.specs.declared.fault.Fault.TheVariants.{OutOfMemory}
use Rattle.mediator_state.specs.declared.receipt.Status.{Status}
use Rattle.replay_text.specs.Answers.{cut_word, drained_text, refusal_text}
use Rattle.answer_writing.specs.declared.writing.Stopped.{Stopped}
use Rattle.answer_writing.specs.Written.{WritesAll, StopsWriting}
use Rattle.admin_text.specs.declared.answer.Answer.{Answer}
use Rattle.admin_text.specs.declared.answer.Answer.TheVariants as answer

abbrev pub admin_status_text : Status → List ℕ
admin_status_text status = codes "ok " ++ decimal status.queued ++ codes " " ++ decimal status.handed ++ codes " " ++ cut_word status.cut ++ 10 ∷ []

-- the lines of a page: the octets are as many lines as they have line feeds
abbrev pub page_text : List ℕ → List ℕ
page_text page = codes "ok " ++ decimal (length (filter (λ c. c == 10) page)) ++ 10 ∷ page

abbrev pub admin_answer_text : Answer → List ℕ
admin_answer_text (answer.Edited revision) = codes "ok " ++ decimal revision ++ 10 ∷ []
admin_answer_text (answer.Subscribed sub) = codes "ok " ++ decimal sub ++ 10 ∷ []
admin_answer_text answer.Done = codes "ok" ++ 10 ∷ []
admin_answer_text (answer.Stands status) = admin_status_text status
admin_answer_text (answer.Drained entries) = drained_text entries.items
admin_answer_text (answer.Told page) = page_text page.items
admin_answer_text (answer.Refused why) = refusal_text why ++ 10 ∷ []
admin_answer_text answer.BadLine = codes "err Line" ++ 10 ∷ []
admin_answer_text answer.BadText = codes "err Text" ++ 10 ∷ []

-- a call that was refused for want of memory
abbrev pub refused_for_memory : Answer
refused_for_memory = answer.Refused OutOfMemory

-- the text of the answer; or where a call was refused and there was no memory to say why, that it was refused for want of memory
abbrev pub IsAnswerText : Answer → List ℕ → Type 0
IsAnswerText (answer.Refused why) text = (text ≡ admin_answer_text (answer.Refused why)) ⊎ (text ≡ admin_answer_text refused_for_memory)
IsAnswerText reply text = text ≡ admin_answer_text reply

-- the answer was written whole behind so many octets, and its octets were counted
pub record WritesAnswer (reply : Answer) (sent count : ℕ) (held holds : Option (List ℕ)) : Type 0 where
  pub text : List ℕ
  pub is : IsAnswerText reply text
  pub writes : WritesAll text sent count held holds

-- the sink failed inside the answer; or its octets can't be counted, and none was written
pub record StopsAnswering (e : Stopped) (reply : Answer) (sent : ℕ) (held holds : Option (List ℕ)) (had_failed has_failed : Bool) : Type 0 where
  pub text : List ℕ
  pub is : IsAnswerText reply text
  pub stops : StopsWriting e text sent held holds had_failed has_failed
