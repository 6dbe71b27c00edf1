use Rattle.std.proofs.Common.{◌≡◌, take}
use Rattle.std.specs.String.{string_bytes}
use Rattle.replay_text.specs.Answers.{answers_text}
use Rattle.replay_text.proofs.answer.answers_text.Given as goal

abbrev pub invariant-replies : goal.invariant-replies
invariant-replies l = string_bytes l.text ≡ answers_text (take l.reply-index l.replies)
