use Rattle.std.proofs.Common.{sym, subst, subst₂}
use Rattle.ipfix_message.specs.declared.fault.Fault.TheVariants as frame
use Rattle.ipfix_message.specs.FramerState.{FeedGoesOn, FailsBy}
use Rattle.ipmd_commands.specs.HexText.{AreMessagesOf}
use Rattle.ipmd_commands.proofs.Lines.{messages_fed, no_messages}
use Rattle.ipmd_commands.proofs.output.messages_of.Goals as goal

pub returns-in-Ok : goal.returns-in-Ok
returns-in-Ok c =
    messages_fed c.args.stream.now c.in-Ok.messages.items c.feed.new.self
    (subst (λ s. FeedGoesOn s c.args.stream.now c.in-Ok.messages.items c.feed.new.self) c.new.ensures c.in-Ok.ensures.ok)

pub returns-in-Err-BadVersion : goal.returns-in-Err-BadVersion
returns-in-Err-BadVersion c =
    subst (AreMessagesOf c.args.stream.now) (sym c.new-in-Err-BadVersion.ensures.items)
    (no_messages frame.BadVersion c.args.stream.now c.feed.new.self
    (subst₂ (λ s e. FailsBy e s c.args.stream.now c.feed.new.self) c.new.ensures c.in-Err-BadVersion.field-0-is c.in-Err-BadVersion.ensures.err))

pub returns-in-Err-BadLength : goal.returns-in-Err-BadLength
returns-in-Err-BadLength c =
    subst (AreMessagesOf c.args.stream.now) (sym c.new-in-Err-BadLength.ensures.items)
    (no_messages frame.BadLength c.args.stream.now c.feed.new.self
    (subst₂ (λ s e. FailsBy e s c.args.stream.now c.feed.new.self) c.new.ensures c.in-Err-BadLength.field-0-is c.in-Err-BadLength.ensures.err))
