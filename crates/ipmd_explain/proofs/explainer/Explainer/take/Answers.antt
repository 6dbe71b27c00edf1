use Rattle.std.proofs.Common.{refl, sym, ap, ◌∙◌, List, ℕ}
use Rattle.std.specs.Prelude.{string_bytes}
use Rattle.event_journal.specs.declared.entry.Entry.TheVariants.{Edit, Message, Subscribe}
use Rattle.ipmd_explain.proofs.StandingLaws.{takes_as}
use Rattle.ipmd_explain.proofs.explainer.Explainer.take.Goals as goal

pub returns-in-Message : goal.returns-in-Message
returns-in-Message c = takes_as string_bytes c.args.self.now c.message.new.self _ c.args.entry.now c.message.result c.in-Message.is c.message.ensures

pub returns-in-Open : goal.returns-in-Open
returns-in-Open c = takes_as string_bytes c.args.self.now c.open.new.self _ c.args.entry.now c.open.result c.in-Open.is c.open.ensures

pub returns-in-Close : goal.returns-in-Close
returns-in-Close c = takes_as string_bytes c.args.self.now c.close.new.self _ c.args.entry.now c.close.result c.in-Close.is c.close.ensures

pub returns-in-Edit : goal.returns-in-Edit
returns-in-Edit c = takes_as string_bytes c.args.self.now c.edit.new.self _ c.args.entry.now c.edit.result (c.in-Edit.is ∙ ap (λ (t : List ℕ). Edit t) (sym c.as_str.ensures)) c.edit.ensures

pub returns-in-Subscribe : goal.returns-in-Subscribe
returns-in-Subscribe c = takes_as string_bytes c.args.self.now c.subscribe.new.self _ c.args.entry.now c.subscribe.result c.in-Subscribe.is c.subscribe.ensures

pub returns-in-Unsubscribe : goal.returns-in-Unsubscribe
returns-in-Unsubscribe c = takes_as string_bytes c.args.self.now c.end.new.self _ c.args.entry.now c.end.result c.in-Unsubscribe.is c.end.ensures.ended

pub returns-in-Advance : goal.returns-in-Advance
returns-in-Advance c = takes_as string_bytes c.args.self.now c.advance.new.self _ c.args.entry.now c.advance.result c.in-Advance.is c.advance.ensures

pub returns-in-Cut : goal.returns-in-Cut
returns-in-Cut c = takes_as string_bytes c.args.self.now c.end-in-Cut.new.self _ c.args.entry.now c.end-in-Cut.result c.in-Cut.is c.end-in-Cut.ensures.cut
