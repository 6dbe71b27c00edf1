use Rattle.std.proofs.Common.{refl, ap}
use Rattle.admin_text.specs.declared.answer.Answer.TheVariants as answer
use Rattle.admin_text.specs.Sayings.{admin_saying}
use Rattle.admin_text.specs.Sayings.AdminSaying.{to_unsubscribe, to_advance, to_tell_status, to_drain_audit, to_tell, to_stop}
use Rattle.mediator_connections.proofs.Exchanging.{performed}
use Rattle.mediator_connections.proofs.admin.perform.Goals as goal

pub returns-in-Unsubscribe-clause-ok : goal.returns-in-Unsubscribe-clause-ok
returns-in-Unsubscribe-clause-ok g c = performed c.args.command (to_unsubscribe c.in-Unsubscribe.sub) c.unsubscribe.result c.args.input.now (g.R.Source.remaining c.args.reader.now) c.args.handle.now c.unsubscribe.new.handle (ap admin_saying c.in-Unsubscribe.is) (refl, c.unsubscribe.ensures)

pub returns-in-Advance-clause-ok : goal.returns-in-Advance-clause-ok
returns-in-Advance-clause-ok g c = performed c.args.command (to_advance c.in-Advance.t) c.advance.result c.args.input.now (g.R.Source.remaining c.args.reader.now) c.args.handle.now c.advance.new.handle (ap admin_saying c.in-Advance.is) (refl, c.advance.ensures)

pub returns-in-Status-clause-ok : goal.returns-in-Status-clause-ok
returns-in-Status-clause-ok g c = performed c.args.command (to_tell_status c.in-Status.sub) c.status.result c.args.input.now (g.R.Source.remaining c.args.reader.now) c.args.handle.now c.args.handle.now (ap admin_saying c.in-Status.is) (refl, c.status.ensures)

pub returns-in-Audit-clause-ok : goal.returns-in-Audit-clause-ok
returns-in-Audit-clause-ok g c = performed c.args.command (to_drain_audit c.in-Audit.most) c.drain_audit.result c.args.input.now (g.R.Source.remaining c.args.reader.now) c.args.handle.now c.args.handle.now (ap admin_saying c.in-Audit.is) (refl, c.drain_audit.ensures)

pub returns-in-Tell-clause-ok : goal.returns-in-Tell-clause-ok
returns-in-Tell-clause-ok g c = performed c.args.command (to_tell c.in-Tell.topic) c.tell.result c.args.input.now (g.R.Source.remaining c.args.reader.now) c.args.handle.now c.args.handle.now (ap admin_saying c.in-Tell.is) (refl, c.tell.ensures)

pub returns-in-Stop-clause-ok : goal.returns-in-Stop-clause-ok
returns-in-Stop-clause-ok g c = performed c.args.command to_stop answer.Done c.args.input.now (g.R.Source.remaining c.args.reader.now) c.args.handle.now c.args.handle.now (ap admin_saying c.in-Stop.is) (refl, refl, refl)
