use Rattle.std.proofs.Common.{refl}
use Rattle.mediator_history.proofs.HistoryLaws.{accepted-push, disclosed-push, audit-push}
use Rattle.mediator_history.proofs.laws.one_entry_more.Goals as goal

pub returns-clause-start : goal.returns-clause-start
returns-clause-start c = λ sub. (refl, refl, refl)

pub returns-clause-accepts : goal.returns-clause-accepts
returns-clause-accepts c = accepted-push

pub returns-clause-discloses : goal.returns-clause-discloses
returns-clause-discloses c = disclosed-push

pub returns-clause-audits : goal.returns-clause-audits
returns-clause-audits c = audit-push
