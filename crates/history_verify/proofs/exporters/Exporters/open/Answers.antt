use Rattle.std.proofs.Common.{refl}
use Rattle.history_verify.proofs.ExporterLaws.{exporters_open}
use Rattle.history_verify.proofs.exporters.Exporters.open.Goals as goal

pub returns-clause-ok : goal.returns-clause-ok
returns-clause-ok c = λ h so. exporters_open c.args.self.now _ h c.args.session so c.requires.next refl c.open.ensures.others c.in_ok-open.ensures.ok
