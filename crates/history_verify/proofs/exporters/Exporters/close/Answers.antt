use Rattle.std.proofs.Common.{refl}
use Rattle.history_verify.proofs.ExporterLaws.{exporters_close}
use Rattle.history_verify.proofs.exporters.Exporters.close.Goals as goal

pub returns : goal.returns
returns c = λ h so. exporters_close c.args.self.now _ h c.args.session so refl c.close.ensures
