use Rattle.std.proofs.Common.{refl}
use Rattle.history_verify.proofs.ExporterLaws.{exporters_keep}
use Rattle.history_verify.proofs.exporters.Exporters.keep.Goals as goal

pub returns : goal.returns
returns c = λ h number octets so on read. exporters_keep c.args.self.now _ h c.args.session number octets c.args.reading so on read refl c.keep.ensures.others c.keep.ensures.keeps
