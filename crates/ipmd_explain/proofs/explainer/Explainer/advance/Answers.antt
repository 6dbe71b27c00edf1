use Rattle.std.proofs.Common.{refl, sym}
use Rattle.std.specs.Prelude.{string_bytes}
use Rattle.event_journal.specs.declared.entry.Entry.TheVariants.{Advance}
use Rattle.history_verify.proofs.ExporterLaws.{exporters_stay}
use Rattle.ipmd_explain.proofs.StandingLaws.{or_none, taken_silent}
use Rattle.ipmd_explain.proofs.explainer.Explainer.advance.Goals as goal

pub returns : goal.returns
returns c = λ h so may. taken_silent c.args.self.now (record c.args.self.now { clock = c.args.t }) c.silent.new.self h (Advance c.args.t) (string_bytes c.silent.result) so may
    (record {
      question = refl;
      position = refl;
      policy = refl;
      clock = refl;
      exporters = exporters_stay c.args.self.now.exporters h (Advance c.args.t) (λ s. refl) (λ s. refl) refl so.exporters;
      name = refl;
      begun = sym (or_none c.args.self.now.has_begun);
      served = refl;
      met_message = refl;
      met_record = refl;
    }) c.silent.ensures.counted c.silent.ensures.text refl refl
