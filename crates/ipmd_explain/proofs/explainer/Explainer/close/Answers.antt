use Rattle.std.proofs.Common.{refl, sym}
use Rattle.std.specs.Prelude.{string_bytes}
use Rattle.event_journal.specs.declared.entry.Entry.TheVariants.{Close}
use Rattle.ipmd_explain.proofs.StandingLaws.{or_none, taken_silent}
use Rattle.ipmd_explain.proofs.explainer.Explainer.close.Goals as goal

pub returns : goal.returns
returns c = λ h so may. taken_silent c.args.self.now (record c.args.self.now { exporters = c.close.new.self }) c.silent.new.self h (Close c.args.session) (string_bytes c.silent.result) so may
    (record {
      question = refl;
      position = refl;
      policy = refl;
      clock = refl;
      exporters = c.close.ensures h so.exporters;
      name = refl;
      begun = sym (or_none c.args.self.now.has_begun);
      served = refl;
      met_message = refl;
      met_record = refl;
    }) c.silent.ensures.counted c.silent.ensures.text refl refl
