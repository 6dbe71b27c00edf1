use Rattle.std.proofs.Common.{refl, sym, ap, ◌∙◌, Option}
use Rattle.std.specs.Prelude.{string_bytes, unwrap_or}
use Rattle.policy_text.specs.Policies.{PolicyMeaning as Policy}
use Rattle.event_journal.specs.declared.entry.Entry.TheVariants.{Edit}
use Rattle.history_verify.proofs.ExporterLaws.{exporters_stay}
use Rattle.ipmd_explain.proofs.StandingLaws.{or_none, taken_silent}
use Rattle.ipmd_explain.proofs.explainer.Explainer.edit.Goals as goal

pub returns : goal.returns
returns c = λ h so may. taken_silent c.args.self.now (record c.args.self.now { policy = c.in-Some.policy }) c.silent-2.new.self h (Edit c.args.text.now) (string_bytes c.silent-2.result) so may
    (record {
      question = refl;
      position = refl;
      policy = ap (λ (o : Option Policy). unwrap_or o c.args.self.now.policy) (sym c.in-Some.is ∙ c.in_ok-policy.ensures);
      clock = refl;
      exporters = exporters_stay c.args.self.now.exporters h (Edit c.args.text.now) (λ s. refl) (λ s. refl) refl so.exporters;
      name = refl;
      begun = sym (or_none c.args.self.now.has_begun);
      served = refl;
      met_message = refl;
      met_record = refl;
    }) c.silent-2.ensures.counted c.silent-2.ensures.text refl refl
