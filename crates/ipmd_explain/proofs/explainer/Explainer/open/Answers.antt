use Rattle.std.proofs.Common.{refl, sym, ap, ◌∙◌, ◌+◌}
use Rattle.std.specs.Prelude.{string_bytes}
use Rattle.event_journal.specs.declared.entry.Entry.TheVariants.{Open}
use Rattle.history_verify.proofs.FeedLaws.{not_where}
use Rattle.ipmd_explain.proofs.StandingLaws.{or_none, taken_silent}
use Rattle.ipmd_explain.proofs.explainer.Explainer.open.Goals as goal

pub returns-then-not-is_next : goal.returns-then-not-is_next
returns-then-not-is_next c = λ h so may. absurd (not_where c.is_next.result c.is_next.ensures c.if-not-is_next.true (may.accepted refl ∙ ap (λ n. n + 1) (sym so.exporters.opened)))

pub returns : goal.returns
returns c = λ h so may. taken_silent c.args.self.now (record c.args.self.now { exporters = c.open.new.self }) c.silent-2.new.self h (Open c.args.session) (string_bytes c.silent-2.result) so may
    (record {
      question = refl;
      position = refl;
      policy = refl;
      clock = refl;
      exporters = c.in_ok-open.ensures.ok h so.exporters;
      name = refl;
      begun = sym (or_none c.args.self.now.has_begun);
      served = refl;
      met_message = refl;
      met_record = refl;
    }) c.silent-2.ensures.counted c.silent-2.ensures.text refl refl
