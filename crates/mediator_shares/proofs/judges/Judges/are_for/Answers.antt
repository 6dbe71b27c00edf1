use Rattle.std.proofs.Common.{ℕ, List, map, ap, sym, subst, ◌∙◌}
use Rattle.ipfix_template.specs.DataRecord.{DataRecord}
use Rattle.mediator_shares.specs.declared.judges.Judge.{Judge}
use Rattle.mediator_shares.specs.Judges.{Judges, AreFor, whose, for_of, share_of_judge}
use Rattle.mediator_shares.proofs.judges.Judges.are_for.Goals as goal

pub returns : goal.returns
returns c = λ yes.
    subst (λ (j : Judges). AreFor j c.args.domain c.args.served.now) c.self.view_is (record {
      whose_they_are = ap (λ (js : List Judge). map whose (map for_of js)) (sym c.deref.ensures.value) ∙ c.are_for.ensures.whose yes;
      subs = ap (λ (js : List Judge). map (λ (s : ℕ × List DataRecord). s.0) (map share_of_judge js)) (sym c.deref.ensures.value) ∙ c.are_for.ensures.subs yes;
    })
