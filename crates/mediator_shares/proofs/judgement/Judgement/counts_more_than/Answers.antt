use Rattle.std.proofs.Common.{◌↔◌, ◌<◌, map, ap, ◌∙◌, subst}
use Rattle.std.specs.Prelude.{IsTrue}
use Rattle.mediator_tables.specs.Adding.{tallied}
use Rattle.mediator_shares.specs.Totals.{total_of}
use Rattle.mediator_shares.proofs.TotalLaws.{counts_by_some}
use Rattle.mediator_shares.proofs.judgement.Judgement.counts_more_than.Goals as goal

pub returns-clause-exact : goal.returns-clause-exact
returns-clause-exact c = λ domain f records served notes is terms.
    subst (λ ts. IsTrue c.add_more_than.result ↔ (c.args.most < total_of ts)) (ap (map tallied) c.deref.ensures.value ∙ (is.by_terms f served notes terms).tallies_are) c.add_more_than.ensures

pub returns-clause-some : goal.returns-clause-some
returns-clause-some c = λ domain records is yes. counts_by_some c.args.most domain records c.args.self.now c.deref.result.now c.deref.ensures.value (c.add_more_than.ensures.0 yes) is
