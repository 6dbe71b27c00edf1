use Rattle.std.proofs.Common.{◌≡◌, ℕ, List, subst, arith}
use Rattle.ipfix_template.specs.DataRecord.{DataRecord}
use Rattle.mediator_shares.specs.Judgements.{IsJudgementOf}
use Rattle.prepared_message.proofs.ahead.JudgedAhead.judgement_of.Goals as goal

pub returns-then-are_same : goal.returns-then-are_same
returns-then-are_same c =
    let same_domain : c.self.inside.domain ≡ c.args.domain = omega (arith, c.if-own_domain-domain.true) in
    subst (λ (d : ℕ). IsJudgementOf d c.args.records.now c.self.inside.judgement) same_domain
    (subst (λ (rs : List DataRecord). IsJudgementOf c.self.inside.domain rs c.self.inside.judgement) (c.are_same.ensures c.if-are_same.true) c.self.invariant)
