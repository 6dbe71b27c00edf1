use Rattle.std.proofs.Common.{◌∙◌, rules, tests}
use Rattle.std.proofs.lemmas.Iterator.{YieldsList-from_slice}
use Rattle.std.proofs.lemmas.Iterator.Consumers.{YieldsList-from_filter, YieldsList-at, count_from_yields_List}
use Rattle.shared_mediator.proofs.MarkLaws.{count_handles}
use Rattle.shared_mediator.proofs.marks.Marks.count.Goals as goal

pub returns-clause-receipts : goal.returns-clause-receipts
returns-clause-receipts c h handles so =
    count_from_yields_List c.filter.result _ c.count.ensures.ran (YieldsList-from_filter _ (λ b. b) (YieldsList-at c.filter.ensures.source (YieldsList-from_slice c.args.self.now.marks (cc))) c.filter.ensures.closure (λ x r q k. search (rules, tests)))
    ∙ count_handles c.args.self.now h handles so
