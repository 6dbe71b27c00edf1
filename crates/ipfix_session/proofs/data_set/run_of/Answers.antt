use Rattle.std.proofs.lemmas.Result.{IfOk-weaker}
use Rattle.std.specs.Arc.{arc_value}
use Rattle.ipfix_records.specs.Pieces.{pieces}
use Rattle.ipfix_session.proofs.SetSteps.{cut_ends, run_cut, kept_along}
use Rattle.ipfix_session.proofs.data_set.run_of.Goals as goal

pub new-requires-clause-kept : goal.new-requires-clause-kept
new-requires-clause-kept c =
    let ends = c.args.found.ends.items in
    let cut = cut_ends c.args.content.now c.in_ok-octets.octets ends c.args.found.used c.requires.found.ends c.requires.found.within c.in_ok-octets.ensures.ok in
    kept_along (arc_value c.args.template.now) (arc_value c.in_ok-clone.field-0) (pieces c.args.content.now 0 ends) (pieces c.in_ok-octets.octets 0 ends) c.in_ok-clone.ensures.cases cut.1 (c.requires.found.kept c.if-found.true)

pub returns-then-found : goal.returns-then-found
returns-then-found c =
    let ends = c.args.found.ends.items in
    let cut = cut_ends c.args.content.now c.in_ok-octets.octets ends c.args.found.used c.requires.found.ends c.requires.found.within c.in_ok-octets.ensures.ok in
    IfOk-weaker c.new.result _ _ (λ run is. run_cut (arc_value c.args.template.now) (arc_value c.in_ok-clone.field-0) c.args.content.now c.in_ok-octets.octets ends run is c.in_ok-clone.ensures.cases cut.1) c.new.ensures
