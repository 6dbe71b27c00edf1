use Rattle.std.proofs.Common.{sym, subst, arith}
use Rattle.std.proofs.lemmas.Bool.{eqb-false}
use Rattle.ipfix_octets.specs.MessageFormat.{least_template_id}
use Rattle.ipfix_template.specs.declared.template.Template.{Template}
use Rattle.ipfix_template.specs.Template.{IsAcceptable, IsWritable, is_options}
use Rattle.stream_meaning.proofs.Seen.{accepted_of_some, seen_run}
use Rattle.stream_meaning.proofs.streamable.run_for_proof.Goals as goal

pub template_for_proof-requires : goal.template_for_proof-requires
template_for_proof-requires c =
    let run = c.args.run.now in
    let some = eqb-false _ _ (sym c.if-not-is_empty.ensures.value) in
    subst IsAcceptable (sym c.template.ensures.value) (accepted_of_some run.template run.texts c.template.ensures.kept (omega (arith, some)))

pub returns-then-not-is_empty : goal.returns-then-not-is_empty
returns-then-not-is_empty c =
    let run = c.args.run.now in
    seen_run run.template run.texts c.template.ensures.kept (subst (λ (t : Template). IsWritable least_template_id (is_options t) t) c.template.ensures.value c.template_for_proof.ensures)
