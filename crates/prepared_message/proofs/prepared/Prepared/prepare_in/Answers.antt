use Rattle.std.proofs.Common.{◌≡◌, ℕ, List, sym, ap, ◌∙◌, subst, arith}
use Rattle.ipfix_template.specs.declared.template.Template.{Template}
use Rattle.prepared_message.specs.Finding.{IsFound}
use Rattle.prepared_message.proofs.FindLaws.{few_found, used_found, prepared_found}
use Rattle.prepared_message.proofs.prepared.Prepared.prepare_in.Goals as goal

pub overflow_cast-result : goal.overflow_cast-result
overflow_cast-result c =
    omega (arith, c.len-count.ensures.value, few_found c.snapshot.inside.templates c.args.message c.in_ok-header.field-0 c.in_ok-header.ensures.found)

pub invariant_of-result : goal.invariant_of-result
invariant_of-result c = (
  record {
    prepared = prepared_found c.snapshot.inside.templates c.args.message c.in_ok-header.field-0 c.in_ok-header.ensures.found;
    headed = c.in_ok-header.ensures.found.headed;
    counted = sym c.len-count.ensures.value;
  },
  c.in_ok-judgement.ensures,
)

pub returns-clause-used : goal.returns-clause-used
returns-clause-used c =
    used_found c.args.snapshot.now c.args.message c.in_ok-header.field-0
    (subst (λ (known : List (ℕ × List (ℕ × Template))). IsFound known c.args.message c.in_ok-header.field-0) c.snapshot.view_is c.in_ok-header.ensures.found)

pub returns-clause-prepared : goal.returns-clause-prepared
returns-clause-prepared c = prepared_found c.snapshot.inside.templates c.args.message c.in_ok-header.field-0 c.in_ok-header.ensures.found

pub judged-requires : goal.judged-requires
judged-requires c =
    omega (arith, few_found c.snapshot.inside.templates c.args.message c.in_ok-header.field-0 c.in_ok-header.ensures.found)
