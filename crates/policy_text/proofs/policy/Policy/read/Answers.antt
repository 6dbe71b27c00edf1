use Rattle.std.proofs.Common.{◌+◌, Option, Some, None, Ok, sym, ap, ◌∙◌, subst, arith, length}
use Rattle.policy_text.specs.Policies.{PolicyMeaning}
use Rattle.policy_text.specs.declared.fault.Fault.{Fault}
use Rattle.flow_prefix.proofs.PartsLaws.{cut_at-shorter}
use Rattle.policy_text.specs.Results.{fault_at}
use Rattle.policy_text.specs.Parsing.{line_step, policy_of}
use Rattle.policy_text.proofs.ParsingLaws.{Reports, Reports-same, reports-line, policy_of-start, read_lines-cut, read_lines-whole, read_lines-turn, read_lines-last, read_lines-done, read_lines-empty}
use Rattle.policy_text.proofs.MemoryLaws.{TakesIfMemory, text_taken, takes-turn, takes-cut, takes-whole}
use Rattle.policy_text.proofs.policy.Policy.read.Goals as goal

pub lines-init : goal.lines-init
lines-init c =
    record {
      reading = rw c.as_bytes-rest.ensures.value (policy_of-start c.args.text.now);
      taken = rw c.as_bytes-rest.ensures.value (text_taken c.args.text.now);
      count = omega (arith, ap length c.as_bytes-rest.ensures.value);
    }

pub returns-in-Err : goal.returns-in-Err
returns-in-Err c =
    let whole = read_lines-cut c.lines.policy c.lines.number c.lines.rest.now c.in-Some.line.now c.in-Some.after.now (sym c.in-Some.ensures) in
    let P : Fault → Type 0 = λ fault. Reports fault (policy_of c.args.text.now) in
    record {
      exact = subst P (sym c.fault_at.ensures)
          (Reports-same (fault_at c.lines.number c.in-Err.kind) (policy_of c.args.text.now) _ (sym c.lines.invariant.reading ∙ whole)
          (reports-line c.in-Err.kind c.lines.number (line_step c.lines.policy c.in-Some.line.now) _ c.in-Err.ensures.value));
      memory = subst (TakesIfMemory c.args.text.now) (sym c.fault_at.ensures)
          (λ want. c.lines.invariant.taken (takes-cut c.lines.policy c.lines.rest.now c.in-Some.line.now c.in-Some.after.now (sym c.in-Some.ensures) (c.in-Err.ensures.memory want)));
    }

pub lines-smaller : goal.lines-smaller
lines-smaller c = cut_at-shorter 10 c.lines.rest.now c.in-Some.line.now c.in-Some.after.now (sym c.in-Some.ensures)

pub lines-preserved : goal.lines-preserved
lines-preserved c =
    let turn = read_lines-turn c.lines.policy c.in-Ok.policy c.lines.number c.lines.rest.now c.in-Some.line.now c.in-Some.after.now (sym c.in-Some.ensures) c.in-Ok.ensures.value in
    let shorter = cut_at-shorter 10 c.lines.rest.now c.in-Some.line.now c.in-Some.after.now (sym c.in-Some.ensures) in
    let count = c.lines.invariant.count in
    record {
      reading = sym turn ∙ c.lines.invariant.reading;
      taken = λ later. c.lines.invariant.taken (takes-turn c.lines.policy c.in-Ok.policy c.lines.rest.now c.in-Some.line.now c.in-Some.after.now (sym c.in-Some.ensures) c.in-Ok.ensures.value later);
      count = omega (arith, shorter, count);
    }

pub returns-in-Ok-Some-clause-exact : goal.returns-in-Ok-Some-clause-exact
returns-in-Ok-Some-clause-exact c =
    let last = read_lines-last c.lines.policy (Some c.in-Ok-Some.policy) c.lines.number c.lines.rest.now (sym c.in_default.ensures) (c.in-Ok-Some.ensures.value ∙ ap (λ (x : Option PolicyMeaning). Ok x) c.in-Ok-Some.field-0-is) in
    sym c.lines.invariant.reading ∙ last ∙ read_lines-done c.in-Ok-Some.policy (c.lines.number + 1)

pub returns-in-Ok-None-clause-exact : goal.returns-in-Ok-None-clause-exact
returns-in-Ok-None-clause-exact c =
    let last = read_lines-last c.lines.policy None c.lines.number c.lines.rest.now (sym c.in_default.ensures) (c.in-Ok-None.ensures.value ∙ ap (λ (x : Option PolicyMeaning). Ok x) c.in-Ok-None.field-0-is) in
    let P : Fault → Type 0 = λ fault. Reports fault (policy_of c.args.text.now) in
    subst P (sym c.fault_at-in-Ok-None.ensures) (sym c.lines.invariant.reading ∙ last ∙ read_lines-empty (c.lines.number + 1))

pub returns-in-Err-read_line-clause-exact : goal.returns-in-Err-read_line-clause-exact
returns-in-Err-read_line-clause-exact c =
    let whole = read_lines-whole c.lines.policy c.lines.number c.lines.rest.now (sym c.in_default.ensures) in
    let P : Fault → Type 0 = λ fault. Reports fault (policy_of c.args.text.now) in
    subst P (sym c.fault_at-in-Err-read_line.ensures)
    (Reports-same (fault_at c.lines.number c.in-Err-read_line.kind) (policy_of c.args.text.now) _ (sym c.lines.invariant.reading ∙ whole)
    (reports-line c.in-Err-read_line.kind c.lines.number (line_step c.lines.policy c.lines.rest.now) _ c.in-Err-read_line.ensures.value))

pub returns-in-Err-read_line-clause-memory : goal.returns-in-Err-read_line-clause-memory
returns-in-Err-read_line-clause-memory c =
    subst (TakesIfMemory c.args.text.now) (sym c.fault_at-in-Err-read_line.ensures)
    (λ want. c.lines.invariant.taken (takes-whole c.lines.policy c.lines.rest.now (sym c.in_default.ensures) (c.in-Err-read_line.ensures.memory want)))
