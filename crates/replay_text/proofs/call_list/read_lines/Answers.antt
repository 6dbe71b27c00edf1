use Rattle.std.proofs.Common.{false, Some, None, sym, ap, ◌∙◌, arith, rules}
use Rattle.flow_prefix.proofs.PartsLaws.{cut_at-shorter}
use Rattle.policy_text.specs.Words.{lines_of}
use Rattle.replay_text.specs.Lists.{asked_calls, list_after_line, calls_of_lines}
use Rattle.replay_text.proofs.ListLaws.{list_of-start, read_lines-turn, read_lines-stop, read_lines-last, read_lines-last_stop, read_is}
use Rattle.replay_text.proofs.call_list.read_lines.Goals as goal

pub lines-init : goal.lines-init
lines-init c = record {
  reading = ap (λ list. calls_of_lines false list 1 (lines_of c.args.text.now)) c.new-list.ensures ∙ list_of-start c.args.text.now;
  text = c.utf8.text;
  count = omega arith;
}

pub returns-in-None : goal.returns-in-None
returns-in-None c =
    let none = read_is (asked_calls c.read_line.new.self) c.in_ok-started.field-0 None (list_after_line c.lines.started (asked_calls c.lines.list) c.in-Some.line.now) c.in_ok-started.ensures c.in-None.is in
    sym c.lines.invariant.reading
    ∙ read_lines-stop c.lines.started (asked_calls c.lines.list) c.lines.number c.lines.rest.now c.in-Some.line.now c.in-Some.after.now (sym c.in-Some.ensures) none

pub lines-smaller : goal.lines-smaller
lines-smaller c = cut_at-shorter 10 c.lines.rest.now c.in-Some.line.now c.in-Some.after.now (sym c.in-Some.ensures)

pub lines-preserved : goal.lines-preserved
lines-preserved c =
    let some = read_is (asked_calls c.read_line.new.self) c.in_ok-started.field-0 (Some c.in-Some-2.started) (list_after_line c.lines.started (asked_calls c.lines.list) c.in-Some.line.now) c.in_ok-started.ensures c.in-Some-2.is in
    let turn = read_lines-turn c.lines.started c.in-Some-2.started (asked_calls c.lines.list) (asked_calls c.read_line.new.self) c.lines.number c.lines.rest.now c.in-Some.line.now c.in-Some.after.now (sym c.in-Some.ensures) some in
    let shorter = cut_at-shorter 10 c.lines.rest.now c.in-Some.line.now c.in-Some.after.now (sym c.in-Some.ensures) in
    let count = c.lines.invariant.count in
    record {
      reading = sym turn ∙ c.lines.invariant.reading;
      text = search rules;
      count = omega (arith, shorter, count);
    }

pub returns-in-Some-3 : goal.returns-in-Some-3
returns-in-Some-3 c =
    let some = read_is (asked_calls c.read_line-2.new.self) c.in_ok-read_line.field-0 (Some c.in-Some-3.field-0) (list_after_line c.lines.started (asked_calls c.lines.list) c.lines.rest.now) c.in_ok-read_line.ensures c.in-Some-3.is in
    sym c.lines.invariant.reading
    ∙ read_lines-last c.lines.started c.in-Some-3.field-0 (asked_calls c.lines.list) (asked_calls c.read_line-2.new.self) c.lines.number c.lines.rest.now (sym c.in_default.ensures) some

pub returns-in-None-2 : goal.returns-in-None-2
returns-in-None-2 c =
    let none = read_is (asked_calls c.read_line-2.new.self) c.in_ok-read_line.field-0 None (list_after_line c.lines.started (asked_calls c.lines.list) c.lines.rest.now) c.in_ok-read_line.ensures c.in-None-2.is in
    sym c.lines.invariant.reading
    ∙ read_lines-last_stop c.lines.started (asked_calls c.lines.list) c.lines.number c.lines.rest.now (sym c.in_default.ensures) none
