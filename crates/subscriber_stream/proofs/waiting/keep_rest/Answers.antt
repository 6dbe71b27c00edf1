use Rattle.std.proofs.Common.{◌++◌, List, drop, sym, ap, ◌∙◌, arith, length-drop}
use Rattle.subscriber_stream.specs.declared.waiting.Waiting.{Waiting}
use Rattle.subscriber_stream.proofs.RunLaws.{rest_none, rest_some}
use Rattle.subscriber_stream.proofs.waiting.keep_rest.Goals as goal

pub returns-then-count-len-clause-items : goal.returns-then-count-len-clause-items
returns-then-count-len-clause-items c =
    sym (ap (λ (ws : List Waiting). ws ++ c.args.queue.now.items) (rest_none c.args.id (drop c.args.count c.args.texts) (omega (arith, length-drop c.args.count c.args.texts))))

pub returns-clause-items : goal.returns-clause-items
returns-clause-items c =
    c.push_front_reserved.ensures.items ∙ rw c.hand_out.ensures (sym (ap (λ (ws : List Waiting). ws ++ c.args.queue.now.items) (rest_some c.args.id (drop c.args.count c.args.texts) (omega (arith, length-drop c.args.count c.args.texts)))))
