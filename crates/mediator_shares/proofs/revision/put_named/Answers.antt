use Rattle.std.proofs.Common.{Some, true, sym, ap, ◌∙◌}
use Rattle.std.specs.String.{string_bytes}
use Rattle.std.proofs.lemmas.Map.Text.{btree_set_updates_text}
use Rattle.mediator_shares.proofs.AlikeLaws.{put_some}
use Rattle.mediator_shares.proofs.revision.put_named.Goals as goal

pub returns-in_ok-insert-in-Some : goal.returns-in_ok-insert-in-Some
returns-in_ok-insert-in-Some c = λ name.
    let key = c.in_ok-key-in-Some in
    put_some name (string_bytes key.key) c.args.rule.now.who _ _ (btree_set_updates_text (string_bytes key.key) c.args.named.now c.insert.new.self true c.in_ok-insert-in-Some.ensures.updates name)
    (c.in-Some.is ∙ ap (λ n. Some n) (sym (key.ensures.ok ∙ c.as_str.ensures)))
