use Rattle.std.proofs.Common.{ℕ, List, Some, ap, ◌∙◌}
use Rattle.std.specs.Map.{update}
use Rattle.std.specs.Str.{bytes_eq}
use Rattle.std.specs.String.{string_bytes}
use Rattle.std.proofs.lemmas.Map.Text.{btree_map_updates_text}
use Rattle.mediator_tables.specs.Naming.{number_under}
use Rattle.mediator_tables.proofs.names.Names.insert.Goals as goal

pub returns-clause-ok : goal.returns-clause-ok
returns-clause-ok c = λ n.
    btree_map_updates_text (string_bytes c.in_ok-key.key) c.args.self.now.by_name c.insert.new.self (Some c.args.sub) c.in_ok-insert.ensures.updates n
    ∙ ap (λ (bs : List ℕ). update bytes_eq (number_under c.args.self.now) bs (Some c.args.sub) n) c.in_ok-key.ensures.ok
