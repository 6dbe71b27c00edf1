use Rattle.std.proofs.Common.{None}
use Rattle.std.proofs.lemmas.Map.Text.{btree_map_updates_text}
use Rattle.mediator_tables.proofs.names.Names.remove.Goals as goal

pub returns : goal.returns
returns c = λ n. btree_map_updates_text c.args.name.now c.args.self.now.by_name c.remove.new.self None c.remove.ensures.updates n
