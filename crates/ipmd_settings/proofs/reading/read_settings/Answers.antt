use Rattle.std.proofs.Common.{rules}
use Rattle.toml.specs.View.{table_view}
use Rattle.ipmd_settings.specs.Asked.{asked_service}
use Rattle.ipmd_settings.proofs.FaultLaws.{returned-first}
use Rattle.ipmd_settings.proofs.reading.read_settings.Goals as goal

pub returns-clause-first : goal.returns-clause-first
returns-clause-first c = returned-first asked_service c.args.text.now (table_view c.in_ok-table.table) c.settings_in.result (search rules) c.in_ok-table.ensures.ok c.settings_in.ensures.exact
