-- The templates of a session, its own or shared.
use Rattle.std.specs.Prelude.{◌≡◌, ℕ, List, Option, Some, None}
use Rattle.std.specs.Global.{Global}
use Rattle.std.specs.Arc.{arc_value}
use Rattle.std.specs.declared.sync.Arc.{Arc}
use Rattle.ipfix_template.specs.declared.template.Template.{Template}
use Rattle.ipfix_session.specs.declared.by_domain.ByDomain.{ByDomain}
use Rattle.ipfix_session.specs.declared.tables.Tables.{Tables}
use Rattle.ipfix_session.specs.declared.tables.Tables.TheVariants.{Own, Shared}
use Rattle.ipfix_session.specs.Places.{Places, Tabled}
use Rattle.ipfix_session.specs.Domains.{shown_tables, places_of}

-- the tables by their domains, whoever owns them
abbrev pub tables_in : Tables → List (ℕ × Tabled)
tables_in (Own d) = d.tables.entries
tables_in (Shared shared) = (arc_value shared).tables.entries

-- the places that are made in each domain, where the tables are the session's own
abbrev pub own_places : Tables → Option (List (ℕ × Places))
own_places (Own d) = Some (places_of d.tables.entries)
own_places (Shared shared) = None

-- the templates of each domain, as their owners see them
abbrev pub known_to : Arc ByDomain Global → List (ℕ × List (ℕ × Template))
known_to shared = shown_tables (arc_value shared).tables.entries

-- the same tables, and as much one's own
pub record IsSameTables (t u : Tables) : Type 0 where
  pub tables : tables_in t ≡ tables_in u
  pub own : own_places t ≡ own_places u
