-- What contracts see of a session.
use Rattle.ipfix_session.specs.declared.numbers.Numbers.{Numbers}
use Rattle.ipfix_session.specs.declared.tables.Tables.{Tables}
use Rattle.ipfix_session.specs.Domains.{shown_tables}
use Rattle.ipfix_session.specs.Sharing.{tables_in, own_places}
use Rattle.ipfix_session.specs.Expecting.{shown_numbers, number_places}
use Rattle.ipfix_session.specs.Standing.{SessionStanding, KeptSession}

abbrev pub standing_of : Numbers → Tables → SessionStanding
standing_of numbers tables = record { templates = shown_tables (tables_in tables); expected = shown_numbers numbers }

abbrev pub session_of : Numbers → Tables → KeptSession
session_of numbers tables = record { standing = standing_of numbers tables; room = record { own = own_places tables; numbers = number_places numbers } }
