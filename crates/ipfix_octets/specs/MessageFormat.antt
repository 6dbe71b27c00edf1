-- The numbers of the message format (RFC 7011, section 3).
use Rattle.std.specs.Prelude.{ℕ}

-- the Version Number of IPFIX (section 3.1)
abbrev pub ipfix_version : ℕ
ipfix_version = 10

-- the most octets of a message, since its Length stands in two octets (section 3.1)
abbrev pub longest_message : ℕ
longest_message = 65535

-- the octets of a message header (section 3.1)
abbrev pub header_octets : ℕ
header_octets = 16

-- the octets of a set header (section 3.3.2)
abbrev pub set_header_octets : ℕ
set_header_octets = 4

-- the octets of a template record's header: ID and Field Count (section 3.4.1)
abbrev pub record_header_octets : ℕ
record_header_octets = 4

-- the Set IDs of Template Sets and of Options Template Sets (section 3.3.2)
abbrev pub template_set_id : ℕ
template_set_id = 2

abbrev pub options_template_set_id : ℕ
options_template_set_id = 3

-- the least ID of a template, and so of a Data Set (sections 3.3.2 and 3.4.1)
abbrev pub least_template_id : ℕ
least_template_id = 256
