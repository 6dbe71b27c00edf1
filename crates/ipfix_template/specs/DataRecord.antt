-- A record with its template (RFC 7011, sections 3.1, 3.3.2 and 3.4.3).
use Rattle.std.specs.Prelude.{◌≡◌, ℕ, ◌+◌, ◌≤◌, true, List, length}
use Rattle.ipfix_octets.specs.MessageFormat.{longest_message, header_octets, set_header_octets, least_template_id}
use Rattle.ipfix_template.specs.declared.template.Template.{Template}
use Rattle.ipfix_template.specs.Template.{IsAcceptable, is_options, template_record}
use Rattle.ipfix_template.specs.Values.{fit_fields, record_text, values_in}

-- a template and values for its fields
pub record DataRecord : Type 0 where
  pub template : Template
  pub values : List (List ℕ)

-- a message has its header, and that of a set
abbrev pub FitsOneMessage : List ℕ → Type 0
FitsOneMessage content = header_octets + set_header_octets + length content ≤ longest_message

-- the template may be announced, the values are its fields', and each of the two fits one message
pub record IsSound (r : DataRecord) : Type 0 where
  pub accepted : IsAcceptable r.template
  pub fit : fit_fields r.template.fields r.values ≡ true
  pub template_fits : FitsOneMessage (template_record least_template_id (is_options r.template) r.template)
  pub record_fits : FitsOneMessage (record_text r.template.fields r.values)

-- a record as it is kept: its template, and the octets that its values are found in
abbrev pub kept_record : Template → List ℕ → DataRecord
kept_record template octets = record { template = template; values = values_in template.fields octets }

-- what is kept is a record, and its octets are its values in their shortest texts, one after another (RFC 7011,
-- sections 3.4.3 and 7)
pub record IsKept (t : Template) (octets : List ℕ) : Type 0 where
  pub sound : IsSound (kept_record t octets)
  pub shortest : octets ≡ record_text t.fields (values_in t.fields octets)
