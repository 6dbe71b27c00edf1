use Rattle.std.proofs.Common.{◌≡◌, ◌-◌, vec_len}
use Rattle.ipfix_message.specs.Reading.{fields_at}
use Rattle.sequences.specs.Options.{with_found}
use Rattle.ipfix_message.proofs.templates.first_fields.Given as goal

abbrev pub invariant-loop : goal.invariant-loop
invariant-loop l = record {
  read : with_found l.fields.items (fields_at (l.count - l.counter) l.rest) ≡ fields_at l.count l.octets;
  number : vec_len l.fields ≡ l.counter;
}
