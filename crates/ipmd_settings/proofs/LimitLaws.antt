-- Limits that a mediator takes are read.
use Rattle.std.proofs.Common.{◌≡◌, ℕ, ◌≤◌, ◌^◌, pos, Some, Ok, Result, refl, ap, ◌∙◌, arith}
use Rattle.std.specs.Prelude.{Option, option_and_then}
use Rattle.std.proofs.lemmas.Bool.Decides.{nat_tests}
use Rattle.toml.specs.Data.{Data, Members, integer, as_integer, get_member}
use Rattle.ipmd_settings.specs.declared.key.Key.{Key}
use Rattle.ipmd_settings.specs.declared.fault.Fault.{Fault}
use Rattle.ipmd_settings.specs.declared.key.Key.TheVariants.{Queue, Shapes, Audit, JournalEntries, JournalOctets}
use Rattle.ipmd_settings.specs.Laws.{AllowedLimitsAreRead}
use Rattle.ipmd_settings.specs.Names.{key_name}
use Rattle.ipmd_settings.specs.Reading.{limits_in}
use Rattle.ipmd_settings.specs.Results.{value_at_key}
use Rattle.ipmd_settings.specs.Values.{within, integer_at}
use Rattle.subscriber_stream.specs.declared.limits.TheConstants.{MOST_QUEUE, MOST_SHAPES}
use Rattle.disclosure_audit.specs.declared.audit.TheConstants.{MOST_ENTRIES as MOST_AUDITED}
use Rattle.event_journal.specs.declared.limits.TheConstants.{MOST_ENTRIES, MOST_OCTETS}

within-stands : (least most n : ℕ) → least ≤ n → n ≤ most → within least most (pos n) ≡ Some n
within-stands least most n low high = grind (arith, nat_tests)

abbrev read : Key → ℕ → ℕ → Option Data → Result ℕ Fault
read k least most value = value_at_key k (option_and_then (within least most) (option_and_then as_integer value))

-- a number in its range is read
number_at-stands : (k : Key) (least most n : ℕ) (table : Members) → get_member (key_name k) table ≡ Some (integer (pos n)) → least ≤ n → n ≤ most → integer_at k least most table ≡ Ok n
number_at-stands k least most n table stands low high = ap (read k least most) stands ∙ ap (value_at_key k) (within-stands least most n low high)

pub allowed_limits_are_read : AllowedLimitsAreRead
unfolding limits_in
allowed_limits_are_read table limits allowed has =
    let queue = number_at-stands Queue 1 MOST_QUEUE limits.queue table has.queue allowed.some_queue allowed.most_queue in
    let shapes = number_at-stands Shapes 1 MOST_SHAPES limits.shapes table has.shapes allowed.some_shapes allowed.most_shapes in
    let audit = number_at-stands Audit 1 MOST_AUDITED limits.audit table has.audit allowed.some_audit allowed.most_audit in
    let entries = number_at-stands JournalEntries 1 MOST_ENTRIES limits.entries table has.entries allowed.some_entries allowed.most_entries in
    let octets = number_at-stands JournalOctets 1 MOST_OCTETS limits.octets table has.octets allowed.some_octets allowed.most_octets in
    rw (queue, shapes, audit, entries, octets) refl
