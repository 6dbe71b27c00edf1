-- A message brings at most as many records as it has octets.
use Rattle.std.proofs.Common.{◌≡◌, ℕ, ◌≤◌, List, length, Result, Ok, Err, refl, arith}
use Rattle.ipfix_message.specs.declared.fault.Fault.{Fault as DecodeError}
use Rattle.ipfix_message.specs.declared.item.Item.{Item}
use Rattle.ipfix_message.specs.Reading.{header_of, items_of}
use Rattle.ipfix_session.specs.declared.fault.Fault.{Fault as ReadError}
use Rattle.ipfix_session.specs.Contents.{Contents, contents_after}
use Rattle.ipfix_session.specs.Meaning.{read_items, contents_of, meaning_of, items_of_domain, domain_of, gap_of}
use Rattle.ipfix_session.proofs.RecordCounts.{HoldAtMost, few_in}
use Rattle.sequences.specs.Results.{◌>>=◌}
use Rattle.mediator_history.specs.Accepted.{records_meant}

-- a message means at most as many records as it has octets
pub few_records : (older : List (List ℕ)) (message : List ℕ) → length (records_meant (meaning_of older message)) ≤ length message
unfolding meaning_of contents_of
few_records older message = by_items (items_of message) refl
  where
    meant : (contents : Result Contents ReadError) → HoldAtMost (length message) contents → length (records_meant (contents >>= λ c. Ok (record { header = header_of message; records = c.records; skips = c.skips; gap = gap_of older message }))) ≤ length message
    meant (Ok c) few = omega (arith, few)
    meant (Err e) few = omega arith

    by_items : (r : Result (List Item) DecodeError) → items_of message ≡ r → length (records_meant (read_items (items_of_domain (domain_of message) older) message r >>= λ c. Ok (record { header = header_of message; records = c.records; skips = c.skips; gap = gap_of older message }))) ≤ length message
    by_items (Ok said) is = meant (contents_after (items_of_domain (domain_of message) older) message said) (few_in (items_of_domain (domain_of message) older) message said is)
    by_items (Err e) is = omega arith
