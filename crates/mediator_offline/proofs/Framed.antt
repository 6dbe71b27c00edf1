-- Messages that are read one after another are the messages that their octets are cut into.
use Rattle.std.proofs.Common.{refl, arith, eqb-true, ltb, ltb-false, eqb, cond, ℕ, ◌+◌, ◌≡◌, Bool, true, false, List, [], ◌∷◌, length, Option, None, Ok, Err}
use Rattle.std.specs.List.{concat, All}
use Rattle.std.proofs.lemmas.List.Elements.{All-nil, All-cons}
use Rattle.sequences.specs.Octets.{number_at}
use Rattle.sequences.specs.Results.{◌>>=◌}
use Rattle.ipfix_template.specs.DataRecord.{DataRecord}
use Rattle.ipfix_message.specs.declared.fault.Fault.{Fault as DecodeError}
use Rattle.ipfix_message.specs.declared.fault.Fault.TheVariants.{ShortHeader, BadVersion, BadLength}
use Rattle.ipfix_message.specs.Reading.{header_of, read_header, items_of, after_header}
use Rattle.ipfix_message.specs.Framing.{IsWhole, IsFramed}
use Rattle.ipfix_message.proofs.FramingLaws.{framed_once}
use Rattle.ipfix_message.proofs.FramerLaws.{all_framed}
use Rattle.ipfix_session.specs.Meaning.{domain_of, items_of_domain, read_items, contents_of, Meaning, gap_of, meaning_of}
use Rattle.stream_meaning.specs.Means.{plain_meaning, AreReadAs, Means}

-- a message that is read is whole
read_is_whole : (older : List (List ℕ)) (octets : List ℕ) (m : Meaning) → meaning_of older octets ≡ Ok m → IsWhole octets
unfolding meaning_of contents_of items_of read_header
read_is_whole older octets m means = by_tests (ltb (length octets) 16) (eqb (number_at 0 2 octets) 10) (eqb (number_at 2 2 octets) (length octets)) refl refl refl means
  where
    by_tests : (a b c : Bool) → ltb (length octets) 16 ≡ a → eqb (number_at 0 2 octets) 10 ≡ b → eqb (number_at 2 2 octets) (length octets) ≡ c
        → (read_items (items_of_domain (domain_of octets) older) octets (after_header octets (cond a (Err ShortHeader) (cond b (cond c (Ok (header_of octets)) (Err BadLength)) (Err BadVersion)))) >>= λ k. Ok (record { header = header_of octets; records = k.records; skips = k.skips; gap = gap_of older octets })) ≡ Ok m → IsWhole octets
    by_tests true b c d e f means = absurd cc
    by_tests false false c d e f means = absurd cc
    by_tests false true false d e f means = absurd cc
    by_tests false true true d e f means = record {
      version = eqb-true (number_at 0 2 octets) 10 e;
      least = omega (arith, ltb-false (length octets) 16 d);
      whole = eqb-true (number_at 2 2 octets) (length octets) f;
    }

all_whole : (messages : List (List ℕ)) (handed : ℕ) (older : List (List ℕ)) (records : List DataRecord) → AreReadAs handed older messages records → All IsWhole messages
all_whole [] handed older records read = All-nil IsWhole
all_whole (message ∷ messages) handed older records read =
    All-cons IsWhole message messages (read_is_whole older message (plain_meaning read.0 handed read.1) read.4)
    (all_whole messages (handed + length read.1) (message ∷ older) read.2 read.5)

-- messages that mean a list are those that their octets are cut into
pub meant_are_cut : (messages others : List (List ℕ)) (records : List DataRecord) (fault : Option DecodeError) (pending : List ℕ) → Means messages records → IsFramed (concat messages) others fault pending → others ≡ messages
meant_are_cut messages others records fault pending means framed =
    (framed_once (concat messages) others messages fault None pending [] framed (all_framed (concat messages) messages (all_whole messages 0 [] records means.each) refl)).0
