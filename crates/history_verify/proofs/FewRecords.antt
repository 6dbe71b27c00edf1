-- A message means few records.
use Rattle.std.proofs.Common.{◌≡◌, ℕ, ◌≤◌, ◌^◌, Bool, true, false, cond, ltb, eqb, List, length, take, drop, Ok, Err, refl, ap, arith}
use Rattle.std.proofs.Math.Nat.{pow-le-pow_right}
use Rattle.std.proofs.lemmas.Bool.{eqb-true}
use Rattle.std.proofs.lemmas.List.{length-take}
use Rattle.sequences.specs.Octets.{number_at, AreOctets}
use Rattle.sequences.specs.Results.{◌>>=◌}
use Rattle.sequences.proofs.OctetLaws.{be_value-below, AreOctets-drop, AreOctets-take}
use Rattle.ipfix_message.specs.declared.fault.Fault.TheVariants.{ShortHeader, BadVersion, BadLength}
use Rattle.ipfix_message.specs.Reading.{header_of, read_header, after_header, items_of}
use Rattle.ipfix_session.specs.Meaning.{Meaning, meaning_of, contents_of, read_items, items_of_domain, domain_of, gap_of}
use Rattle.mediator_history.specs.Accepted.{records_meant}
use Rattle.mediator_history.proofs.Counts.{few_records}

pow-le-two : (n : ℕ) → n ≤ 2 → 256 ^ n ≤ 65536
pow-le-two n le = pow-le-pow_right (omega arith) le

-- a message that is read has at most 65,535 octets, as its header says
short_message : (older : List (List ℕ)) (octets : List ℕ) (m : Meaning) → AreOctets octets → meaning_of older octets ≡ Ok m → length octets ≤ 65535
unfolding meaning_of contents_of items_of read_header
short_message older octets m are means = sized (ltb (length octets) 16) (eqb (number_at 0 2 octets) 10) (eqb (number_at 2 2 octets) (length octets)) refl refl refl means
  where
    sized : (a b c : Bool) → ltb (length octets) 16 ≡ a → eqb (number_at 0 2 octets) 10 ≡ b → eqb (number_at 2 2 octets) (length octets) ≡ c
        → (read_items (items_of_domain (domain_of octets) older) octets (after_header octets (cond a (Err ShortHeader) (cond b (cond c (Ok (header_of octets)) (Err BadLength)) (Err BadVersion)))) >>= λ k. Ok (record { header = header_of octets; records = k.records; skips = k.skips; gap = gap_of older octets })) ≡ Ok m → length octets ≤ 65535
    sized true b c d e f means = absurd cc
    sized false false c d e f means = absurd cc
    sized false true false d e f means = absurd cc
    sized false true true d e f means = omega (arith, eqb-true (number_at 2 2 octets) (length octets) f, be_value-below (take 2 (drop 2 octets)) (AreOctets-take 2 (drop 2 octets) (AreOctets-drop 2 octets are)), short)
      where
        short : 256 ^ length (take 2 (drop 2 octets)) ≤ 65536
        short = pow-le-two (length (take 2 (drop 2 octets))) (omega (arith, length-take 2 (drop 2 octets)))

-- a message that is read means few records
pub means_few : (older : List (List ℕ)) (octets : List ℕ) (m : Meaning) → AreOctets octets → meaning_of older octets ≡ Ok m → length m.records ≤ 65535
means_few older octets m are means = omega (arith, few_records older octets, ap (λ r. length (records_meant r)) means, short_message older octets m are means)
