-- What messages mean, message by message.
use Rattle.std.proofs.Common.{◌≡◌, ℕ, List, [], ◌∷◌, ◌++◌, reverse, map, Result, Ok, Err, refl, sym, ap, ◌∙◌, append_assoc}
use Rattle.std.proofs.lemmas.List.{append-nil, reverse-append}
use Rattle.ipfix_template.specs.DataRecord.{DataRecord}
use Rattle.ipfix_message.specs.Reading.{header_of}
use Rattle.sequences.specs.Results.{◌>>=◌}
use Rattle.ipfix_session.specs.declared.fault.Fault.{Fault}
use Rattle.ipfix_session.specs.Contents.{Contents}
use Rattle.ipfix_session.specs.Meaning.{domain_of, contents_of, gap_of, meaning_of, with_domain, records_after, both_records, records_meant}

abbrev Records : Type 0
Records = Result (List (ℕ × DataRecord)) Fault

abbrev read_records : List (ℕ × DataRecord) → Records
read_records records = Ok records

-- the records of a message and those of the messages after it
abbrev with_others : ℕ → Result Contents Fault → Records → Records
with_others domain contents others = contents >>= λ c. others >>= λ o. Ok (map (with_domain domain) c.records ++ o)

joined-nil : (r : Records) → r ≡ both_records (Ok []) r
joined-nil (Ok records) = refl
joined-nil (Err e) = refl

with_joined : (domain : ℕ) (contents : Result Contents Fault) (a b : Records) → with_others domain contents (both_records a b) ≡ both_records (with_others domain contents a) b
with_joined domain (Err e) a b = refl
with_joined domain (Ok c) (Err e) b = refl
with_joined domain (Ok c) (Ok records) (Err e) = refl
with_joined domain (Ok c) (Ok records) (Ok others) = ap read_records (sym (append_assoc (map (with_domain domain) c.records) records others))

pub records_after-append : (older first others : List (List ℕ)) → records_after older (first ++ others) ≡ both_records (records_after older first) (records_after (reverse first ++ older) others)
unfolding records_after
records_after-append older [] others = joined-nil (records_after older others)
records_after-append older (message ∷ first) others =
    let back : reverse first ++ (message ∷ older) ≡ reverse (message ∷ first) ++ older = sym (append_assoc (reverse first) (message ∷ []) older) ∙ ap (λ (ms : List (List ℕ)). ms ++ older) (sym (reverse-append (message ∷ []) first)) in
    ap (with_others (domain_of message) (contents_of older message)) (records_after-append (message ∷ older) first others ∙ ap (λ (ms : List (List ℕ)). both_records (records_after (message ∷ older) first) (records_after ms others)) back)
    ∙ with_joined (domain_of message) (contents_of older message) (records_after (message ∷ older) first) (records_after (reverse (message ∷ first) ++ older) others)

pub records_after-one : (older : List (List ℕ)) (message : List ℕ) → records_after older (message ∷ []) ≡ records_meant (domain_of message) (meaning_of older message)
unfolding records_after meaning_of
records_after-one older message = one (contents_of older message) where
  one : (contents : Result Contents Fault) → with_others (domain_of message) contents (Ok []) ≡ records_meant (domain_of message) (contents >>= λ c. Ok (record { header = header_of message; records = c.records; skips = c.skips; gap = gap_of older message }))
  one (Ok c) = ap read_records (append-nil (map (with_domain (domain_of message)) c.records))
  one (Err e) = refl
