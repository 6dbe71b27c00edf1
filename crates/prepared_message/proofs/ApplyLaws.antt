-- What a prepared message means where it agrees with the session.
use Rattle.std.proofs.Common.{◌≡◌, ℕ, List, Option, Result, Ok, length, refl, sym, ap, ◌∙◌}
use Rattle.sequences.specs.Results.{◌>>=◌}
use Rattle.ipfix_message.specs.declared.header.Header.{Header}
use Rattle.ipfix_message.specs.Reading.{header_of}
use Rattle.ipfix_session.specs.declared.read.Gap.{Gap}
use Rattle.ipfix_session.specs.declared.fault.Fault.{Fault as ReadError}
use Rattle.ipfix_session.specs.Contents.{Contents}
use Rattle.ipfix_session.specs.Meaning.{Meaning, expected_number, gap_between, gap_of, meaning_of}
use Rattle.prepared_message.specs.Preparation.{Preparation, AgreesWith, IsPreparedWith}

-- contents that were read
abbrev pub read_as : Contents → Result Contents ReadError
read_as c = Ok c

-- their meaning with this header and gap
abbrev pub meaning_as : Contents → Header → Option Gap → Result Meaning ReadError
meaning_as c h gap = Ok (record { header = h; records = c.records; skips = c.skips; gap = gap })

pub is_meant : (older : List (List ℕ)) (p : Preparation) (h : Header) (count : ℕ) (gap : Option Gap) → IsPreparedWith p h count → AgreesWith older p
    → gap ≡ gap_between (expected_number h.domain older) h.sequence → meaning_of older p.message ≡ meaning_as p.contents h gap
unfolding meaning_of
is_meant older p h count gap kept agrees gap_is =
    ap (λ (r : Result Contents ReadError). r >>= λ c. meaning_as c (header_of p.message) (gap_of older p.message)) (kept.prepared.holds older agrees)
    ∙ ap (λ (g : Header). meaning_as p.contents g (gap_between (expected_number g.domain older) g.sequence)) kept.headed
    ∙ ap (meaning_as p.contents h) (sym gap_is)
