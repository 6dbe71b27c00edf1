-- An edit whose text is longer than a journal may be.
use Rattle.std.proofs.Common.{◌≡◌, ◌⊎◌, inl, inr, ℕ, ◌+◌, ◌<◌, Bool, true, false, cond, ltb, List, [], ◌∷◌, ◌++◌, length, Option, Some, Err, refl, sym, ap, subst, ◌∙◌, append-nil, arith}
use Rattle.std.specs.Prelude.{◌||◌}
use Rattle.std.specs.Str.{is_utf8}
use Rattle.std.specs.Io.KnownBytes.{Consumes, IsAtEnd}
use Rattle.std.proofs.KnownBytes.{Consumes-trans}
use Rattle.std.proofs.lemmas.Bool.{lt-ltb}
use Rattle.std.proofs.lemmas.List.{take_all}
use Rattle.sequences.specs.Octets.{be_value, IsNumberIn}
use Rattle.sequences.specs.Results.{◌>>=◌}
use Rattle.event_journal.specs.declared.entry.Entry.TheVariants.{Edit}
use Rattle.event_journal.specs.declared.limits.TheConstants.{MOST_ENTRIES, MOST_OCTETS}
use Rattle.journal_files.specs.declared.fault.Fault.{Fault}
use Rattle.journal_files.specs.declared.fault.Fault.TheVariants.{Truncated, BadEntry}
use Rattle.journal_files.specs.Reading.{front_of, edit_of, entry_by, entry_of, is_past}
use Rattle.journal_files.specs.Gathering.{Gathers, Skips, front_octets, announced}
use Rattle.journal_files.specs.Streaming.{FilePlace, StopsReadingFile, next_entry_of}
use Rattle.journal_files.proofs.EntryRead.{found, kind_read, front_read, number_read}
use Rattle.journal_files.proofs.EntryWritten.{text_part}

or_right : (b : Bool) → (b || true) ≡ true
or_right true = refl
or_right false = refl

past_long : (place : FilePlace) (text : List ℕ) → MOST_OCTETS < length text → is_past place.count place.octets (Edit text) ≡ true
past_long place text long = rw (lt-ltb MOST_OCTETS (place.octets + (9 + length text)) (omega (arith, long))) (or_right (ltb MOST_ENTRIES (place.count + 1)))

eight : (digits : List ℕ) → length digits ≡ 8 → IsNumberIn 8 digits (be_value digits)
eight digits wide = record { wide = wide; value = refl }

-- behind its length
edit_at : (digits text : List ℕ) → length digits ≡ 8 → entry_of (4 ∷ (digits ++ text)) ≡ text_part (be_value digits, text)
unfolding entry_by edit_of
edit_at digits text wide = kind_read 4 (digits ++ text) ∙ rw (number_read 8 (be_value digits) digits text (eight digits wide)) refl

whole_text : (len : ℕ) (text : List ℕ) → length text ≡ len → front_of len text ≡ found text []
whole_text len text long = ap (front_of len) (sym (append-nil text)) ∙ front_read len text [] long

cut_text : (len : ℕ) (text : List ℕ) → length text < len → front_of len text ≡ Err Truncated
unfolding front_of
cut_text len text few = rw (lt-ltb (length text) len few) refl

tested_next : (place : FilePlace) (text : List ℕ) (is_text : Bool) → MOST_OCTETS < length text
    → (cond is_text (found (Edit text) []) (Err BadEntry) >>= λ one. cond (is_past place.count place.octets one.0) (Err BadEntry) (found one.0 one.1)) ≡ Err BadEntry
tested_next place text true long = rw (past_long place text long) refl
tested_next place text false long = refl

pub too_long : (place : FilePlace) (digits text : List ℕ) → length digits ≡ 8 → length text ≡ be_value digits → MOST_OCTETS < length text → next_entry_of place (4 ∷ (digits ++ text)) ≡ Err BadEntry
unfolding next_entry_of
too_long place digits text wide long past =
    rw (edit_at digits text wide, whole_text (be_value digits) text long) (tested_next place text (is_utf8 text) past)

pub too_short : (place : FilePlace) (digits text : List ℕ) → length digits ≡ 8 → length text < be_value digits → next_entry_of place (4 ∷ (digits ++ text)) ≡ Err Truncated
unfolding next_entry_of
too_short place digits text wide few = rw (edit_at digits text wide, cut_text (be_value digits) text few) refl

-- what was passed over shows the fault
stops_edit : (place : FilePlace) (why : Fault) (more : ℕ) (digits : List ℕ) (given now left : Option (List ℕ)) (was has : Bool) → Consumes given now (4 ∷ digits) → length digits ≡ 8 → more ≡ be_value digits → MOST_OCTETS < more → has ≡ was → Skips why more now left → StopsReadingFile why (next_entry_of place) given left was has
stops_edit place why more digits given now left was has consumed wide is long same skips = by_fault skips.which
  where
    piece : List ℕ
    piece = 4 ∷ (digits ++ skips.piece)

    all : Consumes given left piece
    all = Consumes-trans given now left (4 ∷ digits) skips.piece consumed skips.consumed

    by_fault : ((why ≡ BadEntry) × (length skips.piece ≡ more)) ⊎ ((why ≡ Truncated) × (length skips.piece < more) × IsAtEnd left) → StopsReadingFile why (next_entry_of place) given left was has
    by_fault (inl p) = subst (λ k. StopsReadingFile k (next_entry_of place) given left was has) (sym p.0)
        (record { piece = piece; consumed = all; shown = too_long place digits skips.piece wide (p.1 ∙ is) (omega (arith, long, p.1)); end = λ e. absurd (other e) }, same)
      where
        other : BadEntry ≡ Truncated → ⊥
        other e = cc
    by_fault (inr p) = subst (λ k. StopsReadingFile k (next_entry_of place) given left was has) (sym p.0)
        (record { piece = piece; consumed = all; shown = too_short place digits skips.piece wide (omega (arith, is, p.1)); end = λ e. p.2 }, same)

pub stops_long : (place : FilePlace) (why : Fault) (kind n more : ℕ) (one two : List ℕ) (given first now left : Option (List ℕ)) (was has : Bool) → one ≡ kind ∷ [] → Gathers given first [] one → Gathers first now one two → kind ≡ 4 → front_octets kind ≡ Some n → length two ≡ n → more ≡ announced kind two → MOST_OCTETS < more → has ≡ was → Skips why more now left → StopsReadingFile why (next_entry_of place) given left was has
unfolding front_octets announced
stops_long place why kind n more one two given first now left was has is g h four front long announces past same skips =
    let nine : n ≡ 9 = nine_of n (sym front ∙ ap front_octets four) in
    let begins : two ≡ 4 ∷ h.piece = h.joined ∙ ap (λ (t : List ℕ). t ++ h.piece) (is ∙ ap (λ (k : ℕ). k ∷ []) four) in
    let wide : length h.piece ≡ 8 = omega (arith, nine, long, ap (λ (t : List ℕ). length t) begins) in
    let told : more ≡ be_value h.piece = announces ∙ ap (λ (k : ℕ). announced k two) four ∙ ap (announced 4) begins ∙ ap be_value (take_all 8 h.piece (omega (arith, wide))) in
    let read : Consumes given now (g.piece ++ h.piece) = Consumes-trans given first now g.piece h.piece g.consumed h.consumed in
    let joined : g.piece ++ h.piece ≡ 4 ∷ h.piece = ap (λ (t : List ℕ). t ++ h.piece) (sym g.joined ∙ is ∙ ap (λ (k : ℕ). k ∷ []) four) in
    stops_edit place why more h.piece given now left was has (subst (Consumes given now) joined read) wide told past same skips
  where
    nine_of : (m : ℕ) → Some m ≡ Some 9 → m ≡ 9
    nine_of m e = cc
