-- Why reading stops.
use Rattle.std.proofs.Common.{◌≡◌, inl, inr, ℕ, zero, suc, ◌-◌, ◌+◌, ◌<◌, Bool, true, false, cond, eqb, List, [], ◌++◌, length, Option, Some, None, Result, Ok, Err, refl, sym, ap, subst, ◌∙◌, arith}
use Rattle.std.specs.Io.KnownBytes.{Consumes, IsAtEnd}
use Rattle.std.proofs.lemmas.Bool.{ne_eqb}
use Rattle.sequences.specs.Results.{◌>>=◌, FailsBut}
use Rattle.sequences.proofs.ResultLaws.{same_Ok, same_Err, Err-Ok, bind_Ok}
use Rattle.event_journal.specs.declared.entry.Entry.{Entry}
use Rattle.journal_files.specs.declared.fault.Fault.{Fault}
use Rattle.journal_files.specs.declared.fault.Fault.TheVariants.{BadMagic, BadVersion, Truncated, BadEntry, Read, Write, OutOfMemory}
use Rattle.journal_files.specs.Faults.{IsDecodingFault}
use Rattle.journal_files.specs.Format.{magic, version}
use Rattle.journal_files.specs.Reading.{Finding, front_number, past_number, head_of, entry_of, is_past, pushed_of, entries_behind, is_memory}
use Rattle.event_journal.specs.Sizes.{history_octets}
use Rattle.journal_files.specs.Gathering.{Gathers, IsFilled}
use Rattle.journal_files.specs.Streaming.{FilePlace, Loses, ShowsFault, FailsIn, FailsToGather, IsGathered, StopsReadingFile, StepByStep, next_entry_of, entry_step, after_step}
use Rattle.journal_files.proofs.EntryRead.{found}
use Rattle.journal_files.proofs.Extents.{bind_Err, number_short, number_cut}

abbrev pub place_of : ℕ → ℕ → ℕ → FilePlace
place_of l n s = record { left = l; count = n; octets = s }

pub stops_by : {A : Type 0} (e : Fault) (read : List ℕ → Result A Fault) (given left : Option (List ℕ)) (was now has : Bool) → now ≡ was → FailsToGather e now has → Loses given left → StopsReadingFile e read given left was has
stops_by e read given left was now has same (inl p) l = subst (λ k. StopsReadingFile k read given left was has) (sym p.0) (l, p.1)
stops_by e read given left was now has same (inr p) l = subst (λ k. StopsReadingFile k read given left was has) (sym p.0) (l, p.1 ∙ same)

-- ---- behind the last entry

step_end : (place : FilePlace) (octets : List ℕ) → place.left ≡ 0 → length octets ≡ 1 → entry_step place octets ≡ Err BadEntry
unfolding entry_step
step_end place octets none one = rw (none, one) refl

pub shows_more : (l n s : ℕ) (place : FilePlace) (given left : Option (List ℕ)) (old held : List ℕ) (was has : Bool) → place_of l n s ≡ place → l ≡ 0 → old ≡ [] → Gathers given left old held → length held ≡ 1 → has ≡ was → StopsReadingFile BadEntry (entry_step place) given left was has
shows_more l n s place given left old held was has view none nothing g one same =
    let joined : held ≡ g.piece = g.joined ∙ ap (λ (t : List ℕ). t ++ g.piece) nothing in (
      record {
        piece = g.piece;
        consumed = g.consumed;
        shown = step_end place g.piece (sym (ap (λ (p : FilePlace). p.left) view) ∙ none) (omega (arith, one, ap (λ (t : List ℕ). length t) joined));
        end = λ e. absurd (other e);
      },
      same,
    )
  where
    other : BadEntry ≡ Truncated → ⊥
    other e = cc

-- ---- at an entry

step_fault : (place : FilePlace) (octets : List ℕ) (why : Fault) → (place.left ≡ 0 → ⊥) → next_entry_of place octets ≡ Err why → entry_step place octets ≡ Err why
unfolding entry_step
step_fault place octets why some at = rw (ne_eqb place.left 0 some, at) refl

shows_step : (place : FilePlace) (why : Fault) (given left : Option (List ℕ)) → (place.left ≡ 0 → ⊥) → ShowsFault why (Entry × List ℕ) (next_entry_of place) given left → ShowsFault why (Option (Entry × List ℕ)) (entry_step place) given left
shows_step place why given left some s = record { piece = s.piece; consumed = s.consumed; shown = step_fault place s.piece why some s.shown; end = s.end }

stops_some : (place : FilePlace) (e : Fault) (given left : Option (List ℕ)) (was has : Bool) → (place.left ≡ 0 → ⊥) → StopsReadingFile e (next_entry_of place) given left was has → StopsReadingFile e (entry_step place) given left was has
stops_some place Read given left was has some stops = stops
stops_some place (Write sent) given left was has some stops = absurd stops
stops_some place OutOfMemory given left was has some stops = stops
stops_some place BadMagic given left was has some stops = (shows_step place BadMagic given left some stops.0, stops.1)
stops_some place BadVersion given left was has some stops = (shows_step place BadVersion given left some stops.0, stops.1)
stops_some place Truncated given left was has some stops = (shows_step place Truncated given left some stops.0, stops.1)
stops_some place BadEntry given left was has some stops = (shows_step place BadEntry given left some stops.0, stops.1)

pub stops_step : (l n s : ℕ) (place : FilePlace) (e : Fault) (given left : Option (List ℕ)) (was has : Bool) → place_of l n s ≡ place → (l ≡ 0 → ⊥) → StopsReadingFile e (next_entry_of place) given left was has → StopsReadingFile e (entry_step place) given left was has
stops_step l n s place e given left was has view some stops = stops_some place e given left was has (λ none. some (ap (λ (p : FilePlace). p.left) view ∙ none)) stops

tested_cut : (entry : Entry) (rest : List ℕ) (past : Bool) → cond past (Err BadEntry) (found entry rest) ≡ Err Truncated → ⊥
tested_cut entry rest true e = cc
tested_cut entry rest false e = Err-Ok _ _ (sym e)

entry_cut : (place : FilePlace) (octets : List ℕ) → next_entry_of place octets ≡ Err Truncated → entry_of octets ≡ Err Truncated
unfolding next_entry_of
entry_cut place octets e =
    elim (bind_Err (entry_of octets) (λ one. cond (is_past place.count place.octets one.0) (Err BadEntry) (found one.0 one.1)) Truncated e) [
      | inl cut ↦ cut
      | inr x ↦ absurd (tested_cut x.0.0 x.0.1 (is_past place.count place.octets x.0.0) x.2)
    ]

shows_entry : (place : FilePlace) (why : Fault) (given left : Option (List ℕ)) (held : List ℕ) → next_entry_of place held ≡ Err why → Consumes given left held → IsGathered held left → ShowsFault why (Entry × List ℕ) (next_entry_of place) given left
shows_entry place why given left held at consumed gathered = record {
  piece = held;
  consumed = consumed;
  shown = at;
  end = λ e. gathered.cut_off (entry_cut place held (at ∙ ap (λ (k : Fault). err k) e));
} where
  err : Fault → Finding Entry
  err k = Err k

stops_entry : (place : FilePlace) (why : Fault) (given left : Option (List ℕ)) (held : List ℕ) (was has : Bool) → FailsBut is_memory why (next_entry_of place held) × IsDecodingFault why → Consumes given left held → IsGathered held left → has ≡ was → StopsReadingFile why (next_entry_of place) given left was has
stops_entry place OutOfMemory given left held was has fails consumed gathered same = (record { piece = held; consumed = consumed }, same)
stops_entry place Read given left held was has fails consumed gathered same = absurd fails.1
stops_entry place (Write sent) given left held was has fails consumed gathered same = absurd fails.1
stops_entry place BadMagic given left held was has fails consumed gathered same = (shows_entry place BadMagic given left held fails.0 consumed gathered, same)
stops_entry place BadVersion given left held was has fails consumed gathered same = (shows_entry place BadVersion given left held fails.0 consumed gathered, same)
stops_entry place Truncated given left held was has fails consumed gathered same = (shows_entry place Truncated given left held fails.0 consumed gathered, same)
stops_entry place BadEntry given left held was has fails consumed gathered same = (shows_entry place BadEntry given left held fails.0 consumed gathered, same)

same_next : (l n s : ℕ) (octets : List ℕ) → next_entry_of (place_of 1 n s) octets ≡ next_entry_of (place_of l n s) octets
unfolding next_entry_of
same_next l n s octets = refl

pub entry_stops : (l n s : ℕ) (place : FilePlace) (why : Fault) (given left : Option (List ℕ)) (held slice : List ℕ) (was has : Bool) → place_of l n s ≡ place → (l ≡ 0 → ⊥) → slice ≡ held → FailsIn why n s slice → Gathers given left [] held → IsGathered held left → has ≡ was → StopsReadingFile why (entry_step place) given left was has
entry_stops l n s place why given left held slice was has view some is fails g gathered same =
    stops_step l n s place why given left was has view some
    (subst (λ p. StopsReadingFile why (next_entry_of p) given left was has) view
    (stops_entry (place_of l n s) why given left held was has
    (subst (λ read. FailsBut is_memory why read) (ap (next_entry_of (place_of 1 n s)) is ∙ same_next l n s held) fails.0, fails.1)
    (subst (Consumes given left) (sym g.joined) g.consumed) gathered same))

-- ---- at the head

other_fault : (fault : Fault) (n expected : ℕ) (rest : List ℕ) (same : Bool) → (fault ≡ Truncated → ⊥) → cond same (Ok rest) (Err fault) ≡ Err Truncated → ⊥
other_fault fault n expected rest true other e = Err-Ok _ _ (sym e)
other_fault fault n expected rest false other e = other (same_Err {A = List ℕ} _ _ e)

past_short : (width n : ℕ) (fault : Fault) (octets : List ℕ) → (fault ≡ Truncated → ⊥) → past_number width n fault octets ≡ Err Truncated → length octets < width
unfolding past_number
past_short width n fault octets other e =
    elim (bind_Err (front_number width octets) (λ number. cond (eqb number.0 n) (Ok number.1) (Err fault)) Truncated e) [
      | inl short ↦ number_short width octets short
      | inr x ↦ absurd (other_fault fault x.0.0 n x.0.1 (eqb x.0.0 n) other x.2)
    ]

passed : (rest found_rest : List ℕ) (fault : Fault) (same : Bool) → cond same (Ok found_rest) (Err fault) ≡ Ok rest → found_rest ≡ rest
passed rest found_rest fault true e = same_Ok _ _ e
passed rest found_rest fault false e = absurd (Err-Ok _ _ e)

past_cut : (width n : ℕ) (fault : Fault) (octets rest : List ℕ) → past_number width n fault octets ≡ Ok rest → length octets ≡ width + length rest
unfolding past_number
past_cut width n fault octets rest e =
    let b = bind_Ok (front_number width octets) (λ number. cond (eqb number.0 n) (Ok number.1) (Err fault)) rest e in
    let cut = number_cut width octets b.0.0 b.0.1 b.1 in
    omega (arith, cut.left, ap (λ (t : List ℕ). length t) (passed rest b.0.1 fault (eqb b.0.0 n) b.2))

magic_is_other : BadMagic ≡ Truncated → ⊥
magic_is_other e = cc

version_is_other : BadVersion ≡ Truncated → ⊥
version_is_other e = cc

behind_magic_short : (octets : List ℕ) → (past_number 2 version BadVersion octets >>= λ after. front_number 8 after) ≡ Err Truncated → length octets < 10
behind_magic_short octets e =
    elim (bind_Err (past_number 2 version BadVersion octets) (λ after. front_number 8 after) Truncated e) [
      | inl short ↦ let few = past_short 2 version BadVersion octets version_is_other short in omega (arith, few)
      | inr x ↦ let cut = past_cut 2 version BadVersion octets x.0 x.1 in let few = number_short 8 x.0 x.2 in omega (arith, cut, few)
    ]

head_short : (octets : List ℕ) → head_of octets ≡ Err Truncated → length octets < 14
unfolding head_of
head_short octets e =
    elim (bind_Err (past_number 4 magic BadMagic octets) (λ after. past_number 2 version BadVersion after >>= λ behind. front_number 8 behind) Truncated e) [
      | inl short ↦ let few = past_short 4 magic BadMagic octets magic_is_other short in omega (arith, few)
      | inr x ↦ let cut = past_cut 4 magic BadMagic octets x.0 x.1 in let few = behind_magic_short x.0 x.2 in omega (arith, cut, few)
    ]

head_end : (held : List ℕ) (left : Option (List ℕ)) (whole : Bool) → IsFilled whole 14 held left → head_of held ≡ Err Truncated → IsAtEnd left
head_end held left true filled cut = absurd (let few = head_short held cut in omega (arith, few, filled))
head_end held left false filled cut = filled.1

shows_head : (why : Fault) (given left : Option (List ℕ)) (held : List ℕ) (whole : Bool) → head_of held ≡ Err why → Consumes given left held → IsFilled whole 14 held left → ShowsFault why (ℕ × List ℕ) head_of given left
shows_head why given left held whole at consumed filled = record {
  piece = held;
  consumed = consumed;
  shown = at;
  end = λ e. head_end held left whole filled (at ∙ ap (λ (k : Fault). err k) e);
} where
  err : Fault → Finding ℕ
  err k = Err k

stops_head : (why : Fault) (given left : Option (List ℕ)) (held : List ℕ) (whole was has : Bool) → FailsBut is_memory why (head_of held) × IsDecodingFault why → Consumes given left held → IsFilled whole 14 held left → has ≡ was → StopsReadingFile why head_of given left was has
stops_head OutOfMemory given left held whole was has fails consumed filled same = (record { piece = held; consumed = consumed }, same)
stops_head Read given left held whole was has fails consumed filled same = absurd fails.1
stops_head (Write sent) given left held whole was has fails consumed filled same = absurd fails.1
stops_head BadMagic given left held whole was has fails consumed filled same = (shows_head BadMagic given left held whole fails.0 consumed filled, same)
stops_head BadVersion given left held whole was has fails consumed filled same = (shows_head BadVersion given left held whole fails.0 consumed filled, same)
stops_head Truncated given left held whole was has fails consumed filled same = (shows_head Truncated given left held whole fails.0 consumed filled, same)
stops_head BadEntry given left held whole was has fails consumed filled same = (shows_head BadEntry given left held whole fails.0 consumed filled, same)

pub head_stops : (why : Fault) (given left : Option (List ℕ)) (old held slice : List ℕ) (whole was has : Bool) → slice ≡ held → FailsBut is_memory why (head_of slice) × IsDecodingFault why → old ≡ [] → Gathers given left old held → IsFilled whole 14 held left → has ≡ was → StopsReadingFile why head_of given left was has
head_stops why given left old held slice whole was has is fails nothing g filled same =
    let joined : held ≡ g.piece = g.joined ∙ ap (λ (t : List ℕ). t ++ g.piece) nothing in
    stops_head why given left held whole was has (subst (λ t. FailsBut is_memory why (head_of t)) is fails.0, fails.1) (subst (Consumes given left) (sym joined) g.consumed) filled same

-- ---- step by step

after_found : (h : List Entry) (left : ℕ) (entry : Entry) (rest : List ℕ) (past : Bool) → is_past (length h) (history_octets h) entry ≡ past
    → (pushed_of h entry >>= λ more. entries_behind more left rest) ≡ after_step h (suc left) (cond past (Err BadEntry) (found entry rest) >>= λ one. Ok (Some one))
after_found h left entry rest true is = rw is refl
after_found h left entry rest false is = let less : suc left - 1 ≡ left = omega arith in rw (is, less) refl

after_entry : (h : List Entry) (left : ℕ) (r : Finding Entry) → (r >>= λ one. pushed_of h one.0 >>= λ more. entries_behind more left one.1)
    ≡ after_step h (suc left) ((r >>= λ one. cond (is_past (length h) (history_octets h) one.0) (Err BadEntry) (Ok one)) >>= λ one. Ok (Some one))
after_entry h left (Ok one) = after_found h left one.0 one.1 (is_past (length h) (history_octets h) one.0) refl
after_entry h left (Err why) = refl

after_end : (h : List Entry) (octets : List ℕ) (end : Bool) → cond end (Ok h) (Err BadEntry) ≡ after_step h 0 (cond end (Ok None) (Err BadEntry))
after_end h octets true = refl
after_end h octets false = refl

pub step_by_step : StepByStep
unfolding entries_behind entry_step next_entry_of
step_by_step h zero octets = after_end h octets (eqb (length octets) 0)
step_by_step h (suc left) octets = rw (ne_eqb (suc left) 0 (λ e. omega arith)) (after_entry h left (entry_of octets))
