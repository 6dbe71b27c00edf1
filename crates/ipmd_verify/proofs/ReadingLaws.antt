-- How a journal's file is read, one step after another, and what its faults are.
use Rattle.std.proofs.Common.{◌≡◌, ℕ, ◌+◌, ◌-◌, ◌≤◌, ◌<◌, ◌^◌, Bool, true, false, ltb, List, [], ◌∷◌, ◌++◌, length, Option, Some, None, Result, Ok, Err, refl, sym, ap, subst, ◌∙◌, append-nil, length-append, arith}
use Rattle.std.specs.Prelude.{◌||◌}
use Rattle.std.specs.Result.{IsErr, IsErrAnd, IfErr}
use Rattle.std.specs.Io.KnownBytes.{Consumes, IsAtEnd}
use Rattle.std.proofs.lemmas.Bool.{ltb-false}
use Rattle.std.proofs.lemmas.List.Sums.{sum_by-append, sum_by-cons}
use Rattle.sequences.specs.Results.{◌>>=◌}
use Rattle.event_journal.specs.declared.entry.Entry.{Entry}
use Rattle.event_journal.specs.declared.limits.TheConstants.{MOST_ENTRIES, MOST_OCTETS}
use Rattle.event_journal.specs.Sizes.{entry_octets, history_octets}
use Rattle.journal_files.specs.declared.fault.Fault.{Fault}
use Rattle.journal_files.specs.declared.fault.Fault.TheVariants.{BadMagic, BadVersion, Truncated, BadEntry, Read, Write, OutOfMemory}
use Rattle.journal_files.specs.Format.{head_octets, octets_of}
use Rattle.journal_files.specs.Reading.{head_of, entry_of, is_past, pushed_of, entries_behind, file_of}
use Rattle.journal_files.specs.Streaming.{FilePlace, TakesEntry, EndsFile, StopsReadingFile, ShowsFault, after_step, behind, place_behind, entry_step}
use Rattle.journal_files.proofs.FileLaws.{head_read}
use Rattle.journal_files.proofs.ReadingSteps.{all_read, entry_more}
use Rattle.journal_files.proofs.Stays.{fault_stays, head_stays}
use Rattle.journal_files.proofs.Stopping.{step_by_step}
use Rattle.history_verify.specs.declared.fault.Fault.{Fault as VerifyFault}
use Rattle.history_verify.specs.declared.fault.Fault.TheVariants.{BadHistory, OutOfMemory as NoMemory}
use Rattle.history_verify.specs.Answers.{NamesFirst}
use Rattle.ipmd_commands.specs.Status.{read_fault_of}
use Rattle.ipmd_verify.specs.Faults.{verify_fault_of}
use Rattle.ipmd_verify.specs.Found.{IsNoFile, RefusesFile, Says}
use Rattle.ipmd_verify.specs.Reading.{IsReadTo, IsRest}

abbrev is_truncated : Fault → Bool
is_truncated BadMagic = false
is_truncated BadVersion = false
is_truncated Truncated = true
is_truncated BadEntry = false
is_truncated Read = false
is_truncated (Write sent) = false
is_truncated OutOfMemory = false

truncated_is : (why : Fault) → is_truncated why ≡ true → why ≡ Truncated
truncated_is BadMagic is = absurd cc
truncated_is BadVersion is = absurd cc
truncated_is Truncated is = refl
truncated_is BadEntry is = absurd cc
truncated_is Read is = absurd cc
truncated_is (Write sent) is = absurd cc
truncated_is OutOfMemory is = absurd cc

not_truncated : (why : Fault) → is_truncated why ≡ false → why ≡ Truncated → ⊥
not_truncated why is same =
    let bad : true ≡ false = sym (ap is_truncated same) ∙ is in
    cc

-- ---- the head

begun_rest : (given now : Option (List ℕ)) (left : ℕ) → left < 2 ^ 64 → Consumes given now (head_octets left) → IsRest given now [] left
unfolding file_of
begun_rest None now left few consumed = tt
begun_rest (Some octets) None left few consumed = consumed
begun_rest (Some octets) (Some rest) left few consumed =
    ap (λ t. head_of t >>= λ head. entries_behind [] head.0 head.1) consumed ∙ rw (head_read left rest few) refl

-- before the first entry
pub begun : (given now : Option (List ℕ)) (place : FilePlace) → place.count ≡ 0 → place.octets ≡ 0 → place.left < 2 ^ 64 → Consumes given now (head_octets place.left) → IsReadTo given now place []
begun given now place none small few consumed = record {
  there = rw (none, small) refl;
  few = omega arith;
  rest = begun_rest given now place.left few consumed;
}

-- ---- an entry

or_parts : (a b : Bool) → (a || b) ≡ false → (a ≡ false) × (b ≡ false)
or_parts true b e = absurd cc
or_parts false b e = (refl, e)

pub is_few : (count octets : ℕ) (entry : Entry) → is_past count octets entry ≡ false → count + 1 ≤ MOST_ENTRIES
is_few count octets entry within = ltb-false MOST_ENTRIES (count + 1) (or_parts (ltb MOST_ENTRIES (count + 1)) (ltb MOST_OCTETS (octets + entry_octets entry)) within).0

pushed : (h : List Entry) (entry : Entry) → is_past (length h) (history_octets h) entry ≡ false → pushed_of h entry ≡ Ok (h ++ entry ∷ [])
pushed h entry within = rw within refl

-- one entry more was read
next_behind : (h : List Entry) (left : ℕ) (octets rest : List ℕ) (entry : Entry) → 0 < left → is_past (length h) (history_octets h) entry ≡ false
    → ((more : List ℕ) → entry_of (octets_of entry ++ more) ≡ Ok (entry, more)) → octets ≡ octets_of entry ++ rest → entries_behind h left octets ≡ entries_behind (h ++ entry ∷ []) (left - 1) rest
next_behind h left octets rest entry some within back is =
    ap (entries_behind h left) is ∙ entry_more h (h ++ entry ∷ []) left (octets_of entry ++ rest) rest entry some (back rest) (pushed h entry within)

next_rest : (given now after : Option (List ℕ)) (h : List Entry) (left : ℕ) (entry : Entry) → 0 < left → is_past (length h) (history_octets h) entry ≡ false
    → ((more : List ℕ) → entry_of (octets_of entry ++ more) ≡ Ok (entry, more)) → Consumes now after (octets_of entry) → IsRest given now h left → IsRest given after (h ++ entry ∷ []) (left - 1)
next_rest None now after h left entry some within back consumed rest = tt
next_rest (Some octets) None after h left entry some within back consumed rest = absurd rest
next_rest (Some octets) (Some this) None h left entry some within back consumed rest = absurd consumed
next_rest (Some octets) (Some this) (Some then) h left entry some within back consumed rest = rest ∙ next_behind h left this then entry some within back consumed

place_after : (h : List Entry) (left : ℕ) (entry : Entry) → behind (place_behind h left) entry ≡ place_behind (h ++ entry ∷ []) (left - 1)
place_after h left entry =
    let longer : length (h ++ entry ∷ []) ≡ length h + 1 = length-append h (entry ∷ []) in
    let larger : history_octets (h ++ entry ∷ []) ≡ history_octets h + entry_octets entry = sum_by-append entry_octets h (entry ∷ []) ∙ omega (arith, sum_by-cons entry_octets entry []) in
    rw (longer, larger) refl

pub read_on : (given now after : Option (List ℕ)) (place new : FilePlace) (h : List Entry) (entry : Entry) → IsReadTo given now place h → TakesEntry place now after entry new → IsReadTo given after new (h ++ entry ∷ [])
read_on given now after place new h entry to takes =
    let counts : place.count ≡ length h = ap (λ (p : FilePlace). p.count) to.there in
    let sizes : place.octets ≡ history_octets h = ap (λ (p : FilePlace). p.octets) to.there in
    let within : is_past (length h) (history_octets h) entry ≡ false = ap (λ n. is_past n (history_octets h) entry) (sym counts) ∙ ap (λ n. is_past place.count n entry) (sym sizes) ∙ takes.within in
    let new_is : new ≡ place_behind (h ++ entry ∷ []) (place.left - 1) = takes.place ∙ ap (λ (p : FilePlace). behind p entry) to.there ∙ place_after h place.left entry in
    let left_is : new.left ≡ place.left - 1 = ap (λ (p : FilePlace). p.left) new_is in
    record {
      there = new_is ∙ ap (place_behind (h ++ entry ∷ [])) (sym left_is);
      few = omega (arith, is_few (length h) (history_octets h) entry within, length-append h (entry ∷ []));
      rest = subst (IsRest given after (h ++ entry ∷ [])) (sym left_is) (next_rest given now after h place.left entry takes.some within takes.read_back takes.consumed to.rest);
    }

-- ---- the end

ended_rest : (given now after : Option (List ℕ)) (h : List Entry) (left : ℕ) → left ≡ 0 → Consumes now after [] → IsAtEnd after → IsRest given now h left → Says given h
ended_rest None now after h left none consumed end rest = tt
ended_rest (Some octets) None after h left none consumed end rest = absurd rest
ended_rest (Some octets) (Some this) None h left none consumed end rest = absurd consumed
ended_rest (Some octets) (Some this) (Some then) h left none consumed end rest =
    let empty : this ≡ [] = consumed ∙ end in
    rest ∙ ap (entries_behind h left) empty ∙ all_read h left [] (entries_behind h left []) none refl refl

pub all_said : (given now after : Option (List ℕ)) (place new : FilePlace) (h : List Entry) → IsReadTo given now place h → EndsFile place now after new → Says given h
all_said given now after place new h to ends = ended_rest given now after h place.left ends.none ends.consumed ends.end to.rest

-- ---- a fault

-- a step's fault is that of the whole file
stopped_rest : (given now after : Option (List ℕ)) (h : List Entry) (left : ℕ) (why : Fault) → ShowsFault why (Option (Entry × List ℕ)) (entry_step (place_behind h left)) now after → IsRest given now h left → IsNoFile given why
stopped_rest None now after h left why shows rest = tt
stopped_rest (Some octets) None after h left why shows rest = absurd rest
stopped_rest (Some octets) (Some this) None h left why shows rest = absurd shows.consumed
stopped_rest (Some octets) (Some this) (Some then) h left why shows rest =
    rest ∙ step_by_step h left this ∙ ap (after_step h left) (ap (entry_step (place_behind h left)) shows.consumed ∙ shown_by (is_truncated why) refl)
  where
    shown_by : (b : Bool) → is_truncated why ≡ b → entry_step (place_behind h left) (shows.piece ++ then) ≡ Err why
    shown_by true is = ap (λ t. entry_step (place_behind h left) (shows.piece ++ t)) (shows.end (truncated_is why is)) ∙ ap (entry_step (place_behind h left)) (append-nil shows.piece) ∙ shows.shown
    shown_by false is = fault_stays (place_behind h left) shows.piece then why (not_truncated why is) shows.shown

begun_stopped : (given after : Option (List ℕ)) (why : Fault) → ShowsFault why (ℕ × List ℕ) head_of given after → IsNoFile given why
unfolding file_of
begun_stopped None after why shows = tt
begun_stopped (Some octets) None why shows = absurd shows.consumed
begun_stopped (Some octets) (Some then) why shows =
    ap (λ t. t >>= λ head. entries_behind [] head.0 head.1) (ap head_of shows.consumed ∙ shown_by (is_truncated why) refl)
  where
    shown_by : (b : Bool) → is_truncated why ≡ b → head_of (shows.piece ++ then) ≡ Err why
    shown_by true is = ap (λ t. head_of (shows.piece ++ t)) (shows.end (truncated_is why is)) ∙ ap head_of (append-nil shows.piece) ∙ shows.shown
    shown_by false is = head_stays shows.piece then why (not_truncated why is) shows.shown

-- what stops reading is why the file is refused
pub refuses_by : (A : Type 0) (e : Fault) (read : List ℕ → Result A Fault) (given now after : Option (List ℕ)) (was has : Bool) → ((why : Fault) → ShowsFault why A read now after → IsNoFile given why)
    → StopsReadingFile e read now after was has → RefusesFile (read_fault_of e) given
refuses_by A Read read given now after was has shows stops = tt
refuses_by A (Write sent) read given now after was has shows stops = absurd stops
refuses_by A OutOfMemory read given now after was has shows stops = tt
refuses_by A BadMagic read given now after was has shows stops = (tt, shows BadMagic stops.0)
refuses_by A BadVersion read given now after was has shows stops = (tt, shows BadVersion stops.0)
refuses_by A Truncated read given now after was has shows stops = (tt, shows Truncated stops.0)
refuses_by A BadEntry read given now after was has shows stops = (tt, shows BadEntry stops.0)

pub head_refuses : (e : Fault) (given after : Option (List ℕ)) (was has : Bool) → StopsReadingFile e head_of given after was has → RefusesFile (read_fault_of e) given
head_refuses e given after was has stops = refuses_by (ℕ × List ℕ) e head_of given given after was has (λ why shows. begun_stopped given after why shows) stops

pub step_refuses : (e : Fault) (given now after : Option (List ℕ)) (place : FilePlace) (h : List Entry) (was has : Bool) → IsReadTo given now place h → StopsReadingFile e (entry_step place) now after was has → RefusesFile (read_fault_of e) given
step_refuses e given now after place h was has to stops =
    refuses_by (Option (Entry × List ℕ)) e (entry_step place) given now after was has
    (λ why shows. stopped_rest given now after h place.left why (subst (λ p. ShowsFault why (Option (Entry × List ℕ)) (entry_step p) now after) to.there shows) to.rest) stops

-- a history that is refused at its end
pub end_refuses : (fault : VerifyFault) (given : Option (List ℕ)) (h : List Entry) → Says given h → NamesFirst fault h → RefusesFile (verify_fault_of fault) given
end_refuses (BadHistory position) given h said bad = record { history = h; said = said; bad = bad }
end_refuses NoMemory given h said bad = tt

pub err_gives : {X E : Type 0} {P Q : E → Type 0} (r : Result X E) → IsErr r × IsErrAnd r P → ((e : E) → P e → Q e) → IfErr r Q
err_gives (Ok x) known f = tt
err_gives (Err e) known f = f e known.1
