-- How the entries of a file are read, one after another.
use Rattle.std.proofs.Common.{◌≡◌, ℕ, zero, suc, ◌-◌, ◌<◌, true, false, eqb, List, length, Result, Ok, Err, IfOk, refl, sym, ap, subst, ◌∙◌, arith}
use Rattle.sequences.specs.Octets.{AreOctets}
use Rattle.sequences.specs.Results.{FailsBut}
use Rattle.sequences.proofs.ResultLaws.{fails_along}
use Rattle.event_journal.specs.declared.entry.Entry.{Entry}
use Rattle.journal_files.specs.declared.fault.Fault.{Fault}
use Rattle.journal_files.specs.declared.fault.Fault.TheVariants.{BadEntry}
use Rattle.journal_files.specs.Faults.{IsDecodingFault}
use Rattle.journal_files.specs.Format.{file_octets}
use Rattle.journal_files.specs.Reading.{entry_of, pushed_of, entries_behind, file_of, is_memory, GivesRead}
use Rattle.journal_files.specs.Laws.{IsFile}
use Rattle.journal_files.proofs.EntryRead.{found}
use Rattle.journal_files.proofs.FileLaws.{file_read_back, file_written_back}

abbrev pub Fails : {Y : Type 0} → Fault → Result Y Fault → Type 0
Fails fault read = FailsBut is_memory fault read × IsDecodingFault fault

-- an entry more
pub entry_more : (h more : List Entry) (left : ℕ) (octets rest : List ℕ) (entry : Entry) → 0 < left → entry_of octets ≡ found entry rest → pushed_of h entry ≡ Ok more → entries_behind h left octets ≡ entries_behind more (left - 1) rest
unfolding entries_behind
entry_more h more zero octets rest entry some at pushed = absurd (omega arith)
entry_more h more (suc left) octets rest entry some at pushed =
    let less : suc left - 1 ≡ left = omega arith in rw (less, at, pushed) refl

-- an entry that is none
none_behind : (h : List Entry) (left : ℕ) (octets : List ℕ) (fault : Fault) → 0 < left → entry_of octets ≡ Err fault → entries_behind h left octets ≡ Err fault
unfolding entries_behind
none_behind h zero octets fault some at = absurd (omega arith)
none_behind h (suc left) octets fault some at = rw at refl

pub entry_fails : (h : List Entry) (left : ℕ) (octets : List ℕ) (whole : Result (List Entry) Fault) (fault : Fault) → 0 < left → Fails fault (entry_of octets) → entries_behind h left octets ≡ whole → Fails fault whole
entry_fails h left octets whole fault some fails is =
    (fails_along is_memory fault (entry_of octets) whole (λ at. sym is ∙ none_behind h left octets fault some at) fails.0, fails.1)

-- an entry past the limits
past_behind : (h : List Entry) (left : ℕ) (octets rest : List ℕ) (entry : Entry) (fault : Fault) → 0 < left → entry_of octets ≡ found entry rest → pushed_of h entry ≡ Err fault → entries_behind h left octets ≡ Err fault
unfolding entries_behind
past_behind h zero octets rest entry fault some at past = absurd (omega arith)
past_behind h (suc left) octets rest entry fault some at past = rw (at, past) refl

pub push_fails : (h : List Entry) (left : ℕ) (octets rest : List ℕ) (entry : Entry) (whole : Result (List Entry) Fault) (fault : Fault) → 0 < left → entry_of octets ≡ found entry rest → Fails fault (pushed_of h entry) → entries_behind h left octets ≡ whole → Fails fault whole
push_fails h left octets rest entry whole fault some at fails is =
    (fails_along is_memory fault (pushed_of h entry) whole (λ past. sym is ∙ past_behind h left octets rest entry fault some at past) fails.0, fails.1)

-- no entry is left, and nothing after it
pub all_read : (h : List Entry) (left : ℕ) (octets : List ℕ) (whole : Result (List Entry) Fault) → left ≡ 0 → eqb (length octets) 0 ≡ true → entries_behind h left octets ≡ whole → whole ≡ Ok h
unfolding entries_behind
all_read h left octets whole none end is = sym is ∙ rw (none, end) refl

-- or something after it
pub more_left : (h : List Entry) (left : ℕ) (octets : List ℕ) (whole : Result (List Entry) Fault) → left ≡ 0 → eqb (length octets) 0 ≡ false → entries_behind h left octets ≡ whole → whole ≡ Err BadEntry
unfolding entries_behind
more_left h left octets whole none some is = sym is ∙ rw (none, some) refl

-- ---- what is answered

pub written_back : {X : Type 0} (view : X → List Entry) (answer : Result X Fault) (octets : List ℕ) → AreOctets octets → GivesRead view answer (file_of octets) → IfOk answer (λ x. octets ≡ file_octets (view x))
written_back view (Ok x) octets are is = file_written_back octets (view x) are is.0
written_back view (Err fault) octets are is = tt

pub read_back : {X : Type 0} (view : X → List Entry) (answer : Result X Fault) (octets : List ℕ) (h : List Entry) → GivesRead view answer (file_of octets) → IsFile h → octets ≡ file_octets h → GivesRead view answer (Ok h)
read_back view answer octets h exact is e = subst (λ read. GivesRead view answer read) (ap file_of e ∙ file_read_back h is) exact
