-- What is answered of a head, and of an entry.
use Rattle.std.proofs.Common.{◌≡◌, ℕ, true, List, ◌++◌, Result, Ok, Err, IfOk, refl}
use Rattle.std.specs.Borrow.{Bor}
use Rattle.sequences.specs.Octets.{AreOctets}
use Rattle.sequences.specs.Results.{FailsBut}
use Rattle.sequences.proofs.ResultLaws.{fails_along}
use Rattle.event_journal.specs.declared.entry.Entry.{Entry}
use Rattle.journal_files.specs.declared.fault.Fault.{Fault}
use Rattle.journal_files.specs.declared.fault.Fault.TheVariants.{BadEntry}
use Rattle.journal_files.specs.Faults.{IsDecodingFault}
use Rattle.journal_files.specs.Format.{head_octets, octets_of}
use Rattle.journal_files.specs.Reading.{head_of, entry_of, is_past, is_memory, GivesRead}
use Rattle.journal_files.specs.Seen.{number_seen, entry_seen}
use Rattle.journal_files.specs.Streaming.{FailsIn, next_entry_of}
use Rattle.journal_files.proofs.EntryRead.{found}
use Rattle.journal_files.proofs.EntryWritten.{entry_written_back}
use Rattle.journal_files.proofs.FileLaws.{head_found}

pub head_written : (octets : List ℕ) (r : Result (ℕ × Bor (List ℕ)) Fault) → AreOctets octets → GivesRead number_seen r (head_of octets) → IfOk r (λ f. octets ≡ head_octets f.0 ++ f.1.now)
head_written octets (Ok f) are is = let head = head_found octets f.1.now f.0 are is.0 in head.whole
head_written octets (Err e) are is = tt

pub entry_written : (octets : List ℕ) (r : Result (Entry × Bor (List ℕ)) Fault) → AreOctets octets → GivesRead entry_seen r (entry_of octets) → IfOk r (λ f. octets ≡ octets_of f.0 ++ f.1.now)
entry_written octets (Ok f) are is = entry_written_back octets f.1.now f.0 are is.0
entry_written octets (Err e) are is = tt

err_next : (count size : ℕ) (octets : List ℕ) (why : Fault) → entry_of octets ≡ Err why → next_entry_of (record { left = 1; count = count; octets = size }) octets ≡ Err why
unfolding next_entry_of
err_next count size octets why at = rw at refl

pub entry_fails_in : (count size : ℕ) (octets : List ℕ) (why : Fault) → FailsBut is_memory why (entry_of octets) × IsDecodingFault why → FailsIn why count size octets
entry_fails_in count size octets why fails = (fails_along is_memory why (entry_of octets) _ (err_next count size octets why) fails.0, fails.1)

pub past_fails_in : (count size : ℕ) (octets rest : List ℕ) (entry : Entry) → entry_of octets ≡ found entry rest → is_past count size entry ≡ true → FailsIn BadEntry count size octets
unfolding next_entry_of
past_fails_in count size octets rest entry at past = (rw (at, past) refl, tt)
