-- The file of a history says it, and a file that says a history is that history's file.
use Rattle.std.proofs.Common.{◌≡◌, ℕ, zero, suc, ◌+◌, ◌≤◌, ◌<◌, ◌^◌, Bool, true, false, cond, eqb, List, [], ◌∷◌, ◌++◌, length, drop, Result, Ok, Err, refl, sym, ap, subst, ◌∙◌, append_assoc, append-nil, length-append, arith}
use Rattle.std.specs.List.{All}
use Rattle.std.proofs.lemmas.Bool.{le-ltb, eqb-true, eq-eqb}
use Rattle.std.proofs.lemmas.List.{drop_at}
use Rattle.std.proofs.lemmas.List.Elements.{All-head, All-tail}
use Rattle.std.proofs.lemmas.List.Sums.{sum_by-append, sum_by-cons}
use Rattle.sequences.specs.Octets.{be_octets, AreOctets, IsNumberIn}
use Rattle.sequences.specs.Results.{◌>>=◌}
use Rattle.sequences.proofs.OctetLaws.{AreOctets-drop}
use Rattle.sequences.proofs.ResultLaws.{same_Ok, Err-Ok, bind_Ok}
use Rattle.event_journal.specs.declared.entry.Entry.{Entry}
use Rattle.event_journal.specs.declared.limits.TheConstants.{MOST_ENTRIES, MOST_OCTETS}
use Rattle.event_journal.specs.Sizes.{entry_octets, history_octets}
use Rattle.journal_files.specs.declared.fault.Fault.{Fault}
use Rattle.journal_files.specs.declared.fault.Fault.TheVariants.{BadMagic, BadVersion, BadEntry}
use Rattle.journal_files.specs.Format.{magic, version, head_octets, octets_of, history_in_octets}
use Rattle.journal_files.specs.Reading.{front_number, past_number, head_of, entry_of, is_past, pushed_of, entries_behind, file_of}
use Rattle.journal_files.specs.Laws.{IsWritten, FileReadBack, FileWrittenBack}
use Rattle.journal_files.proofs.NumberLaws.{written_number}
use Rattle.journal_files.proofs.EntryRead.{found, number_read, entry_read_back}
use Rattle.journal_files.proofs.EntryWritten.{number_found, entry_written_back}

-- ---- the head

past_number_read : (width n : ℕ) (fault : Fault) (a rest : List ℕ) → IsNumberIn width a n → past_number width n fault (a ++ rest) ≡ Ok rest
unfolding past_number
past_number_read width n fault a rest is = rw (number_read width n a rest is, eq-eqb n n refl) refl

pub head_read : (count : ℕ) (rest : List ℕ) → count < 2 ^ 64 → head_of (head_octets count ++ rest) ≡ found count rest
unfolding head_of
head_read count rest below =
    rw (
      past_number_read 4 magic BadMagic (be_octets 4 magic) (be_octets 2 version ++ (be_octets 8 count ++ rest)) (written_number 4 magic (omega arith)),
      past_number_read 2 version BadVersion (be_octets 2 version) (be_octets 8 count ++ rest) (written_number 2 version (omega arith)),
      number_read 8 count (be_octets 8 count) rest (written_number 8 count below),
    ) refl

-- what was read past a number, in its octets
record IsPast (width n : ℕ) (octets rest : List ℕ) : Type 0 where
  pub whole : octets ≡ be_octets width n ++ rest
  pub rest_are : AreOctets rest

past_by : (n expected : ℕ) (after rest : List ℕ) (fault : Fault) (same : Bool) → eqb n expected ≡ same → cond same (Ok after) (Err fault) ≡ Ok rest → (n ≡ expected) × (after ≡ rest)
past_by n expected after rest fault true is e = (eqb-true n expected is, same_Ok _ _ e)
past_by n expected after rest fault false is e = absurd (Err-Ok _ _ e)

past_number_found : (width n : ℕ) (fault : Fault) (octets rest : List ℕ) → AreOctets octets → past_number width n fault octets ≡ Ok rest → IsPast width n octets rest
unfolding past_number
past_number_found width n fault octets rest are e =
    let b = bind_Ok (front_number width octets) (λ number. cond (eqb number.0 n) (Ok number.1) (Err fault)) rest e in
    let number = number_found width octets b.0.0 b.0.1 are b.1 in
    let p = past_by b.0.0 n b.0.1 rest fault (eqb b.0.0 n) refl b.2 in
    record {
      whole = number.front.whole ∙ ap (λ (k : ℕ). be_octets width k ++ b.0.1) p.0 ∙ ap (λ (t : List ℕ). be_octets width n ++ t) p.1;
      rest_are = subst AreOctets p.1 number.front.rest_are;
    }

pub record IsHead (octets : List ℕ) (count : ℕ) (rest : List ℕ) : Type 0 where
  pub whole : octets ≡ head_octets count ++ rest
  pub rest_are : AreOctets rest

pub head_found : (octets rest : List ℕ) (count : ℕ) → AreOctets octets → head_of octets ≡ found count rest → IsHead octets count rest
unfolding head_of
head_found octets rest count are e =
    let m = bind_Ok (past_number 4 magic BadMagic octets) (λ after_magic. past_number 2 version BadVersion after_magic >>= λ after_version. front_number 8 after_version) (count, rest) e in
    let first = past_number_found 4 magic BadMagic octets m.0 are m.1 in
    let v = bind_Ok (past_number 2 version BadVersion m.0) (λ after_version. front_number 8 after_version) (count, rest) m.2 in
    let second = past_number_found 2 version BadVersion m.0 v.0 first.rest_are v.1 in
    let number = number_found 8 v.0 count rest second.rest_are v.2 in
    record {
      whole = first.whole ∙ ap (λ (t : List ℕ). be_octets 4 magic ++ t) second.whole ∙ ap (λ (t : List ℕ). be_octets 4 magic ++ (be_octets 2 version ++ t)) number.front.whole;
      rest_are = number.front.rest_are;
    }

-- ---- the entries

-- an entry within the limits is no fault
pushed : (h : List Entry) (entry : Entry) → length h + 1 ≤ MOST_ENTRIES → history_octets h + entry_octets entry ≤ MOST_OCTETS → pushed_of h entry ≡ Ok (h ++ entry ∷ [])
pushed h entry few small = rw (le-ltb MOST_ENTRIES (length h + 1) few, le-ltb MOST_OCTETS (history_octets h + entry_octets entry) small) refl

entries_read : (h done : List Entry) → All IsWritten h → length done + length h ≤ MOST_ENTRIES → history_octets done + history_octets h ≤ MOST_OCTETS → entries_behind done (length h) (history_in_octets h) ≡ Ok (done ++ h)
unfolding entries_behind
entries_read [] done written few small = let ok : List Entry → Result (List Entry) Fault = λ t. Ok t in ap ok (sym (append-nil done))
entries_read (entry ∷ h) done written few small =
    let one : history_octets (done ++ entry ∷ []) ≡ history_octets done + entry_octets entry = sum_by-append entry_octets done (entry ∷ []) ∙ omega (arith, sum_by-cons entry_octets entry []) in
    let all : history_octets (entry ∷ h) ≡ entry_octets entry + history_octets h = sum_by-cons entry_octets entry h in
    let longer : length (done ++ entry ∷ []) ≡ length done + 1 = length-append done (entry ∷ []) in
    let ok : List Entry → Result (List Entry) Fault = λ t. Ok t in
    let push = pushed done entry (omega (arith, few)) (omega (arith, small, all)) in
    let others = entries_read h (done ++ entry ∷ []) (All-tail IsWritten entry h written) (omega (arith, few, longer)) (omega (arith, small, all, one)) in
    rw (entry_read_back entry (history_in_octets h) (All-head IsWritten entry h written), push) (others ∙ ap ok (append_assoc done (entry ∷ []) h))

pub file_read_back : FileReadBack
unfolding file_of
file_read_back h is =
    rw (head_read (length h) (history_in_octets h) (omega (arith, is.entries))) (entries_read h [] is.written (omega (arith, is.entries)) (omega (arith, is.octets)))

-- the entries that were read, and their octets
record AreMore (done h : List Entry) (left : ℕ) (octets : List ℕ) : Type 0 where
  pub more : List Entry
  pub joined : h ≡ done ++ more
  pub count : length more ≡ left
  pub whole : octets ≡ history_in_octets more

empty : (octets : List ℕ) → length octets ≡ 0 → octets ≡ []
empty [] e = refl
empty (x ∷ octets) e = absurd (omega arith)

none_by : (done h : List Entry) (octets : List ℕ) (end : Bool) → eqb (length octets) 0 ≡ end → cond end (Ok done) (Err BadEntry) ≡ Ok h → AreMore done h 0 octets
none_by done h octets true is e = record {
  more = [];
  joined = sym (same_Ok _ _ e) ∙ sym (append-nil done);
  count = refl;
  whole = empty octets (eqb-true (length octets) 0 is);
}
none_by done h octets false is e = absurd (Err-Ok _ _ e)

pushed_by : (done more : List Entry) (entry : Entry) (past : Bool) → cond past (Err BadEntry) (Ok (done ++ entry ∷ [])) ≡ Ok more → more ≡ done ++ entry ∷ []
pushed_by done more entry true e = absurd (Err-Ok _ _ e)
pushed_by done more entry false e = sym (same_Ok _ _ e)

AreOctets-behind : (octets a b : List ℕ) → octets ≡ a ++ b → AreOctets octets → AreOctets b
AreOctets-behind octets a b e are = subst AreOctets (ap (drop (length a)) e ∙ drop_at a b (length a) refl) (AreOctets-drop (length a) octets are)

entries_found : (left : ℕ) (done h : List Entry) (octets : List ℕ) → AreOctets octets → entries_behind done left octets ≡ Ok h → AreMore done h left octets
unfolding entries_behind
entries_found zero done h octets are e = none_by done h octets (eqb (length octets) 0) refl e
entries_found (suc left) done h octets are e =
    let f = bind_Ok (entry_of octets) (λ found. pushed_of done found.0 >>= λ more. entries_behind more left found.1) h e in
    let entry = f.0.0 in
    let rest = f.0.1 in
    let spelled = entry_written_back octets rest entry are f.1 in
    let p = bind_Ok (pushed_of done entry) (λ more. entries_behind more left rest) h f.2 in
    let push : p.0 ≡ done ++ entry ∷ [] = pushed_by done p.0 entry (is_past (length done) (history_octets done) entry) p.1 in
    let others = entries_found left p.0 h rest (AreOctets-behind octets (octets_of entry) rest spelled are) p.2 in
    record {
      more = entry ∷ others.more;
      joined = others.joined ∙ ap (λ t. t ++ others.more) push ∙ append_assoc done (entry ∷ []) others.more;
      count = omega (arith, others.count);
      whole = spelled ∙ ap (λ (t : List ℕ). octets_of entry ++ t) others.whole;
    }

pub file_written_back : FileWrittenBack
unfolding file_of
file_written_back octets h are e =
    let b = bind_Ok (head_of octets) (λ head. entries_behind [] head.0 head.1) h e in
    let head = head_found octets b.0.1 b.0.0 are b.1 in
    let entries = entries_found b.0.0 [] h b.0.1 head.rest_are b.2 in
    let count : b.0.0 ≡ length h = sym entries.count ∙ ap (λ (t : List Entry). length t) (sym entries.joined) in
    head.whole ∙ ap (λ (n : ℕ). head_octets n ++ b.0.1) count ∙ ap (λ (t : List ℕ). head_octets (length h) ++ t) (entries.whole ∙ ap history_in_octets (sym entries.joined))
