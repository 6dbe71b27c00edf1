-- An entry that is read is written by the octets that it was read from.
use Rattle.std.proofs.Common.{◌≡◌, ℕ, ◌<◌, ◌^◌, ◌%◌, Bool, true, false, cond, ltb, eqb, List, ◌∷◌, ◌++◌, length, take, drop, Ok, Err, refl, sym, ap, ◌∙◌, append_assoc, take-append-drop, subst, arith}
use Rattle.std.specs.Str.{is_utf8}
use Rattle.std.proofs.lemmas.Bool.{ltb-false, eqb-true}
use Rattle.std.proofs.lemmas.List.{length-take-le}
use Rattle.sequences.specs.Octets.{be_value, be_octets, AreOctets}
use Rattle.sequences.specs.Results.{◌>>=◌}
use Rattle.sequences.proofs.OctetLaws.{be_value-below, AreOctets-take, AreOctets-drop}
use Rattle.std.proofs.Math.Nat.{mod-eq_of_lt}
use Rattle.sequences.proofs.ResultLaws.{same_Ok, Err-Ok, bind_Ok}
use Rattle.policy_text.specs.Naming.{is_name}
use Rattle.event_journal.specs.declared.entry.Entry.{Entry}
use Rattle.event_journal.specs.declared.entry.Entry.TheVariants.{Open, Close, Message, Edit, Subscribe, Unsubscribe, Advance, Cut}
use Rattle.journal_files.specs.declared.fault.Fault.TheVariants.{Truncated, BadEntry}
use Rattle.journal_files.specs.Format.{octets_of}
use Rattle.journal_files.specs.Reading.{Finding, front_of, front_number, numbered_entry, message_of, edit_of, subscribe_of, entry_by, entry_of}
use Rattle.journal_files.specs.Laws.{EntryWrittenBack}
use Rattle.journal_files.proofs.NumberLaws.{be_octets-be_value}
use Rattle.journal_files.proofs.EntryRead.{found}

-- the octets at the front, and those after them
pub record IsFront (n : ℕ) (octets front rest : List ℕ) : Type 0 where
  pub whole : octets ≡ front ++ rest
  pub wide : length front ≡ n
  pub front_are : AreOctets front
  pub rest_are : AreOctets rest

front_by : (n : ℕ) (octets front rest : List ℕ) (few : Bool) → AreOctets octets → ltb (length octets) n ≡ few → cond few (Err Truncated) (found (take n octets) (drop n octets)) ≡ found front rest → IsFront n octets front rest
front_by n octets front rest true are is e = absurd (Err-Ok _ _ e)
front_by n octets front rest false are is e =
    let pair : (take n octets, drop n octets) ≡ (front, rest) = same_Ok _ _ e in
    let first : take n octets ≡ front = ap (λ (p : List ℕ × List ℕ). p.0) pair in
    let second : drop n octets ≡ rest = ap (λ (p : List ℕ × List ℕ). p.1) pair in
    rw (sym first, sym second) (record {
      whole = sym (take-append-drop n octets);
      wide = length-take-le n octets (ltb-false _ _ is);
      front_are = AreOctets-take n octets are;
      rest_are = AreOctets-drop n octets are;
    })

pub front_found : (n : ℕ) (octets front rest : List ℕ) → AreOctets octets → front_of n octets ≡ found front rest → IsFront n octets front rest
unfolding front_of
front_found n octets front rest are e = front_by n octets front rest (ltb (length octets) n) are refl e

-- the number at the front, in its octets
pub record IsFrontNumber (width : ℕ) (octets : List ℕ) (n : ℕ) (rest : List ℕ) : Type 0 where
  pub front : IsFront width octets (be_octets width n) rest
  pub below : n < 256 ^ width

pub number_found : (width : ℕ) (octets : List ℕ) (n : ℕ) (rest : List ℕ) → AreOctets octets → front_number width octets ≡ found n rest → IsFrontNumber width octets n rest
unfolding front_number
number_found width octets n rest are e =
    let b = bind_Ok (front_of width octets) (λ front. found (be_value front.0) front.1) (n, rest) e in
    let front = front_found width octets b.0.0 b.0.1 are b.1 in
    let pair : (be_value b.0.0, b.0.1) ≡ (n, rest) = same_Ok _ _ b.2 in
    let value : be_value b.0.0 ≡ n = ap (λ (p : ℕ × List ℕ). p.0) pair in
    let after : b.0.1 ≡ rest = ap (λ (p : ℕ × List ℕ). p.1) pair in
    let digits : b.0.0 ≡ be_octets width n = sym (be_octets-be_value b.0.0 front.front_are) ∙ ap (λ (k : ℕ). be_octets k (be_value b.0.0)) front.wide ∙ ap (be_octets width) value in
    let few : be_value b.0.0 < 256 ^ width = subst (λ (k : ℕ). be_value b.0.0 < 256 ^ k) front.wide (be_value-below b.0.0 front.front_are) in
    record {
      front = subst (λ (t : List ℕ). IsFront width octets t rest) digits (subst (λ (t : List ℕ). IsFront width octets b.0.0 t) after front);
      below = subst (λ (k : ℕ). k < 256 ^ width) value few;
    }

-- ---- entries, behind the octet of their kind

numbered_found : (entry : ℕ → Entry) (kind : ℕ) → ((n : ℕ) → octets_of (entry n) ≡ kind ∷ be_octets 8 n) → (octets rest : List ℕ) (e : Entry) → AreOctets octets → numbered_entry entry octets ≡ found e rest → kind ∷ octets ≡ octets_of e ++ rest
unfolding numbered_entry
numbered_found entry kind spelled octets rest e are eq =
    let b = bind_Ok (front_number 8 octets) (λ number. found (entry number.0) number.1) (e, rest) eq in
    let n = number_found 8 octets b.0.0 b.0.1 are b.1 in
    let pair : (entry b.0.0, b.0.1) ≡ (e, rest) = same_Ok _ _ b.2 in
    ap (λ (t : List ℕ). kind ∷ t) n.front.whole ∙ ap (λ (t : List ℕ). t ++ b.0.1) (sym (spelled b.0.0)) ∙ ap (λ (p : Entry × List ℕ). octets_of p.0 ++ p.1) pair

-- what stands behind one part, and behind two, three and four
behind_two : (octets a one b two : List ℕ) → octets ≡ a ++ one → one ≡ b ++ two → octets ≡ (a ++ b) ++ two
behind_two octets a one b two e f = e ∙ ap (λ (t : List ℕ). a ++ t) f ∙ sym (append_assoc a b two)

behind_three : (octets a one b two c three : List ℕ) → octets ≡ a ++ one → one ≡ b ++ two → two ≡ c ++ three → octets ≡ (a ++ (b ++ c)) ++ three
behind_three octets a one b two c three e f g = behind_two octets a one (b ++ c) three e (behind_two one b two c three f g)

behind_four : (octets a one b two c three d four : List ℕ) → octets ≡ a ++ one → one ≡ b ++ two → two ≡ c ++ three → three ≡ d ++ four → octets ≡ (a ++ (b ++ (c ++ d))) ++ four
behind_four octets a one b two c three d four e f g h = behind_two octets a one (b ++ (c ++ d)) four e (behind_three one b two c three d four f g h)

abbrev pub message_part : ℕ → ℕ → ℕ × List ℕ → Finding Entry
message_part session number len = front_of len.0 len.1 >>= λ message. Ok (Message session number message.0, message.1)

abbrev pub length_part : ℕ → ℕ × List ℕ → Finding Entry
length_part session number = front_number 4 number.1 >>= message_part session number.0

abbrev pub number_part : ℕ × List ℕ → Finding Entry
number_part session = front_number 8 session.1 >>= length_part session.0

message_found : (octets rest : List ℕ) (e : Entry) → AreOctets octets → message_of octets ≡ found e rest → 3 ∷ octets ≡ octets_of e ++ rest
unfolding message_of
message_found octets rest e are eq =
    let s = bind_Ok (front_number 8 octets) number_part (e, rest) eq in
    let session = number_found 8 octets s.0.0 s.0.1 are s.1 in
    let n = bind_Ok (front_number 8 s.0.1) (length_part s.0.0) (e, rest) s.2 in
    let number = number_found 8 s.0.1 n.0.0 n.0.1 session.front.rest_are n.1 in
    let l = bind_Ok (front_number 4 n.0.1) (message_part s.0.0 n.0.0) (e, rest) n.2 in
    let len = number_found 4 n.0.1 l.0.0 l.0.1 number.front.rest_are l.1 in
    let m = bind_Ok (front_of l.0.0 l.0.1) (λ message. found (Message s.0.0 n.0.0 message.0) message.1) (e, rest) l.2 in
    let message = front_found l.0.0 l.0.1 m.0.0 m.0.1 len.front.rest_are m.1 in
    let pair : (Message s.0.0 n.0.0 m.0.0, m.0.1) ≡ (e, rest) = same_Ok _ _ m.2 in
    let digits : n.0.1 ≡ be_octets 4 (length m.0.0) ++ l.0.1 = len.front.whole ∙ ap (λ (k : ℕ). be_octets 4 k ++ l.0.1) (sym message.wide) in
    ap (λ (t : List ℕ). 3 ∷ t) (behind_four octets (be_octets 8 s.0.0) s.0.1 (be_octets 8 n.0.0) n.0.1 (be_octets 4 (length m.0.0)) l.0.1 m.0.0 m.0.1 session.front.whole number.front.whole digits message.whole)
    ∙ ap (λ (p : Entry × List ℕ). octets_of p.0 ++ p.1) pair

-- what passed a test
pub tested : (x : Entry) (rest : List ℕ) (y : Entry × List ℕ) (b : Bool) → cond b (found x rest) (Err BadEntry) ≡ Ok y → (x, rest) ≡ y
tested x rest y true e = same_Ok _ _ e
tested x rest y false e = absurd (Err-Ok _ _ e)

abbrev pub text_part : ℕ × List ℕ → Finding Entry
text_part len = front_of len.0 len.1 >>= λ text. cond (is_utf8 text.0) (found (Edit text.0) text.1) (Err BadEntry)

edit_found : (octets rest : List ℕ) (e : Entry) → AreOctets octets → edit_of octets ≡ found e rest → 4 ∷ octets ≡ octets_of e ++ rest
unfolding edit_of
edit_found octets rest e are eq =
    let l = bind_Ok (front_number 8 octets) text_part (e, rest) eq in
    let len = number_found 8 octets l.0.0 l.0.1 are l.1 in
    let t = bind_Ok (front_of l.0.0 l.0.1) (λ text. cond (is_utf8 text.0) (found (Edit text.0) text.1) (Err BadEntry)) (e, rest) l.2 in
    let text = front_found l.0.0 l.0.1 t.0.0 t.0.1 len.front.rest_are t.1 in
    let pair : (Edit t.0.0, t.0.1) ≡ (e, rest) = tested (Edit t.0.0) t.0.1 (e, rest) (is_utf8 t.0.0) t.2 in
    let digits : octets ≡ be_octets 8 (length t.0.0) ++ l.0.1 = len.front.whole ∙ ap (λ (k : ℕ). be_octets 8 k ++ l.0.1) (sym text.wide) in
    ap (λ (t : List ℕ). 4 ∷ t) (behind_two octets (be_octets 8 (length t.0.0)) l.0.1 t.0.0 t.0.1 digits text.whole)
    ∙ ap (λ (p : Entry × List ℕ). octets_of p.0 ++ p.1) pair

abbrev pub name_part : ℕ → ℕ × List ℕ → Finding Entry
name_part sub len = front_of len.0 len.1 >>= λ name. cond (is_name name.0) (found (Subscribe sub name.0) name.1) (Err BadEntry)

abbrev pub name_length_part : ℕ × List ℕ → Finding Entry
name_length_part sub = front_number 1 sub.1 >>= name_part sub.0

subscribe_found : (octets rest : List ℕ) (e : Entry) → AreOctets octets → subscribe_of octets ≡ found e rest → 5 ∷ octets ≡ octets_of e ++ rest
unfolding subscribe_of
subscribe_found octets rest e are eq =
    let s = bind_Ok (front_number 8 octets) name_length_part (e, rest) eq in
    let sub = number_found 8 octets s.0.0 s.0.1 are s.1 in
    let l = bind_Ok (front_number 1 s.0.1) (name_part s.0.0) (e, rest) s.2 in
    let len = number_found 1 s.0.1 l.0.0 l.0.1 sub.front.rest_are l.1 in
    let n = bind_Ok (front_of l.0.0 l.0.1) (λ name. cond (is_name name.0) (found (Subscribe s.0.0 name.0) name.1) (Err BadEntry)) (e, rest) l.2 in
    let name = front_found l.0.0 l.0.1 n.0.0 n.0.1 len.front.rest_are n.1 in
    let pair : (Subscribe s.0.0 n.0.0, n.0.1) ≡ (e, rest) = tested (Subscribe s.0.0 n.0.0) n.0.1 (e, rest) (is_name n.0.0) n.2 in
    let digits : s.0.1 ≡ be_octets 1 (length n.0.0) ++ l.0.1 = len.front.whole ∙ ap (λ (k : ℕ). be_octets 1 k ++ l.0.1) (sym name.wide) in
    ap (λ (t : List ℕ). 5 ∷ t) (behind_three octets (be_octets 8 s.0.0) s.0.1 (be_octets 1 (length n.0.0)) l.0.1 n.0.0 n.0.1 sub.front.whole digits name.whole)
    ∙ ap (λ (p : Entry × List ℕ). octets_of p.0 ++ p.1) pair

-- ---- an entry

-- one kind, or another
pub by_kind : {P : Type 0} (kind i : ℕ) (one other : Finding Entry) (y : Entry × List ℕ) (b : Bool) → eqb kind i ≡ b → cond b one other ≡ Ok y → (kind ≡ i → one ≡ Ok y → P) → (other ≡ Ok y → P) → P
by_kind kind i one other y true is e here there = here (eqb-true kind i is) e
by_kind kind i one other y false is e here there = there e

kind_found : (kind : ℕ) (octets rest : List ℕ) (e : Entry) → AreOctets octets → entry_by kind octets ≡ found e rest → kind ∷ octets ≡ octets_of e ++ rest
unfolding entry_by
kind_found kind octets rest e are eq =
    by_kind kind 1 _ _ (e, rest) (eqb kind 1) refl eq (λ k y. ap (λ i. i ∷ octets) k ∙ numbered_found Open 1 (λ n. refl) octets rest e are y)
    (λ n1. by_kind kind 2 _ _ (e, rest) (eqb kind 2) refl n1 (λ k y. ap (λ i. i ∷ octets) k ∙ numbered_found Close 2 (λ n. refl) octets rest e are y)
    (λ n2. by_kind kind 3 _ _ (e, rest) (eqb kind 3) refl n2 (λ k y. ap (λ i. i ∷ octets) k ∙ message_found octets rest e are y)
    (λ n3. by_kind kind 4 _ _ (e, rest) (eqb kind 4) refl n3 (λ k y. ap (λ i. i ∷ octets) k ∙ edit_found octets rest e are y)
    (λ n4. by_kind kind 5 _ _ (e, rest) (eqb kind 5) refl n4 (λ k y. ap (λ i. i ∷ octets) k ∙ subscribe_found octets rest e are y)
    (λ n5. by_kind kind 6 _ _ (e, rest) (eqb kind 6) refl n5 (λ k y. ap (λ i. i ∷ octets) k ∙ numbered_found Unsubscribe 6 (λ n. refl) octets rest e are y)
    (λ n6. by_kind kind 7 _ _ (e, rest) (eqb kind 7) refl n6 (λ k y. ap (λ i. i ∷ octets) k ∙ numbered_found Advance 7 (λ n. refl) octets rest e are y)
    (λ n7. by_kind kind 8 _ _ (e, rest) (eqb kind 8) refl n7 (λ k y. ap (λ i. i ∷ octets) k ∙ numbered_found Cut 8 (λ n. refl) octets rest e are y)
    (λ none. absurd (Err-Ok _ _ none)))))))))

pub entry_written_back : EntryWrittenBack
unfolding entry_of
entry_written_back octets rest e are eq =
    let b = bind_Ok (front_number 1 octets) (λ kind. entry_by kind.0 kind.1) (e, rest) eq in
    let kind = number_found 1 octets b.0.0 b.0.1 are b.1 in
    let low : b.0.0 % 256 ≡ b.0.0 = mod-eq_of_lt (omega (arith, kind.below)) in
    kind.front.whole ∙ ap (λ (n : ℕ). n ∷ b.0.1) low ∙ kind_found b.0.0 b.0.1 rest e kind.front.rest_are b.2
