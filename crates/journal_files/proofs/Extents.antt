-- How long an entry is, as its front tells.
use Rattle.std.proofs.Common.{◌≡◌, ◌⊎◌, inl, inr, ℕ, ◌+◌, ◌≤◌, ◌<◌, Bool, true, false, cond, ltb, eqb, List, ◌∷◌, length, take, drop, Some, Result, Ok, Err, refl, sym, ap, subst, ◌∙◌, length-drop, arith}
use Rattle.std.specs.Str.{is_utf8}
use Rattle.std.proofs.lemmas.Bool.{ltb-true, ltb-false, eqb-true}
use Rattle.std.proofs.lemmas.List.{drop-drop}
use Rattle.sequences.specs.Octets.{be_value, number_at}
use Rattle.sequences.specs.Results.{◌>>=◌}
use Rattle.sequences.proofs.ResultLaws.{same_Ok, same_Err, Err-Ok, bind_Ok}
use Rattle.policy_text.specs.Naming.{is_name}
use Rattle.event_journal.specs.declared.entry.Entry.{Entry}
use Rattle.event_journal.specs.declared.entry.Entry.TheVariants.{Open, Close, Message, Edit, Subscribe, Unsubscribe, Advance, Cut}
use Rattle.journal_files.specs.declared.fault.Fault.{Fault}
use Rattle.journal_files.specs.declared.fault.Fault.TheVariants.{Truncated, BadEntry}
use Rattle.journal_files.specs.Reading.{Finding, front_of, front_number, numbered_entry, message_of, edit_of, subscribe_of, entry_by}
use Rattle.journal_files.specs.Gathering.{front_octets, announced}
use Rattle.journal_files.proofs.EntryRead.{found}
use Rattle.journal_files.proofs.EntryWritten.{message_part, length_part, number_part, text_part, name_part, name_length_part, tested, by_kind}

-- what a step that failed was given
pub bind_Err : {A B : Type 0} (r : Result A Fault) (f : A → Result B Fault) (why : Fault) → (r >>= f) ≡ Err why → (r ≡ Err why) ⊎ ((x : A) × (r ≡ Ok x) × (f x ≡ Err why))
bind_Err (Ok x) f why e = inr (x, refl, e)
bind_Err {A} {B} (Err k) f why e = inl (let err : Fault → Result A Fault = λ t. Err t in ap err (same_Err {A = B} k why e))

-- ---- the front of octets

record IsCut (n : ℕ) (octets front rest : List ℕ) : Type 0 where
  pub long : n ≤ length octets
  pub front_is : front ≡ take n octets
  pub rest_is : rest ≡ drop n octets

cut_by : (n : ℕ) (octets front rest : List ℕ) (few : Bool) → ltb (length octets) n ≡ few → cond few (Err Truncated) (found (take n octets) (drop n octets)) ≡ found front rest → IsCut n octets front rest
cut_by n octets front rest true is e = absurd (Err-Ok _ _ e)
cut_by n octets front rest false is e =
    let pair : (take n octets, drop n octets) ≡ (front, rest) = same_Ok _ _ e in
    record { long = ltb-false _ _ is; front_is = sym (ap (λ (p : List ℕ × List ℕ). p.0) pair); rest_is = sym (ap (λ (p : List ℕ × List ℕ). p.1) pair) }

front_cut : (n : ℕ) (octets front rest : List ℕ) → front_of n octets ≡ found front rest → IsCut n octets front rest
unfolding front_of
front_cut n octets front rest e = cut_by n octets front rest (ltb (length octets) n) refl e

short_by : (n : ℕ) (octets : List ℕ) (few : Bool) → ltb (length octets) n ≡ few → cond few (Err Truncated) (found (take n octets) (drop n octets)) ≡ Err Truncated → length octets < n
short_by n octets true is e = ltb-true _ _ is
short_by n octets false is e = absurd cc

front_short : (n : ℕ) (octets : List ℕ) → front_of n octets ≡ Err Truncated → length octets < n
unfolding front_of
front_short n octets e = short_by n octets (ltb (length octets) n) refl e

pub record IsNumberCut (width : ℕ) (octets : List ℕ) (n : ℕ) (rest : List ℕ) : Type 0 where
  pub long : width ≤ length octets
  pub number : n ≡ be_value (take width octets)
  pub rest_is : rest ≡ drop width octets
  pub left : length octets ≡ width + length rest

pub number_cut : (width : ℕ) (octets : List ℕ) (n : ℕ) (rest : List ℕ) → front_number width octets ≡ found n rest → IsNumberCut width octets n rest
unfolding front_number
number_cut width octets n rest e =
    let b = bind_Ok (front_of width octets) (λ front. found (be_value front.0) front.1) (n, rest) e in
    let front = front_cut width octets b.0.0 b.0.1 b.1 in
    let pair : (be_value b.0.0, b.0.1) ≡ (n, rest) = same_Ok _ _ b.2 in
    let after : rest ≡ drop width octets = sym (ap (λ (p : ℕ × List ℕ). p.1) pair) ∙ front.rest_is in
    record {
      long = front.long;
      number = sym (ap (λ (p : ℕ × List ℕ). p.0) pair) ∙ ap be_value front.front_is;
      rest_is = after;
      left = omega (arith, front.long, ap (λ (t : List ℕ). length t) after, length-drop width octets);
    }

pub number_short : (width : ℕ) (octets : List ℕ) → front_number width octets ≡ Err Truncated → length octets < width
unfolding front_number
number_short width octets e =
    elim (bind_Err (front_of width octets) (λ front. found (be_value front.0) front.1) Truncated e) [
      | inl front ↦ front_short width octets front
      | inr other ↦ absurd (Err-Ok _ _ (sym other.2))
    ]

-- ---- entries that are whole

numbered_whole : (entry : ℕ → Entry) (octets rest : List ℕ) (e : Entry) → numbered_entry entry octets ≡ found e rest → length octets ≡ 8 + length rest
unfolding numbered_entry
numbered_whole entry octets rest e eq =
    let b = bind_Ok (front_number 8 octets) (λ number. found (entry number.0) number.1) (e, rest) eq in
    let n = number_cut 8 octets b.0.0 b.0.1 b.1 in
    let pair : (entry b.0.0, b.0.1) ≡ (e, rest) = same_Ok _ _ b.2 in
    omega (arith, n.left, ap (λ (p : Entry × List ℕ). length p.1) pair)

body_left : (len : ℕ) (octets front rest : List ℕ) → IsCut len octets front rest → length octets ≡ len + length rest
body_left len octets front rest cut = omega (arith, cut.long, ap (λ (t : List ℕ). length t) cut.rest_is, length-drop len octets)

message_whole : (octets rest : List ℕ) (e : Entry) → message_of octets ≡ found e rest → length octets ≡ 20 + number_at 16 4 octets + length rest
unfolding message_of
message_whole octets rest e eq =
    let s = bind_Ok (front_number 8 octets) number_part (e, rest) eq in
    let session = number_cut 8 octets s.0.0 s.0.1 s.1 in
    let n = bind_Ok (front_number 8 s.0.1) (length_part s.0.0) (e, rest) s.2 in
    let number = number_cut 8 s.0.1 n.0.0 n.0.1 n.1 in
    let l = bind_Ok (front_number 4 n.0.1) (message_part s.0.0 n.0.0) (e, rest) n.2 in
    let len = number_cut 4 n.0.1 l.0.0 l.0.1 l.1 in
    let m = bind_Ok (front_of l.0.0 l.0.1) (λ message. found (Message s.0.0 n.0.0 message.0) message.1) (e, rest) l.2 in
    let body = body_left l.0.0 l.0.1 m.0.0 m.0.1 (front_cut l.0.0 l.0.1 m.0.0 m.0.1 m.1) in
    let pair : (Message s.0.0 n.0.0 m.0.0, m.0.1) ≡ (e, rest) = same_Ok _ _ m.2 in
    let place : n.0.1 ≡ drop 16 octets = number.rest_is ∙ ap (drop 8) session.rest_is ∙ drop-drop 8 8 octets in
    let announced : l.0.0 ≡ number_at 16 4 octets = len.number ∙ ap (λ (t : List ℕ). be_value (take 4 t)) place in
    omega (arith, session.left, number.left, len.left, body, announced, ap (λ (p : Entry × List ℕ). length p.1) pair)

edit_whole : (octets rest : List ℕ) (e : Entry) → edit_of octets ≡ found e rest → length octets ≡ 8 + number_at 0 8 octets + length rest
unfolding edit_of
edit_whole octets rest e eq =
    let l = bind_Ok (front_number 8 octets) text_part (e, rest) eq in
    let len = number_cut 8 octets l.0.0 l.0.1 l.1 in
    let t = bind_Ok (front_of l.0.0 l.0.1) (λ text. cond (is_utf8 text.0) (found (Edit text.0) text.1) (Err BadEntry)) (e, rest) l.2 in
    let body = body_left l.0.0 l.0.1 t.0.0 t.0.1 (front_cut l.0.0 l.0.1 t.0.0 t.0.1 t.1) in
    let pair : (Edit t.0.0, t.0.1) ≡ (e, rest) = tested (Edit t.0.0) t.0.1 (e, rest) (is_utf8 t.0.0) t.2 in
    omega (arith, len.left, body, len.number, ap (λ (p : Entry × List ℕ). length p.1) pair)

subscribe_whole : (octets rest : List ℕ) (e : Entry) → subscribe_of octets ≡ found e rest → length octets ≡ 9 + number_at 8 1 octets + length rest
unfolding subscribe_of
subscribe_whole octets rest e eq =
    let s = bind_Ok (front_number 8 octets) name_length_part (e, rest) eq in
    let sub = number_cut 8 octets s.0.0 s.0.1 s.1 in
    let l = bind_Ok (front_number 1 s.0.1) (name_part s.0.0) (e, rest) s.2 in
    let len = number_cut 1 s.0.1 l.0.0 l.0.1 l.1 in
    let n = bind_Ok (front_of l.0.0 l.0.1) (λ name. cond (is_name name.0) (found (Subscribe s.0.0 name.0) name.1) (Err BadEntry)) (e, rest) l.2 in
    let body = body_left l.0.0 l.0.1 n.0.0 n.0.1 (front_cut l.0.0 l.0.1 n.0.0 n.0.1 n.1) in
    let pair : (Subscribe s.0.0 n.0.0, n.0.1) ≡ (e, rest) = tested (Subscribe s.0.0 n.0.0) n.0.1 (e, rest) (is_name n.0.0) n.2 in
    let announced : l.0.0 ≡ number_at 8 1 octets = len.number ∙ ap (λ (t : List ℕ). be_value (take 1 t)) sub.rest_is in
    omega (arith, sub.left, len.left, body, announced, ap (λ (p : Entry × List ℕ). length p.1) pair)

-- an entry takes its front, what it announces, and no octet more
abbrev pub IsWhole : List ℕ → List ℕ → ℕ → Type 0
IsWhole octets rest kind = (n : ℕ) × (front_octets kind ≡ Some n) × (length octets + 1 ≡ n + announced kind (kind ∷ octets) + length rest)

numbered_is : (kind : ℕ) (octets rest : List ℕ) → front_octets kind ≡ Some 9 → announced kind (kind ∷ octets) ≡ 0 → length octets ≡ 8 + length rest → IsWhole octets rest kind
numbered_is kind octets rest front none long = (9, front, omega (arith, none, long))

pub kind_whole : (kind : ℕ) (octets rest : List ℕ) (e : Entry) → entry_by kind octets ≡ found e rest → IsWhole octets rest kind
unfolding entry_by front_octets announced
kind_whole kind octets rest e eq =
    by_kind kind 1 _ _ (e, rest) (eqb kind 1) refl eq (λ k y. subst (IsWhole octets rest) (sym k) (numbered_is 1 octets rest refl refl (numbered_whole Open octets rest e y)))
    (λ n1. by_kind kind 2 _ _ (e, rest) (eqb kind 2) refl n1 (λ k y. subst (IsWhole octets rest) (sym k) (numbered_is 2 octets rest refl refl (numbered_whole Close octets rest e y)))
    (λ n2. by_kind kind 3 _ _ (e, rest) (eqb kind 3) refl n2 (λ k y. subst (IsWhole octets rest) (sym k) (21, refl, omega (arith, message_whole octets rest e y)))
    (λ n3. by_kind kind 4 _ _ (e, rest) (eqb kind 4) refl n3 (λ k y. subst (IsWhole octets rest) (sym k) (9, refl, omega (arith, edit_whole octets rest e y)))
    (λ n4. by_kind kind 5 _ _ (e, rest) (eqb kind 5) refl n4 (λ k y. subst (IsWhole octets rest) (sym k) (10, refl, omega (arith, subscribe_whole octets rest e y)))
    (λ n5. by_kind kind 6 _ _ (e, rest) (eqb kind 6) refl n5 (λ k y. subst (IsWhole octets rest) (sym k) (numbered_is 6 octets rest refl refl (numbered_whole Unsubscribe octets rest e y)))
    (λ n6. by_kind kind 7 _ _ (e, rest) (eqb kind 7) refl n6 (λ k y. subst (IsWhole octets rest) (sym k) (numbered_is 7 octets rest refl refl (numbered_whole Advance octets rest e y)))
    (λ n7. by_kind kind 8 _ _ (e, rest) (eqb kind 8) refl n7 (λ k y. subst (IsWhole octets rest) (sym k) (numbered_is 8 octets rest refl refl (numbered_whole Cut octets rest e y)))
    (λ none. absurd (Err-Ok _ _ none)))))))))

-- ---- entries that are cut off

numbered_short : (entry : ℕ → Entry) (octets : List ℕ) → numbered_entry entry octets ≡ Err Truncated → length octets < 8
unfolding numbered_entry
numbered_short entry octets e =
    elim (bind_Err (front_number 8 octets) (λ number. found (entry number.0) number.1) Truncated e) [
      | inl short ↦ number_short 8 octets short
      | inr other ↦ absurd (Err-Ok _ _ (sym other.2))
    ]

message_part_short : (session number : ℕ) (len : ℕ × List ℕ) → message_part session number len ≡ Err Truncated → length len.1 < len.0
message_part_short session number len e =
    elim (bind_Err (front_of len.0 len.1) (λ message. found (Message session number message.0) message.1) Truncated e) [
      | inl short ↦ front_short len.0 len.1 short
      | inr other ↦ absurd (Err-Ok _ _ (sym other.2))
    ]

length_part_short : (session : ℕ) (number : ℕ × List ℕ) → length_part session number ≡ Err Truncated → length number.1 < 4 + be_value (take 4 number.1)
length_part_short session number e =
    elim (bind_Err (front_number 4 number.1) (message_part session number.0) Truncated e) [
      | inl short ↦ let few = number_short 4 number.1 short in omega (arith, few)
      | inr l ↦ let len = number_cut 4 number.1 l.0.0 l.0.1 l.1 in let few = message_part_short session number.0 l.0 l.2 in omega (arith, len.left, len.number, few)
    ]

number_part_short : (session : ℕ × List ℕ) → number_part session ≡ Err Truncated → length session.1 < 12 + number_at 8 4 session.1
number_part_short session e =
    elim (bind_Err (front_number 8 session.1) (length_part session.0) Truncated e) [
      | inl short ↦ let few = number_short 8 session.1 short in omega (arith, few)
      | inr n ↦ let number = number_cut 8 session.1 n.0.0 n.0.1 n.1 in
          let few = length_part_short session.0 n.0 n.2 in
          omega (arith, number.left, few, ap (λ (t : List ℕ). be_value (take 4 t)) number.rest_is)
    ]

message_short : (octets : List ℕ) → message_of octets ≡ Err Truncated → length octets < 20 + number_at 16 4 octets
unfolding message_of
message_short octets e =
    elim (bind_Err (front_number 8 octets) number_part Truncated e) [
      | inl short ↦ let few = number_short 8 octets short in omega (arith, few)
      | inr s ↦ let session = number_cut 8 octets s.0.0 s.0.1 s.1 in
          let few = number_part_short s.0 s.2 in
          omega (arith, session.left, few, ap (λ (t : List ℕ). be_value (take 4 t)) (ap (drop 8) session.rest_is ∙ drop-drop 8 8 octets))
    ]

tested_short : (x : Entry) (rest : List ℕ) (b : Bool) → cond b (found x rest) (Err BadEntry) ≡ Err Truncated → ⊥
tested_short x rest true e = Err-Ok _ _ (sym e)
tested_short x rest false e = cc

text_part_short : (len : ℕ × List ℕ) → text_part len ≡ Err Truncated → length len.1 < len.0
text_part_short len e =
    elim (bind_Err (front_of len.0 len.1) (λ text. cond (is_utf8 text.0) (found (Edit text.0) text.1) (Err BadEntry)) Truncated e) [
      | inl short ↦ front_short len.0 len.1 short
      | inr t ↦ absurd (tested_short (Edit t.0.0) t.0.1 (is_utf8 t.0.0) t.2)
    ]

edit_short : (octets : List ℕ) → edit_of octets ≡ Err Truncated → length octets < 8 + number_at 0 8 octets
unfolding edit_of
edit_short octets e =
    elim (bind_Err (front_number 8 octets) text_part Truncated e) [
      | inl short ↦ let few = number_short 8 octets short in omega (arith, few)
      | inr l ↦ let len = number_cut 8 octets l.0.0 l.0.1 l.1 in let few = text_part_short l.0 l.2 in omega (arith, len.left, len.number, few)
    ]

name_part_short : (sub : ℕ) (len : ℕ × List ℕ) → name_part sub len ≡ Err Truncated → length len.1 < len.0
name_part_short sub len e =
    elim (bind_Err (front_of len.0 len.1) (λ name. cond (is_name name.0) (found (Subscribe sub name.0) name.1) (Err BadEntry)) Truncated e) [
      | inl short ↦ front_short len.0 len.1 short
      | inr t ↦ absurd (tested_short (Subscribe sub t.0.0) t.0.1 (is_name t.0.0) t.2)
    ]

name_length_part_short : (sub : ℕ × List ℕ) → name_length_part sub ≡ Err Truncated → length sub.1 < 1 + be_value (take 1 sub.1)
name_length_part_short sub e =
    elim (bind_Err (front_number 1 sub.1) (name_part sub.0) Truncated e) [
      | inl short ↦ let few = number_short 1 sub.1 short in omega (arith, few)
      | inr l ↦ let len = number_cut 1 sub.1 l.0.0 l.0.1 l.1 in let few = name_part_short sub.0 l.0 l.2 in omega (arith, len.left, len.number, few)
    ]

subscribe_short : (octets : List ℕ) → subscribe_of octets ≡ Err Truncated → length octets < 9 + number_at 8 1 octets
unfolding subscribe_of
subscribe_short octets e =
    elim (bind_Err (front_number 8 octets) name_length_part Truncated e) [
      | inl short ↦ let few = number_short 8 octets short in omega (arith, few)
      | inr s ↦ let sub = number_cut 8 octets s.0.0 s.0.1 s.1 in
          let few = name_length_part_short s.0 s.2 in
          omega (arith, sub.left, few, ap (λ (t : List ℕ). be_value (take 1 t)) sub.rest_is)
    ]

-- an entry that is cut off has fewer octets
abbrev pub IsShort : List ℕ → ℕ → Type 0
IsShort octets kind = (n : ℕ) × (front_octets kind ≡ Some n) × (length octets + 1 < n + announced kind (kind ∷ octets))

numbered_cut_off : (kind : ℕ) (octets : List ℕ) → front_octets kind ≡ Some 9 → length octets < 8 → IsShort octets kind
numbered_cut_off kind octets front few = (9, front, omega (arith, few))

-- one kind, or another
fault_by_kind : {P : Type 0} (kind i : ℕ) (one other : Finding Entry) (why : Fault) (b : Bool) → eqb kind i ≡ b → cond b one other ≡ Err why → (kind ≡ i → one ≡ Err why → P) → (other ≡ Err why → P) → P
fault_by_kind kind i one other why true is e here there = here (eqb-true kind i is) e
fault_by_kind kind i one other why false is e here there = there e

no_such_kind : BadEntry ≡ Truncated → ⊥
no_such_kind e = cc

pub kind_short : (kind : ℕ) (octets : List ℕ) → entry_by kind octets ≡ Err Truncated → IsShort octets kind
unfolding entry_by front_octets announced
kind_short kind octets eq =
    fault_by_kind kind 1 _ _ Truncated (eqb kind 1) refl eq (λ k y. subst (IsShort octets) (sym k) (numbered_cut_off 1 octets refl (numbered_short Open octets y)))
    (λ n1. fault_by_kind kind 2 _ _ Truncated (eqb kind 2) refl n1 (λ k y. subst (IsShort octets) (sym k) (numbered_cut_off 2 octets refl (numbered_short Close octets y)))
    (λ n2. fault_by_kind kind 3 _ _ Truncated (eqb kind 3) refl n2 (λ k y. subst (IsShort octets) (sym k) (21, refl, omega (arith, message_short octets y)))
    (λ n3. fault_by_kind kind 4 _ _ Truncated (eqb kind 4) refl n3 (λ k y. subst (IsShort octets) (sym k) (9, refl, omega (arith, edit_short octets y)))
    (λ n4. fault_by_kind kind 5 _ _ Truncated (eqb kind 5) refl n4 (λ k y. subst (IsShort octets) (sym k) (10, refl, omega (arith, subscribe_short octets y)))
    (λ n5. fault_by_kind kind 6 _ _ Truncated (eqb kind 6) refl n5 (λ k y. subst (IsShort octets) (sym k) (numbered_cut_off 6 octets refl (numbered_short Unsubscribe octets y)))
    (λ n6. fault_by_kind kind 7 _ _ Truncated (eqb kind 7) refl n6 (λ k y. subst (IsShort octets) (sym k) (numbered_cut_off 7 octets refl (numbered_short Advance octets y)))
    (λ n7. fault_by_kind kind 8 _ _ Truncated (eqb kind 8) refl n7 (λ k y. subst (IsShort octets) (sym k) (numbered_cut_off 8 octets refl (numbered_short Cut octets y)))
    (λ none. absurd (no_such_kind (same_Err {A = Entry × List ℕ} _ _ none))))))))))
