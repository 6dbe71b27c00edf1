-- What is read at the front, and a fault that shows there, stay as they are whatever follows, but that a file is cut off.
use Rattle.std.proofs.Common.{◌≡◌, ℕ, Bool, true, false, cond, ltb, eqb, List, [], ◌++◌, length, take, drop, Option, Some, None, Result, Ok, Err, refl, sym, ap, subst, ◌∙◌, append-nil, length-append, arith}
use Rattle.std.specs.Str.{is_utf8}
use Rattle.std.proofs.lemmas.Bool.{ltb-false, le-ltb, ne_eqb, eqb-false}
use Rattle.std.proofs.lemmas.List.{take-append-le}
use Rattle.std.proofs.Math.Seq.{drop-append-le}
use Rattle.sequences.specs.Results.{◌>>=◌}
use Rattle.sequences.proofs.ResultLaws.{same_Err}
use Rattle.policy_text.specs.Naming.{is_name}
use Rattle.event_journal.specs.declared.entry.Entry.{Entry}
use Rattle.event_journal.specs.declared.entry.Entry.TheVariants.{Open, Close, Edit, Subscribe, Unsubscribe, Advance, Cut}
use Rattle.journal_files.specs.declared.fault.Fault.{Fault}
use Rattle.journal_files.specs.declared.fault.Fault.TheVariants.{BadMagic, BadVersion, Truncated, BadEntry}
use Rattle.journal_files.specs.Format.{magic, version, octets_of}
use Rattle.journal_files.specs.Reading.{Finding, front_of, front_number, past_number, head_of, numbered_entry, message_of, edit_of, subscribe_of, entry_by, entry_of, is_past}
use Rattle.journal_files.specs.Streaming.{FilePlace, IsReadBack, FaultStays, HeadStays, next_entry_of, entry_step}

-- a result of the octets, and one of the octets with more behind them
abbrev Same : {A : Type 0} → List ℕ → Finding A → Finding A → Type 0
Same more (Ok f) after = after ≡ Ok (f.0, f.1 ++ more)
Same more (Err why) after = (why ≡ Truncated → ⊥) → after ≡ Err why

abbrev SameRest : List ℕ → Result (List ℕ) Fault → Result (List ℕ) Fault → Type 0
SameRest more (Ok rest) after = after ≡ Ok (rest ++ more)
SameRest more (Err why) after = (why ≡ Truncated → ⊥) → after ≡ Err why

abbrev Stays : {A : Type 0} → (List ℕ → Finding A) → Type 0
Stays read = (octets more : List ℕ) → Same more (read octets) (read (octets ++ more))

stays_bind : {A B : Type 0} (more : List ℕ) (r s : Finding A) (f : A × List ℕ → Finding B) → Same more r s → ((x : A) (rest : List ℕ) → Same more (f (x, rest)) (f (x, rest ++ more))) → Same more (r >>= f) (s >>= f)
stays_bind more (Ok x) s f same next = rw same (next x.0 x.1)
stays_bind {A} {B} more (Err why) s f same next = λ other. ap (λ t. t >>= f) (same other)

front_by : (n : ℕ) (octets more : List ℕ) (few : Bool) → ltb (length octets) n ≡ few → Same more (cond few (Err Truncated) (Ok (take n octets, drop n octets))) (front_of n (octets ++ more))
unfolding front_of
front_by n octets more true is = λ other. absurd (other refl)
front_by n octets more false is =
    let long = ltb-false _ _ is in
    rw (le-ltb (length (octets ++ more)) n (omega (arith, long, length-append octets more)), take-append-le n octets more long, drop-append-le n octets more long) refl

front_stays : (n : ℕ) → Stays (front_of n)
unfolding front_of
front_stays n octets more = front_by n octets more (ltb (length octets) n) refl

number_stays : (width : ℕ) → Stays (front_number width)
unfolding front_number
number_stays width octets more = stays_bind more (front_of width octets) (front_of width (octets ++ more)) _ (front_stays width octets more) (λ x rest. refl)

numbered_stays : (entry : ℕ → Entry) → Stays (numbered_entry entry)
unfolding numbered_entry
numbered_stays entry octets more = stays_bind more (front_number 8 octets) (front_number 8 (octets ++ more)) _ (number_stays 8 octets more) (λ x rest. refl)

message_stays : Stays message_of
unfolding message_of
message_stays octets more =
    stays_bind more (front_number 8 octets) (front_number 8 (octets ++ more)) _ (number_stays 8 octets more)
    (λ session one. stays_bind more (front_number 8 one) (front_number 8 (one ++ more)) _ (number_stays 8 one more)
    (λ number two. stays_bind more (front_number 4 two) (front_number 4 (two ++ more)) _ (number_stays 4 two more)
    (λ len three. stays_bind more (front_of len three) (front_of len (three ++ more)) _ (front_stays len three more) (λ m rest. refl))))

tested_stays : (entry : Entry) (rest more : List ℕ) (b : Bool) → Same more (cond b (Ok (entry, rest)) (Err BadEntry)) (cond b (Ok (entry, rest ++ more)) (Err BadEntry))
tested_stays entry rest more true = refl
tested_stays entry rest more false = λ other. refl

edit_stays : Stays edit_of
unfolding edit_of
edit_stays octets more =
    stays_bind more (front_number 8 octets) (front_number 8 (octets ++ more)) _ (number_stays 8 octets more)
    (λ len one. stays_bind more (front_of len one) (front_of len (one ++ more)) _ (front_stays len one more) (λ text rest. tested_stays (Edit text) rest more (is_utf8 text)))

subscribe_stays : Stays subscribe_of
unfolding subscribe_of
subscribe_stays octets more =
    stays_bind more (front_number 8 octets) (front_number 8 (octets ++ more)) _ (number_stays 8 octets more)
    (λ sub one. stays_bind more (front_number 1 one) (front_number 1 (one ++ more)) _ (number_stays 1 one more)
    (λ len two. stays_bind more (front_of len two) (front_of len (two ++ more)) _ (front_stays len two more) (λ name rest. tested_stays (Subscribe sub name) rest more (is_name name))))

either : {A : Type 0} (more : List ℕ) (b : Bool) (r s t u : Finding A) → Same more r s → Same more t u → Same more (cond b r t) (cond b s u)
either more true r s t u first second = first
either more false r s t u first second = second

kind_stays : (kind : ℕ) → Stays (entry_by kind)
unfolding entry_by
kind_stays kind octets more =
    either more (eqb kind 1) _ _ _ _ (numbered_stays Open octets more)
    (either more (eqb kind 2) _ _ _ _ (numbered_stays Close octets more)
    (either more (eqb kind 3) _ _ _ _ (message_stays octets more)
    (either more (eqb kind 4) _ _ _ _ (edit_stays octets more)
    (either more (eqb kind 5) _ _ _ _ (subscribe_stays octets more)
    (either more (eqb kind 6) _ _ _ _ (numbered_stays Unsubscribe octets more)
    (either more (eqb kind 7) _ _ _ _ (numbered_stays Advance octets more)
    (either more (eqb kind 8) _ _ _ _ (numbered_stays Cut octets more) (λ other. refl))))))))

entry_stays : Stays entry_of
unfolding entry_of
entry_stays octets more = stays_bind more (front_number 1 octets) (front_number 1 (octets ++ more)) _ (number_stays 1 octets more) (λ kind rest. kind_stays kind rest more)

-- octets that are an entry and nothing else are those by which it is written
pub read_alone : (held rest : List ℕ) (entry : Entry) → entry_of held ≡ Ok (entry, rest) → held ≡ octets_of entry ++ rest → rest ≡ [] → IsReadBack entry
read_alone held rest entry is whole none =
    let alone : octets_of entry ≡ held = sym (append-nil (octets_of entry)) ∙ ap (λ t. octets_of entry ++ t) (sym none) ∙ sym whole in
    λ more. rw alone (subst (λ r. Same more r (entry_of (held ++ more))) is (entry_stays held more) ∙ ap (λ t. Ok (entry, t ++ more)) none)

past_stays : (entry : Entry) (rest more : List ℕ) (b : Bool) → Same more (cond b (Err BadEntry) (Ok (entry, rest))) (cond b (Err BadEntry) (Ok (entry, rest ++ more)))
past_stays entry rest more true = λ other. refl
past_stays entry rest more false = refl

next_stays : (place : FilePlace) → Stays (next_entry_of place)
unfolding next_entry_of
next_stays place octets more = stays_bind more (entry_of octets) (entry_of (octets ++ more)) _ (entry_stays octets more) (λ entry rest. past_stays entry rest more (is_past place.count place.octets entry))

-- ---- faults alone

abbrev Faulty : {A : Type 0} → Fault → Result A Fault → Result A Fault → Type 0
Faulty why one two = one ≡ Err why → two ≡ Err why

from_same : {A : Type 0} (more : List ℕ) (why : Fault) (r s : Finding A) → (why ≡ Truncated → ⊥) → Same more r s → Faulty why r s
from_same more why (Ok x) s other same e = absurd cc
from_same {A} more why (Err k) s other same e =
    let k_is : k ≡ why = same_Err {A = A × List ℕ} k why e in
    let err : Fault → Finding A = λ t. Err t in
    same (λ t. other (sym k_is ∙ t)) ∙ ap err k_is

step_by : (place : FilePlace) (octets more : List ℕ) (why : Fault) (b : Bool) → (why ≡ Truncated → ⊥) → eqb place.left 0 ≡ b → Faulty why (entry_step place octets) (entry_step place (octets ++ more))
unfolding entry_step
step_by place octets more why true other none = rw none (end_by (eqb (length octets) 0) refl)
  where
    end_by : (b : Bool) → eqb (length octets) 0 ≡ b → Faulty {A = Option (Entry × List ℕ)} why (cond b (Ok None) (Err BadEntry)) (cond (eqb (length (octets ++ more)) 0) (Ok None) (Err BadEntry))
    end_by true is e = absurd cc
    end_by false is e = let some = eqb-false (length octets) 0 is in rw (ne_eqb (length (octets ++ more)) 0 (λ z. some (omega (arith, z, length-append octets more)))) e
step_by place octets more why false other some = rw some (next_by (next_entry_of place octets) (next_entry_of place (octets ++ more)) (next_stays place octets more))
  where
    next_by : (r s : Finding Entry) → Same more r s → Faulty {A = Option (Entry × List ℕ)} why (r >>= λ one. Ok (Some one)) (s >>= λ one. Ok (Some one))
    next_by (Ok x) s same e = absurd cc
    next_by (Err k) s same e =
        let k_is : k ≡ why = same_Err {A = Option (Entry × List ℕ)} k why e in
        rw (same (λ t. other (sym k_is ∙ t))) e

pub fault_stays : FaultStays
fault_stays place octets more why other e = step_by place octets more why (eqb place.left 0) other refl e

past_passed : (width n : ℕ) (fault : Fault) (octets more : List ℕ) → SameRest more (past_number width n fault octets) (past_number width n fault (octets ++ more))
unfolding past_number
past_passed width n fault octets more = by_number (front_number width octets) (front_number width (octets ++ more)) (number_stays width octets more)
  where
    tested : (x : ℕ) (rest : List ℕ) (b : Bool) → SameRest more (cond b (Ok rest) (Err fault)) (cond b (Ok (rest ++ more)) (Err fault))
    tested x rest true = refl
    tested x rest false = λ other. refl

    by_number : (r s : Finding ℕ) → Same more r s → SameRest more (r >>= λ x. cond (eqb x.0 n) (Ok x.1) (Err fault)) (s >>= λ x. cond (eqb x.0 n) (Ok x.1) (Err fault))
    by_number (Ok x) s same = rw same (tested x.0 x.1 (eqb x.0 n))
    by_number (Err k) s same = λ other. ap (λ t. t >>= λ x. cond (eqb x.0 n) (Ok x.1) (Err fault)) (same other)

rest_bind : {A : Type 0} (more : List ℕ) (r s : Result (List ℕ) Fault) (f : List ℕ → Finding A) → SameRest more r s → ((rest : List ℕ) → Same more (f rest) (f (rest ++ more))) → Same more (r >>= f) (s >>= f)
rest_bind more (Ok x) s f same next = rw same (next x)
rest_bind more (Err why) s f same next = λ other. ap (λ t. t >>= f) (same other)

head_same : Stays head_of
unfolding head_of
head_same octets more =
    rest_bind more (past_number 4 magic BadMagic octets) (past_number 4 magic BadMagic (octets ++ more)) _ (past_passed 4 magic BadMagic octets more)
    (λ one. rest_bind more (past_number 2 version BadVersion one) (past_number 2 version BadVersion (one ++ more)) _ (past_passed 2 version BadVersion one more) (λ two. number_stays 8 two more))

pub head_stays : HeadStays
head_stays octets more why other e = from_same more why (head_of octets) (head_of (octets ++ more)) other (head_same octets more) e
