-- An entry that is written is read as itself, whatever follows.
use Rattle.std.proofs.Common.{◌≡◌, ℕ, false, true, ltb, List, [], ◌∷◌, ◌++◌, length, Ok, refl, ap, ◌∙◌, append_assoc, length-append, arith}
use Rattle.std.specs.Str.{is_utf8}
use Rattle.std.proofs.lemmas.Bool.{le-ltb}
use Rattle.std.proofs.lemmas.List.{take_at, drop_at}
use Rattle.sequences.specs.Octets.{be_octets, IsNumberIn}
use Rattle.policy_text.specs.Naming.{is_name}
use Rattle.event_journal.specs.declared.entry.Entry.{Entry}
use Rattle.event_journal.specs.declared.entry.Entry.TheVariants.{Open, Close, Message, Edit, Subscribe, Unsubscribe, Advance, Cut}
use Rattle.journal_files.specs.Reading.{Finding, front_of, front_number, numbered_entry, message_of, edit_of, subscribe_of, entry_by, entry_of}
use Rattle.journal_files.specs.Laws.{EntryReadBack}
use Rattle.journal_files.proofs.NumberLaws.{written_number}
use Rattle.journal_files.proofs.TextLaws.{is_text, name_short}

abbrev pub found : {A : Type 0} → A → List ℕ → Finding A
found x rest = Ok (x, rest)

pub front_read : (n : ℕ) (a rest : List ℕ) → length a ≡ n → front_of n (a ++ rest) ≡ found a rest
unfolding front_of
front_read n a rest wide =
    let long : ltb (length (a ++ rest)) n ≡ false = le-ltb _ _ (omega (arith, length-append a rest, wide)) in
    rw (long, take_at a rest n wide, drop_at a rest n wide) refl

pub number_read : (width n : ℕ) (a rest : List ℕ) → IsNumberIn width a n → front_number width (a ++ rest) ≡ found n rest
unfolding front_number
number_read width n a rest is = rw (front_read width a rest is.wide, is.value) refl

one_octet : (n : ℕ) → IsNumberIn 1 (n ∷ []) n
one_octet n = record { wide = refl; value = omega arith }

pub kind_read : (kind : ℕ) (rest : List ℕ) → entry_of (kind ∷ rest) ≡ entry_by kind rest
unfolding entry_of
kind_read kind rest = rw (number_read 1 kind (kind ∷ []) rest (one_octet kind)) refl

numbered_read : (entry : ℕ → Entry) (n : ℕ) (a rest : List ℕ) → IsNumberIn 8 a n → numbered_entry entry (a ++ rest) ≡ found (entry n) rest
unfolding numbered_entry
numbered_read entry n a rest is = rw (number_read 8 n a rest is) refl

message_read : (session number : ℕ) (a b c message rest : List ℕ) → IsNumberIn 8 a session → IsNumberIn 8 b number → IsNumberIn 4 c (length message)
    → message_of ((a ++ (b ++ (c ++ message))) ++ rest) ≡ found (Message session number message) rest
unfolding message_of
message_read session number a b c message rest is-a is-b is-c =
    let after_c = append_assoc c message rest in
    let after_b = append_assoc b (c ++ message) rest ∙ ap (λ (t : List ℕ). b ++ t) after_c in
    let after_a : (a ++ (b ++ (c ++ message))) ++ rest ≡ a ++ (b ++ (c ++ (message ++ rest))) = append_assoc a (b ++ (c ++ message)) rest ∙ ap (λ (t : List ℕ). a ++ t) after_b in
    rw (after_a, number_read 8 session a (b ++ (c ++ (message ++ rest))) is-a, number_read 8 number b (c ++ (message ++ rest)) is-b, number_read 4 (length message) c (message ++ rest) is-c, front_read (length message) message rest refl) refl

edit_read : (a text rest : List ℕ) → IsNumberIn 8 a (length text) → is_utf8 text ≡ true → edit_of ((a ++ text) ++ rest) ≡ found (Edit text) rest
unfolding edit_of
edit_read a text rest is-a is = rw (append_assoc a text rest, number_read 8 (length text) a (text ++ rest) is-a, front_read (length text) text rest refl, is) refl

subscribe_read : (sub : ℕ) (a b name rest : List ℕ) → IsNumberIn 8 a sub → IsNumberIn 1 b (length name) → is_name name ≡ true
    → subscribe_of ((a ++ (b ++ name)) ++ rest) ≡ found (Subscribe sub name) rest
unfolding subscribe_of
subscribe_read sub a b name rest is-a is-b is =
    let after_a : (a ++ (b ++ name)) ++ rest ≡ a ++ (b ++ (name ++ rest)) = append_assoc a (b ++ name) rest ∙ ap (λ (t : List ℕ). a ++ t) (append_assoc b name rest) in
    rw (after_a, number_read 8 sub a (b ++ (name ++ rest)) is-a, number_read 1 (length name) b (name ++ rest) is-b, front_read (length name) name rest refl, is) refl

pub entry_read_back : EntryReadBack
unfolding entry_by
entry_read_back (Open session) rest w = kind_read 1 (be_octets 8 session ++ rest) ∙ numbered_read Open session (be_octets 8 session) rest (written_number 8 session w)
entry_read_back (Close session) rest w = kind_read 2 (be_octets 8 session ++ rest) ∙ numbered_read Close session (be_octets 8 session) rest (written_number 8 session w)
entry_read_back (Message session number octets) rest w =
    kind_read 3 ((be_octets 8 session ++ (be_octets 8 number ++ (be_octets 4 (length octets) ++ octets))) ++ rest)
    ∙ message_read session number (be_octets 8 session) (be_octets 8 number) (be_octets 4 (length octets)) octets rest (written_number 8 session w.0) (written_number 8 number w.1) (written_number 4 (length octets) w.2)
entry_read_back (Edit text) rest w =
    kind_read 4 ((be_octets 8 (length text) ++ text) ++ rest) ∙ edit_read (be_octets 8 (length text)) text rest (written_number 8 (length text) w.0) (is_text text w.1)
entry_read_back (Subscribe sub name) rest w =
    kind_read 5 ((be_octets 8 sub ++ (be_octets 1 (length name) ++ name)) ++ rest)
    ∙ subscribe_read sub (be_octets 8 sub) (be_octets 1 (length name)) name rest (written_number 8 sub w.0) (written_number 1 (length name) (let short = name_short name w.1 in omega arith)) w.1
entry_read_back (Unsubscribe sub) rest w = kind_read 6 (be_octets 8 sub ++ rest) ∙ numbered_read Unsubscribe sub (be_octets 8 sub) rest (written_number 8 sub w)
entry_read_back (Advance t) rest w = kind_read 7 (be_octets 8 t ++ rest) ∙ numbered_read Advance t (be_octets 8 t) rest (written_number 8 t w)
entry_read_back (Cut sub) rest w = kind_read 8 (be_octets 8 sub ++ rest) ∙ numbered_read Cut sub (be_octets 8 sub) rest (written_number 8 sub w)
