-- What is read of a line, against the lines of the format.
use Rattle.std.proofs.Common.{◌≡◌, ◌⊎◌, ℕ, ◌^◌, ◌<◌, ◌≤◌, Bool, true, false, cond, codes, List, [], ◌∷◌, ◌++◌, Option, Some, None, Result, Ok, Err, refl, sym, ap, subst, ◌∙◌, arith, ⊎_elim, inl, inr, append-nil}
use Rattle.std.specs.List.{AllByRecursion}
use Rattle.std.specs.Result.{result_ok}
use Rattle.std.specs.Str.{bytes_eq}
use Rattle.std.specs.Fmt.{decimal}
use Rattle.std.proofs.lemmas.Bool.{ne_eqb}
use Rattle.std.proofs.lemmas.Option.{none-some, same_Some}
use Rattle.std.proofs.lemmas.Slice.Eq.{bytes_eq-Decides}
use Rattle.std.proofs.lemmas.List.Elements.{recursion_from_All}
use Rattle.hex.specs.Hex.{decode_of, decode_pairs, is_hex_digit}
use Rattle.hex.specs.declared.error.FromHexError.{FromHexError}
use Rattle.hex.proofs.HexLemmas.{decode_of-ok}
use Rattle.sequences.specs.Options.{◌>>=◌}
use Rattle.sequences.proofs.ListLaws.{Lacks}
use Rattle.sequences.proofs.OptionLaws.{bind_some}
use Rattle.replay_text.specs.declared.verb.Verb.{Verb}
use Rattle.replay_text.specs.declared.verb.Verb.TheVariants as verb
use Rattle.replay_text.specs.LineEnds.{with_line_ends}
use Rattle.replay_text.specs.Sayings.{Saying}
use Rattle.replay_text.specs.Sayings.Saying.{to_open, to_close, to_receive, to_edit, to_subscribe, to_unsubscribe, to_advance, to_pull, to_tell_status, to_drain_audit}
use Rattle.policy_text.specs.Words.{Word}
use Rattle.replay_text.specs.Words.{Left, next_word, next_number, last_number, last_word, end_of_line}
use Rattle.replay_text.specs.Lines.{greatest, verb_of, call_by, call_of, receive_behind, edit_behind, pull_behind}
use Rattle.replay_text.specs.Grammar.{words_text, IsNumberLine, IsReceiveLine, IsEditLine, IsSubscribeCall, IsPullLine, IsLineOf}
use Rattle.replay_text.proofs.SpaceLaws.{behind, IsNext, IsLast, IsLastWord, next_word-found, next_word-only, next_number-found, next_number-only, ended-found, ended-only, last_number-found, last_number-only, last_word-found, last_word-only, last_word-none}

-- ---- names

abbrev pub verb_text : Verb → List ℕ
verb_text verb.Open = codes "open"
verb_text verb.Close = codes "close"
verb_text verb.Receive = codes "receive"
verb_text verb.Edit = codes "edit"
verb_text verb.Subscribe = codes "subscribe"
verb_text verb.Unsubscribe = codes "unsubscribe"
verb_text verb.Advance = codes "advance"
verb_text verb.Pull = codes "pull"
verb_text verb.Status = codes "status"
verb_text verb.Audit = codes "audit"

-- the word is the name that is looked for first, or it is found among the others
named : (word name : List ℕ) (v x : Verb) (rest : Option Verb) (b : Bool) → bytes_eq word name ≡ b → cond b (Some v) rest ≡ Some x → ((word ≡ name) × (v ≡ x)) ⊎ (rest ≡ Some x)
named word name v x rest true is e = inl ((bytes_eq-Decides word name).0 is, same_Some v x e)
named word name v x rest false is e = inr e

is_named : (word name : List ℕ) (v x : Verb) → name ≡ verb_text v → (word ≡ name) × (v ≡ x) → word ≡ verb_text x
is_named word name v x text found = found.0 ∙ text ∙ ap verb_text found.1

verb_of-found : (word : List ℕ) (v : Verb) → verb_of word ≡ Some v → word ≡ verb_text v
unfolding verb_of
verb_of-found word v e =
    ⊎_elim (is_named word (codes "open") verb.Open v refl) (λ e1.
    ⊎_elim (is_named word (codes "close") verb.Close v refl) (λ e2.
    ⊎_elim (is_named word (codes "receive") verb.Receive v refl) (λ e3.
    ⊎_elim (is_named word (codes "edit") verb.Edit v refl) (λ e4.
    ⊎_elim (is_named word (codes "subscribe") verb.Subscribe v refl) (λ e5.
    ⊎_elim (is_named word (codes "unsubscribe") verb.Unsubscribe v refl) (λ e6.
    ⊎_elim (is_named word (codes "advance") verb.Advance v refl) (λ e7.
    ⊎_elim (is_named word (codes "pull") verb.Pull v refl) (λ e8.
    ⊎_elim (is_named word (codes "status") verb.Status v refl) (λ e9.
    ⊎_elim (is_named word (codes "audit") verb.Audit v refl) (λ e10. absurd (none-some v e10))
    (named word (codes "audit") verb.Audit v _ (bytes_eq word (codes "audit")) refl e9))
    (named word (codes "status") verb.Status v _ (bytes_eq word (codes "status")) refl e8))
    (named word (codes "pull") verb.Pull v _ (bytes_eq word (codes "pull")) refl e7))
    (named word (codes "advance") verb.Advance v _ (bytes_eq word (codes "advance")) refl e6))
    (named word (codes "unsubscribe") verb.Unsubscribe v _ (bytes_eq word (codes "unsubscribe")) refl e5))
    (named word (codes "subscribe") verb.Subscribe v _ (bytes_eq word (codes "subscribe")) refl e4))
    (named word (codes "edit") verb.Edit v _ (bytes_eq word (codes "edit")) refl e3))
    (named word (codes "receive") verb.Receive v _ (bytes_eq word (codes "receive")) refl e2))
    (named word (codes "close") verb.Close v _ (bytes_eq word (codes "close")) refl e1))
    (named word (codes "open") verb.Open v _ (bytes_eq word (codes "open")) refl e)

verb_of-only : (v : Verb) → verb_of (verb_text v) ≡ Some v
unfolding verb_of
verb_of-only verb.Open = refl
verb_of-only verb.Close = refl
verb_of-only verb.Receive = refl
verb_of-only verb.Edit = refl
verb_of-only verb.Subscribe = refl
verb_of-only verb.Unsubscribe = refl
verb_of-only verb.Advance = refl
verb_of-only verb.Pull = refl
verb_of-only verb.Status = refl
verb_of-only verb.Audit = refl

pub verb_lacks : (v : Verb) → Lacks 32 (verb_text v)
verb_lacks verb.Open = (refl, (refl, (refl, (refl, tt))))
verb_lacks verb.Close = (refl, (refl, (refl, (refl, (refl, tt)))))
verb_lacks verb.Receive = (refl, (refl, (refl, (refl, (refl, (refl, (refl, tt)))))))
verb_lacks verb.Edit = (refl, (refl, (refl, (refl, tt))))
verb_lacks verb.Subscribe = (refl, (refl, (refl, (refl, (refl, (refl, (refl, (refl, (refl, tt)))))))))
verb_lacks verb.Unsubscribe = (refl, (refl, (refl, (refl, (refl, (refl, (refl, (refl, (refl, (refl, (refl, tt)))))))))))
verb_lacks verb.Advance = (refl, (refl, (refl, (refl, (refl, (refl, (refl, tt)))))))
verb_lacks verb.Pull = (refl, (refl, (refl, (refl, tt))))
verb_lacks verb.Status = (refl, (refl, (refl, (refl, (refl, (refl, tt))))))
verb_lacks verb.Audit = (refl, (refl, (refl, (refl, (refl, tt)))))

-- a line that begins with a name
pub call_of-by : (v : Verb) (left : Left) → call_of (verb_text v ++ behind left) ≡ call_by v left
unfolding call_of
call_of-by v left =
    let word = next_word-only (verb_text v) left (verb_lacks v) in
    let name = verb_of-only v in
    rw (word, name) refl

-- what was read of a line: a name, and what stands behind it
pub record IsNamed (line : List ℕ) (said : Saying) : Type 0 where
  pub v : Verb
  pub left : Left
  pub line_is : line ≡ verb_text v ++ behind left
  pub read : call_by v left ≡ Some said

named_line : (line : List ℕ) (said : Saying) (word : Word × Left) (v : Verb) → next_word (Some line) ≡ Some word → verb_of word.0 ≡ Some v → call_by v word.1 ≡ Some said → IsNamed line said
named_line line said word v first name read =
    record { v = v; left = word.1; line_is = (next_word-found line word.0 word.1 first).0 ∙ ap (λ (w : List ℕ). w ++ behind word.1) (verb_of-found word.0 v name); read = read }

pub call_of-named : (line : List ℕ) (said : Saying) → call_of line ≡ Some said → IsNamed line said
unfolding call_of
call_of-named line said e =
    let word = bind_some (next_word (Some line)) _ said e in
    let v = bind_some (verb_of word.0.0) _ said word.2 in
    named_line line said word.0 v.0 word.1 v.1 v.2

-- ---- what is read is a line of the format

-- a name and one number
number_line : (name : Word) (most : ℕ) (left : Left) (f : ℕ → Saying) (said : Saying) → most < 2 ^ 64 → (last_number most left >>= λ n. Some (f n)) ≡ Some said
    → (n : ℕ) × (f n ≡ said) × IsNumberLine name most n (name ++ behind left)
number_line name most left f said small e =
    let n = bind_some (last_number most left) _ said e in
    let last = last_number-found most left n.0 small n.1 in
    (n.0, same_Some (f n.0) said n.2, record { bound = last.bound; text = ap (λ (l : Left). name ++ behind l) last.text })

by_number : (name : Word) (most : ℕ) (left : Left) (f : ℕ → Saying) (said : Saying) → most < 2 ^ 64 → ((n : ℕ) (line : List ℕ) → IsNumberLine name most n line → IsLineOf (f n) line)
    → (last_number most left >>= λ n. Some (f n)) ≡ Some said → IsLineOf said (name ++ behind left)
by_number name most left f said small line_of e =
    let found = number_line name most left f said small e in
    let P : Saying → Type 0 = λ s. IsLineOf s (name ++ behind left) in
    subst P found.1 (line_of found.0 (name ++ behind left) found.2)

open_found : (left : Left) (said : Saying) → (end_of_line left >>= λ done. Some to_open) ≡ Some said → IsLineOf said (codes "open" ++ behind left)
open_found left said e =
    let done = bind_some (end_of_line left) _ said e in
    let P : Saying → Type 0 = λ s. IsLineOf s (codes "open" ++ behind left) in
    subst P (same_Some to_open said done.2) (ap (λ (l : Left). codes "open" ++ behind l) (ended-found left done.0 done.1))

ok_from_some : (r : Result (List ℕ) FromHexError) (octets : List ℕ) → result_ok r ≡ Some octets → r ≡ Ok octets
ok_from_some (Ok xs) octets e = ap Ok (same_Some xs octets e)
ok_from_some (Err why) octets e = absurd (none-some octets e)

decode_none : decode_of [] ≡ Ok []
unfolding decode_pairs
decode_none = refl

same_Ok : (a b : List ℕ) → ◌≡◌ {A = Result (List ℕ) FromHexError} (Ok a) (Ok b) → a ≡ b
same_Ok a b e = cc

receive_text : (session number : ℕ) (octets digits : List ℕ) (left : Left) → IsLastWord left digits → decode_of digits ≡ Ok octets
    → ((octets ≡ []) × (codes "receive" ++ 32 ∷ (decimal session ++ 32 ∷ (decimal number ++ behind left)) ≡ words_text (codes "receive" ∷ decimal session ∷ decimal number ∷ [])))
    ⊎ ((word : Word) × (decode_of word ≡ Ok octets) × (codes "receive" ++ 32 ∷ (decimal session ++ 32 ∷ (decimal number ++ behind left)) ≡ words_text (codes "receive" ∷ decimal session ∷ decimal number ∷ word ∷ [])))
receive_text session number octets digits left (inl (end, empty)) decoded =
    inl (
      same_Ok octets [] (sym decoded ∙ ap decode_of empty ∙ decode_none),
      ap (λ (l : Left). codes "receive" ++ 32 ∷ (decimal session ++ 32 ∷ (decimal number ++ behind l))) end
          ∙ ap (λ (t : List ℕ). codes "receive" ++ 32 ∷ (decimal session ++ 32 ∷ t)) (append-nil (decimal number)),
    )
receive_text session number octets digits left (inr (word, is)) decoded =
    inr (digits, decoded, ap (λ (l : Left). codes "receive" ++ 32 ∷ (decimal session ++ 32 ∷ (decimal number ++ behind l))) is)

receive_line : (left : Left) (session number : ℕ × Left) (digits octets : List ℕ) → IsNext (greatest 64) left session.0 session.1 → IsNext (greatest 64) session.1 number.0 number.1 → IsLastWord number.1 digits → decode_of digits ≡ Ok octets
    → IsReceiveLine session.0 number.0 octets (codes "receive" ++ behind left)
receive_line left session number digits octets first second last decoded =
    let is : codes "receive" ++ behind left ≡ codes "receive" ++ 32 ∷ (decimal session.0 ++ 32 ∷ (decimal number.0 ++ behind number.1)) =
    ap (λ (l : Left). codes "receive" ++ behind l) first.text ∙ ap (λ (l : Left). codes "receive" ++ 32 ∷ (decimal session.0 ++ behind l)) second.text in
    let P : List ℕ → Type 0 = λ line. IsReceiveLine session.0 number.0 octets line in
    subst P (sym is) (record { session_bound = first.bound; number_bound = second.bound; text = receive_text session.0 number.0 octets digits number.1 last decoded })

receive_found : (left : Left) (said : Saying) → receive_behind left ≡ Some said → IsLineOf said (codes "receive" ++ behind left)
unfolding receive_behind
receive_found left said e =
    let session = bind_some (next_number (greatest 64) left) _ said e in
    let number = bind_some (next_number (greatest 64) session.0.1) _ said session.2 in
    let digits = bind_some (last_word number.0.1) _ said number.2 in
    let octets = bind_some (result_ok (decode_of digits.0)) _ said digits.2 in
    let P : Saying → Type 0 = λ s. IsLineOf s (codes "receive" ++ behind left) in
    subst P (same_Some (to_receive session.0.0 number.0.0 octets.0) said octets.2)
    (receive_line left session.0 number.0 digits.0 octets.0 (next_number-found (greatest 64) left session.0.0 session.0.1 (omega arith) session.1)
    (next_number-found (greatest 64) session.0.1 number.0.0 number.0.1 (omega arith) number.1) (last_word-found number.0.1 digits.0 digits.1) (ok_from_some (decode_of digits.0) octets.0 octets.1))

edit_found : (left : Left) (said : Saying) → edit_behind left ≡ Some said → IsLineOf said (codes "edit" ++ behind left)
unfolding edit_behind
edit_found None said e = absurd (none-some said e)
edit_found (Some text) said e =
    let P : Saying → Type 0 = λ s. IsLineOf s (codes "edit" ++ 32 ∷ text) in
    subst P (same_Some (to_edit (with_line_ends text)) said e) (text, refl, refl)

subscribe_line : (left : Left) (name : List ℕ) → IsLastWord left name → IsSubscribeCall name (codes "subscribe" ++ behind left)
subscribe_line left name (inl (end, empty)) = inl (empty, ap (λ (l : Left). codes "subscribe" ++ behind l) end)
subscribe_line left name (inr (word, is)) = inr (word, ap (λ (l : Left). codes "subscribe" ++ behind l) is)

subscribe_found : (left : Left) (said : Saying) → (last_word left >>= λ name. Some (to_subscribe name)) ≡ Some said → IsLineOf said (codes "subscribe" ++ behind left)
subscribe_found left said e =
    let name = bind_some (last_word left) _ said e in
    let P : Saying → Type 0 = λ s. IsLineOf s (codes "subscribe" ++ behind left) in
    subst P (same_Some (to_subscribe name.0) said name.2) (subscribe_line left name.0 (last_word-found left name.0 name.1))

pull_line : (left : Left) (sub now : ℕ × Left) (target : ℕ) → IsNext (greatest 64) left sub.0 sub.1 → IsNext (greatest 32) sub.1 now.0 now.1 → IsLast (greatest 16) now.1 target
    → IsPullLine sub.0 now.0 target (codes "pull" ++ behind left)
pull_line left sub now target first second last = record {
  sub_bound = first.bound;
  now_bound = second.bound;
  target_bound = last.bound;
  text = ap (λ (l : Left). codes "pull" ++ behind l) first.text ∙ ap (λ (l : Left). codes "pull" ++ 32 ∷ (decimal sub.0 ++ behind l)) second.text
      ∙ ap (λ (l : Left). codes "pull" ++ 32 ∷ (decimal sub.0 ++ 32 ∷ (decimal now.0 ++ behind l))) last.text;
}

pull_found : (left : Left) (said : Saying) → pull_behind left ≡ Some said → IsLineOf said (codes "pull" ++ behind left)
unfolding pull_behind
pull_found left said e =
    let sub = bind_some (next_number (greatest 64) left) _ said e in
    let now = bind_some (next_number (greatest 32) sub.0.1) _ said sub.2 in
    let target = bind_some (last_number (greatest 16) now.0.1) _ said now.2 in
    let P : Saying → Type 0 = λ s. IsLineOf s (codes "pull" ++ behind left) in
    subst P (same_Some (to_pull sub.0.0 now.0.0 target.0) said target.2)
    (pull_line left sub.0 now.0 target.0 (next_number-found (greatest 64) left sub.0.0 sub.0.1 (omega arith) sub.1)
    (next_number-found (greatest 32) sub.0.1 now.0.0 now.0.1 (omega arith) now.1) (last_number-found (greatest 16) now.0.1 target.0 (omega arith) target.1))

call_by-found : (v : Verb) (left : Left) (said : Saying) → call_by v left ≡ Some said → IsLineOf said (verb_text v ++ behind left)
unfolding call_by
call_by-found verb.Open left said e = open_found left said e
call_by-found verb.Close left said e = by_number (codes "close") (greatest 64) left (λ n. to_close n) said (omega arith) (λ n line is. is) e
call_by-found verb.Receive left said e = receive_found left said e
call_by-found verb.Edit left said e = edit_found left said e
call_by-found verb.Subscribe left said e = subscribe_found left said e
call_by-found verb.Unsubscribe left said e = by_number (codes "unsubscribe") (greatest 64) left (λ n. to_unsubscribe n) said (omega arith) (λ n line is. is) e
call_by-found verb.Advance left said e = by_number (codes "advance") (greatest 64) left (λ n. to_advance n) said (omega arith) (λ n line is. is) e
call_by-found verb.Pull left said e = pull_found left said e
call_by-found verb.Status left said e = by_number (codes "status") (greatest 64) left (λ n. to_tell_status n) said (omega arith) (λ n line is. is) e
call_by-found verb.Audit left said e = by_number (codes "audit") (greatest 32) left (λ n. to_drain_audit n) said (omega arith) (λ n line is. is) e

pub call_of-found : (line : List ℕ) (said : Saying) → call_of line ≡ Some said → IsLineOf said line
call_of-found line said e =
    let found = call_of-named line said e in
    subst (IsLineOf said) (sym found.line_is) (call_by-found found.v found.left said found.read)

-- ---- a line of the format is read

-- the line with a name in front is read behind the name
by_name : (v : Verb) (left : Left) (line : List ℕ) (said : Saying) → line ≡ verb_text v ++ behind left → call_by v left ≡ Some said → call_of line ≡ Some said
by_name v left line said is read = ap call_of is ∙ call_of-by v left ∙ read

number_only : (v : Verb) (most n : ℕ) (line : List ℕ) (f : ℕ → Saying) → most < 2 ^ 64 → ((left : Left) → call_by v left ≡ (last_number most left >>= λ m. Some (f m))) → IsNumberLine (verb_text v) most n line → call_of line ≡ Some (f n)
number_only v most n line f small reads is =
    let last = last_number-only most n small is.bound in
    by_name v (Some (decimal n)) line (f n) is.text (reads (Some (decimal n)) ∙ ap (λ o. o >>= λ m. Some (f m)) last)

open_only : call_by verb.Open None ≡ Some to_open
unfolding call_by
open_only = let end = ended-only in rw end refl

reads_close : (left : Left) → call_by verb.Close left ≡ (last_number (greatest 64) left >>= λ m. Some (to_close m))
unfolding call_by
reads_close left = refl

reads_unsubscribe : (left : Left) → call_by verb.Unsubscribe left ≡ (last_number (greatest 64) left >>= λ m. Some (to_unsubscribe m))
unfolding call_by
reads_unsubscribe left = refl

reads_advance : (left : Left) → call_by verb.Advance left ≡ (last_number (greatest 64) left >>= λ m. Some (to_advance m))
unfolding call_by
reads_advance left = refl

reads_status : (left : Left) → call_by verb.Status left ≡ (last_number (greatest 64) left >>= λ m. Some (to_tell_status m))
unfolding call_by
reads_status left = refl

reads_audit : (left : Left) → call_by verb.Audit left ≡ (last_number (greatest 32) left >>= λ m. Some (to_drain_audit m))
unfolding call_by
reads_audit left = refl

receive_read : (session number : ℕ) (octets digits : List ℕ) (left : Left) → session ≤ greatest 64 → number ≤ greatest 64 → last_word left ≡ Some digits → decode_of digits ≡ Ok octets
    → call_by verb.Receive (Some (decimal session ++ behind (Some (decimal number ++ behind left)))) ≡ Some (to_receive session number octets)
unfolding call_by receive_behind
receive_read session number octets digits left a b last decoded =
    let first = next_number-only (greatest 64) session (Some (decimal number ++ behind left)) (omega arith) a in
    let second = next_number-only (greatest 64) number left (omega arith) b in
    rw (first, second, last, decoded) refl

lacks_digits : (digits : List ℕ) → AllByRecursion (λ c. is_hex_digit c ≡ true) digits → Lacks 32 digits
lacks_digits [] h = tt
lacks_digits (c ∷ cs) h = (ne_eqb c 32 (λ e. let other : is_hex_digit c ≡ false = ap is_hex_digit e in let bad : true ≡ false = sym h.0 ∙ other in cc), lacks_digits cs h.1)

receive_only : (session number : ℕ) (octets line : List ℕ) → IsReceiveLine session number octets line → call_of line ≡ Some (to_receive session number octets)
receive_only session number octets line is =
    ⊎_elim (λ (h : (octets ≡ []) × (line ≡ words_text (codes "receive" ∷ decimal session ∷ decimal number ∷ []))).
    by_name verb.Receive (Some (decimal session ++ behind (Some (decimal number ++ behind None)))) line (to_receive session number octets)
    (h.1 ∙ ap (λ (t : List ℕ). codes "receive" ++ 32 ∷ (decimal session ++ 32 ∷ t)) (sym (append-nil (decimal number))))
    (receive_read session number octets [] None is.session_bound is.number_bound last_word-none (decode_none ∙ ap Ok (sym h.0))))
    (λ (h : (digits : Word) × (decode_of digits ≡ Ok octets) × (line ≡ words_text (codes "receive" ∷ decimal session ∷ decimal number ∷ digits ∷ []))).
    let lacks = lacks_digits h.0 (recursion_from_All (λ c. is_hex_digit c ≡ true) h.0 (decode_of-ok h.0 octets h.1).1) in
    by_name verb.Receive (Some (decimal session ++ behind (Some (decimal number ++ behind (Some h.0))))) line (to_receive session number octets) h.2
    (receive_read session number octets h.0 (Some h.0) is.session_bound is.number_bound (last_word-only h.0 lacks) h.1))
    is.text

edit_read : (written : List ℕ) → call_by verb.Edit (Some written) ≡ Some (to_edit (with_line_ends written))
unfolding call_by edit_behind
edit_read written = refl

edit_only : (text line : List ℕ) → IsEditLine text line → call_of line ≡ Some (to_edit text)
edit_only text line is = by_name verb.Edit (Some is.0) line (to_edit text) is.2 (edit_read is.0 ∙ ap (λ (t : List ℕ). Some (to_edit t)) (sym is.1))

subscribe_read : (left : Left) (name : List ℕ) → last_word left ≡ Some name → call_by verb.Subscribe left ≡ Some (to_subscribe name)
unfolding call_by
subscribe_read left name last = rw last refl

subscribe_only : (name line : List ℕ) → IsSubscribeCall name line → call_of line ≡ Some (to_subscribe name)
subscribe_only name line (inl (empty, is)) = by_name verb.Subscribe None line (to_subscribe name) is (subscribe_read None name (last_word-none ∙ ap Some (sym empty)))
subscribe_only name line (inr (word, is)) = by_name verb.Subscribe (Some name) line (to_subscribe name) is (subscribe_read (Some name) name (last_word-only name word))

pull_read : (sub now target : ℕ) → sub ≤ greatest 64 → now ≤ greatest 32 → target ≤ greatest 16
    → call_by verb.Pull (Some (decimal sub ++ behind (Some (decimal now ++ behind (Some (decimal target)))))) ≡ Some (to_pull sub now target)
unfolding call_by pull_behind
pull_read sub now target a b d =
    let first = next_number-only (greatest 64) sub (Some (decimal now ++ behind (Some (decimal target)))) (omega arith) a in
    let second = next_number-only (greatest 32) now (Some (decimal target)) (omega arith) b in
    let last = last_number-only (greatest 16) target (omega arith) d in
    rw (first, second, last) refl

pub call_of-only : (said : Saying) (line : List ℕ) → IsLineOf said line → call_of line ≡ Some said
call_of-only to_open line is = by_name verb.Open None line to_open is open_only
call_of-only (to_close session) line is = number_only verb.Close (greatest 64) session line (λ n. to_close n) (omega arith) reads_close is
call_of-only (to_receive session number octets) line is = receive_only session number octets line is
call_of-only (to_edit text) line is = edit_only text line is
call_of-only (to_subscribe name) line is = subscribe_only name line is
call_of-only (to_unsubscribe sub) line is = number_only verb.Unsubscribe (greatest 64) sub line (λ n. to_unsubscribe n) (omega arith) reads_unsubscribe is
call_of-only (to_advance t) line is = number_only verb.Advance (greatest 64) t line (λ n. to_advance n) (omega arith) reads_advance is
call_of-only (to_pull sub now target) line is =
    by_name verb.Pull (Some (decimal sub ++ behind (Some (decimal now ++ behind (Some (decimal target)))))) line (to_pull sub now target) is.text (pull_read sub now target is.sub_bound is.now_bound is.target_bound)
call_of-only (to_tell_status sub) line is = number_only verb.Status (greatest 64) sub line (λ n. to_tell_status n) (omega arith) reads_status is
call_of-only (to_drain_audit most) line is = number_only verb.Audit (greatest 32) most line (λ n. to_drain_audit n) (omega arith) reads_audit is
