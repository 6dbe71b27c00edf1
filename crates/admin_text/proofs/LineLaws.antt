-- What is read of a line, against the lines of the format.
use Rattle.std.proofs.Common.{◌≡◌, ◌⊎◌, ℕ, ◌^◌, ◌<◌, ◌≤◌, Bool, true, false, cond, codes, eqb, ltb, not, List, ◌∷◌, ◌++◌, length, Option, Some, None, Result, Ok, Err, refl, sym, ap, subst, ◌∙◌, arith, ⊎_elim, inl, inr}
use Rattle.std.specs.Prelude.{IfOk, IfErr, IfSome}
use Rattle.std.specs.Option.{option_map}
use Rattle.std.specs.List.{list_all}
use Rattle.std.specs.Str.{bytes_eq}
use Rattle.std.specs.Fmt.{decimal}
use Rattle.std.proofs.lemmas.Bool.{and_parts, eqb-false, ltb-true, ltb-false, lt-ltb, le-ltb, ne_eqb}
use Rattle.std.proofs.lemmas.Option.{cond_some, none-some, same_Some}
use Rattle.std.proofs.lemmas.Slice.Eq.{bytes_eq-Decides}
use Rattle.sequences.specs.Options.{◌>>=◌}
use Rattle.sequences.proofs.ListLaws.{Lacks}
use Rattle.sequences.proofs.OptionLaws.{bind_some}
use Rattle.numerals.specs.Numerals.{number_of}
use Rattle.numerals.proofs.NumeralLaws.{number_of-found, number_of-only}
use Rattle.flow_prefix.specs.Reading.{cut_at}
use Rattle.flow_prefix.proofs.CutLaws.{cut_at-middle, cut_at-text}
use Rattle.replay_text.specs.Grammar.{IsNumberLine}
use Rattle.replay_text.specs.Lines.{greatest}
use Rattle.admin_text.specs.declared.command.Command.{Command}
use Rattle.admin_text.specs.Sayings.{AdminSaying, admin_saying}
use Rattle.admin_text.specs.Sayings.AdminSaying.{to_edit, to_subscribe, to_unsubscribe, to_advance, to_tell_status, to_drain_audit, to_tell, to_stop}
use Rattle.admin_text.specs.declared.command.Topic.{Topic}
use Rattle.admin_text.specs.declared.command.Topic.TheVariants as topic
use Rattle.admin_text.specs.Grammar.{longest_line, longest_policy, most_audit_entries, topic_word, IsSubscribeLine, AsksFor, IsCommandLine, IsNamingLine}
use Rattle.admin_text.specs.Reading.{is_one_word, asks_edit, asks_subscribe, asks_unsubscribe, asks_advance, asks_status, asks_audit, some_entries, command_alone, command_in, command_by, command_of, NamesSubscriber}
use Rattle.admin_text.proofs.ArgumentLaws.{lacks_from_test, test_from_lacks}

-- a name, a space and an argument
abbrev line_of : List ℕ → List ℕ → List ℕ
line_of name argument = name ++ 32 ∷ argument

-- ---- what is read is a line of the format

number_line : (name : List ℕ) (most n : ℕ) (argument : List ℕ) → most < 2 ^ 64 → number_of most argument ≡ Some n → IsNumberLine name most n (line_of name argument)
number_line name most n argument small e =
    let number = number_of-found most argument n small e in
    record { bound = number.bound; text = ap (line_of name) number.text }

-- a command with one number
by_number : (name : List ℕ) (most : ℕ) (argument : List ℕ) (f : ℕ → AdminSaying) (said : AdminSaying) → most < 2 ^ 64 → ((n : ℕ) (line : List ℕ) → IsNumberLine name most n line → AsksFor (f n) line)
    → (number_of most argument >>= λ n. Some (f n)) ≡ Some said → AsksFor said (line_of name argument)
by_number name most argument f said small asks e =
    let n = bind_some (number_of most argument) _ said e in
    let P : AdminSaying → Type 0 = λ s. AsksFor s (line_of name argument) in
    subst P (same_Some (f n.0) said n.2) (asks n.0 (line_of name argument) (number_line name most n.0 argument small n.1))

edit_found : (argument : List ℕ) (said : AdminSaying) → asks_edit argument ≡ Some said → AsksFor said (line_of (codes "edit") argument)
unfolding asks_edit
edit_found argument said e = by_number (codes "edit") longest_policy argument (λ n. to_edit n) said (omega arith) (λ n line is. is) e

unsubscribe_found : (argument : List ℕ) (said : AdminSaying) → asks_unsubscribe argument ≡ Some said → AsksFor said (line_of (codes "unsubscribe") argument)
unfolding asks_unsubscribe
unsubscribe_found argument said e = by_number (codes "unsubscribe") (greatest 64) argument (λ n. to_unsubscribe n) said (omega arith) (λ n line is. is) e

advance_found : (argument : List ℕ) (said : AdminSaying) → asks_advance argument ≡ Some said → AsksFor said (line_of (codes "advance") argument)
unfolding asks_advance
advance_found argument said e = by_number (codes "advance") (greatest 64) argument (λ n. to_advance n) said (omega arith) (λ n line is. is) e

status_found : (argument : List ℕ) (said : AdminSaying) → asks_status argument ≡ Some said → AsksFor said (line_of (codes "status") argument)
unfolding asks_status
status_found argument said e = by_number (codes "status") (greatest 64) argument (λ n. to_tell_status n) said (omega arith) (λ n line is. is) e

subscribe_line : (argument : List ℕ) → is_one_word argument ≡ true → IsSubscribeLine argument (line_of (codes "subscribe") argument)
subscribe_line argument h =
    let both = and_parts (ltb 0 (length argument)) (list_all (λ c. not (eqb c 32)) argument) h in
    record { begun = ltb-true 0 (length argument) both.0; word = lacks_from_test argument both.1; text = refl }

subscribe_found : (argument : List ℕ) (said : AdminSaying) → asks_subscribe argument ≡ Some said → AsksFor said (line_of (codes "subscribe") argument)
unfolding asks_subscribe
subscribe_found argument said e =
    let found = cond_some (is_one_word argument) (to_subscribe argument) said e in
    let P : AdminSaying → Type 0 = λ s. AsksFor s (line_of (codes "subscribe") argument) in
    subst P found.1 (subscribe_line argument found.0)

audit_line : (argument : List ℕ) (most : ℕ) (said : AdminSaying) (none : Bool) → number_of most_audit_entries argument ≡ Some most → eqb most 0 ≡ none
    → cond none None (Some (to_drain_audit most)) ≡ Some said → AsksFor said (line_of (codes "audit") argument)
audit_line argument most said true read none e = absurd (none-some said e)
audit_line argument most said false read none e =
    let other = eqb-false most 0 none in
    let P : AdminSaying → Type 0 = λ s. AsksFor s (line_of (codes "audit") argument) in
    subst P (same_Some (to_drain_audit most) said e)
    (record { begun = omega (arith, other); number = number_line (codes "audit") most_audit_entries most argument (omega arith) read })

audit_found : (argument : List ℕ) (said : AdminSaying) → asks_audit argument ≡ Some said → AsksFor said (line_of (codes "audit") argument)
unfolding asks_audit
audit_found argument said e =
    let most = bind_some (number_of most_audit_entries argument) some_entries said e in
    audit_line argument most.0 said (eqb most.0 0) most.1 refl most.2

-- the word is the name that is looked for first, or it is found among the others
named : (word name : List ℕ) (read others : Option AdminSaying) (said : AdminSaying) (b : Bool) → bytes_eq word name ≡ b → cond b read others ≡ Some said → ((word ≡ name) × (read ≡ Some said)) ⊎ (others ≡ Some said)
named word name read others said true is e = inl ((bytes_eq-Decides word name).0 is, e)
named word name read others said false is e = inr e

asked : (word name argument : List ℕ) (read : Option AdminSaying) (said : AdminSaying) → (read ≡ Some said → AsksFor said (line_of name argument)) → (word ≡ name) × (read ≡ Some said) → AsksFor said (line_of word argument)
asked word name argument read said found is =
    let P : List ℕ → Type 0 = λ w. AsksFor said (line_of w argument) in
    subst P (sym is.0) (found is.1)

command_by-found : (word argument : List ℕ) (said : AdminSaying) → command_by word argument ≡ Some said → AsksFor said (line_of word argument)
unfolding command_by
command_by-found word argument said e =
    ⊎_elim (asked word (codes "edit") argument (asks_edit argument) said (edit_found argument said)) (λ e1.
    ⊎_elim (asked word (codes "subscribe") argument (asks_subscribe argument) said (subscribe_found argument said)) (λ e2.
    ⊎_elim (asked word (codes "unsubscribe") argument (asks_unsubscribe argument) said (unsubscribe_found argument said)) (λ e3.
    ⊎_elim (asked word (codes "advance") argument (asks_advance argument) said (advance_found argument said)) (λ e4.
    ⊎_elim (asked word (codes "status") argument (asks_status argument) said (status_found argument said)) (λ e5.
    ⊎_elim (asked word (codes "audit") argument (asks_audit argument) said (audit_found argument said)) (λ e6. absurd (none-some said e6))
    (named word (codes "audit") (asks_audit argument) _ said (bytes_eq word (codes "audit")) refl e5))
    (named word (codes "status") (asks_status argument) _ said (bytes_eq word (codes "status")) refl e4))
    (named word (codes "advance") (asks_advance argument) _ said (bytes_eq word (codes "advance")) refl e3))
    (named word (codes "unsubscribe") (asks_unsubscribe argument) _ said (bytes_eq word (codes "unsubscribe")) refl e2))
    (named word (codes "subscribe") (asks_subscribe argument) _ said (bytes_eq word (codes "subscribe")) refl e1))
    (named word (codes "edit") (asks_edit argument) _ said (bytes_eq word (codes "edit")) refl e)

words_found : (line : List ℕ) (said : AdminSaying) (words : List ℕ × List ℕ) → cut_at 32 line ≡ Some words → command_by words.0 words.1 ≡ Some said → AsksFor said line
words_found line said words cut e =
    let P : List ℕ → Type 0 = λ l. AsksFor said l in
    subst P (sym (cut_at-text 32 line words.0 words.1 cut)) (command_by-found words.0 words.1 said e)

alone_found : (line : List ℕ) (said : AdminSaying) → command_alone line ≡ Some said → AsksFor said line
unfolding command_alone
alone_found line said e = by_word (codes "status") (to_tell topic.Subscriptions) (λ is. is)
    (λ e. by_word (codes "run") (to_tell topic.Run) (λ is. is)
    (λ e. by_word (codes "policy") (to_tell topic.Policy) (λ is. is)
    (λ e. by_word (codes "help") (to_tell topic.Help) (λ is. is)
    (λ e. by_word (codes "stop") to_stop (λ is. is) (λ e. absurd (none-some said e)) e) e) e) e) e
  where
    chosen : (word : List ℕ) (read : AdminSaying) (rest : Option AdminSaying) (b : Bool) → bytes_eq line word ≡ b → (line ≡ word → AsksFor read line) → (rest ≡ Some said → AsksFor said line)
        → cond b (Some read) rest ≡ Some said → AsksFor said line
    chosen word read rest true is asks other e =
        let P : AdminSaying → Type 0 = λ s. AsksFor s line in
        subst P (same_Some read said e) (asks ((bytes_eq-Decides line word).0 is))
    chosen word read rest false is asks other e = other e

    by_word : (word : List ℕ) (read : AdminSaying) {rest : Option AdminSaying} → (line ≡ word → AsksFor read line) → (rest ≡ Some said → AsksFor said line) → cond (bytes_eq line word) (Some read) rest ≡ Some said → AsksFor said line
    by_word word read {rest} asks other e = chosen word read rest (bytes_eq line word) refl asks other e

found_in : (line : List ℕ) (said : AdminSaying) (words : Option (List ℕ × List ℕ)) → cut_at 32 line ≡ words → command_in line words ≡ Some said → AsksFor said line
found_in line said None cut e = alone_found line said e
found_in line said (Some words) cut e = words_found line said words cut e

line_found : (line : List ℕ) (said : AdminSaying) (long : Bool) → ltb longest_line (length line) ≡ long → cond long None (command_in line (cut_at 32 line)) ≡ Some said → IsCommandLine said line
line_found line said true is e = absurd (none-some said e)
line_found line said false is e =
    let within = ltb-false longest_line (length line) is in
    record { fits = omega (arith, within); asks = found_in line said (cut_at 32 line) refl e }

pub command_of-found : (line : List ℕ) (said : AdminSaying) → command_of line ≡ Some said → IsCommandLine said line
unfolding command_of
command_of-found line said e = line_found line said (ltb longest_line (length line)) refl e

-- ---- a line of the format is read

-- a line that fits is read by its name
line_by : (name argument line : List ℕ) → Lacks 32 name → line ≡ line_of name argument → length line ≤ longest_line → command_of line ≡ command_by name argument
unfolding command_of
line_by name argument line lacks is fits =
    let within = le-ltb longest_line (length line) fits in
    let words = ap (cut_at 32) is ∙ cut_at-middle 32 name argument lacks in
    rw (within, words) refl

number_read : (most n : ℕ) (f : ℕ → AdminSaying) → most < 2 ^ 64 → n ≤ most → (number_of most (decimal n) >>= λ m. Some (f m)) ≡ Some (f n)
number_read most n f small bound =
    let value = number_of-only most (decimal n) n small (record { bound = bound; text = refl }) in
    rw value refl

edit_read : (n : ℕ) → n ≤ longest_policy → command_by (codes "edit") (decimal n) ≡ Some (to_edit n)
unfolding command_by asks_edit
edit_read n bound = number_read longest_policy n (λ m. to_edit m) (omega arith) bound

unsubscribe_read : (n : ℕ) → n ≤ greatest 64 → command_by (codes "unsubscribe") (decimal n) ≡ Some (to_unsubscribe n)
unfolding command_by asks_unsubscribe
unsubscribe_read n bound = number_read (greatest 64) n (λ m. to_unsubscribe m) (omega arith) bound

advance_read : (n : ℕ) → n ≤ greatest 64 → command_by (codes "advance") (decimal n) ≡ Some (to_advance n)
unfolding command_by asks_advance
advance_read n bound = number_read (greatest 64) n (λ m. to_advance m) (omega arith) bound

status_read : (n : ℕ) → n ≤ greatest 64 → command_by (codes "status") (decimal n) ≡ Some (to_tell_status n)
unfolding command_by asks_status
status_read n bound = number_read (greatest 64) n (λ m. to_tell_status m) (omega arith) bound

audit_read : (n : ℕ) → 1 ≤ n → n ≤ most_audit_entries → command_by (codes "audit") (decimal n) ≡ Some (to_drain_audit n)
unfolding command_by asks_audit
audit_read n begun bound =
    let value = number_of-only most_audit_entries (decimal n) n (omega arith) (record { bound = bound; text = refl }) in
    let some = ne_eqb n 0 (λ e. omega (arith, begun, e)) in
    rw (value, some) refl

subscribe_read : (name : List ℕ) → 0 < length name → Lacks 32 name → command_by (codes "subscribe") name ≡ Some (to_subscribe name)
unfolding command_by asks_subscribe
subscribe_read name begun lacks =
    let some = lt-ltb 0 (length name) begun in
    let word = test_from_lacks name lacks in
    rw (some, word) refl

stop_read : (line : List ℕ) → line ≡ codes "stop" → command_of line ≡ Some to_stop
unfolding command_of command_alone cut_at
stop_read line is = rw is refl

topic_read : (about : Topic) (line : List ℕ) → line ≡ topic_word about → command_of line ≡ Some (to_tell about)
unfolding command_of command_alone cut_at
topic_read topic.Subscriptions line is = rw is refl
topic_read topic.Run line is = rw is refl
topic_read topic.Policy line is = rw is refl
topic_read topic.Help line is = rw is refl

-- a line of a name and an argument, which is read by the name
named_read : (name argument line : List ℕ) (said : AdminSaying) → Lacks 32 name → line ≡ line_of name argument → length line ≤ longest_line → command_by name argument ≡ Some said → command_of line ≡ Some said
named_read name argument line said lacks is fits read = line_by name argument line lacks is fits ∙ read

asked_read : (said : AdminSaying) (line : List ℕ) → length line ≤ longest_line → AsksFor said line → command_of line ≡ Some said
asked_read (to_edit octets) line fits is =
    named_read (codes "edit") (decimal octets) line (to_edit octets) (refl, (refl, (refl, (refl, tt)))) is.text fits (edit_read octets is.bound)
asked_read (to_subscribe name) line fits is =
    named_read (codes "subscribe") name line (to_subscribe name) (refl, (refl, (refl, (refl, (refl, (refl, (refl, (refl, (refl, tt))))))))) is.text fits (subscribe_read name is.begun is.word)
asked_read (to_unsubscribe sub) line fits is =
    named_read (codes "unsubscribe") (decimal sub) line (to_unsubscribe sub) (refl, (refl, (refl, (refl, (refl, (refl, (refl, (refl, (refl, (refl, (refl, tt))))))))))) is.text fits (unsubscribe_read sub is.bound)
asked_read (to_advance t) line fits is =
    named_read (codes "advance") (decimal t) line (to_advance t) (refl, (refl, (refl, (refl, (refl, (refl, (refl, tt))))))) is.text fits (advance_read t is.bound)
asked_read (to_tell_status sub) line fits is =
    named_read (codes "status") (decimal sub) line (to_tell_status sub) (refl, (refl, (refl, (refl, (refl, (refl, tt)))))) is.text fits (status_read sub is.bound)
asked_read (to_drain_audit most) line fits is =
    named_read (codes "audit") (decimal most) line (to_drain_audit most) (refl, (refl, (refl, (refl, (refl, tt))))) is.number.text fits (audit_read most is.begun is.number.bound)
asked_read (to_tell about) line fits is = topic_read about line is
asked_read to_stop line fits is = stop_read line is

pub command_of-only : (line : List ℕ) (said : AdminSaying) → IsCommandLine said line → command_of line ≡ Some said
command_of-only line said is = asked_read said line is.fits is.asks

-- ---- laws

pub one_meaning : (a b : AdminSaying) (line : List ℕ) → IsCommandLine a line → IsCommandLine b line → a ≡ b
one_meaning a b line x y = same_Some a b (sym (command_of-only line a x) ∙ command_of-only line b y)

pub subscription_found : (line : List ℕ) → NamesSubscriber (command_of line) → IsNamingLine line
subscription_found line names = (names.0, command_of-found line (to_subscribe names.0) names.1)

-- ---- what a reader answered

pub if_found : {E : Type 0} (line : List ℕ) (r : Result (Option Command) E) → IfOk r (λ command. option_map admin_saying command ≡ command_of line) → IfOk r (λ command. IfSome command (λ x. IsCommandLine (admin_saying x) line))
if_found line (Ok None) e = tt
if_found line (Ok (Some command)) e = command_of-found line (admin_saying command) (sym e)
if_found line (Err x) e = tt

pub if_only : {E : Type 0} (line : List ℕ) (r : Result (Option Command) E) → IfOk r (λ command. option_map admin_saying command ≡ command_of line) → (said : AdminSaying) → IsCommandLine said line → IfOk r (λ command. option_map admin_saying command ≡ Some said)
if_only line (Ok command) e said is = e ∙ command_of-only line said is
if_only line (Err x) e said is = tt

pub if_memory : {A E : Type 0} (line : List ℕ) (r : Result A E) → IfErr r (λ _. NamesSubscriber (command_of line)) → IfErr r (λ _. IsNamingLine line)
if_memory line (Ok x) names = tt
if_memory line (Err e) names = subscription_found line names

-- memory is asked for only where the argument is a word
pub word_memory : {A E : Type 0} (argument : List ℕ) (r : Result A E) → is_one_word argument ≡ true → IfErr r (λ _. NamesSubscriber (asks_subscribe argument))
unfolding asks_subscribe
word_memory argument (Ok x) h = tt
word_memory argument (Err e) h = (argument, rw h refl)
