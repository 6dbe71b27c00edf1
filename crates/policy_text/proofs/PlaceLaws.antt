-- The place of a fault in a line: what is read word by word fails at the first word that no continuation mends.
use Rattle.std.proofs.Common.{◌≡◌, ◌⊎◌, inl, inr, true, false, List, [], ◌∷◌, ◌++◌, Result, Ok, Err, refl, sym, ap, ◌∙◌, subst, ⊎_elim}
use Rattle.std.specs.Str.{bytes_eq}
use Rattle.std.proofs.lemmas.Bool.{cases_Bool}
use Rattle.sequences.proofs.ResultLaws.{Err-Ok, same_Err}
use Rattle.sequences.specs.Results.{◌>>=◌}
use Rattle.policy_text.specs.declared.fault.FaultKind.{FaultKind}
use Rattle.policy_text.specs.declared.fault.FaultKind.TheVariants.{UnknownWord}
use Rattle.policy_text.specs.Words.{Word}
use Rattle.policy_text.specs.Policies.{Aggregate as Definition}
use Rattle.policy_text.specs.Lines.{next_of, next, behind_word, end_of_words}
use Rattle.policy_text.specs.Grammar.{IsAggregate}
use Rattle.policy_text.specs.LineParts.{LinePart, parts_after, IsKindOf, IsKindBehind}
use Rattle.policy_text.specs.LineParts.LinePart.{keyword, line_end}
use Rattle.std.proofs.lemmas.Slice.Eq.{bytes_eq-Decides}

-- what reads the words of a line where these aggregates are defined
abbrev pub Reader : Type 0 → Type 0
Reader B = List Definition → List Word → Result B FaultKind

-- The words are read where these aggregates are defined; or none is, and they are with the name of one that is.
abbrev pub Completes : {B : Type 0} → List Definition → Reader B → List Word → Type 0
Completes {B} here read words =
    ((y : B) × (read here words ≡ Ok y))
    ⊎ ((here ≡ []) × (a : Definition) × IsAggregate [] a × (y : B) × (read (a ∷ []) (words ++ a.name ∷ []) ≡ Ok y))

abbrev pub IsStuck : {B : Type 0} → List Definition → Reader B → List Word → List Word → Type 0
IsStuck {B} here read front [] = (y : B) → read here front ≡ Ok y → ⊥
IsStuck {B} here read front (word ∷ words) = (more : List Word) → Completes here read (front ++ word ∷ more) → ⊥

-- where the words fail
pub record Place {B : Type 0} (here : List Definition) (parts : List LinePart) (read : Reader B) (words : List Word) (kind : FaultKind) : Type 0 where
  pub front : List Word
  pub rest : List Word
  pub words_are : words ≡ front ++ rest
  pub begun : (more : List Word) × Completes here read (front ++ more)
  pub stuck : IsStuck here read front rest
  pub kind_is : IsKindBehind parts front rest kind

-- something is read, and each fault has its place
pub record Reads {B : Type 0} (here : List Definition) (parts : List LinePart) (read : Reader B) : Type 0 where
  pub opens : (words : List Word) × Completes here read words
  pub faults : (words : List Word) (kind : FaultKind) → read here words ≡ Err kind → Place here parts read words kind

pub ok_or_err : {A : Type 0} (r : Result A FaultKind) (kind : FaultKind) (y : A) → r ≡ Err kind → r ≡ Ok y → ⊥
ok_or_err r kind y e f = Err-Ok kind y (sym e ∙ f)

-- two readers that agree
pub record Agree {B : Type 0} (here : List Definition) (read other : Reader B) : Type 0 where
  pub now : (words : List Word) → read here words ≡ other here words
  pub later : here ≡ [] → (a : Definition) (words : List Word) → read (a ∷ []) words ≡ other (a ∷ []) words

pub Agree-all : {B : Type 0} (here : List Definition) (read other : Reader B) → ((q : List Definition) (words : List Word) → read q words ≡ other q words) → Agree here read other
Agree-all here read other h = record { now = h here; later = λ _ a words. h (a ∷ []) words }

Completes-same : {B : Type 0} (here : List Definition) (read other : Reader B) (words : List Word) → Agree here read other → Completes here read words → Completes here other words
Completes-same {B} here read other words h =
    λ c. ⊎_elim (λ (now : (y : B) × (read here words ≡ Ok y)). inl (now.0, sym (h.now words) ∙ now.1))
    (λ (later : (here ≡ []) × (a : Definition) × IsAggregate [] a × (y : B) × (read (a ∷ []) (words ++ a.name ∷ []) ≡ Ok y)).
    inr (later.0, later.1, later.2, later.3, sym (h.later later.0 later.1 (words ++ later.1.name ∷ [])) ∙ later.4))
    c

Agree-back : {B : Type 0} (here : List Definition) (read other : Reader B) → Agree here read other → Agree here other read
Agree-back here read other h = record { now = λ words. sym (h.now words); later = λ e a words. sym (h.later e a words) }

stuck_same : {B : Type 0} (here : List Definition) (read other : Reader B) (front rest : List Word) → Agree here read other → IsStuck here read front rest → IsStuck here other front rest
stuck_same here read other front [] h stuck = λ y e. stuck y (h.now front ∙ e)
stuck_same here read other front (word ∷ words) h stuck = λ more c. stuck more (Completes-same here other read (front ++ word ∷ more) (Agree-back here read other h) c)

pub Reads-same : {B : Type 0} (here : List Definition) (parts : List LinePart) (read other : Reader B) → Agree here read other → Reads here parts read → Reads here parts other
Reads-same here parts read other h r = record {
  opens = (r.opens.0, Completes-same here read other r.opens.0 h r.opens.1);
  faults = λ words kind e.
      let p = r.faults words kind (h.now words ∙ e) in
      record {
        front = p.front;
        rest = p.rest;
        words_are = p.words_are;
        begun = (p.begun.0, Completes-same here read other (p.front ++ p.begun.0) h p.begun.1);
        stuck = stuck_same here read other p.front p.rest h p.stuck;
        kind_is = p.kind_is;
      };
}

-- a reader behind a word
abbrev pub behind : {B : Type 0} → Reader B → Word → Reader B
behind read word q words = read q (word ∷ words)

-- a word that no continuation mends
pub record IsDead {B : Type 0} (here : List Definition) (part : LinePart) (read : Reader B) (word : Word) : Type 0 where
  pub kind : FaultKind
  pub fails : (words : List Word) → read here (word ∷ words) ≡ Err kind
  pub stuck : (words : List Word) → Completes here read (word ∷ words) → ⊥
  pub kind_is : IsKindOf part word kind

-- a word that is refused whatever is defined
pub dead : {B : Type 0} (here : List Definition) (part : LinePart) (read : Reader B) (word : Word) (kind : FaultKind) → ((q : List Definition) (words : List Word) → read q (word ∷ words) ≡ Err kind) → IsKindOf part word kind → IsDead here part read word
dead {B} here part read word kind h k = record {
  kind = kind;
  fails = λ words. h here words;
  stuck = λ words c.
      ⊎_elim (λ (now : (y : B) × (read here (word ∷ words) ≡ Ok y)). ok_or_err (read here (word ∷ words)) kind now.0 (h here words) now.1)
      (λ (later : (here ≡ []) × (a : Definition) × IsAggregate [] a × (y : B) × (read (a ∷ []) (word ∷ words ++ a.name ∷ []) ≡ Ok y)).
      ok_or_err (read (later.1 ∷ []) (word ∷ words ++ later.1.name ∷ [])) kind later.3 (h (later.1 ∷ []) (words ++ later.1.name ∷ [])) later.4)
      c;
  kind_is = k;
}

pub kind_behind : (part : LinePart) (parts : List LinePart) (word : Word) (front rest : List Word) (kind : FaultKind) → IsKindBehind (parts_after part word parts) front rest kind → IsKindBehind (part ∷ parts) (word ∷ front) rest kind
kind_behind part parts word front [] kind h = h
kind_behind part parts word front (next ∷ rest) kind h = h

stuck_behind : {B : Type 0} (here : List Definition) (read : Reader B) (word : Word) (front rest : List Word) → IsStuck here (behind read word) front rest → IsStuck here read (word ∷ front) rest
stuck_behind here read word front [] h = h
stuck_behind here read word front (next ∷ rest) h = h

-- a place behind a word
pub place_behind : {B : Type 0} (here : List Definition) (part : LinePart) (parts : List LinePart) (read : Reader B) (word : Word) (words : List Word) (kind : FaultKind) → Place here (parts_after part word parts) (behind read word) words kind → Place here (part ∷ parts) read (word ∷ words) kind
place_behind here part parts read word words kind p = record {
  front = word ∷ p.front;
  rest = p.rest;
  words_are = ap (λ ws. word ∷ ws) p.words_are;
  begun = p.begun;
  stuck = stuck_behind here read word p.front p.rest p.stuck;
  kind_is = kind_behind part parts word p.front p.rest kind p.kind_is;
}

first_place : {B : Type 0} (here : List Definition) (part : LinePart) (parts : List LinePart) (read : Reader B) → read here [] ≡ Err UnknownWord → (words : List Word) × Completes here read words → ((word : Word) → IsDead here part read word ⊎ Reads here (parts_after part word parts) (behind read word)) → (words : List Word) (kind : FaultKind) → read here words ≡ Err kind → Place here (part ∷ parts) read words kind
first_place here part parts read empty opens by_word [] kind e = record {
  front = [];
  rest = [];
  words_are = refl;
  begun = opens;
  stuck = λ y f. ok_or_err (read here []) UnknownWord y empty f;
  kind_is = same_Err kind UnknownWord (sym e ∙ empty);
}
first_place here part parts read empty opens by_word (word ∷ words) kind e =
    ⊎_elim (λ (d : IsDead here part read word).
    let same = same_Err d.kind kind (sym (d.fails words) ∙ e) in
    let P : FaultKind → Type 0 = λ k. IsKindOf part word k in
    record { front = []; rest = word ∷ words; words_are = refl; begun = opens; stuck = d.stuck; kind_is = subst P same d.kind_is })
    (λ (alive : Reads here (parts_after part word parts) (behind read word)). place_behind here part parts read word words kind (alive.faults words kind e))
    (by_word word)

-- one word, and what is read behind it
pub word_step : {B : Type 0} (here : List Definition) (part : LinePart) (parts : List LinePart) (read : Reader B) → read here [] ≡ Err UnknownWord → (words : List Word) × Completes here read words → ((word : Word) → IsDead here part read word ⊎ Reads here (parts_after part word parts) (behind read word)) → Reads here (part ∷ parts) read
word_step here part parts read empty opens by_word = record { opens = opens; faults = first_place here part parts read empty opens by_word }

-- the next word by its class, or a keyword
pub next-nil : {A : Type 0} (class : Word → Result A FaultKind) → next class [] ≡ Err UnknownWord
unfolding next next_of
next-nil class = refl

pub next-ok : {A : Type 0} (class : Word → Result A FaultKind) (word : Word) (words : List Word) (a : A) → class word ≡ Ok a → next class (word ∷ words) ≡ Ok (a, words)
unfolding next next_of
next-ok class word words a e = ap (λ r. r >>= λ x. Ok (x, words)) e

pub next-err : {A : Type 0} (class : Word → Result A FaultKind) (word : Word) (words : List Word) (kind : FaultKind) → class word ≡ Err kind → next class (word ∷ words) ≡ Err kind
unfolding next next_of
next-err class word words kind e = ap (λ r. r >>= λ x. Ok (x, words)) e

after-nil : (key : Word) → behind_word key [] ≡ Err UnknownWord
unfolding behind_word next_of
after-nil key = refl

after-ok : (key word : Word) (words : List Word) → bytes_eq word key ≡ true → behind_word key (word ∷ words) ≡ Ok words
unfolding behind_word next_of
after-ok key word words e = rw e refl

after-err : (key word : Word) (words : List Word) → bytes_eq word key ≡ false → behind_word key (word ∷ words) ≡ Err UnknownWord
unfolding behind_word next_of
after-err key word words e = rw e refl

-- a reader behind the word that it took
pub taken : {B : Type 0} (here : List Definition) (parts : List LinePart) (read inner : Reader B) (word : Word) → ((q : List Definition) (words : List Word) → read q (word ∷ words) ≡ inner q words) → Reads here parts inner → Reads here parts (behind read word)
taken here parts read inner word h r = Reads-same here parts inner (behind read word) (Agree-all here inner (behind read word) (λ q words. sym (h q words))) r

Completes-behind : {B : Type 0} (here : List Definition) (read inner : Reader B) (word : Word) → ((q : List Definition) (words : List Word) → read q (word ∷ words) ≡ inner q words) → (words : List Word) → Completes here inner words → Completes here read (word ∷ words)
Completes-behind here read inner word h words c = Completes-same here inner (behind read word) words (Agree-all here inner (behind read word) (λ q ws. sym (h q ws))) c

class_word : {A B : Type 0} (here : List Definition) (class : Word → Result A FaultKind) (part : LinePart) (parts : List LinePart) → ((word : Word) → parts_after part word parts ≡ parts) → ((word : Word) (kind : FaultKind) → class word ≡ Err kind → IsKindOf part word kind) → (inner : List Definition → A × List Word → Result B FaultKind) → ((a : A) → Reads here parts (λ q words. inner q (a, words))) → (word : Word) (r : Result A FaultKind) → class word ≡ r → IsDead here part (λ q words. next class words >>= inner q) word ⊎ Reads here (parts_after part word parts) (behind (λ q words. next class words >>= inner q) word)
class_word {A} {B} here class part parts plain kinds inner reads word (Ok a) e =
    let whole : Reader B = λ q words. next class words >>= inner q in
    let P : List LinePart → Type 0 = λ ps. Reads here ps (behind whole word) in
    inr (subst P (sym (plain word)) (taken here parts whole (λ q words. inner q (a, words)) word (λ q words. ap (λ r. r >>= inner q) (next-ok class word words a e)) (reads a)))
class_word {A} {B} here class part parts plain kinds inner reads word (Err kind) e =
    let whole : Reader B = λ q words. next class words >>= inner q in
    inl (dead here part whole word kind (λ q words. ap (λ r. r >>= inner q) (next-err class word words kind e)) (kinds word kind e))

pub class_step : {A B : Type 0} (here : List Definition) (class : Word → Result A FaultKind) (part : LinePart) (parts : List LinePart) → ((word : Word) → parts_after part word parts ≡ parts) → ((word : Word) (kind : FaultKind) → class word ≡ Err kind → IsKindOf part word kind) → (word : Word) (a : A) → class word ≡ Ok a → (inner : List Definition → A × List Word → Result B FaultKind) → ((a : A) → Reads here parts (λ q words. inner q (a, words))) → Reads here (part ∷ parts) (λ q words. next class words >>= inner q)
class_step {A} {B} here class part parts plain kinds word a e inner reads =
    let whole : Reader B = λ q words. next class words >>= inner q in
    let rest = (reads a).opens in
    word_step here part parts whole (ap (λ r. r >>= inner here) (next-nil class))
    (word ∷ rest.0, Completes-behind here whole (λ q words. inner q (a, words)) word (λ q words. ap (λ r. r >>= inner q) (next-ok class word words a e)) rest.0 rest.1)
    (λ w. class_word here class part parts plain kinds inner reads w (class w) refl)

pub keyword_step : {B : Type 0} (here : List Definition) (key : Word) (parts : List LinePart) (inner : Reader B) → Reads here parts inner → Reads here (keyword ∷ parts) (λ q words. behind_word key words >>= inner q)
keyword_step {B} here key parts inner reads =
    let whole : Reader B = λ q words. behind_word key words >>= inner q in
    let rest = reads.opens in
    let same : bytes_eq key key ≡ true = (bytes_eq-Decides key key).1 refl in
    word_step here keyword parts whole (ap (λ r. r >>= inner here) (after-nil key))
    (key ∷ rest.0, Completes-behind here whole inner key (λ q words. ap (λ r. r >>= inner q) (after-ok key key words same)) rest.0 rest.1)
    (λ word. ⊎_elim (λ (t : bytes_eq word key ≡ true). inr (taken here parts whole inner word (λ q words. ap (λ r. r >>= inner q) (after-ok key word words t)) reads))
    (λ (f : bytes_eq word key ≡ false). inl (dead here keyword whole word UnknownWord (λ q words. ap (λ r. r >>= inner q) (after-err key word words f)) refl))
    (cases_Bool (bytes_eq word key)))

-- the end of a line
abbrev pub ends : {B : Type 0} → B → Reader B
ends y q words = end_of_words words >>= λ done. Ok y

end_place : {B : Type 0} (here : List Definition) (y : B) (words : List Word) (kind : FaultKind) → ends y here words ≡ Err kind → Place here [] (ends y) words kind
unfolding end_of_words
end_place here y [] kind e = absurd (Err-Ok kind y (sym e))
end_place {B} here y (word ∷ words) kind e =
    let d = dead here line_end (ends y) word UnknownWord (λ q ws. refl) refl in
    record { front = []; rest = word ∷ words; words_are = refl; begun = ([], inl (y, refl)); stuck = d.stuck; kind_is = same_Err kind UnknownWord (sym e) }

pub end_reads : {B : Type 0} (here : List Definition) (y : B) → Reads here [] (ends y)
unfolding end_of_words
end_reads here y = record { opens = ([], inl (y, refl)); faults = end_place here y }
