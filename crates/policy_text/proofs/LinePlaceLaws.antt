-- The places of faults in the lines of rules and aggregates.
use Rattle.std.proofs.Common.{◌≡◌, ◌⊎◌, inl, inr, ℕ, ◌<◌, Bool, true, false, ◌&&◌, List, [], ◌∷◌, ◌++◌, length, Option, Some, None, Result, Ok, Err, refl, sym, ap, ◌∙◌, subst, arith, ⊎_elim, codes}
use Rattle.std.specs.Str.{bytes_eq}
use Rattle.std.specs.Fmt.{decimal}
use Rattle.std.proofs.lemmas.Slice.Eq.{bytes_eq-Decides}
use Rattle.std.proofs.lemmas.Bool.{cases_Bool, lt-ltb, and_parts}
use Rattle.ipfix_element.specs.Element.{Element}
use Rattle.ipfix_element.specs.Kinds.{kind_of}
use Rattle.ipfix_element.specs.Registry.{registry}
use Rattle.sequences.proofs.ResultLaws.{Err-Ok}
use Rattle.sequences.specs.Results.{◌>>=◌}
use Rattle.policy_text.specs.declared.fault.FaultKind.{FaultKind}
use Rattle.policy_text.specs.declared.fault.FaultKind.TheVariants.{UnknownWord, BadTruncate, BadDegrade}
use Rattle.policy_text.specs.declared.rule.Action.{Action}
use Rattle.policy_text.specs.declared.rule.Action.TheVariants.{Pass, Withhold, Aggregate, Keep, Remove, Truncate, Degrade}
use Rattle.policy_text.specs.declared.version.Version.{Version}
use Rattle.policy_text.specs.Words.{Word}
use Rattle.policy_text.specs.Naming.{is_name}
use Rattle.policy_text.specs.Policies.{has_degrade, Aggregate as Definition}
use Rattle.policy_text.specs.Classes.{name, number, element, prefix, star, or_star, with_key, key_of, width_at, is_time_at, aggregate_place, new_name, interval, bits_within}
use Rattle.policy_text.specs.Lines.{next_of, next, end_of_words, truncate_of, degrade_of, read_element_action, aggregate_action, on_element, action_of, rule_of, aggregate_of}
use Rattle.policy_text.specs.Grammar.{IsAggregate, AreAggregates}
use Rattle.policy_text.specs.Printing.{key_text}
use Rattle.policy_text.specs.LineParts.{LinePart, parts_after, rule_parts, aggregate_parts}
use Rattle.policy_text.specs.LineParts.LinePart.{keyword, who, domain, network, action, known_name, element_or_star, treatment, bits, unused_name, key_list, seconds}
use Rattle.policy_text.proofs.KeyStepLaws.{as_key}
use Rattle.policy_text.proofs.PrintedClassLaws.{or_star-star, new_name-printed, number-printed, interval-printed, bits-printed, key-printed}
use Rattle.policy_text.proofs.SoundLaws.{rule_action, rule_to, rule_behind_from, rule_from, rule_behind_domain, rule_domain, rule_behind_who, rule_who, aggregate_end, aggregate_grace, aggregate_behind_interval, aggregate_interval, aggregate_behind_key, aggregate_key, aggregate_behind_name}
use Rattle.policy_text.proofs.PlaceLaws.{Reader, Completes, IsDead, Reads, Reads-same, Agree-all, behind, dead, ok_or_err, word_step, taken, class_step, keyword_step, ends, end_reads}
use Rattle.policy_text.proofs.KindLaws.{who_kind, domain_kind, network_kind, element_or_star_kind, grace_kind, interval_kind, bits_kind, place_kind, new_name_kind, key_kind}
use Rattle.policy_text.proofs.FreshLaws.{fresh_name}

-- the end of a line behind an action
abbrev finish : {X B : Type 0} → (X → B) → X × List Word → Result B FaultKind
finish make done = end_of_words done.1 >>= λ nothing_more. Ok (make done.0)

-- what is said of one word holds of a word that is equal
at_word : (P : Word → Type 0) (word key : Word) → bytes_eq word key ≡ true → P key → P word
at_word P word key t h = subst P (sym ((bytes_eq-Decides word key).0 t)) h

-- what a branch of a word claims
abbrev Branch : {B : Type 0} → List Definition → LinePart → List LinePart → Reader B → Word → Type 0
Branch here part parts read word = IsDead here part read word ⊎ Reads here (parts_after part word parts) (behind read word)

-- behind `element ELEM`
abbrev of_element : Option Element → Action × List Word → Result ((Option Element × Action) × List Word) FaultKind
of_element e done = Ok ((e, done.0), done.1)

abbrev of_bits : ℕ × List Word → Result (Action × List Word) FaultKind
of_bits done = Ok (Truncate done.0, done.1)

abbrev of_seconds : ℕ × List Word → Result (Action × List Word) FaultKind
of_seconds done = Ok (Degrade done.0, done.1)

abbrev treated : {B : Type 0} → Version → Option Element → (Option Element × Action → B) → Reader B
treated version e make q words = (read_element_action version e words >>= of_element e) >>= finish make

truncate_agrees : {B : Type 0} (e : Option Element) (make : Option Element × Action → B) (r : Result (ℕ × List Word) FaultKind) →
    (((r >>= of_bits) >>= of_element e) >>= finish make) ≡ (r >>= finish (λ b. make (e, Truncate b)))
truncate_agrees e make (Ok x) = refl
truncate_agrees e make (Err kind) = refl

truncate_branch : {B : Type 0} (here : List Definition) (version : Version) (e : Option Element) (make : Option Element × Action → B) (width : Option ℕ) → width_at e ≡ width → Branch here (treatment version) [] (treated version e make) (codes "truncate")
unfolding read_element_action next_of truncate_of
truncate_branch here version e make None is = inl (dead here (treatment version) (treated version e make) (codes "truncate") BadTruncate (λ q words. rw is refl) refl)
truncate_branch {B} here version e make (Some width) is =
    let inner : List Definition → ℕ × List Word → Result B FaultKind = λ q done. finish (λ b. make (e, Truncate b)) done in
    inr (taken here (bits ∷ []) (treated version e make) (λ q words. next (bits_within width) words >>= inner q) (codes "truncate")
    (λ q words. rw is (truncate_agrees e make (next (bits_within width) words)))
    (class_step here (bits_within width) bits [] (λ word. refl) (bits_kind width) (decimal 0) 0 (bits-printed width 0 (omega arith) (omega arith)) inner (λ b. end_reads here (make (e, Truncate b)))))

degrade_agrees : {B : Type 0} (e : Option Element) (make : Option Element × Action → B) (r : Result (ℕ × List Word) FaultKind) →
    (((r >>= of_seconds) >>= of_element e) >>= finish make) ≡ (r >>= finish (λ n. make (e, Degrade n)))
degrade_agrees e make (Ok x) = refl
degrade_agrees e make (Err kind) = refl

degrade_branch : {B : Type 0} (here : List Definition) (version : Version) (e : Option Element) (make : Option Element × Action → B) → has_degrade version ≡ true → (is_time : Bool) → is_time_at e ≡ is_time → Branch here (treatment version) [] (treated version e make) (codes "degrade")
unfolding read_element_action next_of degrade_of
degrade_branch here version e make known false is = inl (dead here (treatment version) (treated version e make) (codes "degrade") BadDegrade (λ q words. rw (known, is) refl) (rw known refl))
degrade_branch {B} here version e make known true is =
    let inner : List Definition → ℕ × List Word → Result B FaultKind = λ q done. finish (λ n. make (e, Degrade n)) done in
    inr (taken here (seconds ∷ []) (treated version e make) (λ q words. next interval words >>= inner q) (codes "degrade")
    (λ q words. rw (known, is) (degrade_agrees e make (next interval words)))
    (class_step here interval seconds [] (λ word. refl) interval_kind (decimal 1) 1 (interval-printed 1 (omega arith) (omega arith)) inner (λ n. end_reads here (make (e, Degrade n)))))

other_treatment : {B : Type 0} (here : List Definition) (version : Version) (e : Option Element) (make : Option Element × Action → B) (word : Word) → bytes_eq word (codes "keep") ≡ false → bytes_eq word (codes "remove") ≡ false → bytes_eq word (codes "truncate") ≡ false → (has_degrade version && bytes_eq word (codes "degrade")) ≡ false → Branch here (treatment version) [] (treated version e make) word
unfolding read_element_action next_of
other_treatment here version e make word k r t d = inl (dead here (treatment version) (treated version e make) word UnknownWord (λ q words. rw (k, r, t, d) refl) (rw (t, d) refl))

treatment_branch : {B : Type 0} (here : List Definition) (version : Version) (e : Option Element) (make : Option Element × Action → B) (word : Word) → Branch here (treatment version) [] (treated version e make) word
unfolding read_element_action next_of
treatment_branch {B} here version e make word =
    let read : Reader B = treated version e make in
    let P : Word → Type 0 = λ w. Branch here (treatment version) [] read w in
    let degrades = has_degrade version && bytes_eq word (codes "degrade") in
    ⊎_elim (λ (t : bytes_eq word (codes "keep") ≡ true). at_word P word (codes "keep") t (inr (taken here [] read (ends (make (e, Keep))) (codes "keep") (λ q words. refl) (end_reads here (make (e, Keep))))))
    (λ (k : bytes_eq word (codes "keep") ≡ false).
    ⊎_elim (λ (t : bytes_eq word (codes "remove") ≡ true). at_word P word (codes "remove") t (inr (taken here [] read (ends (make (e, Remove))) (codes "remove") (λ q words. refl) (end_reads here (make (e, Remove))))))
    (λ (r : bytes_eq word (codes "remove") ≡ false).
    ⊎_elim (λ (t : bytes_eq word (codes "truncate") ≡ true). at_word P word (codes "truncate") t (truncate_branch here version e make (width_at e) refl))
    (λ (t : bytes_eq word (codes "truncate") ≡ false).
    ⊎_elim (λ (d : degrades ≡ true).
    let known = and_parts (has_degrade version) (bytes_eq word (codes "degrade")) d in
    at_word P word (codes "degrade") known.1 (degrade_branch here version e make known.0 (is_time_at e) refl))
    (λ (d : degrades ≡ false). other_treatment here version e make word k r t d)
    (cases_Bool degrades))
    (cases_Bool (bytes_eq word (codes "truncate"))))
    (cases_Bool (bytes_eq word (codes "remove"))))
    (cases_Bool (bytes_eq word (codes "keep")))

treatment_reads : {B : Type 0} (here : List Definition) (version : Version) (e : Option Element) (make : Option Element × Action → B) → Reads here (treatment version ∷ []) (treated version e make)
unfolding read_element_action next_of end_of_words
treatment_reads here version e make = word_step here (treatment version) [] (treated version e make) refl (codes "keep" ∷ [], inl (make (e, Keep), refl)) (treatment_branch here version e make)

-- behind `element`
element_agrees : {B : Type 0} (version : Version) (make : Option Element × Action → B) (q : List Definition) (r : Result (Option Element × List Word) FaultKind) →
    ((r >>= λ e. read_element_action version e.0 e.1 >>= of_element e.0) >>= finish make) ≡ (r >>= λ e. treated version e.0 make q e.1)
element_agrees version make q (Ok e) = refl
element_agrees version make q (Err kind) = refl

element_reads : {B : Type 0} (here : List Definition) (version : Version) (make : Option Element × Action → B) → Reads here (element_or_star ∷ treatment version ∷ []) (λ q words. on_element version words >>= finish make)
unfolding on_element
element_reads {B} here version make =
    let inner : List Definition → Option Element × List Word → Result B FaultKind = λ q e. treated version e.0 make q e.1 in
    Reads-same here (element_or_star ∷ treatment version ∷ []) (λ q words. next (or_star element) words >>= inner q) (λ q words. on_element version words >>= finish make)
    (Agree-all here (λ q words. next (or_star element) words >>= inner q) (λ q words. on_element version words >>= finish make) (λ q words. sym (element_agrees version make q (next (or_star element) words))))
    (class_step here (or_star element) element_or_star (treatment version ∷ []) (λ word. refl) element_or_star_kind star None (or_star-star element) inner (λ e. treatment_reads here version e make))

-- behind `aggregate` of a rule
abbrev counted : {B : Type 0} → (Option Element × Action → B) → Reader B
counted make q words = aggregate_action q words >>= finish make

counted-nil : {B : Type 0} (make : Option Element × Action → B) (q : List Definition) → counted make q [] ≡ Err UnknownWord
unfolding aggregate_action next next_of
counted-nil make q = refl

counted-ok : {B : Type 0} (make : Option Element × Action → B) (q : List Definition) (word : Word) (words : List Word) (place : ℕ) → aggregate_place q word ≡ Ok place → counted make q (word ∷ words) ≡ (end_of_words words >>= λ done. Ok (make (None, Aggregate place)))
unfolding aggregate_action next next_of
counted-ok make q word words place e = rw e refl

counted-err : {B : Type 0} (make : Option Element × Action → B) (q : List Definition) (word : Word) (words : List Word) (kind : FaultKind) → aggregate_place q word ≡ Err kind → counted make q (word ∷ words) ≡ Err kind
unfolding aggregate_action next next_of
counted-err make q word words kind e = rw e refl

not_ended : {B : Type 0} (words : List Word) (last : Word) (x y : B) → (end_of_words (words ++ last ∷ []) >>= λ done. Ok x) ≡ Ok y → ⊥
unfolding end_of_words
not_ended [] last x y e = Err-Ok UnknownWord y e
not_ended (word ∷ words) last x y e = Err-Ok UnknownWord y e

-- a second word behind `aggregate`
two_words : {B : Type 0} (make : Option Element × Action → B) (q : List Definition) (word : Word) (words : List Word) (last : Word) (r : Result ℕ FaultKind) (y : B) → aggregate_place q word ≡ r → counted make q (word ∷ words ++ last ∷ []) ≡ Ok y → ⊥
two_words make q word words last (Ok place) y e h = not_ended words last (make (None, Aggregate place)) y (sym (counted-ok make q word (words ++ last ∷ []) place e) ∙ h)
two_words make q word words last (Err kind) y e h = ok_or_err (counted make q (word ∷ words ++ last ∷ [])) kind y (counted-err make q word (words ++ last ∷ []) kind e) h

no_place : (word : Word) (place : ℕ) → aggregate_place [] word ≡ Ok place → ⊥
unfolding aggregate_place
no_place word place e =
    ⊎_elim (λ (t : is_name word ≡ true). Err-Ok _ place (rw t at e))
    (λ (f : is_name word ≡ false). Err-Ok _ place (rw f at e))
    (cases_Bool (is_name word))

counted_branch : {B : Type 0} (here : List Definition) (make : Option Element × Action → B) (word : Word) (r : Result ℕ FaultKind) → aggregate_place here word ≡ r → Branch here known_name [] (counted make) word
counted_branch {B} here make word (Ok place) e =
    let other : Reader B = ends (make (None, Aggregate place)) in
    inr (Reads-same here [] other (behind (counted make) word) (record {
      now = λ words. sym (counted-ok make here word words place e);
      later = λ none a words. absurd (no_place word place (ap (λ q. aggregate_place q word) (sym none) ∙ e));
    }) (end_reads here (make (None, Aggregate place))))
counted_branch {B} here make word (Err kind) e = inl (record {
  kind = kind;
  fails = λ words. counted-err make here word words kind e;
  stuck = λ words c.
      ⊎_elim (λ (now : (y : B) × (counted make here (word ∷ words) ≡ Ok y)). ok_or_err (counted make here (word ∷ words)) kind now.0 (counted-err make here word words kind e) now.1)
      (λ (later : (here ≡ []) × (a : Definition) × IsAggregate [] a × (y : B) × (counted make (a ∷ []) (word ∷ words ++ a.name ∷ []) ≡ Ok y)).
      two_words make (later.1 ∷ []) word words later.1.name (aggregate_place (later.1 ∷ []) word) later.3 refl later.4)
      c;
  kind_is = place_kind here word kind e;
})

-- an aggregate that may stand first
example : Definition
example = record { name = 97 ∷ []; key = record { pen = None; number = 58 } ∷ []; interval = 1; grace = 0 }

example_sound : IsAggregate [] example
unfolding example is_name with_key kind_of registry
example_sound = record {
  name = refl;
  other = refl;
  key = as_key example.key (record { pen = tt; number = omega arith }, refl, tt);
  ranged = record { elements = (omega arith, omega arith); interval_low = omega arith; interval_high = omega arith; grace_high = omega arith };
}

own_place : (a : Definition) (rest : List Definition) → is_name a.name ≡ true → aggregate_place (a ∷ rest) a.name ≡ Ok 0
unfolding aggregate_place
own_place a rest named =
    let same : bytes_eq a.name a.name ≡ true = (bytes_eq-Decides a.name a.name).1 refl in
    rw (named, same, lt-ltb 0 (length (a ∷ rest)) (omega arith)) refl

counted_opens : {B : Type 0} (here : List Definition) (make : Option Element × Action → B) → AreAggregates [] here → (words : List Word) × Completes here (counted make) words
unfolding end_of_words
counted_opens [] make valid = ([], inr (refl, example, example_sound, make (None, Aggregate 0), counted-ok make (example ∷ []) example.name [] 0 (own_place example [] example_sound.name)))
counted_opens (a ∷ rest) make valid = (a.name ∷ [], inl (make (None, Aggregate 0), counted-ok make (a ∷ rest) a.name [] 0 (own_place a rest valid.0.name)))

counted_reads : {B : Type 0} (here : List Definition) (make : Option Element × Action → B) → AreAggregates [] here → Reads here (known_name ∷ []) (counted make)
counted_reads here make valid = word_step here known_name [] (counted make) (counted-nil make here) (counted_opens here make valid) (λ word. counted_branch here make word (aggregate_place here word) refl)

-- what a rule does
abbrev acted : {B : Type 0} → Version → (Option Element × Action → B) → Reader B
acted version make q words = action_of version q words >>= finish make

other_action : {B : Type 0} (here : List Definition) (version : Version) (make : Option Element × Action → B) (word : Word) → bytes_eq word (codes "pass") ≡ false → bytes_eq word (codes "withhold") ≡ false → bytes_eq word (codes "aggregate") ≡ false → bytes_eq word (codes "element") ≡ false → Branch here (action version) [] (acted version make) word
unfolding action_of next_of
other_action here version make word p w a e = inl (dead here (action version) (acted version make) word UnknownWord (λ q words. rw (p, w, a, e) refl) refl)

action_branch : {B : Type 0} (here : List Definition) (version : Version) (make : Option Element × Action → B) → AreAggregates [] here → (word : Word) → Branch here (action version) [] (acted version make) word
unfolding action_of next_of
action_branch {B} here version make valid word =
    let P : Word → Type 0 = λ w. Branch here (action version) [] (acted version make) w in
    ⊎_elim (λ (t : bytes_eq word (codes "pass") ≡ true). at_word P word (codes "pass") t (inr (taken here [] (acted version make) (ends (make (None, Pass))) (codes "pass") (λ q words. refl) (end_reads here (make (None, Pass))))))
    (λ (p : bytes_eq word (codes "pass") ≡ false).
    ⊎_elim (λ (t : bytes_eq word (codes "withhold") ≡ true). at_word P word (codes "withhold") t (inr (taken here [] (acted version make) (ends (make (None, Withhold))) (codes "withhold") (λ q words. refl) (end_reads here (make (None, Withhold))))))
    (λ (w : bytes_eq word (codes "withhold") ≡ false).
    ⊎_elim (λ (t : bytes_eq word (codes "aggregate") ≡ true). at_word P word (codes "aggregate") t (inr (taken here (known_name ∷ []) (acted version make) (counted make) (codes "aggregate") (λ q words. refl) (counted_reads here make valid))))
    (λ (a : bytes_eq word (codes "aggregate") ≡ false).
    ⊎_elim (λ (t : bytes_eq word (codes "element") ≡ true). at_word P word (codes "element") t (inr (taken here (element_or_star ∷ treatment version ∷ []) (acted version make) (λ q words. on_element version words >>= finish make) (codes "element") (λ q words. refl) (element_reads here version make))))
    (λ (e : bytes_eq word (codes "element") ≡ false). other_action here version make word p w a e)
    (cases_Bool (bytes_eq word (codes "element"))))
    (cases_Bool (bytes_eq word (codes "aggregate"))))
    (cases_Bool (bytes_eq word (codes "withhold"))))
    (cases_Bool (bytes_eq word (codes "pass")))

action_reads : {B : Type 0} (here : List Definition) (version : Version) (make : Option Element × Action → B) → AreAggregates [] here → Reads here (action version ∷ []) (acted version make)
unfolding action_of next_of end_of_words
action_reads here version make valid = word_step here (action version) [] (acted version make) refl (codes "pass" ∷ [], inl (make (None, Pass), refl)) (action_branch here version make valid)

-- the words behind `rule`
pub rule_reads : (here : List Definition) (version : Version) → AreAggregates [] here → Reads here (rule_parts version) (rule_of version)
unfolding rule_of
rule_reads here version valid =
    keyword_step here (codes "for") (who ∷ keyword ∷ domain ∷ keyword ∷ network ∷ keyword ∷ network ∷ action version ∷ []) (λ q a. rule_who version q a)
    (class_step here (or_star name) who (keyword ∷ domain ∷ keyword ∷ network ∷ keyword ∷ network ∷ action version ∷ []) (λ word. refl) who_kind star None (or_star-star name) (λ q x. rule_behind_who version q x)
    (λ subscriber. keyword_step here (codes "in") (domain ∷ keyword ∷ network ∷ keyword ∷ network ∷ action version ∷ []) (λ q b. rule_domain version q subscriber b)
    (class_step here (or_star (number 4294967295)) domain (keyword ∷ network ∷ keyword ∷ network ∷ action version ∷ []) (λ word. refl) domain_kind star None (or_star-star (number 4294967295)) (λ q x. rule_behind_domain version q subscriber x)
    (λ observed. keyword_step here (codes "from") (network ∷ keyword ∷ network ∷ action version ∷ []) (λ q c. rule_from version q subscriber observed c)
    (class_step here (or_star prefix) network (keyword ∷ network ∷ action version ∷ []) (λ word. refl) network_kind star None (or_star-star prefix) (λ q x. rule_behind_from version q subscriber observed x)
    (λ from. keyword_step here (codes "to") (network ∷ action version ∷ []) (λ q d. rule_to version q subscriber observed from d)
    (class_step here (or_star prefix) network (action version ∷ []) (λ word. refl) network_kind star None (or_star-star prefix) (λ q x. rule_action version q subscriber observed from x)
    (λ to. action_reads here version (λ done. record { who = subscriber; domain = observed; from = from; to = to; element = done.0; action = done.1 }) valid))))))))

-- the words behind `aggregate` at the start of a line
example_key : key_of (key_text example.key) ≡ Ok example.key
unfolding example
example_key = key-printed example.key example_sound.key (omega arith)

pub aggregate_reads : (here : List Definition) → length here < 256 → Reads here aggregate_parts (λ q words. aggregate_of here words)
unfolding aggregate_of
aggregate_reads here few =
    let free = fresh_name here few in
    class_step here (new_name here) unused_name (keyword ∷ key_list ∷ keyword ∷ seconds ∷ keyword ∷ seconds ∷ []) (λ word. refl) (new_name_kind here) free.name free.name (new_name-printed here free.name free.named free.unused) (λ q x. aggregate_behind_name x)
    (λ named. keyword_step here (codes "key") (key_list ∷ keyword ∷ seconds ∷ keyword ∷ seconds ∷ []) (λ q a. aggregate_key named a)
    (class_step here key_of key_list (keyword ∷ seconds ∷ keyword ∷ seconds ∷ []) (λ word. refl) key_kind (key_text example.key) example.key example_key (λ q x. aggregate_behind_key named x)
    (λ key. keyword_step here (codes "interval") (seconds ∷ keyword ∷ seconds ∷ []) (λ q b. aggregate_interval named key b)
    (class_step here interval seconds (keyword ∷ seconds ∷ []) (λ word. refl) interval_kind (decimal 1) 1 (interval-printed 1 (omega arith) (omega arith)) (λ q x. aggregate_behind_interval named key x)
    (λ lasting. keyword_step here (codes "grace") (seconds ∷ []) (λ q c. aggregate_grace named key lasting c)
    (class_step here (number 86400) seconds [] (λ word. refl) grace_kind (decimal 0) 0 (number-printed 86400 0 (omega arith) (omega arith)) (λ q x. aggregate_end named key lasting x)
    (λ waiting. end_reads here (record { name = named; key = key; interval = lasting; grace = waiting }))))))))
