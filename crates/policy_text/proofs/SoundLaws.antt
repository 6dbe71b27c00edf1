-- What is read is what a policy's type keeps.
use Rattle.std.proofs.Common.{◌≡◌, ℕ, suc, ◌+◌, ◌^◌, ◌<◌, ◌≤◌, Bool, true, false, cond, ◌&&◌, eqb, ltb, leb, List, [], ◌∷◌, ◌++◌, length, Option, Some, None, Result, Ok, Err, refl, sym, ap, ◌∙◌, subst, arith, ⊎_elim, append_assoc, append-nil, length-append, codes, is_some, not, IfOk, IfSome}
use Rattle.std.specs.List.{slice_split, position_or_len, list_any}
use Rattle.std.proofs.lemmas.List.Splits.{length-slice_split}
use Rattle.std.specs.Str.{bytes_eq}
use Rattle.std.proofs.lemmas.Slice.Eq.{bytes_eq-Decides}
use Rattle.std.proofs.lemmas.Bool.{cases_Bool, leb-true, ltb-true, ltb-false, and_parts}
use Rattle.ipfix_element.specs.Element.{Element, IsElement}
use Rattle.ipfix_element.specs.Kinds.{kind_of}
use Rattle.flow_prefix.specs.declared.prefix.Prefix.{Prefix}
use Rattle.flow_prefix.specs.declared.prefix.Prefix.TheVariants.{V4, V6}
use Rattle.flow_prefix.specs.declared.fault.Fault.{Fault as PrefixFault}
use Rattle.numerals.specs.Numerals.{number_of}
use Rattle.flow_prefix.specs.Reading.{prefix_of}
use Rattle.flow_prefix.specs.Text.{IsPrefixText}
use Rattle.flow_prefix.specs.Prefixes.{IsPrefix}
use Rattle.numerals.proofs.NumeralLaws.{number_of-found}
use Rattle.flow_prefix.proofs.PrefixLaws.{prefix_of-found}
use Rattle.sequences.proofs.ResultLaws.{same_Ok, Err-Ok, bind_Ok}
use Rattle.sequences.proofs.OptionLaws.{none_from_is_some}
use Rattle.sequences.specs.Results.{◌>>=◌}
use Rattle.policy_text.specs.declared.fault.FaultKind.{FaultKind}
use Rattle.policy_text.specs.declared.rule.Rule.{Rule}
use Rattle.policy_text.specs.declared.rule.Action.{Action}
use Rattle.policy_text.specs.declared.rule.Action.TheVariants.{Pass, Withhold, Aggregate, Keep, Remove, Truncate, Degrade}
use Rattle.policy_text.specs.declared.version.Version.{Version}
use Rattle.policy_text.specs.Words.{Word}
use Rattle.policy_text.specs.Naming.{is_name}
use Rattle.policy_text.specs.Elements.{element_of}
use Rattle.policy_text.specs.Policies.{has_degrade, IsKeyLength, Aggregate as Definition}
use Rattle.policy_text.specs.Results.{or_fault}
use Rattle.policy_text.specs.Classes.{name, number, element, prefix, prefix_or_fault, star, some_of, or_star, is_key_kind, width_at, is_time_at, with_key, add_piece, add_pieces, key_of, place_of, aggregate_place, new_name, interval, bits_within}
use Rattle.policy_text.specs.Lines.{next_of, next, behind_word, end_of_words, truncate_of, degrade_of, read_element_action, aggregate_action, on_element, action_of, rule_of, aggregate_of}
use Rattle.policy_text.specs.Grammar.{name_at, IsAction, IsRule, IsKey, IsAggregate}
use Rattle.policy_text.specs.declared.fault.FaultKind.TheVariants.{UnknownWord, BadName, BadNumber, BadPrefix, BadTruncate, UnknownAggregate, DoubleAggregate, BadKey, BadDegrade}
use Rattle.policy_text.proofs.ElementLaws.{element_of-found}
use Rattle.policy_text.proofs.KeyStepLaws.{IsKeyAfter, as_key}
use Rattle.policy_text.proofs.WordLaws.{position-place}

-- a test that refuses
pub guarded : {A : Type 0} (b : Bool) (kind : FaultKind) (x y : A) → cond b (Ok x) (Err kind) ≡ Ok y → (b ≡ true) × (x ≡ y)
guarded true kind x y e = (refl, same_Ok x y e)
guarded false kind x y e = absurd (Err-Ok kind y e)

-- a word that is one of two
pub either : {A : Type 0} (P : Type 0) (b : Bool) (r s : Result A FaultKind) (y : A) → cond b r s ≡ Ok y → (r ≡ Ok y → P) → (s ≡ Ok y → P) → P
either P true r s y e yes_case no_case = yes_case e
either P false r s y e yes_case no_case = no_case e

pub or_fault-Ok : {A : Type 0} (kind : FaultKind) (o : Option A) (y : A) → or_fault kind o ≡ Ok y → o ≡ Some y
or_fault-Ok kind None y e = absurd (Err-Ok kind y e)
or_fault-Ok kind (Some x) y e = ap (λ z. Some z) (same_Ok x y e)

-- what a class gives, or nothing
given_some : {A : Type 0} (P : A → Type 0) (r : Result A FaultKind) (o : Option A) → ((a : A) → r ≡ Ok a → P a) → some_of r ≡ Ok o → IfSome o P
given_some {A} P (Ok a) o sound e = let Q : Option A → Type 0 = λ x. IfSome x P in subst Q (same_Ok (Some a) o e) (sound a refl)
given_some P (Err kind) o sound e = absurd (Err-Ok kind o e)

given : {A : Type 0} (P : A → Type 0) (class : Word → Result A FaultKind) → ((w : Word) (a : A) → class w ≡ Ok a → P a) → (w : Word) (o : Option A) → or_star class w ≡ Ok o → IfSome o P
unfolding or_star
given {A} P class sound w o e =
    either (IfSome o P) (bytes_eq w star) (Ok None) (some_of (class w)) o e
    (λ none. let Q : Option A → Type 0 = λ x. IfSome x P in subst Q (same_Ok None o none) tt)
    (λ some. given_some P (class w) o (sound w) some)

-- the word that the next class read
next_word : {A : Type 0} (class : Word → Result A FaultKind) (words : List Word) (x : A × List Word) → next class words ≡ Ok x → (w : Word) × (class w ≡ Ok x.0)
unfolding next
next_word {A} class words x e =
    let first = bind_Ok (next_of words) (λ w. class w.0 >>= λ a. Ok (a, w.1)) x e in
    let second = bind_Ok (class first.0.0) (λ a. Ok (a, first.0.1)) x first.2 in
    (first.0.0, second.1 ∙ ap (λ (y : A × List Word). Ok y.0) (same_Ok (second.0, first.0.1) x second.2))

next_given : {A : Type 0} (P : A → Type 0) (class : Word → Result A FaultKind) → ((w : Word) (a : A) → class w ≡ Ok a → P a) → (words : List Word) (x : Option A × List Word) → next (or_star class) words ≡ Ok x → IfSome x.0 P
next_given P class sound words x e = let read = next_word (or_star class) words x e in given P class sound read.0 x.0 read.1

-- each class
name-sound : (w n : Word) → name w ≡ Ok n → is_name n ≡ true
unfolding name
name-sound w n e = let h = guarded (is_name w) BadName w n e in let P : Word → Type 0 = λ x. is_name x ≡ true in subst P h.1 h.0

number-sound : (most : ℕ) → most < 2 ^ 64 → (w : Word) (n : ℕ) → number most w ≡ Ok n → n ≤ most
unfolding number
number-sound most small w n e = (number_of-found most w n small (or_fault-Ok BadNumber (number_of most w) n e)).bound

domain-sound : (w : Word) (n : ℕ) → number 4294967295 w ≡ Ok n → n < 2 ^ 32
domain-sound w n e = let h = number-sound 4294967295 (omega arith) w n e in omega arith

element-sound : (w : Word) (e : Element) → element w ≡ Ok e → IsElement e
unfolding element
element-sound w e h = (element_of-found w e (or_fault-Ok BadName (element_of w) e h)).0

text_prefix : (text : List ℕ) (p : Prefix) → IsPrefixText text p → IsPrefix p
text_prefix text (V4 net) h = h.1
text_prefix text (V6 net) h = h.1

prefix_by : (text : List ℕ) (r : Result Prefix PrefixFault) (p : Prefix) → IfOk r (λ q. IsPrefixText text q) → prefix_or_fault r ≡ Ok p → IsPrefix p
prefix_by text (Ok q) p h e = let P : Prefix → Type 0 = λ x. IsPrefix x in subst P (same_Ok q p e) (text_prefix text q h)
prefix_by text (Err fault) p h e = absurd (Err-Ok BadPrefix p e)

prefix-sound : (w : Word) (p : Prefix) → prefix w ≡ Ok p → IsPrefix p
unfolding prefix
prefix-sound w p e = prefix_by w (prefix_of w) p (prefix_of-found w) e

-- the name at the place that was found
name_found : (aggregates : List Definition) (w : Word) → position_or_len (λ a. bytes_eq a.name w) aggregates < length aggregates → name_at aggregates (position_or_len (λ a. bytes_eq a.name w) aggregates) ≡ w
name_found [] w h = absurd (omega arith)
name_found (a ∷ rest) w h =
    ⊎_elim (λ (same : bytes_eq a.name w ≡ true). rw same ((bytes_eq-Decides a.name w).0 same))
    (λ (other : bytes_eq a.name w ≡ false).
    let e : 1 + position_or_len (λ b. bytes_eq b.name w) rest ≡ suc (position_or_len (λ b. bytes_eq b.name w) rest) = omega arith in
    let inside = rw (other, e) at h in
    rw (other, e) (name_found rest w (omega (arith, inside))))
    (cases_Bool (bytes_eq a.name w))

pub place_name : (aggregates : List Definition) (w : Word) (place : ℕ) → place_of aggregates w ≡ Some place → name_at aggregates place ≡ w
place_name aggregates w place e =
    let found = position-place (λ (a : Definition). bytes_eq a.name w) aggregates place e in
    ap (name_at aggregates) (sym found.0) ∙ name_found aggregates w (omega (arith, found.0, found.1))

place-sound : (aggregates : List Definition) (w : Word) (place : ℕ) → aggregate_place aggregates w ≡ Ok place → (is_name (name_at aggregates place) ≡ true) × (place_of aggregates (name_at aggregates place) ≡ Some place)
unfolding aggregate_place
place-sound aggregates w place e =
    ⊎_elim (λ (named : is_name w ≡ true).
    let at = or_fault-Ok UnknownAggregate (place_of aggregates w) place (rw named at e) in
    let same = place_name aggregates w place at in
    rw same (named, at))
    (λ (other : is_name w ≡ false). absurd (Err-Ok BadName place (rw other at e)))
    (cases_Bool (is_name w))

interval-sound : (w : Word) (n : ℕ) → interval w ≡ Ok n → (1 ≤ n) × (n ≤ 86400)
unfolding interval
interval-sound w n e =
    let read = bind_Ok (number 86400 w) (λ seconds. cond (ltb seconds 1) (Err BadNumber) (Ok seconds)) n e in
    let high = number-sound 86400 (omega arith) w read.0 read.1 in
    ⊎_elim (λ (low : ltb read.0 1 ≡ true). absurd (Err-Ok BadNumber n (rw low at read.2)))
    (λ (good : ltb read.0 1 ≡ false).
    let same = same_Ok read.0 n (rw good at read.2) in
    let low = ltb-false read.0 1 good in
    (omega (arith, same), omega (arith, same)))
    (cases_Bool (ltb read.0 1))

-- actions
record ActionSound (version : Version) (aggregates : List Definition) (e : Option Element) (what : Action) : Type 0 where
  element_is : IfSome e IsElement
  action_is : IsAction version aggregates e what

record Truncates (width : Option ℕ) (what : Action) : Type 0 where
  w : ℕ
  bits : ℕ
  width_is : width ≡ Some w
  what_is : Truncate bits ≡ what
  within : bits ≤ w
  short : bits < 1000

bits-sound : (width : ℕ) (w : Word) (n : ℕ) → bits_within width w ≡ Ok n → (n ≤ width) × (n < 1000)
unfolding bits_within
bits-sound width w n e =
    let read = bind_Ok (number 999 w) (λ bits. cond (leb bits width) (Ok bits) (Err BadTruncate)) n e in
    let h = guarded (leb read.0 width) BadTruncate read.0 n read.2 in
    let low = number-sound 999 (omega arith) w read.0 read.1 in
    let within = leb-true read.0 width h.0 in
    (omega (arith, h.1), omega (arith, h.1))

truncate-sound : (width : Option ℕ) (words : List Word) (x : Action × List Word) → truncate_of width words ≡ Ok x → Truncates width x.0
unfolding truncate_of
truncate-sound None words x e = absurd (Err-Ok BadTruncate x e)
truncate-sound (Some width) words x e =
    let read = bind_Ok (next (bits_within width) words) (λ bits. Ok (Truncate bits.0, bits.1)) x e in
    let word = next_word (bits_within width) words read.0 read.1 in
    let h = bits-sound width word.0 read.0.0 word.1 in
    record { w = width; bits = read.0.0; width_is = refl; what_is = ap (λ (y : Action × List Word). y.0) (same_Ok (Truncate read.0.0, read.0.1) x read.2); within = h.0; short = h.1 }

record Degrades (is_time : Bool) (what : Action) : Type 0 where
  seconds : ℕ
  time : is_time ≡ true
  what_is : Degrade seconds ≡ what
  low : 1 ≤ seconds
  high : seconds ≤ 86400

degrade-sound : (is_time : Bool) (words : List Word) (x : Action × List Word) → degrade_of is_time words ≡ Ok x → Degrades is_time x.0
unfolding degrade_of
degrade-sound false words x e = absurd (Err-Ok BadDegrade x e)
degrade-sound true words x e =
    let read = bind_Ok (next interval words) (λ seconds. Ok (Degrade seconds.0, seconds.1)) x e in
    let word = next_word interval words read.0 read.1 in
    let h = interval-sound word.0 read.0.0 word.1 in
    record { seconds = read.0.0; time = refl; what_is = ap (λ (y : Action × List Word). y.0) (same_Ok (Degrade read.0.0, read.0.1) x read.2); low = h.0; high = h.1 }

-- behind `element ELEM`, word by word
abbrev pub degrade_word : Version → Word → Bool
degrade_word version word = has_degrade version && bytes_eq word (codes "degrade")

abbrev pub or_degrade : Version → Option Element → Word × List Word → Result (Action × List Word) FaultKind
or_degrade version e w = cond (degrade_word version w.0) (degrade_of (is_time_at e) w.1) (Err UnknownWord)

abbrev pub or_truncate : Version → Option Element → Word × List Word → Result (Action × List Word) FaultKind
or_truncate version e w = cond (bytes_eq w.0 (codes "truncate")) (truncate_of (width_at e) w.1) (or_degrade version e w)

abbrev pub or_remove : Version → Option Element → Word × List Word → Result (Action × List Word) FaultKind
or_remove version e w = cond (bytes_eq w.0 (codes "remove")) (Ok (Remove, w.1)) (or_truncate version e w)

abbrev pub on_treatment : Version → Option Element → Word × List Word → Result (Action × List Word) FaultKind
on_treatment version e w = cond (bytes_eq w.0 (codes "keep")) (Ok (Keep, w.1)) (or_remove version e w)

degraded-sound : (version : Version) (aggregates : List Definition) (e : Option Element) (w : Word × List Word) (x : Action × List Word) → or_degrade version e w ≡ Ok x → IsAction version aggregates e x.0
degraded-sound version aggregates e w x h =
    ⊎_elim (λ (t : degrade_word version w.0 ≡ true).
    let d = degrade-sound (is_time_at e) w.1 x (rw t at h) in
    let known = and_parts (has_degrade version) (bytes_eq w.0 (codes "degrade")) t in
    let P : Action → Type 0 = λ what. IsAction version aggregates e what in
    subst P d.what_is (known.0, d.time, d.low, d.high))
    (λ (f : degrade_word version w.0 ≡ false). absurd (Err-Ok UnknownWord x (rw f at h)))
    (cases_Bool (degrade_word version w.0))

element_action-sound : (version : Version) (aggregates : List Definition) (e : Option Element) (words : List Word) (x : Action × List Word) → read_element_action version e words ≡ Ok x → IsAction version aggregates e x.0
unfolding read_element_action
element_action-sound version aggregates e words x h =
    let first = bind_Ok (next_of words) (λ w. on_treatment version e w) x h in
    let w = first.0 in
    let P : Action × List Word → Type 0 = λ y. IsAction version aggregates e y.0 in
    either (IsAction version aggregates e x.0) (bytes_eq w.0 (codes "keep")) (Ok (Keep, w.1)) (or_remove version e w) x first.2
    (λ keep. subst P (same_Ok (Keep, w.1) x keep) tt)
    (λ others. either (IsAction version aggregates e x.0) (bytes_eq w.0 (codes "remove")) (Ok (Remove, w.1)) (or_truncate version e w) x others
    (λ gone. subst P (same_Ok (Remove, w.1) x gone) tt)
    (λ last. either (IsAction version aggregates e x.0) (bytes_eq w.0 (codes "truncate")) (truncate_of (width_at e) w.1) (or_degrade version e w) x last
    (λ cut. let t = truncate-sound (width_at e) w.1 x cut in
    let Q : Action → Type 0 = λ what. IsAction version aggregates e what in
    subst Q t.what_is (t.w, t.width_is, t.within, t.short))
    (λ none. degraded-sound version aggregates e w x none)))

on_element-sound : (version : Version) (aggregates : List Definition) (words : List Word) (x : (Option Element × Action) × List Word) → on_element version words ≡ Ok x → ActionSound version aggregates x.0.0 x.0.1
unfolding on_element
on_element-sound version aggregates words x h =
    let first = bind_Ok (next (or_star element) words) (λ e. read_element_action version e.0 e.1 >>= λ action. Ok ((e.0, action.0), action.1)) x h in
    let second = bind_Ok (read_element_action version first.0.0 first.0.1) (λ action. Ok ((first.0.0, action.0), action.1)) x first.2 in
    let P : (Option Element × Action) × List Word → Type 0 = λ y. ActionSound version aggregates y.0.0 y.0.1 in
    subst P (same_Ok ((first.0.0, second.0.0), second.0.1) x second.2)
    (record { element_is = next_given IsElement element element-sound words first.0 first.1; action_is = element_action-sound version aggregates first.0.0 first.0.1 second.0 second.1 })

aggregate_action-sound : (version : Version) (aggregates : List Definition) (words : List Word) (x : (Option Element × Action) × List Word) → aggregate_action aggregates words ≡ Ok x → ActionSound version aggregates x.0.0 x.0.1
unfolding aggregate_action
aggregate_action-sound version aggregates words x h =
    let read = bind_Ok (next (aggregate_place aggregates) words) (λ place. Ok ((None, Aggregate place.0), place.1)) x h in
    let word = next_word (aggregate_place aggregates) words read.0 read.1 in
    let at = place-sound aggregates word.0 read.0.0 word.1 in
    let P : (Option Element × Action) × List Word → Type 0 = λ y. ActionSound version aggregates y.0.0 y.0.1 in
    subst P (same_Ok ((None, Aggregate read.0.0), read.0.1) x read.2) (record { element_is = tt; action_is = (refl, at.0, at.1) })

action_of-sound : (version : Version) (aggregates : List Definition) (words : List Word) (x : (Option Element × Action) × List Word) → action_of version aggregates words ≡ Ok x → ActionSound version aggregates x.0.0 x.0.1
unfolding action_of
action_of-sound version aggregates words x h =
    let first = bind_Ok (next_of words) (λ w. cond (bytes_eq w.0 (codes "pass")) (Ok ((None, Pass), w.1)) (cond (bytes_eq w.0 (codes "withhold")) (Ok ((None, Withhold), w.1)) (cond (bytes_eq w.0 (codes "aggregate")) (aggregate_action aggregates w.1) (cond (bytes_eq w.0 (codes "element")) (on_element version w.1) (Err UnknownWord))))) x h in
    let w = first.0 in
    let P : (Option Element × Action) × List Word → Type 0 = λ y. ActionSound version aggregates y.0.0 y.0.1 in
    either (ActionSound version aggregates x.0.0 x.0.1) (bytes_eq w.0 (codes "pass")) (Ok ((None, Pass), w.1)) (cond (bytes_eq w.0 (codes "withhold")) (Ok ((None, Withhold), w.1)) (cond (bytes_eq w.0 (codes "aggregate")) (aggregate_action aggregates w.1) (cond (bytes_eq w.0 (codes "element")) (on_element version w.1) (Err UnknownWord)))) x first.2
    (λ pass. subst P (same_Ok ((None, Pass), w.1) x pass) (record { element_is = tt; action_is = refl }))
    (λ others. either (ActionSound version aggregates x.0.0 x.0.1) (bytes_eq w.0 (codes "withhold")) (Ok ((None, Withhold), w.1)) (cond (bytes_eq w.0 (codes "aggregate")) (aggregate_action aggregates w.1) (cond (bytes_eq w.0 (codes "element")) (on_element version w.1) (Err UnknownWord))) x others
    (λ held. subst P (same_Ok ((None, Withhold), w.1) x held) (record { element_is = tt; action_is = refl }))
    (λ more. either (ActionSound version aggregates x.0.0 x.0.1) (bytes_eq w.0 (codes "aggregate")) (aggregate_action aggregates w.1) (cond (bytes_eq w.0 (codes "element")) (on_element version w.1) (Err UnknownWord)) x more
    (λ counted. aggregate_action-sound version aggregates w.1 x counted)
    (λ last. either (ActionSound version aggregates x.0.0 x.0.1) (bytes_eq w.0 (codes "element")) (on_element version w.1) (Err UnknownWord) x last
    (λ on. on_element-sound version aggregates w.1 x on)
    (λ none. absurd (Err-Ok UnknownWord x none)))))

-- a rule, word by word
abbrev pub rule_end : Option Word → Option ℕ → Option Prefix → Option Prefix → (Option Element × Action) × List Word → Result Rule FaultKind
rule_end who domain from to done = end_of_words done.1 >>= λ nothing_more. Ok (record { who = who; domain = domain; from = from; to = to; element = done.0.0; action = done.0.1 })

abbrev pub rule_action : Version → List Definition → Option Word → Option ℕ → Option Prefix → Option Prefix × List Word → Result Rule FaultKind
rule_action version aggregates who domain from to = action_of version aggregates to.1 >>= λ done. rule_end who domain from to.0 done

abbrev pub rule_to : Version → List Definition → Option Word → Option ℕ → Option Prefix → List Word → Result Rule FaultKind
rule_to version aggregates who domain from d = next (or_star prefix) d >>= λ to. rule_action version aggregates who domain from to

abbrev pub rule_behind_from : Version → List Definition → Option Word → Option ℕ → Option Prefix × List Word → Result Rule FaultKind
rule_behind_from version aggregates who domain from = behind_word (codes "to") from.1 >>= λ d. rule_to version aggregates who domain from.0 d

abbrev pub rule_from : Version → List Definition → Option Word → Option ℕ → List Word → Result Rule FaultKind
rule_from version aggregates who domain c = next (or_star prefix) c >>= λ from. rule_behind_from version aggregates who domain from

abbrev pub rule_behind_domain : Version → List Definition → Option Word → Option ℕ × List Word → Result Rule FaultKind
rule_behind_domain version aggregates who domain = behind_word (codes "from") domain.1 >>= λ c. rule_from version aggregates who domain.0 c

abbrev pub rule_domain : Version → List Definition → Option Word → List Word → Result Rule FaultKind
rule_domain version aggregates who b = next (or_star (number 4294967295)) b >>= λ domain. rule_behind_domain version aggregates who domain

abbrev pub rule_behind_who : Version → List Definition → Option Word × List Word → Result Rule FaultKind
rule_behind_who version aggregates who = behind_word (codes "in") who.1 >>= λ b. rule_domain version aggregates who.0 b

abbrev pub rule_who : Version → List Definition → List Word → Result Rule FaultKind
rule_who version aggregates a = next (or_star name) a >>= λ who. rule_behind_who version aggregates who

abbrev pub the_rule : Option Word → Option ℕ → Option Prefix → Option Prefix → Option Element × Action → Rule
the_rule who domain from to what = record { who = who; domain = domain; from = from; to = to; element = what.0; action = what.1 }

-- the steps in which a rule is read
pub record RuleSteps (version : Version) (aggregates : List Definition) (words : List Word) (r : Rule) : Type 0 where
  pub behind_for : (a : List Word) × (behind_word (codes "for") words ≡ Ok a) × (rule_who version aggregates a ≡ Ok r)
  pub who : (x : Option Word × List Word) × (next (or_star name) behind_for.0 ≡ Ok x) × (rule_behind_who version aggregates x ≡ Ok r)
  pub behind_in : (b : List Word) × (behind_word (codes "in") who.0.1 ≡ Ok b) × (rule_domain version aggregates who.0.0 b ≡ Ok r)
  pub domain : (x : Option ℕ × List Word) × (next (or_star (number 4294967295)) behind_in.0 ≡ Ok x) × (rule_behind_domain version aggregates who.0.0 x ≡ Ok r)
  pub behind_from : (c : List Word) × (behind_word (codes "from") domain.0.1 ≡ Ok c) × (rule_from version aggregates who.0.0 domain.0.0 c ≡ Ok r)
  pub from : (x : Option Prefix × List Word) × (next (or_star prefix) behind_from.0 ≡ Ok x) × (rule_behind_from version aggregates who.0.0 domain.0.0 x ≡ Ok r)
  pub behind_to : (d : List Word) × (behind_word (codes "to") from.0.1 ≡ Ok d) × (rule_to version aggregates who.0.0 domain.0.0 from.0.0 d ≡ Ok r)
  pub to : (x : Option Prefix × List Word) × (next (or_star prefix) behind_to.0 ≡ Ok x) × (rule_action version aggregates who.0.0 domain.0.0 from.0.0 x ≡ Ok r)
  pub action : (x : (Option Element × Action) × List Word) × (action_of version aggregates to.0.1 ≡ Ok x) × (rule_end who.0.0 domain.0.0 from.0.0 to.0.0 x ≡ Ok r)
  pub end : (nothing_more : Unit {0}) × (end_of_words action.0.1 ≡ Ok nothing_more)
  pub made : the_rule who.0.0 domain.0.0 from.0.0 to.0.0 action.0.0 ≡ r

pub rule_steps : (version : Version) (aggregates : List Definition) (words : List Word) (r : Rule) → rule_of version aggregates words ≡ Ok r → RuleSteps version aggregates words r
unfolding rule_of
rule_steps version aggregates words r h =
    let s0 = bind_Ok (behind_word (codes "for") words) (λ a. rule_who version aggregates a) r h in
    let who = bind_Ok (next (or_star name) s0.0) (λ x. rule_behind_who version aggregates x) r s0.2 in
    let s1 = bind_Ok (behind_word (codes "in") who.0.1) (λ b. rule_domain version aggregates who.0.0 b) r who.2 in
    let domain = bind_Ok (next (or_star (number 4294967295)) s1.0) (λ x. rule_behind_domain version aggregates who.0.0 x) r s1.2 in
    let s2 = bind_Ok (behind_word (codes "from") domain.0.1) (λ c. rule_from version aggregates who.0.0 domain.0.0 c) r domain.2 in
    let from = bind_Ok (next (or_star prefix) s2.0) (λ x. rule_behind_from version aggregates who.0.0 domain.0.0 x) r s2.2 in
    let s3 = bind_Ok (behind_word (codes "to") from.0.1) (λ d. rule_to version aggregates who.0.0 domain.0.0 from.0.0 d) r from.2 in
    let to = bind_Ok (next (or_star prefix) s3.0) (λ x. rule_action version aggregates who.0.0 domain.0.0 from.0.0 x) r s3.2 in
    let done = bind_Ok (action_of version aggregates to.0.1) (λ x. rule_end who.0.0 domain.0.0 from.0.0 to.0.0 x) r to.2 in
    let end = bind_Ok (end_of_words done.0.1) (λ nothing_more. Ok (record { who = who.0.0; domain = domain.0.0; from = from.0.0; to = to.0.0; element = done.0.0.0; action = done.0.0.1 })) r done.2 in
    record { behind_for = s0; who = who; behind_in = s1; domain = domain; behind_from = s2; from = from; behind_to = s3; to = to; action = done; end = (end.0, end.1); made = same_Ok (the_rule who.0.0 domain.0.0 from.0.0 to.0.0 done.0.0) r end.2 }

pub rule_of-sound : (version : Version) (aggregates : List Definition) (words : List Word) (r : Rule) → rule_of version aggregates words ≡ Ok r → IsRule version aggregates r
rule_of-sound version aggregates words r h =
    let steps = rule_steps version aggregates words r h in
    let action = action_of-sound version aggregates steps.to.0.1 steps.action.0 steps.action.1 in
    let P : Rule → Type 0 = λ x. IsRule version aggregates x in
    subst P steps.made
    (record {
      who = next_given (λ w. is_name w ≡ true) name name-sound steps.behind_for.0 steps.who.0 steps.who.1;
      domain = next_given (λ d. d < 2 ^ 32) (number 4294967295) domain-sound steps.behind_in.0 steps.domain.0 steps.domain.1;
      from = next_given IsPrefix prefix prefix-sound steps.behind_from.0 steps.from.0 steps.from.1;
      to = next_given IsPrefix prefix prefix-sound steps.behind_to.0 steps.to.0 steps.to.1;
      element = action.element_is;
      action = action.action_is;
    })

-- keys
pub key_push : (before key : List Element) (e : Element) → IsKeyAfter before key → IsElement e → with_key (before ++ key) e ≡ Ok ((before ++ key) ++ e ∷ []) → IsKeyAfter before (key ++ e ∷ [])
key_push before [] e h ok next =
    let same = append-nil before in
    let P : List Element → Type 0 = λ k. with_key k e ≡ Ok (k ++ e ∷ []) in
    (ok, subst P same next, tt)
key_push before (k ∷ key) e h ok next =
    let same = sym (append_assoc before (k ∷ []) key) in
    let P : List Element → Type 0 = λ l. with_key l e ≡ Ok (l ++ e ∷ []) in
    (h.0, h.1, key_push (before ++ k ∷ []) key e h.2 ok (subst P same next))

pub record AddsKey (key more : List Element) (e : Element) : Type 0 where
  pub more_is : key ++ e ∷ [] ≡ more
  pub room : length key < 16
  pub again : with_key key e ≡ Ok (key ++ e ∷ [])

pub with_key-sound : (key more : List Element) (e : Element) → with_key key e ≡ Ok more → AddsKey key more e
unfolding with_key
with_key-sound key more e h =
    let test = is_key_kind (kind_of e) && (not (list_any (λ k. eqb k.number e.number) key) && ltb (length key) 16) in
    let passed = guarded test BadKey (key ++ e ∷ []) more h in
    let parts = and_parts (is_key_kind (kind_of e)) (not (list_any (λ k. eqb k.number e.number) key) && ltb (length key) 16) passed.0 in
    let others = and_parts (not (list_any (λ k. eqb k.number e.number) key)) (ltb (length key) 16) parts.1 in
    record { more_is = passed.1; room = ltb-true (length key) 16 others.1; again = h ∙ ap (λ (l : List Element). Ok l) (sym passed.1) }

-- a key that these pieces made longer
record KeyFrom (key : List Element) (pieces : List Word) (out : List Element) : Type 0 where
  elements : IsKeyAfter [] out
  longer : length out ≡ length key + length pieces
  few : length out ≤ 16

pieces-sound : (key : List Element) (pieces : List Word) (out : List Element) → IsKeyAfter [] key → length key ≤ 16 → add_pieces key pieces ≡ Ok out → KeyFrom key pieces out
unfolding add_pieces add_piece
pieces-sound key [] out h few e = let P : List Element → Type 0 = λ x. KeyFrom key [] x in subst P (same_Ok key out e) (record { elements = h; longer = omega arith; few = few })
pieces-sound key (piece ∷ pieces) out h few e =
    let first = bind_Ok (element piece >>= λ x. with_key key x) (λ more. add_pieces more pieces) out e in
    let read = bind_Ok (element piece) (λ x. with_key key x) first.0 first.1 in
    let added = with_key-sound key first.0 read.0 read.2 in
    let P : List Element → Type 0 = λ x. IsKeyAfter [] x in
    let grown = subst P added.more_is (key_push [] key read.0 h (element-sound piece read.0 read.1) added.again) in
    let count : length first.0 ≡ length key + 1 = omega (arith, ap length added.more_is, length-append key (read.0 ∷ [])) in
    let room = added.room in
    let rest = pieces-sound first.0 pieces out grown (omega arith) first.2 in
    let longer = rest.longer in
    record { elements = rest.elements; longer = omega arith; few = rest.few }

key-sound : (w : Word) (key : List Element) → key_of w ≡ Ok key → IsKey key × IsKeyLength (length key)
unfolding key_of
key-sound w key e =
    let count = length-slice_split (λ c. eqb c 44) w in
    let h = pieces-sound [] (slice_split (λ c. eqb c 44) w) key tt (omega arith) e in
    let longer = h.longer in
    (as_key key h.elements, (omega arith, h.few))

new_name-sound : (aggregates : List Definition) (w n : Word) → new_name aggregates w ≡ Ok n → (is_name n ≡ true) × (place_of aggregates n ≡ None)
unfolding new_name
new_name-sound aggregates w n e =
    ⊎_elim (λ (named : is_name w ≡ true).
    let inner = rw named at e in
    ⊎_elim (λ (double : is_some (place_of aggregates w) ≡ true). absurd (Err-Ok DoubleAggregate n (rw double at inner)))
    (λ (fresh : is_some (place_of aggregates w) ≡ false).
    let same = same_Ok w n (rw fresh at inner) in
    let P : Word → Type 0 = λ x. (is_name x ≡ true) × (place_of aggregates x ≡ None) in
    subst P same (named, none_from_is_some (place_of aggregates w) fresh))
    (cases_Bool (is_some (place_of aggregates w))))
    (λ (other : is_name w ≡ false). absurd (Err-Ok BadName n (rw other at e)))
    (cases_Bool (is_name w))

-- an aggregate, word by word
abbrev pub aggregate_end : Word → List Element → ℕ → ℕ × List Word → Result Definition FaultKind
aggregate_end named key seconds grace = end_of_words grace.1 >>= λ nothing_more. Ok (record { name = named; key = key; interval = seconds; grace = grace.0 })

abbrev pub aggregate_grace : Word → List Element → ℕ → List Word → Result Definition FaultKind
aggregate_grace named key seconds c = next (number 86400) c >>= λ grace. aggregate_end named key seconds grace

abbrev pub aggregate_behind_interval : Word → List Element → ℕ × List Word → Result Definition FaultKind
aggregate_behind_interval named key seconds = behind_word (codes "grace") seconds.1 >>= λ c. aggregate_grace named key seconds.0 c

abbrev pub aggregate_interval : Word → List Element → List Word → Result Definition FaultKind
aggregate_interval named key b = next interval b >>= λ seconds. aggregate_behind_interval named key seconds

abbrev pub aggregate_behind_key : Word → List Element × List Word → Result Definition FaultKind
aggregate_behind_key named key = behind_word (codes "interval") key.1 >>= λ b. aggregate_interval named key.0 b

abbrev pub aggregate_key : Word → List Word → Result Definition FaultKind
aggregate_key named a = next key_of a >>= λ key. aggregate_behind_key named key

abbrev pub aggregate_behind_name : Word × List Word → Result Definition FaultKind
aggregate_behind_name named = behind_word (codes "key") named.1 >>= λ a. aggregate_key named.0 a

abbrev pub the_aggregate : Word → List Element → ℕ → ℕ → Definition
the_aggregate named key seconds grace = record { name = named; key = key; interval = seconds; grace = grace }

-- the steps in which an aggregate is read
pub record AggregateSteps (before : List Definition) (words : List Word) (a : Definition) : Type 0 where
  pub named : (x : Word × List Word) × (next (new_name before) words ≡ Ok x) × (aggregate_behind_name x ≡ Ok a)
  pub behind_key : (b : List Word) × (behind_word (codes "key") named.0.1 ≡ Ok b) × (aggregate_key named.0.0 b ≡ Ok a)
  pub key : (x : List Element × List Word) × (next key_of behind_key.0 ≡ Ok x) × (aggregate_behind_key named.0.0 x ≡ Ok a)
  pub behind_interval : (c : List Word) × (behind_word (codes "interval") key.0.1 ≡ Ok c) × (aggregate_interval named.0.0 key.0.0 c ≡ Ok a)
  pub seconds : (x : ℕ × List Word) × (next interval behind_interval.0 ≡ Ok x) × (aggregate_behind_interval named.0.0 key.0.0 x ≡ Ok a)
  pub behind_grace : (d : List Word) × (behind_word (codes "grace") seconds.0.1 ≡ Ok d) × (aggregate_grace named.0.0 key.0.0 seconds.0.0 d ≡ Ok a)
  pub grace : (x : ℕ × List Word) × (next (number 86400) behind_grace.0 ≡ Ok x) × (aggregate_end named.0.0 key.0.0 seconds.0.0 x ≡ Ok a)
  pub end : (nothing_more : Unit {0}) × (end_of_words grace.0.1 ≡ Ok nothing_more)
  pub made : the_aggregate named.0.0 key.0.0 seconds.0.0 grace.0.0 ≡ a

pub aggregate_steps : (before : List Definition) (words : List Word) (a : Definition) → aggregate_of before words ≡ Ok a → AggregateSteps before words a
unfolding aggregate_of
aggregate_steps before words a h =
    let named = bind_Ok (next (new_name before) words) (λ x. aggregate_behind_name x) a h in
    let s0 = bind_Ok (behind_word (codes "key") named.0.1) (λ x. aggregate_key named.0.0 x) a named.2 in
    let key = bind_Ok (next key_of s0.0) (λ x. aggregate_behind_key named.0.0 x) a s0.2 in
    let s1 = bind_Ok (behind_word (codes "interval") key.0.1) (λ x. aggregate_interval named.0.0 key.0.0 x) a key.2 in
    let seconds = bind_Ok (next interval s1.0) (λ x. aggregate_behind_interval named.0.0 key.0.0 x) a s1.2 in
    let s2 = bind_Ok (behind_word (codes "grace") seconds.0.1) (λ x. aggregate_grace named.0.0 key.0.0 seconds.0.0 x) a seconds.2 in
    let grace = bind_Ok (next (number 86400) s2.0) (λ x. aggregate_end named.0.0 key.0.0 seconds.0.0 x) a s2.2 in
    let end = bind_Ok (end_of_words grace.0.1) (λ nothing_more. Ok (record { name = named.0.0; key = key.0.0; interval = seconds.0.0; grace = grace.0.0 })) a grace.2 in
    record { named = named; behind_key = s0; key = key; behind_interval = s1; seconds = seconds; behind_grace = s2; grace = grace; end = (end.0, end.1); made = same_Ok (the_aggregate named.0.0 key.0.0 seconds.0.0 grace.0.0) a end.2 }

pub aggregate_of-sound : (before : List Definition) (words : List Word) (a : Definition) → aggregate_of before words ≡ Ok a → IsAggregate before a
aggregate_of-sound before words a h =
    let steps = aggregate_steps before words a h in
    let name_word = next_word (new_name before) words steps.named.0 steps.named.1 in
    let name_is = new_name-sound before name_word.0 steps.named.0.0 name_word.1 in
    let key_word = next_word key_of steps.behind_key.0 steps.key.0 steps.key.1 in
    let key_is = key-sound key_word.0 steps.key.0.0 key_word.1 in
    let seconds_word = next_word interval steps.behind_interval.0 steps.seconds.0 steps.seconds.1 in
    let seconds_are = interval-sound seconds_word.0 steps.seconds.0.0 seconds_word.1 in
    let grace_word = next_word (number 86400) steps.behind_grace.0 steps.grace.0 steps.grace.1 in
    let grace_is = number-sound 86400 (omega arith) grace_word.0 steps.grace.0.0 grace_word.1 in
    let P : Definition → Type 0 = λ x. IsAggregate before x in
    subst P steps.made
    (record {
      name = name_is.0;
      other = name_is.1;
      key = key_is.0;
      ranged = record { elements = key_is.1; interval_low = seconds_are.0; interval_high = seconds_are.1; grace_high = grace_is };
    })
