-- What is read is spelled so, and what is spelled so is read.
use Rattle.std.proofs.Common.{◌≡◌, ◌⊎◌, inl, inr, ℕ, ◌+◌, ◌^◌, ◌<◌, Bool, true, false, cond, eqb, leb, List, [], ◌∷◌, ◌++◌, length, map, Option, Some, None, Result, Ok, Err, IfOk, refl, sym, ap, ◌∙◌, subst, arith, ⊎_elim, append_assoc, append-nil, codes, ltb, is_some}
use Rattle.std.specs.List.{slice_split, join_with_byte}
use Rattle.std.specs.Str.{bytes_eq}
use Rattle.std.specs.Fmt.{decimal}
use Rattle.std.proofs.lemmas.Slice.Eq.{bytes_eq-Decides}
use Rattle.std.proofs.lemmas.List.Splits.{join_with_byte-slice_split}
use Rattle.std.proofs.lemmas.Option.{same_Some, none-some}
use Rattle.std.proofs.lemmas.Bool.{cases_Bool, leb-false, lt-leb, and_parts}
use Rattle.ipfix_element.specs.Element.{Element}
use Rattle.ipfix_element.specs.Names.{element_name}
use Rattle.flow_prefix.specs.declared.prefix.Prefix.{Prefix}
use Rattle.flow_prefix.specs.declared.fault.Fault.{Fault as PrefixFault}
use Rattle.numerals.specs.Numerals.{number_of}
use Rattle.flow_prefix.specs.Reading.{prefix_of}
use Rattle.flow_prefix.specs.Text.{IsPrefixText}
use Rattle.numerals.proofs.NumeralLaws.{number_of-found}
use Rattle.flow_prefix.proofs.PrefixLaws.{prefix_of-found, prefix_of-only}
use Rattle.sequences.proofs.ResultLaws.{Err-Ok, same_Ok, bind_Ok}
use Rattle.sequences.specs.Results.{◌>>=◌}
use Rattle.policy_text.specs.declared.fault.FaultKind.{FaultKind}
use Rattle.policy_text.specs.declared.fault.FaultKind.TheVariants.{UnknownAggregate, DoubleAggregate, UnknownWord, NoHeader, BadName, BadNumber, BadPrefix, BadTruncate, TooMany, BadDegrade}
use Rattle.policy_text.specs.declared.fault.Fault.{Fault}
use Rattle.policy_text.specs.declared.rule.Rule.{Rule}
use Rattle.policy_text.specs.declared.rule.Action.{Action}
use Rattle.policy_text.specs.declared.rule.Action.TheVariants.{Pass, Withhold, Aggregate, Keep, Remove, Truncate, Degrade}
use Rattle.policy_text.specs.declared.version.Version.{Version}
use Rattle.policy_text.specs.declared.version.Version.TheVariants.{One, Two}
use Rattle.policy_text.specs.Words.{Word, words_of, lines_of, is_skipped}
use Rattle.policy_text.specs.Naming.{is_name}
use Rattle.policy_text.specs.Elements.{element_of}
use Rattle.policy_text.specs.Policies.{PolicyMeaning, has_degrade, without_lines, with_rule, with_aggregate, Aggregate as Definition}
use Rattle.policy_text.specs.Results.{at_line, then_read, Parses}
use Rattle.policy_text.specs.Classes.{name, number, element, prefix, prefix_or_fault, star, some_of, or_star, with_key, add_piece, add_pieces, key_of, place_of, width_at, is_time_at, aggregate_place, new_name, interval, bits_within}
use Rattle.policy_text.specs.Lines.{next_of, next, behind_word, end_of_words, truncate_of, degrade_of, read_element_action, aggregate_action, on_element, action_of, rule_of, aggregate_of, rule_line, aggregate_line, policy_after_line}
use Rattle.policy_text.specs.Parsing.{numbered_version, version_of, after_header, step, line_step, read_lines, policy_of}
use Rattle.policy_text.specs.Grammar.{name_at}
use Rattle.policy_text.specs.Printing.{word_or_star, itself, action_words, key_text, aggregate_words, version_word, header}
use Rattle.policy_text.specs.Spelling.{IsPrefixWord, rule_tail, SpellsRule, AddsRule, AddsAggregate, AfterLine, AreLines, AreAllLines, Spells, OnePolicy}
use Rattle.policy_text.proofs.ElementLaws.{element_of-found}
use Rattle.policy_text.proofs.ParsingLaws.{read_lines-cons, read_lines-done, read_lines-empty}
use Rattle.policy_text.proofs.PrintedClassLaws.{name-printed, or_star-word, or_star-star, or_star-printed, name-star, number-star, prefix-star}
use Rattle.policy_text.proofs.SoundLaws.{guarded, or_fault-Ok, place_name, with_key-sound, degrade_word, or_degrade, or_truncate, or_remove, on_treatment, rule_steps, aggregate_steps, rule_of-sound, aggregate_of-sound}
use Rattle.policy_text.proofs.RoundLaws.{domain_back, action_back, aggregate_back, header_step}

next_of-text : (words : List Word) (x : Word × List Word) → next_of words ≡ Ok x → words ≡ x.0 ∷ x.1
unfolding next_of
next_of-text [] x e = absurd (Err-Ok UnknownWord x e)
next_of-text (w ∷ words) x e = ap (λ (y : Word × List Word). y.0 ∷ y.1) (same_Ok (w, words) x e)

next-text : {A : Type 0} (class : Word → Result A FaultKind) (words : List Word) (x : A × List Word) → next class words ≡ Ok x → (w : Word) × (words ≡ w ∷ x.1) × (class w ≡ Ok x.0)
unfolding next
next-text {A} class words x e =
    let first = bind_Ok (next_of words) (λ w. class w.0 >>= λ a. Ok (a, w.1)) x e in
    let second = bind_Ok (class first.0.0) (λ a. Ok (a, first.0.1)) x first.2 in
    let same = same_Ok (second.0, first.0.1) x second.2 in
    (first.0.0, next_of-text words first.0 first.1 ∙ ap (λ (y : A × List Word). first.0.0 ∷ y.1) same, second.1 ∙ ap (λ (y : A × List Word). Ok y.0) same)

after-text : (keyword : Word) (words rest : List Word) → behind_word keyword words ≡ Ok rest → words ≡ keyword ∷ rest
unfolding behind_word
after-text keyword words rest e =
    let first = bind_Ok (next_of words) (λ w. cond (bytes_eq w.0 keyword) (Ok w.1) (Err UnknownWord)) rest e in
    let h = guarded (bytes_eq first.0.0 keyword) UnknownWord first.0.1 rest first.2 in
    let same = (bytes_eq-Decides first.0.0 keyword).0 h.0 in
    next_of-text words first.0 first.1 ∙ ap (λ w. w ∷ first.0.1) same ∙ ap (λ ws. keyword ∷ ws) h.1

ended-text : (words : List Word) (u : Unit {0}) → end_of_words words ≡ Ok u → words ≡ []
unfolding end_of_words
ended-text [] u e = refl
ended-text (w ∷ words) u e = absurd (Err-Ok UnknownWord u e)

-- the words of classes
class_text : {A : Type 0} (class : Word → Result A FaultKind) (word : A → Word) → ((w : Word) (a : A) → class w ≡ Ok a → w ≡ word a) → (w : Word) (r : Result A FaultKind) (p : Option A) → class w ≡ r → some_of r ≡ Ok p → w ≡ word_or_star word p
class_text class word spelled w (Ok a) p c h = spelled w a c ∙ ap (word_or_star word) (same_Ok (Some a) p h)
class_text class word spelled w (Err k) p c h = absurd (Err-Ok k p h)

or_star-text : {A : Type 0} (class : Word → Result A FaultKind) (word : A → Word) → ((w : Word) (a : A) → class w ≡ Ok a → w ≡ word a) → (w : Word) (o : Option A) → or_star class w ≡ Ok o → w ≡ word_or_star word o
unfolding or_star
or_star-text {A} class word spelled w o e =
    ⊎_elim (λ (t : bytes_eq w star ≡ true).
    let none = same_Ok None o (rw t at e) in
    (bytes_eq-Decides w star).0 t ∙ ap (word_or_star word) none)
    (λ (f : bytes_eq w star ≡ false). class_text class word spelled w (class w) o refl (rw f at e))
    (cases_Bool (bytes_eq w star))

name-text : (w n : Word) → name w ≡ Ok n → w ≡ itself n
unfolding name
name-text w n e = (guarded (is_name w) BadName w n e).1

number-text : (most : ℕ) → most < 2 ^ 64 → (w : Word) (n : ℕ) → number most w ≡ Ok n → w ≡ decimal n
unfolding number
number-text most small w n e = (number_of-found most w n small (or_fault-Ok BadNumber (number_of most w) n e)).text

element-text : (w : Word) (e : Element) → element w ≡ Ok e → w ≡ element_name e
unfolding element
element-text w e h = (element_of-found w e (or_fault-Ok BadName (element_of w) e h)).1

prefix_by : (text : Word) (r : Result Prefix PrefixFault) (p : Prefix) → IfOk r (λ q. IsPrefixText text q) → prefix_or_fault r ≡ Ok p → IsPrefixText text p
prefix_by text (Ok q) p h e = let P : Prefix → Type 0 = λ x. IsPrefixText text x in subst P (same_Ok q p e) h
prefix_by text (Err fault) p h e = absurd (Err-Ok BadPrefix p e)

prefix-text : (w : Word) (p : Prefix) → prefix w ≡ Ok p → IsPrefixText w p
unfolding prefix
prefix-text w p e = prefix_by w (prefix_of w) p (prefix_of-found w) e

prefix_some : (w : Word) (r : Result Prefix FaultKind) (o : Option Prefix) → prefix w ≡ r → some_of r ≡ Ok o → IsPrefixWord o w
prefix_some w (Ok p) o c h = let P : Option Prefix → Type 0 = λ x. IsPrefixWord x w in subst P (same_Ok (Some p) o h) (prefix-text w p c)
prefix_some w (Err k) o c h = absurd (Err-Ok k o h)

prefix_word : (w : Word) (o : Option Prefix) → or_star prefix w ≡ Ok o → IsPrefixWord o w
unfolding or_star
prefix_word w o e =
    ⊎_elim (λ (t : bytes_eq w star ≡ true).
    let P : Option Prefix → Type 0 = λ x. IsPrefixWord x w in
    subst P (same_Ok None o (rw t at e)) ((bytes_eq-Decides w star).0 t))
    (λ (f : bytes_eq w star ≡ false). prefix_some w (prefix w) o refl (rw f at e))
    (cases_Bool (bytes_eq w star))

-- keys
record SpellsKey (before out : List Element) (pieces : List Word) : Type 0 where
  pub more : List Element
  pub out_is : before ++ more ≡ out
  pub pieces_are : pieces ≡ map element_name more

pieces-text : (before : List Element) (pieces : List Word) (out : List Element) → add_pieces before pieces ≡ Ok out → SpellsKey before out pieces
unfolding add_pieces add_piece
pieces-text before [] out e = record { more = []; out_is = append-nil before ∙ same_Ok before out e; pieces_are = refl }
pieces-text before (piece ∷ pieces) out e =
    let first = bind_Ok (element piece >>= λ x. with_key before x) (λ more. add_pieces more pieces) out e in
    let read = bind_Ok (element piece) (λ x. with_key before x) first.0 first.1 in
    let added = with_key-sound before first.0 read.0 read.2 in
    let rest = pieces-text first.0 pieces out first.2 in
    record {
      more = read.0 ∷ rest.more;
      out_is = sym (append_assoc before (read.0 ∷ []) rest.more) ∙ ap (λ l. l ++ rest.more) added.more_is ∙ rest.out_is;
      pieces_are = ap (λ w. w ∷ pieces) (element-text piece read.0 read.1) ∙ ap (λ ws. element_name read.0 ∷ ws) rest.pieces_are;
    }

key-text : (w : Word) (key : List Element) → key_of w ≡ Ok key → w ≡ key_text key
unfolding key_of
key-text w key e =
    let h = pieces-text [] (slice_split (λ c. eqb c 44) w) key e in
    sym (join_with_byte-slice_split 44 w) ∙ ap (join_with_byte 44) (h.pieces_are ∙ ap (map element_name) h.out_is)

interval-text : (w : Word) (n : ℕ) → interval w ≡ Ok n → w ≡ decimal n
unfolding interval
interval-text w n e =
    let read = bind_Ok (number 86400 w) (λ seconds. cond (ltb seconds 1) (Err BadNumber) (Ok seconds)) n e in
    ⊎_elim (λ (low : ltb read.0 1 ≡ true). absurd (Err-Ok BadNumber n (rw low at read.2)))
    (λ (good : ltb read.0 1 ≡ false). number-text 86400 (omega arith) w read.0 read.1 ∙ ap decimal (same_Ok read.0 n (rw good at read.2)))
    (cases_Bool (ltb read.0 1))

new_name-text : (aggregates : List Definition) (w n : Word) → new_name aggregates w ≡ Ok n → w ≡ n
unfolding new_name
new_name-text aggregates w n e =
    ⊎_elim (λ (named : is_name w ≡ true).
    let inner = rw named at e in
    ⊎_elim (λ (double : is_some (place_of aggregates w) ≡ true). absurd (Err-Ok DoubleAggregate n (rw double at inner)))
    (λ (fresh : is_some (place_of aggregates w) ≡ false). same_Ok w n (rw fresh at inner))
    (cases_Bool (is_some (place_of aggregates w))))
    (λ (other : is_name w ≡ false). absurd (Err-Ok BadName n (rw other at e)))
    (cases_Bool (is_name w))

place-text : (aggregates : List Definition) (w : Word) (place : ℕ) → aggregate_place aggregates w ≡ Ok place → w ≡ name_at aggregates place
unfolding aggregate_place
place-text aggregates w place e =
    ⊎_elim (λ (named : is_name w ≡ true). sym (place_name aggregates w place (or_fault-Ok UnknownAggregate (place_of aggregates w) place (rw named at e))))
    (λ (other : is_name w ≡ false). absurd (Err-Ok BadName place (rw other at e)))
    (cases_Bool (is_name w))

bits-text : (width : ℕ) (w : Word) (n : ℕ) → bits_within width w ≡ Ok n → w ≡ decimal n
unfolding bits_within
bits-text width w n e =
    let read = bind_Ok (number 999 w) (λ bits. cond (leb bits width) (Ok bits) (Err BadTruncate)) n e in
    number-text 999 (omega arith) w read.0 read.1 ∙ ap decimal (guarded (leb read.0 width) BadTruncate read.0 n read.2).1

-- actions
record SpellsTruncate (words : List Word) (x : Action × List Word) : Type 0 where
  pub bits : ℕ
  pub what_is : (Truncate bits, x.1) ≡ x
  pub words_are : words ≡ decimal bits ∷ x.1

truncate-text : (width : Option ℕ) (words : List Word) (x : Action × List Word) → truncate_of width words ≡ Ok x → SpellsTruncate words x
unfolding truncate_of
truncate-text None words x e = absurd (Err-Ok BadTruncate x e)
truncate-text (Some width) words x e =
    let read = bind_Ok (next (bits_within width) words) (λ bits. Ok (Truncate bits.0, bits.1)) x e in
    let word = next-text (bits_within width) words read.0 read.1 in
    let same = same_Ok (Truncate read.0.0, read.0.1) x read.2 in
    let rest : read.0.1 ≡ x.1 = ap (λ (y : Action × List Word). y.1) same in
    record {
      bits = read.0.0;
      what_is = ap (λ (ws : List Word). (Truncate read.0.0, ws)) (sym rest) ∙ same;
      words_are = word.1 ∙ ap (λ w. w ∷ read.0.1) (bits-text width word.0 read.0.0 word.2) ∙ ap (λ ws. decimal read.0.0 ∷ ws) rest;
    }

record SpellsDegrade (words : List Word) (x : Action × List Word) : Type 0 where
  pub seconds : ℕ
  pub what_is : (Degrade seconds, x.1) ≡ x
  pub words_are : words ≡ decimal seconds ∷ x.1

degrade-text : (is_time : Bool) (words : List Word) (x : Action × List Word) → degrade_of is_time words ≡ Ok x → SpellsDegrade words x
unfolding degrade_of
degrade-text false words x e = absurd (Err-Ok BadDegrade x e)
degrade-text true words x e =
    let read = bind_Ok (next interval words) (λ seconds. Ok (Degrade seconds.0, seconds.1)) x e in
    let word = next-text interval words read.0 read.1 in
    let same = same_Ok (Degrade read.0.0, read.0.1) x read.2 in
    let rest : read.0.1 ≡ x.1 = ap (λ (y : Action × List Word). y.1) same in
    record {
      seconds = read.0.0;
      what_is = ap (λ (ws : List Word). (Degrade read.0.0, ws)) (sym rest) ∙ same;
      words_are = word.1 ∙ ap (λ w. w ∷ read.0.1) (interval-text word.0 read.0.0 word.2) ∙ ap (λ ws. decimal read.0.0 ∷ ws) rest;
    }

-- the words of an action on an element
abbrev behind_element : Action → List Word
behind_element Pass = []
behind_element Withhold = []
behind_element (Aggregate place) = []
behind_element Keep = codes "keep" ∷ []
behind_element Remove = codes "remove" ∷ []
behind_element (Truncate bits) = codes "truncate" ∷ decimal bits ∷ []
behind_element (Degrade seconds) = codes "degrade" ∷ decimal seconds ∷ []

on_fields : Action → Type 0
on_fields Pass = ⊥
on_fields Withhold = ⊥
on_fields (Aggregate place) = ⊥
on_fields Keep = Unit {0}
on_fields Remove = Unit {0}
on_fields (Truncate bits) = Unit {0}
on_fields (Degrade seconds) = Unit {0}

abbrev SpellsElementAction : List Word → Action × List Word → Type 0
SpellsElementAction words x = on_fields x.0 × (words ≡ behind_element x.0 ++ x.1)

degraded-text : (version : Version) (e : Option Element) (w : Word × List Word) (words : List Word) (x : Action × List Word) → words ≡ w.0 ∷ w.1 → or_degrade version e w ≡ Ok x → SpellsElementAction words x
unfolding on_fields
degraded-text version e w words x whole h =
    ⊎_elim (λ (t : degrade_word version w.0 ≡ true).
    let known = and_parts (has_degrade version) (bytes_eq w.0 (codes "degrade")) t in
    let d = degrade-text (is_time_at e) w.1 x (rw t at h) in
    let Q : Action × List Word → Type 0 = λ y. on_fields y.0 × (words ≡ behind_element y.0 ++ x.1) in
    subst Q d.what_is (tt, whole ∙ ap (λ k. k ∷ w.1) ((bytes_eq-Decides w.0 (codes "degrade")).0 known.1) ∙ ap (λ ws. codes "degrade" ∷ ws) d.words_are))
    (λ (none : degrade_word version w.0 ≡ false). absurd (Err-Ok UnknownWord x (rw none at h)))
    (cases_Bool (degrade_word version w.0))

element_action-text : (version : Version) (e : Option Element) (words : List Word) (x : Action × List Word) → read_element_action version e words ≡ Ok x → SpellsElementAction words x
unfolding read_element_action on_fields
element_action-text version e words x h =
    let first = bind_Ok (next_of words) (λ w. on_treatment version e w) x h in
    let w = first.0 in
    let whole = next_of-text words first.0 first.1 in
    let P : Action × List Word → Type 0 = λ y. SpellsElementAction words y in
    ⊎_elim (λ (t : bytes_eq w.0 (codes "keep") ≡ true).
    subst P (same_Ok (Keep, w.1) x (rw t at first.2)) (tt, whole ∙ ap (λ k. k ∷ w.1) ((bytes_eq-Decides w.0 (codes "keep")).0 t)))
    (λ (f : bytes_eq w.0 (codes "keep") ≡ false).
    let others : or_remove version e w ≡ Ok x = rw f at first.2 in
    ⊎_elim (λ (t : bytes_eq w.0 (codes "remove") ≡ true).
    subst P (same_Ok (Remove, w.1) x (rw t at others)) (tt, whole ∙ ap (λ k. k ∷ w.1) ((bytes_eq-Decides w.0 (codes "remove")).0 t)))
    (λ (g : bytes_eq w.0 (codes "remove") ≡ false).
    let last : or_truncate version e w ≡ Ok x = rw g at others in
    ⊎_elim (λ (t : bytes_eq w.0 (codes "truncate") ≡ true).
    let cut = truncate-text (width_at e) w.1 x (rw t at last) in
    let Q : Action × List Word → Type 0 = λ y. on_fields y.0 × (words ≡ behind_element y.0 ++ x.1) in
    subst Q cut.what_is (tt, whole ∙ ap (λ k. k ∷ w.1) ((bytes_eq-Decides w.0 (codes "truncate")).0 t) ∙ ap (λ ws. codes "truncate" ∷ ws) cut.words_are))
    (λ (none : bytes_eq w.0 (codes "truncate") ≡ false). degraded-text version e w words x whole (rw none at last))
    (cases_Bool (bytes_eq w.0 (codes "truncate"))))
    (cases_Bool (bytes_eq w.0 (codes "remove"))))
    (cases_Bool (bytes_eq w.0 (codes "keep")))

element_row : (aggregates : List Definition) (e : Option Element) (action : Action) (rest : List Word) → on_fields action → codes "element" ∷ word_or_star element_name e ∷ (behind_element action ++ rest) ≡ action_words aggregates e action ++ rest
unfolding on_fields
element_row aggregates e Pass rest h = absurd h
element_row aggregates e Withhold rest h = absurd h
element_row aggregates e (Aggregate place) rest h = absurd h
element_row aggregates e Keep rest h = refl
element_row aggregates e Remove rest h = refl
element_row aggregates e (Truncate bits) rest h = refl
element_row aggregates e (Degrade seconds) rest h = refl

abbrev SpellsAction : List Definition → List Word → (Option Element × Action) × List Word → Type 0
SpellsAction aggregates words x = words ≡ action_words aggregates x.0.0 x.0.1 ++ x.1

on_element-text : (version : Version) (aggregates : List Definition) (words : List Word) (x : (Option Element × Action) × List Word) → on_element version words ≡ Ok x → SpellsAction aggregates (codes "element" ∷ words) x
unfolding on_element
on_element-text version aggregates words x h =
    let first = bind_Ok (next (or_star element) words) (λ e. read_element_action version e.0 e.1 >>= λ action. Ok ((e.0, action.0), action.1)) x h in
    let second = bind_Ok (read_element_action version first.0.0 first.0.1) (λ action. Ok ((first.0.0, action.0), action.1)) x first.2 in
    let word = next-text (or_star element) words first.0 first.1 in
    let named = or_star-text element element_name element-text word.0 first.0.0 word.2 in
    let action = element_action-text version first.0.0 first.0.1 second.0 second.1 in
    let P : (Option Element × Action) × List Word → Type 0 = λ y. SpellsAction aggregates (codes "element" ∷ words) y in
    subst P (same_Ok ((first.0.0, second.0.0), second.0.1) x second.2)
    (ap (λ ws. codes "element" ∷ ws) (word.1 ∙ ap (λ w. w ∷ first.0.1) named ∙ ap (λ ws. word_or_star element_name first.0.0 ∷ ws) action.1)
    ∙ element_row aggregates first.0.0 second.0.0 second.0.1 action.0)

aggregate_action-text : (aggregates : List Definition) (words : List Word) (x : (Option Element × Action) × List Word) → aggregate_action aggregates words ≡ Ok x → SpellsAction aggregates (codes "aggregate" ∷ words) x
unfolding aggregate_action
aggregate_action-text aggregates words x h =
    let read = bind_Ok (next (aggregate_place aggregates) words) (λ place. Ok ((None, Aggregate place.0), place.1)) x h in
    let word = next-text (aggregate_place aggregates) words read.0 read.1 in
    let P : (Option Element × Action) × List Word → Type 0 = λ y. SpellsAction aggregates (codes "aggregate" ∷ words) y in
    subst P (same_Ok ((None, Aggregate read.0.0), read.0.1) x read.2)
    (ap (λ ws. codes "aggregate" ∷ ws) (word.1 ∙ ap (λ w. w ∷ read.0.1) (place-text aggregates word.0 read.0.0 word.2)))

action_of-text : (version : Version) (aggregates : List Definition) (words : List Word) (x : (Option Element × Action) × List Word) → action_of version aggregates words ≡ Ok x → SpellsAction aggregates words x
unfolding action_of
action_of-text version aggregates words x h =
    let first = bind_Ok (next_of words) (λ w. cond (bytes_eq w.0 (codes "pass")) (Ok ((None, Pass), w.1)) (cond (bytes_eq w.0 (codes "withhold")) (Ok ((None, Withhold), w.1)) (cond (bytes_eq w.0 (codes "aggregate")) (aggregate_action aggregates w.1) (cond (bytes_eq w.0 (codes "element")) (on_element version w.1) (Err UnknownWord))))) x h in
    let w = first.0 in
    let whole = next_of-text words first.0 first.1 in
    let P : (Option Element × Action) × List Word → Type 0 = λ y. SpellsAction aggregates words y in
    ⊎_elim (λ (t : bytes_eq w.0 (codes "pass") ≡ true).
    subst P (same_Ok ((None, Pass), w.1) x (rw t at first.2)) (whole ∙ ap (λ k. k ∷ w.1) ((bytes_eq-Decides w.0 (codes "pass")).0 t)))
    (λ (f : bytes_eq w.0 (codes "pass") ≡ false).
    let others = rw f at first.2 in
    ⊎_elim (λ (t : bytes_eq w.0 (codes "withhold") ≡ true).
    subst P (same_Ok ((None, Withhold), w.1) x (rw t at others)) (whole ∙ ap (λ k. k ∷ w.1) ((bytes_eq-Decides w.0 (codes "withhold")).0 t)))
    (λ (g : bytes_eq w.0 (codes "withhold") ≡ false).
    let more = rw g at others in
    ⊎_elim (λ (t : bytes_eq w.0 (codes "aggregate") ≡ true).
    whole ∙ ap (λ k. k ∷ w.1) ((bytes_eq-Decides w.0 (codes "aggregate")).0 t) ∙ aggregate_action-text aggregates w.1 x (rw t at more))
    (λ (i : bytes_eq w.0 (codes "aggregate") ≡ false).
    let last = rw i at more in
    ⊎_elim (λ (t : bytes_eq w.0 (codes "element") ≡ true).
    whole ∙ ap (λ k. k ∷ w.1) ((bytes_eq-Decides w.0 (codes "element")).0 t) ∙ on_element-text version aggregates w.1 x (rw t at last))
    (λ (none : bytes_eq w.0 (codes "element") ≡ false). absurd (Err-Ok UnknownWord x (rw none at last)))
    (cases_Bool (bytes_eq w.0 (codes "element"))))
    (cases_Bool (bytes_eq w.0 (codes "aggregate"))))
    (cases_Bool (bytes_eq w.0 (codes "withhold"))))
    (cases_Bool (bytes_eq w.0 (codes "pass")))

-- one word more in front
onto : (w v : Word) (words rest more : List Word) → words ≡ w ∷ rest → w ≡ v → rest ≡ more → words ≡ v ∷ more
onto w v words rest more e f g = e ∙ ap (λ x. x ∷ rest) f ∙ ap (λ ws. v ∷ ws) g

-- a rule's words
record RuleWords (aggregates : List Definition) (words : List Word) (r : Rule) : Type 0 where
  pub from : Word
  pub to : Word
  pub from_is : IsPrefixWord r.from from
  pub to_is : IsPrefixWord r.to to
  pub words_are : words ≡ rule_tail aggregates r from to

rule_words-found : (version : Version) (aggregates : List Definition) (words : List Word) (r : Rule) → rule_of version aggregates words ≡ Ok r → RuleWords aggregates words r
rule_words-found version aggregates words r h =
    let steps = rule_steps version aggregates words r h in
    let who_word = next-text (or_star name) steps.behind_for.0 steps.who.0 steps.who.1 in
    let domain_word = next-text (or_star (number 4294967295)) steps.behind_in.0 steps.domain.0 steps.domain.1 in
    let from_word = next-text (or_star prefix) steps.behind_from.0 steps.from.0 steps.from.1 in
    let to_word = next-text (or_star prefix) steps.behind_to.0 steps.to.0 steps.to.1 in
    let actions = action_words aggregates steps.action.0.0.0 steps.action.0.0.1 in
    let t5 : steps.to.0.1 ≡ actions = action_of-text version aggregates steps.to.0.1 steps.action.0 steps.action.1 ∙ ap (λ ws. actions ++ ws) (ended-text steps.action.0.1 steps.end.0 steps.end.1) ∙ append-nil actions in
    let t4 = after-text (codes "to") steps.from.0.1 steps.behind_to.0 steps.behind_to.1 ∙ ap (λ ws. codes "to" ∷ ws) (onto to_word.0 to_word.0 steps.behind_to.0 steps.to.0.1 actions to_word.1 refl t5) in
    let t3 = after-text (codes "from") steps.domain.0.1 steps.behind_from.0 steps.behind_from.1 ∙ ap (λ ws. codes "from" ∷ ws) (onto from_word.0 from_word.0 steps.behind_from.0 steps.from.0.1 (codes "to" ∷ to_word.0 ∷ actions) from_word.1 refl t4) in
    let t2 = after-text (codes "in") steps.who.0.1 steps.behind_in.0 steps.behind_in.1 ∙ ap (λ ws. codes "in" ∷ ws) (onto domain_word.0 (word_or_star decimal steps.domain.0.0) steps.behind_in.0 steps.domain.0.1 (codes "from" ∷ from_word.0 ∷ codes "to" ∷ to_word.0 ∷ actions) domain_word.1 (or_star-text (number 4294967295) decimal (number-text 4294967295 (omega arith)) domain_word.0 steps.domain.0.0 domain_word.2) t3) in
    let t1 = after-text (codes "for") words steps.behind_for.0 steps.behind_for.1 ∙ ap (λ ws. codes "for" ∷ ws) (onto who_word.0 (word_or_star itself steps.who.0.0) steps.behind_for.0 steps.who.0.1 (codes "in" ∷ word_or_star decimal steps.domain.0.0 ∷ codes "from" ∷ from_word.0 ∷ codes "to" ∷ to_word.0 ∷ actions) who_word.1 (or_star-text name itself name-text who_word.0 steps.who.0.0 who_word.2) t2) in
    let P : Rule → Type 0 = λ x. RuleWords aggregates words x in
    subst P steps.made
    (record { from = from_word.0; to = to_word.0; from_is = prefix_word from_word.0 steps.from.0.0 from_word.2; to_is = prefix_word to_word.0 steps.to.0.0 to_word.2; words_are = t1 })

aggregate_words-found : (before : List Definition) (words : List Word) (a : Definition) → aggregate_of before words ≡ Ok a → codes "aggregate" ∷ words ≡ aggregate_words a
aggregate_words-found before words a h =
    let steps = aggregate_steps before words a h in
    let name_word = next-text (new_name before) words steps.named.0 steps.named.1 in
    let key_word = next-text key_of steps.behind_key.0 steps.key.0 steps.key.1 in
    let seconds_word = next-text interval steps.behind_interval.0 steps.seconds.0 steps.seconds.1 in
    let grace_word = next-text (number 86400) steps.behind_grace.0 steps.grace.0 steps.grace.1 in
    let t3 = after-text (codes "grace") steps.seconds.0.1 steps.behind_grace.0 steps.behind_grace.1 ∙ ap (λ ws. codes "grace" ∷ ws) (onto grace_word.0 (decimal steps.grace.0.0) steps.behind_grace.0 steps.grace.0.1 [] grace_word.1 (number-text 86400 (omega arith) grace_word.0 steps.grace.0.0 grace_word.2) (ended-text steps.grace.0.1 steps.end.0 steps.end.1)) in
    let t2 = after-text (codes "interval") steps.key.0.1 steps.behind_interval.0 steps.behind_interval.1 ∙ ap (λ ws. codes "interval" ∷ ws) (onto seconds_word.0 (decimal steps.seconds.0.0) steps.behind_interval.0 steps.seconds.0.1 (codes "grace" ∷ decimal steps.grace.0.0 ∷ []) seconds_word.1 (interval-text seconds_word.0 steps.seconds.0.0 seconds_word.2) t3) in
    let t1 = after-text (codes "key") steps.named.0.1 steps.behind_key.0 steps.behind_key.1 ∙ ap (λ ws. codes "key" ∷ ws) (onto key_word.0 (key_text steps.key.0.0) steps.behind_key.0 steps.key.0.1 (codes "interval" ∷ decimal steps.seconds.0.0 ∷ codes "grace" ∷ decimal steps.grace.0.0 ∷ []) key_word.1 (key-text key_word.0 steps.key.0.0 key_word.2) t2) in
    let t0 = onto name_word.0 steps.named.0.0 words steps.named.0.1 (codes "key" ∷ key_text steps.key.0.0 ∷ codes "interval" ∷ decimal steps.seconds.0.0 ∷ codes "grace" ∷ decimal steps.grace.0.0 ∷ []) name_word.1 (new_name-text before name_word.0 steps.named.0.0 name_word.2) t1 in
    ap (λ ws. codes "aggregate" ∷ ws) t0 ∙ ap aggregate_words steps.made

-- lines
abbrev pub IsLine : PolicyMeaning → List Word → PolicyMeaning → Type 0
IsLine old words new = AddsRule old words new ⊎ AddsAggregate old words new

pub rule_line-found : (p q : PolicyMeaning) (words tail : List Word) → words ≡ codes "rule" ∷ tail → rule_line p tail ≡ Ok q → AddsRule p words q
unfolding rule_line
rule_line-found p q words tail e h =
    ⊎_elim (λ (full : leb 4096 (length p.rules) ≡ true). absurd (Err-Ok TooMany q (rw full at h)))
    (λ (room : leb 4096 (length p.rules) ≡ false).
    let read = bind_Ok (rule_of p.version p.aggregates tail) (λ r. Ok (with_rule p r)) q (rw room at h) in
    let found = rule_words-found p.version p.aggregates tail read.0 read.1 in
    let low = leb-false 4096 (length p.rules) room in
    record {
      tail = tail;
      rule = read.0;
      words_are = e;
      room = low;
      spelled = record { from = found.from; to = found.to; sound = rule_of-sound p.version p.aggregates tail read.0 read.1; from_is = found.from_is; to_is = found.to_is; words_are = found.words_are };
      added = same_Ok (with_rule p read.0) q read.2;
    })
    (cases_Bool (leb 4096 (length p.rules)))

aggregate_line-found : (p q : PolicyMeaning) (words tail : List Word) → words ≡ codes "aggregate" ∷ tail → aggregate_line p tail ≡ Ok q → AddsAggregate p words q
unfolding aggregate_line
aggregate_line-found p q words tail e h =
    ⊎_elim (λ (full : leb 256 (length p.aggregates) ≡ true). absurd (Err-Ok TooMany q (rw full at h)))
    (λ (room : leb 256 (length p.aggregates) ≡ false).
    let read = bind_Ok (aggregate_of p.aggregates tail) (λ a. Ok (with_aggregate p a)) q (rw room at h) in
    let low = leb-false 256 (length p.aggregates) room in
    record {
      aggregate = read.0;
      words_are = e ∙ aggregate_words-found p.aggregates tail read.0 read.1;
      room = low;
      sound = aggregate_of-sound p.aggregates tail read.0 read.1;
      added = same_Ok (with_aggregate p read.0) q read.2;
    })
    (cases_Bool (leb 256 (length p.aggregates)))

pub line_of-found : (p q : PolicyMeaning) (words : List Word) → policy_after_line p words ≡ Ok q → IsLine p words q
unfolding policy_after_line
line_of-found p q words h =
    let first = bind_Ok (next_of words) (λ w. cond (bytes_eq w.0 (codes "rule")) (rule_line p w.1) (cond (bytes_eq w.0 (codes "aggregate")) (aggregate_line p w.1) (Err UnknownWord))) q h in
    let w = first.0 in
    let whole = next_of-text words first.0 first.1 in
    ⊎_elim (λ (t : bytes_eq w.0 (codes "rule") ≡ true).
    inl (rule_line-found p q words w.1 (whole ∙ ap (λ k. k ∷ w.1) ((bytes_eq-Decides w.0 (codes "rule")).0 t)) (rw t at first.2)))
    (λ (f : bytes_eq w.0 (codes "rule") ≡ false).
    let others = rw f at first.2 in
    ⊎_elim (λ (t : bytes_eq w.0 (codes "aggregate") ≡ true).
    inr (aggregate_line-found p q words w.1 (whole ∙ ap (λ k. k ∷ w.1) ((bytes_eq-Decides w.0 (codes "aggregate")).0 t)) (rw t at others)))
    (λ (none : bytes_eq w.0 (codes "aggregate") ≡ false). absurd (Err-Ok UnknownWord q (rw none at others)))
    (cases_Bool (bytes_eq w.0 (codes "aggregate"))))
    (cases_Bool (bytes_eq w.0 (codes "rule")))

prefix_back : (o : Option Prefix) (w : Word) → IsPrefixWord o w → or_star prefix w ≡ Ok o
unfolding prefix
prefix_back None w h = ap (or_star prefix) h ∙ or_star-star prefix
prefix_back (Some p) w h = or_star-word prefix BadPrefix w p (ap prefix_or_fault (prefix_of-only w p h)) prefix-star

rule_only : (version : Version) (aggregates : List Definition) (words : List Word) (r : Rule) → SpellsRule version aggregates words r → rule_of version aggregates words ≡ Ok r
unfolding rule_of next next_of behind_word end_of_words
rule_only version aggregates words r h =
    ap (rule_of version aggregates) h.words_are
    ∙ rw (
      or_star-printed name BadName itself (λ w. is_name w ≡ true) name-printed name-star r.who h.sound.who,
      or_star-printed (number 4294967295) BadNumber decimal (λ d. d < 2 ^ 32) domain_back (number-star 4294967295) r.domain h.sound.domain,
      prefix_back r.from h.from h.from_is,
      prefix_back r.to h.to h.to_is,
      action_back version aggregates r.element r.action h.sound.element h.sound.action,
    ) refl

pub rule_line-only : (p q : PolicyMeaning) (words : List Word) → AddsRule p words q → policy_after_line p words ≡ Ok q
unfolding policy_after_line rule_line next_of
rule_line-only p q words h =
    ap (policy_after_line p) h.words_are ∙ rw (lt-leb 4096 (length p.rules) h.room, rule_only p.version p.aggregates h.tail h.rule h.spelled) (ap (λ (m : PolicyMeaning). Ok m) h.added)

aggregate_line-only : (p q : PolicyMeaning) (words : List Word) → AddsAggregate p words q → policy_after_line p words ≡ Ok q
unfolding policy_after_line aggregate_line next_of
aggregate_line-only p q words h =
    ap (policy_after_line p) h.words_are ∙ rw (lt-leb 256 (length p.aggregates) h.room, aggregate_back p.aggregates h.aggregate h.sound) (ap (λ (m : PolicyMeaning). Ok m) h.added)

pub line_of-only : (p q : PolicyMeaning) (words : List Word) → IsLine p words q → policy_after_line p words ≡ Ok q
line_of-only p q words h = ⊎_elim (λ (r : AddsRule p words q). rule_line-only p q words r) (λ (a : AddsAggregate p words q). aggregate_line-only p q words a) h

-- steps of reading, where a policy comes out
record Steps (so_far : Option PolicyMeaning) (line : List ℕ) (n : ℕ) (others : List (List ℕ)) (q : PolicyMeaning) : Type 0 where
  pub mid : Option PolicyMeaning
  pub stepped : line_step so_far line ≡ Ok mid
  pub rest : read_lines mid (n + 1) others ≡ Ok q

steps_by : (so_far : Option PolicyMeaning) (line : List ℕ) (n : ℕ) (others : List (List ℕ)) (q : PolicyMeaning) (r : Result (Option PolicyMeaning) FaultKind) → line_step so_far line ≡ r → then_read (at_line n r) (λ x. read_lines x (n + 1) others) ≡ Ok q → Steps so_far line n others q
steps_by so_far line n others q (Ok x) e h = record { mid = x; stepped = e; rest = h }
steps_by so_far line n others q (Err kind) e h = absurd (Err-Ok (record { line = n; kind = kind }) q h)

steps_of : (so_far : Option PolicyMeaning) (line : List ℕ) (n : ℕ) (others : List (List ℕ)) (q : PolicyMeaning) → read_lines so_far n (line ∷ others) ≡ Ok q → Steps so_far line n others q
steps_of so_far line n others q h = steps_by so_far line n others q (line_step so_far line) refl (sym (read_lines-cons so_far n line others) ∙ h)

pub record LineRead (p : PolicyMeaning) (line : List ℕ) (x : Option PolicyMeaning) : Type 0 where
  pub mid : PolicyMeaning
  pub is : Some mid ≡ x
  pub line_is : AfterLine p (words_of line) mid

pub line_step-found : (p : PolicyMeaning) (line : List ℕ) (x : Option PolicyMeaning) → line_step (Some p) line ≡ Ok x → LineRead p line x
unfolding line_step step
line_step-found p line x h =
    ⊎_elim (λ (skip : is_skipped (words_of line) ≡ true). record { mid = p; is = same_Ok (Some p) x (rw skip at h); line_is = inl (skip, refl) })
    (λ (kept : is_skipped (words_of line) ≡ false).
    let read = bind_Ok (policy_after_line p (words_of line)) (λ q. Ok (Some q)) x (rw kept at h) in
    record { mid = read.0; is = same_Ok (Some read.0) x read.2; line_is = inr (kept, line_of-found p read.0 (words_of line) read.1) })
    (cases_Bool (is_skipped (words_of line)))

lines-found : (p q : PolicyMeaning) (n : ℕ) (lines : List (List ℕ)) → read_lines (Some p) n lines ≡ Ok q → AreLines p lines q
lines-found p q n [] h = same_Ok p q (sym (read_lines-done p n) ∙ h)
lines-found p q n (line ∷ lines) h =
    let s = steps_of (Some p) line n lines q h in
    let read = line_step-found p line s.mid s.stepped in
    (read.mid, read.line_is, lines-found read.mid q (n + 1) lines (ap (λ x. read_lines x (n + 1) lines) read.is ∙ s.rest))

-- the header
pub numbered-is : (word : Word) (version : Version) → numbered_version word ≡ Some version → word ≡ version_word version
numbered-is word version e =
    ⊎_elim (λ (t : bytes_eq word (codes "1") ≡ true). (bytes_eq-Decides word (codes "1")).0 t ∙ ap version_word (same_Some One version (rw t at e)))
    (λ (f : bytes_eq word (codes "1") ≡ false).
    let other : cond (bytes_eq word (codes "2")) (Some Two) None ≡ Some version = rw f at e in
    ⊎_elim (λ (t : bytes_eq word (codes "2") ≡ true). (bytes_eq-Decides word (codes "2")).0 t ∙ ap version_word (same_Some Two version (rw t at other)))
    (λ (none : bytes_eq word (codes "2") ≡ false). absurd (none-some version (rw none at other)))
    (cases_Bool (bytes_eq word (codes "2"))))
    (cases_Bool (bytes_eq word (codes "1")))

pub version_of-is : (words : List Word) (version : Version) → version_of words ≡ Some version → words ≡ header version
unfolding version_of
version_of-is [] version h = absurd (none-some version h)
version_of-is (w ∷ []) version h = absurd (none-some version h)
version_of-is (w ∷ v ∷ []) version h =
    ⊎_elim (λ (t : bytes_eq w (codes "policy") ≡ true).
    ap (λ x. x ∷ v ∷ []) ((bytes_eq-Decides w (codes "policy")).0 t) ∙ ap (λ x. codes "policy" ∷ x ∷ []) (numbered-is v version (rw t at h)))
    (λ (f : bytes_eq w (codes "policy") ≡ false). absurd (none-some version (rw f at h)))
    (cases_Bool (bytes_eq w (codes "policy")))
version_of-is (w ∷ v ∷ u ∷ words) version h = absurd (none-some version h)

begun_by : (o : Option Version) (m : PolicyMeaning) → after_header o ≡ Ok m → (version : Version) × (o ≡ Some version) × (without_lines version ≡ m)
begun_by None m e = absurd (Err-Ok NoHeader m e)
begun_by (Some version) m e = (version, refl, same_Ok (without_lines version) m e)

pub record HeaderRead (line : List ℕ) (x : Option PolicyMeaning) : Type 0 where
  pub how : ((is_skipped (words_of line) ≡ true) × (None ≡ x)) ⊎ ((is_skipped (words_of line) ≡ false) × (version : Version) × (words_of line ≡ header version) × (Some (without_lines version) ≡ x))

pub header-found : (line : List ℕ) (x : Option PolicyMeaning) → line_step None line ≡ Ok x → HeaderRead line x
unfolding line_step step
header-found line x h =
    ⊎_elim (λ (skip : is_skipped (words_of line) ≡ true). record { how = inl (skip, same_Ok None x (rw skip at h)) })
    (λ (kept : is_skipped (words_of line) ≡ false).
    let read = bind_Ok (after_header (version_of (words_of line))) (λ q. Ok (Some q)) x (rw kept at h) in
    let b = begun_by (version_of (words_of line)) read.0 read.1 in
    record { how = inr (kept, b.0, version_of-is (words_of line) b.0 b.1, ap (λ (m : PolicyMeaning). Some m) b.2 ∙ same_Ok (Some read.0) x read.2) })
    (cases_Bool (is_skipped (words_of line)))

all-found : (q : PolicyMeaning) (n : ℕ) (lines : List (List ℕ)) → read_lines None n lines ≡ Ok q → AreAllLines lines q
all-found q n [] h = Err-Ok (record { line = 1; kind = NoHeader }) q (sym (read_lines-empty n) ∙ h)
all-found q n (line ∷ lines) h =
    let s = steps_of None line n lines q h in
    let read = header-found line s.mid s.stepped in
    ⊎_elim (λ (skip : (is_skipped (words_of line) ≡ true) × (None ≡ s.mid)).
    inl (skip.0, all-found q (n + 1) lines (ap (λ x. read_lines x (n + 1) lines) skip.1 ∙ s.rest)))
    (λ (kept : (is_skipped (words_of line) ≡ false) × (version : Version) × (words_of line ≡ header version) × (Some (without_lines version) ≡ s.mid)).
    inr (kept.0, kept.1, kept.2, lines-found (without_lines kept.1) q (n + 1) lines (ap (λ x. read_lines x (n + 1) lines) kept.3 ∙ s.rest)))
    read.how

-- what is read is spelled so
pub policy_of-found : (text : List ℕ) (q : PolicyMeaning) → policy_of text ≡ Ok q → Spells text q
unfolding policy_of
policy_of-found text q h = all-found q 1 (lines_of text) h

pub line_step-only : (p m : PolicyMeaning) (line : List ℕ) → AfterLine p (words_of line) m → line_step (Some p) line ≡ Ok (Some m)
unfolding line_step step
line_step-only p m line h =
    ⊎_elim (λ (skip : (is_skipped (words_of line) ≡ true) × (p ≡ m)). rw skip.0 (ap (λ (x : PolicyMeaning). Ok (Some x)) skip.1))
    (λ (kept : (is_skipped (words_of line) ≡ false) × IsLine p (words_of line) m). rw (kept.0, line_of-only p m (words_of line) kept.1) refl)
    h

lines-only : (p q : PolicyMeaning) (n : ℕ) (lines : List (List ℕ)) → AreLines p lines q → read_lines (Some p) n lines ≡ Ok q
lines-only p q n [] h = read_lines-done p n ∙ ap (λ (x : PolicyMeaning). Ok x) h
lines-only p q n (line ∷ lines) h = read_lines-cons (Some p) n line lines ∙ rw (line_step-only p h.0 line h.1) (lines-only h.0 q (n + 1) lines h.2)

pub skip-only : (line : List ℕ) → is_skipped (words_of line) ≡ true → line_step None line ≡ Ok None
unfolding line_step
skip-only line skip = rw skip refl

all-only : (q : PolicyMeaning) (n : ℕ) (lines : List (List ℕ)) → AreAllLines lines q → read_lines None n lines ≡ Ok q
all-only q n [] h = absurd h
all-only q n (line ∷ lines) h =
    ⊎_elim (λ (skip : (is_skipped (words_of line) ≡ true) × AreAllLines lines q).
    read_lines-cons None n line lines ∙ rw (skip-only line skip.0) (all-only q (n + 1) lines skip.1))
    (λ (kept : (is_skipped (words_of line) ≡ false) × (version : Version) × (words_of line ≡ header version) × AreLines (without_lines version) lines q).
    read_lines-cons None n line lines ∙ rw (header_step kept.1 line kept.2) (lines-only (without_lines kept.1) q (n + 1) lines kept.3))
    h

-- what is spelled so is read
pub policy_of-only : (text : List ℕ) (q : PolicyMeaning) → Spells text q → policy_of text ≡ Ok q
unfolding policy_of
policy_of-only text q h = all-only q 1 (lines_of text) h

pub parses-found : (text : List ℕ) (r : Result PolicyMeaning Fault) → Parses (λ (p : PolicyMeaning). p) r (policy_of text) → IfOk r (λ p. Spells text p)
parses-found text (Ok p) h = policy_of-found text p h
parses-found text (Err fault) h = tt

pub parses-only : (text : List ℕ) (r : Result PolicyMeaning Fault) (p : PolicyMeaning) → Parses (λ (q : PolicyMeaning). q) r (policy_of text) → Spells text p → Parses (λ (q : PolicyMeaning). q) r (Ok p)
parses-only text r p h spelled = let P : Result PolicyMeaning Fault → Type 0 = λ read. Parses (λ (q : PolicyMeaning). q) r read in subst P (policy_of-only text p spelled) h

pub one_policy : OnePolicy
one_policy text p q a b = same_Ok p q (sym (policy_of-only text p a) ∙ policy_of-only text q b)
