-- The fault that reading answers is the first fault of the text.
use Rattle.std.proofs.Common.{◌≡◌, ◌⊎◌, inl, inr, ℕ, ◌+◌, ◌<◌, ◌≤◌, true, false, leb, List, [], ◌∷◌, ◌++◌, length, get_or, Option, Some, None, Result, Ok, Err, refl, sym, ap, ◌∙◌, subst, arith, ⊎_elim, append_assoc, append-nil, codes}
use Rattle.std.specs.Str.{bytes_eq}
use Rattle.std.proofs.lemmas.Slice.Eq.{bytes_eq-Decides}
use Rattle.std.proofs.lemmas.Option.{none-some}
use Rattle.std.proofs.lemmas.Bool.{cases_Bool, leb-true, leb-false, lt-leb, le-leb, false≢true}
use Rattle.sequences.proofs.ResultLaws.{Err-Ok, same_Err, bind_Ok}
use Rattle.sequences.specs.Results.{◌>>=◌}
use Rattle.policy_text.specs.declared.fault.FaultKind.{FaultKind}
use Rattle.policy_text.specs.declared.fault.FaultKind.TheVariants.{NoHeader, UnknownWord, TooMany}
use Rattle.policy_text.specs.declared.fault.Fault.{Fault}
use Rattle.policy_text.specs.declared.rule.Rule.{Rule}
use Rattle.policy_text.specs.declared.version.Version.{Version}
use Rattle.policy_text.specs.declared.version.Version.TheVariants.{One, Two}
use Rattle.policy_text.specs.Words.{Word, words_of, lines_of, is_skipped}
use Rattle.policy_text.specs.Policies.{PolicyMeaning, without_lines, with_rule, with_aggregate, Aggregate as Definition}
use Rattle.policy_text.specs.Results.{at_line, then_read}
use Rattle.policy_text.specs.Lines.{next_of, rule_of, aggregate_of, rule_line, aggregate_line, policy_after_line}
use Rattle.policy_text.specs.Parsing.{numbered_version, version_of, after_header, step, line_step, read_lines, policy_of}
use Rattle.policy_text.specs.Grammar.{IsAggregate, IsPolicy}
use Rattle.policy_text.specs.Printing.{version_word, header}
use Rattle.policy_text.specs.Spelling.{AddsRule, AddsAggregate, AfterLine, AreLines}
use Rattle.policy_text.specs.LineParts.{IsKindOf, rule_parts, aggregate_parts}
use Rattle.policy_text.specs.FirstFault.{MayStand, AwaitsAggregate, IsFaultyLine, IsLineFault, SpellSoFar, IsFirstFault}
use Rattle.policy_text.specs.LineParts.LinePart.{first_word}
use Rattle.policy_text.proofs.ParsingLaws.{read_lines-cons, read_lines-done, read_lines-empty}
use Rattle.policy_text.proofs.KeptLaws.{IsPolicy-without_lines, with_rule-kept, with_aggregate-kept}
use Rattle.policy_text.proofs.SpellLaws.{rule_line-found, rule_line-only, line_of-found, line_of-only, line_step-found, numbered-is, header-found}
use Rattle.policy_text.proofs.PlaceLaws.{Completes, IsStuck, Place, ok_or_err, kind_behind}
use Rattle.policy_text.proofs.KindLaws.{bound_err}
use Rattle.policy_text.proofs.LinePlaceLaws.{rule_reads, aggregate_reads}

-- lines that may stand are those that are read
pub stands_read : (policy : PolicyMeaning) (words : List Word) → MayStand (Some policy) words → (new : PolicyMeaning) × (policy_after_line policy words ≡ Ok new)
stands_read policy words h = (h.0, line_of-only policy h.0 words h.1)

pub read_stands : (policy new : PolicyMeaning) (words : List Word) → policy_after_line policy words ≡ Ok new → MayStand (Some policy) words
read_stands policy new words e = (new, line_of-found policy new words e)

-- behind `rule`
rule_room : (policy : PolicyMeaning) (words : List Word) → length policy.rules < 4096 → policy_after_line policy (codes "rule" ∷ words) ≡ (rule_of policy.version policy.aggregates words >>= λ r. Ok (with_rule policy r))
unfolding policy_after_line next_of rule_line
rule_room policy words room = rw (lt-leb 4096 (length policy.rules) room) refl

rule_full : (policy : PolicyMeaning) (words : List Word) → 4096 ≤ length policy.rules → policy_after_line policy (codes "rule" ∷ words) ≡ Err TooMany
unfolding policy_after_line next_of rule_line
rule_full policy words full = rw (le-leb 4096 (length policy.rules) full) refl

aggregate_room : (policy : PolicyMeaning) (words : List Word) → length policy.aggregates < 256 → policy_after_line policy (codes "aggregate" ∷ words) ≡ (aggregate_of policy.aggregates words >>= λ a. Ok (with_aggregate policy a))
unfolding policy_after_line next_of aggregate_line
aggregate_room policy words room = rw (lt-leb 256 (length policy.aggregates) room) refl

aggregate_full : (policy : PolicyMeaning) (words : List Word) → 256 ≤ length policy.aggregates → policy_after_line policy (codes "aggregate" ∷ words) ≡ Err TooMany
unfolding policy_after_line next_of aggregate_line
aggregate_full policy words full = rw (le-leb 256 (length policy.aggregates) full) refl

unknown_word : (policy : PolicyMeaning) (word : Word) (words : List Word) → bytes_eq word (codes "rule") ≡ false → bytes_eq word (codes "aggregate") ≡ false → policy_after_line policy (word ∷ words) ≡ Err UnknownWord
unfolding policy_after_line next_of
unknown_word policy word words r a = rw (r, a) refl

-- a rule's line begins with `rule`
first_letter : List Word → ℕ
first_letter [] = 0
first_letter (word ∷ words) = get_or word 0 0

aggregate_is_no_rule : (words tail : List Word) → codes "aggregate" ∷ words ≡ codes "rule" ∷ tail → ⊥
unfolding first_letter
aggregate_is_no_rule words tail e = let same : 97 ≡ 114 = ap first_letter e in omega (arith, same)

unfoldable pub front_word : List Word → Word
front_word [] = []
front_word (word ∷ words) = word

rule_first : (word : Word) (words tail : List Word) → bytes_eq word (codes "rule") ≡ false → word ∷ words ≡ codes "rule" ∷ tail → ⊥
unfolding front_word
rule_first word words tail other e = false≢true (sym other ∙ (bytes_eq-Decides word (codes "rule")).1 (ap front_word e))

-- what may stand, or waits for an aggregate
abbrev Goes : PolicyMeaning → List Word → Type 0
Goes policy words = MayStand (Some policy) words ⊎ AwaitsAggregate (Some policy) words

rule_read : (policy : PolicyMeaning) (words : List Word) (r : Rule) → length policy.rules < 4096 → rule_of policy.version policy.aggregates words ≡ Ok r → (new : PolicyMeaning) × AddsRule policy (codes "rule" ∷ words) new
unfolding rule_line
rule_read policy words r room e =
    (with_rule policy r, rule_line-found policy (with_rule policy r) (codes "rule" ∷ words) words refl (rw (lt-leb 4096 (length policy.rules) room, e) refl))

rule_goes : (policy : PolicyMeaning) (words : List Word) → length policy.rules < 4096 → Completes policy.aggregates (rule_of policy.version) words → Goes policy (codes "rule" ∷ words)
rule_goes policy words room c =
    ⊎_elim (λ (now : (r : Rule) × (rule_of policy.version policy.aggregates words ≡ Ok r)).
    let read = rule_read policy words now.0 room now.1 in
    inl (read.0, inl read.1))
    (λ (later : (policy.aggregates ≡ []) × (a : Definition) × IsAggregate [] a × (r : Rule) × (rule_of policy.version (a ∷ []) (words ++ a.name ∷ []) ≡ Ok r)).
    let a = later.1 in
    let same : policy.aggregates ++ a ∷ [] ≡ a ∷ [] = ap (λ (list : List Definition). list ++ a ∷ []) later.0 in
    let read = rule_read (with_aggregate policy a) (words ++ a.name ∷ []) later.3 room (ap (λ list. rule_of policy.version list (words ++ a.name ∷ [])) same ∙ later.4) in
    inr (later.0, a, later.2, read.0, read.1))
    c

rule_of_line : (policy new : PolicyMeaning) (words : List Word) → length policy.rules < 4096 → policy_after_line policy (codes "rule" ∷ words) ≡ Ok new → (r : Rule) × (rule_of policy.version policy.aggregates words ≡ Ok r)
rule_of_line policy new words room e =
    let read = bind_Ok (rule_of policy.version policy.aggregates words) (λ r. Ok (with_rule policy r)) new (sym (rule_room policy words room) ∙ e) in
    (read.0, read.1)

rule_went : (policy : PolicyMeaning) (words : List Word) → length policy.rules < 4096 → Goes policy (codes "rule" ∷ words) → Completes policy.aggregates (rule_of policy.version) words
rule_went policy words room g =
    ⊎_elim (λ (now : MayStand (Some policy) (codes "rule" ∷ words)).
    let read = stands_read policy (codes "rule" ∷ words) now in
    inl (rule_of_line policy read.0 words room read.1))
    (λ (later : AwaitsAggregate (Some policy) (codes "rule" ∷ words)).
    let a = later.1 in
    let same : policy.aggregates ++ a ∷ [] ≡ a ∷ [] = ap (λ (list : List Definition). list ++ a ∷ []) later.0 in
    let read = rule_of_line (with_aggregate policy a) later.3 (words ++ a.name ∷ []) room (rule_line-only (with_aggregate policy a) later.3 (codes "rule" ∷ words ++ a.name ∷ []) later.4) in
    inr (later.0, a, later.2, read.0, ap (λ list. rule_of policy.version list (words ++ a.name ∷ [])) (sym same) ∙ read.1))
    g

-- the same behind `aggregate`
abbrev aggregate_reader : List Definition → List Definition → List Word → Result Definition FaultKind
aggregate_reader here q words = aggregate_of here words

aggregate_goes : (policy : PolicyMeaning) (words : List Word) → length policy.aggregates < 256 → Completes policy.aggregates (aggregate_reader policy.aggregates) words → (more : List Word) × Goes policy (codes "aggregate" ∷ words ++ more)
aggregate_goes policy words room c =
    ⊎_elim (λ (now : (a : Definition) × (aggregate_of policy.aggregates words ≡ Ok a)).
    let whole : aggregate_of policy.aggregates (words ++ []) ≡ Ok now.0 = ap (aggregate_of policy.aggregates) (append-nil words) ∙ now.1 in
    ([], inl (read_stands policy (with_aggregate policy now.0) (codes "aggregate" ∷ words ++ []) (aggregate_room policy (words ++ []) room ∙ ap (λ r. r >>= λ a. Ok (with_aggregate policy a)) whole))))
    (λ (later : (policy.aggregates ≡ []) × (b : Definition) × IsAggregate [] b × (a : Definition) × (aggregate_of policy.aggregates (words ++ b.name ∷ []) ≡ Ok a)).
    let more = later.1.name ∷ [] in
    (more, inl (read_stands policy (with_aggregate policy later.3) (codes "aggregate" ∷ words ++ more) (aggregate_room policy (words ++ more) room ∙ ap (λ r. r >>= λ a. Ok (with_aggregate policy a)) later.4))))
    c

aggregate_went : (policy : PolicyMeaning) (words : List Word) → length policy.aggregates < 256 → Goes policy (codes "aggregate" ∷ words) → (a : Definition) × (aggregate_of policy.aggregates words ≡ Ok a)
aggregate_went policy words room g =
    ⊎_elim (λ (now : MayStand (Some policy) (codes "aggregate" ∷ words)).
    let read = stands_read policy (codes "aggregate" ∷ words) now in
    let step = bind_Ok (aggregate_of policy.aggregates words) (λ a. Ok (with_aggregate policy a)) read.0 (sym (aggregate_room policy words room) ∙ read.1) in
    (step.0, step.1))
    (λ (later : AwaitsAggregate (Some policy) (codes "aggregate" ∷ words)). absurd (aggregate_is_no_rule (words ++ later.1.name ∷ []) later.4.tail later.4.words_are))
    g

-- a line's fault from its place
regroup : (word : Word) (front : List Word) (next : Word) (more : List Word) → word ∷ (front ++ next ∷ []) ++ more ≡ word ∷ front ++ next ∷ more
regroup word front next more = ap (λ ws. word ∷ ws) (append_assoc front (next ∷ []) more)

rule_faulty : (policy : PolicyMeaning) (front rest : List Word) → length policy.rules < 4096 → IsStuck policy.aggregates (rule_of policy.version) front rest → IsFaultyLine (Some policy) (codes "rule" ∷ front) rest
rule_faulty policy front [] room stuck = λ stands.
    let read = stands_read policy (codes "rule" ∷ front) stands in
    let rule = rule_of_line policy read.0 front room read.1 in
    stuck rule.0 rule.1
rule_faulty policy front (word ∷ rest) room stuck = λ begins.
    let P : List Word → Type 0 = λ ws. Goes policy ws in
    stuck begins.0 (rule_went policy (front ++ word ∷ begins.0) room (subst P (regroup (codes "rule") front word begins.0) begins.1))

aggregate_faulty : (policy : PolicyMeaning) (front rest : List Word) → length policy.aggregates < 256 → IsStuck policy.aggregates (aggregate_reader policy.aggregates) front rest → IsFaultyLine (Some policy) (codes "aggregate" ∷ front) rest
aggregate_faulty policy front [] room stuck = λ stands.
    let read = aggregate_went policy front room (inl stands) in
    stuck read.0 read.1
aggregate_faulty policy front (word ∷ rest) room stuck = λ begins.
    let P : List Word → Type 0 = λ ws. Goes policy ws in
    stuck begins.0 (inl (aggregate_went policy (front ++ word ∷ begins.0) room (subst P (regroup (codes "aggregate") front word begins.0) begins.1)))

rule_fault : (policy : PolicyMeaning) (words : List Word) (kind : FaultKind) → length policy.rules < 4096 → Place policy.aggregates (rule_parts policy.version) (rule_of policy.version) words kind → IsLineFault (Some policy) (codes "rule" ∷ words) kind
rule_fault policy words kind room p = record {
  front = codes "rule" ∷ p.front;
  rest = p.rest;
  words_are = ap (λ ws. codes "rule" ∷ ws) p.words_are;
  begun = inr (p.begun.0, rule_goes policy (p.front ++ p.begun.0) room p.begun.1);
  faulty = rule_faulty policy p.front p.rest room p.stuck;
  kind_is = kind_behind (first_word policy.version) [] (codes "rule") p.front p.rest kind p.kind_is;
}

aggregate_fault : (policy : PolicyMeaning) (words : List Word) (kind : FaultKind) → length policy.aggregates < 256 → Place policy.aggregates aggregate_parts (aggregate_reader policy.aggregates) words kind → IsLineFault (Some policy) (codes "aggregate" ∷ words) kind
aggregate_fault policy words kind room p =
    let goes = aggregate_goes policy (p.front ++ p.begun.0) room p.begun.1 in
    let P : List Word → Type 0 = λ ws. Goes policy (codes "aggregate" ∷ ws) in
    record {
      front = codes "aggregate" ∷ p.front;
      rest = p.rest;
      words_are = ap (λ ws. codes "aggregate" ∷ ws) p.words_are;
      begun = inr (p.begun.0 ++ goes.0, subst P (append_assoc p.front p.begun.0 goes.0) goes.1);
      faulty = aggregate_faulty policy p.front p.rest room p.stuck;
      kind_is = kind_behind (first_word policy.version) [] (codes "aggregate") p.front p.rest kind p.kind_is;
    }

first_word_fault : (policy : PolicyMeaning) (word : Word) (words : List Word) (kind : FaultKind) → ((more : List Word) → policy_after_line policy (word ∷ more) ≡ Err kind) → ((a : Definition) (more : List Word) (new : PolicyMeaning) → AddsRule (with_aggregate policy a) (word ∷ more) new → ⊥) → IsKindOf (first_word policy.version) word kind → IsLineFault (Some policy) (word ∷ words) kind
first_word_fault policy word words kind fails no_rule kind_is = record {
  front = [];
  rest = word ∷ words;
  words_are = refl;
  begun = inl refl;
  faulty = λ begins.
      ⊎_elim (λ (now : MayStand (Some policy) (word ∷ begins.0)).
      let read = stands_read policy (word ∷ begins.0) now in
      ok_or_err (policy_after_line policy (word ∷ begins.0)) kind read.0 (fails begins.0) read.1)
      (λ (later : AwaitsAggregate (Some policy) (word ∷ begins.0)). no_rule later.1 (begins.0 ++ later.1.name ∷ []) later.3 later.4)
      begins.1;
  kind_is = kind_is;
}

-- one line
rule_line_fault : (policy : PolicyMeaning) (words : List Word) (kind : FaultKind) → IsPolicy policy → policy_after_line policy (codes "rule" ∷ words) ≡ Err kind → IsLineFault (Some policy) (codes "rule" ∷ words) kind
rule_line_fault policy words kind valid e =
    ⊎_elim (λ (full : leb 4096 (length policy.rules) ≡ true).
    let many = leb-true 4096 (length policy.rules) full in
    let same = same_Err TooMany kind (sym (rule_full policy words many) ∙ e) in
    let P : FaultKind → Type 0 = λ k. IsLineFault (Some policy) (codes "rule" ∷ words) k in
    subst P same (first_word_fault policy (codes "rule") words TooMany (λ more. rule_full policy more many) (λ a more new adds. let room = adds.room in omega arith) refl))
    (λ (free : leb 4096 (length policy.rules) ≡ false).
    let room = leb-false 4096 (length policy.rules) free in
    ⊎_elim (λ (failed : rule_of policy.version policy.aggregates words ≡ Err kind). rule_fault policy words kind room ((rule_reads policy.aggregates policy.version valid.aggregates).faults words kind failed))
    (λ (read : (r : Rule) × (rule_of policy.version policy.aggregates words ≡ Ok r) × (Ok (with_rule policy r) ≡ Err kind)). absurd (Err-Ok kind (with_rule policy read.0) (sym read.2)))
    (bound_err (rule_of policy.version policy.aggregates words) (λ r. Ok (with_rule policy r)) kind (sym (rule_room policy words room) ∙ e)))
    (cases_Bool (leb 4096 (length policy.rules)))

aggregate_line_fault : (policy : PolicyMeaning) (words : List Word) (kind : FaultKind) → policy_after_line policy (codes "aggregate" ∷ words) ≡ Err kind → IsLineFault (Some policy) (codes "aggregate" ∷ words) kind
aggregate_line_fault policy words kind e =
    ⊎_elim (λ (full : leb 256 (length policy.aggregates) ≡ true).
    let many = leb-true 256 (length policy.aggregates) full in
    let same = same_Err TooMany kind (sym (aggregate_full policy words many) ∙ e) in
    let P : FaultKind → Type 0 = λ k. IsLineFault (Some policy) (codes "aggregate" ∷ words) k in
    subst P same (first_word_fault policy (codes "aggregate") words TooMany (λ more. aggregate_full policy more many) (λ a more new adds. aggregate_is_no_rule more adds.tail adds.words_are) refl))
    (λ (free : leb 256 (length policy.aggregates) ≡ false).
    let room = leb-false 256 (length policy.aggregates) free in
    ⊎_elim (λ (failed : aggregate_of policy.aggregates words ≡ Err kind). aggregate_fault policy words kind room ((aggregate_reads policy.aggregates room).faults words kind failed))
    (λ (read : (a : Definition) × (aggregate_of policy.aggregates words ≡ Ok a) × (Ok (with_aggregate policy a) ≡ Err kind)). absurd (Err-Ok kind (with_aggregate policy read.0) (sym read.2)))
    (bound_err (aggregate_of policy.aggregates words) (λ a. Ok (with_aggregate policy a)) kind (sym (aggregate_room policy words room) ∙ e)))
    (cases_Bool (leb 256 (length policy.aggregates)))

other_line_fault : (policy : PolicyMeaning) (word : Word) (words : List Word) (kind : FaultKind) → bytes_eq word (codes "rule") ≡ false → bytes_eq word (codes "aggregate") ≡ false → policy_after_line policy (word ∷ words) ≡ Err kind → IsLineFault (Some policy) (word ∷ words) kind
other_line_fault policy word words kind r a e =
    let same = same_Err UnknownWord kind (sym (unknown_word policy word words r a) ∙ e) in
    let P : FaultKind → Type 0 = λ k. IsLineFault (Some policy) (word ∷ words) k in
    subst P same (first_word_fault policy word words UnknownWord (λ more. unknown_word policy word more r a) (λ b more new adds. rule_first word more adds.tail r adds.words_are) (rw (r, a) refl))

pub line_fault : (policy : PolicyMeaning) (words : List Word) (kind : FaultKind) → IsPolicy policy → is_skipped words ≡ false → policy_after_line policy words ≡ Err kind → IsLineFault (Some policy) words kind
line_fault policy [] kind valid counts e = absurd (false≢true (sym counts))
line_fault policy (word ∷ words) kind valid counts e =
    let P : Word → Type 0 = λ w. policy_after_line policy (w ∷ words) ≡ Err kind → IsLineFault (Some policy) (w ∷ words) kind in
    ⊎_elim (λ (t : bytes_eq word (codes "rule") ≡ true). subst P (sym ((bytes_eq-Decides word (codes "rule")).0 t)) (λ f. rule_line_fault policy words kind valid f) e)
    (λ (r : bytes_eq word (codes "rule") ≡ false).
    ⊎_elim (λ (t : bytes_eq word (codes "aggregate") ≡ true). subst P (sym ((bytes_eq-Decides word (codes "aggregate")).0 t)) (λ f. aggregate_line_fault policy words kind f) e)
    (λ (a : bytes_eq word (codes "aggregate") ≡ false). other_line_fault policy word words kind r a e)
    (cases_Bool (bytes_eq word (codes "aggregate"))))
    (cases_Bool (bytes_eq word (codes "rule")))

-- the line that is to be the header
second_word : List Word → Word
second_word [] = []
second_word (word ∷ words) = front_word words

is_policy : (word : Word) (version : Version) → bytes_eq word (codes "policy") ≡ true → word ∷ version_word version ∷ [] ≡ header version
is_policy word version t = ap (λ w. w ∷ version_word version ∷ []) ((bytes_eq-Decides word (codes "policy")).0 t)

not_policy : (word : Word) (words : List Word) → bytes_eq word (codes "policy") ≡ false → IsLineFault None (word ∷ words) NoHeader
unfolding front_word
not_policy word words f = record {
  front = [];
  rest = word ∷ words;
  words_are = refl;
  begun = inl refl;
  faulty = λ begins.
      ⊎_elim (λ (now : (version : Version) × (word ∷ begins.0 ≡ header version)). false≢true (sym f ∙ (bytes_eq-Decides word (codes "policy")).1 (ap front_word now.1)))
      (λ (later : ⊥). later)
      begins.1;
  kind_is = refl;
}

policy_alone : (word : Word) → bytes_eq word (codes "policy") ≡ true → IsLineFault None (word ∷ []) NoHeader
policy_alone word t = record {
  front = word ∷ [];
  rest = [];
  words_are = refl;
  begun = inr (codes "1" ∷ [], inl (One, is_policy word One t));
  faulty = λ stands. let same : 1 ≡ 2 = ap length stands.1 in omega (arith, same);
  kind_is = refl;
}

numbered : (version : Version) → numbered_version (version_word version) ≡ Some version
numbered One = refl
numbered Two = refl

not_numbered : (word next : Word) (words : List Word) → bytes_eq word (codes "policy") ≡ true → numbered_version next ≡ None → IsLineFault None (word ∷ next ∷ words) NoHeader
unfolding front_word second_word
not_numbered word next words t none = record {
  front = word ∷ [];
  rest = next ∷ words;
  words_are = refl;
  begun = inr (codes "1" ∷ [], inl (One, is_policy word One t));
  faulty = λ begins.
      ⊎_elim (λ (now : (version : Version) × (word ∷ next ∷ begins.0 ≡ header version)).
      let is : next ≡ version_word now.0 = ap second_word now.1 in
      none-some now.0 (sym none ∙ ap numbered_version is ∙ numbered now.0))
      (λ (later : ⊥). later)
      begins.1;
  kind_is = refl;
}

third_word : (word next last : Word) (words : List Word) (version : Version) → bytes_eq word (codes "policy") ≡ true → numbered_version next ≡ Some version → IsLineFault None (word ∷ next ∷ last ∷ words) NoHeader
third_word word next last words version t u = record {
  front = word ∷ next ∷ [];
  rest = last ∷ words;
  words_are = refl;
  begun = inr ([], inl (version, ap (λ w. word ∷ w ∷ []) (numbered-is next version u) ∙ is_policy word version t));
  faulty = λ begins.
      ⊎_elim (λ (now : (version : Version) × (word ∷ next ∷ last ∷ begins.0 ≡ header version)). let same : length (word ∷ next ∷ last ∷ begins.0) ≡ 2 = ap length now.1 in omega (arith, same))
      (λ (later : ⊥). later)
      begins.1;
  kind_is = refl;
}

behind_policy : (word next : Word) (words : List Word) (o : Option Version) → bytes_eq word (codes "policy") ≡ true → numbered_version next ≡ o → version_of (word ∷ next ∷ words) ≡ None → IsLineFault None (word ∷ next ∷ words) NoHeader
unfolding version_of
behind_policy word next words None t u e = not_numbered word next words t u
behind_policy word next [] (Some version) t u e = let none : numbered_version next ≡ None = rw t at e in absurd (none-some version (sym none ∙ u))
behind_policy word next (last ∷ words) (Some version) t u e = third_word word next last words version t u

pub header_fault : (words : List Word) → is_skipped words ≡ false → version_of words ≡ None → IsLineFault None words NoHeader
header_fault [] counts e = absurd (false≢true (sym counts))
header_fault (word ∷ []) counts e =
    ⊎_elim (λ (t : bytes_eq word (codes "policy") ≡ true). policy_alone word t)
    (λ (f : bytes_eq word (codes "policy") ≡ false). not_policy word [] f)
    (cases_Bool (bytes_eq word (codes "policy")))
header_fault (word ∷ next ∷ words) counts e =
    ⊎_elim (λ (t : bytes_eq word (codes "policy") ≡ true). behind_policy word next words (numbered_version next) t refl e)
    (λ (f : bytes_eq word (codes "policy") ≡ false). not_policy word (next ∷ words) f)
    (cases_Bool (bytes_eq word (codes "policy")))

-- the lines: a line keeps that the policy is one that a text may spell
pub adds_kept : (p q : PolicyMeaning) (words : List Word) → IsPolicy p → AfterLine p words q → IsPolicy q
adds_kept p q words valid h =
    let P : PolicyMeaning → Type 0 = λ m. IsPolicy m in
    ⊎_elim (λ (skip : (is_skipped words ≡ true) × (p ≡ q)). subst P skip.1 valid)
    (λ (kept : (is_skipped words ≡ false) × (AddsRule p words q ⊎ AddsAggregate p words q)).
    ⊎_elim (λ (r : AddsRule p words q). subst P r.added (with_rule-kept p r.rule valid r.spelled.sound r.room))
    (λ (a : AddsAggregate p words q). subst P a.added (with_aggregate-kept p a.aggregate valid a.sound a.room))
    kept.1)
    h

-- a fault of one of these lines, which stand after those that spell what S says
record FaultIn (S : List (List ℕ) → Option PolicyMeaning → Type 0) (n : ℕ) (lines : List (List ℕ)) (fault : Fault) : Type 0 where
  before : List (List ℕ)
  line : List ℕ
  others : List (List ℕ)
  so_far : Option PolicyMeaning
  lines_are : lines ≡ before ++ line ∷ others
  number_is : fault.line ≡ n + length before
  spelled : S before so_far
  counts : is_skipped (words_of line) ≡ false
  fault_is : IsLineFault so_far (words_of line) fault.kind

later_line : (S T : List (List ℕ) → Option PolicyMeaning → Type 0) (n : ℕ) (line : List ℕ) (lines : List (List ℕ)) (fault : Fault) → ((before : List (List ℕ)) (so_far : Option PolicyMeaning) → S before so_far → T (line ∷ before) so_far) → FaultIn S (n + 1) lines fault → FaultIn T n (line ∷ lines) fault
later_line S T n line lines fault onto f =
    let number = f.number_is in
    record {
      before = line ∷ f.before;
      line = f.line;
      others = f.others;
      so_far = f.so_far;
      lines_are = ap (λ ls. line ∷ ls) f.lines_are;
      number_is = omega (arith, number);
      spelled = onto f.before f.so_far f.spelled;
      counts = f.counts;
      fault_is = f.fault_is;
    }

this_line : (S : List (List ℕ) → Option PolicyMeaning → Type 0) (n : ℕ) (line : List ℕ) (lines : List (List ℕ)) (fault : Fault) (kind : FaultKind) (so_far : Option PolicyMeaning) → record { line = n; kind = kind } ≡ fault → S [] so_far → is_skipped (words_of line) ≡ false → IsLineFault so_far (words_of line) kind → FaultIn S n (line ∷ lines) fault
this_line S n line lines fault kind so_far same spelled counts f =
    let P : Fault → Type 0 = λ x. FaultIn S n (line ∷ lines) x in
    subst P same (record {
      before = [];
      line = line;
      others = lines;
      so_far = so_far;
      lines_are = refl;
      number_is = omega arith;
      spelled = spelled;
      counts = counts;
      fault_is = f;
    })

-- the lines that lead from a policy
abbrev LeadTo : PolicyMeaning → List (List ℕ) → Option PolicyMeaning → Type 0
LeadTo p lines None = ⊥
LeadTo p lines (Some q) = AreLines p lines q

lead_on : (p mid : PolicyMeaning) (line : List ℕ) → AfterLine p (words_of line) mid → (before : List (List ℕ)) (so_far : Option PolicyMeaning) → LeadTo mid before so_far → LeadTo p (line ∷ before) so_far
lead_on p mid line h before None lead = lead
lead_on p mid line h before (Some q) lead = (mid, h, lead)

record LineFailed (p : PolicyMeaning) (line : List ℕ) (kind : FaultKind) : Type 0 where
  counts : is_skipped (words_of line) ≡ false
  failed : policy_after_line p (words_of line) ≡ Err kind

line_failed : (p : PolicyMeaning) (line : List ℕ) (kind : FaultKind) → line_step (Some p) line ≡ Err kind → LineFailed p line kind
unfolding line_step step
line_failed p line kind e =
    ⊎_elim (λ (skip : is_skipped (words_of line) ≡ true). absurd (Err-Ok kind (Some p) (sym (rw skip at e))))
    (λ (kept : is_skipped (words_of line) ≡ false).
    ⊎_elim (λ (failed : policy_after_line p (words_of line) ≡ Err kind). record { counts = kept; failed = failed })
    (λ (read : (q : PolicyMeaning) × (policy_after_line p (words_of line) ≡ Ok q) × (Ok (Some q) ≡ Err kind)). absurd (Err-Ok kind (Some read.0) (sym read.2)))
    (bound_err (policy_after_line p (words_of line)) (λ q. Ok (Some q)) kind (rw kept at e)))
    (cases_Bool (is_skipped (words_of line)))

lines_by : (p : PolicyMeaning) (n : ℕ) (line : List ℕ) (lines : List (List ℕ)) (fault : Fault) → IsPolicy p → ((q : PolicyMeaning) → IsPolicy q → read_lines (Some q) (n + 1) lines ≡ Err fault → FaultIn (LeadTo q) (n + 1) lines fault) → (r : Result (Option PolicyMeaning) FaultKind) → line_step (Some p) line ≡ r → then_read (at_line n r) (λ x. read_lines x (n + 1) lines) ≡ Err fault → FaultIn (LeadTo p) n (line ∷ lines) fault
lines_by p n line lines fault valid later (Ok x) stepped e =
    let read = line_step-found p line x stepped in
    later_line (LeadTo read.mid) (LeadTo p) n line lines fault (lead_on p read.mid line read.line_is)
    (later read.mid (adds_kept p read.mid (words_of line) valid read.line_is) (ap (λ y. read_lines y (n + 1) lines) read.is ∙ e))
lines_by p n line lines fault valid later (Err kind) stepped e =
    let failed = line_failed p line kind stepped in
    this_line (LeadTo p) n line lines fault kind (Some p) (same_Err (record { line = n; kind = kind }) fault e) refl failed.counts
    (line_fault p (words_of line) kind valid failed.counts failed.failed)

lines_fault : (p : PolicyMeaning) (n : ℕ) (lines : List (List ℕ)) (fault : Fault) → IsPolicy p → read_lines (Some p) n lines ≡ Err fault → FaultIn (LeadTo p) n lines fault
lines_fault p n [] fault valid e = absurd (Err-Ok fault p (sym e ∙ read_lines-done p n))
lines_fault p n (line ∷ lines) fault valid e =
    lines_by p n line lines fault valid (λ q kept f. lines_fault q (n + 1) lines fault kept f) (line_step (Some p) line) refl (sym (read_lines-cons (Some p) n line lines) ∙ e)

-- the same before the header
abbrev NoLines : List (List ℕ) → Fault → Type 0
NoLines lines fault = SpellSoFar lines None × (fault ≡ record { line = 1; kind = NoHeader })

skip_on : (line : List ℕ) → is_skipped (words_of line) ≡ true → (before : List (List ℕ)) (so_far : Option PolicyMeaning) → SpellSoFar before so_far → SpellSoFar (line ∷ before) so_far
skip_on line skip before None h = (skip, h)
skip_on line skip before (Some q) h = inl (skip, h)

header_on : (line : List ℕ) (version : Version) → is_skipped (words_of line) ≡ false → words_of line ≡ header version → (before : List (List ℕ)) (so_far : Option PolicyMeaning) → LeadTo (without_lines version) before so_far → SpellSoFar (line ∷ before) so_far
header_on line version kept is before None h = absurd h
header_on line version kept is before (Some q) h = inr (kept, version, is, h)

record HeaderFailed (line : List ℕ) (kind : FaultKind) : Type 0 where
  counts : is_skipped (words_of line) ≡ false
  failed : version_of (words_of line) ≡ None
  kind_is : NoHeader ≡ kind

abbrev some_policy : PolicyMeaning → Result (Option PolicyMeaning) FaultKind
some_policy q = Ok (Some q)

header_by : (kind : FaultKind) (o : Option Version) → (after_header o >>= some_policy) ≡ Err kind → (o ≡ None) × (NoHeader ≡ kind)
header_by kind (Some version) e = absurd (Err-Ok kind (Some (without_lines version)) (sym e))
header_by kind None e = (refl, same_Err NoHeader kind e)

header_failed : (line : List ℕ) (kind : FaultKind) → line_step None line ≡ Err kind → HeaderFailed line kind
unfolding line_step step
header_failed line kind e =
    ⊎_elim (λ (skip : is_skipped (words_of line) ≡ true). absurd (Err-Ok kind None (sym (rw skip at e))))
    (λ (kept : is_skipped (words_of line) ≡ false).
    let h = header_by kind (version_of (words_of line)) (rw kept at e) in
    record { counts = kept; failed = h.0; kind_is = h.1 })
    (cases_Bool (is_skipped (words_of line)))

all_by : (n : ℕ) (line : List ℕ) (lines : List (List ℕ)) (fault : Fault) → (read_lines None (n + 1) lines ≡ Err fault → FaultIn SpellSoFar (n + 1) lines fault ⊎ NoLines lines fault) → (r : Result (Option PolicyMeaning) FaultKind) → line_step None line ≡ r → then_read (at_line n r) (λ x. read_lines x (n + 1) lines) ≡ Err fault → FaultIn SpellSoFar n (line ∷ lines) fault ⊎ NoLines (line ∷ lines) fault
all_by n line lines fault later (Ok x) stepped e =
    let read = header-found line x stepped in
    ⊎_elim (λ (skip : (is_skipped (words_of line) ≡ true) × (None ≡ x)).
    ⊎_elim (λ (f : FaultIn SpellSoFar (n + 1) lines fault). inl (later_line SpellSoFar SpellSoFar n line lines fault (skip_on line skip.0) f))
    (λ (none : NoLines lines fault). inr ((skip.0, none.0), none.1))
    (later (ap (λ y. read_lines y (n + 1) lines) skip.1 ∙ e)))
    (λ (kept : (is_skipped (words_of line) ≡ false) × (version : Version) × (words_of line ≡ header version) × (Some (without_lines version) ≡ x)).
    let first = without_lines kept.1 in
    inl (later_line (LeadTo first) SpellSoFar n line lines fault (header_on line kept.1 kept.0 kept.2)
    (lines_fault first (n + 1) lines fault (IsPolicy-without_lines kept.1) (ap (λ y. read_lines y (n + 1) lines) kept.3 ∙ e))))
    read.how
all_by n line lines fault later (Err kind) stepped e =
    let failed = header_failed line kind stepped in
    let P : FaultKind → Type 0 = λ k. IsLineFault None (words_of line) k in
    inl (this_line SpellSoFar n line lines fault kind None (same_Err (record { line = n; kind = kind }) fault e) tt failed.counts
    (subst P failed.kind_is (header_fault (words_of line) failed.counts failed.failed)))

all_fault : (n : ℕ) (lines : List (List ℕ)) (fault : Fault) → read_lines None n lines ≡ Err fault → FaultIn SpellSoFar n lines fault ⊎ NoLines lines fault
all_fault n [] fault e = inr (tt, same_Err fault (record { line = 1; kind = NoHeader }) (sym e ∙ read_lines-empty n))
all_fault n (line ∷ lines) fault e =
    all_by n line lines fault (λ f. all_fault (n + 1) lines fault f) (line_step None line) refl (sym (read_lines-cons None n line lines) ∙ e)

-- a text's fault is its first fault
pub fault_found : (text : List ℕ) (fault : Fault) → policy_of text ≡ Err fault → IsFirstFault text fault
unfolding policy_of
fault_found text fault e =
    ⊎_elim (λ (f : FaultIn SpellSoFar 1 (lines_of text) fault).
    let number = f.number_is in
    inl (record {
      before = f.before;
      line = f.line;
      others = f.others;
      so_far = f.so_far;
      lines_are = f.lines_are;
      number_is = omega (arith, number);
      spelled = f.spelled;
      counts = f.counts;
      fault = f.fault_is;
    }))
    (λ (none : NoLines (lines_of text) fault). inr none)
    (all_fault 1 (lines_of text) fault e)
