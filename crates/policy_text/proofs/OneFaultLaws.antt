-- A text has one first fault at most, and none if it spells a policy.
use Rattle.std.proofs.Common.{◌≡◌, ◌⊎◌, inl, inr, ℕ, ◌+◌, Bool, true, false, eqb, List, [], ◌∷◌, ◌++◌, length, map, Option, Some, None, Result, Ok, Err, refl, sym, ap, ◌∙◌, subst, arith, ⊎_elim, append_assoc, append-nil, MatchBool, IfErr}
use Rattle.std.specs.List.{slice_split}
use Rattle.std.proofs.lemmas.Bool.{false≢true}
use Rattle.ipfix_element.specs.Element.{Element, IsElement}
use Rattle.ipfix_element.specs.Names.{element_name}
use Rattle.sequences.proofs.ResultLaws.{same_Err, Err-Ok}
use Rattle.sequences.specs.Results.{◌>>=◌}
use Rattle.policy_text.specs.declared.fault.FaultKind.{FaultKind}
use Rattle.policy_text.specs.declared.fault.FaultKind.TheVariants.{NoHeader, BadName, BadKey}
use Rattle.policy_text.specs.declared.fault.Fault.{Fault}
use Rattle.policy_text.specs.declared.version.Version.{Version}
use Rattle.policy_text.specs.Words.{Word, words_of, lines_of, is_skipped}
use Rattle.policy_text.specs.Policies.{PolicyMeaning, without_lines}
use Rattle.policy_text.specs.Results.{at_line, then_read, Parses, is_memory}
use Rattle.policy_text.specs.Classes.{element, with_key, add_piece, add_pieces, key_of}
use Rattle.policy_text.specs.Lines.{policy_after_line}
use Rattle.policy_text.specs.Parsing.{version_of, step, line_step, read_lines, policy_of}
use Rattle.policy_text.specs.Grammar.{IsKey, IsPolicy}
use Rattle.policy_text.specs.Printing.{header}
use Rattle.policy_text.specs.Spelling.{AreLines, AreAllLines, Spells}
use Rattle.policy_text.specs.LineParts.{LinePart, part_behind, IsKeyFault, IsKindOf}
use Rattle.policy_text.specs.FirstFault.{MayStand, AwaitsAggregate, Begins, IsKind, IsFaultyLine, IsLineFault, SpellSoFar, IsFaultAt, IsFirstFault, FirstFault, PolicyOrFault}
use Rattle.policy_text.specs.LineParts.LinePart.{first_word, keyword, who, domain, network, action, known_name, element_or_star, treatment, bits, unused_name, key_list, seconds, line_end}
use Rattle.policy_text.proofs.ParsingLaws.{read_lines-cons, read_lines-empty}
use Rattle.policy_text.proofs.KeptLaws.{IsPolicy-without_lines}
use Rattle.policy_text.proofs.KeyStepLaws.{IsKeyAfter, as_key, step_by_step}
use Rattle.policy_text.proofs.SoundLaws.{key_push, with_key-sound}
use Rattle.policy_text.proofs.RoundLaws.{header_step}
use Rattle.policy_text.proofs.SpellLaws.{line_step-only, skip-only, version_of-is, policy_of-found, policy_of-only}
use Rattle.policy_text.proofs.KindLaws.{element_here, element_word, element_kind, with_key_kind}
use Rattle.policy_text.proofs.FirstFaultLaws.{read_stands, line_fault, adds_kept, fault_found, front_word}

-- the kind of a key's fault is that of its reading
read_key : (before key : List Element) (others : List Word) → IsKeyAfter before key → add_pieces before (map element_name key ++ others) ≡ add_pieces (before ++ key) others
unfolding add_pieces add_piece
read_key before [] others h = ap (λ k. add_pieces k others) (sym (append-nil before))
read_key before (e ∷ es) others h =
    rw (element_here (element_name e) e h.0 refl, h.1) (read_key (before ++ e ∷ []) es others h.2 ∙ ap (λ k. add_pieces k others) (append_assoc before (e ∷ []) es))

refused_piece : (key : List Element) (piece : Word) (others : List Word) (kind : FaultKind) → add_piece key piece ≡ Err kind → add_pieces key (piece ∷ others) ≡ Err kind
unfolding add_pieces
refused_piece key piece others kind e = ap (λ r. r >>= λ more. add_pieces more others) e

unnamed_piece : (key : List Element) (piece : Word) → ((e : Element) → IsElement e → piece ≡ element_name e → ⊥) → (r : Result Element FaultKind) → element piece ≡ r → add_piece key piece ≡ Err BadName
unfolding add_piece
unnamed_piece key piece none (Ok e) h = let named = element_word piece e h in absurd (none e named.0 named.1)
unnamed_piece key piece none (Err kind) h = ap (λ r. r >>= λ e. with_key key e) h ∙ ap (λ (k : FaultKind). Err k) (element_kind piece kind h)

refused_by : (key : List Element) (e : Element) → (IsKey (key ++ e ∷ []) → ⊥) → IsKey key → IsElement e → (r : Result (List Element) FaultKind) → with_key key e ≡ r → with_key key e ≡ Err BadKey
refused_by key e none begun ok (Ok more) h =
    let added = with_key-sound key more e h in
    absurd (none (as_key (key ++ e ∷ []) (key_push [] key e (step_by_step key begun) ok added.again)))
refused_by key e none begun ok (Err kind) h = h ∙ ap (λ (k : FaultKind). Err k) (with_key_kind key e kind h)

refused_element : (key : List Element) (piece : Word) (e : Element) → IsElement e → piece ≡ element_name e → (IsKey (key ++ e ∷ []) → ⊥) → IsKey key → add_piece key piece ≡ Err BadKey
unfolding add_piece
refused_element key piece e ok is none begun = ap (λ r. r >>= λ x. with_key key x) (element_here piece e ok is) ∙ refused_by key e none begun ok (with_key key e) refl

key_fault_read : (word : Word) (kind : FaultKind) → IsKeyFault word kind → key_of word ≡ Err kind
unfolding key_of
key_fault_read word kind f =
    let at : (k : FaultKind) → kind ≡ k → add_piece f.key f.piece ≡ Err k → add_pieces [] (slice_split (λ c. eqb c 44) word) ≡ Err kind =
    λ k is refused. ap (add_pieces []) f.pieces_are ∙ read_key [] f.key (f.piece ∷ f.others) (step_by_step f.key f.begun) ∙ refused_piece f.key f.piece f.others k refused ∙ ap (λ (l : FaultKind). Err l) (sym is) in
    ⊎_elim (λ (unnamed : ((e : Element) → IsElement e → f.piece ≡ element_name e → ⊥) × (kind ≡ BadName)).
    at BadName unnamed.1 (unnamed_piece f.key f.piece unnamed.0 (element f.piece) refl))
    (λ (refused : (e : Element) × IsElement e × (f.piece ≡ element_name e) × (IsKey (f.key ++ e ∷ []) → ⊥) × (kind ≡ BadKey)).
    at BadKey refused.4 (refused_element f.key f.piece refused.0 refused.1 refused.2 refused.3 f.begun))
    f.faulty

-- a faulty word has one kind
one_kind_of : (part : LinePart) (word : Word) (k l : FaultKind) → IsKindOf part word k → IsKindOf part word l → k ≡ l
one_kind_of (first_word version) word k l f g = f ∙ sym g
one_kind_of keyword word k l f g = f ∙ sym g
one_kind_of who word k l f g = f ∙ sym g
one_kind_of domain word k l f g = f ∙ sym g
one_kind_of network word k l f g = f ∙ sym g
one_kind_of (action version) word k l f g = f ∙ sym g
one_kind_of known_name word k l f g = f ∙ sym g
one_kind_of element_or_star word k l f g = f ∙ sym g
one_kind_of (treatment version) word k l f g = f ∙ sym g
one_kind_of bits word k l f g = f ∙ sym g
one_kind_of unused_name word k l f g = f ∙ sym g
one_kind_of key_list word k l f g = same_Err k l (sym (key_fault_read word k f) ∙ key_fault_read word l g)
one_kind_of seconds word k l f g = f ∙ sym g
one_kind_of line_end word k l f g = f ∙ sym g

one_kind : (so_far : Option PolicyMeaning) (front rest : List Word) (k l : FaultKind) → IsKind so_far front rest k → IsKind so_far front rest l → k ≡ l
one_kind None front rest k l f g = f ∙ sym g
one_kind (Some policy) front [] k l f g = f ∙ sym g
one_kind (Some policy) front (word ∷ rest) k l f g = one_kind_of (part_behind (first_word policy.version ∷ []) front) word k l f g

-- a line has one place of a first fault
record Longer (long front rest : List Word) : Type 0 where
  word : Word
  more : List Word
  others : List Word
  long_is : long ≡ front ++ word ∷ more
  rest_is : rest ≡ word ∷ others

record SamePlace (front rest other others : List Word) : Type 0 where
  fronts : front ≡ other
  rests : rest ≡ others

tail_of : List Word → List Word
tail_of [] = []
tail_of (word ∷ words) = words

same_tail : (a b : Word) (x y : List Word) → a ∷ x ≡ b ∷ y → x ≡ y
unfolding tail_of
same_tail a b x y e = ap tail_of e

same_head : (a b : Word) (x y : List Word) → a ∷ x ≡ b ∷ y → a ≡ b
unfolding front_word
same_head a b x y e = ap front_word e

longer_on : (a b : Word) (long front rest : List Word) → a ≡ b → Longer long front rest → Longer (a ∷ long) (b ∷ front) rest
longer_on a b long front rest same h = record {
  word = h.word;
  more = h.more;
  others = h.others;
  long_is = ap (λ w. w ∷ long) same ∙ ap (λ ws. b ∷ ws) h.long_is;
  rest_is = h.rest_is;
}

places : (f r g s : List Word) → f ++ r ≡ g ++ s → SamePlace f r g s ⊎ (Longer f g s ⊎ Longer g f r)
places [] r [] s e = inl (record { fronts = refl; rests = e })
places [] r (w ∷ g) s e = inr (inr (record { word = w; more = g; others = g ++ s; long_is = refl; rest_is = e }))
places (w ∷ f) r [] s e = inr (inl (record { word = w; more = f; others = f ++ r; long_is = refl; rest_is = sym e }))
places (w ∷ f) r (v ∷ g) s e =
    let same = same_head w v (f ++ r) (g ++ s) e in
    ⊎_elim (λ (p : SamePlace f r g s). inl (record { fronts = ap (λ x. x ∷ f) same ∙ ap (λ ws. v ∷ ws) p.fronts; rests = p.rests }))
    (λ (other : Longer f g s ⊎ Longer g f r).
    ⊎_elim (λ (l : Longer f g s). inr (inl (longer_on w v f g s same l)))
    (λ (l : Longer g f r). inr (inr (longer_on v w g f r (sym same) l)))
    other)
    (places f r g s (same_tail w v (f ++ r) (g ++ s) e))

no_cons : (front : List Word) (word : Word) (more : List Word) → front ++ word ∷ more ≡ [] → ⊥
no_cons [] word more e = let same : length (word ∷ more) ≡ 0 = ap length e in omega (arith, same)
no_cons (w ∷ front) word more e = let same : length (w ∷ (front ++ word ∷ more)) ≡ 0 = ap length e in omega (arith, same)

-- what begins at more words begins at fewer
begins_shorter : (so_far : Option PolicyMeaning) (front : List Word) (word : Word) (more : List Word) → Begins so_far (front ++ word ∷ more) → Begins so_far (front ++ word ∷ [])
begins_shorter so_far front word more h =
    let P : List Word → Type 0 = λ ws. MayStand so_far ws ⊎ AwaitsAggregate so_far ws in
    (more ++ h.0, subst P (append_assoc front (word ∷ more) h.0 ∙ sym (append_assoc front (word ∷ []) (more ++ h.0))) h.1)

not_longer : (so_far : Option PolicyMeaning) (long front rest : List Word) → Longer long front rest → (long ≡ []) ⊎ Begins so_far long → IsFaultyLine so_far front rest → ⊥
not_longer so_far long front rest l begun faulty =
    let P : List Word → Type 0 = λ ws. IsFaultyLine so_far front ws in
    let Q : List Word → Type 0 = λ ws. Begins so_far ws in
    ⊎_elim (λ (none : long ≡ []). no_cons front l.word l.more (sym l.long_is ∙ none))
    (λ (begins : Begins so_far long). subst P l.rest_is faulty (begins_shorter so_far front l.word l.more (subst Q l.long_is begins)))
    begun

one_line_fault : (so_far : Option PolicyMeaning) (words : List Word) (k l : FaultKind) → IsLineFault so_far words k → IsLineFault so_far words l → k ≡ l
one_line_fault so_far words k l a b =
    ⊎_elim (λ (p : SamePlace a.front a.rest b.front b.rest).
    let P : List Word → Type 0 = λ front. IsKind so_far front b.rest k in
    let Q : List Word → Type 0 = λ rest. IsKind so_far a.front rest k in
    one_kind so_far b.front b.rest k l (subst P p.fronts (subst Q p.rests a.kind_is)) b.kind_is)
    (λ (other : Longer a.front b.front b.rest ⊎ Longer b.front a.front a.rest).
    ⊎_elim (λ (long : Longer a.front b.front b.rest). absurd (not_longer so_far a.front b.front b.rest long a.begun b.faulty))
    (λ (long : Longer b.front a.front a.rest). absurd (not_longer so_far b.front a.front a.rest long b.begun a.faulty))
    other)
    (places a.front a.rest b.front b.rest (sym a.words_are ∙ b.words_are))

-- a faulty line is none that may stand
not_standing : (so_far : Option PolicyMeaning) (front rest : List Word) → IsFaultyLine so_far front rest → MayStand so_far (front ++ rest) → ⊥
not_standing so_far front [] faulty stands = let P : List Word → Type 0 = λ ws. MayStand so_far ws in faulty (subst P (append-nil front) stands)
not_standing so_far front (word ∷ rest) faulty stands = let P : List Word → Type 0 = λ ws. MayStand so_far ws in faulty (rest, inl (subst P (sym (append_assoc front (word ∷ []) rest)) stands))

faulty_line : (so_far : Option PolicyMeaning) (words : List Word) (kind : FaultKind) → IsLineFault so_far words kind → MayStand so_far words → ⊥
faulty_line so_far words kind f stands = let P : List Word → Type 0 = λ ws. MayStand so_far ws in not_standing so_far f.front f.rest f.faulty (subst P f.words_are stands)

line_refused : (policy : PolicyMeaning) (words : List Word) (kind : FaultKind) → IsPolicy policy → is_skipped words ≡ false → IsLineFault (Some policy) words kind → (r : Result PolicyMeaning FaultKind) → policy_after_line policy words ≡ r → policy_after_line policy words ≡ Err kind
line_refused policy words kind valid counts f (Ok new) e = absurd (faulty_line (Some policy) words kind f (read_stands policy new words e))
line_refused policy words kind valid counts f (Err k) e = e ∙ ap (λ (l : FaultKind). Err l) (one_line_fault (Some policy) words k kind (line_fault policy words k valid counts e) f)

header_refused : (words : List Word) (kind : FaultKind) → IsLineFault None words kind → version_of words ≡ None
header_refused words kind f = by_answer (version_of words) refl
  where
    by_answer : (o : Option Version) → version_of words ≡ o → version_of words ≡ None
    by_answer None e = e
    by_answer (Some version) e = absurd (faulty_line None words kind f (version, version_of-is words version e))

-- the lines before the faulty one are read
line_read : (so_far next : Option PolicyMeaning) (n : ℕ) (line : List ℕ) (lines : List (List ℕ)) → line_step so_far line ≡ Ok next → read_lines so_far n (line ∷ lines) ≡ read_lines next (n + 1) lines
line_read so_far next n line lines e = read_lines-cons so_far n line lines ∙ ap (λ r. then_read (at_line n r) (λ x. read_lines x (n + 1) lines)) e

counted_on : (so_far : Option PolicyMeaning) (n : ℕ) (line : List ℕ) (before rest : List (List ℕ)) → read_lines so_far ((n + 1) + length before) rest ≡ read_lines so_far (n + length (line ∷ before)) rest
counted_on so_far n line before rest = let same : (n + 1) + length before ≡ n + length (line ∷ before) = omega arith in ap (λ m. read_lines so_far m rest) same

none_on : (so_far : Option PolicyMeaning) (n : ℕ) (rest : List (List ℕ)) → read_lines so_far n rest ≡ read_lines so_far (n + 0) rest
none_on so_far n rest = let same : n ≡ n + 0 = omega arith in ap (λ m. read_lines so_far m rest) same

skipped_read : (n : ℕ) (before rest : List (List ℕ)) → SpellSoFar before None → read_lines None n (before ++ rest) ≡ read_lines None (n + length before) rest
skipped_read n [] rest h = none_on None n rest
skipped_read n (line ∷ before) rest h =
    line_read None None n line (before ++ rest) (skip-only line h.0) ∙ skipped_read (n + 1) before rest h.1 ∙ counted_on None n line before rest

lead_read : (p q : PolicyMeaning) (n : ℕ) (before rest : List (List ℕ)) → AreLines p before q → read_lines (Some p) n (before ++ rest) ≡ read_lines (Some q) (n + length before) rest
lead_read p q n [] rest h = ap (λ m. read_lines (Some m) n rest) h ∙ none_on (Some q) n rest
lead_read p q n (line ∷ before) rest h =
    line_read (Some p) (Some h.0) n line (before ++ rest) (line_step-only p h.0 line h.1) ∙ lead_read h.0 q (n + 1) before rest h.2 ∙ counted_on (Some q) n line before rest

spelled_read : (q : PolicyMeaning) (n : ℕ) (before rest : List (List ℕ)) → AreAllLines before q → read_lines None n (before ++ rest) ≡ read_lines (Some q) (n + length before) rest
spelled_read q n [] rest h = absurd h
spelled_read q n (line ∷ before) rest h =
    ⊎_elim (λ (skip : (is_skipped (words_of line) ≡ true) × AreAllLines before q).
    line_read None None n line (before ++ rest) (skip-only line skip.0) ∙ spelled_read q (n + 1) before rest skip.1 ∙ counted_on (Some q) n line before rest)
    (λ (kept : (is_skipped (words_of line) ≡ false) × (version : Version) × (words_of line ≡ header version) × AreLines (without_lines version) before q).
    line_read None (Some (without_lines kept.1)) n line (before ++ rest) (header_step kept.1 line kept.2) ∙ lead_read (without_lines kept.1) q (n + 1) before rest kept.3 ∙ counted_on (Some q) n line before rest)
    h

lead_kept : (p q : PolicyMeaning) (lines : List (List ℕ)) → IsPolicy p → AreLines p lines q → IsPolicy q
lead_kept p q [] valid h = let P : PolicyMeaning → Type 0 = λ m. IsPolicy m in subst P h valid
lead_kept p q (line ∷ lines) valid h = lead_kept h.0 q lines (adds_kept p h.0 (words_of line) valid h.1) h.2

-- what lines spell is a policy
pub spelled_kept : (q : PolicyMeaning) (lines : List (List ℕ)) → AreAllLines lines q → IsPolicy q
spelled_kept q [] h = absurd h
spelled_kept q (line ∷ lines) h =
    ⊎_elim (λ (skip : (is_skipped (words_of line) ≡ true) × AreAllLines lines q). spelled_kept q lines skip.1)
    (λ (kept : (is_skipped (words_of line) ≡ false) × (version : Version) × (words_of line ≡ header version) × AreLines (without_lines version) lines q).
    lead_kept (without_lines kept.1) q lines (IsPolicy-without_lines kept.1) kept.3)
    h

-- the faulty line is refused
step_refused : (p : PolicyMeaning) (line : List ℕ) (kind : FaultKind) → is_skipped (words_of line) ≡ false → policy_after_line p (words_of line) ≡ Err kind → line_step (Some p) line ≡ Err kind
unfolding line_step step
step_refused p line kind counts e = rw (counts, e) refl

header_step_refused : (line : List ℕ) → is_skipped (words_of line) ≡ false → version_of (words_of line) ≡ None → line_step None line ≡ Err NoHeader
unfolding line_step step
header_step_refused line counts e = rw (counts, e) refl

fault_line : (so_far : Option PolicyMeaning) (n m : ℕ) (line : List ℕ) (lines : List (List ℕ)) (kind : FaultKind) → line_step so_far line ≡ Err kind → m ≡ n → read_lines so_far n (line ∷ lines) ≡ Err (record { line = m; kind = kind })
fault_line so_far n m line lines kind e same =
    read_lines-cons so_far n line lines ∙ ap (λ r. then_read (at_line n r) (λ x. read_lines x (n + 1) lines)) e ∙ ap (λ (k : ℕ). Err (record { line = k; kind = kind })) (sym same)

fault_by : (so_far : Option PolicyMeaning) (before others : List (List ℕ)) (line : List ℕ) (n : ℕ) (kind : FaultKind) → n ≡ 1 + length before → SpellSoFar before so_far → is_skipped (words_of line) ≡ false → IsLineFault so_far (words_of line) kind → read_lines None 1 (before ++ line ∷ others) ≡ Err (record { line = n; kind = kind })
fault_by None before others line n kind number spelled counts f =
    let e = header_step_refused line counts (header_refused (words_of line) kind f) ∙ ap (λ (k : FaultKind). Err k) (sym f.kind_is) in
    skipped_read 1 before (line ∷ others) spelled ∙ fault_line None (1 + length before) n line others kind e number
fault_by (Some q) before others line n kind number spelled counts f =
    let e = step_refused q line kind counts (line_refused q (words_of line) kind (spelled_kept q before spelled) counts f (policy_after_line q (words_of line)) refl) in
    spelled_read q 1 before (line ∷ others) spelled ∙ fault_line (Some q) (1 + length before) n line others kind e number

fault_only : (text : List ℕ) (fault : Fault) → IsFirstFault text fault → policy_of text ≡ Err fault
unfolding policy_of
fault_only text fault h =
    ⊎_elim (λ (f : IsFaultAt (lines_of text) fault.line fault.kind).
    let number = f.number_is in
    ap (read_lines None 1) f.lines_are ∙ fault_by f.so_far f.before f.others f.line fault.line fault.kind (omega (arith, number)) f.spelled f.counts f.fault)
    (λ (none : SpellSoFar (lines_of text) None × (fault ≡ record { line = 1; kind = NoHeader })).
    ap (read_lines None 1) (sym (append-nil (lines_of text))) ∙ skipped_read 1 (lines_of text) [] none.0 ∙ read_lines-empty (1 + length (lines_of text)) ∙ ap (λ (x : Fault). Err x) (sym none.1))
    h

-- the fault that a call answers
reported : (text : List ℕ) (fault : Fault) (b : Bool) → MatchBool b (fault.line ≡ 0) (policy_of text ≡ Err fault) → b ≡ false → IsFirstFault text fault
reported text fault true h e = absurd (false≢true (sym e))
reported text fault false h e = fault_found text fault h

pub parses-first : (text : List ℕ) (r : Result PolicyMeaning Fault) → Parses (λ (p : PolicyMeaning). p) r (policy_of text) → IfErr r (λ fault. is_memory fault.kind ≡ false → IsFirstFault text fault)
parses-first text (Ok p) h = tt
parses-first text (Err fault) h = reported text fault (is_memory fault.kind) h

-- the law
pub first_fault : FirstFault
first_fault text fault = (fault_found text fault, fault_only text fault)

policy_or_fault_by : (text : List ℕ) (r : Result PolicyMeaning Fault) → policy_of text ≡ r →
    ((policy : PolicyMeaning) × Spells text policy × ((fault : Fault) → IsFirstFault text fault → ⊥))
    ⊎ ((fault : Fault) × IsFirstFault text fault × ((other : Fault) → IsFirstFault text other → other ≡ fault) × ((policy : PolicyMeaning) → Spells text policy → ⊥))
policy_or_fault_by text (Ok policy) e = inl (policy, policy_of-found text policy e, λ fault f. Err-Ok fault policy (sym (fault_only text fault f) ∙ e))
policy_or_fault_by text (Err fault) e = inr (
  fault,
  fault_found text fault e,
  λ other f. same_Err other fault (sym (fault_only text other f) ∙ e),
  λ policy spelled. Err-Ok fault policy (sym e ∙ policy_of-only text policy spelled),
)

pub policy_or_fault : PolicyOrFault
policy_or_fault text = policy_or_fault_by text (policy_of text) refl
