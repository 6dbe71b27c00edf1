-- Which texts take memory to be read.
use Rattle.std.proofs.Common.{◌≡◌, ◌⊎◌, inl, inr, ⊎_elim, ℕ, true, false, List, [], ◌∷◌, ◌++◌, Option, Some, None, Result, Ok, Err, sym, subst, ap, refl}
use Rattle.std.proofs.lemmas.Bool.{cases_Bool, false≢true}
use Rattle.flow_prefix.specs.Reading.{cut_at}
use Rattle.flow_prefix.proofs.PartsLaws.{slice_split-cut, slice_split-whole}
use Rattle.policy_text.specs.declared.version.Version.{Version}
use Rattle.policy_text.specs.Words.{words_of, lines_of, is_skipped}
use Rattle.policy_text.specs.Policies.{PolicyMeaning, without_lines}
use Rattle.policy_text.specs.Parsing.{line_step}
use Rattle.policy_text.specs.Printing.{header}
use Rattle.policy_text.specs.Spelling.{AreLines, AreAllLines}
use Rattle.policy_text.specs.Results.{is_memory}
use Rattle.policy_text.specs.Memory.{line_takes, step_takes, TakesMemory}
use Rattle.policy_text.specs.declared.fault.FaultKind.{FaultKind}
use Rattle.policy_text.specs.declared.fault.Fault.{Fault}
use Rattle.policy_text.proofs.RoundLaws.{header_step}
use Rattle.policy_text.proofs.SpellLaws.{line_step-found, line_step-only, header-found, skip-only}

-- what is so behind a line that could be read
abbrev pub Behind : Result (Option PolicyMeaning) FaultKind → (Option PolicyMeaning → Type 0) → Type 0
Behind (Ok so_far) P = P so_far
Behind (Err kind) P = ⊥

-- one of these lines takes memory, the first faulty one or one before it
abbrev pub SomeTakes : Option PolicyMeaning → List (List ℕ) → Type 0
SomeTakes so_far [] = ⊥
SomeTakes so_far (line ∷ others) = (step_takes so_far line ≡ true) ⊎ Behind (line_step so_far line) (λ next. SomeTakes next others)

-- such a line, where those before it spell what S says
record TakenIn (S : List (List ℕ) → PolicyMeaning → Type 0) (lines : List (List ℕ)) : Type 0 where
  before : List (List ℕ)
  line : List ℕ
  others : List (List ℕ)
  so_far : PolicyMeaning
  lines_are : lines ≡ before ++ line ∷ others
  spelled : S before so_far
  counts : is_skipped (words_of line) ≡ false
  takes : line_takes so_far (words_of line) ≡ true

later_taken : (S T : List (List ℕ) → PolicyMeaning → Type 0) (line : List ℕ) (lines : List (List ℕ)) → ((before : List (List ℕ)) (q : PolicyMeaning) → S before q → T (line ∷ before) q) → TakenIn S lines → TakenIn T (line ∷ lines)
later_taken S T line lines onto t =
    record {
      before = line ∷ t.before;
      line = t.line;
      others = t.others;
      so_far = t.so_far;
      lines_are = ap (λ ls. line ∷ ls) t.lines_are;
      spelled = onto t.before t.so_far t.spelled;
      counts = t.counts;
      takes = t.takes;
    }

this_taken : (p : PolicyMeaning) (line : List ℕ) (lines : List (List ℕ)) → step_takes (Some p) line ≡ true → TakenIn (AreLines p) (line ∷ lines)
unfolding step_takes
this_taken p line lines h =
    ⊎_elim (λ (skip : is_skipped (words_of line) ≡ true). absurd (false≢true (rw skip at h)))
    (λ (kept : is_skipped (words_of line) ≡ false).
    record {
      before = [];
      line = line;
      others = lines;
      so_far = p;
      lines_are = refl;
      spelled = refl;
      counts = kept;
      takes = rw kept at h;
    })
    (cases_Bool (is_skipped (words_of line)))

lines_taken_by : (p : PolicyMeaning) (line : List ℕ) (lines : List (List ℕ)) → ((q : PolicyMeaning) → SomeTakes (Some q) lines → TakenIn (AreLines q) lines) → (r : Result (Option PolicyMeaning) FaultKind) → line_step (Some p) line ≡ r → Behind r (λ next. SomeTakes next lines) → TakenIn (AreLines p) (line ∷ lines)
lines_taken_by p line lines later (Ok x) stepped h =
    let read = line_step-found p line x stepped in
    let S : Option PolicyMeaning → Type 0 = λ y. SomeTakes y lines in
    later_taken (AreLines read.mid) (AreLines p) line lines (λ before q lead. (read.mid, read.line_is, lead)) (later read.mid (subst S (sym read.is) h))
lines_taken_by p line lines later (Err kind) stepped h = absurd h

lines_taken : (p : PolicyMeaning) (lines : List (List ℕ)) → SomeTakes (Some p) lines → TakenIn (AreLines p) lines
lines_taken p [] h = absurd h
lines_taken p (line ∷ lines) h =
    ⊎_elim (λ (here : step_takes (Some p) line ≡ true). this_taken p line lines here)
    (λ (later : Behind (line_step (Some p) line) (λ next. SomeTakes next lines)).
    lines_taken_by p line lines (λ q t. lines_taken q lines t) (line_step (Some p) line) refl later)
    h

none_before : (line : List ℕ) → step_takes None line ≡ true → ⊥
unfolding step_takes
none_before line h = false≢true h

all_taken_by : (line : List ℕ) (lines : List (List ℕ)) → (SomeTakes None lines → TakenIn AreAllLines lines) → (r : Result (Option PolicyMeaning) FaultKind) → line_step None line ≡ r → Behind r (λ next. SomeTakes next lines) → TakenIn AreAllLines (line ∷ lines)
all_taken_by line lines later (Ok x) stepped h =
    let read = header-found line x stepped in
    let S : Option PolicyMeaning → Type 0 = λ y. SomeTakes y lines in
    ⊎_elim (λ (skip : (is_skipped (words_of line) ≡ true) × (None ≡ x)).
    later_taken AreAllLines AreAllLines line lines (λ before q lead. inl (skip.0, lead)) (later (subst S (sym skip.1) h)))
    (λ (kept : (is_skipped (words_of line) ≡ false) × (version : Version) × (words_of line ≡ header version) × (Some (without_lines version) ≡ x)).
    later_taken (AreLines (without_lines kept.1)) AreAllLines line lines (λ before q lead. inr (kept.0, kept.1, kept.2, lead)) (lines_taken (without_lines kept.1) lines (subst S (sym kept.3) h)))
    read.how
all_taken_by line lines later (Err kind) stepped h = absurd h

all_taken : (lines : List (List ℕ)) → SomeTakes None lines → TakenIn AreAllLines lines
all_taken [] h = absurd h
all_taken (line ∷ lines) h =
    ⊎_elim (λ (here : step_takes None line ≡ true). absurd (none_before line here))
    (λ (later : Behind (line_step None line) (λ next. SomeTakes next lines)).
    all_taken_by line lines (λ t. all_taken lines t) (line_step None line) refl later)
    h

pub text_taken : (text : List ℕ) → SomeTakes None (lines_of text) → TakesMemory text
text_taken text h =
    let t = all_taken (lines_of text) h in
    record {
      before = t.before;
      line = t.line;
      others = t.others;
      so_far = t.so_far;
      lines_are = t.lines_are;
      spelled = t.spelled;
      counts = t.counts;
      takes = t.takes;
    }

-- the other way round: such a line is one of those that the walk over the lines finds
step_taken : (p : PolicyMeaning) (line : List ℕ) → is_skipped (words_of line) ≡ false → line_takes p (words_of line) ≡ true → step_takes (Some p) line ≡ true
unfolding step_takes
step_taken p line counts takes = rw (counts, takes) refl

found_in_lines : (p so_far : PolicyMeaning) (before others : List (List ℕ)) (line : List ℕ) → AreLines p before so_far → is_skipped (words_of line) ≡ false → line_takes so_far (words_of line) ≡ true → SomeTakes (Some p) (before ++ line ∷ others)
found_in_lines p so_far [] others line same counts takes =
    let P : PolicyMeaning → Type 0 = λ q. line_takes q (words_of line) ≡ true in
    inl (step_taken p line counts (subst P (sym same) takes))
found_in_lines p so_far (first ∷ before) others line h counts takes =
    let S : Result (Option PolicyMeaning) FaultKind → Type 0 = λ r. Behind r (λ next. SomeTakes next (before ++ line ∷ others)) in
    inr (subst S (sym (line_step-only p h.0 first h.1)) (found_in_lines h.0 so_far before others line h.2 counts takes))

found_in_all : (so_far : PolicyMeaning) (before others : List (List ℕ)) (line : List ℕ) → AreAllLines before so_far → is_skipped (words_of line) ≡ false → line_takes so_far (words_of line) ≡ true → SomeTakes None (before ++ line ∷ others)
found_in_all so_far [] others line h counts takes = absurd h
found_in_all so_far (first ∷ before) others line h counts takes =
    let S : Result (Option PolicyMeaning) FaultKind → Type 0 = λ r. Behind r (λ next. SomeTakes next (before ++ line ∷ others)) in
    ⊎_elim (λ (skip : (is_skipped (words_of first) ≡ true) × AreAllLines before so_far).
    inr (subst S (sym (skip-only first skip.0)) (found_in_all so_far before others line skip.1 counts takes)))
    (λ (kept : (is_skipped (words_of first) ≡ false) × (version : Version) × (words_of first ≡ header version) × AreLines (without_lines version) before so_far).
    inr (subst S (sym (header_step kept.1 first kept.2)) (found_in_lines (without_lines kept.1) so_far before others line kept.3 counts takes)))
    h

pub taken_text : (text : List ℕ) → TakesMemory text → SomeTakes None (lines_of text)
taken_text text t = subst (SomeTakes None) (sym t.lines_are) (found_in_all t.so_far t.before t.others t.line t.spelled t.counts t.takes)

-- a turn of the loop over the lines
pub takes-turn : (so_far next : Option PolicyMeaning) (text line after : List ℕ) → cut_at 10 text ≡ Some (line, after) → line_step so_far line ≡ Ok next
    → SomeTakes next (lines_of after) → SomeTakes so_far (lines_of text)
takes-turn so_far next text line after e h later =
    subst (SomeTakes so_far) (sym (slice_split-cut 10 text line after e))
    (inr (subst (λ r. Behind r (λ x. SomeTakes x (lines_of after))) (sym h) later))

-- this line
pub takes-cut : (so_far : Option PolicyMeaning) (text line after : List ℕ) → cut_at 10 text ≡ Some (line, after) → step_takes so_far line ≡ true → SomeTakes so_far (lines_of text)
takes-cut so_far text line after e h = subst (SomeTakes so_far) (sym (slice_split-cut 10 text line after e)) (inl h)

-- the last line
pub takes-whole : (so_far : Option PolicyMeaning) (text : List ℕ) → cut_at 10 text ≡ None → step_takes so_far text ≡ true → SomeTakes so_far (lines_of text)
takes-whole so_far text e h = subst (SomeTakes so_far) (sym (slice_split-whole 10 text e)) (inl h)

-- what reading says of a fault that is want of memory
abbrev pub TakesIfMemory : List ℕ → Fault → Type 0
TakesIfMemory text fault = is_memory fault.kind ≡ true → TakesMemory text
