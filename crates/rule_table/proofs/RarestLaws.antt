-- Of marks that are looked at one after another one is kept.
use Rattle.std.proofs.Common.{◌≡◌, ◌⊎◌, ℕ, ◌+◌, ◌<◌, List, [], ◌∷◌, ◌++◌, length, get_or, take, Option, Some, None, MatchOption, ap, sym, ◌∙◌, subst, inl, inr, arith}
use Rattle.std.specs.List.{Contains}
use Rattle.std.proofs.lemmas.List.{take_more}
use Rattle.std.proofs.lemmas.List.Elements.{Contains-append_left, Contains-push, filter_map-append}
use Rattle.policy_text.specs.declared.rule.Rule.{Rule}
use Rattle.rule_table.specs.Marks.{who_mark, condition_marks, present, either, or_alone, marks_of}
use Rattle.rule_table.proofs.Members.{here}

-- one of these, or nothing where there are none
abbrev pub IsOneOf : List ℕ → Option ℕ → Type 0
IsOneOf marks best = MatchOption best (marks ≡ []) (λ mark. Contains marks mark)

-- the one so far, or else the next
first_kept : (marks : List ℕ) (one other : Option ℕ) → IsOneOf marks one → IsOneOf (marks ++ present (other ∷ [])) (either one other)
first_kept marks None None is = ap (λ ms. ms ++ []) is
first_kept marks None (Some y) is = Contains-push marks y
first_kept marks (Some x) other is = Contains-append_left marks (present (other ∷ [])) x is

-- the next, or else the one so far
next_kept : (marks : List ℕ) (one other : Option ℕ) → IsOneOf marks one → IsOneOf (marks ++ present (other ∷ [])) (either other one)
next_kept marks None None is = ap (λ ms. ms ++ []) is
next_kept marks (Some x) None is = Contains-append_left marks [] x is
next_kept marks one (Some y) is = Contains-push marks y

kept : (marks : List ℕ) (one other best : Option ℕ) → IsOneOf marks one → (best ≡ either one other) ⊎ (best ≡ either other one) → IsOneOf (marks ++ present (other ∷ [])) best
kept marks one other best is (inl e) = let P : Option ℕ → Type 0 = λ o. IsOneOf (marks ++ present (other ∷ [])) o in subst P (sym e) (first_kept marks one other is)
kept marks one other best is (inr e) = let P : Option ℕ → Type 0 = λ o. IsOneOf (marks ++ present (other ∷ [])) o in subst P (sym e) (next_kept marks one other is)

pub one_more : (marks : List (Option ℕ)) (n : ℕ) (d one best : Option ℕ) → n < length marks → IsOneOf (present (take n marks)) one
    → (best ≡ either one (get_or marks n d)) ⊎ (best ≡ either (get_or marks n d) one) → IsOneOf (present (take (n + 1) marks)) best
one_more marks n d one best within is picked =
    let P : List ℕ → Type 0 = λ ms. IsOneOf ms best in
    let grown : present (take (n + 1) marks) ≡ present (take n marks) ++ present (get_or marks n d ∷ []) = ap present (take_more marks n d within) ∙ filter_map-append (λ mark. mark) (take n marks) (get_or marks n d ∷ []) in
    subst P (sym grown) (kept (present (take n marks)) one (get_or marks n d) best is picked)

-- ---- the one that is kept is one of the rule's marks

among_alone : (who : ℕ) (marks : List ℕ) (mark : ℕ) → Contains marks mark → Contains (or_alone who marks) mark
among_alone who [] mark (k, l, at) = absurd (omega arith)
among_alone who (x ∷ xs) mark c = c

pub of_condition : (rule : Rule) (read : List (Option ℕ)) (mark : ℕ) → read ≡ condition_marks (who_mark rule.who) rule → Contains (present read) mark → Contains (marks_of rule) mark
unfolding marks_of
of_condition rule read mark same c =
    let P : List (Option ℕ) → Type 0 = λ marks. Contains (present marks) mark in
    among_alone (who_mark rule.who) (present (condition_marks (who_mark rule.who) rule)) mark (subst P same c)

pub of_who : (rule : Rule) (read : List (Option ℕ)) (who : ℕ) → read ≡ condition_marks (who_mark rule.who) rule → present read ≡ [] → who ≡ who_mark rule.who → Contains (marks_of rule) who
unfolding marks_of
of_who rule read who same none is =
    let P : List ℕ → Type 0 = λ marks. Contains (or_alone (who_mark rule.who) marks) who in
    subst P (sym none ∙ ap present same) (here (who_mark rule.who) who [] (sym is))
