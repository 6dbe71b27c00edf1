-- The records of a group after more were counted, and what groups stand for after others were closed.
use Rattle.std.proofs.Common.{◌≡◌, ℕ, Bool, true, false, cond, not, List, [], ◌∷◌, ◌++◌, None, refl, sym, ap, ◌∙◌, append-nil}
use Rattle.std.proofs.lemmas.List.Elements.{filter-append}
use Rattle.flow_aggregate.specs.Groups.{Group, Sample, group_of}
use Rattle.flow_aggregate.specs.GroupOrder.{same_group, same_group-is}
use Rattle.flow_aggregate.specs.Running.{Entries, of_group, sums_at, sums_over, SumsStand, is_due, staying}
use Rattle.flow_aggregate.proofs.EntryLaws.{same_both}

-- ---- the records of a group, and one more

pub more_of : (g : Group) (cs : List Sample) (c : Sample) → same_group g (group_of c) ≡ true → of_group g (cs ++ c ∷ []) ≡ of_group g cs ++ c ∷ []
more_of g cs c same =
    let all = filter-append (λ (d : Sample). same_group g (group_of d)) cs (c ∷ []) in
    rw (all, same) refl

pub none_of : (g : Group) (cs : List Sample) (c : Sample) → same_group g (group_of c) ≡ false → of_group g (cs ++ c ∷ []) ≡ of_group g cs
none_of g cs c other =
    let all = filter-append (λ (d : Sample). same_group g (group_of d)) cs (c ∷ []) in
    rw (all, other) (append-nil (of_group g cs))

-- ---- closing

stays_of : (t : ℕ) (cs : List Sample) (g : Group) → of_group g (staying t cs) ≡ cond (is_due t g) [] (of_group g cs)
stays_of t [] g = same_both (is_due t g) []
stays_of t (c ∷ cs) g = by (is_due t (group_of c)) (same_group g (group_of c)) refl refl (stays_of t cs g) where
  by : (due same : Bool) → is_due t (group_of c) ≡ due → same_group g (group_of c) ≡ same → of_group g (staying t cs) ≡ cond (is_due t g) [] (of_group g cs)
      → of_group g (cond (not due) (c ∷ staying t cs) (staying t cs)) ≡ cond (is_due t g) [] (cond same (c ∷ of_group g cs) (of_group g cs))
  by true true is-due is-same after =
      let one = same_group-is g (group_of c) is-same in
      let due : is_due t g ≡ true = rw one is-due in
      let gone : of_group g (staying t cs) ≡ [] = rw due at after in
      rw due gone
  by true false is-due is-same after = after
  by false true is-due is-same after =
      let one = same_group-is g (group_of c) is-same in
      let due : is_due t g ≡ false = rw one is-due in
      let rest : of_group g (staying t cs) ≡ of_group g cs = rw due at after in
      rw (is-same, due) (ap (λ (ds : List Sample). c ∷ ds) rest)
  by false false is-due is-same after = rw is-same after

-- groups of which those that are due are gone, and the others have the sums that they had
pub stays : (t : ℕ) (es fs : Entries) (cs : List Sample) → ((g : Group) → sums_at fs g ≡ cond (is_due t g) None (sums_at es g)) → SumsStand es cs → SumsStand fs (staying t cs)
stays t es fs cs sums stands g = sums g ∙ by (is_due t g) (stands g) ∙ ap sums_over (sym (stays_of t cs g)) where
  by : (due : Bool) → sums_at es g ≡ sums_over (of_group g cs) → cond due None (sums_at es g) ≡ sums_over (cond due [] (of_group g cs))
  by true is = refl
  by false is = is

-- where there are none, none stay
pub none_stay : (t : ℕ) (cs : List Sample) → SumsStand [] cs → SumsStand [] (staying t cs)
none_stay t cs stands = stays t [] [] cs (λ g. same_both (is_due t g) None) stands
