-- What is in force is what the last item that decides on the ID defines, unless all of its kind were withdrawn after it.
use Rattle.std.proofs.Common.{◌≡◌, ℕ, Bool, true, false, cond, List, [], ◌∷◌, ◌++◌, Option, Some, None, refl, sym, ap, ◌∙◌}
use Rattle.std.specs.Prelude.{◌==◌, not}
use Rattle.std.specs.List.{AllByRecursion}
use Rattle.std.proofs.lemmas.Bool.{eqb-true, eq-eqb}
use Rattle.ipfix_template.specs.declared.template.Template.{Template}
use Rattle.ipfix_template.specs.Template.{is_options}
use Rattle.ipfix_message.specs.declared.item.Item.{Item}
use Rattle.ipfix_message.specs.declared.item.Item.TheVariants.{Define, Withdraw, WithdrawAll, Refused, DataSet, Skipped}
use Rattle.std.proofs.lemmas.Option.{same_Some}
use Rattle.ipfix_session.specs.LastDefinition.{LeavesAlone, IsInForce}
use Rattle.ipfix_session.specs.InForce.{same_kind, is_other_kind, unless_of_kind, template_in_force}

-- one item more that leaves it alone
after_one : (id : ℕ) (items : List Item) (t : Template) (item : Item) → LeavesAlone id (is_options t) item → IsInForce id items t → IsInForce id (item ∷ items) t
after_one id items t item l h = record {
  newer = item ∷ h.newer;
  older = h.older;
  items_are = ap (λ (is : List Item). item ∷ is) h.items_are;
  alone = (l, h.alone);
}

other_kind : (a b : Bool) → not (same_kind a b) ≡ true → a ≡ b → ⊥
other_kind true true e same = absurd cc
other_kind true false e same = absurd cc
other_kind false true e same = absurd cc
other_kind false false e same = absurd cc

kind_is : (a b : Bool) → WithdrawAll a ≡ WithdrawAll b → a ≡ b
kind_is a b e = cc

pub found : (id : ℕ) (items : List Item) (t : Template) → template_in_force id items ≡ Some t → IsInForce id items t
unfolding template_in_force
found id [] t e = absurd cc
found id (Define other u ∷ older) t e = defines (λ k. found id older t k) (id == other) refl e where
  defines : (template_in_force id older ≡ Some t → IsInForce id older t) → (same : Bool) → (id == other) ≡ same → cond same (Some u) (template_in_force id older) ≡ Some t → IsInForce id (Define other u ∷ older) t
  defines rec true is at = record {
    newer = [];
    older = older;
    items_are = ap (λ (i : ℕ). Define i u ∷ older) (sym (eqb-true id other is)) ∙ ap (λ (x : Template). Define id x ∷ older) (same_Some u t at);
    alone = tt;
  }
  defines rec false is at = after_one id older t (Define other u) (record { undecided = is; stays = λ d. absurd cc }) (rec at)
found id (Refused other why ∷ older) t e = refuses (λ k. found id older t k) (id == other) refl e where
  refuses : (template_in_force id older ≡ Some t → IsInForce id older t) → (same : Bool) → (id == other) ≡ same → cond same None (template_in_force id older) ≡ Some t → IsInForce id (Refused other why ∷ older) t
  refuses rec true is at = absurd cc
  refuses rec false is at = after_one id older t (Refused other why) (record { undecided = is; stays = λ d. absurd cc }) (rec at)
found id (Withdraw other ∷ older) t e = withdraws (λ k. found id older t k) (id == other) refl e where
  withdraws : (template_in_force id older ≡ Some t → IsInForce id older t) → (same : Bool) → (id == other) ≡ same → cond same None (template_in_force id older) ≡ Some t → IsInForce id (Withdraw other ∷ older) t
  withdraws rec true is at = absurd cc
  withdraws rec false is at = after_one id older t (Withdraw other) (record { undecided = is; stays = λ d. absurd cc }) (rec at)
found id (WithdrawAll options ∷ older) t e = all (λ k. found id older t k) (template_in_force id older) refl e where
  all : (template_in_force id older ≡ Some t → IsInForce id older t) → (before : Option Template) → template_in_force id older ≡ before → unless_of_kind options before ≡ Some t → IsInForce id (WithdrawAll options ∷ older) t
  all rec None is at = absurd cc
  all rec (Some u) is at = kept (is_other_kind options u) refl at where
    kept : (other : Bool) → is_other_kind options u ≡ other → cond other (Some u) None ≡ Some t → IsInForce id (WithdrawAll options ∷ older) t
    kept false k at2 = absurd cc
    kept true k at2 =
        let same : u ≡ t = same_Some u t at2 in
        after_one id older t (WithdrawAll options)
        (record { undecided = refl; stays = λ d. other_kind options (is_options t) (ap (λ (x : Template). not (same_kind options (is_options x))) (sym same) ∙ k) (kind_is options (is_options t) d) })
        (rec (is ∙ at2))
found id (DataSet other start len ∷ older) t e = after_one id older t (DataSet other start len) (record { undecided = refl; stays = λ d. absurd cc }) (found id older t e)
found id (Skipped set ∷ older) t e = after_one id older t (Skipped set) (record { undecided = refl; stays = λ d. absurd cc }) (found id older t e)

is_other : (a b : Bool) → (WithdrawAll a ≡ WithdrawAll b → ⊥) → not (same_kind a b) ≡ true
is_other true true no_ = absurd (no_ refl)
is_other true false no_ = refl
is_other false true no_ = refl
is_other false false no_ = absurd (no_ refl)

still : (id : ℕ) (newer older : List Item) (t : Template) → AllByRecursion (LeavesAlone id (is_options t)) newer → template_in_force id (newer ++ Define id t ∷ older) ≡ Some t
unfolding template_in_force
still id [] older t alone = rw (eq-eqb id id refl) refl
still id (Define other u ∷ newer) older t alone = rw alone.0.undecided (still id newer older t alone.1)
still id (Refused other why ∷ newer) older t alone = rw alone.0.undecided (still id newer older t alone.1)
still id (Withdraw other ∷ newer) older t alone = rw alone.0.undecided (still id newer older t alone.1)
still id (WithdrawAll options ∷ newer) older t alone = ap (unless_of_kind options) (still id newer older t alone.1) ∙ rw (is_other options (is_options t) alone.0.stays) refl
still id (DataSet other start len ∷ newer) older t alone = still id newer older t alone.1
still id (Skipped set ∷ newer) older t alone = still id newer older t alone.1

pub only : (id : ℕ) (items : List Item) (t : Template) → IsInForce id items t → template_in_force id items ≡ Some t
only id items t h = ap (template_in_force id) h.items_are ∙ still id h.newer h.older t h.alone
