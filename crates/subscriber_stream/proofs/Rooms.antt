-- How many shapes records bring.
use Rattle.std.proofs.Common.{◌≡◌, ℕ, ◌+◌, ◌<◌, ◌≤◌, Bool, true, false, cond, not, List, [], ◌∷◌, ◌++◌, length, map, take, drop, get_or, refl, sym, ap, ◌∙◌, arith, length-append}
use Rattle.std.specs.Prelude.{◌||◌, ◌&&◌}
use Rattle.std.proofs.lemmas.List.{append-nil, length-map, take_more, take-append-drop, nil_from_length}
use Rattle.std.proofs.lemmas.List.Folds.{list_any-append}
use Rattle.ipfix_template.specs.declared.template.Template.{Template}
use Rattle.ipfix_template.specs.DataRecord.{DataRecord, kept_record}
use Rattle.ipfix_template.specs.Equality.{same_template}
use Rattle.ipfix_records.specs.Runs.{RunOf, run_records, records_of_runs}
use Rattle.ipfix_records.proofs.RunLaws.{records_in_append, records_in_push}
use Rattle.subscriber_stream.specs.Shapes.{is_among, with_shape, is_used, shapes_after}
use Rattle.subscriber_stream.proofs.ShapeLaws.{shapes_after-nil, shapes_after-first, shapes_after-append, is_among-after, is_among-itself, or_false}

or_itself : (b : Bool) → (b || b) ≡ b
or_itself true = refl
or_itself false = refl

length-with_shape_by : (shapes : List Template) (u : Template) (b : Bool) → is_among u shapes ≡ b → length (with_shape shapes u) ≡ length shapes + cond (not b) 1 0
length-with_shape_by shapes u true is = rw is (omega arith)
length-with_shape_by shapes u false is = rw is (length-append shapes (u ∷ []))

neither : (a b : Bool) → (not a && not b) ≡ not (a || b)
neither true b = refl
neither false b = refl

pub or_true : (a b : Bool) → b ≡ true → (a || b) ≡ true
or_true true b is = refl
or_true false b is = is

pub or_false_both : (a b : Bool) → a ≡ false → b ≡ false → (a || b) ≡ false
or_false_both a b first second = rw (first, second) refl

-- ---- a run brings one shape at most

again_used : (t u : Template) (texts : List (List ℕ)) → (same_template t u || is_used t (map (kept_record u) texts)) ≡ same_template t u
again_used t u [] = or_false (same_template t u)
again_used t u (text ∷ texts) = ap (λ (b : Bool). same_template t u || b) (again_used t u texts) ∙ or_itself (same_template t u)

-- each of its records has its shape
pub used_run : (t u : Template) (texts : List (List ℕ)) → 0 < length texts → is_used t (map (kept_record u) texts) ≡ same_template t u
used_run t u [] some = absurd (omega arith)
used_run t u (text ∷ texts) some = again_used t u texts

pub used_none : (t u : Template) (texts : List (List ℕ)) → length texts ≡ 0 → is_used t (map (kept_record u) texts) ≡ false
used_none t u [] none = refl
used_none t u (text ∷ texts) none = absurd (omega arith)

used_append : (t : Template) (xs ys : List DataRecord) → is_used t (xs ++ ys) ≡ (is_used t xs || is_used t ys)
used_append t xs ys = list_any-append (λ (r : DataRecord). same_template t r.template) xs ys

pub records_more : (runs : List RunOf) (place : ℕ) (run : RunOf) → place < length runs → run ≡ get_or runs place run → records_of_runs (take (place + 1) runs) ≡ records_of_runs (take place runs) ++ run_records run
records_more runs place run lt is =
    ap records_of_runs (take_more runs place run lt ∙ ap (λ (r : RunOf). take place runs ++ r ∷ []) (sym is)) ∙ records_in_push (take place runs) run

pub used_more : (t : Template) (runs : List RunOf) (place : ℕ) (run : RunOf) (b : Bool) → place < length runs → run ≡ get_or runs place run → b ≡ is_used t (run_records run) → is_used t (records_of_runs (take (place + 1) runs)) ≡ (is_used t (records_of_runs (take place runs)) || b)
used_more t runs place run b lt is b_is =
    ap (is_used t) (records_more runs place run lt is) ∙ used_append t (records_of_runs (take place runs)) (run_records run) ∙ ap (λ (c : Bool). is_used t (records_of_runs (take place runs)) || c) (sym b_is)

-- what is used at the front is used
pub used_within : (t : Template) (runs : List RunOf) (n : ℕ) → is_used t (records_of_runs (take n runs)) ≡ true → is_used t (records_of_runs runs) ≡ true
used_within t runs n is =
    ap (λ (rs : List RunOf). is_used t (records_of_runs rs)) (sym (take-append-drop n runs)) ∙ ap (is_used t) (records_in_append (take n runs) (drop n runs)) ∙ used_append t (records_of_runs (take n runs)) (records_of_runs (drop n runs)) ∙ ap (λ (b : Bool). b || is_used t (records_of_runs (drop n runs))) is

-- the shapes with those of a run
again_known : (shapes : List Template) (t : Template) (texts : List (List ℕ)) → is_among t shapes ≡ true → shapes_after shapes (map (kept_record t) texts) ≡ shapes
again_known shapes t [] is = shapes_after-nil shapes
again_known shapes t (text ∷ texts) is =
    let same : with_shape shapes t ≡ shapes = ap (λ (b : Bool). cond b shapes (shapes ++ t ∷ [])) is in
    shapes_after-first shapes (kept_record t text) (map (kept_record t) texts) ∙ ap (λ (ss : List Template). shapes_after ss (map (kept_record t) texts)) same ∙ again_known shapes t texts is

pub shapes_with_run : (shapes : List Template) (t : Template) (texts : List (List ℕ)) → 0 < length texts → shapes_after shapes (map (kept_record t) texts) ≡ with_shape shapes t
shapes_with_run shapes t [] some = absurd (omega arith)
shapes_with_run shapes t (text ∷ texts) some =
    shapes_after-first shapes (kept_record t text) (map (kept_record t) texts) ∙ again_known (with_shape shapes t) t texts (is_among-itself shapes t)

length_with_run : (shapes : List Template) (t : Template) (texts : List (List ℕ)) → length (shapes_after shapes (map (kept_record t) texts)) ≤ length shapes + 1
length_with_run shapes t [] = omega (arith, ap length (shapes_after-nil shapes))
length_with_run shapes t (text ∷ texts) = omega (arith, ap length (shapes_with_run shapes t (text ∷ texts) (omega arith)), by_test (is_among t shapes) (length-with_shape_by shapes t (is_among t shapes) refl)) where
  by_test : (b : Bool) → length (with_shape shapes t) ≡ length shapes + cond (not b) 1 0 → length (with_shape shapes t) ≤ length shapes + 1
  by_test true is = omega (arith, is)
  by_test false is = omega (arith, is)

-- one run more, of no records
pub none_more : (shapes : List Template) (runs : List RunOf) (place : ℕ) (run : RunOf) → place < length runs → run ≡ get_or runs place run → length run.texts ≡ 0
    → length (shapes_after shapes (records_of_runs (take (place + 1) runs))) ≡ length (shapes_after shapes (records_of_runs (take place runs))) + 0
none_more shapes runs place run lt is none =
    let front = records_of_runs (take place runs) in
    let empty : run_records run ≡ [] = nil_from_length (run_records run) (length-map run.texts (kept_record run.template) ∙ none) in
    ap (λ (rs : List DataRecord). length (shapes_after shapes rs)) (records_more runs place run lt is ∙ ap (λ (rs : List DataRecord). front ++ rs) empty ∙ append-nil front) ∙ omega arith

-- one run more, of a record or more
pub some_more : (shapes : List Template) (runs : List RunOf) (place : ℕ) (run : RunOf) (t : Template) → place < length runs → run ≡ get_or runs place run → t ≡ run.template → (length run.texts ≡ 0 → ⊥)
    → length (shapes_after shapes (records_of_runs (take (place + 1) runs))) ≡ length (shapes_after shapes (records_of_runs (take place runs))) + cond (not (is_among t shapes) && not (is_used t (records_of_runs (take place runs)))) 1 0
some_more shapes runs place run t lt is t_is some =
    let front = records_of_runs (take place runs) in
    let before = shapes_after shapes front in
    let u = run.template in
    let found : is_among u before ≡ (is_among u shapes || is_used u front) = is_among-after u shapes front in
    ap (λ (rs : List DataRecord). length (shapes_after shapes rs)) (records_more runs place run lt is)
    ∙ ap length (shapes_after-append shapes front (run_records run))
    ∙ ap length (shapes_with_run before u run.texts (omega (arith, some)))
    ∙ length-with_shape_by before u _ found
    ∙ ap (λ (b : Bool). length before + cond b 1 0) (sym (neither (is_among u shapes) (is_used u front)))
    ∙ ap (λ (v : Template). length before + cond (not (is_among v shapes) && not (is_used v front)) 1 0) (sym t_is)

pub unknown_more : (shapes : List Template) (runs : List RunOf) (place : ℕ) (run : RunOf) (t : Template) (used : Bool) → place < length runs → run ≡ get_or runs place run → t ≡ run.template → (length run.texts ≡ 0 → ⊥) → is_among t shapes ≡ false → used ≡ is_used t (records_of_runs (take place runs))
    → length (shapes_after shapes (records_of_runs (take (place + 1) runs))) ≡ length (shapes_after shapes (records_of_runs (take place runs))) + cond (not used) 1 0
unknown_more shapes runs place run t used lt is t_is some unknown used_is =
    some_more shapes runs place run t lt is t_is some ∙ rw (unknown, used_is) refl

pub known_more : (shapes : List Template) (runs : List RunOf) (place : ℕ) (run : RunOf) (t : Template) (known : Bool) → place < length runs → run ≡ get_or runs place run → t ≡ run.template → (length run.texts ≡ 0 → ⊥) → known ≡ is_among t shapes → known ≡ true
    → length (shapes_after shapes (records_of_runs (take (place + 1) runs))) ≡ length (shapes_after shapes (records_of_runs (take place runs))) + cond (not known) 1 0
known_more shapes runs place run t known lt is t_is some known_is yes' =
    some_more shapes runs place run t lt is t_is some ∙ rw (← known_is, yes') refl

-- each run brings one shape at most
pub length-shapes_after_most : (shapes : List Template) (runs : List RunOf) → length (shapes_after shapes (records_of_runs runs)) ≤ length shapes + length runs
length-shapes_after_most shapes [] = omega (arith, ap length (shapes_after-nil shapes))
length-shapes_after_most shapes (run ∷ runs) =
    let before = shapes_after shapes (run_records run) in
    omega (arith, length_with_run shapes run.template run.texts, ap length (shapes_after-append shapes (run_records run) (records_of_runs runs)), length-shapes_after_most before runs)
