-- Records of a run that stand side by side: one more of them, and what is the same of each.
use Rattle.std.proofs.Common.{◌≡◌, ℕ, zero, suc, ◌+◌, ◌-◌, ◌<◌, ◌≤◌, List, [], ◌∷◌, ◌++◌, length, take, drop, get_or, slice_index_or, sym, ap, ◌∙◌, arith, length-drop, append-nil, refl}
use Rattle.std.specs.List.{flat_map, AllByRecursion}
use Rattle.std.proofs.lemmas.List.{take_more, get_or-drop, get_or-map, length-map}
use Rattle.std.proofs.lemmas.List.Concat.{flat_map-append}
use Rattle.ipfix_template.specs.declared.template.Template.{Template}
use Rattle.ipfix_template.specs.DataRecord.{DataRecord, IsKept, IsSound, kept_record}
use Rattle.ipfix_records.specs.Runs.{RunOf, IsKeptRun, run_records}
use Rattle.flow_anonymize.specs.Parts.{record_at, records_between}

kept_sound : (t : Template) (texts : List (List ℕ)) (i : ℕ) → AllByRecursion (IsKept t) texts → i < length texts → IsSound (kept_record t (slice_index_or texts i []))
kept_sound t [] i kept l = absurd (omega (arith, l))
kept_sound t (x ∷ xs) zero kept l = kept.0.sound
kept_sound t (x ∷ xs) (suc i) kept l = kept_sound t xs i kept.1 (omega (arith, l))

-- each record of a run is sound
pub sound_at : (run : RunOf) (i : ℕ) → IsKeptRun run → i < length run.texts → IsSound (record_at run i)
sound_at run i kept l = kept_sound run.template run.texts i kept l

pub part_none : (from to : ℕ) (run : RunOf) → to ≤ from → records_between from to run ≡ []
part_none from to run low = ap (λ n. take n (drop from (run_records run))) {x = to - from} {y = 0} (omega (arith, low))

pub part_more : (from i : ℕ) (run : RunOf) → from ≤ i → i < length run.texts → records_between from (i + 1) run ≡ records_between from i run ++ record_at run i ∷ []
part_more from i run low within =
    let rs = run_records run in
    let r = record_at run i in
    let many : length rs ≡ length run.texts = length-map run.texts (kept_record run.template) in
    let inside : i - from < length (drop from rs) = omega (arith, low, within, many, length-drop from rs) in
    ap (λ n. take n (drop from rs)) {x = i + 1 - from} {y = i - from + 1} (omega (arith, low))
    ∙ take_more (drop from rs) (i - from) r inside
    ∙ ap (λ x. take (i - from) (drop from rs) ++ x ∷ []) (get_or-drop from rs (i - from) r ∙ ap (λ n. get_or rs n r) {x = from + (i - from)} {y = i} (omega (arith, low)) ∙ get_or-map (kept_record run.template) run.texts i [] r within)

-- what is picked of one record more
pub part_pushed : (f : DataRecord → List DataRecord) (from i : ℕ) (run : RunOf) → from ≤ i → i < length run.texts → flat_map f (records_between from (i + 1) run) ≡ flat_map f (records_between from i run) ++ f (record_at run i)
part_pushed f from i run low within =
    ap (flat_map f) (part_more from i run low within)
    ∙ flat_map-append f (records_between from i run) (record_at run i ∷ [])
    ∙ ap (λ l. flat_map f (records_between from i run) ++ l) (append-nil (f (record_at run i)))

same_by : (f g : DataRecord → List DataRecord) (from n : ℕ) (run : RunOf) → from + n ≤ length run.texts → ((i : ℕ) → from ≤ i → i < from + n → f (record_at run i) ≡ g (record_at run i)) → flat_map f (records_between from (from + n) run) ≡ flat_map g (records_between from (from + n) run)
same_by f g from zero run within same =
    let none = part_none from (from + 0) run (omega arith) in
    ap (flat_map f) none ∙ sym (ap (flat_map g) none)
same_by f g from (suc n) run within same =
    let i = from + n in
    let low : from ≤ i = omega arith in
    let high : i < length run.texts = omega (arith, within) in
    let before = same_by f g from n run (omega (arith, within)) (λ k from_on below. same k from_on (omega (arith, below))) in
    ap (λ m. flat_map f (records_between from m run)) {x = from + suc n} {y = i + 1} (omega arith)
    ∙ part_pushed f from i run low high
    ∙ ap (λ l. l ++ f (record_at run i)) before
    ∙ ap (λ l. flat_map g (records_between from i run) ++ l) (same i low (omega arith))
    ∙ sym (part_pushed g from i run low high)
    ∙ ap (λ m. flat_map g (records_between from m run)) {x = i + 1} {y = from + suc n} (omega arith)

-- what is the same of each is the same of all
pub part_same : (f g : DataRecord → List DataRecord) (from to : ℕ) (run : RunOf) → from ≤ to → to ≤ length run.texts → ((i : ℕ) → from ≤ i → i < to → f (record_at run i) ≡ g (record_at run i)) → flat_map f (records_between from to run) ≡ flat_map g (records_between from to run)
part_same f g from to run order within same =
    let end : from + (to - from) ≡ to = omega (arith, order) in
    ap (λ m. flat_map f (records_between from m run)) (sym end)
    ∙ same_by f g from (to - from) run (omega (arith, order, within)) (λ i from_on below. same i from_on (omega (arith, below, order)))
    ∙ ap (λ m. flat_map g (records_between from m run)) end

abbrev nothing : DataRecord → List DataRecord
nothing r = []

-- nothing is picked of any
pub part_nothing : (f : DataRecord → List DataRecord) (from to : ℕ) (run : RunOf) → from ≤ to → to ≤ length run.texts → ((i : ℕ) → from ≤ i → i < to → f (record_at run i) ≡ []) → flat_map f (records_between from to run) ≡ []
part_nothing f from to run order within none = part_same f nothing from to run order within none ∙ no_items (records_between from to run)
  where
    no_items : (rs : List DataRecord) → flat_map nothing rs ≡ []
    no_items [] = refl
    no_items (r ∷ rs) = no_items rs

-- a record that stands alone
pub part_one : (f : DataRecord → List DataRecord) (from to : ℕ) (run : RunOf) → to ≡ from + 1 → from < length run.texts → flat_map f (records_between from to run) ≡ f (record_at run from)
part_one f from to run alone within =
    ap (λ m. flat_map f (records_between from m run)) alone
    ∙ part_pushed f from from run (omega arith) within
    ∙ ap (λ rs. flat_map f rs ++ f (record_at run from)) (part_none from from run (omega arith))
