-- Runs of records: how many there are, that each is sound, and their texts.
use Rattle.std.proofs.Common.{◌≡◌, ℕ, zero, suc, ◌<◌, List, [], ◌∷◌, ◌++◌, length, get_or, map, refl, sym, ap, ◌∙◌, arith, append-nil}
use Rattle.std.specs.List.{AllByRecursion, concat, flat_map}
use Rattle.std.proofs.lemmas.List.{length-map}
use Rattle.std.proofs.lemmas.List.Concat.{flat_map-append}
use Rattle.sequences.proofs.ListLaws.{AllByRecursion-append}
use Rattle.ipfix_template.specs.declared.template.Template.{Template}
use Rattle.ipfix_template.specs.Values.{record_text}
use Rattle.ipfix_template.specs.DataRecord.{DataRecord, IsSound, IsKept, kept_record}
use Rattle.ipfix_records.specs.Runs.{RunOf, IsKeptRun, run_records, records_of_runs}

-- a record for each text
pub length_records_of : (run : RunOf) → length (run_records run) ≡ length run.texts
length_records_of run = length-map run.texts (kept_record run.template)

pub records_in_append : (runs others : List RunOf) → records_of_runs (runs ++ others) ≡ records_of_runs runs ++ records_of_runs others
records_in_append runs others = flat_map-append run_records runs others

-- one run more
pub records_in_push : (runs : List RunOf) (run : RunOf) → records_of_runs (runs ++ run ∷ []) ≡ records_of_runs runs ++ run_records run
records_in_push runs run = records_in_append runs (run ∷ []) ∙ ap (λ (rs : List DataRecord). records_of_runs runs ++ rs) (append-nil (run_records run))

-- records that are kept are sound
pub kept_texts_sound : (t : Template) (texts : List (List ℕ)) → AllByRecursion (IsKept t) texts → AllByRecursion IsSound (map (kept_record t) texts)
kept_texts_sound t [] kept = tt
kept_texts_sound t (text ∷ texts) kept = (kept.0.sound, kept_texts_sound t texts kept.1)

pub kept_run_sound : (run : RunOf) → IsKeptRun run → AllByRecursion IsSound (run_records run)
kept_run_sound run kept = kept_texts_sound run.template run.texts kept

pub kept_runs_sound : (runs : List RunOf) → AllByRecursion IsKeptRun runs → AllByRecursion IsSound (records_of_runs runs)
kept_runs_sound [] kept = tt
kept_runs_sound (run ∷ runs) kept = AllByRecursion-append IsSound (run_records run) (records_of_runs runs) (kept_run_sound run kept.0) (kept_runs_sound runs kept.1)

-- the text of a record, as `encode_record` appends it
abbrev pub text_of : DataRecord → List ℕ
text_of r = record_text r.template.fields r.values

-- the texts joined are those of the records, one after another
pub texts_are_written : (t : Template) (texts : List (List ℕ)) → AllByRecursion (IsKept t) texts → flat_map text_of (map (kept_record t) texts) ≡ concat texts
texts_are_written t [] kept = refl
texts_are_written t (text ∷ texts) kept =
    ap (λ (o : List ℕ). o ++ flat_map text_of (map (kept_record t) texts)) (sym kept.0.shortest) ∙ ap (λ (o : List ℕ). text ++ o) (texts_are_written t texts kept.1)

pub run_is_written : (run : RunOf) → IsKeptRun run → flat_map text_of (run_records run) ≡ concat run.texts
run_is_written run kept = texts_are_written run.template run.texts kept

-- what holds of all texts holds of the text at a place
pub all_at : {A : Type 0} (P : A → Type 0) (xs : List A) (i : ℕ) (d : A) → AllByRecursion P xs → i < length xs → P (get_or xs i d)
all_at P [] i d all lt = absurd (omega arith)
all_at P (x ∷ xs) zero d all lt = all.0
all_at P (x ∷ xs) (suc i) d all lt = all_at P xs i d all.1 (omega arith)
