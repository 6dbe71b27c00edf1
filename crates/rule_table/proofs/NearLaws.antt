-- Records whose addresses lie near those of another have its keys.
use Rattle.std.proofs.Common.{◌≡◌, ◌+◌, ◌*◌, ◌<◌, ◌≤◌, ℕ, List, [], ◌∷◌, length, get_or, Some, IsSome, refl, sym, ap, subst, ◌∙◌, arith}
use mathlib.Core.Logic.{inl, inr, ◌⊎◌}
use Rattle.std.proofs.lemmas.Bool.{cases_lt}
use Rattle.std.proofs.lemmas.List.Elements.{All-from_recursion}
use Rattle.sequences.specs.Octets.{be_value}
use Rattle.ipfix_template.specs.DataRecord.{DataRecord, IsSound, IsKept, kept_record}
use Rattle.ipfix_records.specs.Runs.{RunOf, IsKeptRun}
use Rattle.policy_judge.specs.declared.occurrences.Side.{Side}
use Rattle.policy_judge.specs.declared.occurrences.Side.TheVariants.{Source, Destination}
use Rattle.rule_table.specs.declared.place.Place.{Place}
use Rattle.rule_table.specs.declared.place.Place.TheVariants.{Narrow}
use Rattle.rule_table.specs.declared.span.Span.{Span}
use Rattle.rule_table.specs.declared.near.Near.{Near}
use Rattle.rule_table.specs.Classes.{class_of, digit_of, with_digit, class_key}
use Rattle.rule_table.specs.Spans.{IsSpan, IsAmong}
use Rattle.rule_table.specs.Places.{text_of, value_at, HasPlace, ArePlaces}
use Rattle.rule_table.specs.Near.{side_key, HaveSameKeys, HasKeys, ShowsAmong, IsNearOn, IsNear, HasBoth, ShowsBoth}
use Rattle.rule_table.proofs.PlaceLaws.{four_digit, part_long, lone_has}

-- what this law needs of a record: it is sound, of these fields
record IsLike (one r : DataRecord) : Type 0 where
  sound : IsSound r
  fields : r.template.fields ≡ one.template.fields

-- the digit of an address of IPv4 at a place
digit_there : (cuts : List ℕ) (r : DataRecord) (from : ℕ) → HasPlace r (Narrow from) → 2 * class_of cuts (be_value (value_at r (Narrow from))) + 1 ≡ digit_of cuts (value_at r (Narrow from))
digit_there cuts r from there = four_digit cuts (value_at r (Narrow from)) (part_long 4 from (text_of r) there)

-- the key of a lone address that is among those of one class
key_among : (cuts : List ℕ) (side : Side) (one r : DataRecord) (from : ℕ) (span : Span) → IsNearOn cuts side one from span → IsLike one r → ShowsAmong r from span
    → side_key cuts side r ≡ with_digit (Some 1) (2 * span.class + 1)
key_among cuts side one r from span near like among =
    let shows = near.lone r like.sound like.fields in
    let there : HasPlace r (Narrow from) = lone_has r (Narrow from ∷ []) from shows.within refl in
    let class : class_of cuts (be_value (value_at r (Narrow from))) ≡ span.class = near.one_class.each _ among.above among.below in
    ap (class_key cuts) (sym shows.values)
    ∙ ap (with_digit (Some 1)) (sym (digit_there cuts r from there) ∙ ap (λ n. 2 * n + 1) class)

same_key_on : (cuts : List ℕ) (side : Side) (one r : DataRecord) (from : ℕ) (span : Span) → IsNearOn cuts side one from span → IsSound one → IsLike one r → ShowsAmong r from span → side_key cuts side r ≡ side_key cuts side one
same_key_on cuts side one r from span near sound like among =
    key_among cuts side one r from span near like among ∙ sym (key_among cuts side one one from span near (record { sound = sound; fields = refl }) near.among)

-- a key of one digit
one_key : (n : ℕ) → IsSome (with_digit (Some 1) n)
one_key n = refl

key_on : (cuts : List ℕ) (side : Side) (one : DataRecord) (from : ℕ) (span : Span) → IsNearOn cuts side one from span → IsSound one → IsSome (side_key cuts side one)
key_on cuts side one from span near sound =
    subst IsSome (sym (key_among cuts side one one from span near (record { sound = sound; fields = refl }) near.among)) (one_key (2 * span.class + 1))

-- ---- what is found of a record's template is found of each record of it

pub place_of_lone : (side : Side) (r : DataRecord) (places : List Place) (from : ℕ) → ArePlaces side r.template.fields places → places ≡ Narrow from ∷ [] → IsSound r → HasPlace r (Narrow from)
place_of_lone side r places from are lone sound = lone_has r places from (are r sound refl).within lone

pub near_on : (cuts : List ℕ) (side : Side) (r : DataRecord) (places : List Place) (from address : ℕ) (span : Span) → ArePlaces side r.template.fields places → places ≡ Narrow from ∷ []
    → IsSpan cuts span → IsAmong address span → address ≡ be_value (value_at r (Narrow from)) → IsNearOn cuts side r from span
near_on cuts side r places from address span are lone one_class among shown = record {
  lone = subst (ArePlaces side r.template.fields) lone are;
  one_class = one_class;
  among = subst (λ n. IsAmong n span) shown among;
}

-- ---- records of a run

sound_at : (run : RunOf) (i : ℕ) → IsKeptRun run → i < length run.texts → IsSound (kept_record run.template (get_or run.texts i []))
sound_at run i kept l = (All-from_recursion (IsKept run.template) run.texts kept i [] l).sound

-- the record of a run at a place
abbrev pub run_record : RunOf → ℕ → DataRecord
run_record run i = kept_record run.template (get_or run.texts i [])

-- those from a place on that stand before another are alike
pub record GoAlike (cuts : List ℕ) (run : RunOf) (from to : ℕ) : Type 0 where
  pub some : from < to
  pub within : to ≤ length run.texts
  pub alike : (i : ℕ) → from ≤ i → i < to → HaveSameKeys cuts (run_record run i) (run_record run from)

pub alike_first : (cuts : List ℕ) (run : RunOf) (from : ℕ) → from < length run.texts → GoAlike cuts run from (from + 1)
alike_first cuts run from there = record {
  some = omega arith;
  within = omega (arith, there);
  alike = λ i low high. subst (λ k. HaveSameKeys cuts (run_record run k) (run_record run from)) {x = from} {y = i} (omega (arith, low, high)) (record { sources = refl; destinations = refl });
}

pub has_both : (cuts : List ℕ) (run : RunOf) (one : DataRecord) (from to : ℕ) (near : Near) → IsNear cuts one near → one ≡ run_record run from → IsKeptRun run → to < length run.texts → HasBoth (run_record run to) near
has_both cuts run one from to near is at kept l =
    let sound = sound_at run to kept l in
    let like = ap (λ (r : DataRecord). r.template.fields) (sym at) in
    record {
      source = place_of_lone Source (run_record run to) (Narrow near.source ∷ []) near.source (λ r s e. is.of_sources.lone r s (e ∙ like)) refl sound;
      destination = place_of_lone Destination (run_record run to) (Narrow near.destination ∷ []) near.destination (λ r s e. is.of_destinations.lone r s (e ∙ like)) refl sound;
    }

near_keys : (cuts : List ℕ) (one r : DataRecord) (near : Near) → IsNear cuts one near → IsSound one → IsLike one r → ShowsBoth r near → HaveSameKeys cuts r one
near_keys cuts one r near is sound like shows = record {
  sources = same_key_on cuts Source one r near.source near.sources is.of_sources sound like shows.source;
  destinations = same_key_on cuts Destination one r near.destination near.destinations is.of_destinations sound like shows.destination;
}

pub alike_more : (cuts : List ℕ) (run : RunOf) (one : DataRecord) (from to : ℕ) (near : Near) → GoAlike cuts run from to → IsNear cuts one near → one ≡ run_record run from → IsKeptRun run → to < length run.texts → ShowsBoth (run_record run to) near
    → GoAlike cuts run from (to + 1)
alike_more cuts run one from to near so is at kept l shows = record {
  some = omega (arith, so.some);
  within = omega (arith, l);
  alike = λ i low high. is_alike i low (cases_lt i to) high;
}
  where
    last : HaveSameKeys cuts (run_record run to) (run_record run from)
    last = near_keys cuts (run_record run from) (run_record run to) near (subst (λ r. IsNear cuts r near) at is) (sound_at run from kept (omega (arith, so.some, so.within))) (record { sound = sound_at run to kept l; fields = refl }) shows

    is_alike : (i : ℕ) → from ≤ i → (i < to) ⊎ (to ≤ i) → i < to + 1 → HaveSameKeys cuts (run_record run i) (run_record run from)
    is_alike i low (inl l) high = so.alike i low l
    is_alike i low (inr l) high = subst (λ k. HaveSameKeys cuts (run_record run k) (run_record run from)) {x = to} {y = i} (omega (arith, l, high)) last

pub near_known : (cuts : List ℕ) (run : RunOf) (one : DataRecord) (from to : ℕ) (near : Near) → GoAlike cuts run from to → IsNear cuts one near → one ≡ run_record run from → IsKeptRun run → HasKeys cuts (run_record run from)
near_known cuts run one from to near so is at kept =
    let there = subst (λ r. IsNear cuts r near) at is in
    let sound = sound_at run from kept (omega (arith, so.some, so.within)) in
    record {
      sources = key_on cuts Source (run_record run from) near.source near.sources there.of_sources sound;
      destinations = key_on cuts Destination (run_record run from) near.destination near.destinations there.of_destinations sound;
    }
