-- The parts of a list: each record's template is the one that its ID has by then.
use Rattle.std.proofs.Common.{◌≡◌, ℕ, suc, ◌+◌, ◌<◌, ◌≤◌, Bool, true, false, cond, not, eqb, List, [], ◌∷◌, ◌++◌, length, Option, Some, None, refl, sym, ap, subst, ◌∙◌, arith, length-append}
use Rattle.std.specs.Prelude.{◌||◌}
use Rattle.std.specs.List.{position_or_len, AllByRecursion}
use Rattle.std.proofs.lemmas.Bool.{eqb-true, eq-eqb, ne_eqb}
use Rattle.sequences.specs.Before.{each_after}
use Rattle.ipfix_template.specs.declared.template.Template.{Template}
use Rattle.ipfix_template.specs.DataRecord.{DataRecord}
use Rattle.ipfix_template.specs.Equality.{same_template}
use Rattle.ipfix_template.specs.SameTemplate.{same_template-is}
use Rattle.subscriber_stream.specs.Shapes.{is_among, with_shape, shapes_after, shapes_of}
use Rattle.subscriber_stream.specs.Parts.{Part, Announcement, Entry, parts_for, parts_at, parts}
use Rattle.subscriber_stream.proofs.ShapeLaws.{shapes_after-first, shapes_on, shapes_of-push, length-shapes_after}
use Rattle.stream_meaning.specs.Served.{IsStreamable, AreStreamable}
use Rattle.stream_meaning.proofs.Tables.{Table, empty, defining, AreKnown, after_parts}
use Rattle.stream_meaning.proofs.Sets.{known_append}
use Rattle.subscriber_stream.specs.declared.limits.TheConstants.{MOST_SHAPES}

-- shapes under IDs from this one on
abbrev named : ℕ → List Template → Table
named first [] q = None
named first (t ∷ ts) q = cond (eqb q first) (Some t) (named (suc first) ts q)

named-push : (first : ℕ) (shapes : List Template) (t : Template) (q : ℕ) → named first (shapes ++ t ∷ []) q ≡ cond (eqb q (first + length shapes)) (Some t) (named first shapes q)
named-push first [] t q =
    let same : first ≡ first + 0 = omega arith in
    ap (λ (n : ℕ). cond (eqb q n) (Some t) None) same
named-push first (u ∷ us) t q = by_test (eqb q first) refl (named-push (suc first) us t q) where
  by_test : (b : Bool) → eqb q first ≡ b → named (suc first) (us ++ t ∷ []) q ≡ cond (eqb q (suc first + length us)) (Some t) (named (suc first) us q) → cond b (Some u) (named (suc first) (us ++ t ∷ []) q) ≡ cond (eqb q (first + suc (length us))) (Some t) (cond b (Some u) (named (suc first) us q))
  by_test true is others =
      let here = eqb-true q first is in
      let other : eqb q (first + suc (length us)) ≡ false = ne_eqb q (first + suc (length us)) (λ e. omega (arith, e, here)) in
      rw other refl
  by_test false is others =
      let same : suc first + length us ≡ first + suc (length us) = omega arith in
      others ∙ ap (λ (n : ℕ). cond (eqb q n) (Some t) (named (suc first) us q)) same

named-found : (first : ℕ) (shapes : List Template) (t : Template) (q : ℕ) → is_among t shapes ≡ true → q ≡ first + position_or_len (same_template t) shapes → named first shapes q ≡ Some t
named-found first [] t q is at = absurd cc
named-found first (u ∷ us) t q is at = by_test (same_template t u) refl is at (λ among there. named-found (suc first) us t q among there) where
  by_test : (b : Bool) → same_template t u ≡ b → (b || is_among t us) ≡ true → q ≡ first + cond (not b) (1 + position_or_len (same_template t) us) 0 → (is_among t us ≡ true → q ≡ suc first + position_or_len (same_template t) us → named (suc first) us q ≡ Some t) → named first (u ∷ us) q ≡ Some t
  by_test true same is at others =
      let here : eqb q first ≡ true = eq-eqb q first (omega (arith, at)) in
      rw here (ap (λ (s : Template). let some : Option Template = Some s in some) (sym (same_template-is t u same)))
  by_test false same is at others =
      let there : eqb q first ≡ false = ne_eqb q first (λ e. omega (arith, e, at)) in
      rw there (others is (omega (arith, at)))

place_known : (shapes : List Template) (t : Template) → is_among t shapes ≡ true → position_or_len (same_template t) shapes < length shapes
place_known [] t is = absurd cc
place_known (u ∷ us) t is = by_test (same_template t u) is (place_known us t) where
  by_test : (b : Bool) → (b || is_among t us) ≡ true → (is_among t us ≡ true → position_or_len (same_template t) us < length us) → cond (not b) (1 + position_or_len (same_template t) us) 0 < suc (length us)
  by_test true is others = omega arith
  by_test false is others = omega (arith, others is)

place_new : (shapes : List Template) (t : Template) → is_among t shapes ≡ false → position_or_len (same_template t) shapes ≡ length shapes
place_new [] t is = refl
place_new (u ∷ us) t is = by_test (same_template t u) is (place_new us t) where
  by_test : (b : Bool) → (b || is_among t us) ≡ false → (is_among t us ≡ false → position_or_len (same_template t) us ≡ length us) → cond (not b) (1 + position_or_len (same_template t) us) 0 ≡ suc (length us)
  by_test true is others = absurd cc
  by_test false is others = omega (arith, others is)

-- ---- the parts of one record

abbrev table_of : List Template → Table
table_of shapes = named 256 shapes

record IsListed (shapes : List Template) (r : DataRecord) (ps : List Part) (grown : List Template) : Type 0 where
  known : AreKnown (table_of shapes) ps
  after : after_parts (table_of shapes) ps ≡ table_of grown

listed_by : (shapes : List Template) (r : DataRecord) (b : Bool) → is_among r.template shapes ≡ b → IsStreamable r → length (cond b shapes (shapes ++ r.template ∷ [])) ≤ MOST_SHAPES
    → IsListed shapes r (cond b (Entry (256 + position_or_len (same_template r.template) shapes) r ∷ []) (Announcement (256 + position_or_len (same_template r.template) shapes) r.template ∷ Entry (256 + position_or_len (same_template r.template) shapes) r ∷ [])) (cond b shapes (shapes ++ r.template ∷ []))
listed_by shapes r true is may few =
    let place = place_known shapes r.template is in
    record {
      known = (record { low = omega arith; high = omega (arith, place, few); known = named-found 256 shapes r.template _ is refl; sound = may.sound }, tt);
      after = refl;
    }
listed_by shapes r false is may few =
    let t = r.template in
    let id = 256 + position_or_len (same_template t) shapes in
    let place = place_new shapes t is in
    let high : id < 65536 = omega (arith, place, few, length-append shapes (t ∷ [])) in
    let at : id ≡ 256 + length shapes = omega (arith, place) in
    let same : (q : ℕ) → defining id t (table_of shapes) q ≡ table_of (shapes ++ t ∷ []) q = λ q. ap (λ (n : ℕ). cond (eqb q n) (Some t) (table_of shapes q)) at ∙ sym (named-push 256 shapes t q) in
    let here : defining id t (table_of shapes) id ≡ Some t = (let own = eq-eqb id id refl in rw own refl) in
    record {
      known = (
        record { low = omega arith; high = high; accepted = may.sound.accepted; writable = may.writable; fits = may.sound.template_fits },
        (record { low = omega arith; high = high; known = here; sound = may.sound }, tt),
      );
      after = λ i. λ q. same q i;
    }

listed : (shapes : List Template) (r : DataRecord) → IsStreamable r → length (with_shape shapes r.template) ≤ MOST_SHAPES → IsListed shapes r (parts_for shapes r) (with_shape shapes r.template)
listed shapes r may few = listed_by shapes r (is_among r.template shapes) refl may few

-- ---- all of them

known_after : (before records : List DataRecord) → AllByRecursion IsStreamable records → length (shapes_after (shapes_of before) records) ≤ MOST_SHAPES → AreKnown (table_of (shapes_of before)) (each_after parts_at before records)
known_after before [] all few = tt
known_after before (r ∷ records) all few =
    let shapes = shapes_of before in
    let grown = with_shape shapes r.template in
    let more : length (shapes_after grown records) ≤ MOST_SHAPES = omega (arith, few, ap length (shapes_after-first shapes r records)) in
    let one = listed shapes r all.0 (omega (arith, more, length-shapes_after grown records)) in
    let push = shapes_of-push before r in
    let others = known_after (before ++ r ∷ []) records all.1 (omega (arith, more, ap (λ (ss : List Template). length (shapes_after ss records)) push)) in
    let rest = each_after parts_at (before ++ r ∷ []) records in
    let P : Table → Type 0 = λ table. AreKnown table rest in
    let same : table_of (shapes_of (before ++ r ∷ [])) ≡ after_parts (table_of shapes) (parts_for shapes r) = ap table_of push ∙ sym one.after in
    known_append (parts_for shapes r) rest (table_of shapes) one.known (subst P same others)

no_shapes : shapes_of [] ≡ []
unfolding shapes_of
no_shapes = refl

pub parts_known : (records : List DataRecord) → AreStreamable records → AreKnown empty (parts records)
unfolding parts
parts_known records may =
    let P : Table → Type 0 = λ table. AreKnown table (each_after parts_at [] records) in
    let none : table_of (shapes_of []) ≡ empty = ap table_of no_shapes in
    subst P none (known_after [] records may.each (omega (arith, may.shapes, ap length (shapes_on [] records))))
