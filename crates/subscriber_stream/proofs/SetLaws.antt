-- The sets of parts hold the parts, are filled and stand apart; and there are no others of which that is so.
use Rattle.std.proofs.Common.{◌≡◌, ◌≢◌, ℕ, Bool, true, false, cond, List, [], ◌∷◌, ◌++◌, map, refl, sym, ap, subst, ◌∙◌}
use Rattle.std.specs.Prelude.{◌==◌}
use Rattle.std.specs.List.{AllByRecursion, flat_map}
use Rattle.std.proofs.lemmas.Bool.{eqb-true, eqb-false, eq-eqb, ne_eqb}
use Rattle.ipfix_template.specs.declared.template.Template.{Template}
use Rattle.ipfix_template.specs.DataRecord.{DataRecord}
use Rattle.subscriber_stream.specs.Parts.{Part, Announcement, Entry}
use Rattle.subscriber_stream.specs.Message.{Set, Announces, Brings, with_record, sets_of}
use Rattle.subscriber_stream.specs.LongestSets.{parts_in, IsFilledSet, AreApart, AreLongestSets}

-- no Data Set of the ID is the first of these sets
abbrev BeginsOtherwise : ℕ → List Set → Type 0
BeginsOtherwise id sets = (rs : List DataRecord) (more : List Set) → sets ≢ Brings id rs ∷ more

-- ---- one set more in front, or one fewer

apart_announces : (id : ℕ) (shape : Template) (sets : List Set) → AreApart sets → AreApart (Announces id shape ∷ sets)
apart_announces id shape sets apart [] more other rs others e = absurd cc
apart_announces id shape sets apart (s ∷ front) more other rs others e = apart front more other rs others (cc)

apart_brings : (id : ℕ) (records : List DataRecord) (sets : List Set) → BeginsOtherwise id sets → AreApart sets → AreApart (Brings id records ∷ sets)
apart_brings id records sets begins apart [] more other rs others e = begins others more (cc)
apart_brings id records sets begins apart (s ∷ front) more other rs others e = apart front more other rs others (cc)

apart_rest : (s : Set) (sets : List Set) → AreApart (s ∷ sets) → AreApart sets
apart_rest s sets apart front more id rs others e = apart (s ∷ front) more id rs others (ap (λ (ss : List Set). s ∷ ss) e)

begins_otherwise : (id : ℕ) (records : List DataRecord) (sets : List Set) → AreApart (Brings id records ∷ sets) → BeginsOtherwise id sets
begins_otherwise id records sets apart rs more e = apart [] more id records rs (ap (λ (ss : List Set). Brings id records ∷ ss) e)

-- ---- the sets of parts are such sets

announced : (id : ℕ) (shape : Template) (ps : List Part) (sets : List Set) → AreLongestSets ps sets → AreLongestSets (Announcement id shape ∷ ps) (Announces id shape ∷ sets)
announced id shape ps sets h = record {
  joined = ap (λ (others : List Part). Announcement id shape ∷ others) h.joined;
  filled = (tt, h.filled);
  apart = apart_announces id shape sets h.apart;
}

alone : (id : ℕ) (r : DataRecord) (ps : List Part) (sets : List Set) → BeginsOtherwise id sets → AreLongestSets ps sets → AreLongestSets (Entry id r ∷ ps) (Brings id (r ∷ []) ∷ sets)
alone id r ps sets begins h = record {
  joined = ap (λ (others : List Part). Entry id r ∷ others) h.joined;
  filled = (λ e. absurd cc, h.filled);
  apart = apart_brings id (r ∷ []) sets begins h.apart;
}

in_front : (id : ℕ) (r : DataRecord) (rs : List DataRecord) (ps : List Part) (sets : List Set) → AreLongestSets ps (Brings id rs ∷ sets) → AreLongestSets (Entry id r ∷ ps) (Brings id (r ∷ rs) ∷ sets)
in_front id r rs ps sets h = record {
  joined = ap (λ (others : List Part). Entry id r ∷ others) h.joined;
  filled = (λ e. absurd cc, h.filled.1);
  apart = apart_brings id (r ∷ rs) sets (begins_otherwise id rs sets h.apart) (apart_rest (Brings id rs) sets h.apart);
}

with_one : (id : ℕ) (r : DataRecord) (ps : List Part) (sets : List Set) → AreLongestSets ps sets → AreLongestSets (Entry id r ∷ ps) (with_record id r sets)
with_one id r ps [] h = alone id r ps [] (λ rs more e. absurd cc) h
with_one id r ps (Announces other shape ∷ sets) h = alone id r ps (Announces other shape ∷ sets) (λ rs more e. absurd cc) h
with_one id r ps (Brings other rs ∷ sets) h = by_test (id == other) refl where
  by_test : (same : Bool) → (id == other) ≡ same → AreLongestSets (Entry id r ∷ ps) (cond same (Brings id (r ∷ rs) ∷ sets) (Brings id (r ∷ []) ∷ Brings other rs ∷ sets))
  by_test true is =
      let P : ℕ → Type 0 = λ n. AreLongestSets ps (Brings n rs ∷ sets) in
      in_front id r rs ps sets (subst P (sym (eqb-true id other is)) h)
  by_test false is = alone id r ps (Brings other rs ∷ sets) (λ others more e. eqb-false id other is (cc)) h

found : (ps : List Part) → AreLongestSets ps (sets_of ps)
found [] = record { joined = refl; filled = tt; apart = none } where
  none : AreApart []
  none [] more id rs others e = absurd cc
  none (s ∷ front) more id rs others e = absurd cc
found (Announcement id shape ∷ ps) = announced id shape ps (sets_of ps) (found ps)
found (Entry id r ∷ ps) = with_one id r ps (sets_of ps) (found ps)

-- ---- and there are no others

lone : (id : ℕ) (r : DataRecord) (sets : List Set) → BeginsOtherwise id sets → with_record id r sets ≡ Brings id (r ∷ []) ∷ sets
lone id r [] begins = refl
lone id r (Announces other shape ∷ sets) begins = refl
lone id r (Brings other rs ∷ sets) begins = rw (ne_eqb id other (λ same. begins rs sets (ap (λ (n : ℕ). Brings n rs ∷ sets) (sym same)))) refl

-- records of one ID, before parts whose sets begin otherwise, are one set
one_set : (id : ℕ) (r : DataRecord) (rs : List DataRecord) (ps : List Part) (sets : List Set) → BeginsOtherwise id sets → sets_of ps ≡ sets → sets_of (map (Entry id) (r ∷ rs) ++ ps) ≡ Brings id (r ∷ rs) ∷ sets
one_set id r [] ps sets begins e = ap (with_record id r) e ∙ lone id r sets begins
one_set id r (next ∷ rs) ps sets begins e = ap (with_record id r) (one_set id next rs ps sets begins e) ∙ rw (eq-eqb id id refl) refl

back : (sets : List Set) → AllByRecursion IsFilledSet sets → AreApart sets → sets_of (flat_map parts_in sets) ≡ sets
back [] filled apart = refl
back (Announces id shape ∷ sets) filled apart = ap (λ (ss : List Set). Announces id shape ∷ ss) (back sets filled.1 (apart_rest (Announces id shape) sets apart))
back (Brings id [] ∷ sets) filled apart = absurd (filled.0 refl)
back (Brings id (r ∷ rs) ∷ sets) filled apart =
    one_set id r rs (flat_map parts_in sets) sets (begins_otherwise id (r ∷ rs) sets apart) (back sets filled.1 (apart_rest (Brings id (r ∷ rs)) sets apart))

pub are_sets : (ps : List Part) (sets : List Set) → sets ≡ sets_of ps → AreLongestSets ps sets
are_sets ps sets e = let P : List Set → Type 0 = λ ss. AreLongestSets ps ss in subst P (sym e) (found ps)

pub are_these : (ps : List Part) (sets : List Set) → AreLongestSets ps sets → sets ≡ sets_of ps
are_these ps sets h = sym (back sets h.filled h.apart) ∙ ap sets_of h.joined
