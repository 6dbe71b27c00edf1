-- The parts of a message and its sets: the same records, and the same templates.
use Rattle.std.proofs.Common.{◌≡◌, ℕ, Bool, true, false, cond, eqb, List, [], ◌∷◌, ◌++◌, refl, sym, ap, ◌∙◌}
use Rattle.std.proofs.lemmas.Bool.{eqb-true}
use Rattle.ipfix_template.specs.DataRecord.{DataRecord}
use Rattle.subscriber_stream.specs.Parts.{Part, Announcement, Entry, records_of_parts}
use Rattle.subscriber_stream.specs.Message.{Set, Announces, Brings, with_record, sets_of}
use Rattle.std.proofs.lemmas.Option.{same_Some}
use Rattle.stream_meaning.proofs.Tables.{Table, defining, IsKnown, AreBrought, AreKnown, AreWritten, after_parts, after_sets, records_among}

alone : (table : Table) (id : ℕ) (r : DataRecord) → IsKnown table id r → AreBrought table id (r ∷ [])
alone table id r is = record {
  low = is.low;
  high = is.high;
  template = r.template;
  known = is.known;
  accepted = is.sound.accepted;
  are = (record { template = refl; sound = is.sound }, tt);
}

joined : (table : Table) (id other : ℕ) (r : DataRecord) (rs : List DataRecord) → id ≡ other → IsKnown table id r → AreBrought table other rs → AreBrought table id (r ∷ rs)
joined table id other r rs same is are =
    let template : r.template ≡ are.template = same_Some r.template are.template (sym is.known ∙ ap table same ∙ are.known) in
    record {
      low = is.low;
      high = is.high;
      template = are.template;
      known = ap table same ∙ are.known;
      accepted = are.accepted;
      are = (record { template = template; sound = is.sound }, are.are);
    }

with_record-written : (table : Table) (id : ℕ) (r : DataRecord) (sets : List Set) → IsKnown table id r → AreWritten table sets → AreWritten table (with_record id r sets)
with_record-written table id r [] is all = (alone table id r is, tt)
with_record-written table id r (Announces other shape ∷ sets) is all = (alone table id r is, all)
with_record-written table id r (Brings other rs ∷ sets) is all = by_test (eqb id other) refl where
  by_test : (b : Bool) → eqb id other ≡ b → AreWritten table (cond b (Brings id (r ∷ rs) ∷ sets) (Brings id (r ∷ []) ∷ Brings other rs ∷ sets))
  by_test true same = (joined table id other r rs (eqb-true id other same) is all.0, all.1)
  by_test false same = (alone table id r is, all)

pub sets_written : (ps : List Part) (table : Table) → AreKnown table ps → AreWritten table (sets_of ps)
sets_written [] table all = tt
sets_written (Announcement id shape ∷ ps) table all = (all.0, sets_written ps (defining id shape table) all.1)
sets_written (Entry id r ∷ ps) table all = with_record-written table id r (sets_of ps) all.0 (sets_written ps table all.1)

with_record-records : (id : ℕ) (r : DataRecord) (sets : List Set) → records_among (with_record id r sets) ≡ r ∷ records_among sets
with_record-records id r [] = refl
with_record-records id r (Announces other shape ∷ sets) = refl
with_record-records id r (Brings other rs ∷ sets) = by_test (eqb id other) where
  by_test : (b : Bool) → records_among (cond b (Brings id (r ∷ rs) ∷ sets) (Brings id (r ∷ []) ∷ Brings other rs ∷ sets)) ≡ r ∷ (rs ++ records_among sets)
  by_test true = refl
  by_test false = refl

pub sets_bring : (ps : List Part) → records_among (sets_of ps) ≡ records_of_parts ps
sets_bring [] = refl
sets_bring (Announcement id shape ∷ ps) = sets_bring ps
sets_bring (Entry id r ∷ ps) =
    with_record-records id r (sets_of ps) ∙ ap (λ (rs : List DataRecord). r ∷ rs) (sets_bring ps)

with_record-after : (table : Table) (id : ℕ) (r : DataRecord) (sets : List Set) → after_sets table (with_record id r sets) ≡ after_sets table sets
with_record-after table id r [] = refl
with_record-after table id r (Announces other shape ∷ sets) = refl
with_record-after table id r (Brings other rs ∷ sets) = by_test (eqb id other) where
  by_test : (b : Bool) → after_sets table (cond b (Brings id (r ∷ rs) ∷ sets) (Brings id (r ∷ []) ∷ Brings other rs ∷ sets)) ≡ after_sets table sets
  by_test true = refl
  by_test false = refl

pub sets_after : (ps : List Part) (table : Table) → after_sets table (sets_of ps) ≡ after_parts table ps
sets_after [] table = refl
sets_after (Announcement id shape ∷ ps) table = sets_after ps (defining id shape table)
sets_after (Entry id r ∷ ps) table = with_record-after table id r (sets_of ps) ∙ sets_after ps table

-- ---- one run of parts behind another

pub after_append : (ps qs : List Part) (table : Table) → after_parts table (ps ++ qs) ≡ after_parts (after_parts table ps) qs
after_append [] qs table = refl
after_append (Announcement id shape ∷ ps) qs table = after_append ps qs (defining id shape table)
after_append (Entry id r ∷ ps) qs table = after_append ps qs table

pub known_append : (ps qs : List Part) (table : Table) → AreKnown table ps → AreKnown (after_parts table ps) qs → AreKnown table (ps ++ qs)
known_append [] qs table first second = second
known_append (Announcement id shape ∷ ps) qs table first second = (first.0, known_append ps qs (defining id shape table) first.1 second)
known_append (Entry id r ∷ ps) qs table first second = (first.0, known_append ps qs table first.1 second)

pub known_split : (ps qs : List Part) (table : Table) → AreKnown table (ps ++ qs) → AreKnown table ps × AreKnown (after_parts table ps) qs
known_split [] qs table all = (tt, all)
known_split (Announcement id shape ∷ ps) qs table all =
    let others = known_split ps qs (defining id shape table) all.1 in ((all.0, others.0), others.1)
known_split (Entry id r ∷ ps) qs table all =
    let others = known_split ps qs table all.1 in ((all.0, others.0), others.1)
