-- What an audit takes and hands out, whether its entries are kept or counted.
use Rattle.std.proofs.Common.{◌≡◌, ℕ, ◌+◌, ◌-◌, ◌≤◌, Bool, true, false, List, [], ◌∷◌, ◌++◌, length, map, take, drop, Option, Some, None, refl, sym, ap, ◌∙◌, subst, arith, length-append}
use Rattle.std.specs.Prelude.{min, is_some, IfSome}
use Rattle.std.proofs.lemmas.List.{length-drop, length-map, drop-drop, drop_min, drop-append-le, take_all}
use Rattle.disclosure_audit.specs.declared.entry.AuditEntry.{AuditEntry}
use Rattle.disclosure_audit.specs.declared.entry.Note.{Note}
use Rattle.disclosure_audit.specs.Noting.{KeptNotes, kept_notes}
use Rattle.disclosure_audit.specs.Queue.{stamp, and_behind, oldest_in, behind_oldest, AreThere, Waiting, KeepsOrCounts, and_one, and_notes, waiting_without, AuditStanding, KeptAudit, audit_over, notes_for, most_notes, with_noted, with_notes, without_oldest, StandsIn, TakesEntries, TakesNotes, DrainsOldest}

-- ---- before anything

nothing : (entries : List AuditEntry) → length entries ≡ 0 → entries ≡ []
nothing [] none = refl
nothing (e ∷ entries) none = absurd (omega (arith, none))

pub starts : (keeps : Bool) (w : Waiting) (limit : ℕ) → KeepsOrCounts keeps w → w.count ≡ 0 → StandsIn (audit_over w limit 0).standing []
starts keeps w limit so none = record { within = omega arith; waiting = none; kept = by w.entries so.counted } where
  by : (entries : Option (List AuditEntry)) → IfSome entries (λ es. length es ≡ w.count) → IfSome entries (λ es. es ≡ drop 0 [])
  by None counted = tt
  by (Some es) counted = nothing es (counted ∙ none)

-- ---- how many notes are to be kept

pub notes_kept : (entries : Option (List AuditEntry)) (limit : ℕ) → is_some entries ≡ true → notes_for entries limit ≡ limit
notes_kept None limit some = absurd cc
notes_kept (Some es) limit some = refl

pub notes_counted : (entries : Option (List AuditEntry)) (limit : ℕ) → is_some entries ≡ false → notes_for entries limit ≡ 0
notes_counted None limit none = refl
notes_counted (Some es) limit none = absurd cc

-- ---- entries behind the others

takes_behind : (s : AuditStanding) (count : ℕ) (more kept : List AuditEntry) → count ≡ length more → IfSome s.entries (λ es. kept ≡ more) → (all : List AuditEntry) → StandsIn s all
    → StandsIn (record { drained = s.drained; waiting = s.waiting + count; entries = and_behind s.entries kept }) (all ++ more)
takes_behind s count more kept counted same all so = record {
  within = omega (arith, so.within, length-append all more);
  waiting = omega (arith, so.waiting, so.within, counted, length-drop s.drained all, length-drop s.drained (all ++ more), length-append all more);
  kept = by s.entries same so.kept;
} where
  by : (entries : Option (List AuditEntry)) → IfSome entries (λ es. kept ≡ more) → IfSome entries (λ es. es ≡ drop s.drained all) → IfSome (and_behind entries kept) (λ es. es ≡ drop s.drained (all ++ more))
  by None same so = tt
  by (Some es) same was = ap (λ k. es ++ k) same ∙ ap (λ l. l ++ more) was ∙ sym (drop-append-le s.drained all more so.within)

always : (entries : Option (List AuditEntry)) (xs : List AuditEntry) → IfSome entries (λ es. xs ≡ xs)
always None xs = tt
always (Some es) xs = refl

-- an audit that was given one more
pub one_more : (w v : Waiting) (limit drained : ℕ) (old : KeptAudit) (entry : AuditEntry) → audit_over w limit drained ≡ old → v ≡ and_one w entry
    → audit_over v limit drained ≡ record { standing = with_noted old.standing entry; limit = old.limit; spare = old.spare - 1 }
one_more w v limit drained old entry seen is =
    subst (λ (a : KeptAudit). audit_over v limit drained ≡ record { standing = with_noted a.standing entry; limit = a.limit; spare = a.spare - 1 }) seen (ap (λ (x : Waiting). audit_over x limit drained) is)

pub one_taken : (w v : Waiting) (limit drained : ℕ) (old : KeptAudit) (entry : AuditEntry) → audit_over w limit drained ≡ old → v ≡ and_one w entry → TakesEntries old.standing (entry ∷ []) (audit_over v limit drained).standing
one_taken w v limit drained old entry seen is all so =
    subst (λ (a : KeptAudit). StandsIn a.standing (all ++ entry ∷ [])) (sym (one_more w v limit drained old entry seen is)) (takes_behind old.standing 1 (entry ∷ []) (entry ∷ []) refl (always old.standing.entries (entry ∷ [])) all so)

-- one that was given the notes of a message
pub notes_more : (w v : Waiting) (limit drained : ℕ) (old : KeptAudit) (position : ℕ) (n : KeptNotes) → audit_over w limit drained ≡ old → v ≡ and_notes w position n
    → audit_over v limit drained ≡ record { standing = with_notes old.standing position n; limit = old.limit; spare = old.spare - 1 }
notes_more w v limit drained old position n seen is =
    subst (λ (a : KeptAudit). audit_over v limit drained ≡ record { standing = with_notes a.standing position n; limit = a.limit; spare = a.spare - 1 }) seen (ap (λ (x : Waiting). audit_over x limit drained) is)

pub notes_taken : (w v : Waiting) (limit drained : ℕ) (old : KeptAudit) (position : ℕ) (n : KeptNotes) → audit_over w limit drained ≡ old → v ≡ and_notes w position n → old.standing.waiting + n.count ≤ old.limit
    → TakesNotes old position n (audit_over v limit drained).standing
notes_taken w v limit drained old position n seen is room named are all so =
    subst (λ (a : KeptAudit). StandsIn a.standing (all ++ map (stamp position) named)) (sym (notes_more w v limit drained old position n seen is))
    (takes_behind old.standing n.count (map (stamp position) named) (map (stamp position) n.notes) (many ∙ sym (length-map named (stamp position))) (whole old.standing.entries (ap (λ (k : KeptNotes). k.notes) are)) all so)
  where
    many : n.count ≡ length named
    many = ap (λ (k : KeptNotes). k.count) are

    -- where entries are kept, so are all notes, since there are no more than may wait
    whole : (entries : Option (List AuditEntry)) → n.notes ≡ take (notes_for entries old.limit) named → IfSome entries (λ es. map (stamp position) n.notes ≡ map (stamp position) named)
    whole None front = tt
    whole (Some es) front = ap (map (stamp position)) (front ∙ take_all old.limit named (omega (arith, room, many)))

-- ---- the oldest entries

drains : (s : AuditStanding) (most : ℕ) (out : List AuditEntry) → out ≡ oldest_in most s.entries → DrainsOldest s most out (without_oldest most s)
drains s most out is all so = (handed s.entries is so.kept, record { within = within; waiting = waits; kept = left s.entries so.kept }) where
  rest : List AuditEntry
  rest = drop s.drained all

  within : s.drained + min most s.waiting ≤ length all
  within = omega (arith, so.within, so.waiting, length-drop s.drained all)

  waits : s.waiting - most ≡ length (drop (s.drained + min most s.waiting) all)
  waits = omega (arith, so.within, so.waiting, length-drop s.drained all, length-drop (s.drained + min most s.waiting) all)

  handed : (entries : Option (List AuditEntry)) → out ≡ oldest_in most entries → IfSome entries (λ es. es ≡ drop s.drained all) → is_some entries ≡ true → out ≡ take most (drop s.drained all)
  handed None front was some = absurd cc
  handed (Some es) front was some = front ∙ ap (take most) was

  left : (entries : Option (List AuditEntry)) → IfSome entries (λ es. es ≡ drop s.drained all) → IfSome (behind_oldest most entries) (λ es. es ≡ drop (s.drained + min most s.waiting) all)
  left None was = tt
  left (Some es) was =
      ap (drop most) was ∙ sym (drop_min most (drop s.drained all)) ∙ ap (λ n. drop (min most n) (drop s.drained all)) (sym so.waiting) ∙ drop-drop (min most s.waiting) s.drained all

-- where none waits, none is kept
pub nothing_oldest : (s : AuditStanding) (all : List AuditEntry) (most : ℕ) → StandsIn s all → take most (drop s.drained all) ≡ [] → oldest_in most s.entries ≡ []
nothing_oldest s all most so none = by s.entries so.kept where
  by : (entries : Option (List AuditEntry)) → IfSome entries (λ es. es ≡ drop s.drained all) → oldest_in most entries ≡ []
  by None was = refl
  by (Some es) was = ap (take most) was ∙ none

-- an audit from which they were taken
pub front_left : (w v : Waiting) (limit drained taken most : ℕ) (old : KeptAudit) → audit_over w limit drained ≡ old → v ≡ waiting_without most w → taken ≡ min most w.count
    → audit_over v limit (drained + taken) ≡ record { standing = without_oldest most old.standing; limit = old.limit; spare = old.spare }
front_left w v limit drained taken most old seen is counted =
    subst (λ (a : KeptAudit). audit_over v limit (drained + taken) ≡ record { standing = without_oldest most a.standing; limit = a.limit; spare = a.spare }) seen
    (ap (λ (x : Waiting). audit_over x limit (drained + taken)) is ∙ ap (λ (n : ℕ). audit_over (waiting_without most w) limit (drained + n)) counted)

pub front_drained : (w v : Waiting) (limit drained taken most : ℕ) (old : KeptAudit) (out : List AuditEntry) → audit_over w limit drained ≡ old → v ≡ waiting_without most w → taken ≡ min most w.count → out ≡ oldest_in most w.entries
    → DrainsOldest old.standing most out (audit_over v limit (drained + taken)).standing
front_drained w v limit drained taken most old out seen is counted front =
    subst (λ (a : KeptAudit). DrainsOldest old.standing most out a.standing) (sym (front_left w v limit drained taken most old seen is counted))
    (drains old.standing most out (front ∙ ap (λ (a : KeptAudit). oldest_in most a.standing.entries) seen))

-- ---- notes of which some are to be kept

-- where entries are kept, all notes are there that may wait
pub all_there : (a : KeptAudit) (n : KeptNotes) (named : List Note) → n ≡ kept_notes (most_notes a) named → n.count ≤ a.limit → AreThere a.standing.entries n
all_there a n named are few = by a.standing.entries (ap (λ (k : KeptNotes). k.notes) are) where
  by : (entries : Option (List AuditEntry)) → n.notes ≡ take (notes_for entries a.limit) named → AreThere entries n
  by None front = tt
  by (Some es) front = ap (λ (l : List Note). length l) (front ∙ take_all a.limit named (omega (arith, few, many))) ∙ sym many where
    many : n.count ≡ length named
    many = ap (λ (k : KeptNotes). k.count) are

-- more entries don't change how many are to be kept
pub same_notes : (a b : KeptAudit) (more : List AuditEntry) → b.standing.entries ≡ and_behind a.standing.entries more → b.limit ≡ a.limit → most_notes b ≡ most_notes a
same_notes a b more entries limit = ap (λ (es : Option (List AuditEntry)). notes_for es b.limit) entries ∙ by a.standing.entries ∙ ap (λ (n : ℕ). notes_for a.standing.entries n) limit where
  by : (es : Option (List AuditEntry)) → notes_for (and_behind es more) b.limit ≡ notes_for es b.limit
  by None = refl
  by (Some xs) = refl
