-- A file that is written to a sink entry by entry.
use Rattle.std.proofs.Common.{◌≡◌, ℕ, ◌+◌, ◌≤◌, Bool, List, [], ◌∷◌, ◌++◌, length, take, drop, Option, Some, Result, Err, refl, sym, ap, ◌∙◌, subst, arith, append_assoc, append-nil}
use Rattle.std.specs.Prelude.{slice_get, IfErr, OnErr}
use Rattle.std.specs.Option.{option_copied}
use Rattle.std.specs.Borrow.{Bor}
use Rattle.std.specs.Io.KnownBytes.{Appends, Keeps}
use Rattle.std.proofs.KnownBytes.{Appends-nil, Appends-trans, Appends-kept}
use Rattle.std.proofs.lemmas.List.{take-append-drop}
use Rattle.std.proofs.lemmas.Grind.{flat_map-append}
use Rattle.sequences.proofs.ListLaws.{take-add-append}
use Rattle.event_journal.specs.declared.entry.Entry.{Entry}
use Rattle.journal_files.specs.Faults.{IsWritingFault}
use Rattle.journal_files.specs.Format.{octets_of, head_octets, history_in_octets, file_octets}
use Rattle.journal_files.specs.Writing.{Stops, WritesSome}
use Rattle.journal_files.specs.declared.fault.Fault.{Fault}
use Rattle.journal_files.specs.declared.fault.Fault.TheVariants.{BadMagic, BadVersion, Truncated, BadEntry, Read, Write, OutOfMemory}
use Rattle.journal_files.proofs.HistoryLaws.{written_more, written_all}

-- so many entries were written behind the head, and as many are left as the writer says
pub record IsWriting (held holds : Option (List ℕ)) (h : List Entry) (position left : ℕ) : Type 0 where
  pub within : position ≤ length h
  pub left_are : left + position ≡ length h
  pub written : Appends held holds (head_octets (length h) ++ history_in_octets (take position h))

pub writing_start : (held holds : Option (List ℕ)) (h : List Entry) (left : ℕ) → left ≡ length h → Appends held holds (head_octets (length h)) → IsWriting held holds h 0 left
writing_start held holds h left is head = record {
  within = omega arith;
  left_are = omega (arith, is);
  written = subst (Appends held holds) (sym (append-nil (head_octets (length h)))) head;
}

pub writing_more : (held holds after : Option (List ℕ)) (h : List Entry) (position left left2 : ℕ) (entry : Entry) → slice_get h position ≡ Some entry → position + 1 ≤ length h → left2 + 1 ≡ left
    → Appends holds after (octets_of entry) → IsWriting held holds h position left → IsWriting held after h (position + 1) left2
writing_more held holds after h position left left2 entry at low fewer more so = record {
  within = low;
  left_are = omega (arith, so.left_are, fewer);
  written = subst (Appends held after)
      (written_more (head_octets (length h) ++ history_in_octets (take position h)) _ (head_octets (length h)) h position entry at refl refl)
      (Appends-trans held holds after (head_octets (length h) ++ history_in_octets (take position h)) (octets_of entry) so.written more);
}

pub writing_end : (held holds : Option (List ℕ)) (h : List Entry) (position left : ℕ) (r : Option (Bor Entry)) → ((x : Bor Entry) → r ≡ Some x → ⊥) → option_copied r ≡ slice_get h position
    → IsWriting held holds h position left → Appends held holds (file_octets h)
writing_end held holds h position left r none at so =
    subst (Appends held holds) (written_all (head_octets (length h) ++ history_in_octets (take position h)) (head_octets (length h)) h position r none at refl) so.written

-- where it stops, a front was written of all that is due
stopped : (e : Fault) (held holds after : Option (List ℕ)) (front due rest all : List ℕ) (was now : Bool) → all ≡ front ++ (due ++ rest) → Appends held holds front → Stops e holds after due was now → WritesSome held after all
stopped (Write sent) held holds after front due rest all was now is before stops =
    let parts : all ≡ (front ++ take sent due) ++ (drop sent due ++ rest) =
    is ∙ ap (λ t. front ++ t) (ap (λ t. t ++ rest) (sym (take-append-drop sent due)) ∙ append_assoc (take sent due) (drop sent due) rest) ∙ sym (append_assoc front (take sent due) (drop sent due ++ rest)) in (
      length (front ++ take sent due),
      subst (Appends held after) (sym (ap (take (length (front ++ take sent due))) parts ∙ take_front (front ++ take sent due) (drop sent due ++ rest))) (Appends-trans held holds after front (take sent due) before stops.written),
    )
  where
    take_front : (xs ys : List ℕ) → take (length xs) (xs ++ ys) ≡ xs
    take_front [] ys = refl
    take_front (x ∷ xs) ys = ap (λ (zs : List ℕ). x ∷ zs) (take_front xs ys)
stopped OutOfMemory held holds after front due rest all was now is before stops =
    (length front, subst (Appends held after) (sym (ap (take (length front)) is ∙ take_front front (due ++ rest))) (Appends-kept held holds after front before stops.0))
  where
    take_front : (xs ys : List ℕ) → take (length xs) (xs ++ ys) ≡ xs
    take_front [] ys = refl
    take_front (x ∷ xs) ys = ap (λ (zs : List ℕ). x ∷ zs) (take_front xs ys)
stopped BadMagic held holds after front due rest all was now is before stops = absurd stops
stopped BadVersion held holds after front due rest all was now is before stops = absurd stops
stopped Truncated held holds after front due rest all was now is before stops = absurd stops
stopped BadEntry held holds after front due rest all was now is before stops = absurd stops
stopped Read held holds after front due rest all was now is before stops = absurd stops

-- what stops is the sink, or want of memory
pub writing_fault : (e : Fault) (old new : Option (List ℕ)) (due : List ℕ) (was has : Bool) → Stops e old new due was has → IsWritingFault e
writing_fault (Write sent) old new due was has stops = tt
writing_fault OutOfMemory old new due was has stops = tt
writing_fault BadMagic old new due was has stops = absurd stops
writing_fault BadVersion old new due was has stops = absurd stops
writing_fault Truncated old new due was has stops = absurd stops
writing_fault BadEntry old new due was has stops = absurd stops
writing_fault Read old new due was has stops = absurd stops

pub stops_at_head : (e : Fault) (held after : Option (List ℕ)) (h : List Entry) (n : ℕ) (was now : Bool) → n ≡ length h → Stops e held after (head_octets n) was now → WritesSome held after (file_octets h)
stops_at_head e held after h n was now is stops =
    stopped e held held after [] (head_octets n) (history_in_octets h) (file_octets h) was now (ap (λ m. head_octets m ++ history_in_octets h) (sym is)) (Appends-nil held) stops

pub stops_at_entry : (e : Fault) (held holds after : Option (List ℕ)) (h : List Entry) (position left : ℕ) (entry : Entry) (was now : Bool) → slice_get h position ≡ Some entry
    → IsWriting held holds h position left → Stops e holds after (octets_of entry) was now → WritesSome held after (file_octets h)
stops_at_entry e held holds after h position left entry was now at so stops =
    let more : (head_octets (length h) ++ history_in_octets (take position h)) ++ octets_of entry ≡ head_octets (length h) ++ history_in_octets (take (position + 1) h) =
    written_more (head_octets (length h) ++ history_in_octets (take position h)) _ (head_octets (length h)) h position entry at refl refl in
    let all : file_octets h ≡ (head_octets (length h) ++ history_in_octets (take position h)) ++ (octets_of entry ++ history_in_octets (drop (position + 1) h)) =
    ap (λ t. head_octets (length h) ++ history_in_octets t) (sym (take-append-drop (position + 1) h))
    ∙ ap (λ t. head_octets (length h) ++ t) (flat_map-append octets_of (take (position + 1) h) (drop (position + 1) h))
    ∙ sym (append_assoc (head_octets (length h)) (history_in_octets (take (position + 1) h)) (history_in_octets (drop (position + 1) h)))
    ∙ ap (λ t. t ++ history_in_octets (drop (position + 1) h)) (sym more)
    ∙ append_assoc (head_octets (length h) ++ history_in_octets (take position h)) (octets_of entry) (history_in_octets (drop (position + 1) h)) in
    stopped e held holds after (head_octets (length h) ++ history_in_octets (take position h)) (octets_of entry) (history_in_octets (drop (position + 1) h)) (file_octets h) was now all so.written stops
