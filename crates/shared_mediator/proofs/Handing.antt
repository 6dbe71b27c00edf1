-- How many records a subscription was handed, when the history goes on and when it pulls.
use Rattle.std.proofs.Common.{◌≡◌, ℕ, ◌+◌, ◌≤◌, true, List, ◌++◌, length, take, drop, Option, refl, sym, ap, ◌∙◌, arith, length-append}
use Rattle.std.specs.Prelude.{◌≢◌}
use Rattle.std.proofs.lemmas.List.{take-append-drop, take_at, take-append-le}
use Rattle.std.proofs.Math.Seq.{take-add}
use Rattle.sequences.specs.Before.{each_after}
use Rattle.sequences.proofs.BeforeLaws.{each_with_before-append}
use Rattle.ipfix_template.specs.DataRecord.{DataRecord}
use Rattle.subscriber_stream.specs.Parts.{Part, parts, records_of_parts}
use Rattle.subscriber_stream.specs.Message.{parts_taken}
use Rattle.subscriber_stream.proofs.CallLaws.{parts_more}
use Rattle.subscriber_stream.proofs.Standings.{records_in-append}
use Rattle.event_journal.specs.declared.entry.Entry.{Entry}
use Rattle.mediator_history.specs.Subscriptions.{is_live}
use Rattle.mediator_history.specs.Disclosed.{given_at, disclosed}
use Rattle.mediator_calls.specs.Mediation.{Mediation, place_at, waiting_at}
use Rattle.mediator_calls.specs.Sound.{IsSoundMediation}
use Rattle.mediator_calls.specs.Calls.{GoesOn, Pulls}
use Rattle.shared_mediator.specs.Counted.{handed_at}
use Rattle.shared_mediator.specs.Handing.{records_next}

-- ---- entries

-- what stands before a place stays when more is disclosed
front_stays : (records more : List DataRecord) (p : ℕ) → p ≤ length (parts records) → take p (parts (records ++ more)) ≡ take p (parts records)
front_stays records more p within = at (parts_more records more) where
  at : (others : List Part) × (parts (records ++ more) ≡ parts records ++ others) → take p (parts (records ++ more)) ≡ take p (parts records)
  at found = ap (λ (ps : List Part). take p ps) found.1 ∙ take-append-le p (parts records) found.0 within

-- what a live subscription was handed stays when the history goes on
pub handed_kept : (old new : Mediation) (more : List Entry) → IsSoundMediation old → GoesOn old more new → (sub : ℕ) → is_live sub new.history ≡ true → handed_at new sub ≡ handed_at old sub
handed_kept old new more sound on sub live =
    ap (λ (p : ℕ). length (records_of_parts (take p (parts (disclosed sub new.history))))) (on.places sub live)
    ∙ ap (λ (rs : List DataRecord). length (records_of_parts (take (place_at old sub) (parts rs)))) (ap (disclosed sub) on.history ∙ each_with_before-append (given_at sub) old.history more)
    ∙ ap (λ (ps : List Part). length (records_of_parts ps)) (front_stays (disclosed sub old.history) (each_after (given_at sub) old.history more) (place_at old sub) (sound.places sub))

-- nothing stands before the start
pub handed_none : (m : Mediation) (sub : ℕ) → place_at m sub ≡ 0 → handed_at m sub ≡ 0
handed_none m sub start = ap (λ (p : ℕ). length (records_of_parts (take p (parts (disclosed sub m.history))))) start

-- it stays where neither the history nor the place changes
pub handed_where : (old new : Mediation) (sub : ℕ) → new.history ≡ old.history → place_at new sub ≡ place_at old sub → handed_at new sub ≡ handed_at old sub
handed_where old new sub same placed =
    ap (λ (h : List Entry). length (records_of_parts (take (place_at new sub) (parts (disclosed sub h))))) same
    ∙ ap (λ (p : ℕ). length (records_of_parts (take p (parts (disclosed sub old.history))))) placed

-- ---- pulls

abbrev count_in : List Part → ℕ
count_in ps = length (records_of_parts ps)

counts_add : (ps qs : List Part) → count_in (ps ++ qs) ≡ count_in ps + count_in qs
counts_add ps qs = ap (λ (rs : List DataRecord). length rs) (records_in-append ps qs) ∙ length-append (records_of_parts ps) (records_of_parts qs)

-- a place that moves past the parts which are taken
front_grows : (ps : List Part) (p n : ℕ) → count_in (take (p + length (take n (drop p ps))) ps) ≡ count_in (take p ps) + count_in (take n (drop p ps))
front_grows ps p n =
    ap count_in (take-add p (length (take n (drop p ps))) ps ∙ ap (λ (qs : List Part). take p ps ++ qs) whole)
    ∙ counts_add (take p ps) (take n (drop p ps)) where
      whole : take (length (take n (drop p ps))) (drop p ps) ≡ take n (drop p ps)
      whole = ap (λ (qs : List Part). take (length (take n (drop p ps))) qs) (sym (take-append-drop n (drop p ps))) ∙ take_at (take n (drop p ps)) (drop n (drop p ps)) (length (take n (drop p ps))) refl

-- the records of the next message are handed then
pub handed_moved : (old new : Mediation) (sub now target : ℕ) (answer : Option (List ℕ)) → Pulls old sub now target answer new → handed_at new sub ≡ handed_at old sub + records_next old sub target
handed_moved old new sub now target answer pulled =
    ap (λ (h : List Entry). count_in (take (place_at new sub) (parts (disclosed sub h)))) pulled.history
    ∙ ap (λ (p : ℕ). count_in (take p (parts (disclosed sub old.history)))) pulled.moved
    ∙ front_grows (parts (disclosed sub old.history)) (place_at old sub) (parts_taken (disclosed sub old.history) (place_at old sub) target)

pub handed_others : (old new : Mediation) (sub now target : ℕ) (answer : Option (List ℕ)) → Pulls old sub now target answer new → (q : ℕ) → q ≢ sub → handed_at new q ≡ handed_at old q
handed_others old new sub now target answer pulled q other = handed_where old new q pulled.history (pulled.others q other)

-- no more are handed than wait
pub next_wait : (m : Mediation) (sub target : ℕ) → records_next m sub target ≤ waiting_at m sub
next_wait m sub target = some (drop (place_at m sub) (parts (disclosed sub m.history))) (parts_taken (disclosed sub m.history) (place_at m sub) target) where
  some : (ps : List Part) (n : ℕ) → count_in (take n ps) ≤ count_in ps
  some ps n = omega (arith, counts_add (take n ps) (drop n ps), ap count_in (take-append-drop n ps))
