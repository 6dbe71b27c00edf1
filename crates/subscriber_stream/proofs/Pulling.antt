-- The message that is written is the next one of what waits.
use Rattle.std.proofs.Common.{◌≡◌, ℕ, ◌+◌, ◌<◌, ◌≤◌, List, [], ◌∷◌, length, take, max, Some, None, refl, sym, ap, ◌∙◌, arith, length-append}
use Rattle.std.proofs.lemmas.List.{length-map, take-map}
use Rattle.ipfix_template.specs.declared.template.Template.{Template}
use Rattle.subscriber_stream.specs.Parts.{Part, records_of_parts}
use Rattle.subscriber_stream.specs.Message.{message, run_length, next_message}
use Rattle.subscriber_stream.specs.Items.{Item, Announced, Brought, part_of, stream_parts, AreItemsKept, AreFollowed, announcements, entries, total, fits}
use Rattle.subscriber_stream.specs.declared.limits.StreamLimits.{StreamLimits}
use Rattle.subscriber_stream.specs.declared.waiting.Waiting.{Waiting}
use Rattle.subscriber_stream.specs.Table.{Table}
use Rattle.subscriber_stream.specs.Waiting.{waiting_items, items_in, AreFilled}
use Rattle.subscriber_stream.specs.Steps.{StreamCounts, IsConsistent}
use Rattle.subscriber_stream.specs.Standing.{KeptStream}
use Rattle.subscriber_stream.proofs.Messages.{run_length-waiting}
use Rattle.subscriber_stream.proofs.Standings.{next_some, queued_entries}
use Rattle.subscriber_stream.specs.Items.{longest_body}
use Rattle.subscriber_stream.specs.declared.limits.TheConstants.{MOST_SHAPES}

-- a stream whose queue this is, the number of records handed out, and how many parts its next message takes
pub record Pulls (k : KeptStream) (shapes : List Template) (ws : List Item) (handed target n : ℕ) : Type 0 where
  pub waiting : k.standing.waiting ≡ stream_parts shapes ws
  pub handed_is : k.standing.handed ≡ handed
  pub kept : AreItemsKept shapes ws
  pub some : 0 < length ws
  pub parts : n ≡ max 1 (fits target None 16 ws)
  pub within : n ≤ length ws

pub run_is : (k : KeptStream) (shapes : List Template) (ws : List Item) (handed target n : ℕ) → Pulls k shapes ws handed target n → n ≡ run_length target k.standing.waiting
run_is k shapes ws handed target n is =
    is.parts ∙ sym (run_length-waiting shapes target ws is.kept) ∙ ap (run_length target) (sym is.waiting)

pub within_is : (k : KeptStream) (shapes : List Template) (ws : List Item) (handed target n : ℕ) → Pulls k shapes ws handed target n → n ≤ length k.standing.waiting
within_is k shapes ws handed target n is =
    omega (arith, is.within, length-map ws (part_of shapes), ap length is.waiting)

pub message_is_next : (k : KeptStream) (shapes : List Template) (ws : List Item) (handed now target n : ℕ) (m : List ℕ) → Pulls k shapes ws handed target n → m ≡ message now handed (stream_parts shapes (take n ws)) → Some m ≡ next_message now target k.standing.handed k.standing.waiting
message_is_next k shapes ws handed now target n m is m_is =
    let some : 0 < length (stream_parts shapes ws) = omega (arith, length-map ws (part_of shapes), is.some) in
    let run : n ≡ run_length target (stream_parts shapes ws) = is.parts ∙ sym (run_length-waiting shapes target ws is.kept) in
    let front : stream_parts shapes (take n ws) ≡ take (run_length target (stream_parts shapes ws)) (stream_parts shapes ws) = sym (take-map (part_of shapes) n ws) ∙ ap (λ (i : ℕ). take i (stream_parts shapes ws)) run in
    let whole : m ≡ message now handed (take (run_length target (stream_parts shapes ws)) (stream_parts shapes ws)) = m_is ∙ ap (λ (ps : List Part). message now handed ps) front in
    ap (λ (t : List ℕ). Some t) whole ∙ sym (next_some now target handed (stream_parts shapes ws) some)
    ∙ ap (λ (h : ℕ). next_message now target h (stream_parts shapes ws)) (sym is.handed_is) ∙ ap (next_message now target k.standing.handed) (sym is.waiting)

pub nothing_waits : (shapes : List Template) (ws : List Item) → length ws ≡ 0 → stream_parts shapes ws ≡ []
nothing_waits shapes [] none = refl
nothing_waits shapes (w ∷ ws) none = absurd (omega arith)

pub nothing_in : (queue : List Waiting) → length queue ≡ 0 → length (items_in queue) ≡ 0
nothing_in [] none = refl
nothing_in (w ∷ queue) none = absurd (omega arith)

pub something_in : (queue : List Waiting) → AreFilled queue → (length queue ≡ 0 → ⊥) → 0 < length (items_in queue)
something_in [] filled some = absurd (some refl)
something_in (w ∷ queue) filled some = omega (arith, filled.0, length-append (waiting_items w) (items_in queue))

-- how many parts wait
length_items : (ws : List Item) → length ws ≡ entries ws + announcements ws
length_items [] = refl
length_items (Announced id octets ∷ ws) = omega (arith, length_items ws)
length_items (Brought id octets ∷ ws) = omega (arith, length_items ws)

pub few_wait : (table : Table) (queue : List Waiting) (capacity : ℕ) (limits : StreamLimits) (counts : StreamCounts) (spare : ℕ) → IsConsistent table queue capacity limits counts spare → length (items_in queue) ≤ limits.queue + MOST_SHAPES
few_wait table queue capacity limits counts spare is =
    omega (arith, length_items (items_in queue), is.counted, is.few_waiting, is.announced_before, is.few_shapes, is.few_ids)

-- one part alone fits a message
pub first_small : (shapes : List Template) (ws : List Item) → AreItemsKept shapes ws → total None (take 1 ws) ≤ longest_body
first_small shapes [] kept = omega arith
first_small shapes (Announced id octets ∷ ws) kept = omega (arith, kept.0.few)
first_small shapes (Brought id octets ∷ ws) kept = omega (arith, kept.0.few)

-- where no record waits nothing does
pub none_followed : (ws : List Item) → AreFollowed ws → entries ws ≡ 0 → length ws ≡ 0
none_followed [] all none = refl
none_followed (Announced id octets ∷ ws) all none = absurd (omega (arith, all.0, none))
none_followed (Brought id octets ∷ ws) all none = absurd (omega (arith, none))

entries_none : (ws : List Item) → length ws ≡ 0 → entries ws ≡ 0
entries_none [] none = refl
entries_none (w ∷ ws) none = absurd (omega arith)

pub queued_none : (shapes : List Template) (ws : List Item) → length ws ≡ 0 → length (records_of_parts (stream_parts shapes ws)) ≡ 0
queued_none shapes ws none = queued_entries shapes ws ∙ entries_none ws none
