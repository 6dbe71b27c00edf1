-- What a stream keeps where the first records of a run are handed out.
use Rattle.std.proofs.Common.{◌≡◌, ℕ, zero, suc, ◌+◌, ◌-◌, ◌≤◌, List, [], ◌∷◌, ◌++◌, length, drop, refl, sym, ap, subst, arith, length-append}
use Rattle.ipfix_template.specs.declared.template.Template.{Template}
use Rattle.subscriber_stream.specs.declared.limits.StreamLimits.{StreamLimits}
use Rattle.subscriber_stream.specs.declared.waiting.Waiting.{Waiting}
use Rattle.subscriber_stream.specs.declared.waiting.Waiting.TheVariants.{Bring}
use Rattle.subscriber_stream.specs.Table.{Table}
use Rattle.subscriber_stream.specs.Items.{Item, AreItemsKept, AreFollowed, announcements, entries}
use Rattle.subscriber_stream.specs.Waiting.{items_in, AreFilled, rest_of}
use Rattle.subscriber_stream.specs.Steps.{StreamCounts, IsConsistent}
use Rattle.subscriber_stream.proofs.RunLaws.{brings}
use Rattle.subscriber_stream.proofs.Standings.{items_rest}

kept_rest : (shapes : List Template) (id n : ℕ) (texts : List (List ℕ)) (ws : List Item) → AreItemsKept shapes (brings id texts ++ ws) → AreItemsKept shapes (brings id (drop n texts) ++ ws)
kept_rest shapes id zero texts ws kept = kept
kept_rest shapes id (suc n) [] ws kept = kept
kept_rest shapes id (suc n) (text ∷ texts) ws kept = kept_rest shapes id n texts ws kept.1

followed_rest : (id n : ℕ) (texts : List (List ℕ)) (ws : List Item) → AreFollowed (brings id texts ++ ws) → AreFollowed (brings id (drop n texts) ++ ws)
followed_rest id zero texts ws followed = followed
followed_rest id (suc n) [] ws followed = followed
followed_rest id (suc n) (text ∷ texts) ws followed = followed_rest id n texts ws followed

entries_rest : (id n : ℕ) (texts : List (List ℕ)) (ws : List Item) → n ≤ length texts → entries (brings id (drop n texts) ++ ws) + n ≡ entries (brings id texts ++ ws)
entries_rest id zero texts ws le = omega arith
entries_rest id (suc n) [] ws le = absurd (omega arith)
entries_rest id (suc n) (text ∷ texts) ws le = omega (arith, entries_rest id n texts ws (omega arith))

announcements_rest : (id n : ℕ) (texts : List (List ℕ)) (ws : List Item) → announcements (brings id (drop n texts) ++ ws) ≡ announcements (brings id texts ++ ws)
announcements_rest id zero texts ws = refl
announcements_rest id (suc n) [] ws = refl
announcements_rest id (suc n) (text ∷ texts) ws = announcements_rest id n texts ws

filled_rest : (id : ℕ) (texts : List (List ℕ)) (others : List Waiting) → AreFilled others → AreFilled (rest_of id texts ++ others)
filled_rest id [] others filled = filled
filled_rest id (text ∷ texts) others filled = (omega arith, filled)

few_rest : (id : ℕ) (texts : List (List ℕ)) → length (rest_of id texts) ≤ 1
few_rest id [] = omega arith
few_rest id (text ∷ texts) = omega arith

-- no more are handed out than wait
pub few_out : (table : Table) (queue others : List Waiting) (capacity : ℕ) (limits : StreamLimits) (counts : StreamCounts) (spare : ℕ) (id n : ℕ) (texts : List (List ℕ)) → IsConsistent table queue capacity limits counts spare → queue ≡ Bring id texts ∷ others → n ≤ length texts → n ≤ counts.waiting
few_out table queue others capacity limits counts spare id n texts is queue_is le =
    omega (arith, is.counted, ap (λ (ws : List Waiting). entries (items_in ws)) queue_is, entries_rest id n texts (items_in others) le)

pub records_out : (table : Table) (queue others after : List Waiting) (capacity : ℕ) (limits : StreamLimits) (counts : StreamCounts) (spare : ℕ) (id n : ℕ) (texts : List (List ℕ)) → IsConsistent table queue capacity limits counts spare → queue ≡ Bring id texts ∷ others → after ≡ rest_of id (drop n texts) ++ others → n ≤ length texts
    → IsConsistent table after capacity limits (record { waiting = counts.waiting - n; handed = counts.handed + n; announced = counts.announced }) spare
records_out table queue others after capacity limits counts spare id n texts is queue_is after_is le =
    let C : List Waiting → Type 0 = λ ws. IsConsistent table ws capacity limits counts spare in
    let old = subst C queue_is is in
    let N : List Waiting → Type 0 = λ ws. IsConsistent table ws capacity limits (record { waiting = counts.waiting - n; handed = counts.handed + n; announced = counts.announced }) spare in
    let K : List Item → Type 0 = λ ws. AreItemsKept table.shapes ws in
    let F : List Item → Type 0 = λ ws. AreFollowed ws in
    let items = items_rest id (drop n texts) others in
    let left = entries_rest id n texts (items_in others) le in
    let new : N (rest_of id (drop n texts) ++ others) = record {
      filled = filled_rest id (drop n texts) others old.filled.1;
      kept = subst K (sym items) (kept_rest table.shapes id n texts (items_in others) old.kept);
      followed = subst F (sym items) (followed_rest id n texts (items_in others) old.followed);
      counted = omega (arith, old.counted, left, ap entries items);
      announced_before = omega (arith, old.announced_before, announcements_rest id n texts (items_in others), ap announcements items);
      few_shapes = old.few_shapes;
      few_ids = old.few_ids;
      few_waiting = omega (arith, old.few_waiting);
      below = omega (arith, old.below, old.counted, left);
      room = omega (arith, old.room, few_rest id (drop n texts), length-append (rest_of id (drop n texts)) others);
      table_room = old.table_room;
    } in
    subst N (sym after_is) new
