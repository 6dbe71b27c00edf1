-- A queue, and what it is part by part.
use Rattle.std.proofs.Common.{◌≡◌, ℕ, zero, suc, ◌+◌, ◌<◌, ◌≤◌, List, [], ◌∷◌, ◌++◌, length, get_or, drop, Option, Some, refl, sym, ap, subst, ◌∙◌, arith, append_assoc}
use Rattle.std.proofs.lemmas.List.{drop_all}
use Rattle.sequences.proofs.ListLaws.{drop_read}
use Rattle.subscriber_stream.specs.declared.waiting.Waiting.{Waiting}
use Rattle.subscriber_stream.specs.declared.waiting.Waiting.TheVariants.{Announce, Bring}
use Rattle.subscriber_stream.specs.Items.{Item, last_after}
use Rattle.subscriber_stream.specs.Waiting.{waiting_items, items_in, IsFilledRun, AreFilled, set_after}
use Rattle.subscriber_stream.proofs.RunLaws.{brings}

pub items_in-append : (queue others : List Waiting) → items_in (queue ++ others) ≡ items_in queue ++ items_in others
items_in-append [] others = refl
items_in-append (w ∷ queue) others =
    ap (λ (ws : List Item). waiting_items w ++ ws) (items_in-append queue others) ∙ sym (append_assoc (waiting_items w) (items_in queue) (items_in others))

-- one place of it, and what follows
pub items_from : (queue : List Waiting) (place : ℕ) (w : Waiting) → place < length queue → w ≡ get_or queue place w → items_in (drop place queue) ≡ waiting_items w ++ items_in (drop (place + 1) queue)
items_from queue place w lt is = ap items_in (drop_read queue place w lt is)

pub items_past : (queue : List Waiting) (place : ℕ) → length queue ≤ place → items_in (drop place queue) ≡ []
items_past queue place le = ap items_in (drop_all place queue le)

pub filled_at : (queue : List Waiting) (place : ℕ) (w : Waiting) → AreFilled queue → place < length queue → w ≡ get_or queue place w → IsFilledRun w
filled_at queue place w all lt is = let P : Waiting → Type 0 = λ v. IsFilledRun v in subst P (sym is) (at queue place all lt) where
  at : (queue : List Waiting) (place : ℕ) → AreFilled queue → place < length queue → IsFilledRun (get_or queue place w)
  at [] place all lt = absurd (omega arith)
  at (v ∷ queue) zero all lt = all.0
  at (v ∷ queue) (suc place) all lt = at queue place all.1 (omega arith)

pub filled_append : (queue others : List Waiting) → AreFilled queue → AreFilled others → AreFilled (queue ++ others)
filled_append [] others first second = second
filled_append (w ∷ queue) others first second = (first.0, filled_append queue others first.1 second)

-- the Data Set that is the last after it
pub set_is_last : (last : Option ℕ) (w : Waiting) → IsFilledRun w → last_after last (waiting_items w) ≡ set_after w
set_is_last last (Announce id octets) some = refl
set_is_last last (Bring id []) some = absurd (omega arith)
set_is_last last (Bring id (text ∷ texts)) some = ended texts where
  ended : (texts : List (List ℕ)) → last_after (Some id) (brings id texts) ≡ Some id
  ended [] = refl
  ended (text ∷ texts) = ended texts
