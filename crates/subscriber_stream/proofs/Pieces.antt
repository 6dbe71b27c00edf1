-- Parts that wait, place by place.
use Rattle.std.proofs.Common.{◌≡◌, ℕ, zero, suc, ◌≤◌, Bool, true, false, List, [], ◌∷◌, ◌++◌, take, Some, None, refl, subst, arith, nat_eq}
use Rattle.std.proofs.lemmas.Bool.{le-ltb, eqb-true}
use Rattle.ipfix_template.specs.declared.template.Template.{Template}
use Rattle.ipfix_template.specs.Template.{refusal_of}
use Rattle.subscriber_stream.specs.Items.{Item, Announced, Brought, AreItemsKept, total, run}

-- an ID of 256 or more is as good as 256
pub accepted_under : (id : ℕ) (options : Bool) (t : Template) → 256 ≤ id → refusal_of 256 options t ≡ None → refusal_of id options t ≡ None
unfolding refusal_of
accepted_under id options t low is = rw (le-ltb id 256 low) is

-- the records that join a set are among what follows
pub run-total : (id : ℕ) (ws : List Item) → run id ws ≤ total (Some id) ws
run-total id [] = omega arith
run-total id (Announced other octets ∷ ws) = omega arith
run-total id (Brought other octets ∷ ws) = by_test (nat_eq id other) refl (run-total id ws) where
  by_test : (b : Bool) → nat_eq id other ≡ b → run id ws ≤ total (Some id) ws → run id (Brought other octets ∷ ws) ≤ total (Some id) (Brought other octets ∷ ws)
  by_test true is le =
      let h : run id ws ≤ total (Some other) ws = (let P : ℕ → Type 0 = λ n. run id ws ≤ total (Some n) ws in subst P (eqb-true id other is) le) in
      rw is (omega arith)
  by_test false is le = rw is (omega arith)

-- the first of them, and the others
pub kept_take : (shapes : List Template) (n : ℕ) (ws : List Item) → AreItemsKept shapes ws → AreItemsKept shapes (take n ws)
kept_take shapes zero ws all = tt
kept_take shapes (suc n) [] all = tt
kept_take shapes (suc n) (w ∷ ws) all = (all.0, kept_take shapes n ws all.1)

pub kept_append : (shapes : List Template) (vs ws : List Item) → AreItemsKept shapes vs → AreItemsKept shapes ws → AreItemsKept shapes (vs ++ ws)
kept_append shapes [] ws first second = second
kept_append shapes (v ∷ vs) ws first second = (first.0, kept_append shapes vs ws first.1 second)
