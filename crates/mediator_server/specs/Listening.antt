-- What a server on sockets has done when it gives its mediator back.
use Rattle.std.specs.Prelude.{◌≡◌, ℕ, List, [], ◌∷◌, ◌++◌, map, string_bytes}
use Rattle.std.specs.List.{AllByRecursion}
use Rattle.event_journal.specs.declared.entry.Entry.{Entry}
use Rattle.event_journal.specs.declared.entry.Entry.TheVariants.{Edit, Subscribe}
use Rattle.shared_mediator.specs.declared.kept.KeptEntry.{KeptEntry}
use Rattle.shared_mediator.specs.Locked.{Exporting, Delivering}
use Rattle.shared_mediator.specs.Closing.{KeepsMessages, receipts_of, messages_accepted, records_handed, HasReceipts}
use Rattle.mediator_server.specs.declared.plan.RunPlan.{RunPlan}

-- the names of those to whom a plan delivers, in its order
abbrev pub names_in : RunPlan → List (List ℕ)
names_in plan = map (λ collector. string_bytes collector.subscriber) plan.deliver.items

-- the begins of subscriptions under these names, in this order
abbrev pub AreBegins : List (List ℕ) → List Entry → Type 0
AreBegins [] [] = Unit {0}
AreBegins [] (entry ∷ entries) = ⊥
AreBegins (name ∷ names) [] = ⊥
AreBegins (name ∷ names) (entry ∷ entries) = ((sub : ℕ) × (entry ≡ Subscribe sub name)) × AreBegins names entries

-- the edit by a plan's policy, and then the begin of a subscription for each to whom it delivers: these calls were made, and no other
pub record SetsUp (plan : RunPlan) (kept : List KeptEntry) : Type 0 where
  pub begins : List Entry
  pub entries : map (λ k. k.entry) kept ≡ Edit (string_bytes plan.policy) ∷ begins
  pub are : AreBegins (names_in plan) begins

-- an administrator of the plan's own set it up
pub record IsSetUp (plan : RunPlan) (admins : List (List KeptEntry)) : Type 0 where
  pub others : List (List KeptEntry)
  pub first : List KeptEntry
  pub admins_are : admins ≡ others ++ first ∷ []
  pub set_up : SetsUp plan first

-- the history went on, and each message, edit, begin and end of a subscription and advance of the clock in it since has the receipt of
-- one of the handles that served, one of which set the plan up; so many messages are among them, and so many records were handed out
pub record IsServed (plan : RunPlan) (before history : List Entry) (accepted handed : ℕ) : Type 0 where
  pub exporters : List Exporting
  pub deliveries : List Delivering
  pub admins : List (List KeptEntry)
  pub set_up : IsSetUp plan admins
  pub receipts : HasReceipts before history (receipts_of exporters admins)
  pub messages : AllByRecursion KeepsMessages exporters
  pub messages_counted : accepted ≡ messages_accepted exporters
  pub records_counted : handed ≡ records_handed deliveries
