-- What a delivery's handle lends of what it pulled, and what it keeps.
use Rattle.std.specs.Prelude.{◌≡◌, ℕ, List, Option, Result, IfOk, OnErr, ⊤}
use Rattle.std.specs.Option.{option_copied}
use Rattle.std.specs.Borrow.{Bor, MutBor, Fml}
use mathlib.Core.Option.{none}
use denote.RattleType.{RattleType}
use denote.Follow.{follows_so}
use Rattle.shared_mediator.specs.declared.handed.Handed.{Handed}
use Rattle.mediator_state.specs.declared.fault.Fault.{Fault as MediatorFault}
use Rattle.shared_mediator.specs.Locked.{Delivering}
use Rattle.shared_mediator.specs.Handles.{KeepsHanded, KeepsSome}

-- a value of this type, of which something is lent, is left so
abbrev pub Leaves : (row : RattleType) → MutBor row.Denot → (row.Denot → Type 0) → Fml
Leaves row lender IsLeft = follows_so row row lender.ghost_name none (λ _ _. ⊤) IsLeft

-- the message that is lent, if any, is the last one that is kept from then on; a refusal changes nothing
pub record LendsHanded (now target : ℕ) (old : Delivering) (result : Result (Option (Bor Handed)) MediatorFault) (new : Delivering) : Type 0 where
  pub kept : IfOk result (λ message. KeepsHanded old.kept now target (option_copied message) new.kept)
  pub sub : new.sub ≡ old.sub
  pub unchanged : OnErr result (new ≡ old)

-- the messages that are lent are those that are kept from then on behind the others; a refusal changes nothing
pub record LendsSome (now target : ℕ) (old : Delivering) (result : Result (Bor (List Handed)) MediatorFault) (new : Delivering) : Type 0 where
  pub kept : IfOk result (λ messages. KeepsSome old.kept now target messages.now new.kept)
  pub sub : new.sub ≡ old.sub
  pub unchanged : OnErr result (new ≡ old)
