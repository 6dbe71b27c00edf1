-- What a pull hands out, and how many records stand in it.
use Rattle.std.specs.Prelude.{◌≡◌, ℕ, ◌+◌, ◌≤◌, ◌<◌, ◌^◌, true, List, length, take, drop, Option, Some, None, option_map}
use Rattle.subscriber_stream.specs.Parts.{parts, records_of_parts}
use Rattle.subscriber_stream.specs.Message.{parts_taken}
use Rattle.mediator_history.specs.Subscriptions.{is_live}
use Rattle.mediator_history.specs.Disclosed.{disclosed}
use Rattle.mediator_state.specs.declared.fault.Fault.{Fault as MediatorFault}
use Rattle.mediator_state.specs.declared.fault.Fault.TheVariants as fault
use Rattle.mediator_state.specs.Calls.{RefusesPull}
use Rattle.mediator_calls.specs.Mediation.{Mediation, place_at, waiting_at}
use Rattle.mediator_calls.specs.Calls.{Pulls}
use Rattle.shared_mediator.specs.declared.handed.Handed.{Handed}
use Rattle.shared_mediator.specs.Counted.{CountedMediation, Counts, handed_of}

-- how many records stand in a subscription's next message
abbrev pub records_next : Mediation → ℕ → ℕ → ℕ
records_next m sub target =
    length (records_of_parts (take (parts_taken (disclosed sub m.history) (place_at m sub) target) (drop (place_at m sub) (parts (disclosed sub m.history)))))

abbrev pub octets_of : Option Handed → Option (List ℕ)
octets_of answer = option_map (λ h. h.message) answer

abbrev pub handed_records : Option Handed → ℕ
handed_records None = 0
handed_records (Some h) = h.records

-- the count has room for all that waits for a subscription
abbrev pub HasCountRoom : CountedMediation → ℕ → Type 0
HasCountRoom c sub = handed_of c + waiting_at c.core sub < 2 ^ 64

-- the count has room; and the mediator's next message for the subscription, with the number of its records, which count as handed
-- from then on
pub record HandsOut (old : CountedMediation) (sub now target : ℕ) (answer : Option Handed) (new : CountedMediation) : Type 0 where
  pub room : HasCountRoom old sub
  pub pulls : Pulls old.core sub now target (octets_of answer) new.core
  pub records : handed_records answer ≡ records_next old.core sub target
  pub counts : Counts old 0 (handed_records answer) 0 new

-- the count has no room for all that waits for a live subscription; or the mediator's own refusal, and memory runs out only where the
-- count has room
abbrev pub RefusesHanding : MediatorFault → CountedMediation → ℕ → Type 0
RefusesHanding fault.HandedFull c sub = (is_live sub c.core.history ≡ true) × (2 ^ 64 ≤ handed_of c + waiting_at c.core sub)
RefusesHanding fault.OutOfMemory c sub = RefusesPull fault.OutOfMemory c.core.history sub × HasCountRoom c sub
RefusesHanding why c sub = RefusesPull why c.core.history sub
