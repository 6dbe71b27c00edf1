-- How what stands one after another is read, item by item.
use Rattle.std.proofs.Common.{◌≡◌, ℕ, Bool, true, false, eqb, List, ◌++◌, length, Option, Some, None, Result, Ok, Err, MatchBool, refl, sym, ap, ◌∙◌}
use Rattle.std.proofs.lemmas.List.{append-nil}
use Rattle.sequences.proofs.SequenceLaws.{with_front-append, read_all-step}
use Rattle.ipfix_template.specs.Sequence.{Front, End, Fault, Next, with_front, read_on, read_all, TakesSome}
use Rattle.ipfix_message.specs.declared.header.Header.{Header}
use Rattle.ipfix_message.specs.declared.fault.Fault.{Fault as DecodeError}
use Rattle.ipfix_message.specs.declared.item.Item.{Item}
use Rattle.ipfix_message.specs.Reading.{FailsDecoding, is_memory, set_front}
use Rattle.std.specs.Borrow.{Bor}
use Rattle.ipfix_message.specs.Shows.{IsFaultIn, ShowsFront}

abbrev Reading : Type 0
Reading = Result (List Item) DecodeError

-- some items more
pub some_more : (front : List ℕ → Front Item DecodeError) → TakesSome front → (before added : List Item) (rest after : List ℕ) (whole : Reading) → front rest ≡ Next added after → with_front before (read_all front rest) ≡ whole → with_front (before ++ added) (read_all front after) ≡ whole
some_more front takes before added rest after whole at e =
    with_front-append before added (read_all front after)
    ∙ ap (with_front before) (sym (read_all-step front takes rest ∙ ap (λ f. read_on f (read_all front)) at)) ∙ e

-- what was read, as a result
abbrev pub read_items : List Item → Reading
read_items items = Ok items

abbrev pub read_head : Header → Result Header DecodeError
read_head h = Ok h

-- nothing more
pub no_more : (front : List ℕ → Front Item DecodeError) → TakesSome front → (before : List Item) (rest : List ℕ) (whole : Reading) → front rest ≡ End → with_front before (read_all front rest) ≡ whole → whole ≡ Ok before
no_more front takes before rest whole at e =
    sym e ∙ ap (with_front before) (read_all-step front takes rest ∙ ap (λ f. read_on f (read_all front)) at) ∙ ap read_items (append-nil before)

-- a fault
fault_is : (front : List ℕ → Front Item DecodeError) → TakesSome front → (before : List Item) (rest : List ℕ) (whole : Reading) (fault : DecodeError) → front rest ≡ Fault fault → with_front before (read_all front rest) ≡ whole → whole ≡ Err fault
fault_is front takes before rest whole fault at e =
    sym e ∙ ap (with_front before) (read_all-step front takes rest ∙ ap (λ f. read_on f (read_all front)) at)

pub faulty : (front : List ℕ → Front Item DecodeError) → TakesSome front → (before : List Item) (rest : List ℕ) (whole : Reading) (fault : DecodeError) → IsFaultIn fault (front rest) → with_front before (read_all front rest) ≡ whole → FailsDecoding fault whole
faulty front takes before rest whole fault at e = by_test (is_memory fault) at
  where
    by_test : (b : Bool) → MatchBool b (Unit {0}) (front rest ≡ Fault fault) → MatchBool b (Unit {0}) (whole ≡ Err fault)
    by_test true at = tt
    by_test false at = fault_is front takes before rest whole fault at e

-- no item at the front
pub front_ends : (found : Option (Item × Bor (List ℕ))) (front : Front Item DecodeError) → ((x : Item × Bor (List ℕ)) → found ≡ Some x → ⊥) → ShowsFront (Ok found) front → front ≡ End
front_ends None front other shown = shown
front_ends (Some x) front other shown = absurd (other x refl)

-- no set is left
pub set_ends : (total : ℕ) (rest : List ℕ) → eqb (length rest) 0 ≡ true → set_front total rest ≡ End
unfolding set_front
set_ends total rest none = rw none refl
