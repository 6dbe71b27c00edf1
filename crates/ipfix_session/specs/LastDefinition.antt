-- The template in force in the standard's words: what the last item that decides on the ID defines, unless all templates of its
-- kind were withdrawn after it (RFC 7011, sections 8 and 8.1).
use Rattle.std.specs.Prelude.{◌≡◌, ◌≢◌, ℕ, Bool, false, ◌==◌, List, ◌∷◌, ◌++◌}
use Rattle.std.specs.List.{AllByRecursion}
use Rattle.ipfix_template.specs.declared.template.Template.{Template}
use Rattle.ipfix_template.specs.Template.{is_options}
use Rattle.ipfix_message.specs.declared.item.Item.{Item}
use Rattle.ipfix_message.specs.declared.item.Item.TheVariants.{Define, Withdraw, WithdrawAll, Refused, DataSet, Skipped}

-- an item that defines, refuses or singly withdraws the ID
abbrev pub decides : ℕ → Item → Bool
decides id (Define other t) = id == other
decides id (Refused other why) = id == other
decides id (Withdraw other) = id == other
decides id (WithdrawAll options) = false
decides id (DataSet other start len) = false
decides id (Skipped set) = false

-- an item that neither decides on the ID nor withdraws all templates of this kind
pub record LeavesAlone (id : ℕ) (options : Bool) (item : Item) : Type 0 where
  pub undecided : decides id item ≡ false
  pub stays : item ≢ WithdrawAll options

-- the last item that decides on the ID defines this template, and no withdrawal of all of its kind stands after it; newest first
pub record IsInForce (id : ℕ) (items : List Item) (t : Template) : Type 0 where
  pub newer : List Item
  pub older : List Item
  pub items_are : items ≡ newer ++ Define id t ∷ older
  pub alone : AllByRecursion (LeavesAlone id (is_options t)) newer
