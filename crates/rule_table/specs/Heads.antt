-- How many cuts are below an address, as far as its head says: the head of an address is its first bits, as a number.
use Rattle.std.specs.Prelude.{◌≡◌, ◌==◌, ◌<◌, ◌≤◌, ◌+◌, ◌-◌, ◌*◌, ◌/◌, ◌%◌, ◌^◌, ℕ, List, length, slice_index, Option, Some, None, if◌then◌else◌}
use Rattle.rule_table.specs.declared.heads.Heads.{Heads}
use Rattle.rule_table.specs.Classes.{class_of}

-- an entry has, twice, how many cuts are below the first of the `unit` addresses with a head; and one more where no more are below the last
pub record IsStart (cuts : List ℕ) (unit head entry : ℕ) : Type 0 where
  pub first : entry / 2 ≡ class_of cuts (head * unit)
  pub sure : entry % 2 ≡ 1 → class_of cuts (head * unit + (unit - 1)) ≡ entry / 2

-- an entry for each head, and one behind them for the last address of all
pub record AreStarts (cuts : List ℕ) (heads unit : ℕ) (starts : List ℕ) : Type 0 where
  pub count : length starts ≡ heads + 1
  pub each : (head : ℕ) → head < heads → IsStart cuts unit head (slice_index starts head)
  pub last : (address : ℕ) → address < heads * unit → class_of cuts address ≤ slice_index starts heads / 2

-- the class that an entry knows of all addresses with its head
abbrev pub sure_class : ℕ → Option ℕ
sure_class entry = if entry % 2 == 1 then Some (entry / 2) else None

-- the class of an address lies between the halves of the entry for its head and of the next one; where the entry is odd, it is its half
pub record IsBetween (cuts : List ℕ) (address entry next : ℕ) : Type 0 where
  pub least : entry / 2 ≤ class_of cuts address
  pub most : class_of cuts address ≤ next / 2
  pub sure : entry % 2 ≡ 1 → class_of cuts address ≡ entry / 2

-- what they say of an address
pub record SayOf (cuts : List ℕ) (heads : Heads) (address : ℕ) : Type 0 where
  pub within : address / 2 ^ heads.shift + 1 < length heads.starts.items
  pub between : IsBetween cuts address (slice_index heads.starts.items (address / 2 ^ heads.shift)) (slice_index heads.starts.items (address / 2 ^ heads.shift + 1))

-- they are for the addresses of `width` bits
pub record AreHeads (cuts : List ℕ) (width : ℕ) (heads : Heads) : Type 0 where
  pub shift : heads.shift < width
  pub each : (address : ℕ) → address < 2 ^ width → SayOf cuts heads address
