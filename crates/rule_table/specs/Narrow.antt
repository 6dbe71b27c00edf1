-- Cuts among the addresses of IPv4, by blocks of 16.
use Rattle.std.specs.Prelude.{◌≡◌, ◌⊎◌, ◌<◌, ◌≤◌, ◌+◌, ◌*◌, ◌^◌, ℕ, List, length, slice_index}
use Rattle.std.specs.List.Sorted.{IsNonDecreasing}
use Rattle.rule_table.specs.Cuts.{AreCuts, most_cuts}
use Rattle.rule_table.specs.Classes.{class_of}
use Rattle.rule_table.specs.declared.heads.Heads.{Heads}
use Rattle.rule_table.specs.Heads.{AreHeads}

-- an address of IPv4 has as many of these below it as of the cuts
abbrev pub AreNarrowed : List ℕ → List ℕ → Type 0
AreNarrowed cuts narrow = (address : ℕ) → address < 2 ^ 32 → class_of narrow address ≡ class_of cuts address

-- the cuts, and beside them those among the addresses of IPv4, and how many are below the addresses of IPv6 with each head
pub record AreKeptCuts (cuts narrow : List ℕ) (heads : Heads) : Type 0 where
  pub sound : AreCuts cuts
  pub below : AreNarrowed cuts narrow
  pub by_head : AreHeads cuts 128 heads

-- one block, or whole blocks of blocks
abbrev pub AreBlocks : ℕ → Type 0
AreBlocks count = (count ≡ 16) ⊎ ((n : ℕ) × (0 < n) × (count ≡ 256 * n))

-- each 16th of the cuts, from the first on
pub record AreTops (cuts tops : List ℕ) : Type 0 where
  pub all : 16 * length tops ≤ length cuts
  pub few : length cuts < 16 * length tops + 16
  pub each : (k : ℕ) → k < length tops → slice_index tops k ≡ slice_index cuts (16 * k)

pub record AreNarrow (cuts tops summits : List ℕ) : Type 0 where
  pub ascending : IsNonDecreasing cuts
  pub few : length cuts ≤ most_cuts
  pub whole : AreBlocks (length cuts)
  pub each_top : AreTops cuts tops
  pub each_summit : AreTops tops summits

-- and how many are below the addresses with each head
pub record AreNarrowBy (heads : Heads) (cuts tops summits : List ℕ) : Type 0 where
  pub blocks : AreNarrow cuts tops summits
  pub by_head : AreHeads cuts 32 heads

-- the cuts before this block are below the address, and those behind it are not
pub record IsBlock (cuts : List ℕ) (address from : ℕ) : Type 0 where
  pub within : from + 16 ≤ length cuts
  pub before : (k : ℕ) → k < from → slice_index cuts k < address
  pub behind : (k : ℕ) → from + 16 ≤ k → k < length cuts → address ≤ slice_index cuts k
