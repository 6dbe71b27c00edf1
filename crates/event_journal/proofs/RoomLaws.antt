-- How room is used up, one entry after another.
use Rattle.std.proofs.Common.{◌≡◌, ℕ, ◌+◌, List, [], ◌∷◌, subst, arith}
use Rattle.std.proofs.lemmas.List.Elements.{All-nil, All-cons, All-head, All-tail}
use Rattle.std.proofs.lemmas.List.Sums.{sum_by-append, sum_by-cons}
use Rattle.event_journal.specs.declared.entry.Entry.{Entry}
use Rattle.event_journal.specs.Sizes.{entry_octets}
use Rattle.event_journal.specs.Spelled.{IsSpelled}
use Rattle.event_journal.specs.Room.{JournalLimits, HasRoom}
use Rattle.event_journal.specs.Laws.{OctetsAddUp, RoomInTurn}

pub octets_add_up : OctetsAddUp
octets_add_up h more = sum_by-append entry_octets h more

-- room for some is room for the first
pub room_for_first : (limits : JournalLimits) (count octets : ℕ) (first : Entry) (others : List Entry) → HasRoom limits count octets (first ∷ others) → HasRoom limits count octets (first ∷ [])
room_for_first limits count octets first others r = record {
  entries_fit = omega (arith, r.entries_fit);
  octets_fit = omega (arith, sum_by-cons entry_octets first others, sum_by-cons entry_octets first [], r.octets_fit);
  spelled = All-cons IsSpelled first [] (All-head IsSpelled first others r.spelled) (All-nil IsSpelled);
}

pub room_for_next : (limits : JournalLimits) (count octets : ℕ) (left : List Entry) (first : Entry) (others : List Entry) → left ≡ first ∷ others → HasRoom limits count octets left → HasRoom limits count octets (first ∷ [])
room_for_next limits count octets left first others e r = let P : List Entry → Type 0 = HasRoom limits count octets in room_for_first limits count octets first others (subst P e r)

-- and behind the first for the others
pub room_for_others : (limits : JournalLimits) (count octets : ℕ) (first : Entry) (others : List Entry) → HasRoom limits count octets (first ∷ others) → HasRoom limits (count + 1) (octets + entry_octets first) others
room_for_others limits count octets first others r = record {
  entries_fit = omega (arith, r.entries_fit);
  octets_fit = omega (arith, sum_by-cons entry_octets first others, r.octets_fit);
  spelled = All-tail IsSpelled first others r.spelled;
}

-- room for the first, and behind it for the others, is room for all
pub room_for_all : (limits : JournalLimits) (count octets : ℕ) (first : Entry) (others : List Entry) → HasRoom limits count octets (first ∷ []) → HasRoom limits (count + 1) (octets + entry_octets first) others → HasRoom limits count octets (first ∷ others)
room_for_all limits count octets first others f r = record {
  entries_fit = omega (arith, r.entries_fit);
  octets_fit = omega (arith, sum_by-cons entry_octets first others, r.octets_fit);
  spelled = All-cons IsSpelled first others (All-head IsSpelled first [] f.spelled) r.spelled;
}

pub room_in_turn : RoomInTurn
room_in_turn limits count octets first others =
    (λ r. (room_for_first limits count octets first others r, room_for_others limits count octets first others r), λ p. room_for_all limits count octets first others p.0 p.1)
