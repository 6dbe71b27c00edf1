-- What the writer's thread does with the octets that come through the ring.
use Rattle.std.specs.Prelude.{ℕ, List, Option, drop}
use Rattle.std.specs.Io.KnownBytes.{Appends, append_known}
use Rattle.rtrb.specs.Ring.{received, SameConsumer}
use Rattle.write_behind.specs.declared.thread.Ended.{Ended}
use Rattle.write_behind.specs.declared.thread.Owed.{Owed}

module _ {W : Type 0} where
  -- what the writer didn't take of the octets that were taken out of the ring
  abbrev pub left_of : Ended W → List ℕ
  left_of ended = drop ended.sent ended.piece.items

  -- the same end of the ring comes back, and the writer: all that came through the ring stands behind what it held, but for what it
  -- didn't take
  pub record GivesBack (contents : W → Option (List ℕ)) (owed : Owed W) (ended : Ended W) : Type 0 where
    pub ring : SameConsumer owed.ring.value ended.ring
    pub passed : Appends (contents owed.writer.value) (append_known (contents ended.writer) (left_of ended)) (received ended.ring)
