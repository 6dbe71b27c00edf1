-- What a writer holds that leaves writing to a thread.
use Rattle.std.specs.Prelude.{ℕ, List, Option, None, Some}
use Rattle.write_behind.specs.declared.state.State.{State}
use Rattle.write_behind.specs.declared.state.State.TheVariants.{Here, Behind, Stopped}
use Rattle.write_behind.specs.declared.write_behind.WriteBehind.{WriteBehind}

-- wherever the inner writer is: what it held, and behind it what was handed over
abbrev pub held_by : {W : Type 0} → (W → Option (List ℕ)) → State W → Option (List ℕ)
held_by contents (Here writer) = contents writer
held_by contents (Behind held) = held
held_by contents (Stopped held) = held

abbrev pub held_somewhere : {W : Type 0} → (W → Option (List ℕ)) → Option (State W) → Option (List ℕ)
held_somewhere contents None = None
held_somewhere contents (Some state) = held_by contents state

abbrev pub held_in : {W R : Type 0} → (W → Option (List ℕ)) → WriteBehind W R → Option (List ℕ)
held_in contents behind = held_somewhere contents behind.state
