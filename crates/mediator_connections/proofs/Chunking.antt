-- A message that is written a chunk at a time.
use Rattle.std.proofs.Common.{◌≡◌, ℕ, ◌+◌, ◌≤◌, ◌<◌, ◌^◌, Bool, List, ◌++◌, length, take, drop, Option, sym, ap, ◌∙◌, subst, arith, length-append}
use Rattle.std.specs.Io.KnownBytes.{Appends}
use Rattle.std.proofs.KnownBytes.{Appends-trans, Appends-nil}
use Rattle.std.proofs.lemmas.List.{take-append-drop, take-append-le, take_all, length-take-le}
use Rattle.sequences.proofs.ListLaws.{take-add-append}
use Rattle.octet_io.specs.Written.{WritesFront}
use Rattle.mediator_connections.specs.declared.fault.Fault.{Fault}
use Rattle.mediator_connections.specs.declared.fault.Fault.TheVariants.{Write}
use Rattle.mediator_connections.specs.Delivering.{Sends, StopsSending}
use Rattle.mediator_connections.proofs.Sending.{front_behind}

-- the octets before this place were written
pub record IsChunking (message : List ℕ) (begun sent start : ℕ) (held holds : Option (List ℕ)) : Type 0 where
  pub within : start ≤ length message
  pub written : Appends held holds (take start message)
  pub counted : sent ≡ begun + start

pub chunking_starts : (message : List ℕ) (sent : ℕ) (held : Option (List ℕ)) → IsChunking message sent sent 0 held held
chunking_starts message sent held = record { within = omega arith; written = Appends-nil held; counted = omega arith }

-- a chunk stands before others
behind_chunk : (chunk rest : List ℕ) → chunk ≡ take (length chunk) rest → rest ≡ chunk ++ drop (length chunk) rest
behind_chunk chunk rest is = sym (take-append-drop (length chunk) rest) ∙ ap (λ c. c ++ drop (length chunk) rest) (sym is)

chunk_few : (chunk rest : List ℕ) → chunk ≡ take (length chunk) rest → length chunk ≤ length rest
chunk_few chunk rest is = omega (arith, ap length (behind_chunk chunk rest is), length-append chunk (drop (length chunk) rest))

both_parts : (start : ℕ) (message : List ℕ) → start ≤ length message → length message ≡ start + length (drop start message)
both_parts start message within =
    omega (arith, length-take-le start message within, ap length (take-append-drop start message), length-append (take start message) (drop start message))

pub chunk_fits : (message : List ℕ) (begun sent start : ℕ) (chunk : List ℕ) (held holds : Option (List ℕ)) → IsChunking message begun sent start held holds → chunk ≡ take (length chunk) (drop start message) → begun + length message < 2 ^ 64
    → sent + length chunk < 2 ^ 64
chunk_fits message begun sent start chunk held holds so is fits =
    omega (arith, fits, so.counted, so.within, chunk_few chunk (drop start message) is, both_parts start message so.within)

pub start_few : (message : List ℕ) (begun sent start : ℕ) (chunk : List ℕ) (held holds : Option (List ℕ)) → IsChunking message begun sent start held holds → chunk ≡ take (length chunk) (drop start message) → start + length chunk ≤ length message
start_few message begun sent start chunk held holds so is =
    omega (arith, so.within, chunk_few chunk (drop start message) is, both_parts start message so.within)

pub chunking_more : (message : List ℕ) (begun sent n start : ℕ) (chunk : List ℕ) (held holds writes : Option (List ℕ)) → IsChunking message begun sent start held holds → chunk ≡ take (length chunk) (drop start message) → Sends chunk sent n holds writes
    → IsChunking message begun n (start + length chunk) held writes
chunking_more message begun sent n start chunk held holds writes so is sends = record {
  within = start_few message begun sent start chunk held holds so is;
  written = subst (Appends held writes) (sym grows) (Appends-trans held holds writes (take start message) chunk so.written sends.written);
  counted = omega (arith, sends.counted, so.counted);
}
  where
    grows : take (start + length chunk) message ≡ take start message ++ chunk
    grows = ap (λ m. take (start + length chunk) m) (sym (take-append-drop start message))
        ∙ ap (λ n. take (n + length chunk) (take start message ++ drop start message)) (sym (length-take-le start message so.within))
        ∙ take-add-append (take start message) (drop start message) (length chunk) ∙ ap (λ c. take start message ++ c) (sym is)

pub chunking_ends : (message : List ℕ) (begun sent start : ℕ) (held holds : Option (List ℕ)) → IsChunking message begun sent start held holds → length message ≤ start → Sends message begun sent held holds
chunking_ends message begun sent start held holds so over = record {
  written = subst (Appends held holds) (take_all start message over) so.written;
  counted = omega (arith, so.counted, so.within, over);
}

pub chunking_stops : (f : Fault) (message : List ℕ) (begun sent start : ℕ) (chunk : List ℕ) (held holds writes : Option (List ℕ)) (failed : Bool) → IsChunking message begun sent start held holds → chunk ≡ take (length chunk) (drop start message)
    → StopsSending f chunk sent holds writes failed → StopsSending f message begun held writes failed
chunking_stops f message begun sent start chunk held holds writes failed so is stops = record {
  front = length (take start message) + stops.front;
  is = stops.is ∙ ap Write (omega (arith, so.counted, length-take-le start message so.within));
  inside = subst (λ m. WritesFront held writes m (length (take start message) + stops.front) failed) (take-append-drop start message)
      (front_behind (take start message) (drop start message) stops.front held holds writes failed so.written (subst (λ m. WritesFront holds writes m stops.front failed) (sym (behind_chunk chunk (drop start message) is)) longer));
}
  where
    rest : List ℕ
    rest = drop (length chunk) (drop start message)

    longer : WritesFront holds writes (chunk ++ rest) stops.front failed
    longer = record {
      short = omega (arith, stops.inside.short, length-append chunk rest);
      written = subst (Appends holds writes) (sym (take-append-le stops.front chunk rest (omega (arith, stops.inside.short)))) stops.inside.written;
      failed = stops.inside.failed;
    }
