-- What a holder of a stream keeps of the messages that it pulled.
use Rattle.std.specs.Prelude.{◌≡◌, ℕ, List}
use Rattle.ipfix_template.specs.DataRecord.{DataRecord}
use Rattle.subscriber_stream.specs.Calls.{Call}
use Rattle.stream_meaning.specs.Served.{AreInRange, records_given, messages_got, place_reached}

-- the messages are all that calls got from a new stream; they gave it these records, and reached this place of their parts
pub record AreHandedOut (messages : List (List ℕ)) (records : List DataRecord) (p : ℕ) : Type 0 where
  pub calls : List Call
  pub ranges : AreInRange calls
  pub given : records_given calls ≡ records
  pub got : messages_got calls ≡ messages
  pub reached : place_reached calls ≡ p
