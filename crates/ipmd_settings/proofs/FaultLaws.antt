-- The first key at fault, said of each key alone.
use Rattle.std.proofs.Common.{◌≡◌, ℕ, ◌≤◌, true, false, not, List, [], ◌∷◌, length, Option, Some, None, Result, Ok, Err, IfErr, is_some, find, refl, sym, subst}
use Rattle.sequences.specs.Results.{◌>>=◌}
use Rattle.toml.specs.Data.{Members}
use Rattle.toml.specs.Parse.{parse_document}
use Rattle.ipmd_settings.specs.declared.key.Key.{Key}
use Rattle.ipmd_settings.specs.declared.key.Key.TheVariants.{Exporters, Admin, Policy, Connections, Target, Workers, Queue, Shapes, Audit, JournalEntries, JournalOctets, Turns, Deliver, Journal, Runs, Idle, Reconnect, Hold, Drain, Endless}
use Rattle.ipmd_settings.specs.declared.fault.Fault.{Fault}
use Rattle.ipmd_settings.specs.declared.fault.Fault.TheVariants as fault
use Rattle.ipmd_settings.specs.declared.reading.TheConstants.{LONGEST_TEXT}
use Rattle.ipmd_settings.specs.Asked.{AskedService}
use Rattle.ipmd_settings.specs.Faults.{has, keys, lacking, IsSettingsFault}
use Rattle.ipmd_settings.specs.Reading.{limits_in, settings_in}
use Rattle.ipmd_settings.specs.Results.{GivesSet, value_at_key}
use Rattle.ipmd_settings.specs.Values.{text_in, text_or_none_in, setting_number, number_or_in, number_or_none_in, flag_or_false_in, collectors_in}
use Rattle.subscriber_stream.specs.declared.limits.TheConstants.{MOST_QUEUE, MOST_SHAPES}
use Rattle.disclosure_audit.specs.declared.audit.TheConstants.{MOST_ENTRIES as MOST_AUDITED}
use Rattle.event_journal.specs.declared.limits.TheConstants.{MOST_ENTRIES, MOST_OCTETS}
use Rattle.ipfix_octets.specs.MessageFormat.{header_octets, longest_message}

-- the fault is the first of these keys that a table lacks
pub record IsFirst (table : Members) (ks : List Key) (f : Fault) : Type 0 where
  pub key : Key
  pub fault_is : f ≡ fault.Key key
  pub first : find (λ k. not (has table k)) ks ≡ Some key

-- a reading of these keys, in their order, fails at the first that the table lacks
pub record Judges {B : Type 0} (table : Members) (ks : List Key) (read : Result B Fault) : Type 0 where
  pub judged : IfErr read (IsFirst table ks)

-- a key that is there is passed over
later : {B : Type 0} (table : Members) (k : Key) (ks : List Key) (read : Result B Fault) → has table k ≡ true → Judges table ks read → Judges table (k ∷ ks) read
later table k ks (Ok b) is judges = record { judged = tt }
later table k ks (Err f) is judges = record { judged = record { key = judges.judged.key; fault_is = judges.judged.fault_is; first = rw is judges.judged.first } }

-- a key that isn't is at fault
here : {B : Type 0} (table : Members) (k : Key) (ks : List Key) → has table k ≡ false → Judges {B = B} table (k ∷ ks) (Err (fault.Key k))
here table k ks is = record { judged = record { key = k; fault_is = refl; first = rw is refl } }

-- a key is read, and what comes after it judges the keys after it
step : {A B : Type 0} (table : Members) (k : Key) (ks : List Key) (o : Option A) (go : A → Result B Fault) → has table k ≡ is_some o → ((a : A) → Judges table ks (go a)) → Judges table (k ∷ ks) (value_at_key k o >>= go)
step table k ks None go is after = here table k ks is
step table k ks (Some a) go is after = later table k ks (go a) is (after a)

-- the same inside a part that is read for itself
step-within : {A B C : Type 0} (table : Members) (k : Key) (ks : List Key) (o : Option A) (go : A → Result B Fault) (on : B → Result C Fault) → has table k ≡ is_some o → ((a : A) → Judges table ks (go a >>= on))
    → Judges table (k ∷ ks) ((value_at_key k o >>= go) >>= on)
step-within table k ks None go on is after = here table k ks is
step-within table k ks (Some a) go on is after = later table k ks (go a >>= on) is (after a)

settings_in-judges : (table : Members) → Judges table keys (settings_in table)
unfolding settings_in limits_in
settings_in-judges table =
    step table Exporters _ (text_in Exporters table) _ refl (λ exporters.
    step table Admin _ (text_in Admin table) _ refl (λ admin.
    step table Policy _ (text_in Policy table) _ refl (λ policy.
    step table Connections _ (setting_number Connections 1 1000 table) _ refl (λ connections.
    step table Target _ (setting_number Target header_octets longest_message table) _ refl (λ target.
    step table Workers _ (setting_number Workers 1 64 table) _ refl (λ workers.
    step-within table Queue _ (setting_number Queue 1 MOST_QUEUE table) _ _ refl (λ queue.
    step-within table Shapes _ (setting_number Shapes 1 MOST_SHAPES table) _ _ refl (λ shapes.
    step-within table Audit _ (setting_number Audit 1 MOST_AUDITED table) _ _ refl (λ audit.
    step-within table JournalEntries _ (setting_number JournalEntries 1 MOST_ENTRIES table) _ _ refl (λ entries.
    step-within table JournalOctets _ (setting_number JournalOctets 1 MOST_OCTETS table) _ _ refl (λ octets.
    step table Turns _ (setting_number Turns 1 1000000000 table) _ refl (λ turns.
    step table Deliver _ (collectors_in Deliver table) _ refl (λ collectors.
    step table Journal _ (text_or_none_in Journal table) _ refl (λ journal.
    step table Runs _ (number_or_in Runs 1 1 1000 table) _ refl (λ runs.
    step table Idle _ (number_or_none_in Idle 1 86400 table) _ refl (λ idle.
    step table Reconnect _ (number_or_none_in Reconnect 1 3600 table) _ refl (λ reconnect.
    step table Hold _ (number_or_none_in Hold 1 60000 table) _ refl (λ hold.
    step table Drain _ (number_or_none_in Drain 1 86400 table) _ refl (λ drain.
    step table Endless [] (flag_or_false_in Endless table) _ refl (λ endless. record { judged = tt }))))))))))))))))))))

of_table : (text : List ℕ) (table : Members) (f : Fault) → length text ≤ LONGEST_TEXT → parse_document text ≡ Some table → settings_in table ≡ Err f → IsSettingsFault f text
of_table text table f short parsed fails = by_first f (subst (λ (r : Result AskedService Fault). Judges table keys r) fails (settings_in-judges table)).judged
  where
    by_key : (k : Key) → lacking table ≡ Some k → IsSettingsFault (fault.Key k) text
    by_key k first = (table, short, parsed, first)

    by_first : (f : Fault) → IsFirst table keys f → IsSettingsFault f text
    by_first f first = subst (λ (f : Fault). IsSettingsFault f text) (sym first.fault_is) (by_key first.key first.first)

-- what was returned at a fault, of a text that is not too long and is this table
pub returned-first : {X : Type 0} (view : X → AskedService) (text : List ℕ) (table : Members) (answer : Result X Fault) → length text ≤ LONGEST_TEXT → parse_document text ≡ Some table → GivesSet view answer (settings_in table) → IfErr answer (λ f. IsSettingsFault f text)
returned-first view text table (Ok x) short parsed gives = tt
returned-first view text table (Err fault.TooLong) short parsed gives = of_table text table fault.TooLong short parsed gives
returned-first view text table (Err fault.Toml) short parsed gives = of_table text table fault.Toml short parsed gives
returned-first view text table (Err (fault.Key k)) short parsed gives = of_table text table (fault.Key k) short parsed gives
returned-first view text table (Err fault.OutOfMemory) short parsed gives = short
