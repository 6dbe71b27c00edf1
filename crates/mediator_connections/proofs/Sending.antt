-- Messages that are pulled and written one after another.
use Rattle.std.proofs.Common.{◌≡◌, ℕ, zero, suc, ◌+◌, ◌*◌, ◌≤◌, ◌<◌, ◌^◌, Bool, List, [], ◌∷◌, ◌++◌, length, take, drop, Option, Some, None, refl, sym, ap, ◌∙◌, subst, arith, append-nil, append_assoc, length-append, get_or}
use Rattle.std.specs.List.{AllByRecursion}
use Rattle.std.specs.Io.KnownBytes.{Appends}
use Rattle.std.proofs.KnownBytes.{Appends-trans, Appends-nil}
use Rattle.std.proofs.lemmas.List.{take-append-drop, take-append-le, take_more, take_all}
use Rattle.std.proofs.lemmas.List.Concat.{flat_map-append, flat_map-cons}
use Rattle.std.proofs.lemmas.Option.{same_Some}
use Rattle.sequences.proofs.ListLaws.{take-add-append}
use Rattle.octet_io.specs.Moments.{writer_of}
use Rattle.octet_io.specs.Written.{WritesFront}
use Rattle.ipfix_template.specs.DataRecord.{DataRecord}
use Rattle.subscriber_stream.specs.Parts.{Part, parts, records_of_parts}
use Rattle.subscriber_stream.specs.Message.{next_message, built}
use Rattle.stream_meaning.specs.Served.{AreStreamable}
use Rattle.stream_meaning.proofs.Tables.{empty, AreKnown, after_parts}
use Rattle.stream_meaning.proofs.Sets.{known_split}
use Rattle.stream_meaning.proofs.Steps.{run_fits}
use Rattle.stream_meaning.proofs.Listed.{parts_known}
use Rattle.mediator_history.proofs.HistoryLaws.{flat_map-push}
use Rattle.shared_mediator.specs.declared.handed.Handed.{Handed}
use Rattle.mediator_state.specs.declared.fault.Fault.{Fault as MediatorFault}
use Rattle.shared_mediator.specs.Locked.{Delivering}
use Rattle.shared_mediator.specs.Handles.{IsBuilt, KeepsSome, KeepsQueued, MayRefusePull}
use Rattle.mediator_connections.specs.declared.fault.Fault.{Fault}
use Rattle.mediator_connections.specs.declared.fault.Fault.TheVariants.{Write, Mediator}
use Rattle.mediator_connections.specs.Faults.{fails_writer}
use Rattle.mediator_connections.specs.Delivering.{handed_octets, IsDue, PullsSome, DeliversSome, StopsInsideMessages, FailsToDeliver, Sends, StopsSending}

-- ---- how long a message is

-- built of records that can be streamed, it is short
short_built : (records : List DataRecord) (now target p : ℕ) (m : List ℕ) → AreStreamable records → target < 2 ^ 16 → Some m ≡ built records p now target → length m < 65536
unfolding next_message
short_built records now target p m streamable below is = at (drop p (parts records)) refl
  where
    at : (ps : List Part) → drop p (parts records) ≡ ps → length m < 65536
    at [] e = absurd (nothing (is ∙ ap (next_message now target (length (records_of_parts (take p (parts records))))) e)) where
      nothing : Some m ≡ None → ⊥
      nothing x = absurd cc
    at (part ∷ ps) e = subst (λ x. length x < 65536) (same_Some _ m (sym (is ∙ ap (next_message now target (length (records_of_parts (take p (parts records))))) e)))
        (run_fits target now (length (records_of_parts (take p (parts records)))) (after_parts empty (take p (parts records))) part ps below known)
      where
        known : AreKnown (after_parts empty (take p (parts records))) (part ∷ ps)
        known = subst (AreKnown (after_parts empty (take p (parts records)))) e
            (known_split (take p (parts records)) (drop p (parts records)) empty (subst (AreKnown empty) (sym (take-append-drop p (parts records))) (parts_known records streamable))).1

-- ---- messages are pulled

all_due : (Shows : ℕ → Type 0) (now target : ℕ) (messages : List Handed) → Shows now → AllByRecursion (IsBuilt now target) messages → AllByRecursion (IsDue Shows target) messages
all_due Shows now target [] shown built = tt
all_due Shows now target (h ∷ messages) shown built = (record { now = now; shown = shown; built = built.0 }, all_due Shows now target messages shown built.1)

pub octets_more : (h : Handed) (messages : List Handed) → handed_octets (h ∷ messages) ≡ h.message ++ handed_octets messages
octets_more h messages = flat_map-cons (λ k. k.message) h messages

all_short : (now target : ℕ) (messages : List Handed) → target < 2 ^ 16 → AllByRecursion (IsBuilt now target) messages → length (handed_octets messages) ≤ length messages * 65535
all_short now target [] below built = omega arith
all_short now target (h ∷ messages) below built =
    let rest = all_short now target messages below built.1 in
    let one = short_built built.0.listed now target built.0.place h.message built.0.streamable below built.0.message in
    omega (arith, rest, one, ap length (octets_more h messages), length-append h.message (handed_octets messages))

-- messages that are due are kept behind the others
pub record Pulled (Shows : ℕ → Type 0) (target : ℕ) (old new : Delivering) (messages : List Handed) : Type 0 where
  pub due : AllByRecursion (IsDue Shows target) messages
  pub sub : new.sub ≡ old.sub
  pub kept : new.kept ≡ old.kept ++ messages
  pub short : length (handed_octets messages) ≤ length messages * 65535

pub pulled : (Shows : ℕ → Type 0) (now target : ℕ) (old new : Delivering) (messages : List Handed) → Shows now → target < 2 ^ 16 → KeepsSome old.kept now target messages new.kept → new.sub ≡ old.sub → Pulled Shows target old new messages
pulled Shows now target old new messages shown below k same = record {
  due = all_due Shows now target messages shown k.built;
  sub = same;
  kept = k.kept;
  short = all_short now target messages below k.built;
}

-- the messages that were pulled stand behind those that the handle had
pub pulled_queued : (Shows : ℕ → Type 0) (target : ℕ) (old new : Delivering) (messages : List Handed) → KeepsQueued Shows target 46 old new → target < 2 ^ 16 → messages ≡ drop (length old.kept) new.kept → Pulled Shows target old new messages
pulled_queued Shows target old new messages k below is = pulled Shows k.now target old new messages k.shown below (subst (λ ms. KeepsSome old.kept k.now target ms new.kept) (sym is) k.kept) k.sub

-- ---- messages one after another

all_pushed : {X : Type 0} (P : X → Type 0) (xs : List X) (x : X) → AllByRecursion P xs → P x → AllByRecursion P (xs ++ x ∷ [])
all_pushed P [] x all p = (p, tt)
all_pushed P (y ∷ xs) x all p = (all.0, all_pushed P xs x all.1 p)

pub sends_none : (Shows : ℕ → Type 0) (target : ℕ) (d : Delivering) (held : Option (List ℕ)) → DeliversSome Shows target 0 d d (writer_of held held)
sends_none Shows target d held = record {
  messages = [];
  pulls = record { sub = refl; kept = sym (append-nil d.kept); due = tt };
  written = Appends-nil held;
  counted = refl;
}

-- nothing was pulled
pub sends_same : (Shows : ℕ → Type 0) (target sent : ℕ) (old d e : Delivering) (held holds : Option (List ℕ)) → DeliversSome Shows target sent old d (writer_of held holds) → e.kept ≡ d.kept → e.sub ≡ d.sub → DeliversSome Shows target sent old e (writer_of held holds)
sends_same Shows target sent old d e held holds so kept sub = record {
  messages = so.messages;
  pulls = record { sub = sub ∙ so.pulls.sub; kept = kept ∙ so.pulls.kept; due = so.pulls.due };
  written = so.written;
  counted = so.counted;
}

-- some were pulled
all_behind : {X : Type 0} (P : X → Type 0) (xs ys : List X) → AllByRecursion P xs → AllByRecursion P ys → AllByRecursion P (xs ++ ys)
all_behind P [] ys all then = then
all_behind P (x ∷ xs) ys all then = (all.0, all_behind P xs ys all.1 then)

pulls_on : (Shows : ℕ → Type 0) (target : ℕ) (old d e : Delivering) (messages more : List Handed) → PullsSome Shows target old d messages → Pulled Shows target d e more → PullsSome Shows target old e (messages ++ more)
pulls_on Shows target old d e messages more so p = record {
  sub = p.sub ∙ so.sub;
  kept = p.kept ∙ ap (λ t. t ++ more) so.kept ∙ append_assoc old.kept messages more;
  due = all_behind (IsDue Shows target) messages more so.due p.due;
}

octets_joined : (messages more : List Handed) → handed_octets (messages ++ more) ≡ handed_octets messages ++ handed_octets more
octets_joined messages more = flat_map-append (λ k. k.message) messages more

-- and written
pub sends_on : (Shows : ℕ → Type 0) (target sent n : ℕ) (old d e : Delivering) (more : List Handed) (held holds writes : Option (List ℕ)) → DeliversSome Shows target sent old d (writer_of held holds) → Pulled Shows target d e more
    → Sends (handed_octets more) sent n holds writes → DeliversSome Shows target n old e (writer_of held writes)
sends_on Shows target sent n old d e more held holds writes so p sends = record {
  messages = so.messages ++ more;
  pulls = pulls_on Shows target old d e so.messages more so.pulls p;
  written = subst (Appends held writes) (sym (octets_joined so.messages more)) (Appends-trans held holds writes (handed_octets so.messages) (handed_octets more) so.written sends.written);
  counted = omega (arith, sends.counted, so.counted, ap length (octets_joined so.messages more), length-append (handed_octets so.messages) (handed_octets more));
}

-- ---- where it stops

-- behind octets that were written the writer failed inside others
pub front_behind : (before due : List ℕ) (front : ℕ) (held holds writes : Option (List ℕ)) (failed : Bool) → Appends held holds before → WritesFront holds writes due front failed
    → WritesFront held writes (before ++ due) (length before + front) failed
front_behind before due front held holds writes failed so stops = record {
  short = omega (arith, stops.short, length-append before due);
  written = subst (Appends held writes) (sym (take-add-append before due front)) (Appends-trans held holds writes before (take front due) so stops.written);
  failed = stops.failed;
}

-- inside the messages that were pulled at once
pub sends_inside : (f : Fault) (Shows : ℕ → Type 0) (target sent : ℕ) (old d e : Delivering) (more : List Handed) (held holds writes : Option (List ℕ)) (failed : Bool) → DeliversSome Shows target sent old d (writer_of held holds) → Pulled Shows target d e more
    → length more ≤ 46 → StopsSending f (handed_octets more) sent holds writes failed → FailsToDeliver f Shows target old e (writer_of held writes) failed
sends_inside f Shows target sent old d e more held holds writes failed so p few stops = rw stops.is inside
  where
    place : sent + stops.front ≡ length (handed_octets so.messages) + stops.front
    place = ap (λ n. n + stops.front) so.counted

    inside : StopsInsideMessages Shows target (sent + stops.front) old e (writer_of held writes) failed
    inside = record {
      messages = so.messages;
      last = more;
      few = few;
      pulls = pulls_on Shows target old d e so.messages more so.pulls p;
      written = subst (λ t. WritesFront held writes t (sent + stops.front) failed) (sym (octets_joined so.messages more))
          (subst (λ n. WritesFront held writes (handed_octets so.messages ++ handed_octets more) n failed) (sym place) (front_behind (handed_octets so.messages) (handed_octets more) stops.front held holds writes failed so.written stops.inside));
      whole = omega (arith, so.counted);
    }

pub inside_fails : (f : Fault) (octets : List ℕ) (sent : ℕ) (holds writes : Option (List ℕ)) (failed : Bool) → StopsSending f octets sent holds writes failed → failed ≡ fails_writer f
inside_fails f octets sent holds writes failed stops = rw stops.is (stops.inside.failed)

-- ---- messages are written one after another

-- the first so many messages were written
pub record IsSending (messages : List Handed) (begun sent place : ℕ) (held holds : Option (List ℕ)) : Type 0 where
  pub written : Appends held holds (handed_octets (take place messages))
  pub counted : sent ≡ begun + length (handed_octets (take place messages))

pub sending_starts : (messages : List Handed) (sent : ℕ) (held : Option (List ℕ)) → IsSending messages sent sent 0 held held
sending_starts messages sent held = record { written = Appends-nil held; counted = omega arith }

octets_split : (messages : List Handed) (place : ℕ) (h other : Handed) → place < length messages → h ≡ get_or messages place other
    → handed_octets messages ≡ handed_octets (take place messages) ++ (h.message ++ handed_octets (drop (suc place) messages))
octets_split [] place h other l at = absurd (omega arith)
octets_split (m ∷ messages) zero h other l at = octets_more m messages ∙ ap (λ (k : Handed). k.message ++ handed_octets messages) (sym at)
octets_split (m ∷ messages) (suc place) h other l at =
    octets_more m messages ∙ ap (λ t. m.message ++ t) (octets_split messages place h other (omega (arith, l)) at)
    ∙ sym (append_assoc m.message (handed_octets (take place messages)) (h.message ++ handed_octets (drop (suc place) messages)))
    ∙ ap (λ t. t ++ (h.message ++ handed_octets (drop (suc place) messages))) (sym (octets_more m (take place messages)))

pub sending_fits : (messages : List Handed) (begun sent place : ℕ) (h other : Handed) (held holds : Option (List ℕ)) → IsSending messages begun sent place held holds → place < length messages → h ≡ get_or messages place other
    → begun + length (handed_octets messages) < 2 ^ 64 → sent + length h.message < 2 ^ 64
sending_fits messages begun sent place h other held holds so l at fits =
    omega (
      arith,
      fits,
      so.counted,
      ap length (octets_split messages place h other l at),
      length-append (handed_octets (take place messages)) (h.message ++ handed_octets (drop (suc place) messages)),
      length-append h.message (handed_octets (drop (suc place) messages)),
    )

pub sending_more : (messages : List Handed) (begun sent n place : ℕ) (h other : Handed) (held holds writes : Option (List ℕ)) → IsSending messages begun sent place held holds → place < length messages → h ≡ get_or messages place other
    → Sends h.message sent n holds writes → IsSending messages begun n (place + 1) held writes
sending_more messages begun sent n place h other held holds writes so l at sends = record {
  written = subst (Appends held writes) (sym grows) (Appends-trans held holds writes (handed_octets (take place messages)) h.message so.written sends.written);
  counted = omega (arith, sends.counted, so.counted, ap length grows, length-append (handed_octets (take place messages)) h.message);
}
  where
    grows : handed_octets (take (place + 1) messages) ≡ handed_octets (take place messages) ++ h.message
    grows = ap handed_octets (take_more messages place other l ∙ ap (λ k. take place messages ++ k ∷ []) (sym at)) ∙ flat_map-push (λ k. k.message) (take place messages) h

-- so many were joined
pub joined_more : (messages : List Handed) (place : ℕ) (h other : Handed) (octets : List ℕ) → octets ≡ handed_octets (take place messages) → place < length messages → h ≡ get_or messages place other
    → octets ++ h.message ≡ handed_octets (take (place + 1) messages)
joined_more messages place h other octets so l at =
    ap (λ t. t ++ h.message) so ∙ sym (flat_map-push (λ (k : Handed). k.message) (take place messages) h)
    ∙ ap handed_octets (sym (take_more messages place other l ∙ ap (λ k. take place messages ++ k ∷ []) (sym at)))

pub sending_ends : (messages : List Handed) (begun sent place : ℕ) (held holds : Option (List ℕ)) → IsSending messages begun sent place held holds → length messages ≤ place → Sends (handed_octets messages) begun sent held holds
sending_ends messages begun sent place held holds so over = record {
  written = subst (λ ms. Appends held holds (handed_octets ms)) (take_all place messages over) so.written;
  counted = so.counted ∙ ap (λ ms. begun + length (handed_octets ms)) (take_all place messages over);
}

pub sending_stops : (f : Fault) (messages : List Handed) (begun sent place : ℕ) (h other : Handed) (held holds writes : Option (List ℕ)) (failed : Bool) → IsSending messages begun sent place held holds → place < length messages
    → h ≡ get_or messages place other → StopsSending f h.message sent holds writes failed → StopsSending f (handed_octets messages) begun held writes failed
sending_stops f messages begun sent place h other held holds writes failed so l at stops = record {
  front = length (handed_octets (take place messages)) + stops.front;
  is = stops.is ∙ ap Write (omega (arith, so.counted));
  inside = subst (λ t. WritesFront held writes t (length (handed_octets (take place messages)) + stops.front) failed) (sym (octets_split messages place h other l at))
      (front_behind (handed_octets (take place messages)) (h.message ++ handed_octets (drop (suc place) messages)) stops.front held holds writes failed so.written longer);
}
  where
    rest : List ℕ
    rest = handed_octets (drop (suc place) messages)

    longer : WritesFront holds writes (h.message ++ rest) stops.front failed
    longer = record {
      short = omega (arith, stops.inside.short, length-append h.message rest);
      written = subst (Appends holds writes) (sym (take-append-le stops.front h.message rest (omega (arith, stops.inside.short)))) stops.inside.written;
      failed = stops.inside.failed;
    }

-- a pull is refused
pub refused : (f : Fault) (why : MediatorFault) (Shows : ℕ → Type 0) (target sent : ℕ) (old d e : Delivering) (held holds : Option (List ℕ)) (failed : Bool) → f ≡ Mediator why → MayRefusePull why → e ≡ d → DeliversSome Shows target sent old d (writer_of held holds)
    → FailsToDeliver f Shows target old e (writer_of held holds) failed
refused f why Shows target sent old d e held holds failed is may same so = rw is ((sent, subst (λ x. DeliversSome Shows target sent old x (writer_of held holds)) (sym same) so), may)
