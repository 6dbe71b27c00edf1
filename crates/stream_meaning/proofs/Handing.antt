-- Runs of calls, one behind another.
use Rattle.std.proofs.Common.{◌≡◌, ℕ, suc, ◌+◌, ◌<◌, ◌≤◌, ◌^◌, List, [], ◌∷◌, ◌++◌, length, take, drop, Option, Some, None, refl, sym, ap, subst, ◌∙◌, append_assoc, append-nil, arith, length-take, length-drop}
use Rattle.std.specs.List.{AllByRecursion}
use Rattle.std.proofs.lemmas.List.{take-append-drop, take_at, take_all}
use Rattle.sequences.specs.Before.{each_after, each_with_before}
use Rattle.ipfix_template.specs.DataRecord.{DataRecord}
use Rattle.subscriber_stream.specs.Parts.{parts, records_of_parts}
use Rattle.subscriber_stream.specs.Message.{run_length, built, place_after}
use Rattle.subscriber_stream.specs.declared.limits.StreamLimits.{StreamLimits}
use Rattle.subscriber_stream.specs.Shapes.{shapes_of}
use Rattle.subscriber_stream.specs.Standing.{StreamStanding, StandsAt, FitsLimits}
use Rattle.subscriber_stream.specs.Calls.{Call, Given, Pulled, Pull, pulls_of, octets_from, ServesCalls}
use Rattle.subscriber_stream.proofs.CallLaws.{served, parts_bring, run_some}
use Rattle.subscriber_stream.proofs.Standings.{records_in-append}
use Rattle.sequences.proofs.ListLaws.{AllByRecursion-append}
use Rattle.stream_meaning.specs.Served.{IsStreamable, AreStreamable, AreInRange, records_given, messages_in, messages_got, pull_at, place_from, place_reached, pulls, IsInRange}
use Rattle.stream_meaning.specs.Means.{Means}
use Rattle.stream_meaning.specs.HandedOut.{AreHandedOut}
use Rattle.stream_meaning.proofs.Runs.{got, means_so_far, means_all}
use Rattle.subscriber_stream.specs.declared.limits.TheConstants.{MOST_SHAPES}

-- ---- what calls behind others give

abbrev Answers : Type 0
Answers = List (Option (List ℕ))

given_append : (calls others : List Call) → records_given (calls ++ others) ≡ records_given calls ++ records_given others
given_append [] others = refl
given_append (Given more ∷ calls) others =
    ap (λ (rs : List DataRecord). more ++ rs) (given_append calls others) ∙ sym (append_assoc more (records_given calls) (records_given others))
given_append (Pulled now target ∷ calls) others = given_append calls others

pulls_append : (calls others : List Call) (records : List DataRecord) → pulls_of records (calls ++ others) ≡ pulls_of records calls ++ pulls_of (records ++ records_given calls) others
pulls_append [] others records = ap (λ (rs : List DataRecord). pulls_of rs others) (sym (append-nil records))
pulls_append (Given more ∷ calls) others records =
    pulls_append calls others (records ++ more) ∙ ap (λ (rs : List DataRecord). pulls_of (records ++ more) calls ++ pulls_of rs others) (append_assoc records more (records_given calls))
pulls_append (Pulled now target ∷ calls) others records =
    let first : Pull = record { now = now; target = target; records = records } in
    ap (λ (ps : List Pull). first ∷ ps) (pulls_append calls others records)

-- the pulls among calls behind others, each with what all calls before it give
pulls_behind : (before calls : List Call) → pulls_of (records_given before) calls ≡ each_after pull_at before calls
pulls_behind before [] = refl
pulls_behind before (Given more ∷ calls) =
    let given : records_given before ++ more ≡ records_given (before ++ Given more ∷ []) = ap (λ (rs : List DataRecord). records_given before ++ rs) (sym (append-nil more)) ∙ sym (given_append before (Given more ∷ [])) in
    ap (λ (rs : List DataRecord). pulls_of rs calls) given ∙ pulls_behind (before ++ Given more ∷ []) calls
pulls_behind before (Pulled now target ∷ calls) =
    let pull : Pull = record { now = now; target = target; records = records_given before } in
    let given : records_given before ≡ records_given (before ++ Pulled now target ∷ []) = sym (append-nil (records_given before)) ∙ sym (given_append before (Pulled now target ∷ [])) in
    ap (λ (ps : List Pull). pull ∷ ps) (ap (λ (rs : List DataRecord). pulls_of rs calls) given ∙ pulls_behind (before ++ Pulled now target ∷ []) calls)

pub pulls_see : (calls : List Call) → pulls_of [] calls ≡ each_with_before pull_at calls
pulls_see calls = pulls_behind [] calls

place_append : (xs ys : List Pull) (p : ℕ) → place_from p (xs ++ ys) ≡ place_from (place_from p xs) ys
place_append [] ys p = refl
place_append (pull ∷ xs) ys p = place_append xs ys (place_after pull.records p pull.target)

octets_append : (xs ys : List Pull) (p : ℕ) → octets_from p (xs ++ ys) ≡ octets_from p xs ++ octets_from (place_from p xs) ys
octets_append [] ys p = refl
octets_append (pull ∷ xs) ys p =
    ap (λ (answers : Answers). built pull.records p pull.now pull.target ∷ answers) (octets_append xs ys (place_after pull.records p pull.target))

messages_append : (xs ys : Answers) → messages_in (xs ++ ys) ≡ messages_in xs ++ messages_in ys
messages_append [] ys = refl
messages_append (None ∷ xs) ys = messages_append xs ys
messages_append (Some m ∷ xs) ys = ap (λ (ms : List (List ℕ)). m ∷ ms) (messages_append xs ys)

ranges_front : (calls others : List Call) → AreInRange (calls ++ others) → AreInRange calls
ranges_front [] others all = tt
ranges_front (call ∷ calls) others all = (all.0, ranges_front calls others all.1)

reached_append : (calls others : List Call) → place_reached (calls ++ others) ≡ place_from (place_reached calls) (pulls_of (records_given calls) others)
reached_append calls others =
    ap (place_from 0) (pulls_append calls others []) ∙ place_append (pulls_of [] calls) (pulls_of (records_given calls) others) 0

got_append : (calls others : List Call) → messages_got (calls ++ others) ≡ messages_got calls ++ messages_in (octets_from (place_reached calls) (pulls_of (records_given calls) others))
got_append calls others =
    ap (λ (ps : List Pull). messages_in (octets_from 0 ps)) (pulls_append calls others [])
    ∙ ap messages_in (octets_append (pulls_of [] calls) (pulls_of (records_given calls) others) 0)
    ∙ messages_append (octets_from 0 (pulls_of [] calls)) (octets_from (place_reached calls) (pulls_of (records_given calls) others))

-- ---- what a holder of a stream keeps

pub none_handed_out : AreHandedOut [] [] 0
none_handed_out = record { calls = []; ranges = tt; given = refl; got = refl; reached = refl }

pub handed_given : (messages : List (List ℕ)) (records more : List DataRecord) (p : ℕ) → AreHandedOut messages records p → AreHandedOut messages (records ++ more) p
handed_given messages records more p are =
    let last = Given more ∷ [] in
    record {
      calls = are.calls ++ last;
      ranges = AllByRecursion-append IsInRange are.calls last are.ranges (tt, tt);
      given = given_append are.calls last ∙ ap (λ (rs : List DataRecord). records_given are.calls ++ rs) (append-nil more) ∙ ap (λ (rs : List DataRecord). rs ++ more) are.given;
      got = got_append are.calls last ∙ append-nil (messages_got are.calls) ∙ are.got;
      reached = reached_append are.calls last ∙ are.reached;
    }

-- messages with the message of an answer, where it is one
abbrev with_answer : List (List ℕ) → Option (List ℕ) → List (List ℕ)
with_answer messages answer = messages ++ messages_in (answer ∷ [])

pub handed_answer : (messages : List (List ℕ)) (answer : Option (List ℕ)) (records : List DataRecord) (p now target : ℕ) → now < 2 ^ 32 → target < 2 ^ 16 → AreHandedOut messages records p → answer ≡ built records p now target → AreHandedOut (with_answer messages answer) records (place_after records p target)
handed_answer messages answer records p now target time below are is =
    let last = Pulled now target ∷ [] in
    let here : built (records_given are.calls) (place_reached are.calls) now target ≡ answer = ap (λ (rs : List DataRecord). built rs (place_reached are.calls) now target) are.given ∙ ap (λ (q : ℕ). built records q now target) are.reached ∙ sym is in
    record {
      calls = are.calls ++ last;
      ranges = AllByRecursion-append IsInRange are.calls last are.ranges ((time, below), tt);
      given = given_append are.calls last ∙ append-nil (records_given are.calls) ∙ are.given;
      got = got_append are.calls last
          ∙ ap (λ (o : Option (List ℕ)). messages_got are.calls ++ messages_in (o ∷ [])) here
          ∙ ap (λ (ms : List (List ℕ)). with_answer ms answer) are.got;
      reached = reached_append are.calls last ∙ ap (λ (rs : List DataRecord). place_after rs (place_reached are.calls) target) are.given ∙ ap (λ (q : ℕ). place_after records q target) are.reached;
    }

-- ---- which records may be streamed

no_shapes : length (shapes_of []) ≤ MOST_SHAPES
unfolding shapes_of
no_shapes = omega arith

pub none_streamable : AreStreamable []
none_streamable = record { each = tt; shapes = no_shapes }

pub streamable_more : (limits : StreamLimits) (records more : List DataRecord) (p : ℕ) → AreStreamable records → AllByRecursion IsStreamable more → FitsLimits limits records p more → limits.shapes ≤ MOST_SHAPES → AreStreamable (records ++ more)
streamable_more limits records more p may each fits few = record { each = AllByRecursion-append IsStreamable records more may.each each; shapes = omega (arith, fits.shapes, few) }

-- ---- what is known of the messages

pub handed_means : (messages : List (List ℕ)) (records : List DataRecord) (p : ℕ) → AreHandedOut messages records p → AreStreamable records → Means messages (records_of_parts (take p (parts records)))
handed_means messages records p are may =
    let S : List DataRecord → Type 0 = λ rs. AreStreamable rs in
    let so_far = means_so_far are.calls (subst S (sym are.given) may) are.ranges in
    let M : List (List ℕ) → Type 0 = λ ms. Means ms (records_of_parts (take (place_reached are.calls) (parts (records_given are.calls)))) in
    let L : List DataRecord → Type 0 = λ rs. Means messages rs in
    subst L (ap (λ (rs : List DataRecord). records_of_parts (take (place_reached are.calls) (parts rs))) are.given ∙ ap (λ (q : ℕ). records_of_parts (take q (parts records))) are.reached) (subst M are.got so_far)

pub handed_whole : (messages : List (List ℕ)) (records : List DataRecord) (p now target : ℕ) → AreHandedOut messages records p → AreStreamable records → built records p now target ≡ None → Means messages records
handed_whole messages records p now target are may end =
    let S : List DataRecord → Type 0 = λ rs. AreStreamable rs in
    let here : built (records_given are.calls) (place_reached are.calls) now target ≡ None = ap (λ (rs : List DataRecord). built rs (place_reached are.calls) now target) are.given ∙ ap (λ (q : ℕ). built records q now target) are.reached ∙ end in
    let all = means_all are.calls now target (subst S (sym are.given) may) are.ranges here in
    let M : List (List ℕ) → Type 0 = λ ms. Means ms (records_given are.calls) in
    let L : List DataRecord → Type 0 = λ rs. Means messages rs in
    subst L are.given (subst M are.got all)

-- what stands before a place is the first of the list
pub first_of : (s : StreamStanding) (records : List DataRecord) (p : ℕ) → StandsAt s records p → records_of_parts (take p (parts records)) ≡ take s.handed records
first_of s records p at =
    let front = records_of_parts (take p (parts records)) in
    let rest = records_of_parts (drop p (parts records)) in
    let whole : records ≡ front ++ rest = sym (parts_bring records) ∙ ap records_of_parts (sym (take-append-drop p (parts records))) ∙ records_in-append (take p (parts records)) (drop p (parts records)) in
    sym (ap (take s.handed) whole ∙ take_at front rest s.handed (sym at.handed))

-- ---- the answers of a stream

pub answers_mean : (s : StreamStanding) (calls : List Call) (answers : Answers) → StandsAt s [] 0 → ServesCalls s calls answers → AreStreamable (records_given calls) → AreInRange calls → Means (messages_in answers) (records_of_parts (take (place_reached calls) (parts (records_given calls))))
answers_mean s calls answers at serves may ranges =
    let M : Answers → Type 0 = λ os. Means (messages_in os) (records_of_parts (take (place_reached calls) (parts (records_given calls)))) in
    subst M (sym (served s [] 0 calls answers at serves)) (means_so_far calls may ranges)

-- ---- enough pulls reach the end

-- a pull goes on, and not past the end
goes_on : (records : List DataRecord) (p target left : ℕ) → p ≤ length (parts records) → length (parts records) ≤ p + suc left → (place_after records p target ≤ length (parts records)) × (length (parts records) ≤ place_after records p target + left)
goes_on records p target left le enough =
    let waiting = drop p (parts records) in
    let n = run_length target waiting in
    let some = run_some target waiting in
    let len = length-take n waiting in
    let rest = length-drop p (parts records) in
    (omega (arith, len, rest), omega (arith, len, rest, some))

reaches_end : (turns : List (ℕ × ℕ)) (records : List DataRecord) (p : ℕ) → p ≤ length (parts records) → length (parts records) ≤ p + length turns → place_from p (pulls_of records (pulls turns)) ≡ length (parts records)
reaches_end [] records p le enough = omega arith
reaches_end (turn ∷ turns) records p le enough =
    let on = goes_on records p turn.1 (length turns) le enough in
    reaches_end turns records (place_after records p turn.1) on.0 on.1

no_records : (turns : List (ℕ × ℕ)) → records_given (pulls turns) ≡ []
no_records [] = refl
no_records (turn ∷ turns) = no_records turns

pub means_drained : (calls : List Call) (turns : List (ℕ × ℕ)) → AreStreamable (records_given calls) → AreInRange (calls ++ pulls turns) → length (parts (records_given calls)) ≤ length turns → Means (messages_got (calls ++ pulls turns)) (records_given calls)
means_drained calls turns may ranges enough =
    let records = records_given calls in
    let given : records_given (calls ++ pulls turns) ≡ records = given_append calls (pulls turns) ∙ ap (λ (rs : List DataRecord). records ++ rs) (no_records turns) ∙ append-nil records in
    let S : List DataRecord → Type 0 = λ rs. AreStreamable rs in
    let within = (got calls may (ranges_front calls (pulls turns) ranges)).within in
    let reached : place_reached (calls ++ pulls turns) ≡ length (parts records) = reached_append calls (pulls turns) ∙ reaches_end turns records (place_reached calls) within (omega (arith, enough)) in
    let L : List DataRecord → Type 0 = λ rs. Means (messages_got (calls ++ pulls turns)) rs in
    let all : records_of_parts (take (place_reached (calls ++ pulls turns)) (parts (records_given (calls ++ pulls turns)))) ≡ records = ap (λ (rs : List DataRecord). records_of_parts (take (place_reached (calls ++ pulls turns)) (parts rs))) given
    ∙ ap (λ (q : ℕ). records_of_parts (take q (parts records))) reached ∙ ap records_of_parts (take_all (length (parts records)) (parts records) (omega arith)) ∙ parts_bring records in
    subst L all (means_so_far (calls ++ pulls turns) (subst S (sym given) may) ranges)
