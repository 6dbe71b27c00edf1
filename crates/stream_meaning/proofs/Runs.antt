-- What the messages of a whole run of calls are read as.
use Rattle.std.proofs.Common.{◌≡◌, ℕ, zero, suc, ◌+◌, ◌<◌, ◌≤◌, ◌^◌, List, [], ◌∷◌, ◌++◌, length, take, drop, map, Option, Some, None, Result, Ok, Err, refl, sym, ap, subst, ◌∙◌, append_assoc, append-nil, arith, length-append}
use Rattle.std.proofs.lemmas.List.{take_at, take-append-drop, map-append, take-append-le, length-take-le}
use Rattle.ipfix_template.specs.DataRecord.{DataRecord}
use Rattle.ipfix_message.specs.declared.header.Header.{Header}
use Rattle.ipfix_message.specs.Reading.{header_of}
use Rattle.ipfix_session.specs.Contents.{Contents}
use Rattle.ipfix_session.specs.Meaning.{Meaning, domain_of, contents_of, gap_of, meaning_of, with_domain, records_after, both_records, records_meant}
use Rattle.ipfix_session.specs.declared.fault.Fault.{Fault as ReadError}
use Rattle.ipfix_session.proofs.MeaningLaws.{records_after-append, records_after-one}
use Rattle.subscriber_stream.specs.Parts.{Part, parts, records_of_parts}
use Rattle.subscriber_stream.specs.Message.{message, run_length, next_message, built, place_after}
use Rattle.subscriber_stream.specs.Calls.{Call, Given, Pulled, pulls_of, octets_from}
use Rattle.subscriber_stream.proofs.CallLaws.{parts_more, parts_bring}
use Rattle.subscriber_stream.proofs.Standings.{records_in-append, next_none}
use Rattle.sequences.specs.Results.{◌>>=◌}
use Rattle.stream_meaning.specs.Served.{AreStreamable, AreInRange, records_given, messages_in, messages_got, place_from, place_reached}
use Rattle.stream_meaning.specs.Means.{plain_meaning, AreReadAs, Means}
use Rattle.stream_meaning.proofs.Tables.{empty, AreKnown, after_parts}
use Rattle.stream_meaning.proofs.Sets.{known_split}
use Rattle.stream_meaning.proofs.Listed.{parts_known}
use Rattle.stream_meaning.proofs.Steps.{Stands, stands_first, handed_in, message_at, IsNext, Steps, step, run_fits}

-- ---- what messages bring, from what each is read as

header_meant : (older : List (List ℕ)) (m : List ℕ) (x : Meaning) → meaning_of older m ≡ Ok x → header_of m ≡ x.header
unfolding meaning_of
header_meant older m x is = by_contents (contents_of older m) is where
  ok_is : (a b : Meaning) (same : let ok : Meaning → Result Meaning ReadError = λ y. Ok y in ok a ≡ ok b) → a ≡ b
  ok_is a b same = cc

  by_contents : (c : Result Contents ReadError) → (c >>= λ c. Ok (record { header = header_of m; records = c.records; skips = c.skips; gap = gap_of older m })) ≡ Ok x → header_of m ≡ x.header
  by_contents (Ok c) same = ap (λ (y : Meaning). y.header) (ok_is (record { header = header_of m; records = c.records; skips = c.skips; gap = gap_of older m }) x same)
  by_contents (Err e) same = absurd cc

abbrev brings : List DataRecord → Result (List (ℕ × DataRecord)) ReadError
brings records = Ok (map (with_domain 0) records)

nothing_brought : (older : List (List ℕ)) → records_after older [] ≡ brings []
unfolding records_after
nothing_brought older = refl

pub brought : (messages : List (List ℕ)) (handed : ℕ) (older : List (List ℕ)) (records : List DataRecord) → AreReadAs handed older messages records → records_after older messages ≡ brings records
brought [] handed older records read = nothing_brought older ∙ ap brings (sym read)
brought (m ∷ messages) handed older records read =
    let now = read.0 in
    let first = read.1 in
    let others = read.2 in
    let header = header_meant older m (plain_meaning now handed first) read.4 in
    let domain : domain_of m ≡ 0 = ap (λ (h : Header). h.domain) header in
    let one : records_after older (m ∷ []) ≡ brings first = records_after-one older m ∙ ap (records_meant (domain_of m)) read.4
    ∙ ap (λ (d : ℕ). records_meant d (let ok : Result Meaning ReadError = Ok (plain_meaning now handed first) in ok)) domain in
    records_after-append older (m ∷ []) messages
    ∙ ap (λ (r : Result (List (ℕ × DataRecord)) ReadError). both_records r (records_after (m ∷ older) messages)) one
    ∙ ap (both_records (brings first)) (brought messages (handed + length first) (m ∷ older) others read.5)
    ∙ sym (ap brings read.3 ∙ (let ok : List (ℕ × DataRecord) → Result (List (ℕ × DataRecord)) ReadError = λ rs. Ok rs in ap ok (map-append (with_domain 0) first others)))

-- ---- places

-- the parts of one message, behind those before it
record IsRun (xs : List Part) (p n : ℕ) (run rest : List Part) : Type 0 where
  whole : xs ≡ take p xs ++ (run ++ rest)
  reached : take (p + length run) xs ≡ take p xs ++ run
  within : p + length run ≤ length xs

run_is : (xs : List Part) (p n : ℕ) → p ≤ length xs → IsRun xs p n (take n (drop p xs)) (drop n (drop p xs))
run_is xs p n le =
    let run = take n (drop p xs) in
    let rest = drop n (drop p xs) in
    let whole : xs ≡ take p xs ++ (run ++ rest) = sym (take-append-drop p xs) ∙ ap (λ (t : List Part). take p xs ++ t) (sym (take-append-drop n (drop p xs))) in
    let front : length (take p xs ++ run) ≡ p + length run = length-append (take p xs) run ∙ ap (λ (k : ℕ). k + length run) (length-take-le p xs le) in
    record {
      whole = whole;
      reached = ap (take (p + length run)) (whole ∙ sym (append_assoc (take p xs) run rest)) ∙ take_at (take p xs ++ run) rest (p + length run) front;
      within = omega (arith, front, ap length (whole ∙ sym (append_assoc (take p xs) run rest)), length-append (take p xs ++ run) rest);
    }

-- ---- runs of calls

-- where a run of calls comes to
pub record IsRunOf (records : List DataRecord) (p : ℕ) (older : List (List ℕ)) (calls : List Call) (whole : List DataRecord) : Type 0 where
  pub done : List Part
  pub reached : take (place_from p (pulls_of records calls)) (parts whole) ≡ take p (parts records) ++ done
  pub within : place_from p (pulls_of records calls) ≤ length (parts whole)
  pub read : AreReadAs (handed_in (take p (parts records))) older (messages_in (octets_from p (pulls_of records calls))) (records_of_parts done)

-- readers of older messages stand at place p of the parts of the records
record StandsIn (records : List DataRecord) (p : ℕ) (older : List (List ℕ)) : Type 0 where
  within : p ≤ length (parts records)
  stands : Stands older (take p (parts records))

known_front : (records more whole : List DataRecord) → whole ≡ records ++ more → AreStreamable whole → AreKnown empty (parts records)
known_front records more whole is may =
    let others = parts_more records more in
    let P : List Part → Type 0 = λ ps. AreKnown empty ps in
    (known_split (parts records) others.0 empty (subst P (ap parts is ∙ others.1) (parts_known whole may))).0

-- the records that are given behind those before
given_more : (records more : List DataRecord) (p : ℕ) → p ≤ length (parts records) → (take p (parts (records ++ more)) ≡ take p (parts records)) × (p ≤ length (parts (records ++ more)))
given_more records more p le =
    let others = parts_more records more in
    (ap (take p) others.1 ∙ take-append-le p (parts records) others.0 le, omega (arith, le, ap length others.1, length-append (parts records) others.0))

abbrev pub some_message : List ℕ → Option (List ℕ)
some_message m = Some m

in_between : (now target handed : ℕ) (ws : List Part) (part : Part) (ps : List Part) → ws ≡ part ∷ ps → next_message now target handed ws ≡ some_message (message now handed (take (run_length target ws) ws))
unfolding next_message
in_between now target handed ws part ps is =
    ap (next_message now target handed) is ∙ sym (ap (λ (qs : List Part). some_message (message now handed (take (run_length target qs) qs))) is)

-- a run of calls whose first pull finds nothing waiting
ended : (records : List DataRecord) (p now target : ℕ) (older : List (List ℕ)) (calls : List Call) (whole : List DataRecord) → built records p now target ≡ None → take (place_after records p target) (parts records) ≡ take p (parts records)
    → IsRunOf records (place_after records p target) older calls whole → IsRunOf records p older (Pulled now target ∷ calls) whole
ended records p now target older calls whole none same run =
    let q = place_after records p target in
    let M : List (Option (List ℕ)) → Type 0 = λ answers. AreReadAs (handed_in (take p (parts records))) older (messages_in answers) (records_of_parts run.done) in
    let H : List Part → Type 0 = λ ps. AreReadAs (handed_in ps) older (messages_in (octets_from q (pulls_of records calls))) (records_of_parts run.done) in
    record {
      done = run.done;
      reached = run.reached ∙ ap (λ (ps : List Part). ps ++ run.done) same;
      within = run.within;
      read = subst M (ap (λ (o : Option (List ℕ)). o ∷ octets_from q (pulls_of records calls)) (sym none)) (subst H same run.read);
    }

-- one whose first pull gives a message
went_on : (records : List DataRecord) (p now target : ℕ) (older : List (List ℕ)) (calls : List Call) (whole : List DataRecord) (ps : List Part) → built records p now target ≡ Some (message_at now (take p (parts records)) ps) → take (place_after records p target) (parts records) ≡ take p (parts records) ++ ps
    → Steps older (take p (parts records)) ps now → IsRunOf records (place_after records p target) (message_at now (take p (parts records)) ps ∷ older) calls whole → IsRunOf records p older (Pulled now target ∷ calls) whole
went_on records p now target older calls whole ps some reached one run =
    let q = place_after records p target in
    let before = take p (parts records) in
    let m = message_at now before ps in
    let M : List (Option (List ℕ)) → Type 0 = λ answers. AreReadAs (handed_in before) older (messages_in answers) (records_of_parts (ps ++ run.done)) in
    let H : ℕ → Type 0 = λ handed. AreReadAs handed (m ∷ older) (messages_in (octets_from q (pulls_of records calls))) (records_of_parts run.done) in
    let counted : handed_in (take q (parts records)) ≡ handed_in before + length (records_of_parts ps) = ap handed_in reached ∙ ap length (records_in-append before ps) ∙ length-append (records_of_parts before) (records_of_parts ps) in
    let here : M (Some m ∷ octets_from q (pulls_of records calls)) = (now, records_of_parts ps, records_of_parts run.done, records_in-append ps run.done, one.meaning, subst H counted run.read) in
    record {
      done = ps ++ run.done;
      reached = run.reached ∙ ap (λ (t : List Part). t ++ run.done) reached ∙ append_assoc before ps run.done;
      within = run.within;
      read = subst M (ap (λ (o : Option (List ℕ)). o ∷ octets_from q (pulls_of records calls)) (sym some)) here;
    }

-- what is to be known of the calls that are left
record IsLeft (records : List DataRecord) (calls : List Call) (whole : List DataRecord) : Type 0 where
  whole_is : whole ≡ records ++ records_given calls
  ranges : AreInRange calls

take-none : (n : ℕ) → take n (let none : List Part = [] in none) ≡ []
take-none zero = refl
take-none (suc n) = refl

-- the parts of the next message may be told
next_is : (records more whole : List DataRecord) (p now target : ℕ) (part : Part) (ps : List Part) → whole ≡ records ++ more → AreStreamable whole → p ≤ length (parts records) → now < 2 ^ 32 → target < 2 ^ 16 → drop p (parts records) ≡ part ∷ ps
    → IsNext (take p (parts records)) (take (run_length target (drop p (parts records))) (drop p (parts records))) now
next_is records more whole p now target part ps whole_is may le time below is =
    let before = take p (parts records) in
    let waiting = drop p (parts records) in
    let n = run_length target waiting in
    let K : List Part → Type 0 = λ xs. AreKnown empty xs in
    let all = subst K (sym (take-append-drop p (parts records))) (known_front records more whole whole_is may) in
    let known : AreKnown (after_parts empty before) waiting = (known_split before waiting empty all).1 in
    let R : List Part → Type 0 = λ xs. AreKnown (after_parts empty before) xs in
    let F : List Part → Type 0 = λ xs. length (message now (handed_in before) (take (run_length target xs) xs)) < 65536 in
    record {
      known = (known_split (take n waiting) (drop n waiting) (after_parts empty before) (subst R (sym (take-append-drop n waiting)) known)).0;
      time = time;
      few = subst F (sym is) (run_fits target now (handed_in before) (after_parts empty before) part ps below (subst R is known));
    }

run : (calls : List Call) (records : List DataRecord) (p : ℕ) (older : List (List ℕ)) (whole : List DataRecord) → AreStreamable whole → IsLeft records calls whole → StandsIn records p older → IsRunOf records p older calls whole
run [] records p older whole may left at =
    let same : parts whole ≡ parts records = ap parts (left.whole_is ∙ append-nil records) in
    record { done = []; reached = ap (take p) same ∙ sym (append-nil (take p (parts records))); within = omega (arith, at.within, ap length same); read = refl }
run (Given more ∷ calls) records p older whole may left at =
    let front = given_more records more p at.within in
    let S : List Part → Type 0 = λ ps. Stands older ps in
    let others = run calls (records ++ more) p older whole may (record { whole_is = left.whole_is ∙ sym (append_assoc records more (records_given calls)); ranges = left.ranges.1 }) (record { within = front.1; stands = subst S (sym front.0) at.stands }) in
    let H : List Part → Type 0 = λ ps. AreReadAs (handed_in ps) older (messages_in (octets_from p (pulls_of (records ++ more) calls))) (records_of_parts others.done) in
    record {
      done = others.done;
      reached = others.reached ∙ ap (λ (ps : List Part). ps ++ others.done) front.0;
      within = others.within;
      read = subst H front.0 others.read;
    }
run (Pulled now target ∷ calls) records p older whole may left at =
    by_waiting (drop p (parts records)) refl (λ next place. run calls records (place_after records p target) next whole may (record { whole_is = left.whole_is; ranges = left.ranges.1 }) place) where
      by_waiting : (ws : List Part) → drop p (parts records) ≡ ws → ((next : List (List ℕ)) → StandsIn records (place_after records p target) next → IsRunOf records (place_after records p target) next calls whole) → IsRunOf records p older (Pulled now target ∷ calls) whole
      by_waiting [] is others =
          let one = run_is (parts records) p (run_length target (drop p (parts records))) at.within in
          let none : take (run_length target (drop p (parts records))) (drop p (parts records)) ≡ [] = ap (λ (ws : List Part). take (run_length target (drop p (parts records))) ws) is ∙ take-none (run_length target (drop p (parts records))) in
          let same : take (place_after records p target) (parts records) ≡ take p (parts records) = one.reached ∙ ap (λ (ps : List Part). take p (parts records) ++ ps) none ∙ append-nil (take p (parts records)) in
          let S : List Part → Type 0 = λ ps. Stands older ps in
          ended records p now target older calls whole (next_none now target (handed_in (take p (parts records))) (drop p (parts records)) is) same
          (others older (record { within = one.within; stands = subst S (sym same) at.stands }))
      by_waiting (part ∷ ps) is others =
          let before = take p (parts records) in
          let n = run_length target (drop p (parts records)) in
          let message_parts = take n (drop p (parts records)) in
          let place = run_is (parts records) p n at.within in
          let next = next_is records (records_given calls) whole p now target part ps left.whole_is may at.within left.ranges.0.0 left.ranges.0.1 is in
          let one = step older before message_parts now at.stands next in
          let m = message_at now before message_parts in
          let S : List Part → Type 0 = λ xs. Stands (m ∷ older) xs in
          went_on records p now target older calls whole message_parts (in_between now target (handed_in before) (drop p (parts records)) part ps is) place.reached one
          (others (m ∷ older) (record { within = place.within; stands = subst S (sym place.reached) one.stands }))

-- ---- the messages of a new stream

pub got : (calls : List Call) → AreStreamable (records_given calls) → AreInRange calls → IsRunOf [] 0 [] calls (records_given calls)
got calls may ranges = run calls [] 0 [] (records_given calls) may (record { whole_is = refl; ranges = ranges }) (record { within = omega arith; stands = stands_first })

pub means_so_far : (calls : List Call) → AreStreamable (records_given calls) → AreInRange calls → Means (messages_got calls) (records_of_parts (take (place_reached calls) (parts (records_given calls))))
means_so_far calls may ranges =
    let all = got calls may ranges in
    let R : List Part → Type 0 = λ ps. AreReadAs 0 [] (messages_got calls) (records_of_parts ps) in
    let read = subst R (sym all.reached) all.read in
    record { records = brought (messages_got calls) 0 [] (records_of_parts (take (place_reached calls) (parts (records_given calls)))) read; each = read }

none_waits : (now target handed : ℕ) (ws : List Part) → next_message now target handed ws ≡ None → ws ≡ []
unfolding next_message
none_waits now target handed [] is = refl
none_waits now target handed (part ∷ ps) is = absurd cc

pub means_all : (calls : List Call) (now target : ℕ) → AreStreamable (records_given calls) → AreInRange calls → built (records_given calls) (place_reached calls) now target ≡ None → Means (messages_got calls) (records_given calls)
means_all calls now target may ranges end =
    let whole = parts (records_given calls) in
    let q = place_reached calls in
    let rest : drop q whole ≡ [] = none_waits now target (handed_in (take q whole)) (drop q whole) end in
    let all : take q whole ≡ whole = sym (append-nil (take q whole)) ∙ ap (λ (ps : List Part). take q whole ++ ps) (sym rest) ∙ take-append-drop q whole in
    let M : List DataRecord → Type 0 = λ records. Means (messages_got calls) records in
    subst M (ap records_of_parts all ∙ parts_bring (records_given calls)) (means_so_far calls may ranges)
