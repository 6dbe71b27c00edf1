-- What a stream keeps, and how it stands in the parts of a list.
use Rattle.std.proofs.Common.{◌≡◌, ℕ, zero, suc, ◌+◌, ◌-◌, ◌<◌, ◌≤◌, ◌^◌, Bool, true, false, cond, List, [], ◌∷◌, ◌++◌, length, take, drop, max, Some, None, refl, sym, ap, subst, ◌∙◌, arith, append_assoc, length-append}
use Rattle.std.specs.List.{position_or_len}
use Rattle.std.proofs.lemmas.List.{append-nil, length-take, take-append-le, drop-append-le}
use Rattle.sequences.proofs.BeforeLaws.{each_with_before-push}
use Rattle.ipfix_template.specs.Equality.{same_template}
use Rattle.ipfix_template.specs.declared.template.Template.{Template}
use Rattle.ipfix_template.specs.DataRecord.{DataRecord}
use Rattle.subscriber_stream.specs.declared.limits.StreamLimits.{StreamLimits}
use Rattle.subscriber_stream.specs.Shapes.{is_among, with_shape, shapes_after, shapes_of}
use Rattle.subscriber_stream.specs.Parts.{Part, Announcement, Entry, parts_for, parts_at, parts, record_in, records_of_parts}
use Rattle.subscriber_stream.specs.Message.{message, run_length, next_message, built, place_after}
use Rattle.subscriber_stream.specs.declared.waiting.Waiting.{Waiting}
use Rattle.subscriber_stream.specs.declared.waiting.Waiting.TheVariants.{Announce, Bring}
use Rattle.subscriber_stream.specs.Items.{Item, Announced, Brought, stream_parts, entries}
use Rattle.subscriber_stream.specs.Waiting.{items_in, rest_of}
use Rattle.subscriber_stream.specs.Standing.{StreamStanding, KeptStream, StandsAt, at_start, queue_size, HasStreamRoom, FitsLimits}
use Rattle.subscriber_stream.specs.Steps.{given_one, after_given, without_first, handed_one, handed_parts}
use Rattle.subscriber_stream.proofs.RunLaws.{brings}
use Rattle.subscriber_stream.proofs.ShapeLaws.{shapes_after-first, shapes_after-append, shapes_on, shapes_of-push, length-shapes_after}

-- the records among what waits
pub queued_entries : (shapes : List Template) (ws : List Item) → length (records_of_parts (stream_parts shapes ws)) ≡ entries ws
queued_entries shapes [] = refl
queued_entries shapes (Announced id octets ∷ ws) = queued_entries shapes ws
queued_entries shapes (Brought id octets ∷ ws) = ap suc (queued_entries shapes ws)

pub stands_at_start : StandsAt at_start [] 0
unfolding parts shapes_of
stands_at_start = record { within = omega arith; place = refl; shapes = refl; handed = refl; waiting = refl }

-- ---- a part that is handed out

at_part : (ps qs : List Part) (p : ℕ) (part : Part) → drop p ps ≡ part ∷ qs → (take (suc p) ps ≡ take p ps ++ part ∷ []) × (drop (suc p) ps ≡ qs) × (suc p ≤ length ps)
at_part ps qs zero part is =
    let P : List Part → Type 0 = λ ps. (take 1 ps ≡ part ∷ []) × (drop 1 ps ≡ qs) × (1 ≤ length ps) in
    let here : P (part ∷ qs) = (refl, refl, omega arith) in
    subst P (sym is) here
at_part [] qs (suc p) part is = absurd cc
at_part (x ∷ ps) qs (suc p) part is =
    let others = at_part ps qs p part is in (ap (λ (t : List Part). x ∷ t) others.0, others.1, omega (arith, others.2))

length-records_in-push : (ps : List Part) (part : Part) → length (records_of_parts (ps ++ part ∷ [])) ≡ length (records_of_parts ps) + length (record_in part)
length-records_in-push [] part = ap length (append-nil (record_in part)) ∙ omega arith
length-records_in-push (q ∷ ps) part =
    let others = length-records_in-push ps part in
    omega (arith, length-append (record_in q) (records_of_parts (ps ++ part ∷ [])), length-append (record_in q) (records_of_parts ps), others)

after_first : (s : StreamStanding) (records : List DataRecord) (p : ℕ) (part : Part) (ps : List Part) → s.waiting ≡ part ∷ ps → StandsAt s records p → StandsAt (without_first s (part ∷ ps)) records (suc p)
after_first s records p (Announcement id shape) ps is at =
    let place = at_part (parts records) ps p (Announcement id shape) (sym at.waiting ∙ is) in
    let more : length (records_of_parts (take (suc p) (parts records))) ≡ length (records_of_parts (take p (parts records))) + 0 = ap (λ (t : List Part). length (records_of_parts t)) place.0 ∙ length-records_in-push (take p (parts records)) (Announcement id shape) in
    record { within = place.2; place = omega (arith, at.place); shapes = at.shapes; handed = omega (arith, at.handed, more); waiting = sym place.1 }
after_first s records p (Entry id r) ps is at =
    let place = at_part (parts records) ps p (Entry id r) (sym at.waiting ∙ is) in
    let more : length (records_of_parts (take (suc p) (parts records))) ≡ length (records_of_parts (take p (parts records))) + 1 = ap (λ (t : List Part). length (records_of_parts t)) place.0 ∙ length-records_in-push (take p (parts records)) (Entry id r) in
    record { within = place.2; place = omega (arith, at.place); shapes = at.shapes; handed = omega (arith, at.handed, more); waiting = sym place.1 }

waiting_first : (s : StreamStanding) (part : Part) (ps : List Part) → (without_first s (part ∷ ps)).waiting ≡ ps
waiting_first s (Announcement id shape) ps = refl
waiting_first s (Entry id r) ps = refl

stands_after_one : (k : KeptStream) (records : List DataRecord) (p : ℕ) (part : Part) (ps : List Part) → k.standing.waiting ≡ part ∷ ps → StandsAt k.standing records p → StandsAt (handed_one k).standing records (suc p)
unfolding handed_one
stands_after_one k records p part ps is at =
    let P : List Part → Type 0 = λ ws. StandsAt (without_first k.standing ws) records (suc p) in
    subst P (sym is) (after_first k.standing records p part ps is at)

pub waiting_after_one : (k : KeptStream) (part : Part) (ps : List Part) → k.standing.waiting ≡ part ∷ ps → (handed_one k).standing.waiting ≡ ps
unfolding handed_one
waiting_after_one k part ps is =
    ap (λ (ws : List Part). (without_first k.standing ws).waiting) is ∙ waiting_first k.standing part ps

none_after_one : (k : KeptStream) → k.standing.waiting ≡ [] → (handed_one k).standing.waiting ≡ []
unfolding handed_one
none_after_one k is = ap (λ (ws : List Part). (without_first k.standing ws).waiting) is ∙ is

stands_after_parts : (n : ℕ) (k : KeptStream) (records : List DataRecord) (p : ℕ) (ws : List Part) → k.standing.waiting ≡ ws → n ≤ length ws → StandsAt k.standing records p → StandsAt (handed_parts n k).standing records (p + n)
stands_after_parts zero k records p ws is le at =
    let P : ℕ → Type 0 = λ q. StandsAt k.standing records q in
    let same : p ≡ p + 0 = omega arith in
    subst P same at
stands_after_parts (suc n) k records p [] is le at = absurd (omega arith)
stands_after_parts (suc n) k records p (part ∷ ps) is le at =
    let P : ℕ → Type 0 = λ q. StandsAt (handed_parts n (handed_one k)).standing records q in
    let same : suc p + n ≡ p + suc n = omega arith in
    subst P same (stands_after_parts n (handed_one k) records (suc p) ps (waiting_after_one k part ps is) (omega arith) (stands_after_one k records p part ps is at))

-- so many parts further on
pub stands_after : (n : ℕ) (k : KeptStream) (records : List DataRecord) (p : ℕ) → n ≤ length k.standing.waiting → StandsAt k.standing records p → StandsAt (handed_parts n k).standing records (p + n)
stands_after n k records p le at = stands_after_parts n k records p k.standing.waiting refl le at

-- limits and room stay
kept_one : (k : KeptStream) → ((handed_one k).limits ≡ k.limits) × ((handed_one k).spare ≡ k.spare)
unfolding handed_one
kept_one k = (refl, refl)

pub kept_after : (n : ℕ) (k : KeptStream) → ((handed_parts n k).limits ≡ k.limits) × ((handed_parts n k).spare ≡ k.spare)
kept_after zero k = (refl, refl)
kept_after (suc n) k =
    let others = kept_after n (handed_one k) in
    let one = kept_one k in
    (others.0 ∙ one.0, others.1 ∙ one.1)

-- ---- records that are given

parts-push : (records : List DataRecord) (r : DataRecord) → parts (records ++ r ∷ []) ≡ parts records ++ parts_for (shapes_of records) r
unfolding parts
parts-push records r = each_with_before-push parts_at records r

stands_given_one : (k : KeptStream) (records : List DataRecord) (p : ℕ) (r : DataRecord) → StandsAt k.standing records p → StandsAt (given_one k r).standing (records ++ r ∷ []) p
unfolding given_one
stands_given_one k records p r at =
    let more = parts-push records r in
    let front : take p (parts (records ++ r ∷ [])) ≡ take p (parts records) = ap (take p) more ∙ take-append-le p (parts records) (parts_for (shapes_of records) r) at.within in
    let back : drop p (parts (records ++ r ∷ [])) ≡ drop p (parts records) ++ parts_for (shapes_of records) r = ap (drop p) more ∙ drop-append-le p (parts records) (parts_for (shapes_of records) r) at.within in
    record {
      within = omega (arith, at.within, ap length more, length-append (parts records) (parts_for (shapes_of records) r));
      place = at.place;
      shapes = ap (λ (ss : List Template). with_shape ss r.template) at.shapes ∙ sym (shapes_of-push records r);
      handed = at.handed ∙ ap (λ (t : List Part). length (records_of_parts t)) (sym front);
      waiting = ap (λ (t : List Part). t ++ parts_for k.standing.shapes r) at.waiting ∙ ap (λ (ss : List Template). drop p (parts records) ++ parts_for ss r) at.shapes ∙ sym back;
    }

-- the list goes on with the records that are given
pub stands_given : (k : KeptStream) (rs records : List DataRecord) (p : ℕ) → StandsAt k.standing records p → StandsAt (after_given k rs).standing (records ++ rs) p
stands_given k [] records p at =
    let P : List DataRecord → Type 0 = λ rs. StandsAt k.standing rs p in subst P (sym (append-nil records)) at
stands_given k (r ∷ rs) records p at =
    let P : List DataRecord → Type 0 = λ whole. StandsAt (after_given (given_one k r) rs).standing whole p in
    subst P (append_assoc records (r ∷ []) rs) (stands_given (given_one k r) rs (records ++ r ∷ []) p (stands_given_one k records p r at))

-- ---- room

-- one record is among the parts of one record
pub records_in-parts_for : (shapes : List Template) (r : DataRecord) → records_of_parts (parts_for shapes r) ≡ r ∷ []
records_in-parts_for shapes r = by_test (is_among r.template shapes) where
  by_test : (b : Bool) → records_of_parts (cond b (Entry (256 + position_or_len (same_template r.template) shapes) r ∷ []) (Announcement (256 + position_or_len (same_template r.template) shapes) r.template ∷ Entry (256 + position_or_len (same_template r.template) shapes) r ∷ [])) ≡ r ∷ []
  by_test true = refl
  by_test false = refl

pub records_in-append : (ps qs : List Part) → records_of_parts (ps ++ qs) ≡ records_of_parts ps ++ records_of_parts qs
records_in-append [] qs = refl
records_in-append (p ∷ ps) qs =
    ap (λ (t : List DataRecord). record_in p ++ t) (records_in-append ps qs) ∙ sym (append_assoc (record_in p) (records_of_parts ps) (records_of_parts qs))

pub queued_given_one : (k : KeptStream) (r : DataRecord) → queue_size (given_one k r).standing ≡ queue_size k.standing + 1
unfolding given_one
queued_given_one k r =
    ap length (records_in-append k.standing.waiting (parts_for k.standing.shapes r)) ∙ length-append (records_of_parts k.standing.waiting) (records_of_parts (parts_for k.standing.shapes r)) ∙ ap (λ (t : List DataRecord). queue_size k.standing + length t) (records_in-parts_for k.standing.shapes r)

-- what a stream needs to take records one by one
pub record CanTake (k : KeptStream) (rs : List DataRecord) : Type 0 where
  pub room : HasStreamRoom k rs
  pub reserved : length rs ≤ k.spare
  pub below : k.standing.handed + queue_size k.standing + length rs < 2 ^ 64

can_take_by : (k : KeptStream) (r : DataRecord) (rs : List DataRecord) → queue_size (given_one k r).standing ≡ queue_size k.standing + 1 → CanTake k (r ∷ rs) → CanTake (given_one k r) rs
unfolding given_one
can_take_by k r rs more can = record {
  room = record {
    queue = omega (arith, can.room.queue, more);
    shapes = omega (arith, can.room.shapes, ap length (shapes_after-first k.standing.shapes r rs));
  };
  reserved = omega (arith, can.reserved);
  below = omega (arith, can.below, more);
}

pub CanTake-rest : (k : KeptStream) (r : DataRecord) (rs : List DataRecord) → CanTake k (r ∷ rs) → CanTake (given_one k r) rs
CanTake-rest k r rs can = can_take_by k r rs (queued_given_one k r) can

-- so many parts are still to be handed out, and then as many as were asked for are
pub record IsHanding (left : ℕ) (k : KeptStream) (count : ℕ) (start : KeptStream) : Type 0 where
  pub enough : left ≤ length k.standing.waiting
  pub whole : handed_parts left k ≡ handed_parts count start

handed_parts-add : (m n : ℕ) (k : KeptStream) → handed_parts (m + n) k ≡ handed_parts n (handed_parts m k)
handed_parts-add zero n k =
    let e : 0 + n ≡ n = omega arith in ap (λ (i : ℕ). handed_parts i k) e
handed_parts-add (suc m) n k =
    let e : suc m + n ≡ suc (m + n) = omega arith in
    ap (λ (i : ℕ). handed_parts i k) e ∙ handed_parts-add m n (handed_one k)

length_one : (k : KeptStream) → length (handed_one k).standing.waiting + 1 ≡ max 1 (length k.standing.waiting)
length_one k = from_waiting k.standing.waiting refl where
  from_waiting : (ws : List Part) → k.standing.waiting ≡ ws → length (handed_one k).standing.waiting + 1 ≡ max 1 (length k.standing.waiting)
  from_waiting [] e = omega (arith, ap length e, ap length (none_after_one k e))
  from_waiting (part ∷ ps) e = omega (arith, ap length e, ap length (waiting_after_one k part ps e))

length_parts : (n : ℕ) (k : KeptStream) → n ≤ length k.standing.waiting → length (handed_parts n k).standing.waiting + n ≡ length k.standing.waiting
length_parts zero k le = omega arith
length_parts (suc n) k le =
    let one = length_one k in
    omega (arith, one, length_parts n (handed_one k) (omega (arith, one, le)))

pub IsHanding-next : (left n count : ℕ) (k start : KeptStream) → n ≤ left → n ≤ length k.standing.waiting → IsHanding left k count start → IsHanding (left - n) (handed_parts n k) count start
IsHanding-next left n count k start le few is =
    let both : n + (left - n) ≡ left = omega arith in
    record {
      enough = omega (arith, is.enough, length_parts n k few);
      whole = sym (handed_parts-add n (left - n) k) ∙ ap (λ (i : ℕ). handed_parts i k) both ∙ is.whole;
    }

-- ---- what the queue holds, handed out

abbrev kept_of : List Template → StreamLimits → ℕ → ℕ → ℕ → List Item → KeptStream
kept_of shapes limits spare handed announced ws = record { standing = record { shapes = shapes; handed = handed; announced = announced; waiting = stream_parts shapes ws }; limits = limits; spare = spare }

-- an announcement
pub announce_out : (shapes : List Template) (limits : StreamLimits) (spare handed announced : ℕ) (queue others : List Waiting) (id octets : ℕ) → queue ≡ Announce id octets ∷ others
    → kept_of shapes limits spare handed (announced + 1) (items_in others) ≡ handed_parts 1 (kept_of shapes limits spare handed announced (items_in queue))
unfolding handed_one
announce_out shapes limits spare handed announced queue others id octets is = rw is refl

one_brought : (shapes : List Template) (limits : StreamLimits) (spare handed announced id : ℕ) (text : List ℕ) (ws : List Item) → handed_one (kept_of shapes limits spare handed announced (Brought id text ∷ ws)) ≡ kept_of shapes limits spare (handed + 1) announced ws
unfolding handed_one
one_brought shapes limits spare handed announced id text ws = refl

-- the first records of a run
brought_out : (n : ℕ) (shapes : List Template) (limits : StreamLimits) (spare handed announced id : ℕ) (texts : List (List ℕ)) (ws : List Item) → n ≤ length texts
    → kept_of shapes limits spare (handed + n) announced (brings id (drop n texts) ++ ws) ≡ handed_parts n (kept_of shapes limits spare handed announced (brings id texts ++ ws))
brought_out zero shapes limits spare handed announced id texts ws le =
    let e : handed + 0 ≡ handed = omega arith in ap (λ (h : ℕ). kept_of shapes limits spare h announced (brings id texts ++ ws)) e
brought_out (suc n) shapes limits spare handed announced id [] ws le = absurd (omega arith)
brought_out (suc n) shapes limits spare handed announced id (text ∷ texts) ws le =
    let e : handed + suc n ≡ handed + 1 + n = omega arith in
    ap (λ (h : ℕ). kept_of shapes limits spare h announced (brings id (drop n texts) ++ ws)) e
    ∙ brought_out n shapes limits spare (handed + 1) announced id texts ws (omega arith)
    ∙ ap (handed_parts n) (sym (one_brought shapes limits spare handed announced id text (brings id texts ++ ws)))

pub items_rest : (id : ℕ) (texts : List (List ℕ)) (others : List Waiting) → items_in (rest_of id texts ++ others) ≡ brings id texts ++ items_in others
items_rest id [] others = refl
items_rest id (text ∷ texts) others = refl

pub bring_out : (shapes : List Template) (limits : StreamLimits) (spare handed announced : ℕ) (queue others after : List Waiting) (id n : ℕ) (texts : List (List ℕ)) → queue ≡ Bring id texts ∷ others → after ≡ rest_of id (drop n texts) ++ others → n ≤ length texts
    → kept_of shapes limits spare (handed + n) announced (items_in after) ≡ handed_parts n (kept_of shapes limits spare handed announced (items_in queue))
bring_out shapes limits spare handed announced queue others after id n texts is after_is le =
    ap (kept_of shapes limits spare (handed + n) announced) (ap items_in after_is ∙ items_rest id (drop n texts) others)
    ∙ brought_out n shapes limits spare handed announced id texts (items_in others) le
    ∙ ap (λ (ws : List Waiting). handed_parts n (kept_of shapes limits spare handed announced (items_in ws))) (sym is)

-- ---- many records, and a message

-- these are still to be given, and then all are
pub record IsGiving (k : KeptStream) (rest : List DataRecord) (start : KeptStream) (all : List DataRecord) : Type 0 where
  pub can : CanTake k rest
  pub whole : after_given k rest ≡ after_given start all

given-append : (k : KeptStream) (rs others : List DataRecord) → after_given k (rs ++ others) ≡ after_given (after_given k rs) others
given-append k [] others = refl
given-append k (r ∷ rs) others = given-append (given_one k r) rs others

CanTake-behind : (k : KeptStream) (rs others : List DataRecord) → CanTake k (rs ++ others) → CanTake (after_given k rs) others
CanTake-behind k [] others can = can
CanTake-behind k (r ∷ rs) others can = CanTake-behind (given_one k r) rs others (CanTake-rest k r (rs ++ others) can)

CanTake-front : (k : KeptStream) (rs others : List DataRecord) → CanTake k (rs ++ others) → CanTake k rs
CanTake-front k rs others can =
    let all = length-append rs others in
    record {
      room = record {
        queue = omega (arith, can.room.queue, all);
        shapes = omega (arith, can.room.shapes, ap length (shapes_after-append k.standing.shapes rs others), length-shapes_after (shapes_after k.standing.shapes rs) others);
      };
      reserved = omega (arith, can.reserved, all);
      below = omega (arith, can.below, all);
    }

pub IsGiving-next : (k : KeptStream) (rs others whole : List DataRecord) (start : KeptStream) (all : List DataRecord) → whole ≡ rs ++ others → IsGiving k whole start all → IsGiving (after_given k rs) others start all
IsGiving-next k rs others whole start all is giving =
    let P : List DataRecord → Type 0 = λ ws. IsGiving k ws start all in
    let here = subst P is giving in
    record { can = CanTake-behind k rs others here.can; whole = sym (given-append k rs others) ∙ here.whole }

pub IsGiving-can : (k : KeptStream) (rs others whole : List DataRecord) (start : KeptStream) (all : List DataRecord) → whole ≡ rs ++ others → IsGiving k whole start all → CanTake k rs
IsGiving-can k rs others whole start all is giving =
    let P : List DataRecord → Type 0 = λ ws. CanTake k ws in CanTake-front k rs others (subst P is giving.can)

spare_one : (k : KeptStream) (r : DataRecord) → (given_one k r).spare ≡ k.spare - 1
unfolding given_one
spare_one k r = refl

limits_one : (k : KeptStream) (r : DataRecord) → (given_one k r).limits ≡ k.limits
unfolding given_one
limits_one k r = refl

pub kept_given : (k : KeptStream) (rs : List DataRecord) → length rs ≤ k.spare → ((after_given k rs).limits ≡ k.limits) × ((after_given k rs).spare + length rs ≡ k.spare)
kept_given k [] le = (refl, omega arith)
kept_given k (r ∷ rs) le =
    let one = spare_one k r in
    let others = kept_given (given_one k r) rs (omega (arith, one)) in
    (others.0 ∙ limits_one k r, omega (arith, others.1, one))

length-take-nil : {A : Type 0} (n : ℕ) (xs : List A) → xs ≡ [] → length (take n xs) ≡ 0
length-take-nil n xs is = omega (arith, length-take n xs, ap length is)

-- the message of what waits is the one that is built
pub next_is_built : (s : StreamStanding) (records : List DataRecord) (p now target : ℕ) → StandsAt s records p → next_message now target s.handed s.waiting ≡ built records p now target
next_is_built s records p now target at =
    ap (λ (n : ℕ). next_message now target n s.waiting) at.handed ∙ ap (next_message now target (length (records_of_parts (take p (parts records))))) at.waiting

pub next_some : (now target handed : ℕ) (ws : List Part) → 0 < length ws → next_message now target handed ws ≡ Some (message now handed (take (run_length target ws) ws))
unfolding next_message
next_some now target handed [] some = absurd (omega arith)
next_some now target handed (part ∷ ps) some = refl

pub next_none : (now target handed : ℕ) (ws : List Part) → ws ≡ [] → next_message now target handed ws ≡ None
unfolding next_message
next_none now target handed ws is = rw is refl

-- the place after a message
pub stands_after_message : (k : KeptStream) (records : List DataRecord) (p target n : ℕ) → n ≡ run_length target k.standing.waiting → n ≤ length k.standing.waiting → StandsAt k.standing records p → StandsAt (handed_parts n k).standing records (place_after records p target)
stands_after_message k records p target n is le at =
    let P : ℕ → Type 0 = λ q. StandsAt (handed_parts n k).standing records q in
    let same : n ≡ run_length target (drop p (parts records)) = is ∙ ap (run_length target) at.waiting in
    let len : p + n ≡ place_after records p target = omega (arith, length-take (run_length target (drop p (parts records))) (drop p (parts records)), ap length at.waiting, same) in
    subst P len (stands_after n k records p le at)

pub stands_at_end : (s : StreamStanding) (records : List DataRecord) (p target : ℕ) → s.waiting ≡ [] → StandsAt s records p → StandsAt s records (place_after records p target)
stands_at_end s records p target none at =
    let P : ℕ → Type 0 = λ q. StandsAt s records q in
    let len : p ≡ place_after records p target = omega (arith, length-take-nil (run_length target (drop p (parts records))) (drop p (parts records)) (sym at.waiting ∙ none)) in
    subst P len at

-- room behind a list is room behind what the stream keeps of it
pub room_is_limits : (k : KeptStream) (records : List DataRecord) (p : ℕ) (more : List DataRecord) → StandsAt k.standing records p → (HasStreamRoom k more → FitsLimits k.limits records p more) × (FitsLimits k.limits records p more → HasStreamRoom k more)
room_is_limits k records p more at =
    let count : queue_size k.standing ≡ length (records_of_parts (drop p (parts records))) = ap (λ (ps : List Part). length (records_of_parts ps)) at.waiting in
    let shapes : length (shapes_after k.standing.shapes more) ≡ length (shapes_of (records ++ more)) = ap (λ (ss : List Template). length (shapes_after ss more)) at.shapes ∙ ap length (sym (shapes_on records more)) in (
      λ room. record { queue = omega (arith, room.queue, count); shapes = omega (arith, room.shapes, shapes) },
      λ fits. record { queue = omega (arith, fits.queue, count); shapes = omega (arith, fits.shapes, shapes) },
    )

-- room in the queue and among the shapes, and no more than that
pub room_by_parts : (k : KeptStream) (more : List DataRecord) (waiting : ℕ) → waiting ≡ queue_size k.standing → waiting ≤ k.limits.queue → length more ≤ k.limits.queue - waiting → (b : Bool) → (b ≡ true → length (shapes_after k.standing.shapes more) ≤ k.limits.shapes) × (length (shapes_after k.standing.shapes more) ≤ k.limits.shapes → b ≡ true) → (b ≡ true → HasStreamRoom k more) × (HasStreamRoom k more → b ≡ true)
room_by_parts k more waiting is few fits b shapes =
    (λ yes'. record { queue = omega (arith, is, few, fits); shapes = shapes.0 yes' }, λ room. shapes.1 room.shapes)

pub no_room : (k : KeptStream) (more : List DataRecord) (waiting : ℕ) → waiting ≡ queue_size k.standing → k.limits.queue - waiting < length more → HasStreamRoom k more → ⊥
no_room k more waiting is over room = omega (arith, is, over, room.queue)
