-- What a message gives to subscriptions, counts for them and keeps back, as the definitions have it.
use Rattle.std.proofs.Common.{◌≡◌, ℕ, ◌+◌, ◌-◌, ◌^◌, ◌<◌, ◌≤◌, take, Bool, true, false, cond, List, [], ◌∷◌, ◌++◌, length, map, Option, Some, None, Result, Ok, Err, refl, sym, ap, ◌∙◌, subst, arith, append-nil, length-append}
use Rattle.std.specs.Prelude.{◌≢◌, ◌==◌, ◌||◌, ◌&&◌, not, slice_get, if◌then◌else◌}
use Rattle.std.specs.List.{AllByRecursion, flat_map, enumerate_from}
use Rattle.std.proofs.lemmas.Bool.{eqb-true, ne_eqb}
use Rattle.std.proofs.lemmas.Simd.{map-map}
use Rattle.std.proofs.lemmas.List.Concat.{flat_map-cons}
use Rattle.std.proofs.lemmas.List.Folds.{flat_map-map}
use Rattle.std.proofs.lemmas.List.{map-append, length-map, take_all}
use Rattle.sequences.specs.Results.{◌>>=◌}
use Rattle.sequences.proofs.ResultLaws.{same_Ok}
use Rattle.ipfix_message.specs.Reading.{header_of}
use Rattle.ipfix_template.specs.DataRecord.{DataRecord}
use Rattle.ipfix_session.specs.Contents.{Contents}
use Rattle.ipfix_session.specs.Meaning.{Meaning, meaning_of, contents_of, domain_of, gap_of}
use Rattle.ipfix_session.specs.ReadAhead.{Ahead}
use Rattle.ipfix_session.specs.declared.fault.Fault.{Fault as ReadError}
use Rattle.policy_text.specs.Policies.{Aggregate}
use Rattle.flow_anonymize.specs.declared.disclosure.Disclosure.TheVariants.{Passed, Aggregated, Withheld}
use Rattle.flow_anonymize.specs.Outcome.{Outcome, passed}
use Rattle.flow_aggregate.specs.Counts.{Count, count_of}
use Rattle.flow_aggregate.specs.declared.timing.Timing.{Timing}
use Rattle.flow_aggregate.specs.declared.timing.Timing.TheVariants.{Placed, NoTime, NoKey, Late}
use Rattle.disclosure_audit.specs.declared.entry.AuditEntry.{AuditEntry}
use Rattle.disclosure_audit.specs.Queue.{stamp}
use Rattle.event_journal.specs.declared.entry.Entry.{Entry}
use Rattle.event_journal.specs.declared.entry.Entry.TheVariants.{Message, Cut}
use Rattle.mediator_history.specs.Numbers.{is_in, AreDistinct}
use Rattle.mediator_history.specs.Sessions.{messages_of}
use Rattle.mediator_history.specs.Subscriptions.{policy_in_force, name_of, is_served, subscribed_in, served}
use Rattle.mediator_history.specs.Accepted.{records_meant, records_at, accepted_as}
use Rattle.mediator_history.specs.Counting.{outcome_for, clock_of, counts, counted_in, timing_at, counts_for, counted_at}
use Rattle.mediator_history.specs.Disclosed.{given_at}
use Rattle.mediator_history.specs.Auditing.{audit_entry, audit_of, audit_at}
use Rattle.mediator_history.specs.Cuts.{after_cuts}
use Rattle.mediator_history.proofs.ListFilters.{distinct_filter}
use Rattle.mediator_history.proofs.EntryLaws.{all_served, is_in-served}
use Rattle.mediator_history.proofs.CutLaws.{policy-cuts, name-cuts, messages-cuts, is_served-cuts, given-served, given-unserved}
use Rattle.mediator_history.proofs.CountingLaws.{clock-cuts, counted-served, counted_unserved}
use Rattle.mediator_tables.specs.declared.served.Served.{Served}
use Rattle.mediator_tables.specs.SubscriptionTable.{told, shown, given_to}
use Rattle.mediator_shares.specs.InForce.{InForce, in_force_with}
use Rattle.mediator_tables.specs.Adding.{tallied}
use Rattle.disclosure_audit.specs.declared.entry.Note.{Note}
use Rattle.disclosure_audit.specs.Noting.{KeptNotes, kept_notes}
use Rattle.mediator_shares.specs.Sharing.{share_of, given_by, added_by, kept_by, shares_of, tallies_of, note_of, notes_on, noted_of_each, notes_of}
use Rattle.history_verify.specs.declared.judged.Judged.{Judged}
use Rattle.history_verify.specs.declared.replay.Replay.{Replay}
use Rattle.history_verify.specs.declared.subscribers.Subscribers.{Subscribers}
use Rattle.history_verify.specs.Parts.{AreSubscribers}
use Rattle.mediator_tables.specs.Adding.{NoneTwice, added_to}
use Rattle.history_verify.specs.Sharing.{IsJudgedEntry, IsFirstEmptyShare}
use Rattle.history_verify.specs.Standing.{MayCutAll, StandsOver, Repeats, IsReadOf, IsFirstOr}
use Rattle.history_verify.proofs.KeyLaws.{numbers_apart}
use Rattle.history_verify.proofs.SubscriberLaws.{map_alike}
use Rattle.history_verify.proofs.UnborneLaws.{share_with, first_by_shares}

-- ---- lists

map_same : {A B : Type 0} (f g : A → B) (xs : List A) → AllByRecursion (λ x. f x ≡ g x) xs → map f xs ≡ map g xs
map_same f g [] same = refl
map_same f g (x ∷ xs) same = ap (λ y. y ∷ map f xs) same.0 ∙ ap (λ ys. g x ∷ ys) (map_same f g xs same.1)

all_implied : {A : Type 0} (P Q : A → Type 0) (xs : List A) → ((x : A) → P x → Q x) → AllByRecursion P xs → AllByRecursion Q xs
all_implied P Q [] so all = tt
all_implied P Q (x ∷ xs) so all = (so x all.0, all_implied P Q xs so all.1)

flat_map-same : {X A : Type 0} (f g : X → List A) (xs : List X) → ((x : X) → f x ≡ g x) → flat_map f xs ≡ flat_map g xs
flat_map-same f g [] same = refl
flat_map-same f g (x ∷ xs) same = flat_map-cons f x xs ∙ ap (λ t. t ++ flat_map f xs) (same x) ∙ ap (λ t. g x ++ t) (flat_map-same f g xs same) ∙ sym (flat_map-cons g x xs)

map-flat_map : {X A B : Type 0} (g : A → B) (f : X → List A) (xs : List X) → map g (flat_map f xs) ≡ flat_map (λ x. map g (f x)) xs
map-flat_map g f [] = refl
map-flat_map g f (x ∷ xs) =
    ap (map g) (flat_map-cons f x xs) ∙ map-append g (f x) (flat_map f xs) ∙ ap (λ t. map g (f x) ++ t) (map-flat_map g f xs) ∙ sym (flat_map-cons (λ y. map g (f y)) x xs)

no_items : {A B : Type 0} (f : A → B) (xs : List A) → map f xs ≡ [] → xs ≡ []
no_items f [] none = refl
no_items f (x ∷ xs) none = absurd cc

-- ---- number and name of a subscription

abbrev pub known : List Entry → ℕ → ℕ × List ℕ
known h sub = (sub, name_of sub h)

abbrev sharing : ℕ → List DataRecord → ℕ × List DataRecord
sharing sub records = (sub, records)

abbrev tallying : ℕ → List Count → ℕ × List Count
tallying sub counts = (sub, counts)

-- of these records those that pass for a subscriber of this name, and what they add to its aggregates
abbrev given : List ℕ → ℕ → InForce → List DataRecord → List DataRecord
given name domain f records = flat_map (given_by domain f name) records

abbrev added : List ℕ → ℕ → InForce → List DataRecord → List Count
added name domain f records = flat_map (added_by domain f name) records

abbrev share_told : ℕ → InForce → List DataRecord → ℕ × List ℕ → ℕ × List DataRecord
share_told domain f records p = (p.0, given p.1 domain f records)

abbrev tally_told : ℕ → InForce → List DataRecord → ℕ × List ℕ → ℕ × List Count
tally_told domain f records p = (p.0, added p.1 domain f records)

abbrev counts_with : (ℕ → List Count) → ℕ → ℕ × List Count
counts_with adds sub = (sub, adds sub)

-- what is in force behind a history
abbrev in_force_at : List Entry → InForce
in_force_at h = in_force_with (policy_in_force h) (clock_of h)

-- records of this domain are those of the message behind the history, under what is in force
pub record IsAsked (h : List Entry) (session : ℕ) (octets : List ℕ) (domain : ℕ) (f : InForce) (records : List DataRecord) : Type 0 where
  pub in_force_is : f ≡ in_force_at h
  pub domain_is : domain ≡ domain_of octets
  pub records_are : records ≡ records_meant (meaning_of (messages_of session h) octets)

given_told : (h : List Entry) (session number : ℕ) (octets : List ℕ) (domain : ℕ) (f : InForce) (records : List DataRecord)
    → IsAsked h session octets domain f records → (sub : ℕ) → is_served sub h ≡ true → given (name_of sub h) domain f records ≡ given_at sub h (Message session number octets)
given_told h session number octets domain f records is sub on =
    ap (λ g. given (name_of sub h) domain g records) is.in_force_is
    ∙ ap (λ d. given (name_of sub h) d (in_force_at h) records) is.domain_is
    ∙ ap (λ rs. given (name_of sub h) (domain_of octets) (in_force_at h) rs) is.records_are
    ∙ sym (given-served sub session number octets h on)

added_told : (h : List Entry) (session number : ℕ) (octets : List ℕ) (domain : ℕ) (f : InForce) (records : List DataRecord)
    → IsAsked h session octets domain f records → (sub : ℕ) → is_served sub h ≡ true → added (name_of sub h) domain f records ≡ map count_of (counted_at sub h (Message session number octets))
added_told h session number octets domain f records is sub on =
    ap (λ g. added (name_of sub h) domain g records) is.in_force_is
    ∙ ap (λ d. added (name_of sub h) d (in_force_at h) records) is.domain_is
    ∙ ap (λ rs. added (name_of sub h) (domain_of octets) (in_force_at h) rs) is.records_are
    ∙ sym (map-flat_map count_of (counts_for sub h (domain_of octets)) (records_meant (meaning_of (messages_of session h) octets)))
    ∙ ap (map count_of) (sym (counted-served sub session number octets h on))

-- the shares of those that are served are what the message gives them
shares_at : (h : List Entry) (session number : ℕ) (octets : List ℕ) (domain : ℕ) (f : InForce) (records : List DataRecord) (left : List Served) (subs : List ℕ)
    → IsAsked h session octets domain f records → map told left ≡ map (known h) subs → AllByRecursion (λ sub. is_served sub h ≡ true) subs
    → shares_of domain f records left ≡ map (share_with (λ sub. given_at sub h (Message session number octets))) subs
shares_at h session number octets domain f records left subs is tells on =
    sym (map-map (share_told domain f records) told left)
    ∙ ap (map (share_told domain f records)) tells
    ∙ map-map (share_told domain f records) (known h) subs
    ∙ map_same (λ sub. share_told domain f records (known h sub)) (share_with (λ sub. given_at sub h (Message session number octets))) subs
    (all_implied (λ sub. is_served sub h ≡ true) (λ sub. share_told domain f records (known h sub) ≡ share_with (λ q. given_at q h (Message session number octets)) sub) subs
    (λ sub served_so. ap (sharing sub) (given_told h session number octets domain f records is sub served_so)) on)

tallies_at : (h : List Entry) (session number : ℕ) (octets : List ℕ) (domain : ℕ) (f : InForce) (records : List DataRecord) (left : List Served) (subs : List ℕ)
    → IsAsked h session octets domain f records → map told left ≡ map (known h) subs → AllByRecursion (λ sub. is_served sub h ≡ true) subs
    → tallies_of domain f records left ≡ map (counts_with (λ sub. map count_of (counted_at sub h (Message session number octets)))) subs
tallies_at h session number octets domain f records left subs is tells on =
    sym (map-map (tally_told domain f records) told left)
    ∙ ap (map (tally_told domain f records)) tells
    ∙ map-map (tally_told domain f records) (known h) subs
    ∙ map_same (λ sub. tally_told domain f records (known h sub)) (counts_with (λ sub. map count_of (counted_at sub h (Message session number octets)))) subs
    (all_implied (λ sub. is_served sub h ≡ true) (λ sub. tally_told domain f records (known h sub) ≡ counts_with (λ q. map count_of (counted_at q h (Message session number octets))) sub) subs
    (λ sub served_so. ap (tallying sub) (added_told h session number octets domain f records is sub served_so)) on)

-- ---- what the audit names

abbrev audit_told : ℕ → ℕ → InForce → ℕ × DataRecord → ℕ × List ℕ → List AuditEntry
audit_told position domain f r p = map (audit_entry position r.0 p.0) (kept_by domain f p.1 r.1)

stamped_one : (position domain : ℕ) (f : InForce) (r : ℕ × DataRecord) (left : List Served)
    → map (stamp position) (noted_of_each domain f left r) ≡ flat_map (audit_told position domain f r) (map told left)
stamped_one position domain f r left =
    map-flat_map (stamp position) (notes_on domain f r) left
    ∙ flat_map-same (λ who. map (stamp position) (notes_on domain f r who)) (λ who. audit_told position domain f r (told who)) left (λ who. map-map (stamp position) (note_of r.0 who.sub) (kept_by domain f who.name.now r.1))
    ∙ sym (flat_map-map (audit_told position domain f r) told left)

notes_told : (position domain : ℕ) (f : InForce) (records : List DataRecord) (left : List Served)
    → map (stamp position) (notes_of domain f records left) ≡ flat_map (λ r. flat_map (audit_told position domain f r) (map told left)) (enumerate_from 0 records)
notes_told position domain f records left =
    map-flat_map (stamp position) (noted_of_each domain f left) (enumerate_from 0 records)
    ∙ flat_map-same (λ r. map (stamp position) (noted_of_each domain f left r)) (λ r. flat_map (audit_told position domain f r) (map told left)) (enumerate_from 0 records) (λ r. stamped_one position domain f r left)

audits_at : (h : List Entry) (session number : ℕ) (octets : List ℕ)
    → flat_map (λ r. flat_map (audit_told (length h) (domain_of octets) (in_force_at h) r) (map (known h) (served h))) (enumerate_from 0 (records_meant (meaning_of (messages_of session h) octets)))
    ≡ audit_at h (Message session number octets)
audits_at h session number octets =
    flat_map-same
    (λ r. flat_map (audit_told (length h) (domain_of octets) (in_force_at h) r) (map (known h) (served h)))
    (λ r. flat_map (audit_of h (accepted_as (length h) session (domain_of octets) r)) (served h))
    (enumerate_from 0 (records_meant (meaning_of (messages_of session h) octets)))
    (λ r. flat_map-map (audit_told (length h) (domain_of octets) (in_force_at h) r) (known h) (served h))
    ∙ sym (flat_map-map (λ a. flat_map (audit_of h a) (served h)) (accepted_as (length h) session (domain_of octets)) (enumerate_from 0 (records_at h (Message session number octets))))

notes_at : (h : List Entry) (session number : ℕ) (octets : List ℕ) (domain : ℕ) (f : InForce) (records : List DataRecord) (left : List Served) (position : ℕ)
    → IsAsked h session octets domain f records → map told left ≡ map (known h) (served h) → position ≡ length h
    → map (stamp position) (notes_of domain f records left) ≡ audit_at h (Message session number octets)
notes_at h session number octets domain f records left position is tells counted =
    notes_told position domain f records left
    ∙ ap (λ l. flat_map (λ r. flat_map (audit_told position domain f r) l) (enumerate_from 0 records)) tells
    ∙ ap (λ p. flat_map (λ r. flat_map (audit_told p domain f r) (map (known h) (served h))) (enumerate_from 0 records)) counted
    ∙ ap (λ g. flat_map (λ r. flat_map (audit_told (length h) domain g r) (map (known h) (served h))) (enumerate_from 0 records)) is.in_force_is
    ∙ ap (λ d. flat_map (λ r. flat_map (audit_told (length h) d (in_force_at h) r) (map (known h) (served h))) (enumerate_from 0 records)) is.domain_is
    ∙ ap (λ rs. flat_map (λ r. flat_map (audit_told (length h) (domain_of octets) (in_force_at h) r) (map (known h) (served h))) (enumerate_from 0 rs)) is.records_are
    ∙ audits_at h session number octets

-- ---- what all shares give to one subscription

apart_from : (q n : ℕ) (ns : List ℕ) → n ≡ q → AllByRecursion (λ m. m ≢ n) ns → AllByRecursion (λ m. m ≢ q) ns
apart_from q n ns same apart = subst (λ x. AllByRecursion (λ m. m ≢ x) ns) same apart

-- of pairs under numbers what stands under one
abbrev under : {A : Type 0} → ℕ → List (ℕ × List A) → List A
under q pairs = flat_map (λ s. if s.0 == q then s.1 else []) pairs

under_none : {A : Type 0} (g : ℕ → List A) (q : ℕ) (ns : List ℕ) → AllByRecursion (λ n. n ≢ q) ns → under q (map (λ n. (n, g n)) ns) ≡ []
under_none g q [] apart = refl
under_none {A} g q (n ∷ ns) apart =
    flat_map-cons (λ (s : ℕ × List A). if s.0 == q then s.1 else []) (n, g n) (map (λ n. (n, g n)) ns)
    ∙ ap (λ (b : Bool). cond b (g n) [] ++ under q (map (λ n. (n, g n)) ns)) (ne_eqb n q apart.0)
    ∙ under_none g q ns apart.1

under_one : {A : Type 0} (g : ℕ → List A) (q : ℕ) (ns : List ℕ) → AreDistinct ns → under q (map (λ n. (n, g n)) ns) ≡ cond (is_in q ns) (g q) []
under_one g q [] distinct = refl
under_one {A} g q (n ∷ ns) distinct =
    flat_map-cons (λ (s : ℕ × List A). if s.0 == q then s.1 else []) (n, g n) (map (λ n. (n, g n)) ns) ∙ by_number (under_one g q ns distinct.1) (n == q) refl
  where
    by_number : under q (map (λ n. (n, g n)) ns) ≡ cond (is_in q ns) (g q) [] → (same : Bool) → (n == q) ≡ same → (cond same (g n) [] ++ under q (map (λ n. (n, g n)) ns)) ≡ cond (same || is_in q ns) (g q) []
    by_number rest true is = ap (λ (l : List A). g n ++ l) (under_none g q ns (apart_from q n ns (eqb-true n q is) distinct.0)) ∙ append-nil (g n) ∙ ap g (eqb-true n q is)
    by_number rest false is = rest

served_apart : (t : Subscribers) (h : List Entry) → AreSubscribers t h → AreDistinct (served h)
served_apart t h so = distinct_filter (λ s. is_served s h) (flat_map subscribed_in h) (numbers_apart 1 (flat_map subscribed_in h) so.numbers)

under_served : {A : Type 0} (g : ℕ → List A) (t : Subscribers) (h : List Entry) (q : ℕ) → AreSubscribers t h → (is_served q h ≡ false → g q ≡ []) → under q (map (λ n. (n, g n)) (served h)) ≡ g q
under_served {A} g t h q so none = under_one g q (served h) (served_apart t h so) ∙ by (is_in q (served h)) refl where
  by : (among : Bool) → is_in q (served h) ≡ among → cond among (g q) [] ≡ g q
  by true is = refl
  by false is = sym (none (sym (is_in-served q h) ∙ is))

all_pairs_apart : (g : ℕ → List Count) (n : ℕ) (ns : List ℕ) → AllByRecursion (λ m. m ≢ n) ns → AllByRecursion (λ o. o.0 ≢ n) (map (counts_with g) ns)
all_pairs_apart g n [] apart = tt
all_pairs_apart g n (m ∷ ns) apart = (apart.0, all_pairs_apart g n ns apart.1)

pairs_apart : (g : ℕ → List Count) (ns : List ℕ) → AreDistinct ns → NoneTwice (map (counts_with g) ns)
pairs_apart g [] apart = tt
pairs_apart g (n ∷ ns) apart = (all_pairs_apart g n ns apart.0, pairs_apart g ns apart.1)

-- ---- what a message does

-- the header of what is meant is that of the message
meaning_header : (older : List (List ℕ)) (octets : List ℕ) (m : Meaning) → meaning_of older octets ≡ Ok m → m.header ≡ header_of octets
unfolding meaning_of
meaning_header older octets m e = found (contents_of older octets) e where
  found : (contents : Result Contents ReadError) → (contents >>= λ c. Ok (record { header = header_of octets; records = c.records; skips = c.skips; gap = gap_of older octets })) ≡ Ok m → m.header ≡ header_of octets
  found (Ok c) e = ap (λ x. x.header) (sym (same_Ok (record { header = header_of octets; records = c.records; skips = c.skips; gap = gap_of older octets }) m e))
  found (Err w) e = absurd cc

asked : (r : Replay) (h : List Entry) (session number : ℕ) (octets : List ℕ) (reading : Ahead) (domain : ℕ) (records : List DataRecord)
    → Repeats r h → IsReadOf h session number octets reading → domain ≡ reading.meaning.header.domain → records ≡ reading.meaning.records → IsAsked h session octets domain r.in_force records
asked r h session number octets reading domain records s is in_domain means = record {
  in_force_is = ap (λ p. in_force_with p r.in_force.clock) s.over.policy ∙ ap (in_force_with (policy_in_force h)) s.over.clock;
  domain_is = in_domain ∙ ap (λ x. x.domain) (meaning_header (messages_of session h) octets reading.meaning is.read.means);
  records_are = means ∙ ap records_meant (sym is.read.means);
}

-- what the records give to all that are served, add for them and note of them
record IsShared (wanted : Bool) (r : Replay) (domain : ℕ) (records : List DataRecord) (left : List Served) (j : Judged) : Type 0 where
  pub shares_are : map shown j.shares.items ≡ shares_of domain r.in_force records left
  pub tallies_are : map tallied j.tallies.items ≡ tallies_of domain r.in_force records left
  pub entries_are : j.entries.items ≡ (if wanted then map (stamp r.position) (notes_of domain r.in_force records left) else [])

judged_all : (wanted : Bool) (r : Replay) (h : List Entry) (session number : ℕ) (octets : List ℕ) (reading : Ahead) (domain : ℕ) (records : List DataRecord) (left : List Served) (j : Judged)
    → Repeats r h → IsAsked h session octets domain r.in_force records → map told left ≡ map (known h) (served h) → IsShared wanted r domain records left j
    → IsJudgedEntry wanted h (Message session number octets) j
judged_all wanted r h session number octets reading domain records left j s is tells so = record {
  gives = λ sub. ap (given_to sub) shares ∙ under_served (λ q. given_at q h (Message session number octets)) r.subscribers h sub s.over.subscribers (given-unserved sub session number octets h);
  adds = λ sub. ap (added_to sub) tallies
      ∙ under_served (λ q. map count_of (counted_at q h (Message session number octets))) r.subscribers h sub s.over.subscribers (λ off. ap (map count_of) (counted_unserved sub h (Message session number octets) off));
  apart = subst NoneTwice (sym tallies) (pairs_apart (λ q. map count_of (counted_at q h (Message session number octets))) (served h) (served_apart r.subscribers h s.over.subscribers));
  entries_are = so.entries_are ∙ ap (λ (l : List AuditEntry). if wanted then l else []) (notes_at h session number octets domain r.in_force records left r.position is tells s.over.position);
} where
  shares : map shown j.shares.items ≡ map (share_with (λ sub. given_at sub h (Message session number octets))) (served h)
  shares = so.shares_are ∙ shares_at h session number octets domain r.in_force records left (served h) is tells (all_served h)

  tallies : map tallied j.tallies.items ≡ map (counts_with (λ sub. map count_of (counted_at sub h (Message session number octets)))) (served h)
  tallies = so.tallies_are ∙ tallies_at h session number octets domain r.in_force records left (served h) is tells (all_served h)

chosen_none : {A : Type 0} (b : Bool) (xs : List A) → xs ≡ [] → cond b xs [] ≡ []
chosen_none true xs none = none
chosen_none false xs none = refl

-- a message without records brings nothing
judged_none : (wanted : Bool) (r : Replay) (h : List Entry) (session number : ℕ) (octets : List ℕ) (domain : ℕ) (records : List DataRecord) (left : List Served) (j : Judged)
    → IsAsked h session octets domain r.in_force records → records ≡ [] → map told left ≡ [] → IsShared wanted r domain records left j
    → IsJudgedEntry wanted h (Message session number octets) j
judged_none wanted r h session number octets domain records left j is empty tells so = record {
  gives = λ sub. ap (given_to sub) shares ∙ sym (no_given sub);
  adds = λ sub. ap (added_to sub) tallies ∙ sym (no_added sub);
  apart = subst NoneTwice (sym tallies) tt;
  entries_are = so.entries_are ∙ ap (λ (l : List AuditEntry). if wanted then l else []) (ap (λ rs. map (stamp r.position) (notes_of domain r.in_force rs left)) empty
      ∙ sym (ap (λ (rs : List DataRecord). flat_map (λ a. flat_map (audit_of h a) (served h)) (map (accepted_as (length h) session (domain_of octets)) (enumerate_from 0 rs))) none_meant));
} where
  none_left : left ≡ []
  none_left = no_items told left tells

  none_meant : records_meant (meaning_of (messages_of session h) octets) ≡ []
  none_meant = sym is.records_are ∙ empty

  shares : map shown j.shares.items ≡ []
  shares = so.shares_are ∙ ap (shares_of domain r.in_force records) none_left

  tallies : map tallied j.tallies.items ≡ []
  tallies = so.tallies_are ∙ ap (tallies_of domain r.in_force records) none_left

  no_given : (sub : ℕ) → given_at sub h (Message session number octets) ≡ []
  no_given sub = chosen_none (is_served sub h) (flat_map (λ r. passed (outcome_for sub h (domain_of octets) r)) (records_meant (meaning_of (messages_of session h) octets)))
      (ap (λ (rs : List DataRecord). flat_map (λ r. passed (outcome_for sub h (domain_of octets) r)) rs) none_meant)

  no_added : (sub : ℕ) → map count_of (counted_at sub h (Message session number octets)) ≡ []
  no_added sub = ap (map count_of) (chosen_none (is_served sub h) (flat_map (counts_for sub h (domain_of octets)) (records_meant (meaning_of (messages_of session h) octets)))
      (ap (λ (rs : List DataRecord). flat_map (counts_for sub h (domain_of octets)) rs) none_meant))

pub is_judged : (wanted : Bool) (r : Replay) (h : List Entry) (session number : ℕ) (octets : List ℕ) (reading : Ahead) (domain : ℕ) (records : List DataRecord) (left : List Served) (some : Bool) (j : Judged)
    → Repeats r h → IsReadOf h session number octets reading → domain ≡ reading.meaning.header.domain → records ≡ reading.meaning.records
    → (some ≡ false → records ≡ []) → map told left ≡ (if some then map (known h) (served h) else [])
    → map shown j.shares.items ≡ shares_of domain r.in_force records left → map tallied j.tallies.items ≡ tallies_of domain r.in_force records left
    → j.entries.items ≡ (if wanted then map (stamp r.position) (notes_of domain r.in_force records left) else [])
    → IsJudgedEntry wanted h (Message session number octets) j
is_judged wanted r h session number octets reading domain records left true j s is in_domain means none tells shares tallies entries =
    judged_all wanted r h session number octets reading domain records left j s (asked r h session number octets reading domain records s is in_domain means) tells (record { shares_are = shares; tallies_are = tallies; entries_are = entries })
is_judged wanted r h session number octets reading domain records left false j s is in_domain means none tells shares tallies entries =
    judged_none wanted r h session number octets domain records left j (asked r h session number octets reading domain records s is in_domain means) (none refl) tells (record { shares_are = shares; tallies_are = tallies; entries_are = entries })

-- all notes of a message are kept, or none
pub notes_wanted : (wanted : Bool) (position most : ℕ) (all : List Note) (k : KeptNotes) → most ≡ (if wanted then 2 ^ 64 - 1 else 0) → k ≡ kept_notes most all → k.count < 2 ^ 63
    → map (stamp position) k.notes ≡ (if wanted then map (stamp position) all else [])
notes_wanted true position most all k many is few =
    ap (λ (n : KeptNotes). map (stamp position) n.notes) is ∙ ap (map (stamp position)) (take_all most all (omega (arith, many, few, ap (λ (n : KeptNotes). n.count) is)))
notes_wanted false position most all k many is few = ap (λ (n : KeptNotes). map (stamp position) n.notes) is ∙ ap (λ (n : ℕ). map (stamp position) (take n all)) many

-- ---- whom it would give nothing, of those whose cuts wait

in_force-cuts : (h : List Entry) (subs : List ℕ) → in_force_at (after_cuts h subs) ≡ in_force_at h
in_force-cuts h subs = ap (λ p. in_force_with p (clock_of (after_cuts h subs))) (policy-cuts h subs) ∙ ap (in_force_with (policy_in_force h)) (clock-cuts h subs)

asked_before : (g h : List Entry) (ws : List ℕ) (session : ℕ) (octets : List ℕ) (domain : ℕ) (f : InForce) (records : List DataRecord) → h ≡ after_cuts g ws → IsAsked h session octets domain f records → IsAsked g session octets domain f records
asked_before g h ws session octets domain f records e is = record {
  in_force_is = is.in_force_is ∙ ap in_force_at e ∙ in_force-cuts g ws;
  domain_is = is.domain_is;
  records_are = is.records_are ∙ ap (λ (t : List Entry). records_meant (meaning_of (messages_of session t) octets)) e ∙ ap (λ older. records_meant (meaning_of older octets)) (messages-cuts session g ws);
}

first_so : (a b : Bool) → (a && b) ≡ true → a ≡ true
first_so true b is = refl
first_so false b is = is

-- those whose cuts wait are served before them
pub waiting_served : (g : List Entry) (ws : List ℕ) → MayCutAll g ws → AllByRecursion (λ s. is_served s g ≡ true) ws
waiting_served g [] may = tt
waiting_served g (w ∷ ws) may = (
  may.0.served,
  all_implied (λ s. is_served s (g ++ Cut w ∷ []) ≡ true) (λ s. is_served s g ≡ true) ws (λ s on. first_so (is_served s g) (not (is_in s (w ∷ []))) (sym (is_served-cuts s g (w ∷ [])) ∙ on)) (waiting_served (g ++ Cut w ∷ []) ws may.1),
)

names_before : (g h : List Entry) (ws subs : List ℕ) → h ≡ after_cuts g ws → map (known h) subs ≡ map (known g) subs
names_before g h ws subs e = ap (λ (t : List Entry). map (known t) subs) e ∙ map_alike (known (after_cuts g ws)) (known g) (λ sub. ap (λ (n : List ℕ). (sub, n)) (name-cuts sub g ws)) subs

pub first_unborne : (r : Replay) (g h : List Entry) (session number : ℕ) (octets : List ℕ) (reading : Ahead) (domain : ℕ) (records : List DataRecord) (left : List Served) (shares : List (ℕ × List DataRecord)) (place : Option ℕ)
    → StandsOver r g h → IsReadOf h session number octets reading → domain ≡ reading.meaning.header.domain → records ≡ reading.meaning.records
    → map told left ≡ map (known h) r.waiting.items → shares ≡ shares_of domain r.in_force records left → IsFirstEmptyShare shares place
    → IsFirstOr (λ sub. given_at sub g (Message session number octets)) r.waiting.items place
first_unborne r g h session number octets reading domain records left shares place so is in_domain means tells are first =
    first_by_shares (λ sub. given_at sub g (Message session number octets)) r.waiting.items place
    (subst (λ (l : List (ℕ × List DataRecord)). IsFirstEmptyShare l place)
    (are ∙ shares_at g session number octets domain r.in_force records left r.waiting.items
    (asked_before g h r.waiting.items session octets domain r.in_force records so.history_is (asked r h session number octets reading domain records (record { settled = g; over = so }) is in_domain means))
    (tells ∙ names_before g h r.waiting.items r.waiting.items so.history_is) (waiting_served g r.waiting.items so.waiting)) first)

pub as_many : (h : List Entry) (ws : List ℕ) (domain : ℕ) (f : InForce) (records : List DataRecord) (left : List Served) (shares : List (ℕ × List DataRecord))
    → map told left ≡ map (known h) ws → shares ≡ shares_of domain f records left → length shares ≡ length ws
as_many h ws domain f records left shares tells are = omega (
  arith,
  ap (λ (l : List (ℕ × List DataRecord)). length l) are,
  length-map left (share_of domain f records),
  length-map left told,
  ap (λ (l : List (ℕ × List ℕ)). length l) tells,
  length-map ws (known h),
)

-- ---- how much it brings

few_of : (aggregates : List Aggregate) (clock : ℕ) (r : DataRecord) (o : Outcome) → length (passed o) + length (counts aggregates clock r o) ≤ 1
few_of aggregates clock r (Passed kept removed) = omega arith
few_of aggregates clock r (Aggregated rule place) = omega (arith, one (slice_get aggregates place) (timing_at aggregates place r clock)) where
  one : (a : Option Aggregate) (t : Timing) → length (counted_in a r t) ≤ 1
  one None t = omega arith
  one (Some a) (Placed start) = omega arith
  one (Some a) NoTime = omega arith
  one (Some a) NoKey = omega arith
  one (Some a) Late = omega arith
few_of aggregates clock r (Withheld rule reason) = omega arith

few_of_all : {A B C : Type 0} (f : A → List B) (g : A → List C) → ((x : A) → length (f x) + length (g x) ≤ 1) → (xs : List A) → length (flat_map f xs) + length (flat_map g xs) ≤ length xs
few_of_all f g few [] = omega arith
few_of_all f g few (x ∷ xs) = omega (
  arith,
  few x,
  few_of_all f g few xs,
  ap (λ l. length l) (flat_map-cons f x xs),
  ap (λ l. length l) (flat_map-cons g x xs),
  length-append (f x) (flat_map f xs),
  length-append (g x) (flat_map g xs),
)

-- of a message each record is given, or counts, or is kept back
pub few_brought : (sub : ℕ) (h : List Entry) (session number : ℕ) (octets : List ℕ) → length (given_at sub h (Message session number octets)) + length (counted_at sub h (Message session number octets)) ≤ length (records_at h (Message session number octets))
few_brought sub h session number octets = by (is_served sub h) where
  by : (on : Bool) → length (cond on (flat_map (λ r. passed (outcome_for sub h (domain_of octets) r)) (records_at h (Message session number octets))) []) + length (cond on (flat_map (counts_for sub h (domain_of octets)) (records_at h (Message session number octets))) [])
      ≤ length (records_at h (Message session number octets))
  by true = few_of_all (λ r. passed (outcome_for sub h (domain_of octets) r)) (counts_for sub h (domain_of octets)) (λ r. few_of (policy_in_force h).aggregates (clock_of h) r (outcome_for sub h (domain_of octets) r)) (records_at h (Message session number octets))
  by false = omega arith
