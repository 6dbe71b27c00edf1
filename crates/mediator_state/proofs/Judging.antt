-- What a message does to those that are served, judged by what the engine keeps of them.
use Rattle.std.proofs.Common.{◌≡◌, ℕ, ◌+◌, ◌<◌, ◌≤◌, ◌^◌, Bool, true, false, cond, ltb, eqb, List, [], ◌∷◌, ◌++◌, length, map, take, drop, get_or, Option, Some, None, Result, Ok, Err, refl, sym, ap, ◌∙◌, subst, arith, append-nil}
use Rattle.std.specs.Prelude.{filter, nat_lt, not, ◌&&◌, ◌||◌, IsSomeAnd}
use Rattle.std.specs.Option.{option_map_or}
use Rattle.std.specs.List.{AllByRecursion, flat_map, enumerate_from}
use Rattle.std.proofs.Math.Bool.{and-true}
use Rattle.std.proofs.Math.Nat.{pow-le-pow_right}
use Rattle.std.proofs.lemmas.Bool.{ltb-false, eqb-true}
use Rattle.std.proofs.lemmas.Simd.{map-map}
use Rattle.std.proofs.lemmas.List.Concat.{flat_map-cons}
use Rattle.std.proofs.lemmas.List.Folds.{flat_map-map}
use Rattle.std.proofs.lemmas.List.{map-append, get_or-map, length-take}
use Rattle.std.proofs.lemmas.List.Elements.{filter_more}
use Rattle.sequences.specs.Octets.{number_at, AreOctets}
use Rattle.sequences.specs.Results.{◌>>=◌}
use Rattle.sequences.proofs.OctetLaws.{be_value-below, AreOctets-drop, AreOctets-take}
use Rattle.sequences.proofs.ResultLaws.{same_Ok}
use Rattle.ipfix_message.specs.declared.fault.Fault.TheVariants.{ShortHeader, BadVersion, BadLength}
use Rattle.ipfix_message.specs.Reading.{header_of, read_header, after_header, items_of}
use Rattle.ipfix_template.specs.declared.template.Template.{Template}
use Rattle.ipfix_template.specs.DataRecord.{DataRecord}
use Rattle.ipfix_session.specs.Contents.{Contents}
use Rattle.ipfix_session.specs.Keeping.{at_key}
use Rattle.ipfix_session.specs.Meaning.{Meaning, meaning_of, contents_of, read_items, items_of_domain, domain_of, gap_of}
use Rattle.ipfix_session.specs.ReadAhead.{Ahead, IsReadingOf}
use Rattle.ipfix_session.specs.Standing.{StandsFor}
use Rattle.ipfix_session.specs.declared.fault.Fault.{Fault as ReadError}
use Rattle.flow_aggregate.specs.Counts.{Count, count_of}
use Rattle.subscriber_stream.specs.declared.limits.StreamLimits.{StreamLimits}
use Rattle.subscriber_stream.specs.Shapes.{shapes_after}
use Rattle.subscriber_stream.specs.Standing.{KeptStream, HasStreamRoom, queue_size}
use Rattle.subscriber_stream.proofs.ShapeLaws.{shapes_on}
use Rattle.disclosure_audit.specs.declared.entry.AuditEntry.{AuditEntry}
use Rattle.disclosure_audit.specs.declared.entry.Note.{Note}
use Rattle.disclosure_audit.specs.Queue.{stamp, most_notes}
use Rattle.event_journal.specs.declared.entry.Entry.{Entry}
use Rattle.event_journal.specs.declared.entry.Entry.TheVariants.{Message}
use Rattle.mediator_history.specs.Numbers.{is_in}
use Rattle.mediator_history.specs.Sessions.{is_open, messages_of}
use Rattle.mediator_history.specs.Subscriptions.{policy_in_force, name_of, is_live, is_served, served}
use Rattle.mediator_history.specs.Accepted.{records_meant, records_at, accepted_as}
use Rattle.mediator_history.specs.Counting.{clock_of, counts_for, counted_at}
use Rattle.mediator_history.specs.Disclosed.{given_at, disclosed}
use Rattle.mediator_history.specs.Auditing.{audit_entry, audit_of, audit_at}
use Rattle.mediator_history.specs.Cuts.{overflows, is_cut_by, after_cuts}
use Rattle.mediator_history.proofs.ListFilters.{filter_alike, is_in-filter}
use Rattle.mediator_history.proofs.EntryLaws.{all_served, is_in-served, served_is_live}
use Rattle.mediator_history.proofs.Counts.{few_records}
use Rattle.mediator_history.proofs.CutLaws.{length-cuts, policy-cuts, name-cuts, messages-cuts, is_served-cuts, served-cuts, given-served, given-cuts}
use Rattle.mediator_history.proofs.CountingLaws.{clock-cuts, counted-served}
use Rattle.mediator_tables.specs.declared.served.Served.{Served}
use Rattle.mediator_tables.specs.declared.share.Share.{Share}
use Rattle.mediator_tables.specs.declared.tally.Tally.{Tally}
use Rattle.mediator_shares.specs.InForce.{InForce, in_force_with}
use Rattle.mediator_tables.specs.SubscriptionTable.{shown}
use Rattle.mediator_tables.specs.Adding.{tallied}
use Rattle.disclosure_audit.specs.Noting.{KeptNotes, kept_notes}
use Rattle.mediator_shares.specs.Sharing.{given_by, added_by, kept_by, share_of, shares_of, tallies_of, note_of, notes_on, noted_of_each, notes_of}
use Rattle.mediator_tables.specs.declared.open_session.OpenSession.{OpenSession}
use Rattle.mediator_tables.specs.declared.subscription.Subscription.{Subscription}
use Rattle.mediator_tables.specs.SubscriptionTable.{SubscriptionRows, at, told, told_in, lacks_room, lacks_room_at}
use Rattle.prepared_message.specs.Preparation.{Preparation, AgreesWith}
use Rattle.mediator_state.specs.declared.engine.Engine.{Engine}
use Rattle.mediator_state.specs.declared.fault.Fault.TheVariants as fault
use Rattle.mediator_state.specs.declared.plan.Judged.{Judged}
use Rattle.mediator_state.specs.declared.plan.MessagePlan.{MessagePlan}
use Rattle.mediator_tables.specs.Sessions.{IsSession}
use Rattle.mediator_state.specs.Standing.{Stands, IsLiveAs}
use Rattle.mediator_state.specs.Seen.{waiting_in, waiting_of}
use Rattle.mediator_state.specs.Planning.{lacks, has, share_at, tally_at, AreTallied, HasRoomIn, AreStreamed, IsJudged, IsJudgedAs, IsJudgedFor, IsInTurn, IsNextReading, IsPlan, RefusesPrepared}

-- ---- lists

pub map_same : {A B : Type 0} (f g : A → B) (xs : List A) → AllByRecursion (λ x. f x ≡ g x) xs → map f xs ≡ map g xs
map_same f g [] same = refl
map_same f g (x ∷ xs) same = ap (λ y. y ∷ map f xs) same.0 ∙ ap (λ ys. g x ∷ ys) (map_same f g xs same.1)

pub map_unchanged : {A : Type 0} (xs : List A) → map (λ x. x) xs ≡ xs
map_unchanged [] = refl
map_unchanged (x ∷ xs) = ap (λ ys. x ∷ ys) (map_unchanged xs)

-- a filter of what a map gives
pub filter-map : {A B : Type 0} (p : B → Bool) (f : A → B) (xs : List A) → filter p (map f xs) ≡ map f (filter (λ x. p (f x)) xs)
filter-map p f [] = refl
filter-map p f (x ∷ xs) = by_test (p (f x)) (filter-map p f xs) where
  by_test : (b : Bool) → filter p (map f xs) ≡ map f (filter (λ y. p (f y)) xs) → cond b (f x ∷ filter p (map f xs)) (filter p (map f xs)) ≡ map f (cond b (x ∷ filter (λ y. p (f y)) xs) (filter (λ y. p (f y)) xs))
  by_test true others = ap (λ t. f x ∷ t) others
  by_test false others = others

all_implied : {A : Type 0} (P Q : A → Type 0) (xs : List A) → ((x : A) → P x → Q x) → AllByRecursion P xs → AllByRecursion Q xs
all_implied P Q [] so all = tt
all_implied P Q (x ∷ xs) so all = (so x all.0, all_implied P Q xs so all.1)

pub all_mapped : {A B : Type 0} (P : B → Type 0) (f : A → B) (xs : List A) → AllByRecursion (λ x. P (f x)) xs → AllByRecursion P (map f xs)
all_mapped P f [] all = tt
all_mapped P f (x ∷ xs) all = (all.0, all_mapped P f xs all.1)

flat_map-same : {X A : Type 0} (f g : X → List A) (xs : List X) → ((x : X) → f x ≡ g x) → flat_map f xs ≡ flat_map g xs
flat_map-same f g [] same = refl
flat_map-same f g (x ∷ xs) same = flat_map-cons f x xs ∙ ap (λ t. t ++ flat_map f xs) (same x) ∙ ap (λ t. g x ++ t) (flat_map-same f g xs same) ∙ sym (flat_map-cons g x xs)

map-flat_map : {X A B : Type 0} (g : A → B) (f : X → List A) (xs : List X) → map g (flat_map f xs) ≡ flat_map (λ x. map g (f x)) xs
map-flat_map g f [] = refl
map-flat_map g f (x ∷ xs) =
    ap (map g) (flat_map-cons f x xs) ∙ map-append g (f x) (flat_map f xs) ∙ ap (λ t. map g (f x) ++ t) (map-flat_map g f xs) ∙ sym (flat_map-cons (λ y. map g (f y)) x xs)

-- where a filter keeps none, its opposite keeps all
pub kept_all : {A B : Type 0} (f : A → B) (p : A → Bool) (xs : List A) → map f (filter p xs) ≡ [] → filter (λ x. not (p x)) xs ≡ xs
kept_all f p [] none = refl
kept_all {A} {B} f p (x ∷ xs) none = by_test (p x) (kept_all f p xs) none where
  by_test : (b : Bool) → (map f (filter p xs) ≡ [] → filter (λ y. not (p y)) xs ≡ xs)
      → map f (cond b (x ∷ filter p xs) (filter p xs)) ≡ [] → cond (not b) (x ∷ filter (λ y. not (p y)) xs) (filter (λ y. not (p y)) xs) ≡ x ∷ xs
  by_test true others some = absurd cc
  by_test false others rest = ap (λ (t : List A). x ∷ t) (others rest)

-- ---- who is served

-- number and name of a subscription
abbrev pub known : List Entry → ℕ → ℕ × List ℕ
known h sub = (sub, name_of sub h)

abbrev pub number_of : ℕ × List ℕ → ℕ
number_of p = p.0

abbrev pub named : ℕ → List ℕ → ℕ × List ℕ
named sub name = (sub, name)

abbrev pub sharing : ℕ → List DataRecord → ℕ × List DataRecord
sharing sub records = (sub, records)

-- what holds of each that is served
pub all_on : (P : ℕ → Type 0) (h : List Entry) → ((sub : ℕ) → is_served sub h ≡ true → P sub) → AllByRecursion P (served h)
all_on P h so = all_implied (λ sub. is_served sub h ≡ true) P (served h) so (all_served h)

told_is : {Q : Type 0} (e : Engine Q) (h : List Entry) → Stands e h → (sub : ℕ) → is_served sub h ≡ true → told_in e.subscriptions sub ≡ known h sub
told_is e h so sub on = there (at e.subscriptions sub) (so.subscriptions sub) where
  there : (o : Option Subscription) → IsLiveAs h e.limits sub o → named sub (option_map_or (λ s. s.name) o []) ≡ known h sub
  there None gone = let live : is_live sub h ≡ true = served_is_live sub h on in absurd cc
  there (Some s) is = ap (named sub) is.name

pub all_told : {Q : Type 0} (e : Engine Q) (h : List Entry) (all : List Served) → Stands e h → map told all ≡ map (told_in e.subscriptions) e.subscriptions.served → map told all ≡ map (known h) (served h)
all_told e h all so tells =
    tells
    ∙ ap (map (told_in e.subscriptions)) so.served_are
    ∙ map_same (told_in e.subscriptions) (known h) (served h) (all_on (λ sub. told_in e.subscriptions sub ≡ known h sub) h (told_is e h so))

-- ---- what a message gives, and what it adds to aggregates

-- of these records those that pass for a subscriber of this name, and what they add to its aggregates
abbrev given : List ℕ → ℕ → InForce → List DataRecord → List DataRecord
given name domain f records = flat_map (given_by domain f name) records

abbrev added : List ℕ → ℕ → InForce → List DataRecord → List Count
added name domain f records = flat_map (added_by domain f name) records

-- the share of a subscription of this number and name
abbrev pub share_told : ℕ → InForce → List DataRecord → ℕ × List ℕ → ℕ × List DataRecord
share_told domain f records p = (p.0, given p.1 domain f records)

abbrev pub tally_told : ℕ → InForce → List DataRecord → ℕ × List ℕ → ℕ × List Count
tally_told domain f records p = (p.0, added p.1 domain f records)

abbrev pub tallying : ℕ → List Count → ℕ × List Count
tallying sub counts = (sub, counts)

-- what is in force behind a history
abbrev pub in_force_at : List Entry → InForce
in_force_at h = in_force_with (policy_in_force h) (clock_of h)

-- records of this domain are those of the message behind the history, under what is in force
pub record IsAsked (h : List Entry) (session : ℕ) (octets : List ℕ) (domain : ℕ) (f : InForce) (records : List DataRecord) : Type 0 where
  pub in_force_is : f ≡ in_force_at h
  pub domain_is : domain ≡ domain_of octets
  pub records_are : records ≡ records_meant (meaning_of (messages_of session h) octets)

in_force-cuts : (h : List Entry) (subs : List ℕ) → in_force_at (after_cuts h subs) ≡ in_force_at h
in_force-cuts h subs = ap (λ p. in_force_with p (clock_of (after_cuts h subs))) (policy-cuts h subs) ∙ ap (in_force_with (policy_in_force h)) (clock-cuts h subs)

asked-cuts : (h : List Entry) (session : ℕ) (octets : List ℕ) (domain : ℕ) (f : InForce) (records : List DataRecord) (subs : List ℕ)
    → IsAsked h session octets domain f records → IsAsked (after_cuts h subs) session octets domain f records
asked-cuts h session octets domain f records subs is = record {
  in_force_is = is.in_force_is ∙ sym (in_force-cuts h subs);
  domain_is = is.domain_is;
  records_are = is.records_are ∙ ap (λ older. records_meant (meaning_of older octets)) (sym (messages-cuts session h subs));
}

given_told : (h : List Entry) (session number : ℕ) (octets : List ℕ) (domain : ℕ) (f : InForce) (records : List DataRecord)
    → IsAsked h session octets domain f records → (sub : ℕ) → is_served sub h ≡ true → given (name_of sub h) domain f records ≡ given_at sub h (Message session number octets)
given_told h session number octets domain f records is sub on =
    ap (λ g. given (name_of sub h) domain g records) is.in_force_is
    ∙ ap (λ d. given (name_of sub h) d (in_force_at h) records) is.domain_is
    ∙ ap (λ rs. given (name_of sub h) (domain_of octets) (in_force_at h) rs) is.records_are
    ∙ sym (given-served sub session number octets h on)

added_told : (h : List Entry) (session number : ℕ) (octets : List ℕ) (domain : ℕ) (f : InForce) (records : List DataRecord)
    → IsAsked h session octets domain f records → (sub : ℕ) → is_served sub h ≡ true → added (name_of sub h) domain f records ≡ map count_of (counted_at sub h (Message session number octets))
added_told h session number octets domain f records is sub on =
    ap (λ g. added (name_of sub h) domain g records) is.in_force_is
    ∙ ap (λ d. added (name_of sub h) d (in_force_at h) records) is.domain_is
    ∙ ap (λ rs. added (name_of sub h) (domain_of octets) (in_force_at h) rs) is.records_are
    ∙ sym (map-flat_map count_of (counts_for sub h (domain_of octets)) (records_meant (meaning_of (messages_of session h) octets)))
    ∙ ap (map count_of) (sym (counted-served sub session number octets h on))

shares_at : (h : List Entry) (session number : ℕ) (octets : List ℕ) (domain : ℕ) (f : InForce) (records : List DataRecord) (left : List Served)
    → IsAsked h session octets domain f records → map told left ≡ map (known h) (served h)
    → shares_of domain f records left ≡ map (share_at h (Message session number octets)) (served h)
shares_at h session number octets domain f records left is tells =
    sym (map-map (share_told domain f records) told left)
    ∙ ap (map (share_told domain f records)) tells
    ∙ map-map (share_told domain f records) (known h) (served h)
    ∙ map_same (λ sub. share_told domain f records (known h sub)) (share_at h (Message session number octets)) (served h)
    (all_on (λ sub. share_told domain f records (known h sub) ≡ share_at h (Message session number octets) sub) h (λ sub on. ap (sharing sub) (given_told h session number octets domain f records is sub on)))

tallies_at : (h : List Entry) (session number : ℕ) (octets : List ℕ) (domain : ℕ) (f : InForce) (records : List DataRecord) (left : List Served)
    → IsAsked h session octets domain f records → map told left ≡ map (known h) (served h)
    → tallies_of domain f records left ≡ map (tally_at h (Message session number octets)) (served h)
tallies_at h session number octets domain f records left is tells =
    sym (map-map (tally_told domain f records) told left)
    ∙ ap (map (tally_told domain f records)) tells
    ∙ map-map (tally_told domain f records) (known h) (served h)
    ∙ map_same (λ sub. tally_told domain f records (known h sub)) (tally_at h (Message session number octets)) (served h)
    (all_on (λ sub. tally_told domain f records (known h sub) ≡ tally_at h (Message session number octets) sub) h (λ sub on. ap (tallying sub) (added_told h session number octets domain f records is sub on)))

-- ---- what the audit names

-- what is kept back of a record from a subscription of this number and name
abbrev pub audit_told : ℕ → ℕ → InForce → ℕ × DataRecord → ℕ × List ℕ → List AuditEntry
audit_told position domain f r p = map (audit_entry position r.0 p.0) (kept_by domain f p.1 r.1)

stamped_one : (position domain : ℕ) (f : InForce) (r : ℕ × DataRecord) (left : List Served)
    → map (stamp position) (noted_of_each domain f left r) ≡ flat_map (audit_told position domain f r) (map told left)
stamped_one position domain f r left =
    map-flat_map (stamp position) (notes_on domain f r) left
    ∙ flat_map-same (λ who. map (stamp position) (notes_on domain f r who)) (λ who. audit_told position domain f r (told who)) left (λ who. map-map (stamp position) (note_of r.0 who.sub) (kept_by domain f who.name.now r.1))
    ∙ sym (flat_map-map (audit_told position domain f r) told left)

notes_told : (position domain : ℕ) (f : InForce) (records : List DataRecord) (left : List Served)
    → map (stamp position) (notes_of domain f records left) ≡ flat_map (λ r. flat_map (audit_told position domain f r) (map told left)) (enumerate_from 0 records)
notes_told position domain f records left =
    map-flat_map (stamp position) (noted_of_each domain f left) (enumerate_from 0 records)
    ∙ flat_map-same (λ r. map (stamp position) (noted_of_each domain f left r)) (λ r. flat_map (audit_told position domain f r) (map told left)) (enumerate_from 0 records) (λ r. stamped_one position domain f r left)

audits_at : (h : List Entry) (session number : ℕ) (octets : List ℕ)
    → flat_map (λ r. flat_map (audit_told (length h) (domain_of octets) (in_force_at h) r) (map (known h) (served h))) (enumerate_from 0 (records_meant (meaning_of (messages_of session h) octets)))
    ≡ audit_at h (Message session number octets)
audits_at h session number octets =
    flat_map-same
    (λ r. flat_map (audit_told (length h) (domain_of octets) (in_force_at h) r) (map (known h) (served h)))
    (λ r. flat_map (audit_of h (accepted_as (length h) session (domain_of octets) r)) (served h))
    (enumerate_from 0 (records_meant (meaning_of (messages_of session h) octets)))
    (λ r. flat_map-map (audit_told (length h) (domain_of octets) (in_force_at h) r) (known h) (served h))
    ∙ sym (flat_map-map (λ a. flat_map (audit_of h a) (served h)) (accepted_as (length h) session (domain_of octets)) (enumerate_from 0 (records_at h (Message session number octets))))

notes_at : (h : List Entry) (session number : ℕ) (octets : List ℕ) (domain : ℕ) (f : InForce) (records : List DataRecord) (left : List Served) (position : ℕ)
    → IsAsked h session octets domain f records → map told left ≡ map (known h) (served h) → position ≡ length h
    → map (stamp position) (notes_of domain f records left) ≡ audit_at h (Message session number octets)
notes_at h session number octets domain f records left position is tells counted =
    notes_told position domain f records left
    ∙ ap (λ l. flat_map (λ r. flat_map (audit_told position domain f r) l) (enumerate_from 0 records)) tells
    ∙ ap (λ p. flat_map (λ r. flat_map (audit_told p domain f r) (map (known h) (served h))) (enumerate_from 0 records)) counted
    ∙ ap (λ g. flat_map (λ r. flat_map (audit_told (length h) domain g r) (map (known h) (served h))) (enumerate_from 0 records)) is.in_force_is
    ∙ ap (λ d. flat_map (λ r. flat_map (audit_told (length h) d (in_force_at h) r) (map (known h) (served h))) (enumerate_from 0 records)) is.domain_is
    ∙ ap (λ rs. flat_map (λ r. flat_map (audit_told (length h) (domain_of octets) (in_force_at h) r) (map (known h) (served h))) (enumerate_from 0 rs)) is.records_are
    ∙ audits_at h session number octets

-- ---- whom it cuts

-- there is no room in a stream just where its records overflow what the history discloses
pub lacks_over : {Q : Type 0} (e : Engine Q) (h : List Entry) → Stands e h → (sub : ℕ) → is_served sub h ≡ true → (more : List DataRecord)
    → lacks_room_at e.subscriptions (sharing sub more) ≡ overflows e.limits (disclosed sub h) (waiting_of e sub) more
lacks_over e h so sub on more = there (at e.subscriptions sub) (so.subscriptions sub) where
  there : (o : Option Subscription) → IsLiveAs h e.limits sub o → option_map_or (λ s. lacks_room s.stream more) o false ≡ overflows e.limits (disclosed sub h) (waiting_in o) more
  there None gone = let live : is_live sub h ≡ true = served_is_live sub h on in absurd cc
  there (Some s) is =
      ap (λ (l : StreamLimits). nat_lt 0 (length more) && (nat_lt l.queue (queue_size s.stream.standing + length more) || nat_lt l.shapes (length (shapes_after s.stream.standing.shapes more)))) is.limits_are
      ∙ ap (λ (shapes : List Template). nat_lt 0 (length more) && (nat_lt e.limits.queue (queue_size s.stream.standing + length more) || nat_lt e.limits.shapes (length shapes)))
      (ap (λ (shapes : List Template). shapes_after shapes more) is.stream.shapes ∙ sym (shapes_on (disclosed sub h) more))

-- whether a subscription of this number and name lacks room
abbrev pub lacks_told : SubscriptionRows → ℕ → InForce → List DataRecord → ℕ × List ℕ → Bool
lacks_told t domain f records p = lacks_room_at t (share_told domain f records p)

lacks_is : {Q : Type 0} (e : Engine Q) (h : List Entry) (session number : ℕ) (octets : List ℕ) (domain : ℕ) (f : InForce) (records : List DataRecord)
    → Stands e h → IsAsked h session octets domain f records → (sub : ℕ) → is_served sub h ≡ true
    → lacks_told e.subscriptions domain f records (known h sub) ≡ is_cut_by e.limits h (Message session number octets) (waiting_of e) sub
lacks_is e h session number octets domain f records so is sub on =
    ap (λ more. lacks_room_at e.subscriptions (sharing sub more)) (given_told h session number octets domain f records is sub on)
    ∙ lacks_over e h so sub on (given_at sub h (Message session number octets))

cuts_are : {Q : Type 0} (e : Engine Q) (h : List Entry) (session number : ℕ) (octets : List ℕ) (domain : ℕ) (f : InForce) (records : List DataRecord) (all : List Served)
    → Stands e h → IsAsked h session octets domain f records → map told all ≡ map (known h) (served h)
    → map (λ who. who.sub) (filter (lacks e.subscriptions domain f records) all) ≡ filter (is_cut_by e.limits h (Message session number octets) (waiting_of e)) (served h)
cuts_are e h session number octets domain f records all so is tells =
    sym (map-map number_of told (filter (lacks e.subscriptions domain f records) all))
    ∙ ap (map number_of) (sym (filter-map (lacks_told e.subscriptions domain f records) told all))
    ∙ ap (λ l. map number_of (filter (lacks_told e.subscriptions domain f records) l)) tells
    ∙ ap (map number_of) (filter-map (lacks_told e.subscriptions domain f records) (known h) (served h))
    ∙ map-map number_of (known h) (filter (λ sub. lacks_told e.subscriptions domain f records (known h sub)) (served h))
    ∙ map_unchanged (filter (λ sub. lacks_told e.subscriptions domain f records (known h sub)) (served h))
    ∙ filter_alike (λ sub. lacks_told e.subscriptions domain f records (known h sub)) (is_cut_by e.limits h (Message session number octets) (waiting_of e)) (served h)
    (all_on (λ sub. lacks_told e.subscriptions domain f records (known h sub) ≡ is_cut_by e.limits h (Message session number octets) (waiting_of e) sub) h (lacks_is e h session number octets domain f records so is))

-- ---- who is left

-- one that is served is in what a filter keeps, where it passes
pub in_filter : (h : List Entry) (p : ℕ → Bool) (cuts : List ℕ) (sub : ℕ) → cuts ≡ filter p (served h) → is_served sub h ≡ true → is_in sub cuts ≡ p sub
in_filter h p cuts sub are on = ap (is_in sub) are ∙ is_in-filter p sub (served h) ∙ ap (λ b. p sub && b) (is_in-served sub h ∙ on) ∙ and-true (p sub)

left_told : {Q : Type 0} (e : Engine Q) (h : List Entry) (session number : ℕ) (octets : List ℕ) (domain : ℕ) (f : InForce) (records : List DataRecord) (all : List Served) (cuts : List ℕ)
    → Stands e h → IsAsked h session octets domain f records → map told all ≡ map (known h) (served h)
    → cuts ≡ filter (is_cut_by e.limits h (Message session number octets) (waiting_of e)) (served h)
    → map told (filter (has e.subscriptions domain f records) all) ≡ map (known (after_cuts h cuts)) (served (after_cuts h cuts))
left_told e h session number octets domain f records all cuts so is tells are =
    sym (filter-map (λ p. not (lacks_told e.subscriptions domain f records p)) told all)
    ∙ ap (filter (λ p. not (lacks_told e.subscriptions domain f records p))) tells
    ∙ filter-map (λ p. not (lacks_told e.subscriptions domain f records p)) (known h) (served h)
    ∙ ap (map (known h)) (filter_alike (λ sub. not (lacks_told e.subscriptions domain f records (known h sub))) (λ sub. not (is_in sub cuts)) (served h)
    (all_on (λ sub. not (lacks_told e.subscriptions domain f records (known h sub)) ≡ not (is_in sub cuts)) h
    (λ sub on. ap not (lacks_is e h session number octets domain f records so is sub on ∙ sym (in_filter h (is_cut_by e.limits h (Message session number octets) (waiting_of e)) cuts sub are on)))))
    ∙ ap (map (known h)) (sym (served-cuts h cuts))
    ∙ map_same (known h) (known (after_cuts h cuts)) (served (after_cuts h cuts))
    (all_on (λ sub. known h sub ≡ known (after_cuts h cuts) sub) (after_cuts h cuts) (λ sub on. ap (named sub) (sym (name-cuts sub h cuts))))

-- ---- room

-- where room isn't lacking, there is room for what there is
has_room : (k : KeptStream) (more : List DataRecord) → lacks_room k more ≡ false → 0 < length more → HasStreamRoom k more
has_room k more none some = first (nat_lt 0 (length more)) refl none where
  last : (b c : Bool) → nat_lt k.limits.queue (queue_size k.standing + length more) ≡ b → nat_lt k.limits.shapes (length (shapes_after k.standing.shapes more)) ≡ c → (b || c) ≡ false → HasStreamRoom k more
  last true c f g over = absurd cc
  last false true f g over = absurd cc
  last false false f g over = record { queue = ltb-false k.limits.queue (queue_size k.standing + length more) f; shapes = ltb-false k.limits.shapes (length (shapes_after k.standing.shapes more)) g }

  first : (b : Bool) → nat_lt 0 (length more) ≡ b → (b && (nat_lt k.limits.queue (queue_size k.standing + length more) || nat_lt k.limits.shapes (length (shapes_after k.standing.shapes more)))) ≡ false → HasStreamRoom k more
  first true f over = last (nat_lt k.limits.queue (queue_size k.standing + length more)) (nat_lt k.limits.shapes (length (shapes_after k.standing.shapes more))) refl refl over
  first false f over = absurd (omega (arith, some, ltb-false 0 (length more) f))

pub room_at : {Q : Type 0} (e : Engine Q) (h : List Entry) → Stands e h → (sub : ℕ) → is_served sub h ≡ true → (more : List DataRecord)
    → lacks_room_at e.subscriptions (sharing sub more) ≡ false → HasRoomIn e.subscriptions (sharing sub more)
room_at e h so sub on more none some = there (at e.subscriptions sub) (so.subscriptions sub) none where
  there : (o : Option Subscription) → IsLiveAs h e.limits sub o → option_map_or (λ s. lacks_room s.stream more) o false ≡ false → IsSomeAnd o (λ s. HasStreamRoom s.stream more)
  there None gone over = let live : is_live sub h ≡ true = served_is_live sub h on in absurd cc
  there (Some s) is over = has_room s.stream more over some

pub both_so : (a b : Bool) → (a && not b) ≡ true → (a ≡ true) × (b ≡ false)
both_so true false so = (refl, refl)
both_so true true so = absurd cc
both_so false b so = absurd cc

room_left : {Q : Type 0} (e : Engine Q) (h : List Entry) (session number : ℕ) (octets : List ℕ) (cuts : List ℕ) → Stands e h
    → cuts ≡ filter (is_cut_by e.limits h (Message session number octets) (waiting_of e)) (served h)
    → AllByRecursion (HasRoomIn e.subscriptions) (map (share_at (after_cuts h cuts) (Message session number octets)) (served (after_cuts h cuts)))
room_left e h session number octets cuts so are =
    all_mapped (HasRoomIn e.subscriptions) (share_at (after_cuts h cuts) (Message session number octets)) (served (after_cuts h cuts))
    (all_on (λ sub. HasRoomIn e.subscriptions (share_at (after_cuts h cuts) (Message session number octets) sub)) (after_cuts h cuts)
    (λ sub on. one sub (both_so (is_served sub h) (is_in sub cuts) (sym (is_served-cuts sub h cuts) ∙ on)))) where
      one : (sub : ℕ) → (is_served sub h ≡ true) × (is_in sub cuts ≡ false) → HasRoomIn e.subscriptions (share_at (after_cuts h cuts) (Message session number octets) sub)
      one sub is = subst (λ more. HasRoomIn e.subscriptions (sharing sub more)) (sym (given-cuts sub session number octets h cuts is.1))
          (room_at e h so sub is.0 (given_at sub h (Message session number octets))
          (lacks_over e h so sub is.0 (given_at sub h (Message session number octets)) ∙ sym (in_filter h (is_cut_by e.limits h (Message session number octets) (waiting_of e)) cuts sub are is.0) ∙ is.1))

-- ---- all of it

pub is_judged : {Q : Type 0} (e : Engine Q) (h : List Entry) (session number : ℕ) (octets : List ℕ) (domain : ℕ) (f : InForce) (records : List DataRecord) (all : List Served) (position : ℕ)
    (cuts : List ℕ) (shares : List (ℕ × List DataRecord)) (entries : List AuditEntry)
    → Stands e h → IsAsked h session octets domain f records → position ≡ length h
    → map told all ≡ map (told_in e.subscriptions) e.subscriptions.served
    → cuts ≡ map (λ who. who.sub) (filter (lacks e.subscriptions domain f records) all)
    → shares ≡ shares_of domain f records (filter (has e.subscriptions domain f records) all)
    → entries ≡ map (stamp (position + length cuts)) (notes_of domain f records (filter (has e.subscriptions domain f records) all))
    → AllByRecursion AreStreamed shares
    → IsJudged e h (Message session number octets) cuts shares entries
is_judged e h session number octets domain f records all position cuts shares entries so is counted tells cutting giving noting streamable = record {
  cuts_are = are;
  shares_are = shared;
  entries_are = noting ∙ notes_at (after_cuts h cuts) session number octets domain f records (filter (has e.subscriptions domain f records) all) (position + length cuts) (asked-cuts h session octets domain f records cuts is) left (ap (λ n. n + length cuts) counted ∙ sym (length-cuts h cuts));
  room = subst (AllByRecursion (HasRoomIn e.subscriptions)) (sym shared) (room_left e h session number octets cuts so are);
  streamable = streamable;
} where
  served_are : map told all ≡ map (known h) (served h)
  served_are = all_told e h all so tells

  are : cuts ≡ filter (is_cut_by e.limits h (Message session number octets) (waiting_of e)) (served h)
  are = cutting ∙ cuts_are e h session number octets domain f records all so is served_are

  left : map told (filter (has e.subscriptions domain f records) all) ≡ map (known (after_cuts h cuts)) (served (after_cuts h cuts))
  left = left_told e h session number octets domain f records all cuts so is served_are are

  shared : shares ≡ map (share_at (after_cuts h cuts) (Message session number octets)) (served (after_cuts h cuts))
  shared = giving ∙ shares_at (after_cuts h cuts) session number octets domain f records (filter (has e.subscriptions domain f records) all) (asked-cuts h session octets domain f records cuts is) left

pub is_tallied : {Q : Type 0} (e : Engine Q) (h : List Entry) (session number : ℕ) (octets : List ℕ) (domain : ℕ) (f : InForce) (records : List DataRecord) (all : List Served) (cuts : List ℕ) (tallies : List (ℕ × List Count))
    → Stands e h → IsAsked h session octets domain f records → map told all ≡ map (told_in e.subscriptions) e.subscriptions.served
    → cuts ≡ map (λ who. who.sub) (filter (lacks e.subscriptions domain f records) all)
    → tallies ≡ tallies_of domain f records (filter (has e.subscriptions domain f records) all)
    → AreTallied (after_cuts h cuts) (Message session number octets) tallies
is_tallied e h session number octets domain f records all cuts tallies so is tells cutting adding =
    adding ∙ tallies_at (after_cuts h cuts) session number octets domain f records (filter (has e.subscriptions domain f records) all) (asked-cuts h session octets domain f records cuts is)
    (left_told e h session number octets domain f records all cuts so is (all_told e h all so tells) (cutting ∙ cuts_are e h session number octets domain f records all so is (all_told e h all so tells)))

-- ---- the split, share by share

-- those before a place are split
pub record IsSplit (t : SubscriptionRows) (all : List Served) (shares : List (ℕ × List DataRecord)) (cuts : List ℕ) (left : List Served) (place : ℕ) : Type 0 where
  pub cutting : (domain : ℕ) (f : InForce) (records : List DataRecord) → shares ≡ shares_of domain f records all
      → cuts ≡ map (λ who. who.sub) (filter (lacks t domain f records) (take place all))
  pub leaving : (domain : ℕ) (f : InForce) (records : List DataRecord) → shares ≡ shares_of domain f records all
      → left ≡ filter (has t domain f records) (take place all)

-- whether there is no room for the share at a place
lacks_at : (t : SubscriptionRows) (all : List Served) (shares : List Share) (place : ℕ) (who other : Served) (share : Share) (domain : ℕ) (f : InForce) (records : List DataRecord)
    → place < length all → place < length shares → who ≡ get_or all place other → share ≡ get_or shares place share → map shown shares ≡ shares_of domain f records all
    → lacks_room_at t (shown share) ≡ lacks t domain f records who
lacks_at t all shares place who other share domain f records within inside at is so = ap (lacks_room_at t) (
    ap shown is
    ∙ sym (get_or-map shown shares place share (shown share) inside)
    ∙ ap (λ l. get_or l place (shown share)) so
    ∙ get_or-map (share_of domain f records) all place other (shown share) within
    ∙ ap (share_of domain f records) (sym at))

one_more : (p : Served → Bool) (all : List Served) (place : ℕ) (who other : Served) → place < length all → who ≡ get_or all place other
    → filter p (take (place + 1) all) ≡ filter p (take place all) ++ cond (p who) (who ∷ []) []
one_more p all place who other within at = filter_more p all place other within ∙ ap (λ w. filter p (take place all) ++ cond (p w) (w ∷ []) []) (sym at)

-- one that is cut
pub split_cut : (t : SubscriptionRows) (all : List Served) (shares : List Share) (cuts more : List ℕ) (left : List Served) (place : ℕ) (who other : Served) (share : Share)
    → IsSplit t all (map shown shares) cuts left place → place < length all → place < length shares → who ≡ get_or all place other → share ≡ get_or shares place share
    → lacks_room_at t (shown share) ≡ true → more ≡ cuts ++ who.sub ∷ [] → IsSplit t all (map shown shares) more left (place + 1)
split_cut t all shares cuts more left place who other share so within inside at is lacking grown = record {
  cutting = λ domain f records given.
      grown ∙ ap (λ l. l ++ who.sub ∷ []) (so.cutting domain f records given)
      ∙ sym (map-append (λ w. w.sub) (filter (lacks t domain f records) (take place all)) (who ∷ []))
      ∙ ap (map (λ w. w.sub)) (sym (one_more (lacks t domain f records) all place who other within at
      ∙ ap (λ b. filter (lacks t domain f records) (take place all) ++ cond b (who ∷ []) []) (lacked domain f records given)));
  leaving = λ domain f records given.
      so.leaving domain f records given
      ∙ sym (append-nil (filter (has t domain f records) (take place all)))
      ∙ sym (one_more (has t domain f records) all place who other within at
      ∙ ap (λ b. filter (has t domain f records) (take place all) ++ cond (not b) (who ∷ []) []) (lacked domain f records given));
} where
  lacked : (domain : ℕ) (f : InForce) (records : List DataRecord) → map shown shares ≡ shares_of domain f records all → lacks t domain f records who ≡ true
  lacked domain f records given = sym (lacks_at t all shares place who other share domain f records within inside at is given) ∙ lacking

-- one that is left
pub split_left : (t : SubscriptionRows) (all : List Served) (shares : List Share) (cuts : List ℕ) (left more : List Served) (place : ℕ) (who other : Served) (share : Share)
    → IsSplit t all (map shown shares) cuts left place → place < length all → place < length shares → who ≡ get_or all place other → share ≡ get_or shares place share
    → lacks_room_at t (shown share) ≡ false → more ≡ left ++ who ∷ [] → IsSplit t all (map shown shares) cuts more (place + 1)
split_left t all shares cuts left more place who other share so within inside at is room grown = record {
  cutting = λ domain f records given.
      so.cutting domain f records given
      ∙ ap (map (λ w. w.sub)) (sym (one_more (lacks t domain f records) all place who other within at
      ∙ ap (λ b. filter (lacks t domain f records) (take place all) ++ cond b (who ∷ []) []) (has_it domain f records given)
      ∙ append-nil (filter (lacks t domain f records) (take place all))));
  leaving = λ domain f records given.
      grown ∙ ap (λ l. l ++ who ∷ []) (so.leaving domain f records given)
      ∙ sym (one_more (has t domain f records) all place who other within at
      ∙ ap (λ b. filter (has t domain f records) (take place all) ++ cond (not b) (who ∷ []) []) (has_it domain f records given));
} where
  has_it : (domain : ℕ) (f : InForce) (records : List DataRecord) → map shown shares ≡ shares_of domain f records all → lacks t domain f records who ≡ false
  has_it domain f records given = sym (lacks_at t all shares place who other share domain f records within inside at is given) ∙ room

-- ---- what a split answers, said of lists that were lent

pub record IsSplitOf (t : SubscriptionRows) (domain : ℕ) (f : InForce) (records : List DataRecord) (all : List Served) (cuts : List ℕ) (left : List Served) : Type 0 where
  pub cutting : cuts ≡ map (λ who. who.sub) (filter (lacks t domain f records) all)
  pub leaving : left ≡ filter (has t domain f records) all

pub split_of : (t : SubscriptionRows) (domain : ℕ) (f : InForce) (records : List DataRecord) (all lent lent2 : List Served) (shares lent3 : List Share) (cuts : List ℕ) (left : List Served)
    → lent ≡ all → lent2 ≡ all → lent3 ≡ shares → map shown shares ≡ shares_of domain f records lent
    → ((d : ℕ) (fs : InForce) (xs : List DataRecord) → map shown lent3 ≡ shares_of d fs xs lent2 → cuts ≡ map (λ who. who.sub) (filter (lacks t d fs xs) lent2))
    → ((d : ℕ) (fs : InForce) (xs : List DataRecord) → map shown lent3 ≡ shares_of d fs xs lent2 → left ≡ filter (has t d fs xs) lent2)
    → IsSplitOf t domain f records all cuts left
split_of t domain f records all lent lent2 shares lent3 cuts left one two three sharing cutting leaving = record {
  cutting = cutting domain f records given_so ∙ ap (λ l. map (λ who. who.sub) (filter (lacks t domain f records) l)) two;
  leaving = leaving domain f records given_so ∙ ap (filter (has t domain f records)) two;
} where
  given_so : map shown lent3 ≡ shares_of domain f records lent2
  given_so = ap (map shown) three ∙ sharing ∙ ap (shares_of domain f records) (one ∙ sym two)

-- where none is cut, all are left
pub none_cut : (t : SubscriptionRows) (domain : ℕ) (f : InForce) (records : List DataRecord) (all lent : List Served) (cuts lent2 : List ℕ) (left lent3 : List Served)
    → IsSplitOf t domain f records all cuts left → lent ≡ all → lent2 ≡ cuts → lent3 ≡ left → lent2 ≡ [] → lent ≡ lent3
none_cut t domain f records all lent cuts lent2 left lent3 so one two three none =
    one ∙ sym (kept_all (λ who. who.sub) (lacks t domain f records) all (sym so.cutting ∙ sym two ∙ none)) ∙ sym so.leaving ∙ sym three

-- ---- what judging answers

-- the header of what is meant is that of the message
meaning_header : (older : List (List ℕ)) (octets : List ℕ) (m : Meaning) → meaning_of older octets ≡ Ok m → m.header ≡ header_of octets
unfolding meaning_of
meaning_header older octets m e = found (contents_of older octets) e where
  found : (contents : Result Contents ReadError) → (contents >>= λ c. Ok (record { header = header_of octets; records = c.records; skips = c.skips; gap = gap_of older octets })) ≡ Ok m → m.header ≡ header_of octets
  found (Ok c) e = ap (λ x. x.header) (sym (same_Ok (record { header = header_of octets; records = c.records; skips = c.skips; gap = gap_of older octets }) m e))
  found (Err w) e = absurd cc

pub judges : {Q : Type 0} (e : Engine Q) (position : ℕ) (m : Meaning) (domain : ℕ) (records : List DataRecord) (all : List Served) (cuts : List ℕ) (left lent : List Served) (shares : List Share) (tallies : List Tally) (notes : KeptNotes) (j : Judged)
    → domain ≡ m.header.domain → records ≡ m.records → map told all ≡ map (told_in e.subscriptions) e.subscriptions.served
    → IsSplitOf e.subscriptions domain e.in_force records all cuts left → lent ≡ left
    → map shown shares ≡ shares_of domain e.in_force records lent → map tallied tallies ≡ tallies_of domain e.in_force records lent → notes ≡ kept_notes (most_notes e.audit) (notes_of domain e.in_force records lent)
    → j.cuts.items ≡ cuts → j.shares.items ≡ shares → j.tallies.items ≡ tallies → j.position ≡ position + length cuts → j.notes ≡ notes
    → AllByRecursion AreStreamed (map shown j.shares.items)
    → (h : List Entry) → Stands e h → length h ≡ position → IsJudgedFor e h m j
judges e position m domain records all cuts left lent shares tallies notes j in_domain means tells so lending gives adds noting cut shared counted_too at noted_too streamable = λ h stands counted session number octets meant. record {
  named = named;
  kept = noted_too ∙ noting ∙ ap (λ l. kept_notes (most_notes e.audit) (notes_of domain e.in_force records l)) (lending ∙ so.leaving);
  judged = is_judged e h session number octets domain e.in_force records all position j.cuts.items (map shown j.shares.items) (map (stamp j.position) named) stands (asked h stands session octets meant) (sym counted) tells (cut ∙ so.cutting)
      (ap (map shown) shared ∙ gives ∙ ap (shares_of domain e.in_force records) (lending ∙ so.leaving))
      (ap (λ n. map (stamp n) named) at ∙ ap (λ c. map (stamp (position + length c)) named) (sym cut))
      streamable;
  tallied_are = is_tallied e h session number octets domain e.in_force records all j.cuts.items (map tallied j.tallies.items) stands (asked h stands session octets meant) tells (cut ∙ so.cutting)
      (ap (map tallied) counted_too ∙ adds ∙ ap (tallies_of domain e.in_force records) (lending ∙ so.leaving));
}
  where
    named : List Note
    named = notes_of domain e.in_force records (filter (has e.subscriptions domain e.in_force records) all)

    asked : (h : List Entry) → Stands e h → (session : ℕ) (octets : List ℕ) → meaning_of (messages_of session h) octets ≡ Ok m → IsAsked h session octets domain e.in_force records
    asked h stands session octets meant = record {
      in_force_is = ap (λ p. in_force_with p e.in_force.clock) stands.policy ∙ ap (in_force_with (policy_in_force h)) stands.clock;
      domain_is = in_domain ∙ ap (λ x. x.domain) (meaning_header (messages_of session h) octets m meant);
      records_are = means ∙ ap records_meant (sym meant);
    }

-- ---- whose turn it is

-- the session is open, this is the number of its next message, and it stands for those before
pub record IsTurn (h : List Entry) (session number : ℕ) (o : OpenSession) : Type 0 where
  pub opened : is_open session h ≡ true
  pub turn : number ≡ length (messages_of session h)
  pub stands : StandsFor o.session (messages_of session h)

pub turn_of : {Q : Type 0} (e : Engine Q) (h : List Entry) (session number : ℕ) (o : OpenSession) → Stands e h → IsInTurn e session number o → IsTurn h session number o
turn_of e h session number o so is = there (at_key session e.sessions) (so.sessions session) is.is where
  there : (x : Option OpenSession) → IsSession h session x → IsSomeAnd x (λ s. s ≡ o) → IsTurn h session number o
  there None closed none = absurd none
  there (Some s) stands same = record {
    opened = stands.0;
    turn = is.turn ∙ ap (λ s. s.accepted) (sym same) ∙ stands.1;
    stands = subst (λ s. StandsFor s.session (messages_of session h)) same stands.2;
  }

pow-le-two : (n : ℕ) → n ≤ 2 → 256 ^ n ≤ 65536
pow-le-two n le = pow-le-pow_right (omega arith) le

-- a message that is read has at most 65,535 octets, as its header says
short_message : (older : List (List ℕ)) (octets : List ℕ) (m : Meaning) → AreOctets octets → meaning_of older octets ≡ Ok m → length octets ≤ 65535
unfolding meaning_of contents_of items_of read_header
short_message older octets m are means = sized (ltb (length octets) 16) (eqb (number_at 0 2 octets) 10) (eqb (number_at 2 2 octets) (length octets)) refl refl refl means
  where
    sized : (a b c : Bool) → ltb (length octets) 16 ≡ a → eqb (number_at 0 2 octets) 10 ≡ b → eqb (number_at 2 2 octets) (length octets) ≡ c
        → (read_items (items_of_domain (domain_of octets) older) octets (after_header octets (cond a (Err ShortHeader) (cond b (cond c (Ok (header_of octets)) (Err BadLength)) (Err BadVersion)))) >>= λ k. Ok (record { header = header_of octets; records = k.records; skips = k.skips; gap = gap_of older octets })) ≡ Ok m → length octets ≤ 65535
    sized true b c d e f means = absurd cc
    sized false false c d e f means = absurd cc
    sized false true false d e f means = absurd cc
    sized false true true d e f means = omega (arith, eqb-true (number_at 2 2 octets) (length octets) f, be_value-below (take 2 (drop 2 octets)) (AreOctets-take 2 (drop 2 octets) (AreOctets-drop 2 octets are)), short)
      where
        short : 256 ^ length (take 2 (drop 2 octets)) ≤ 65536
        short = pow-le-two (length (take 2 (drop 2 octets))) (omega (arith, length-take 2 (drop 2 octets)))

-- a message that is read means few records
pub means_few : (older : List (List ℕ)) (octets : List ℕ) (m : Meaning) → AreOctets octets → meaning_of older octets ≡ Ok m → length m.records ≤ 65535
means_few older octets m are means = omega (arith, few_records older octets, ap (λ r. length (records_meant r)) means, short_message older octets m are means)

pub next_reading : {Q : Type 0} (e : Engine Q) (h : List Entry) (session number : ℕ) (octets : List ℕ) (reading : Ahead) (o : OpenSession) → Stands e h → IsInTurn e session number o
    → ((older : List (List ℕ)) → StandsFor o.session older → IsReadingOf older octets reading) → IsNextReading h session number octets reading
next_reading e h session number octets reading o so is reads =
    let turn : IsTurn h session number o = turn_of e h session number o so is in
    record { next = record { opened = turn.opened; turn = turn.turn }; read = reads (messages_of session h) turn.stands }

-- it was prepared by other templates than those of the session
pub is_stale : {Q : Type 0} (e : Engine Q) (h : List Entry) (session number : ℕ) (p : Preparation) (o : OpenSession) → Stands e h → IsInTurn e session number o
    → ((older : List (List ℕ)) → StandsFor o.session older → AgreesWith older p → ⊥) → RefusesPrepared fault.Stale h session number p
is_stale e h session number p o so is refused =
    let turn : IsTurn h session number o = turn_of e h session number o so is in
    (record { opened = turn.opened; turn = turn.turn }, refused (messages_of session h) turn.stands)

pub planned : {Q : Type 0} (e : Engine Q) (h : List Entry) (session number : ℕ) (octets : List ℕ) (p : MessagePlan) (j : Judged) → p.session.0 ≡ session → IsNextReading h session number octets p.reading
    → IsJudgedFor e h p.reading.meaning j → p.cuts ≡ j.cuts → p.shares ≡ j.shares → p.tallies ≡ j.tallies → p.position ≡ j.position → p.notes ≡ j.notes
    → IsPlan e h number octets p
planned e h session number octets p j is next judged cuts shares tallies at notes =
    let here : IsNextReading h p.session.0 number octets p.reading = subst (λ (s : ℕ). IsNextReading h s number octets p.reading) (sym is) next in
    let found : IsJudgedAs e h (Message p.session.0 number octets) j = judged p.session.0 number octets here.read.means in
    record {
      opened = here.next.opened;
      turn = here.next.turn;
      read = here.read;
      named = found.named;
      kept = notes ∙ found.kept;
      judged = subst (λ v. IsJudged e h (Message p.session.0 number octets) v.items (map shown p.shares.items) (map (stamp p.position) found.named)) (sym cuts)
          (subst (λ v. IsJudged e h (Message p.session.0 number octets) j.cuts.items (map shown v.items) (map (stamp p.position) found.named)) (sym shares)
          (subst (λ n. IsJudged e h (Message p.session.0 number octets) j.cuts.items (map shown j.shares.items) (map (stamp n) found.named)) (sym at) found.judged));
      tallied_are = subst (λ v. AreTallied (after_cuts h v.items) (Message p.session.0 number octets) (map tallied p.tallies.items)) (sym cuts)
          (subst (λ v. AreTallied (after_cuts h j.cuts.items) (Message p.session.0 number octets) (map tallied v.items)) (sym tallies)
          found.tallied_are);
    }
