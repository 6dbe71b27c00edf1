-- A replay that stands for a history stands for one entry more, which bears out the cuts that wait.
use Rattle.std.proofs.Common.{◌≡◌, ℕ, ◌+◌, ◌<◌, ◌≤◌, ◌^◌, Bool, true, false, cond, List, [], ◌∷◌, ◌++◌, length, map, Option, Some, None, refl, sym, ap, ◌∙◌, subst, arith, append-nil, length-append}
use Rattle.std.specs.Prelude.{◌≢◌, ◌&&◌, not, filter, IfSome, IsSomeAnd, if◌then◌else◌}
use Rattle.std.specs.List.{AllByRecursion}
use Rattle.std.specs.declared.cmp.Ordering.{Ordering}
use Rattle.std.specs.declared.cmp.Ordering.TheVariants.{Less, Equal, Greater}
use Rattle.std.proofs.lemmas.List.{length_push, length-map}
use Rattle.ipfix_template.specs.DataRecord.{DataRecord}
use Rattle.ipfix_session.specs.Keeping.{at_key}
use Rattle.ipfix_session.specs.ReadAhead.{Ahead, HasRoomFor}
use Rattle.mediator_tables.specs.declared.open_session.OpenSession.{OpenSession}
use Rattle.policy_text.specs.Policies.{nothing as no_policy}
use Rattle.flow_aggregate.specs.Groups.{Sample, Group, group_of}
use Rattle.flow_aggregate.specs.GroupOrder.{group_cmp}
use Rattle.flow_aggregate.specs.Closing.{put_by, put_group, groups_of, closed_of, closed_by}
use Rattle.flow_aggregate.specs.Counts.{Count, count_of}
use Rattle.flow_aggregate.specs.declared.addition.Addition.{Addition}
use Rattle.flow_aggregate.specs.Running.{HeldGroups, Entries, SumsStand as StandsForRecords, is_due, staying}
use Rattle.mediator_tables.specs.declared.tally.Tally.{Tally}
use Rattle.mediator_tables.specs.Adding.{tallied, AllReady, NoneTwice, added_to}
use Rattle.event_journal.specs.declared.limits.TheConstants.{MOST_ENTRIES}
use Rattle.event_journal.specs.declared.entry.Entry.{Entry}
use Rattle.event_journal.specs.declared.entry.Entry.TheVariants.{Message, Advance}
use Rattle.mediator_history.specs.Numbers.{is_in}
use Rattle.mediator_history.specs.Sessions.{is_open}
use Rattle.mediator_history.specs.Subscriptions.{policy_from, policy_in_force, is_served}
use Rattle.mediator_history.specs.Accepted.{records_meant, records_at}
use Rattle.mediator_history.specs.Counting.{clock_in, clock_of, counted_at, running}
use Rattle.mediator_history.specs.Disclosed.{given_at, disclosed}
use Rattle.mediator_history.specs.Auditing.{audit_at, audit_list}
use Rattle.mediator_history.specs.Cuts.{after_cuts}
use Rattle.mediator_history.proofs.HistoryLaws.{disclosed-push, audit-push}
use Rattle.mediator_history.proofs.EntryLaws.{messages_few, audit_same}
use Rattle.mediator_history.proofs.CutLaws.{is_served-cuts}
use Rattle.mediator_history.proofs.CountingLaws.{clock-push, counted_unserved, running_unserved, running-cuts, running-message, running-advance}
use Rattle.mediator_tables.specs.SubscriptionTable.{given_to, shown}
use Rattle.history_verify.specs.Legal.{IsAccepted}
use Rattle.mediator_shares.specs.InForce.{in_force_with}
use Rattle.history_verify.specs.declared.judged.Judged.{Judged}
use Rattle.history_verify.specs.declared.exporters.Exporters.{Exporters}
use Rattle.history_verify.specs.declared.subscribers.Subscribers.{Subscribers}
use Rattle.history_verify.specs.declared.sums.Sums.{Sums}
use Rattle.history_verify.specs.declared.replay.Replay.{Replay}
use Rattle.mediator_tables.specs.Sessions.{IsSession}
use Rattle.history_verify.specs.Parts.{HasRoomToKeep, AreExporters, AreSubscribers, AreSums, SameSums, served_shares, MayCount, HasCounted, AreNoted}
use Rattle.history_verify.specs.Sharing.{GiveAll, IsJudgedEntry}
use Rattle.history_verify.specs.Standing.{MayCutAll, IsSettled, IsCountable, StandsOver, StandsShort, HasTaken, IsSameReplay, IsReadOf}
use Rattle.history_verify.proofs.Stays.{last_stays}
use Rattle.history_verify.proofs.LegalLaws.{settled_cuts}
use Rattle.history_verify.proofs.ExporterLaws.{exporters_stay}
use Rattle.history_verify.proofs.GivingLaws.{served_give, subscribers_given, may_count}
use Rattle.history_verify.proofs.StepLaws.{read_accepted}
use Rattle.history_verify.proofs.Judging.{few_brought}
use Rattle.history_verify.specs.declared.noted.Noted.{Noted}
use Rattle.disclosure_audit.specs.declared.entry.AuditEntry.{AuditEntry}

-- ---- the entry is accepted, and bears out all cuts that wait

settled_taken : (r : Replay) (g h : List Entry) (x : Entry) → StandsOver r g h → IsAccepted h x → AllByRecursion (λ s. given_at s g x ≢ []) r.waiting.items → IsSettled (h ++ x ∷ [])
settled_taken r g h x so is all =
    subst (λ (t : List Entry). IsSettled (t ++ x ∷ [])) (sym so.history_is)
    (settled_cuts g r.waiting.items x so.is_settled so.waiting all (subst (λ (t : List Entry). IsAccepted t x) so.history_is is))

-- what stands behind the history and the entry
pub record IsBehind (r d : Replay) (h : List Entry) (x : Entry) : Type 0 where
  pub none_wait : d.waiting.items ≡ []
  pub position : d.position ≡ r.position + 1
  pub policy : d.in_force.policy ≡ policy_in_force (h ++ x ∷ [])
  pub clock : d.in_force.clock ≡ clock_of (h ++ x ∷ [])
  pub exporters : AreExporters d.exporters (h ++ x ∷ [])
  pub subscribers : AreSubscribers d.subscribers (h ++ x ∷ [])
  pub sums : AreSums d.sums (h ++ x ∷ [])
  pub audit : AreNoted d.audit (audit_list (h ++ x ∷ []))
  pub small : IsCountable (h ++ x ∷ [])

taken_by : (r d : Replay) (g h : List Entry) (x : Entry) → StandsOver r g h → IsAccepted h x → AllByRecursion (λ s. given_at s g x ≢ []) r.waiting.items → IsBehind r d h x → HasTaken d h x
taken_by r d g h x so is all now = record {
  none_wait = now.none_wait;
  stands = record {
    settled = h ++ x ∷ [];
    over = record {
      is_settled = settled_taken r g h x so is all;
      history_is = sym (ap (after_cuts (h ++ x ∷ [])) now.none_wait ∙ append-nil (h ++ x ∷ []));
      waiting = rw now.none_wait tt;
      position = omega (arith, now.position, so.position, length_push h x);
      policy = now.policy;
      clock = now.clock;
      exporters = now.exporters;
      subscribers = now.subscribers;
      sums = now.sums;
      audit = now.audit;
      small = now.small;
    };
  };
}

-- ---- the same, whatever room is made

pub same_replay : (r d : Replay) → d.waiting.items ≡ r.waiting.items → d.position ≡ r.position → d.in_force ≡ r.in_force → ((h : List Entry) → AreExporters r.exporters h → AreExporters d.exporters h)
    → d.subscribers ≡ r.subscribers → ((h : List Entry) → AreSums r.sums h → AreSums d.sums h) → ((list : List AuditEntry) → AreNoted r.audit list → AreNoted d.audit list) → IsSameReplay r d
same_replay r d waiting position in_force exporters subscribers sums audit = record {
  waiting = waiting;
  stands = λ h s. record {
    settled = s.settled;
    over = record {
      is_settled = s.over.is_settled;
      history_is = s.over.history_is ∙ ap (after_cuts s.settled) (sym waiting);
      waiting = subst (MayCutAll s.settled) (sym waiting) s.over.waiting;
      position = position ∙ s.over.position;
      policy = ap (λ f. f.policy) in_force ∙ s.over.policy;
      clock = ap (λ f. f.clock) in_force ∙ s.over.clock;
      exporters = exporters h s.over.exporters;
      subscribers = subst (λ (t : Subscribers). AreSubscribers t h) (sym subscribers) s.over.subscribers;
      sums = sums s.settled s.over.sums;
      audit = audit (audit_list h) s.over.audit;
      small = s.over.small;
    };
  };
}

-- ---- a message

few_read : (h : List Entry) (session number : ℕ) (octets : List ℕ) (reading : Ahead) → IsReadOf h session number octets reading → length reading.meaning.records ≤ 2 ^ 32 → length (records_at h (Message session number octets)) ≤ 2 ^ 32
few_read h session number octets reading is few = omega (arith, few, ap (λ r. length (records_meant r)) is.read.means)

pub small_message : (h : List Entry) (session number : ℕ) (octets : List ℕ) (reading : Ahead) → IsReadOf h session number octets reading → length reading.meaning.records ≤ 2 ^ 32 → IsCountable h → IsCountable (h ++ Message session number octets ∷ [])
small_message h session number octets reading is few so = record {
  listed = λ sub. omega (
    arith,
    so.listed sub,
    few_brought sub h session number octets,
    few_read h session number octets reading is few,
    ap (λ (l : List DataRecord). length l) (disclosed-push sub h (Message session number octets)),
    length-append (disclosed sub h) (given_at sub h (Message session number octets)),
    ap (λ (l : List Sample). length l) (running-message sub h session number octets),
    length-append (running sub h) (counted_at sub h (Message session number octets)),
    length_push h (Message session number octets),
  );
}

-- ---- an advance of the clock

filter_one : {A : Type 0} (p : A → Bool) (x : A) (xs : List A) → length (filter p (x ∷ xs)) ≡ cond (p x) 1 0 + length (filter p xs)
filter_one p x xs = by (p x) where
  by : (b : Bool) → length (cond b (x ∷ filter p xs) (filter p xs)) ≡ cond b 1 0 + length (filter p xs)
  by true = omega arith
  by false = omega arith

one_of : (b : Bool) → cond b 1 0 + cond (not b) 1 0 ≡ 1
one_of true = refl
one_of false = refl

few_put : (p : Group → Bool) (g : Group) (hs : List Group) → length (filter p (put_group g hs)) ≤ length (filter p hs) + cond (p g) 1 0
few_put p g [] = omega (arith, filter_one p g [])
few_put p g (h ∷ hs) = by (group_cmp g h) (few_put p g hs) where
  by : (o : Ordering) → length (filter p (put_group g hs)) ≤ length (filter p hs) + cond (p g) 1 0 → length (filter p (put_by o g h hs (put_group g hs))) ≤ length (filter p (h ∷ hs)) + cond (p g) 1 0
  by Less rest = omega (arith, filter_one p g (h ∷ hs))
  by Equal rest = omega arith
  by Greater rest = omega (arith, filter_one p h (put_group g hs), filter_one p h hs, rest)

few_due : (t : ℕ) (xs : List Sample) → length (filter (is_due t) (groups_of xs)) + length (staying t xs) ≤ length xs
few_due t [] = omega arith
few_due t (x ∷ xs) = omega (arith, few_put (is_due t) (group_of x) (groups_of xs), filter_one (λ c. not (is_due t (group_of c))) x xs, few_due t xs, one_of (is_due t (group_of x)))

-- of what counted, each group that closes gives one record, and leaves no more than the others
few_closed : (t : ℕ) (xs : List Sample) → length (closed_by t xs) + length (staying t xs) ≤ length xs
unfolding closed_by
few_closed t xs = omega (arith, few_due t xs, length-map (filter (is_due t) (groups_of xs)) (closed_of xs))

pub small_advance : (h : List Entry) (t : ℕ) → clock_of h ≤ t → IsCountable h → IsCountable (h ++ Advance t ∷ [])
small_advance h t later so = record {
  listed = λ sub. omega (
    arith,
    so.listed sub,
    few_closed t (running sub h),
    ap (λ (l : List DataRecord). length l) (disclosed-push sub h (Advance t)),
    length-append (disclosed sub h) (closed_by t (running sub h)),
    ap (λ (l : List Sample). length l) (running-advance sub h t later),
    length_push h (Advance t),
  );
}

-- those that are served behind the cuts aren't among them
not_cut : (a b : Bool) → (a && not b) ≡ true → b ≡ false
not_cut true false is = refl
not_cut true true is = absurd cc
not_cut false b is = absurd cc

pub advance_gives : (r : Replay) (g h : List Entry) (t : ℕ) (shares : List (ℕ × List DataRecord)) → StandsOver r g h → ((sub : ℕ) → given_to sub shares ≡ closed_by t (running sub g))
    → GiveAll h (Advance t) (served_shares r.subscribers shares)
advance_gives r g h t shares so closes = served_give r.subscribers h (Advance t) shares so.subscribers (λ sub on. closes sub ∙ ap (closed_by t) (sym (still sub on))) where
  still : (sub : ℕ) → is_served sub h ≡ true → running sub h ≡ running sub g
  still sub on = ap (λ (l : List Entry). running sub l) so.history_is
      ∙ running-cuts sub g r.waiting.items (not_cut (is_served sub g) (is_in sub r.waiting.items) (sym (is_served-cuts sub g r.waiting.items) ∙ ap (is_served sub) (sym so.history_is) ∙ on))

-- ---- the groups of those that are cut go, and the others stay

never : (b : Bool) → (b && not true) ≡ false
never true = refl
never false = refl

not_true : (b : Bool) → (b ≡ true → ⊥) → b ≡ false
not_true true off = absurd (off refl)
not_true false off = refl

cut_off : (r : Replay) (g h : List Entry) → StandsOver r g h → (q : ℕ) → is_in q r.waiting.items ≡ true → is_served q h ≡ false
cut_off r g h so q is = ap (is_served q) so.history_is ∙ is_served-cuts q g r.waiting.items ∙ ap (λ (b : Bool). is_served q g && not b) is ∙ never (is_served q g)

pub sums_same : (s d : Sums) (h : List Entry) → SameSums s d → AreSums s h → AreSums d h
sums_same s d h same so = record { groups = λ q. subst (λ (es : Entries). StandsForRecords es (running q h)) (sym (same.groups q)) (so.groups q) }

pub sums_after : (r : Replay) (g h : List Entry) (s d : Sums) (seen : List ℕ) → StandsOver r g h → seen ≡ r.waiting.items → AreSums s g
    → ((a b : List Entry) → AreSums s a → ((q : ℕ) → is_in q seen ≡ true → running q b ≡ []) → ((q : ℕ) → (is_in q seen ≡ true → ⊥) → running q b ≡ running q a) → AreSums d b) → AreSums d h
sums_after r g h s d seen so same sums gone =
    gone g h sums
    (λ q is. running_unserved q h (cut_off r g h so q (ap (is_in q) (sym same) ∙ is)))
    (λ q off. ap (running q) so.history_is ∙ running-cuts q g r.waiting.items (ap (is_in q) (sym same) ∙ not_true (is_in q seen) off))

-- what was made ready for a message stays so, since nothing counts for those that are cut
pub ready_still : (wanted : Bool) (r : Replay) (g h : List Entry) (session number : ℕ) (octets : List ℕ) (j : Judged) (before after : List (ℕ × HeldGroups)) (seen : List ℕ) (lent : List Tally) (reserved : List (ℕ × List Addition))
    → StandsOver r g h → IsJudgedEntry wanted h (Message session number octets) j → seen ≡ r.waiting.items → lent ≡ j.tallies.items
    → (NoneTwice (map tallied lent) → AllReady before reserved (map tallied lent))
    → ((tallies : List (ℕ × List Count)) → AllReady before reserved tallies → ((q : ℕ) → is_in q seen ≡ true → added_to q tallies ≡ []) → AllReady after reserved tallies)
    → AllReady after reserved (map tallied j.tallies.items)
ready_still wanted r g h session number octets j before after seen lent reserved so judged same is ready stays =
    stays (map tallied j.tallies.items)
    (subst (λ (l : List Tally). NoneTwice (map tallied l) → AllReady before reserved (map tallied l)) is ready judged.apart)
    (λ q among. judged.adds q ∙ ap (map count_of) (counted_unserved q h (Message session number octets) (cut_off r g h so q (ap (is_in q) (sym same) ∙ among))))

-- ---- the session of a message

pub keep_room : (e : Exporters) (h : List Entry) (session : ℕ) (reading : Ahead) → AreExporters e h → is_open session h ≡ true → HasRoomToKeep e session reading → IsSomeAnd (at_key session e.sessions) (λ o. HasRoomFor o.session reading)
keep_room e h session reading so on room = there (at_key session e.sessions) (so.sessions session) room where
  there : (o : Option OpenSession) → IsSession h session o → IfSome o (λ s. HasRoomFor s.session reading) → IsSomeAnd o (λ s. HasRoomFor s.session reading)
  there None off room = absurd cc
  there (Some o) is room = room

pub keep_count : (e : Exporters) (h : List Entry) (session : ℕ) → AreExporters e h → length h ≤ MOST_ENTRIES → IfSome (at_key session e.sessions) (λ o. o.accepted + 1 < 2 ^ 64)
keep_count e h session so short = there (at_key session e.sessions) (so.sessions session) where
  there : (o : Option OpenSession) → IsSession h session o → IfSome o (λ s. s.accepted + 1 < 2 ^ 64)
  there None off = tt
  there (Some o) is = omega (arith, is.1, messages_few session h, short)

-- ---- all of it

pub short_history : (r : Replay) (g h : List Entry) → StandsShort r → StandsOver r g h → length h ≤ MOST_ENTRIES
short_history r g h short so = subst (λ (n : ℕ). n ≤ MOST_ENTRIES) (sym short.stands.over.position ∙ so.position) short.short

pub message_room : (wanted : Bool) (r : Replay) (g h : List Entry) (session number : ℕ) (octets : List ℕ) (reading : Ahead) (j : Judged) → StandsShort r → StandsOver r g h → IsReadOf h session number octets reading
    → length reading.meaning.records ≤ 2 ^ 32 → IsJudgedEntry wanted h (Message session number octets) j → MayCount r.subscribers (map shown j.shares.items)
message_room wanted r g h session number octets reading j short so is few judged =
    may_count r.subscribers h (Message session number octets) (map shown j.shares.items) so.subscribers judged.gives (small_message h session number octets reading is few so.small) (short_history r g h short so)

pub taken_message : (r d : Replay) (g h : List Entry) (session number : ℕ) (octets : List ℕ) (reading : Ahead) (j : Judged) → StandsOver r g h → IsReadOf h session number octets reading
    → length reading.meaning.records ≤ 2 ^ 32 → AllByRecursion (λ s. given_at s g (Message session number octets) ≢ []) r.waiting.items → IsJudgedEntry r.audit.wanted h (Message session number octets) j
    → d.waiting.items ≡ [] → d.position ≡ r.position + 1 → d.in_force ≡ r.in_force → AreExporters d.exporters (h ++ Message session number octets ∷ [])
    → HasCounted (map shown j.shares.items) r.subscribers d.subscribers → AreSums d.sums (h ++ Message session number octets ∷ []) → ((list more : List AuditEntry) → AreNoted r.audit list → j.entries.items ≡ (if r.audit.wanted then more else []) → AreNoted d.audit (list ++ more))
    → HasTaken d h (Message session number octets)
taken_message r d g h session number octets reading j so is few all judged none position in_force exporters counted sums audit =
    taken_by r d g h (Message session number octets) so (read_accepted h session number octets reading is) all (record {
      none_wait = none;
      position = position;
      policy = ap (λ f. f.policy) in_force ∙ so.policy ∙ sym (last_stays policy_from no_policy h (Message session number octets) refl);
      clock = ap (λ f. f.clock) in_force ∙ so.clock ∙ sym (last_stays clock_in 0 h (Message session number octets) refl);
      exporters = exporters;
      subscribers = subscribers_given r.subscribers d.subscribers h (Message session number octets) (map shown j.shares.items) (λ sub. refl) (λ sub. refl) (λ sub. refl) refl judged.gives counted so.subscribers;
      sums = sums;
      audit = subst (AreNoted d.audit) (sym (audit-push h (Message session number octets))) (audit (audit_list h) (audit_at h (Message session number octets)) so.audit judged.entries_are);
      small = small_message h session number octets reading is few so.small;
    })

pub advance_room : (r : Replay) (g h : List Entry) (t : ℕ) (shares : List (ℕ × List DataRecord)) → StandsShort r → StandsOver r g h → clock_of h ≤ t → ((sub : ℕ) → given_to sub shares ≡ closed_by t (running sub g))
    → MayCount r.subscribers (served_shares r.subscribers shares)
advance_room r g h t shares short so later closes =
    may_count r.subscribers h (Advance t) (served_shares r.subscribers shares) so.subscribers (advance_gives r g h t shares so closes) (small_advance h t later so.small) (short_history r g h short so)

pub taken_advance : (r d : Replay) (g h : List Entry) (t : ℕ) (shares : List (ℕ × List DataRecord)) → StandsOver r g h → clock_of h ≤ t
    → AllByRecursion (λ s. given_at s g (Advance t) ≢ []) r.waiting.items → ((sub : ℕ) → given_to sub shares ≡ closed_by t (running sub g))
    → d.waiting.items ≡ [] → d.position ≡ r.position + 1 → d.in_force ≡ in_force_with r.in_force.policy t → d.exporters ≡ r.exporters
    → HasCounted (served_shares r.subscribers shares) r.subscribers d.subscribers → AreSums d.sums (h ++ Advance t ∷ []) → d.audit ≡ r.audit
    → HasTaken d h (Advance t)
taken_advance r d g h t shares so later all closes none position in_force exporters counted sums audit =
    taken_by r d g h (Advance t) so later all (record {
      none_wait = none;
      position = position;
      policy = ap (λ f. f.policy) in_force ∙ so.policy ∙ sym (last_stays policy_from no_policy h (Advance t) refl);
      clock = ap (λ f. f.clock) in_force ∙ sym (clock-push h (Advance t));
      exporters = subst (λ (e : Exporters). AreExporters e (h ++ Advance t ∷ [])) (sym exporters) (exporters_stay r.exporters h (Advance t) (λ session. refl) (λ session. refl) refl so.exporters);
      subscribers = subscribers_given r.subscribers d.subscribers h (Advance t) (served_shares r.subscribers shares) (λ sub. refl) (λ sub. refl) (λ sub. refl) refl (advance_gives r g h t shares so closes) counted so.subscribers;
      sums = sums;
      audit = subst (λ (n : Noted). AreNoted n (audit_list (h ++ Advance t ∷ []))) (sym audit) (subst (AreNoted r.audit) (sym (audit_same h (Advance t) refl)) so.audit);
      small = small_advance h t later so.small;
    })
