-- A replay that stands for a history stands for one entry more.
use Rattle.std.proofs.Common.{◌≡◌, ℕ, ◌+◌, ◌-◌, ◌<◌, ◌≤◌, Bool, true, false, List, [], ◌∷◌, ◌++◌, length, map, Option, Ok, refl, sym, ap, ◌∙◌, subst, arith, append-nil, append_assoc, inr}
use Rattle.std.specs.Prelude.{◌≢◌, unwrap_or, slice_get, nat_lt, IsTrue, ◌↔◌}
use Rattle.sequences.specs.Before.{last_of}
use Rattle.std.proofs.lemmas.List.{length_push, length-map}
use Rattle.sequences.proofs.BeforeLaws.{last_of-append, last_of-push}
use Rattle.ipfix_template.specs.DataRecord.{DataRecord}
use Rattle.policy_text.specs.Policies.{nothing as no_policy}
use Rattle.policy_text.specs.Parsing.{policy_of}
use Rattle.flow_aggregate.specs.Groups.{Sample}
use Rattle.event_journal.specs.declared.entry.Entry.{Entry}
use Rattle.event_journal.specs.declared.entry.Entry.TheVariants.{Open, Close, Message, Edit, Subscribe, Unsubscribe, Cut}
use Rattle.disclosure_audit.specs.declared.entry.What.TheVariants.{Cut as CutOff}
use Rattle.std.specs.Prelude.{◌==◌}
use Rattle.std.specs.List.{flat_map}
use Rattle.history_verify.specs.declared.count.SubscriptionCount.{SubscriptionCount}
use Rattle.history_verify.specs.Counts.{count_in}
use Rattle.std.proofs.lemmas.Bool.{eqb-true, eqb-false, ltb-true}
use Rattle.mediator_history.proofs.CutLaws.{after_cuts-push}
use Rattle.mediator_history.proofs.HistoryLaws.{audit-push}
use Rattle.mediator_history.specs.Subscriptions.{subscribed_in, subscriptions_begun, is_live, is_served, policy_or_none, policy_from, policy_in_force}
use Rattle.mediator_history.specs.Counting.{clock_in, clock_of, running}
use Rattle.mediator_history.specs.Disclosed.{given_at}
use Rattle.mediator_history.specs.Auditing.{audit_entry, audit_list}
use Rattle.mediator_history.specs.Cuts.{after_cuts}
use Rattle.mediator_history.proofs.CountingLaws.{running-open, running-close, running-edit, running-subscribe, running-cut, running_cut, running_begun, running_unserved, running-unsubscribe, running_ended}
use Rattle.mediator_history.proofs.EntryLaws.{given_same, audit_same}
use Rattle.mediator_shares.specs.InForce.{InForce, in_force_with}
use Rattle.flow_aggregate.specs.Running.{SumsStand as StandsForRecords}
use Rattle.mediator_tables.specs.GroupTable.{groups_at}
use Rattle.history_verify.specs.declared.exporters.Exporters.{Exporters}
use Rattle.history_verify.specs.declared.subscribers.Subscribers.{Subscribers}
use Rattle.history_verify.specs.declared.sums.Sums.{Sums}
use Rattle.history_verify.specs.declared.replay.Replay.{Replay}
use Rattle.history_verify.specs.Legal.{IsAccepted, number_cut, last_cut}
use Rattle.ipfix_session.specs.ReadAhead.{Ahead}
use Rattle.history_verify.specs.Parts.{AreExporters, NeverBegan, AreSubscribers, SameSubscribers, AreSums, AreNoted}
use Rattle.history_verify.specs.Standing.{MayCut, MayCutAll, IsCountable, StandsOver, Repeats, HasTaken, IsSameReplay, IsReadOf}
use Rattle.history_verify.proofs.Stays.{last_stays}
use Rattle.history_verify.proofs.LegalLaws.{settled_none, settled_more}
use Rattle.history_verify.proofs.ExporterLaws.{exporters_stay}
use Rattle.history_verify.proofs.SubscriberLaws.{subscribers_stay, subscribers_same}
use Rattle.history_verify.specs.declared.noted.Noted.{Noted}
use Rattle.disclosure_audit.specs.declared.entry.AuditEntry.{AuditEntry}

-- where no cut waits, the history is settled
none_waits : (r : Replay) (g h : List Entry) → StandsOver r g h → r.waiting.items ≡ [] → g ≡ h
none_waits r g h so none = sym (append-nil g) ∙ sym (so.history_is ∙ ap (after_cuts g) none)

over_itself : (r : Replay) (h : List Entry) → Repeats r h → r.waiting.items ≡ [] → StandsOver r h h
over_itself r h s none = subst (λ (g : List Entry). StandsOver r g h) (none_waits r s.settled h s.over none) s.over

-- ---- groups and bounds

pub sums_stay : (s : Sums) (h g : List Entry) → ((sub : ℕ) → running sub g ≡ running sub h) → AreSums s h → AreSums s g
sums_stay s h g same so = record {
  groups = λ sub. subst (StandsForRecords (groups_at s.groups sub)) (sym (same sub)) (so.groups sub);
}

small_stays : (h : List Entry) (x : Entry) → ((sub : ℕ) → given_at sub h x ≡ []) → ((sub : ℕ) → running sub (h ++ x ∷ []) ≡ running sub h) → IsCountable h → IsCountable (h ++ x ∷ [])
small_stays h x given same so = record {
  listed = λ sub. rw (given_same sub h x (given sub), same sub, length_push h x) (omega (arith, so.listed sub));
}

-- an entry of which the audit names nothing
pub noted_same : (n : Noted) (h : List Entry) (x : Entry) → audit_list (h ++ x ∷ []) ≡ audit_list h → AreNoted n (audit_list h) → AreNoted n (audit_list (h ++ x ∷ []))
noted_same n h x same so = subst (AreNoted n) (sym same) so

-- ---- an entry behind which no cut waits

-- what stands behind the history and the entry, where the entry is accepted
taken : (r d : Replay) (h : List Entry) (x : Entry) → StandsOver r h h → IsAccepted h x → d.waiting ≡ r.waiting → r.waiting.items ≡ [] → d.position ≡ r.position + 1
    → d.in_force.policy ≡ policy_in_force (h ++ x ∷ []) → d.in_force.clock ≡ clock_of (h ++ x ∷ []) → AreExporters d.exporters (h ++ x ∷ []) → AreSubscribers d.subscribers (h ++ x ∷ []) → AreSums d.sums (h ++ x ∷ [])
    → AreNoted d.audit (audit_list (h ++ x ∷ [])) → IsCountable (h ++ x ∷ []) → HasTaken d h x
taken r d h x so is same none position policy clock exporters subscribers sums audit small = record {
  none_wait = empty;
  stands = record {
    settled = h ++ x ∷ [];
    over = record {
      is_settled = settled_more h x so.is_settled is;
      history_is = sym (ap (after_cuts (h ++ x ∷ [])) empty ∙ append-nil (h ++ x ∷ []));
      waiting = rw empty tt;
      position = omega (arith, position, so.position, length_push h x);
      policy = policy;
      clock = clock;
      exporters = exporters;
      subscribers = subscribers;
      sums = sums;
      audit = audit;
      small = small;
    };
  };
} where
  empty : d.waiting.items ≡ []
  empty = ap (λ w. w.items) same ∙ none

pub taken_open : (r : Replay) (e : Exporters) (h : List Entry) (n : ℕ) → Repeats r h → r.waiting.items ≡ [] → n ≡ r.exporters.opened + 1 → AreExporters e (h ++ Open n ∷ []) → HasTaken (record r { position = r.position + 1; exporters = e }) h (Open n)
taken_open r e h n s none next exporters =
    let so = over_itself r h s none in
    taken r (record r { position = r.position + 1; exporters = e }) h (Open n) so (next ∙ ap (λ (m : ℕ). m + 1) so.exporters.opened) refl none refl
    (so.policy ∙ sym (last_stays policy_from no_policy h (Open n) refl)) (so.clock ∙ sym (last_stays clock_in 0 h (Open n) refl)) exporters
    (subscribers_stay r.subscribers h (Open n) (λ sub. refl) (λ sub. refl) (λ sub. refl) refl (λ sub. refl) (λ sub. refl) so.subscribers)
    (sums_stay r.sums h (h ++ Open n ∷ []) (λ sub. running-open sub h n) so.sums)
    (noted_same r.audit h (Open n) (audit_same h (Open n) refl) so.audit) (small_stays h (Open n) (λ sub. refl) (λ sub. running-open sub h n) so.small)

pub taken_close : (r : Replay) (e : Exporters) (h : List Entry) (n : ℕ) → Repeats r h → r.waiting.items ≡ [] → IsAccepted h (Close n) → AreExporters e (h ++ Close n ∷ []) → HasTaken (record r { position = r.position + 1; exporters = e }) h (Close n)
taken_close r e h n s none is exporters =
    let so = over_itself r h s none in
    taken r (record r { position = r.position + 1; exporters = e }) h (Close n) so is refl none refl
    (so.policy ∙ sym (last_stays policy_from no_policy h (Close n) refl)) (so.clock ∙ sym (last_stays clock_in 0 h (Close n) refl)) exporters
    (subscribers_stay r.subscribers h (Close n) (λ sub. refl) (λ sub. refl) (λ sub. refl) refl (λ sub. refl) (λ sub. refl) so.subscribers)
    (sums_stay r.sums h (h ++ Close n ∷ []) (λ sub. running-close sub h n) so.sums)
    (noted_same r.audit h (Close n) (audit_same h (Close n) refl) so.audit) (small_stays h (Close n) (λ sub. refl) (λ sub. running-close sub h n) so.small)

pub taken_edit : (r : Replay) (f : InForce) (h : List Entry) (text : List ℕ) → Repeats r h → r.waiting.items ≡ [] → policy_of text ≡ Ok f.policy → f.clock ≡ r.in_force.clock → HasTaken (record r { position = r.position + 1; in_force = f }) h (Edit text)
taken_edit r f h text s none spelled clock =
    let so = over_itself r h s none in
    taken r (record r { position = r.position + 1; in_force = f }) h (Edit text) so (record { policy = f.policy; spelled = spelled }) refl none refl
    (sym (last_of-push policy_from no_policy h (Edit text) ∙ ap (λ p. unwrap_or (policy_or_none p) (policy_in_force h)) spelled)) (clock ∙ so.clock ∙ sym (last_stays clock_in 0 h (Edit text) refl))
    (exporters_stay r.exporters h (Edit text) (λ session. refl) (λ session. refl) refl so.exporters)
    (subscribers_stay r.subscribers h (Edit text) (λ sub. refl) (λ sub. refl) (λ sub. refl) refl (λ sub. refl) (λ sub. refl) so.subscribers)
    (sums_stay r.sums h (h ++ Edit text ∷ []) (λ sub. running-edit sub h text) so.sums)
    (noted_same r.audit h (Edit text) (audit_same h (Edit text) refl) so.audit) (small_stays h (Edit text) (λ sub. refl) (λ sub. running-edit sub h text) so.small)

-- ---- before any entry

pub stands_new : (r : Replay) → AreNoted r.audit [] → r.waiting.items ≡ [] → r.position ≡ 0 → r.in_force ≡ in_force_with no_policy 0 → AreExporters r.exporters [] → AreSubscribers r.subscribers [] → AreSums r.sums [] → Repeats r []
stands_new r audit waiting position in_force exporters subscribers sums = record {
  settled = [];
  over = record {
    is_settled = settled_none;
    history_is = sym (ap (after_cuts []) waiting);
    waiting = rw waiting tt;
    position = position;
    policy = ap (λ (f : InForce). f.policy) in_force;
    clock = ap (λ (f : InForce). f.clock) in_force;
    exporters = exporters;
    subscribers = subscribers;
    sums = sums;
    audit = audit;
    small = record { listed = λ sub. omega arith };
  };
}

-- ---- a cut waits

cut_waits : (g : List Entry) (ws : List ℕ) (sub : ℕ) → MayCutAll g ws → MayCut (after_cuts g ws) sub → MayCutAll g (ws ++ sub ∷ [])
cut_waits g [] sub may this = (subst (λ (t : List Entry). MayCut t sub) (append-nil g) this, tt)
cut_waits g (w ∷ ws) sub may this = (may.0, cut_waits (g ++ Cut w ∷ []) ws sub may.1 (subst (λ (t : List Entry). MayCut t sub) (sym (append_assoc g (Cut w ∷ []) (map Cut ws))) this))

fewer_run : (q : ℕ) (h : List Entry) (sub : ℕ) → length (running q (h ++ Cut sub ∷ [])) ≤ length (running q h)
fewer_run q h sub = by (q == sub) refl where
  by : (here : Bool) → (q == sub) ≡ here → length (running q (h ++ Cut sub ∷ [])) ≤ length (running q h)
  by true is =
      let none : running q (h ++ Cut sub ∷ []) ≡ [] = subst (λ (n : ℕ). running n (h ++ Cut sub ∷ []) ≡ []) (sym (eqb-true q sub is)) (running_cut sub h) in
      omega (arith, ap (λ (t : List Sample). length t) none)
  by false is = omega (arith, ap (λ (t : List Sample). length t) (running-cut q h sub (λ same. eqb-false q sub is (sym same))))

pub stands_cut : (r d : Replay) (h : List Entry) (sub : ℕ) → Repeats r h → MayCut h sub → d.waiting.items ≡ r.waiting.items ++ sub ∷ [] → ((list : List AuditEntry) → AreNoted r.audit list → AreNoted d.audit (list ++ audit_entry r.position 0 sub CutOff ∷ []))
    → d.position ≡ r.position + 1 → d.in_force ≡ r.in_force → d.exporters ≡ r.exporters → d.sums ≡ r.sums → AreSubscribers d.subscribers (h ++ Cut sub ∷ []) → Repeats d (h ++ Cut sub ∷ [])
stands_cut r d h sub s may waiting audit position in_force exporters sums subscribers = record {
  settled = s.settled;
  over = record {
    is_settled = so.is_settled;
    history_is = ap (λ (t : List Entry). t ++ Cut sub ∷ []) so.history_is ∙ sym (after_cuts-push s.settled r.waiting.items sub) ∙ ap (after_cuts s.settled) (sym waiting);
    waiting = subst (MayCutAll s.settled) (sym waiting) (cut_waits s.settled r.waiting.items sub so.waiting (subst (λ (t : List Entry). MayCut t sub) so.history_is may));
    position = omega (arith, position, so.position, length_push h (Cut sub));
    policy = ap (λ (f : InForce). f.policy) in_force ∙ so.policy ∙ sym (last_stays policy_from no_policy h (Cut sub) refl);
    clock = ap (λ (f : InForce). f.clock) in_force ∙ so.clock ∙ sym (last_stays clock_in 0 h (Cut sub) refl);
    exporters = subst (λ (e : Exporters). AreExporters e (h ++ Cut sub ∷ [])) (sym exporters) (exporters_stay r.exporters h (Cut sub) (λ session. refl) (λ session. refl) refl so.exporters);
    subscribers = subscribers;
    sums = subst (λ (x : Sums). AreSums x s.settled) (sym sums) so.sums;
    audit = subst (AreNoted d.audit) (ap (λ (n : ℕ). audit_list h ++ audit_entry n 0 sub CutOff ∷ []) so.position ∙ sym (audit-push h (Cut sub))) (audit (audit_list h) so.audit);
    small = record { listed = λ q. omega (arith, so.small.listed q, fewer_run q h sub, ap (λ (l : List DataRecord). length l) (given_same q h (Cut sub) refl), length_push h (Cut sub)) };
  };
} where
  so : StandsOver r s.settled h
  so = s.over

-- the number of the last cut that waits, or 0 where none does
last_behind : (v : ℕ) (ws : List ℕ) (d : ℕ) → last_of number_cut v (map Cut ws) ≡ unwrap_or (slice_get (v ∷ ws) (length ws)) d
last_behind v [] d = refl
last_behind v (x ∷ ws) d = last_behind x ws d

last_is : (g : List Entry) (ws : List ℕ) → last_cut g ≡ 0 → last_cut (after_cuts g ws) ≡ unwrap_or (slice_get ws (length ws - 1)) 0
last_is g [] closed = ap last_cut (append-nil g) ∙ closed
last_is g (w ∷ ws) closed =
    let less : length ws ≡ length (w ∷ ws) - 1 = omega arith in
    last_of-append number_cut 0 g (Cut w ∷ map Cut ws) ∙ last_behind w ws 0 ∙ ap (λ (n : ℕ). unwrap_or (slice_get (w ∷ ws) n) 0) less

pub last_seen : (r : Replay) (h : List Entry) (o p : Option ℕ) (seen : List ℕ) (n : ℕ) → Repeats r h → seen ≡ r.waiting.items → o ≡ slice_get seen (length seen - 1) → p ≡ o → n ≡ unwrap_or p 0 → n ≡ last_cut h
last_seen r h o p seen n s lent is copied taken =
    taken ∙ ap (λ (x : Option ℕ). unwrap_or x 0) (copied ∙ is) ∙ ap (λ (ws : List ℕ). unwrap_or (slice_get ws (length ws - 1)) 0) lent
    ∙ sym (last_is s.settled r.waiting.items s.over.is_settled.closed) ∙ ap last_cut (sym s.over.history_is)

pub may_where : (h : List Entry) (sub n : ℕ) (served : Bool) → n ≡ last_cut h → n < sub → served ≡ is_served sub h → IsTrue served ↔ MayCut h sub
may_where h sub n served last above is = (λ on. record { served = sym is ∙ on; above = omega (arith, last, above) }, λ m. is ∙ m.served)

pub may_not_where : (h : List Entry) (sub n : ℕ) → n ≡ last_cut h → sub ≤ n → IsTrue (nat_lt n sub) ↔ MayCut h sub
may_not_where h sub n last low = (λ on. absurd (omega (arith, low, ltb-true n sub on)), λ m. absurd (omega (arith, last, low, m.above)))

-- ---- messages

-- a message that was read is accepted
pub read_accepted : (h : List Entry) (session number : ℕ) (octets : List ℕ) (reading : Ahead) → IsReadOf h session number octets reading → IsAccepted h (Message session number octets)
read_accepted h session number octets reading is = record { opened = is.turn.0; turn = is.turn.1; meaning = reading.meaning; means = is.read.means }

-- ---- subscriptions

begun_count : (t : Subscribers) (h : List Entry) → AreSubscribers t h → length t.begun.items ≡ subscriptions_begun h
begun_count t h so = ap (λ (l : List SubscriptionCount). length l) so.begun ∙ length-map (flat_map subscribed_in h) (count_in h)

pub next_number : (t : Subscribers) (h : List Entry) (sub : ℕ) → AreSubscribers t h → sub ≡ length t.begun.items + 1 → sub ≡ subscriptions_begun h + 1
next_number t h sub so is = omega (arith, is, begun_count t h so)

pub not_next : (t : Subscribers) (h : List Entry) (sub : ℕ) (name : List ℕ) → AreSubscribers t h → (sub ≡ length t.begun.items + 1 → ⊥) → IsAccepted h (Subscribe sub name) → ⊥
not_next t h sub name so other is = other (omega (arith, is.number, begun_count t h so))

still_runs : (t : Subscribers) (h : List Entry) (n : ℕ) (name : List ℕ) → AreSubscribers t h → n ≡ subscriptions_begun h + 1 → (sub : ℕ) → running sub (h ++ Subscribe n name ∷ []) ≡ running sub h
still_runs t h n name so next sub = by (sub == n) refl where
  unbegun : NeverBegan h n
  unbegun = so.unbegun n (inr (omega (arith, next)))

  by : (here : Bool) → (sub == n) ≡ here → running sub (h ++ Subscribe n name ∷ []) ≡ running sub h
  by true is = subst (λ (q : ℕ). running q (h ++ Subscribe n name ∷ []) ≡ running q h) (sym (eqb-true sub n is)) (running_begun n h name unbegun.uncounted ∙ sym (running_unserved n h unbegun.unserved))
  by false is = running-subscribe sub h n name (λ same. eqb-false sub n is (sym same))

pub taken_subscribe : (r : Replay) (t : Subscribers) (h : List Entry) (n : ℕ) (name : List ℕ) → Repeats r h → r.waiting.items ≡ [] → IsAccepted h (Subscribe n name) → AreSubscribers t (h ++ Subscribe n name ∷ []) → HasTaken (record r { position = r.position + 1; subscribers = t }) h (Subscribe n name)
taken_subscribe r t h n name s none is subscribers =
    let so = over_itself r h s none in
    taken r (record r { position = r.position + 1; subscribers = t }) h (Subscribe n name) so is refl none refl
    (so.policy ∙ sym (last_stays policy_from no_policy h (Subscribe n name) refl)) (so.clock ∙ sym (last_stays clock_in 0 h (Subscribe n name) refl))
    (exporters_stay r.exporters h (Subscribe n name) (λ session. refl) (λ session. refl) refl so.exporters) subscribers
    (sums_stay r.sums h (h ++ Subscribe n name ∷ []) (still_runs r.subscribers h n name so.subscribers is.number) so.sums)
    (noted_same r.audit h (Subscribe n name) (audit_same h (Subscribe n name) refl) so.audit) (small_stays h (Subscribe n name) (λ sub. refl) (still_runs r.subscribers h n name so.subscribers is.number) so.small)

pub same_subscribers : (r : Replay) (t : Subscribers) → SameSubscribers r.subscribers t → IsSameReplay r (record r { subscribers = t })
same_subscribers r t same = record {
  waiting = refl;
  stands = λ h s. record {
    settled = s.settled;
    over = record {
      is_settled = s.over.is_settled;
      history_is = s.over.history_is;
      waiting = s.over.waiting;
      position = s.over.position;
      policy = s.over.policy;
      clock = s.over.clock;
      exporters = s.over.exporters;
      subscribers = subscribers_same r.subscribers t h same s.over.subscribers;
      sums = s.over.sums;
      audit = s.over.audit;
      small = s.over.small;
    };
  };
}

fewer_ended : (q : ℕ) (h : List Entry) (sub : ℕ) → length (running q (h ++ Unsubscribe sub ∷ [])) ≤ length (running q h)
fewer_ended q h sub = by (q == sub) refl where
  by : (here : Bool) → (q == sub) ≡ here → length (running q (h ++ Unsubscribe sub ∷ [])) ≤ length (running q h)
  by true is =
      let none : running q (h ++ Unsubscribe sub ∷ []) ≡ [] = subst (λ (n : ℕ). running n (h ++ Unsubscribe sub ∷ []) ≡ []) (sym (eqb-true q sub is)) (running_ended sub h) in
      omega (arith, ap (λ (t : List Sample). length t) none)
  by false is = omega (arith, ap (λ (t : List Sample). length t) (running-unsubscribe q h sub (λ same. eqb-false q sub is (sym same))))

-- the groups of the others stay
pub sums_ended : (r : Replay) (x : Sums) (h : List Entry) (sub : ℕ) → Repeats r h → r.waiting.items ≡ []
    → ((h g : List Entry) → AreSums r.sums h → running sub g ≡ [] → ((q : ℕ) → q ≢ sub → running q g ≡ running q h) → AreSums x g) → AreSums x (h ++ Unsubscribe sub ∷ [])
sums_ended r x h sub s none gone = gone h (h ++ Unsubscribe sub ∷ []) (over_itself r h s none).sums (running_ended sub h) (λ q other. running-unsubscribe q h sub (λ same. other (sym same)))

pub taken_unsubscribe : (r : Replay) (t : Subscribers) (x : Sums) (h : List Entry) (n : ℕ) → Repeats r h → r.waiting.items ≡ [] → is_live n h ≡ true → AreSubscribers t (h ++ Unsubscribe n ∷ []) → AreSums x (h ++ Unsubscribe n ∷ [])
    → HasTaken (record r { position = r.position + 1; subscribers = t; sums = x }) h (Unsubscribe n)
taken_unsubscribe r t x h n s none is subscribers sums =
    let so = over_itself r h s none in
    taken r (record r { position = r.position + 1; subscribers = t; sums = x }) h (Unsubscribe n) so is refl none refl
    (so.policy ∙ sym (last_stays policy_from no_policy h (Unsubscribe n) refl)) (so.clock ∙ sym (last_stays clock_in 0 h (Unsubscribe n) refl))
    (exporters_stay r.exporters h (Unsubscribe n) (λ session. refl) (λ session. refl) refl so.exporters) subscribers sums
    (noted_same r.audit h (Unsubscribe n) (audit_same h (Unsubscribe n) refl) so.audit)
    (record { listed = λ q. omega (arith, so.small.listed q, fewer_ended q h n, ap (λ (l : List DataRecord). length l) (given_same q h (Unsubscribe n) refl), length_push h (Unsubscribe n)) })
