-- A run that is opened, or refused.
use Rattle.std.proofs.Common.{◌≡◌, ℕ, inl, inr, true, false, List, [], ◌∷◌, length, Option, Some, None, refl, sym, ap, ◌∙◌, subst, arith}
use Rattle.std.specs.List.{All}
use Rattle.std.proofs.lemmas.List.{drop_all}
use Rattle.std.proofs.lemmas.List.Elements.{All-nil, All-cons}
use Rattle.subscriber_stream.specs.declared.limits.StreamLimits.{StreamLimits}
use Rattle.disclosure_audit.specs.declared.entry.AuditEntry.{AuditEntry}
use Rattle.event_journal.specs.declared.entry.Entry.{Entry}
use Rattle.event_journal.specs.declared.entry.Entry.TheVariants.{Open, Edit, Subscribe}
use Rattle.event_journal.specs.Counted.{CountedEntries}
use Rattle.event_journal.specs.Room.{HasRoomAfter}
use Rattle.event_journal.specs.Spelled.{IsSpelled}
use Rattle.mediator_history.proofs.HistoryLaws.{octets-push}
use Rattle.mediator_tables.specs.declared.subscription.Subscription.{Subscription}
use Rattle.mediator_tables.specs.SubscriptionTable.{at}
use Rattle.mediator_state.specs.declared.state.State.{State}
use Rattle.mediator_state.specs.declared.fault.Fault.{Fault as MediatorFault}
use Rattle.mediator_state.specs.declared.fault.Fault.TheVariants as fault
use Rattle.mediator_state.specs.Standing.{IsLiveAs}
use Rattle.mediator_state.specs.Seen.{place_in, IsUntouched}
use Rattle.mediator_state.specs.Calls.{StateStandsFor, Accepts, GoesOnBy, EditsAfter, RefusesEdit, SubscribesAfter, RefusesSubscribe, OpensAfter, LacksRoomAfter, HasPolicy}
use Rattle.mediator_offline.specs.declared.run.OfflineRun.{OfflineRun}
use Rattle.mediator_offline.specs.declared.job.OfflineJob.{OfflineJob}
use Rattle.mediator_offline.specs.Offline.{first_edit, first_entries, offline_stream_limits, audit_limit, offline_journal_limits}
use Rattle.mediator_offline.specs.Opening.{RefusesJob}
use Rattle.mediator_offline.specs.Runs.{sizes_tell, RunStands}
use Rattle.mediator_offline.specs.Running.{IsRunOpened}
use Rattle.mediator_offline.proofs.Receiving.{small_of}

-- a state that was made stands for no entry, within these limits
pub record IsMade {Q : Type 0} (s : State CountedEntries Q) : Type 0 where
  pub stands : StateStandsFor sizes_tell s []
  pub limits : s.engine.limits ≡ offline_stream_limits
  pub audit : s.engine.audit.limit ≡ audit_limit
  pub journal : s.chronicle.limits ≡ offline_journal_limits

pub made : {Q : Type 0} (s : State CountedEntries Q) (c : CountedEntries) → c ≡ record { count = 0; octets = 0; limits = offline_journal_limits; spare = 0 } → (sizes_tell c [] → StateStandsFor sizes_tell s []) → s.chronicle ≡ c → s.engine.limits ≡ offline_stream_limits
    → s.engine.audit.limit ≡ audit_limit → IsMade s
made s c is stands kept limits audit = record {
  stands = stands (record { entries = ap (λ t. t.count) is; sizes = ap (λ t. t.octets) is });
  limits = limits;
  audit = audit;
  journal = ap (λ t. t.limits) (kept ∙ is);
}

-- a call leaves the limits
pub record Keeps {Q : Type 0} (a b : State CountedEntries Q) : Type 0 where
  pub untouched : IsUntouched a.engine b.engine
  pub journaled : b.chronicle.limits ≡ a.chronicle.limits

abbrev pub EditsAll : {Q : Type 0} → State CountedEntries Q → List ℕ → ℕ → State CountedEntries Q → Type 0
EditsAll a text n b = GoesOnBy sizes_tell (λ t. t.limits) a b (EditsAfter text n)

abbrev pub SubscribesAll : {Q : Type 0} → State CountedEntries Q → List ℕ → ℕ → State CountedEntries Q → Type 0
SubscribesAll a name n b = GoesOnBy sizes_tell (λ t. t.limits) a b (SubscribesAfter name n)

abbrev pub OpensAll : {Q : Type 0} → State CountedEntries Q → ℕ → State CountedEntries Q → Type 0
OpensAll a n b = GoesOnBy sizes_tell (λ t. t.limits) a b (OpensAfter n)

pub edited_stands : {Q : Type 0} (a b : State CountedEntries Q) (job : OfflineJob) (n : ℕ) → IsMade a → EditsAll a job.policy.now n b → StateStandsFor sizes_tell b (first_edit job)
edited_stands a b job n m e = (e [] m.stands).accepts.stands

pub subscribed_stands : {Q : Type 0} (a b c : State CountedEntries Q) (job : OfflineJob) (n k : ℕ) → IsMade a → EditsAll a job.policy.now n b → SubscribesAll b job.name.now k c → StateStandsFor sizes_tell c (Edit job.policy.now ∷ Subscribe 1 job.name.now ∷ [])
subscribed_stands a b c job n k m e s =
    let got = s (first_edit job) (edited_stands a b job n m e) in
    subst (λ i. StateStandsFor sizes_tell c (Edit job.policy.now ∷ Subscribe i job.name.now ∷ [])) got.number got.accepts.stands

opened_stands : {Q : Type 0} (a b c d : State CountedEntries Q) (job : OfflineJob) (n k i : ℕ) → IsMade a → EditsAll a job.policy.now n b → SubscribesAll b job.name.now k c → OpensAll c i d → StateStandsFor sizes_tell d (first_entries job)
opened_stands a b c d job n k i m e s o =
    let got = o (Edit job.policy.now ∷ Subscribe 1 job.name.now ∷ []) (subscribed_stands a b c job n k m e s) in
    subst (λ x. StateStandsFor sizes_tell d (Edit job.policy.now ∷ Subscribe 1 job.name.now ∷ Open x ∷ [])) got.number got.accepts.stands

at_start : (limits : StreamLimits) (o : Option Subscription) → IsLiveAs [] limits 1 o → place_in o ≡ 0
at_start limits None is = refl
at_start limits (Some s) is = absurd (no is.live)
  where
    no : false ≡ true → ⊥
    no e = absurd cc

all_spelled : (job : OfflineJob) → All IsSpelled (first_entries job)
all_spelled job =
    All-cons IsSpelled (Edit job.policy.now) (Subscribe 1 job.name.now ∷ Open 1 ∷ []) tt
    (All-cons IsSpelled (Subscribe 1 job.name.now) (Open 1 ∷ []) tt (All-cons IsSpelled (Open 1) [] tt (All-nil IsSpelled)))

room_started : (job : OfflineJob) → HasRoomAfter offline_journal_limits (Edit job.policy.now ∷ Subscribe 1 job.name.now ∷ []) (Open 1 ∷ []) → HasRoomAfter offline_journal_limits [] (first_entries job)
room_started job room = record {
  entries_fit = omega arith;
  octets_fit = omega (arith, room.octets_fit, octets-push (Edit job.policy.now ∷ Subscribe 1 job.name.now ∷ []) (Open 1), octets-push [] (Open 1));
  spelled = all_spelled job;
}

room_open : (job : OfflineJob) → HasRoomAfter offline_journal_limits [] (first_entries job) → HasRoomAfter offline_journal_limits (Edit job.policy.now ∷ Subscribe 1 job.name.now ∷ []) (Open 1 ∷ [])
room_open job room = record {
  entries_fit = omega arith;
  octets_fit = omega (arith, room.octets_fit, octets-push (Edit job.policy.now ∷ Subscribe 1 job.name.now ∷ []) (Open 1), octets-push [] (Open 1));
  spelled = All-cons IsSpelled (Open 1) [] tt (All-nil IsSpelled);
}

room_named : (job : OfflineJob) → HasRoomAfter offline_journal_limits [] (first_entries job) → HasRoomAfter offline_journal_limits (first_edit job) (Subscribe 1 job.name.now ∷ [])
room_named job room = record {
  entries_fit = omega arith;
  octets_fit = omega (
    arith,
    room.octets_fit,
    octets-push (Edit job.policy.now ∷ Subscribe 1 job.name.now ∷ []) (Open 1),
    octets-push (first_edit job) (Subscribe 1 job.name.now),
    octets-push [] (Subscribe 1 job.name.now),
  );
  spelled = All-cons IsSpelled (Subscribe 1 job.name.now) [] tt (All-nil IsSpelled);
}

pub opened : {Q : Type 0} (d : OfflineRun Q) (a b c : State CountedEntries Q) (job : OfflineJob) (n k i : ℕ) → d.job ≡ job → d.messages ≡ 0 → d.records ≡ 0 → d.sent ≡ 0 → IsMade a
    → Keeps a b → EditsAll a job.policy.now n b → Keeps b c → SubscribesAll b job.name.now k c → Keeps c d.state → OpensAll c i d.state → IsRunOpened d job
opened d a b c job n k i same messages records sent m ab e bc s cd o = record {
  job_is = same;
  job_accepted = record {
    policy = record { policy = (e [] m.stands).policy; spelled = (e [] m.stands).spelled };
    name = named.named;
    room = room;
  };
  stands = stands;
  small = small_of d (first_entries job) 0 stands (omega arith) (omega (arith, room.octets_fit)) (omega arith);
  quiet = stands.state.stands.audit.waiting ∙ ap (λ (l : List AuditEntry). length l) (drop_all d.state.engine.audit.standing.drained [] (omega arith));
  sent = sent;
}
  where
    h2 : List Entry
    h2 = Edit job.policy.now ∷ Subscribe 1 job.name.now ∷ []

    named : SubscribesAfter job.name.now k (first_edit job) (Accepts sizes_tell (λ t. t.limits) b c (first_edit job))
    named = s (first_edit job) (edited_stands a b job n m e)

    last : OpensAfter i h2 (Accepts sizes_tell (λ t. t.limits) c d.state h2)
    last = o h2 (subscribed_stands a b c job n k m e s)

    journal : c.chronicle.limits ≡ offline_journal_limits
    journal = bc.journaled ∙ ab.journaled ∙ m.journal

    room : HasRoomAfter offline_journal_limits [] (first_entries job)
    room = room_started job (subst (λ x. HasRoomAfter offline_journal_limits h2 (Open x ∷ [])) last.number (subst (λ l. HasRoomAfter l h2 (Open i ∷ [])) journal last.accepts.room))

    stands : RunStands d (first_entries job) 0
    stands = record {
      state = opened_stands a b c d.state job n k i m e s o;
      place = cd.untouched.places 1 ∙ bc.untouched.places 1 ∙ ab.untouched.places 1 ∙ at_start a.engine.limits (at a.engine.subscriptions 1) (m.stands.stands.subscriptions 1);
      serving = refl;
      alone = refl;
      opened = refl;
      limited = record {
        limits = cd.untouched.limits ∙ bc.untouched.limits ∙ ab.untouched.limits ∙ m.limits;
        audit = cd.untouched.audit_limit ∙ bc.untouched.audit_limit ∙ ab.untouched.audit_limit ∙ m.audit;
        journal = cd.journaled ∙ journal;
      };
      messages = messages;
      counted = refl;
      records = records;
    }

-- ---- refusals

pub edit_refused : {Q : Type 0} (f : MediatorFault) (a : State CountedEntries Q) (job : OfflineJob) → IsMade a → RefusesEdit f a.chronicle.limits [] job.policy.now → RefusesJob f job
edit_refused fault.JournalFull a job m x = (x.0, inl (λ room. x.1 (subst (λ l. HasRoomAfter l [] (first_edit job)) (sym m.journal) room)))
edit_refused (fault.Policy why) a job m x = x
edit_refused fault.OutOfMemory a job m x = tt
edit_refused _ a job m x = absurd x

pub subscribe_refused : {Q : Type 0} (f : MediatorFault) (a b : State CountedEntries Q) (job : OfflineJob) (n : ℕ) → IsMade a → Keeps a b → EditsAll a job.policy.now n b → RefusesSubscribe f b.chronicle.limits (first_edit job) job.name.now → RefusesJob f job
subscribe_refused f a b job n m ab e = by f
  where
    policy : HasPolicy job.policy.now
    policy = record { policy = (e [] m.stands).policy; spelled = (e [] m.stands).spelled }

    room : HasRoomAfter offline_journal_limits [] (first_edit job)
    room = subst (λ l. HasRoomAfter l [] (first_edit job)) m.journal (e [] m.stands).accepts.room

    no : false ≡ true → ⊥
    no e = absurd cc

    by : (g : MediatorFault) → RefusesSubscribe g b.chronicle.limits (first_edit job) job.name.now → RefusesJob g job
    by fault.BadName x = (policy, room, x)
    by (fault.AlreadySubscribed sub) x = absurd (no x.1)
    by fault.JournalFull x = (policy, inr (x.0, λ all. x.2 (subst (λ l. HasRoomAfter l (first_edit job) (Subscribe 1 job.name.now ∷ [])) (sym (ab.journaled ∙ m.journal)) (room_named job all))))
    by fault.OutOfMemory x = tt
    by _ x = absurd x.2

pub open_refused : {Q : Type 0} (f : MediatorFault) (a b c : State CountedEntries Q) (job : OfflineJob) (n k : ℕ) → IsMade a → Keeps a b → EditsAll a job.policy.now n b → Keeps b c → SubscribesAll b job.name.now k c
    → LacksRoomAfter f c.chronicle.limits (Edit job.policy.now ∷ Subscribe 1 job.name.now ∷ []) (Open 1 ∷ []) → RefusesJob f job
open_refused f a b c job n k m ab e bc s = by f
  where
    by : (g : MediatorFault) → LacksRoomAfter g c.chronicle.limits (Edit job.policy.now ∷ Subscribe 1 job.name.now ∷ []) (Open 1 ∷ []) → RefusesJob g job
    by fault.JournalFull x = (
      record { policy = (e [] m.stands).policy; spelled = (e [] m.stands).spelled },
      inr (
        (s (first_edit job) (edited_stands a b job n m e)).named,
        λ all. x (subst (λ l. HasRoomAfter l (Edit job.policy.now ∷ Subscribe 1 job.name.now ∷ []) (Open 1 ∷ [])) (sym (bc.journaled ∙ ab.journaled ∙ m.journal)) (room_open job all)),
      ),
    )
    by fault.OutOfMemory x = tt
    by _ x = absurd x
