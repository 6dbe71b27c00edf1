-- What a pull leaves of the histories for which an engine stands.
use Rattle.std.proofs.Common.{◌≡◌, ℕ, Bool, true, false, List, [], Option, Some, None, is_some, refl, sym, ◌∙◌, subst}
use Rattle.std.specs.Prelude.{◌≢◌, ◌==◌}
use Rattle.std.proofs.lemmas.Bool.{eqb-true, eq-eqb}
use Rattle.subscriber_stream.specs.declared.limits.StreamLimits.{StreamLimits}
use Rattle.subscriber_stream.specs.Standing.{StandsAt}
use Rattle.subscriber_stream.specs.Message.{built, place_after}
use Rattle.disclosure_audit.specs.Queue.{KeptAudit, StandsIn, oldest_in}
use Rattle.disclosure_audit.specs.declared.entry.AuditEntry.{AuditEntry}
use Rattle.event_journal.specs.declared.entry.Entry.{Entry}
use Rattle.mediator_history.specs.Subscriptions.{is_live}
use Rattle.mediator_history.specs.Disclosed.{disclosed}
use Rattle.mediator_history.specs.Auditing.{audit_list}
use Rattle.mediator_tables.specs.declared.subscription.Subscription.{Subscription}
use Rattle.mediator_tables.specs.SubscriptionTable.{SubscriptionRows, at, SameTable, Related, PullsOne}
use Rattle.mediator_state.specs.declared.engine.Engine.{Engine}
use Rattle.mediator_state.specs.declared.state.State.{State}
use Rattle.mediator_state.specs.Standing.{place, IsLiveAs, Stands}
use Rattle.mediator_state.specs.Seen.{place_in, IsSameEngine}
use Rattle.mediator_state.specs.Calls.{StateStandsFor, PullsAfter}
use Rattle.mediator_state.proofs.SameLaws.{stands_same}

-- what a pull says of one subscription
record IsPulled (h : List Entry) (limits : StreamLimits) (sub now target : ℕ) (answer : Option (List ℕ)) (o n : Option Subscription) : Type 0 where
  pub live : is_live sub h ≡ true
  pub message : answer ≡ built (disclosed sub h) (place_in o) now target
  pub stands : IsLiveAs h limits sub n
  pub moved : place_in n ≡ place_after (disclosed sub h) (place_in o) target

pulled : (h : List Entry) (limits : StreamLimits) (sub now target : ℕ) (answer : Option (List ℕ)) (o n : Option Subscription) → is_live sub h ≡ true → Related (PullsOne now target answer) o n → IsLiveAs h limits sub o → IsPulled h limits sub now target answer o n
pulled h limits sub now target answer None None live r is = absurd cc
pulled h limits sub now target answer None (Some t) live r is = absurd r
pulled h limits sub now target answer (Some s) None live r is = absurd r
pulled h limits sub now target answer (Some s) (Some t) live r is =
    let after : StandsAt t.stream.standing (disclosed sub h) (place_after (disclosed sub h) (place s.stream.standing) target) = r.gives.stands (disclosed sub h) (place s.stream.standing) is.stream in
    record {
      live = live;
      message = r.gives.answers (disclosed sub h) (place s.stream.standing) is.stream;
      stands = record {
        live = is.live;
        name = r.name ∙ is.name;
        cut = r.is_cut ∙ is.cut;
        stream = subst (λ (p : ℕ). StandsAt t.stream.standing (disclosed sub h) p) (sym after.place) after;
        limits_are = r.limits ∙ is.limits_are;
      };
      moved = after.place;
    }

-- each of the others stays as it was
each_as : (t u : SubscriptionRows) (h : List Entry) (limits : StreamLimits) (sub : ℕ) → ((q : ℕ) → q ≢ sub → at u q ≡ at t q) → ((q : ℕ) → IsLiveAs h limits q (at t q)) → IsLiveAs h limits sub (at u sub) → (q : ℕ) → IsLiveAs h limits q (at u q)
each_as t u h limits sub others all one q = by_number (q == sub) refl where
  by_number : (same : Bool) → (q == sub) ≡ same → IsLiveAs h limits q (at u q)
  by_number true is = subst (λ (n : ℕ). IsLiveAs h limits n (at u n)) (sym (eqb-true q sub is)) one
  by_number false is = subst (λ (o : Option Subscription). IsLiveAs h limits q o) (sym (others q (λ same. let at : (q == sub) ≡ true = eq-eqb q sub same in absurd cc))) (all q)

pub pull_stands : {Q : Type 0} (d : Engine Q) (t : SubscriptionRows) (h : List Entry) (sub now target : ℕ) (answer : Option (List ℕ)) → Stands d h → is_live sub h ≡ true → ((q : ℕ) → q ≢ sub → at t q ≡ at d.subscriptions q) → t.served ≡ d.subscriptions.served → Related (PullsOne now target answer) (at d.subscriptions sub) (at t sub) → Stands (record d { subscriptions = t }) h
pull_stands d t h sub now target answer s live others served r = record {
  policy = s.policy;
  clock = s.clock;
  groups = s.groups;
  edits = s.edits;
  opened = s.opened;
  begun = s.begun;
  sessions = s.sessions;
  subscriptions = each_as d.subscriptions t h d.limits sub others s.subscriptions (pulled h d.limits sub now target answer (at d.subscriptions sub) (at t sub) live r (s.subscriptions sub)).stands;
  served_are = served ∙ s.served_are;
  audit = s.audit;
  limits = s.limits;
  numbered = s.numbered;
  small = s.small;
}

pub pulls : {Q : Type 0} (d : Engine Q) (t : SubscriptionRows) (h : List Entry) (sub now target : ℕ) (answer : Option (List ℕ)) → Stands d h → is_live sub h ≡ true → Related (PullsOne now target answer) (at d.subscriptions sub) (at t sub) → PullsAfter d (record d { subscriptions = t }) sub now target answer h
pulls d t h sub now target answer s live r =
    let one : IsPulled h d.limits sub now target answer (at d.subscriptions sub) (at t sub) = pulled h d.limits sub now target answer (at d.subscriptions sub) (at t sub) live r (s.subscriptions sub) in
    record { live = live; message = one.message; moved = one.moved }

-- the history stays
pub pull_keeps : {C Q : Type 0} (tells : C → List Entry → Type 0) (old : State C Q) (t : SubscriptionRows) (h : List Entry) (sub now target : ℕ) (answer : Option (List ℕ)) → StateStandsFor tells old h → is_live sub h ≡ true → ((q : ℕ) → q ≢ sub → at t q ≡ at old.engine.subscriptions q) → t.served ≡ old.engine.subscriptions.served → Related (PullsOne now target answer) (at old.engine.subscriptions sub) (at t sub)
    → StateStandsFor tells (record { chronicle = old.chronicle; engine = record old.engine { subscriptions = t } }) h
pull_keeps tells old t h sub now target answer s live others served r = record { told = s.told; stands = pull_stands old.engine t h sub now target answer s.stands live others served r }

-- a table that is the same for all that contracts see
pub same_table : {Q : Type 0} (d : Engine Q) (t : SubscriptionRows) → SameTable d.subscriptions t → IsSameEngine d (record d { subscriptions = t })
same_table d t same = record {
  in_force = refl;
  groups = λ n. refl;
  edits = refl;
  opened = refl;
  begun = refl;
  sessions = λ n. refl;
  subscriptions = same;
  audit = refl;
  audit_limit = refl;
  limits = refl;
}

pub pull_fails : {C Q : Type 0} (tells : C → List Entry → Type 0) (old : State C Q) (t : SubscriptionRows) (h : List Entry) → SameTable old.engine.subscriptions t → StateStandsFor tells old h → StateStandsFor tells (record { chronicle = old.chronicle; engine = record old.engine { subscriptions = t } }) h
pull_fails tells old t h same s = record { told = s.told; stands = stands_same old.engine (record old.engine { subscriptions = t }) h (same_table old.engine t same) s.stands }

-- ---- drains

-- where entries are counted alone, none is the oldest
pub counted_none : (most : ℕ) (entries : Option (List AuditEntry)) → is_some entries ≡ false → oldest_in most entries ≡ []
counted_none most None none = refl
counted_none most (Some es) none = absurd cc

-- another audit, which stands in the same list
pub drain_stands : {Q : Type 0} (d : Engine Q) (a : KeptAudit) (h : List Entry) → Stands d h → StandsIn a.standing (audit_list h) → Stands (record d { audit = a }) h
drain_stands d a h s audit = record {
  policy = s.policy;
  clock = s.clock;
  edits = s.edits;
  opened = s.opened;
  begun = s.begun;
  sessions = s.sessions;
  subscriptions = s.subscriptions;
  served_are = s.served_are;
  groups = s.groups;
  audit = audit;
  limits = s.limits;
  numbered = s.numbered;
  small = s.small;
}
