-- The policy in force, the names and who is served are decided by the last entry of a kind.
use Rattle.std.proofs.Common.{◌≡◌, ℕ, Bool, true, false, cond, List, [], ◌∷◌, ◌++◌, Option, Some, None, Result, Ok, Err, refl, ap, ◌∙◌, inl, inr}
use Rattle.std.specs.Prelude.{◌==◌, unwrap_or}
use Rattle.std.specs.List.{AllByRecursion}
use Rattle.std.proofs.lemmas.Bool.{eqb-true, eq-eqb, ne_eqb}
use Rattle.sequences.specs.Before.{last_of, IsLastOr}
use Rattle.sequences.proofs.BeforeLaws.{last_of-append, last_of-found, last_of-only}
use Rattle.policy_text.specs.Policies.{PolicyMeaning as Policy, nothing as no_policy}
use Rattle.policy_text.specs.Parsing.{policy_of}
use Rattle.policy_text.specs.declared.fault.Fault.{Fault as PolicyFault}
use Rattle.event_journal.specs.declared.entry.Entry.{Entry}
use Rattle.event_journal.specs.declared.entry.Entry.TheVariants.{Open, Close, Message, Edit, Subscribe, Unsubscribe, Advance, Cut}
use Rattle.mediator_history.specs.Subscriptions.{policy_or_none, policy_from, policy_in_force, named, name_of, switched, is_served}
use Rattle.mediator_history.specs.LastEntries.{EditsNone, IsPolicyInForce, NamesNone, IsNamed, Stays, IsSubscribed}

pub all_of : {A : Type 0} {P Q : A → Type 0} → ((x : A) → P x → Q x) → (xs : List A) → AllByRecursion P xs → AllByRecursion Q xs
all_of f [] all = tt
all_of f (x ∷ xs) all = (f x all.0, all_of f xs all.1)

-- ---- the policy in force

policy_is : (p q : Policy) → (let s : Policy → Option Policy = λ x. Some x in s p ≡ s q) → p ≡ q
policy_is p q e = cc

-- what an entry that brings a policy is
edit_is : (e : Entry) (policy : Policy) → policy_from e ≡ Some policy → (text : List ℕ) × (e ≡ Edit text) × (policy_of text ≡ Ok policy)
edit_is (Open session) policy is = absurd cc
edit_is (Close session) policy is = absurd cc
edit_is (Message session number octets) policy is = absurd cc
edit_is (Edit text) policy is = (text, refl, spelled (policy_of text) is) where
  spelled : (read : Result Policy PolicyFault) → policy_or_none read ≡ Some policy → read ≡ Ok policy
  spelled (Ok other) same = let ok : Policy → Result Policy PolicyFault = λ x. Ok x in ap ok (policy_is other policy same)
  spelled (Err fault) same = absurd cc
edit_is (Subscribe sub name) policy is = absurd cc
edit_is (Unsubscribe sub) policy is = absurd cc
edit_is (Advance t) policy is = absurd cc
edit_is (Cut sub) policy is = absurd cc

edits_none : (e : Entry) → policy_from e ≡ None → EditsNone e
edits_none e none text policy is spelled = let some : policy_from e ≡ Some policy = ap policy_from is ∙ ap policy_or_none spelled in absurd cc

none_edited : (e : Entry) → EditsNone e → policy_from e ≡ None
none_edited (Open session) none = refl
none_edited (Close session) none = refl
none_edited (Message session number octets) none = refl
none_edited (Edit text) none = refused (policy_of text) (λ policy is. none text policy refl is) where
  refused : (read : Result Policy PolicyFault) → ((policy : Policy) → read ≡ Ok policy → ⊥) → policy_or_none read ≡ None
  refused (Ok policy) none = absurd (none policy refl)
  refused (Err fault) none = refl
none_edited (Subscribe sub name) none = refl
none_edited (Unsubscribe sub) none = refl
none_edited (Advance t) none = refl
none_edited (Cut sub) none = refl

pub policy-found : (h : List Entry) (policy : Policy) → policy_in_force h ≡ policy → IsPolicyInForce h policy
policy-found h policy is = elim (last_of-found policy_from no_policy h policy is) [
  | inl last ↦
      let edit = edit_is last.entry policy last.has in
      inl record {
        before = last.front;
        text = edit.0;
        after = last.back;
        history_is = last.entries_are ∙ ap (λ (e : Entry). last.front ++ e ∷ last.back) edit.1;
        spelled = edit.2;
        none_after = all_of edits_none last.back last.none_after;
      }
  | inr none ↦ inr (all_of edits_none h none.0, none.1)
]

pub policy-only : (h : List Entry) (policy : Policy) → IsPolicyInForce h policy → policy_in_force h ≡ policy
policy-only h policy is = last_of-only policy_from no_policy h policy (last_or is) where
  last_or : IsPolicyInForce h policy → IsLastOr policy_from no_policy h policy
  last_or (inl last) = inl record {
    front = last.before;
    entry = Edit last.text;
    back = last.after;
    entries_are = last.history_is;
    has = ap policy_or_none last.spelled;
    none_after = all_of none_edited last.after last.none_after;
  }
  last_or (inr none) = inr (all_of none_edited h none.0, none.1)

-- ---- the name of a subscription

name_is : (p q : List ℕ) → (let s : List ℕ → Option (List ℕ) = λ x. Some x in s p ≡ s q) → p ≡ q
name_is p q e = cc

-- what an entry that names the subscription is
subscribe_is : (sub : ℕ) (e : Entry) (name : List ℕ) → named sub e ≡ Some name → e ≡ Subscribe sub name
subscribe_is sub (Open session) name is = absurd cc
subscribe_is sub (Close session) name is = absurd cc
subscribe_is sub (Message session number octets) name is = absurd cc
subscribe_is sub (Edit text) name is = absurd cc
subscribe_is sub (Subscribe s other) name is = by_number (s == sub) refl is where
  by_number : (same : Bool) → (s == sub) ≡ same → cond same (Some other) None ≡ Some name → Subscribe s other ≡ Subscribe sub name
  by_number true same at = ap (λ (n : ℕ). Subscribe n other) (eqb-true s sub same) ∙ ap (λ (n : List ℕ). Subscribe sub n) (name_is other name at)
  by_number false same at = absurd cc
subscribe_is sub (Unsubscribe s) name is = absurd cc
subscribe_is sub (Advance t) name is = absurd cc
subscribe_is sub (Cut s) name is = absurd cc

subscribes : (sub : ℕ) (name : List ℕ) → named sub (Subscribe sub name) ≡ Some name
subscribes sub name = rw (eq-eqb sub sub refl) refl

names_none : (sub : ℕ) (e : Entry) → named sub e ≡ None → NamesNone sub e
names_none sub e none name is = let some : named sub e ≡ Some name = ap (named sub) is ∙ subscribes sub name in absurd cc

none_named : (sub : ℕ) (e : Entry) → NamesNone sub e → named sub e ≡ None
none_named sub (Open session) none = refl
none_named sub (Close session) none = refl
none_named sub (Message session number octets) none = refl
none_named sub (Edit text) none = refl
none_named sub (Subscribe s other) none = rw (ne_eqb s sub (λ same. none other (ap (λ (n : ℕ). Subscribe n other) same))) refl
none_named sub (Unsubscribe s) none = refl
none_named sub (Advance t) none = refl
none_named sub (Cut s) none = refl

pub name-found : (sub : ℕ) (h : List Entry) (name : List ℕ) → name_of sub h ≡ name → IsNamed sub h name
name-found sub h name is = elim (last_of-found (named sub) [] h name is) [
  | inl last ↦ inl record {
    before = last.front;
    after = last.back;
    history_is = last.entries_are ∙ ap (λ (e : Entry). last.front ++ e ∷ last.back) (subscribe_is sub last.entry name last.has);
    none_after = all_of (names_none sub) last.back last.none_after;
  }
  | inr none ↦ inr (all_of (names_none sub) h none.0, none.1)
]

pub name-only : (sub : ℕ) (h : List Entry) (name : List ℕ) → IsNamed sub h name → name_of sub h ≡ name
name-only sub h name is = last_of-only (named sub) [] h name (last_or is) where
  last_or : IsNamed sub h name → IsLastOr (named sub) [] h name
  last_or (inl last) = inl record {
    front = last.before;
    entry = Subscribe sub name;
    back = last.after;
    entries_are = last.history_is;
    has = subscribes sub name;
    none_after = all_of (none_named sub) last.after last.none_after;
  }
  last_or (inr none) = inr (all_of (none_named sub) h none.0, none.1)

-- ---- who is served

-- what an entry by which the subscription is served is
begins_is : (sub : ℕ) (e : Entry) → switched sub e ≡ Some true → (name : List ℕ) × (e ≡ Subscribe sub name)
begins_is sub (Open session) is = absurd cc
begins_is sub (Close session) is = absurd cc
begins_is sub (Message session number octets) is = absurd cc
begins_is sub (Edit text) is = absurd cc
begins_is sub (Subscribe s name) is = (name, by_number (s == sub) refl is) where
  by_number : (same : Bool) → (s == sub) ≡ same → cond same (Some true) None ≡ Some true → Subscribe s name ≡ Subscribe sub name
  by_number true same at = ap (λ (n : ℕ). Subscribe n name) (eqb-true s sub same)
  by_number false same at = absurd cc
begins_is sub (Unsubscribe s) is = absurd (by_number (s == sub) is) where
  by_number : (same : Bool) → cond same (Some false) None ≡ Some true → ⊥
  by_number true at = absurd cc
  by_number false at = absurd cc
begins_is sub (Advance t) is = absurd cc
begins_is sub (Cut s) is = absurd (by_number (s == sub) is) where
  by_number : (same : Bool) → cond same (Some false) None ≡ Some true → ⊥
  by_number true at = absurd cc
  by_number false at = absurd cc

-- an entry that switches nothing leaves the subscription
stays : (sub : ℕ) (e : Entry) → switched sub e ≡ None → Stays sub e
stays sub e none = (
  λ is. let off : switched sub (Unsubscribe sub) ≡ Some false = rw (eq-eqb sub sub refl) refl in let at : switched sub e ≡ Some false = ap (switched sub) is ∙ off in absurd cc,
  λ is. let off : switched sub (Cut sub) ≡ Some false = rw (eq-eqb sub sub refl) refl in let at : switched sub e ≡ Some false = ap (switched sub) is ∙ off in absurd cc,
)

-- where the subscription is served, and neither ends nor is cut, it is served still
still : (sub : ℕ) (e : Entry) → Stays sub e → unwrap_or (switched sub e) true ≡ true
still sub (Open session) s = refl
still sub (Close session) s = refl
still sub (Message session number octets) s = refl
still sub (Edit text) s = refl
still sub (Subscribe other name) s = by_number (other == sub) where
  by_number : (same : Bool) → (let at : Option Bool = cond same (Some true) None in unwrap_or at true ≡ true)
  by_number true = refl
  by_number false = refl
still sub (Unsubscribe other) s = rw (ne_eqb other sub (λ same. s.0 (ap (λ (n : ℕ). Unsubscribe n) same))) refl
still sub (Advance t) s = refl
still sub (Cut other) s = rw (ne_eqb other sub (λ same. s.1 (ap (λ (n : ℕ). Cut n) same))) refl

still_served : (sub : ℕ) (h : List Entry) → AllByRecursion (Stays sub) h → last_of (switched sub) true h ≡ true
still_served sub [] all = refl
still_served sub (e ∷ h) all = ap (λ (b : Bool). last_of (switched sub) b h) (still sub e all.0) ∙ still_served sub h all.1

pub served-found : (sub : ℕ) (h : List Entry) → is_served sub h ≡ true → IsSubscribed sub h
served-found sub h is = elim (last_of-found (switched sub) false h true is) [
  | inl last ↦
      let begins = begins_is sub last.entry last.has in
      record {
        before = last.front;
        name = begins.0;
        after = last.back;
        history_is = last.entries_are ∙ ap (λ (e : Entry). last.front ++ e ∷ last.back) begins.1;
        stays = all_of (stays sub) last.back last.none_after;
      }
  | inr none ↦ absurd cc
]

pub served-only : (sub : ℕ) (h : List Entry) → IsSubscribed sub h → is_served sub h ≡ true
served-only sub h is =
    let begins : switched sub (Subscribe sub is.name) ≡ Some true = rw (eq-eqb sub sub refl) refl in
    ap (last_of (switched sub) false) is.history_is
    ∙ last_of-append (switched sub) false is.before (Subscribe sub is.name ∷ is.after)
    ∙ ap (λ (o : Option Bool). last_of (switched sub) (unwrap_or o (last_of (switched sub) false is.before)) is.after) begins
    ∙ still_served sub is.after is.stays
