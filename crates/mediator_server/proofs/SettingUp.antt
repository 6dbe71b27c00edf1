-- Setting a plan up.
use Rattle.std.proofs.Common.{◌≡◌, ℕ, ◌+◌, ◌≤◌, ◌<◌, List, [], ◌∷◌, ◌++◌, length, map, take, get_or, refl, sym, ap, ◌∙◌, subst}
use Rattle.std.proofs.lemmas.List.{take_more, map-append, take_all}
use Rattle.std.specs.Prelude.{string_bytes}
use Rattle.event_journal.specs.declared.entry.Entry.{Entry}
use Rattle.event_journal.specs.declared.entry.Entry.TheVariants.{Edit, Subscribe}
use Rattle.shared_mediator.specs.declared.kept.KeptEntry.{KeptEntry}
use Rattle.shared_mediator.specs.Handles.{KeepsEntry}
use Rattle.mediator_connections.specs.declared.collector.Collector.{Collector}
use Rattle.mediator_server.specs.declared.plan.RunPlan.{RunPlan}
use Rattle.mediator_server.specs.Listening.{AreBegins, SetsUp, IsSetUp}

-- the policy was put in force, and subscriptions were begun under these names
pub record IsSettingUp (policy : List ℕ) (names : List (List ℕ)) (kept : List KeptEntry) : Type 0 where
  pub begins : List Entry
  pub entries : map (λ k. k.entry) kept ≡ Edit policy ∷ begins
  pub are : AreBegins names begins

abbrev pub name_of : Collector → List ℕ
name_of collector = string_bytes collector.subscriber

pub edited : (policy : List ℕ) (old new : List KeptEntry) → old ≡ [] → KeepsEntry old (Edit policy) new → IsSettingUp policy [] new
edited policy old new none keeps = record {
  begins = [];
  entries = ap (λ (kept : List KeptEntry). map (λ k. k.entry) kept) (keeps.kept ∙ ap (λ kept. kept ++ record { position = keeps.position; entry = Edit policy } ∷ []) none);
  are = tt;
}

begins_more : (names : List (List ℕ)) (begins : List Entry) (name : List ℕ) (sub : ℕ) → AreBegins names begins → AreBegins (names ++ name ∷ []) (begins ++ Subscribe sub name ∷ [])
begins_more [] [] name sub are = ((sub, refl), tt)
begins_more [] (entry ∷ begins) name sub are = absurd are
begins_more (x ∷ names) [] name sub are = absurd are
begins_more (x ∷ names) (entry ∷ begins) name sub are = (are.0, begins_more names begins name sub are.1)

begun_more : (policy : List ℕ) (names : List (List ℕ)) (name : List ℕ) (sub : ℕ) (old new : List KeptEntry) → IsSettingUp policy names old → KeepsEntry old (Subscribe sub name) new → IsSettingUp policy (names ++ name ∷ []) new
begun_more policy names name sub old new so keeps = record {
  begins = so.begins ++ Subscribe sub name ∷ [];
  entries = ap (λ (kept : List KeptEntry). map (λ k. k.entry) kept) keeps.kept ∙ map-append (λ (k : KeptEntry). k.entry) old (record { position = keeps.position; entry = Subscribe sub name } ∷ []) ∙ ap (λ t. t ++ Subscribe sub name ∷ []) so.entries;
  are = begins_more names so.begins name sub so.are;
}

-- one collector more
pub subscribed : (policy : List ℕ) (items : List Collector) (i : ℕ) (x : Collector) (sub : ℕ) (old new : List KeptEntry) → i < length items → x ≡ get_or items i x
    → IsSettingUp policy (map name_of (take i items)) old → KeepsEntry old (Subscribe sub (name_of x)) new → IsSettingUp policy (map name_of (take (i + 1) items)) new
subscribed policy items i x sub old new low is so keeps =
    subst (λ names. IsSettingUp policy names new)
    (sym (ap (map name_of) (take_more items i x low ∙ ap (λ (y : Collector). take i items ++ y ∷ []) (sym is)) ∙ map-append name_of (take i items) (x ∷ [])))
    (begun_more policy (map name_of (take i items)) (name_of x) sub old new so keeps)

-- all of them
pub set_up : (plan : RunPlan) (i : ℕ) (kept : List KeptEntry) → length plan.deliver.items ≤ i → IsSettingUp (string_bytes plan.policy) (map name_of (take i plan.deliver.items)) kept → SetsUp plan kept
set_up plan i kept all so = record {
  begins = so.begins;
  entries = so.entries;
  are = subst (λ items. AreBegins (map name_of items) so.begins) (take_all i plan.deliver.items all) so.are;
}

-- and the handle comes behind the others
pub is_last : (plan : RunPlan) (others all : List (List KeptEntry)) (first : List KeptEntry) → SetsUp plan first → all ≡ others ++ first ∷ [] → IsSetUp plan all
is_last plan others all first so are = record { others = others; first = first; admins_are = are; set_up = so }
