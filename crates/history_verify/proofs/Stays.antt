-- What stays of a history where one entry more has no word in it.
use Rattle.std.proofs.Common.{◌≡◌, ◌+◌, List, [], ◌∷◌, ◌++◌, length, Option, None, ap, ◌∙◌, append-nil}
use Rattle.std.specs.Prelude.{unwrap_or}
use Rattle.std.specs.List.{flat_map}
use Rattle.std.proofs.lemmas.List.{length_push}
use Rattle.sequences.specs.Before.{last_of}
use Rattle.sequences.proofs.BeforeLaws.{last_of-push}
use Rattle.event_journal.specs.declared.entry.Entry.{Entry}
use Rattle.mediator_history.proofs.HistoryLaws.{flat_map-push}

pub last_stays : {B : Type 0} (f : Entry → Option B) (start : B) (h : List Entry) (x : Entry) → f x ≡ None → last_of f start (h ++ x ∷ []) ≡ last_of f start h
last_stays {B} f start h x none = last_of-push f start h x ∙ ap (λ (o : Option B). unwrap_or o (last_of f start h)) none

pub list_stays : {A : Type 0} (f : Entry → List A) (h : List Entry) (x : Entry) → f x ≡ [] → flat_map f (h ++ x ∷ []) ≡ flat_map f h
list_stays {A} f h x none = flat_map-push f h x ∙ ap (λ (t : List A). flat_map f h ++ t) none ∙ append-nil (flat_map f h)

pub count_stays : {A : Type 0} (f : Entry → List A) (h : List Entry) (x : Entry) → f x ≡ [] → length (flat_map f (h ++ x ∷ [])) ≡ length (flat_map f h)
count_stays {A} f h x none = ap (λ (t : List A). length t) (list_stays f h x none)

pub list_more : {A : Type 0} (f : Entry → List A) (h : List Entry) (x : Entry) (one : A) → f x ≡ one ∷ [] → flat_map f (h ++ x ∷ []) ≡ flat_map f h ++ one ∷ []
list_more {A} f h x one is = flat_map-push f h x ∙ ap (λ (t : List A). flat_map f h ++ t) is

pub count_more : {A : Type 0} (f : Entry → List A) (h : List Entry) (x : Entry) (one : A) → f x ≡ one ∷ [] → length (flat_map f (h ++ x ∷ [])) ≡ length (flat_map f h) + 1
count_more {A} f h x one is = ap (λ (t : List A). length t) (list_more f h x one is) ∙ length_push (flat_map f h) one
