-- Messages that are offered one after another.
use Rattle.std.proofs.Common.{◌≡◌, ℕ, suc, ◌+◌, List, [], ◌∷◌, ◌++◌, map, length, Result, Ok, Err, refl, sym, ap, ◌∙◌, subst, append-nil, append_assoc, arith, length-append}
use Rattle.std.specs.Result.{IsErr, IsErrAnd, IfErr}
use Rattle.std.proofs.lemmas.List.{length-map, map-append}
use Rattle.event_journal.specs.declared.entry.Entry.TheVariants.{Message}
use Rattle.shared_mediator.specs.declared.kept.KeptEntry.{KeptEntry}
use Rattle.shared_mediator.specs.Locked.{Exporting}
use Rattle.mediator_connections.specs.declared.fault.Fault.{Fault}
use Rattle.mediator_connections.specs.Serving.{messages_from, IsRefusalOf, Offers, RefusesAmong}

-- what is known of an error that was handed on
pub err_gives : {X E : Type 0} {P Q : E → Type 0} (r : Result X E) → IsErr r × IsErrAnd r P → ((e : E) → P e → Q e) → IfErr r Q
err_gives (Ok x) known f = tt
err_gives (Err e) known f = f e known.1

-- ---- entries

messages_from-length : (session n : ℕ) (ms : List (List ℕ)) → length (messages_from session n ms) ≡ length ms
messages_from-length session n [] = refl
messages_from-length session n (m ∷ ms) = ap suc (messages_from-length session (n + 1) ms)

messages_from-append : (session n : ℕ) (ms more : List (List ℕ)) → messages_from session n (ms ++ more) ≡ messages_from session n ms ++ messages_from session (n + length ms) more
messages_from-append session n [] more = ap (λ k. messages_from session k more) none
  where
    none : n ≡ n + 0
    none = omega arith
messages_from-append session n (m ∷ ms) more =
    ap (λ es. Message session n m ∷ es) (messages_from-append session (n + 1) ms more ∙ ap (λ k. messages_from session (n + 1) ms ++ messages_from session k more) next)
  where
    next : n + 1 + length ms ≡ n + length (m ∷ ms)
    next = omega arith

-- ---- offers

pub offers_none : (d : Exporting) → Offers d d []
offers_none d = record { session = refl; receipts = []; kept = sym (append-nil d.kept); entries = refl }

pub offers_one : (old new : Exporting) (message : List ℕ) (position : ℕ) → new.session ≡ old.session
    → new.kept ≡ old.kept ++ record { position = position; entry = Message old.session (length old.kept) message } ∷ [] → Offers old new (message ∷ [])
offers_one old new message position session kept = record { session = session; receipts = record { position = position; entry = Message old.session (length old.kept) message } ∷ []; kept = kept; entries = refl }

-- there are as many receipts as messages
pub receipts_count : (old new : Exporting) (ms : List (List ℕ)) → Offers old new ms → length new.kept ≡ length old.kept + length ms
receipts_count old new ms o =
    omega (arith, ap length o.kept, length-append old.kept o.receipts, length-map o.receipts (λ k. k.entry), ap length o.entries, messages_from-length old.session (length old.kept) ms)

pub offers_then : (old mid new : Exporting) (ms more : List (List ℕ)) → Offers old mid ms → Offers mid new more → Offers old new (ms ++ more)
offers_then old mid new ms more a b = record {
  session = b.session ∙ a.session;
  receipts = a.receipts ++ b.receipts;
  kept = b.kept ∙ ap (λ t. t ++ b.receipts) a.kept ∙ append_assoc old.kept a.receipts b.receipts;
  entries = map-append (λ (k : KeptEntry). k.entry) a.receipts b.receipts ∙ ap (λ t. t ++ map (λ k. k.entry) b.receipts) a.entries
      ∙ ap (λ t. messages_from old.session (length old.kept) ms ++ t) (b.entries ∙ ap (λ s. messages_from s (length mid.kept) more) a.session ∙ ap (λ n. messages_from old.session n more) (receipts_count old mid ms a))
      ∙ sym (messages_from-append old.session (length old.kept) ms more);
}

-- ---- messages in a row

-- these messages of a list were offered, and the rest is left
pub record IsOffering (old d : Exporting) (all rest : List (List ℕ)) : Type 0 where
  pub done : List (List ℕ)
  pub parts : all ≡ done ++ rest
  pub offers : Offers old d done

pub offering_starts : (d : Exporting) (all rest : List (List ℕ)) → rest ≡ all → IsOffering d d all rest
offering_starts d all rest is = record { done = []; parts = sym is; offers = offers_none d }

pub offering_on : (old d e : Exporting) (all more rest : List (List ℕ)) (m : List ℕ) → more ≡ m ∷ rest → IsOffering old d all more → Offers d e (m ∷ []) → IsOffering old e all rest
offering_on old d e all more rest m is so next = record {
  done = so.done ++ m ∷ [];
  parts = so.parts ∙ ap (λ t. so.done ++ t) is ∙ sym (append_assoc so.done (m ∷ []) rest);
  offers = offers_then old d e so.done (m ∷ []) so.offers next;
}

pub offering_ends : (old d : Exporting) (all rest : List (List ℕ)) → rest ≡ [] → IsOffering old d all rest → Offers old d all
offering_ends old d all rest none so = subst (Offers old d) (sym (so.parts ∙ ap (λ t. so.done ++ t) none ∙ append-nil so.done)) so.offers

pub offering_stops : (e : Fault) (old d : Exporting) (all more rest : List (List ℕ)) (m : List ℕ) → IsRefusalOf e m → more ≡ m ∷ rest → IsOffering old d all more → RefusesAmong e old d all
offering_stops e old d all more rest m is here so = record {
  before = so.done;
  message = m;
  later = rest;
  is = is;
  parts = so.parts ∙ ap (λ t. so.done ++ t) here;
  offers = so.offers;
}

-- ---- what was prepared
