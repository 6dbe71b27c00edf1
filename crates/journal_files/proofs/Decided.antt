-- When octets that were gathered are those of one entry.
use Rattle.std.proofs.Common.{◌≡◌, ℕ, ◌+◌, ◌≤◌, ◌<◌, Bool, true, false, cond, eqb, List, [], ◌∷◌, ◌++◌, length, take, drop, length-drop, get_or, Option, Some, None, refl, sym, ap, subst, ◌∙◌, arith}
use Rattle.std.specs.Io.KnownBytes.{IsAtEnd}
use Rattle.std.proofs.lemmas.Bool.{eqb-true}
use Rattle.std.proofs.lemmas.List.{take-append-le}
use Rattle.std.proofs.Math.Seq.{drop-append-le}
use Rattle.sequences.specs.Octets.{be_value, number_at}
use Rattle.sequences.proofs.ResultLaws.{Err-Ok}
use Rattle.journal_files.specs.Reading.{front_number, entry_of, front_of}
use Rattle.journal_files.specs.Gathering.{front_octets, announced, IsFilled, Gathers}
use Rattle.journal_files.specs.Streaming.{IsGathered}
use Rattle.journal_files.proofs.EntryRead.{kind_read}
use Rattle.journal_files.proofs.Extents.{kind_whole, kind_short}

empty : (octets : List ℕ) → length octets ≡ 0 → octets ≡ []
empty [] e = refl
empty (x ∷ octets) e = absurd (omega arith)

-- none are there
pub gathered_none : (octets : List ℕ) (left : Option (List ℕ)) → length octets < 1 → IsAtEnd left → IsGathered octets left
unfolding entry_of front_number front_of
gathered_none [] left few end = record { whole = λ e rest eq. absurd (Err-Ok _ _ eq); cut_off = λ eq. end }
gathered_none (x ∷ octets) left few end = absurd (omega arith)

one_front : (n m : ℕ) (o : Option ℕ) → o ≡ Some n → o ≡ Some m → n ≡ m
one_front n m o a b = cc

no_front : (n : ℕ) (o : Option ℕ) → o ≡ None → o ≡ Some n → ⊥
no_front n o a b = cc

-- the first is of no kind
pub gathered_no_kind : (kind : ℕ) (octets : List ℕ) (left : Option (List ℕ)) → front_octets kind ≡ None → IsGathered (kind ∷ octets) left
gathered_no_kind kind octets left none = record {
  whole = λ e rest eq. let w = kind_whole kind octets rest e (sym (kind_read kind octets) ∙ eq) in absurd (no_front w.0 (front_octets kind) none w.1);
  cut_off = λ eq. let s = kind_short kind octets (sym (kind_read kind octets) ∙ eq) in absurd (no_front s.0 (front_octets kind) none s.1);
}

-- as many as the front tells
pub gathered_all : (kind n : ℕ) (octets : List ℕ) (left : Option (List ℕ)) → front_octets kind ≡ Some n → length octets + 1 ≡ n + announced kind (kind ∷ octets) → IsGathered (kind ∷ octets) left
gathered_all kind n octets left front long = record {
  whole = λ e rest eq. let w = kind_whole kind octets rest e (sym (kind_read kind octets) ∙ eq) in empty rest (let same = one_front n w.0 (front_octets kind) front w.1 in omega (arith, long, w.2));
  cut_off = λ eq. let s = kind_short kind octets (sym (kind_read kind octets) ∙ eq) in absurd (let same = one_front n s.0 (front_octets kind) front s.1 in omega (arith, long, s.2));
}

-- or fewer, at the end
pub gathered_few : (kind n : ℕ) (octets : List ℕ) (left : Option (List ℕ)) → front_octets kind ≡ Some n → length octets + 1 < n + announced kind (kind ∷ octets) → IsAtEnd left → IsGathered (kind ∷ octets) left
gathered_few kind n octets left front few end = record {
  whole = λ e rest eq. let w = kind_whole kind octets rest e (sym (kind_read kind octets) ∙ eq) in absurd (let same = one_front n w.0 (front_octets kind) front w.1 in omega (arith, few, w.2));
  cut_off = λ eq. end;
}

-- ---- what was filled

pub filled_false : (b : Bool) (n : ℕ) (octets : List ℕ) (left : Option (List ℕ)) → b ≡ false → IsFilled b n octets left → (length octets < n) × IsAtEnd left
filled_false true n octets left e filled = absurd cc
filled_false false n octets left e filled = filled

pub filled_true : (b : Bool) (n : ℕ) (octets : List ℕ) (left : Option (List ℕ)) → b ≡ true → IsFilled b n octets left → length octets ≡ n
filled_true true n octets left e filled = filled
filled_true false n octets left e filled = absurd cc

pub single : (octets : List ℕ) (kind : ℕ) → length octets ≡ 1 → kind ≡ get_or octets 0 kind → octets ≡ kind ∷ []
single [] kind one at = absurd (omega arith)
single (x ∷ octets) kind one at = rw (empty octets (omega (arith, one))) (ap (λ (n : ℕ). n ∷ []) (sym at))

pub no_kind : (octets : List ℕ) (kind : ℕ) (found : Option ℕ) (left : Option (List ℕ)) → octets ≡ kind ∷ [] → found ≡ front_octets kind → ((x : ℕ) → found ≡ Some x → ⊥) → IsGathered octets left
no_kind octets kind None left e is other = subst (λ t. IsGathered t left) (sym e) (gathered_no_kind kind [] left (sym is))
no_kind octets kind (Some x) left e is other = absurd (other x refl)

pub gathered_front : (kind n : ℕ) (one two : List ℕ) (given left : Option (List ℕ)) → one ≡ kind ∷ [] → Gathers given left one two → front_octets kind ≡ Some n → (length two < n) × IsAtEnd left → IsGathered two left
gathered_front kind n one two given left is g front few =
    let joined : two ≡ kind ∷ g.piece = g.joined ∙ ap (λ (t : List ℕ). t ++ g.piece) is in
    subst (λ t. IsGathered t left) (sym joined) (gathered_few kind n g.piece left front (omega (arith, few.0, ap (λ (t : List ℕ). length t) joined)) few.1)

-- ---- what the front announces

number_at_front : (place width : ℕ) (front body : List ℕ) → place + width ≤ length front → number_at place width (front ++ body) ≡ number_at place width front
number_at_front place width front body long =
    ap (λ (t : List ℕ). be_value (take width t)) (drop-append-le place front body (omega (arith, long)))
    ∙ ap be_value (take-append-le width (drop place front) body (omega (arith, long, length-drop place front)))

same_test : (b : Bool) (x y u v : ℕ) → (b ≡ true → x ≡ y) → (b ≡ false → u ≡ v) → cond b x u ≡ cond b y v
same_test true x y u v here there = here refl
same_test false x y u v here there = there refl

front_is : (kind i n m : ℕ) (front : List ℕ) → eqb kind i ≡ true → front_octets i ≡ Some m → front_octets kind ≡ Some n → length front ≡ n → length front ≡ m
front_is kind i n m front is at front_of long =
    let same : front_octets kind ≡ front_octets i = ap front_octets (eqb-true kind i is) in
    let equal = one_front m n (front_octets i) at (sym same ∙ front_of) in omega (arith, equal, long)

announced_front : (kind n : ℕ) (front body : List ℕ) → front_octets kind ≡ Some n → length front ≡ n → announced kind (front ++ body) ≡ announced kind front
unfolding announced front_octets
announced_front kind n front body at long =
    same_test (eqb kind 3) _ _ _ _ (λ is. number_at_front 17 4 front body (let l = front_is kind 3 n 21 front is refl at long in omega (arith, l)))
    (λ n3. same_test (eqb kind 4) _ _ _ _ (λ is. number_at_front 1 8 front body (let l = front_is kind 4 n 9 front is refl at long in omega (arith, l)))
    (λ n4. same_test (eqb kind 5) _ _ _ _ (λ is. number_at_front 9 1 front body (let l = front_is kind 5 n 10 front is refl at long in omega (arith, l)))
    (λ n5. refl)))

filled_body : (kind n : ℕ) (octets : List ℕ) (left : Option (List ℕ)) (wanted : ℕ) (b : Bool) → front_octets kind ≡ Some n → wanted ≡ n + announced kind (kind ∷ octets) → IsFilled b wanted (kind ∷ octets) left → IsGathered (kind ∷ octets) left
filled_body kind n octets left wanted true front e filled = gathered_all kind n octets left front (omega (arith, e, filled))
filled_body kind n octets left wanted false front e filled = gathered_few kind n octets left front (omega (arith, e, filled.0)) filled.1

pub gathered_body : (kind n more : ℕ) (one two three : List ℕ) (given now left : Option (List ℕ)) (b : Bool) → one ≡ kind ∷ [] → Gathers given now one two → Gathers now left two three → front_octets kind ≡ Some n → length two ≡ n → more ≡ announced kind two → IsFilled b (n + more) three left → IsGathered three left
gathered_body kind n more one two three given now left b is g h front long announces filled =
    let first : two ≡ kind ∷ g.piece = g.joined ∙ ap (λ (t : List ℕ). t ++ g.piece) is in
    let joined : three ≡ kind ∷ (g.piece ++ h.piece) = h.joined ∙ ap (λ (t : List ℕ). t ++ h.piece) first in
    let told : announced kind three ≡ more = ap (announced kind) h.joined ∙ announced_front kind n two h.piece front long ∙ sym announces in
    let wanted : n + more ≡ n + announced kind (kind ∷ (g.piece ++ h.piece)) = ap (λ (i : ℕ). n + i) (sym told ∙ ap (announced kind) joined) in
    subst (λ t. IsGathered t left) (sym joined) (filled_body kind n (g.piece ++ h.piece) left (n + more) b front wanted (subst (λ t. IsFilled b (n + more) t left) joined filled))
