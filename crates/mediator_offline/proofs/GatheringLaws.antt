-- What is gathered to be written in one piece.
use Rattle.std.proofs.Common.{◌≡◌, ℕ, ◌+◌, ◌-◌, ◌<◌, Bool, true, false, List, [], ◌++◌, length, take, Option, Some, None, refl, sym, ap, ◌∙◌, subst, arith, append-nil, append_assoc, length-append}
use Rattle.std.specs.Io.KnownBytes.{Appends, Keeps}
use Rattle.std.proofs.KnownBytes.{Appends-kept}
use Rattle.std.proofs.Math.Seq.{take-append-add}
use Rattle.std.proofs.lemmas.List.{take-append-le}
use Rattle.octet_io.specs.Written.{WritesFront}
use Rattle.mediator_offline.specs.declared.run.OfflineRun.{OfflineRun}
use Rattle.mediator_offline.specs.Ports.{holding}
use Rattle.mediator_offline.specs.Gathering.{and_gathered, IsGatheredFor}

-- ---- what a writer holds with it

-- where nothing is gathered, it is what the writer holds
pub none_gathered : (written : Option (List ℕ)) → and_gathered written [] ≡ written
none_gathered None = refl
none_gathered (Some xs) = ap Some (append-nil xs)

pub same_outputs : (written audited : Option (List ℕ)) (gathered : List ℕ) (failed afailed : Bool) → gathered ≡ [] → holding (and_gathered written gathered) audited failed afailed ≡ holding written audited failed afailed
same_outputs written audited gathered failed afailed none = ap (λ w. holding w audited failed afailed) (ap (and_gathered written) none ∙ none_gathered written)

-- what is gathered more stands behind it
pub gathered_more : (written : Option (List ℕ)) (old new more : List ℕ) → new ≡ old ++ more → Appends (and_gathered written old) (and_gathered written new) more
gathered_more None old new more is = tt
gathered_more (Some xs) old new more is = ap (λ t. xs ++ t) is ∙ sym (append_assoc xs old more)

-- and once that is written, the writer holds it
pub gathered_written : (held holds : Option (List ℕ)) (gathered : List ℕ) → Appends held holds gathered → Keeps (and_gathered held gathered) holds
gathered_written None holds gathered so = tt
gathered_written (Some xs) None gathered so = absurd so
gathered_written (Some xs) (Some ys) gathered so = so

pub more_written : (held holds : Option (List ℕ)) (old new left more : List ℕ) → new ≡ old ++ more → Appends held holds new → left ≡ [] → Appends (and_gathered held old) (and_gathered holds left) more
more_written held holds old new left more is so none =
    subst (λ w. Appends (and_gathered held old) w more) (sym (ap (and_gathered holds) none ∙ none_gathered holds))
    (Appends-kept (and_gathered held old) (and_gathered held new) holds more (gathered_more held old new more is) (gathered_written held holds new so))

-- ---- where the writer fails

-- a front of some octets is one of more octets
pub front_longer : (held holds : Option (List ℕ)) (due more : List ℕ) (n : ℕ) (failed : Bool) → WritesFront held holds due n failed → WritesFront held holds (due ++ more) n failed
front_longer held holds due more n failed front = record {
  short = omega (arith, front.short, length-append due more);
  written = subst (Appends held holds) (sym (take-append-le n due more (omega (arith, front.short)))) front.written;
  failed = front.failed;
}

front_taken : (xs ys zs gathered more before : List ℕ) (n sent : ℕ) → ys ++ gathered ≡ xs ++ before → sent + length gathered ≡ length before + n → zs ≡ ys ++ take n (gathered ++ more) → zs ≡ xs ++ take sent (before ++ more)
front_taken xs ys zs gathered more before n sent is counted at =
    let whole : ys ++ (gathered ++ more) ≡ xs ++ (before ++ more) = sym (append_assoc ys gathered more) ∙ ap (λ t. t ++ more) is ∙ append_assoc xs before more in
    let place : length ys + n ≡ length xs + sent = omega (arith, counted, ap (λ (t : List ℕ). length t) is, length-append ys gathered, length-append xs before) in
    at ∙ sym (take-append-add ys (gathered ++ more) n) ∙ ap (take (length ys + n)) whole ∙ ap (λ k. take k (xs ++ (before ++ more))) place ∙ take-append-add xs (before ++ more) sent

-- the writer failed inside what was gathered, the end of what is due by then, or inside what stands behind
pub stops_inside : (first held holds : Option (List ℕ)) (gathered more before : List ℕ) (n sent : ℕ) (failed : Bool) → Appends first (and_gathered held gathered) before → sent + length gathered ≡ length before + n
    → WritesFront held holds (gathered ++ more) n failed → WritesFront first holds (before ++ more) sent failed
stops_inside first held holds gathered more before n sent failed so counted front = record {
  short = omega (arith, front.short, counted, length-append gathered more, length-append before more);
  written = by first held holds so front.written;
  failed = front.failed;
}
  where
    by : (a b c : Option (List ℕ)) → Appends a (and_gathered b gathered) before → Appends b c (take n (gathered ++ more)) → Appends a c (take sent (before ++ more))
    by None b c is at = tt
    by (Some xs) None c is at = absurd is
    by (Some xs) (Some ys) None is at = absurd at
    by (Some xs) (Some ys) (Some zs) is at = front_taken xs ys zs gathered more before n sent is counted at

-- ---- what is counted

pub nothing_gathered : {Q : Type 0} (d : OfflineRun Q) (gathered : List ℕ) → gathered ≡ [] → IsGatheredFor d gathered
nothing_gathered d gathered none = record { counted = omega (arith, ap (λ (t : List ℕ). length t) none); unasked = λ asked. none }

pub gathered_same : {Q : Type 0} (d e : OfflineRun Q) (gathered left : List ℕ) → IsGatheredFor d gathered → e.job ≡ d.job → e.sent ≡ d.sent → left ≡ gathered → IsGatheredFor e left
gathered_same d e gathered left so job sent same = record {
  counted = omega (arith, so.counted, sent, ap (λ (t : List ℕ). length t) same);
  unasked = λ asked. same ∙ so.unasked (sym (ap (λ j. j.audit) job) ∙ asked);
}

pub gathered_on : {Q : Type 0} (d e : OfflineRun Q) (gathered new more : List ℕ) → IsGatheredFor d gathered → e.sent ≡ d.sent + length more → new ≡ gathered ++ more → (e.job.audit ≡ true → ⊥) → IsGatheredFor e new
gathered_on d e gathered new more so sent is unasked = record {
  counted = omega (arith, so.counted, sent, ap (λ (t : List ℕ). length t) is, length-append gathered more);
  unasked = λ asked. absurd (unasked asked);
}

-- where something is gathered, the audit isn't asked for
pub is_unasked : {Q : Type 0} (d : OfflineRun Q) (gathered : List ℕ) → IsGatheredFor d gathered → 0 < length gathered → d.job.audit ≡ true → ⊥
is_unasked d gathered so some asked = absurd (omega (arith, some, ap (λ (t : List ℕ). length t) (so.unasked asked)))

pub nothing_left : {P : Type 0} (left : List ℕ) → left ≡ [] → 0 < length left → P
nothing_left left none some = absurd (omega (arith, some, ap (λ (t : List ℕ). length t) none))

pub differs : false ≡ true → ⊥
differs e = absurd cc

pub is_false : (b : Bool) → (b ≡ true → ⊥) → b ≡ false
is_false true never = absurd (never refl)
is_false false never = refl

-- where the writer failed inside what was gathered, there is some
pub some_gathered : (gathered : List ℕ) (front : ℕ) (held holds : Option (List ℕ)) (failed : Bool) → WritesFront held holds gathered front failed → 0 < length gathered
some_gathered gathered front held holds failed inside = omega (arith, inside.short)
