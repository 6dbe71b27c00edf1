-- How far an answer is written.
use Rattle.std.proofs.Common.{◌≡◌, ℕ, ◌+◌, ◌<◌, ◌^◌, Bool, List, [], ◌++◌, length, take, Option, sym, ap, ◌∙◌, subst, arith, append-nil, append_assoc, length-append}
use Rattle.std.specs.Prelude.{Result, Ok, Err, IfOk, IfErr, IsErr, IsErrAnd}
use Rattle.std.specs.Io.KnownBytes.{Appends}
use Rattle.std.proofs.KnownBytes.{Appends-trans, Appends-nil}
use Rattle.std.proofs.lemmas.List.{take-append-le}
use Rattle.sequences.proofs.ListLaws.{take-add-append}
use Rattle.answer_writing.specs.declared.writing.Stopped.{Stopped}
use Rattle.answer_writing.specs.declared.writing.Stopped.TheVariants.{Failed, Uncounted}
use Rattle.answer_writing.specs.Written.{WritesAll, StopsWriting}

-- what is known of an answer, or of its error, gives something else of it
pub ok_gives : {X E : Type 0} {P Q : X → Type 0} (r : Result X E) → IfOk r P → ((x : X) → P x → Q x) → IfOk r Q
ok_gives (Ok x) known f = f x known
ok_gives (Err e) known f = tt

pub err_gives : {X E : Type 0} {P Q : E → Type 0} (r : Result X E) → IfErr r P → ((e : E) → P e → Q e) → IfErr r Q
err_gives (Ok x) known f = tt
err_gives (Err e) known f = f e known

pub residual_gives : {X E : Type 0} {P Q : E → Type 0} (r : Result X E) → IsErr r × IsErrAnd r P → ((e : E) → P e → Q e) → IfErr r Q
residual_gives (Ok x) known f = tt
residual_gives (Err e) known f = f e known.1

-- a front of what is due was written and counted, these octets wait, and the rest is still to be put
pub record IsSending (due waiting rest : List ℕ) (before sent : ℕ) (held holds : Option (List ℕ)) : Type 0 where
  pub front : List ℕ
  pub written : Appends held holds front
  pub parts : due ≡ front ++ (waiting ++ rest)
  pub counted : sent ≡ before + length front

pub sending_starts : (due waiting rest : List ℕ) (before : ℕ) (held : Option (List ℕ)) → due ≡ waiting ++ rest → IsSending due waiting rest before before held held
sending_starts due waiting rest before held parts = record { front = []; written = Appends-nil held; parts = parts; counted = omega arith }

-- a piece more waits
pub sending_more : (due waiting rest waits after : List ℕ) (before sent : ℕ) (held holds : Option (List ℕ)) → IsSending due waiting rest before sent held holds → waits ++ after ≡ waiting ++ rest → IsSending due waits after before sent held holds
sending_more due waiting rest waits after before sent held holds so is = record { front = so.front; written = so.written; parts = so.parts ∙ ap (λ t. so.front ++ t) (sym is); counted = so.counted }

-- what waited was written
pub sending_sent : (due waiting rest waits : List ℕ) (before sent count : ℕ) (held holds writes : Option (List ℕ)) → IsSending due waiting rest before sent held holds → WritesAll waiting sent count holds writes → waits ≡ [] → IsSending due waits rest before count held writes
sending_sent due waiting rest waits before sent count held holds writes so all none = record {
  front = so.front ++ waiting;
  written = Appends-trans held holds writes so.front waiting so.written all.written;
  parts = so.parts ∙ sym (append_assoc so.front waiting rest) ∙ ap (λ t. (so.front ++ waiting) ++ (t ++ rest)) (sym none);
  counted = omega (arith, so.counted, all.counted, length-append so.front waiting);
}

-- what waits can be counted where all that is due can
pub sending_fits : (due waiting rest : List ℕ) (before sent : ℕ) (held holds : Option (List ℕ)) → IsSending due waiting rest before sent held holds → before + length due < 2 ^ 64 → sent + length waiting < 2 ^ 64
sending_fits due waiting rest before sent held holds so fits = omega (arith, fits, so.counted, ap length so.parts, length-append so.front (waiting ++ rest), length-append waiting rest)

-- the last of it was written
pub sending_ends : (due waiting rest : List ℕ) (before sent count : ℕ) (held holds writes : Option (List ℕ)) → IsSending due waiting rest before sent held holds → rest ≡ [] → WritesAll waiting sent count holds writes → WritesAll due before count held writes
sending_ends due waiting rest before sent count held holds writes so none all =
    let whole : due ≡ so.front ++ waiting = so.parts ∙ ap (λ t. so.front ++ (waiting ++ t)) none ∙ ap (λ t. so.front ++ t) (append-nil waiting) in
    record {
      written = subst (Appends held writes) (sym whole) (Appends-trans held holds writes so.front waiting so.written all.written);
      counted = omega (arith, so.counted, all.counted, ap length whole, length-append so.front waiting);
    }

-- the sink failed inside what waited
pub sending_stops : (e w : Stopped) (due waiting rest : List ℕ) (before sent : ℕ) (held holds writes : Option (List ℕ)) (was had has : Bool) → e ≡ w → IsSending due waiting rest before sent held holds → sent + length waiting < 2 ^ 64
    → StopsWriting w waiting sent holds writes had has → StopsWriting e due before held writes was has
sending_stops e w due waiting rest before sent held holds writes was had has is so fits stops = rw is (at w stops)
  where
    at : (w : Stopped) → StopsWriting w waiting sent holds writes had has → StopsWriting w due before held writes was has
    at (Failed count) stops =
        let front : take (length so.front + stops.0) due ≡ so.front ++ take stops.0 waiting =
        ap (take (length so.front + stops.0)) so.parts ∙ take-add-append so.front (waiting ++ rest) stops.0 ∙ ap (λ t. so.front ++ t) (take-append-le stops.0 waiting rest (omega (arith, stops.2.short))) in (
          length so.front + stops.0,
          omega (arith, stops.1, so.counted),
          record {
            short = omega (arith, stops.2.short, ap length so.parts, length-append so.front (waiting ++ rest), length-append waiting rest);
            written = subst (Appends held writes) (sym front) (Appends-trans held holds writes so.front (take stops.0 waiting) so.written stops.2.written);
            failed = stops.2.failed;
          },
        )
    at Uncounted stops = absurd (omega (arith, fits, stops.2))
