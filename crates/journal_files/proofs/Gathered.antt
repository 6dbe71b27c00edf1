-- What was consumed of a source, one piece after another.
use Rattle.std.proofs.Common.{◌≡◌, ℕ, ◌+◌, ◌-◌, ◌<◌, ◌≤◌, inl, inr, refl, arith, length, take, length-append, List, [], ◌++◌, Option, Result, Ok, Err, OnErr, subst, ap, ◌∙◌, append_assoc}
use Rattle.std.specs.Io.KnownBytes.{Consumes, Keeps, IsAtEnd}
use Rattle.std.proofs.KnownBytes.{Consumes-trans, Consumes-nil, Consumes-kept}
use Rattle.std.proofs.lemmas.List.{length-take-le}
use Rattle.journal_files.specs.declared.fault.Fault.TheVariants.{Truncated, BadEntry}
use Rattle.journal_files.specs.Gathering.{Gathers, Skips}
use Rattle.journal_files.specs.Streaming.{Loses}

-- what was gathered before is lost too
pub loses_after : (a b c : Option (List ℕ)) (old now : List ℕ) → Gathers a b old now → Loses b c → Loses a c
loses_after a b c old now first second = record { piece = first.piece ++ second.piece; consumed = Consumes-trans a b c first.piece second.piece first.consumed second.consumed }

pub gathers_more : (a b c : Option (List ℕ)) (old now new : List ℕ) → Gathers a b old now → Gathers b c now new → Gathers a c old new
gathers_more a b c old now new first second = record {
  piece = first.piece ++ second.piece;
  joined = second.joined ∙ ap (λ (t : List ℕ). t ++ second.piece) first.joined ∙ append_assoc old first.piece second.piece;
  consumed = Consumes-trans a b c first.piece second.piece first.consumed second.consumed;
}

pub whatever_err : {X E : Type 0} (P : Type 0) (r : Result X E) → P → OnErr r P
whatever_err P (Ok x) p = tt
whatever_err P (Err e) p = p

-- so many octets were passed over, and so many are left to pass over
pub record IsSkipping (count left : ℕ) (given now : Option (List ℕ)) : Type 0 where
  pub piece : List ℕ
  pub consumed : Consumes given now piece
  pub long : length piece + left ≡ count

pub skipping_starts : (count : ℕ) (given : Option (List ℕ)) → IsSkipping count count given given
skipping_starts count given = record { piece = []; consumed = Consumes-nil given; long = omega arith }

pub skips_more : (count left n : ℕ) (given now after : Option (List ℕ)) (buffer : List ℕ) → IsSkipping count left given now → n ≤ left → n ≤ length buffer → Consumes now after (take n buffer) → IsSkipping count (left - n) given after
skips_more count left n given now after buffer skipping few within more = record {
  piece = skipping.piece ++ take n buffer;
  consumed = Consumes-trans given now after skipping.piece (take n buffer) skipping.consumed more;
  long = omega (arith, skipping.long, few, length-append skipping.piece (take n buffer), length-take-le n buffer within);
}

-- nothing more was there
pub skips_to_end : (count left : ℕ) (given now after : Option (List ℕ)) (buffer : List ℕ) → IsSkipping count left given now → 0 < left → Consumes now after (take 0 buffer) → IsAtEnd after → Skips Truncated count given after
skips_to_end count left given now after buffer skipping some none end = record {
  piece = skipping.piece ++ [];
  consumed = Consumes-trans given now after skipping.piece [] skipping.consumed none;
  which = inr (refl, omega (arith, skipping.long, length-append skipping.piece []), end);
}

pub skips_all : (count left : ℕ) (given now : Option (List ℕ)) → IsSkipping count left given now → left ≡ 0 → Skips BadEntry count given now
skips_all count left given now skipping none = record { piece = skipping.piece; consumed = skipping.consumed; which = inl (refl, omega (arith, skipping.long)) }

pub skips_kept : (count left : ℕ) (given now after : Option (List ℕ)) → IsSkipping count left given now → Keeps now after → Loses given after
skips_kept count left given now after skipping kept = record { piece = skipping.piece; consumed = Consumes-kept given now after skipping.piece skipping.consumed kept }

pub skipping_loses : (count left : ℕ) (given now : Option (List ℕ)) → IsSkipping count left given now → Loses given now
skipping_loses count left given now skipping = record { piece = skipping.piece; consumed = skipping.consumed }

pub from_nothing : (a b : Option (List ℕ)) (old now : List ℕ) → old ≡ [] → Gathers a b old now → Gathers a b [] now
from_nothing a b old now none g = subst (λ t. Gathers a b t now) none g
