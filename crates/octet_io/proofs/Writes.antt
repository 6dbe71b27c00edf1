-- How far the writes of a slice have come.
use Rattle.std.proofs.Common.{◌≡◌, ℕ, ◌+◌, ◌-◌, ◌≤◌, Bool, List, ◌++◌, length, take, drop, Option, sym, ap, subst, ◌∙◌, arith, length-drop}
use Rattle.std.proofs.Math.Seq.{take-add}
use Rattle.std.proofs.KnownBytes.{Appends-trans}
use Rattle.std.specs.Io.KnownBytes.{Appends}

-- so many octets of the front were written, and it has failed no more than before
pub record IsWriting (old now : Option (List ℕ)) (octets : List ℕ) (sent : ℕ) (was_failed is_failed : Bool) : Type 0 where
  pub within : sent ≤ length octets
  pub written : Appends old now (take sent octets)
  pub same : is_failed ≡ was_failed

-- n octets more of the rest
pub writing_more : (old now after : Option (List ℕ)) (octets rest : List ℕ) (sent n : ℕ) (was_failed before_failed is_failed : Bool) → rest ≡ drop sent octets → IsWriting old now octets sent was_failed before_failed → n ≤ length rest → Appends now after (take n rest) → is_failed ≡ before_failed → IsWriting old after octets (sent + n) was_failed is_failed
writing_more old now after octets rest sent n was_failed before_failed is_failed same_rest writing few more same =
    let long : length rest ≡ length octets - sent = ap (λ (t : List ℕ). length t) same_rest ∙ length-drop sent octets in
    let joined : take sent octets ++ take n rest ≡ take (sent + n) octets = ap (λ t. take sent octets ++ take n t) same_rest ∙ sym (take-add sent n octets) in
    record {
      within = omega (arith, long, few, writing.within);
      written = subst (Appends old after) joined (Appends-trans old now after (take sent octets) (take n rest) writing.written more);
      same = same ∙ writing.same;
    }
