-- What is appended part by part is what is appended at once.
use Rattle.std.proofs.Common.{◌≡◌, ℕ, List, ◌++◌, Result, Ok, Err, is_ok, OnOk, ap, ◌∙◌, append_assoc}
use Rattle.std.specs.Prelude.{if◌then◌else◌}

-- where the last part was appended
pub appended : {X E : Type 0} (result : Result X E) (before more all after : List ℕ) → after ≡ (if is_ok result then before ++ more else before) → before ++ more ≡ all → OnOk result (after ≡ all)
appended (Ok x) before more all after is same = is ∙ same
appended (Err e) before more all after is same = tt

-- two parts, and four
pub two_parts : (old a b one : List ℕ) → one ≡ old ++ a → one ++ b ≡ old ++ (a ++ b)
two_parts old a b one e = ap (λ (t : List ℕ). t ++ b) e ∙ append_assoc old a b

pub three_parts : (old a b c one two : List ℕ) → one ≡ old ++ a → two ≡ one ++ b → two ++ c ≡ old ++ (a ++ (b ++ c))
three_parts old a b c one two e f = two_parts one b c two f ∙ two_parts old a (b ++ c) one e

pub four_parts : (old a b c d one two three : List ℕ) → one ≡ old ++ a → two ≡ one ++ b → three ≡ two ++ c → three ++ d ≡ old ++ (a ++ (b ++ (c ++ d)))
four_parts old a b c d one two three e f g = two_parts two c d three g ∙ three_parts old a b (c ++ d) one two e f
