-- Laws of framing: octets have one framing, and a framing goes on with the octets that come after it.
use Rattle.std.proofs.Common.{◌≡◌, ℕ, ◌+◌, ◌<◌, ◌≤◌, List, [], ◌∷◌, ◌++◌, length, take, drop, Option, Some, None, refl, sym, ap, subst, ◌∙◌, append_assoc, arith, length-append, length-drop}
use Rattle.std.specs.List.{concat, All}
use Rattle.std.proofs.lemmas.List.{take-append-le, drop-append-le, append_cancel_left}
use Rattle.std.proofs.Math.Seq.{take-append_seam}
use Rattle.std.proofs.lemmas.List.Elements.{All-append, All-tail}
use Rattle.std.proofs.lemmas.List.Folds.{concat-append}
use Rattle.sequences.specs.Octets.{number_at, be_value}
use Rattle.ipfix_message.specs.declared.fault.Fault.{Fault}
use Rattle.ipfix_message.specs.declared.fault.Fault.TheVariants.{ShortHeader, BadVersion, BadLength, BadSetLength, TemplateOverrun, OutOfMemory}
use Rattle.ipfix_message.specs.Framing.{version_of, length_of, IsWhole, IsPartial, IsFaulty, EndsWith, IsFramed, IsFramedOnce}

-- a number that lies in the first octets is the same whatever follows them
pub number_at-append : (place width : ℕ) (xs ys : List ℕ) → place + width ≤ length xs → number_at place width (xs ++ ys) ≡ number_at place width xs
number_at-append place width xs ys within =
    let dropped : drop place (xs ++ ys) ≡ drop place xs ++ ys = drop-append-le place xs ys (omega arith) in
    let room : width ≤ length (drop place xs) = omega (arith, length-drop place xs) in
    ap (λ (octets : List ℕ). be_value (take width octets)) dropped ∙ ap be_value (take-append-le width (drop place xs) ys room)

-- the header of a whole message says the same whatever follows the message
version_of-whole : (m rest : List ℕ) → IsWhole m → version_of (m ++ rest) ≡ 10
version_of-whole m rest w =
    let least : 16 ≤ length m = w.least in number_at-append 0 2 m rest (omega arith) ∙ w.version

length_of-whole : (m rest : List ℕ) → IsWhole m → length_of (m ++ rest) ≡ length m
length_of-whole m rest w =
    let least : 16 ≤ length m = w.least in number_at-append 2 2 m rest (omega arith) ∙ w.whole

-- where a whole message begins, nothing else ends a stream
whole_is_not_partial : (m rest : List ℕ) → IsWhole m → IsPartial (m ++ rest) → ⊥
whole_is_not_partial m rest w p =
    let least : 16 ≤ length m = w.least in
    let both : length (m ++ rest) ≡ length m + length rest = length-append m rest in
    let said : length_of (m ++ rest) ≡ length m = length_of-whole m rest w in
    let short : length (m ++ rest) < length_of (m ++ rest) = p.short (omega arith) in
    omega arith

whole_is_not_faulty : (fault : Fault) (m rest : List ℕ) → IsWhole m → IsFaulty fault (m ++ rest) → ⊥
whole_is_not_faulty BadVersion m rest w f = f.1 (version_of-whole m rest w)
whole_is_not_faulty BadLength m rest w f =
    let least : 16 ≤ length m = w.least in
    let said : length_of (m ++ rest) ≡ length m = length_of-whole m rest w in
    let under : length_of (m ++ rest) < 16 = f.2 in
    omega arith
whole_is_not_faulty ShortHeader m rest w f = f
whole_is_not_faulty BadSetLength m rest w f = f
whole_is_not_faulty TemplateOverrun m rest w f = f
whole_is_not_faulty OutOfMemory m rest w f = f

whole_is_no_end : (fault : Option Fault) (pending m rest : List ℕ) → IsWhole m → EndsWith fault pending (m ++ rest) → ⊥
whole_is_no_end None pending m rest w h = whole_is_not_partial m rest w h.1
whole_is_no_end (Some fault) pending m rest w h = whole_is_not_faulty fault m rest w h.1

-- two whole messages at one place are one
same_message : (m rest n left : List ℕ) → m ++ rest ≡ n ++ left → IsWhole m → IsWhole n → m ≡ n
same_message m rest n left e w v =
    let lengths : length m ≡ length n = sym (length_of-whole m rest w) ∙ ap length_of e ∙ length_of-whole n left v in
    sym (take-append_seam m rest)
    ∙ ap (λ (octets : List ℕ). take (length m) octets) e
    ∙ ap (λ (k : ℕ). take k (n ++ left)) lengths
    ∙ take-append_seam n left

-- a tail ends a stream in one way
ends_once : (fault other : Option Fault) (pending left tail : List ℕ) → EndsWith fault pending tail → EndsWith other left tail → (fault ≡ other) × (pending ≡ left)
ends_once None None pending left tail h k = (refl, sym h.0 ∙ k.0)
ends_once None (Some BadVersion) pending left tail h k = absurd (k.1.1 (h.1.version k.1.0))
ends_once None (Some BadLength) pending left tail h k =
    let least : 16 ≤ length_of tail = h.1.least k.1.0 in
    let under : length_of tail < 16 = k.1.2 in
    absurd (omega arith)
ends_once None (Some ShortHeader) pending left tail h k = absurd k.1
ends_once None (Some BadSetLength) pending left tail h k = absurd k.1
ends_once None (Some TemplateOverrun) pending left tail h k = absurd k.1
ends_once None (Some OutOfMemory) pending left tail h k = absurd k.1
ends_once (Some BadVersion) None pending left tail h k = absurd (h.1.1 (k.1.version h.1.0))
ends_once (Some BadVersion) (Some BadVersion) pending left tail h k = (refl, h.0 ∙ sym k.0)
ends_once (Some BadVersion) (Some BadLength) pending left tail h k = absurd (h.1.1 k.1.1)
ends_once (Some BadVersion) (Some ShortHeader) pending left tail h k = absurd k.1
ends_once (Some BadVersion) (Some BadSetLength) pending left tail h k = absurd k.1
ends_once (Some BadVersion) (Some TemplateOverrun) pending left tail h k = absurd k.1
ends_once (Some BadVersion) (Some OutOfMemory) pending left tail h k = absurd k.1
ends_once (Some BadLength) None pending left tail h k =
    let least : 16 ≤ length_of tail = k.1.least h.1.0 in
    let under : length_of tail < 16 = h.1.2 in
    absurd (omega arith)
ends_once (Some BadLength) (Some BadVersion) pending left tail h k = absurd (k.1.1 h.1.1)
ends_once (Some BadLength) (Some BadLength) pending left tail h k = (refl, h.0 ∙ sym k.0)
ends_once (Some BadLength) (Some ShortHeader) pending left tail h k = absurd k.1
ends_once (Some BadLength) (Some BadSetLength) pending left tail h k = absurd k.1
ends_once (Some BadLength) (Some TemplateOverrun) pending left tail h k = absurd k.1
ends_once (Some BadLength) (Some OutOfMemory) pending left tail h k = absurd k.1
ends_once (Some ShortHeader) other pending left tail h k = absurd h.1
ends_once (Some BadSetLength) other pending left tail h k = absurd h.1
ends_once (Some TemplateOverrun) other pending left tail h k = absurd h.1
ends_once (Some OutOfMemory) other pending left tail h k = absurd h.1

-- whole messages, and then no further one: the messages and what follows them are determined
messages_once : (messages others : List (List ℕ)) (fault other : Option Fault) (pending left tail rest : List ℕ) → concat messages ++ tail ≡ concat others ++ rest → All IsWhole messages → All IsWhole others → EndsWith fault pending tail → EndsWith other left rest → (messages ≡ others) × (tail ≡ rest)
messages_once [] [] fault other pending left tail rest e ws vs h k = (refl, e)
messages_once [] (n ∷ others) fault other pending left tail rest e ws vs h k =
    let v : IsWhole n = vs 0 n (omega arith) in
    let begins : tail ≡ n ++ (concat others ++ rest) = e ∙ append_assoc n (concat others) rest in
    absurd (whole_is_no_end fault pending n (concat others ++ rest) v (subst (EndsWith fault pending) begins h))
messages_once (m ∷ messages) [] fault other pending left tail rest e ws vs h k =
    let w : IsWhole m = ws 0 m (omega arith) in
    let begins : rest ≡ m ++ (concat messages ++ tail) = sym e ∙ append_assoc m (concat messages) tail in
    absurd (whole_is_no_end other left m (concat messages ++ tail) w (subst (EndsWith other left) begins k))
messages_once (m ∷ messages) (n ∷ others) fault other pending left tail rest e ws vs h k =
    let w : IsWhole m = ws 0 m (omega arith) in
    let v : IsWhole n = vs 0 n (omega arith) in
    let both : m ++ (concat messages ++ tail) ≡ n ++ (concat others ++ rest) = sym (append_assoc m (concat messages) tail) ∙ e ∙ append_assoc n (concat others) rest in
    let first : m ≡ n = same_message m (concat messages ++ tail) n (concat others ++ rest) both w v in
    let after : concat messages ++ tail ≡ concat others ++ rest = append_cancel_left n (concat messages ++ tail) (concat others ++ rest) (ap (λ (front : List ℕ). front ++ (concat messages ++ tail)) (sym first) ∙ both) in
    let same = messages_once messages others fault other pending left tail rest after (All-tail IsWhole m messages ws) (All-tail IsWhole n others vs) h k in
    (ap (λ (front : List ℕ). front ∷ messages) first ∙ ap (λ (list : List (List ℕ)). n ∷ list) same.0, same.1)

-- octets have one framing
pub framed_once : (octets : List ℕ) → IsFramedOnce octets
framed_once octets messages others fault other pending left a b =
    let same = messages_once messages others fault other pending left a.tail b.tail (sym a.joined ∙ b.joined) a.each b.each a.ends b.ends in
    let end = ends_once fault other pending left b.tail (subst (EndsWith fault pending) same.1 a.ends) b.ends in
    (same.0, end.0, end.1)

-- what is pending, and then a piece, is framed on its own: the messages come after those before
pub framed_on : (fed piece pending left : List ℕ) (messages out : List (List ℕ)) (fault : Option Fault) → IsFramed fed messages None pending → IsFramed (pending ++ piece) out fault left → IsFramed (fed ++ piece) (messages ++ out) fault left
framed_on fed piece pending left messages out fault a b = record {
  tail = b.tail;
  joined =
      ap (λ (octets : List ℕ). octets ++ piece) (a.joined ∙ ap (λ (octets : List ℕ). concat messages ++ octets) a.ends.0)
      ∙ append_assoc (concat messages) pending piece
      ∙ ap (λ (octets : List ℕ). concat messages ++ octets) b.joined
      ∙ sym (append_assoc (concat messages) (concat out) b.tail)
      ∙ ap (λ (octets : List ℕ). octets ++ b.tail) (sym (concat-append messages out));
  each = All-append IsWhole messages out a.each b.each;
  ends = b.ends;
}
