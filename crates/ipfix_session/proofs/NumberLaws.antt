-- The number that a domain expects is that after its last message.
use Rattle.std.proofs.Common.{◌≡◌, ◌≢◌, ℕ, Bool, true, false, cond, List, [], ◌∷◌, ◌++◌, Some, refl, sym, ap, ◌∙◌}
use Rattle.std.specs.Prelude.{◌==◌}
use Rattle.std.specs.List.{AllByRecursion}
use Rattle.std.proofs.lemmas.Bool.{eqb-true, eqb-false, eq-eqb, ne_eqb}
use Rattle.ipfix_message.specs.Reading.{header_of}
use Rattle.ipfix_session.specs.Meaning.{domain_of, contents_of, next_number, expected_number}
use Rattle.ipfix_session.specs.LastMessage.{IsExpected}

-- one message more of another domain
after_other : (domain : ℕ) (messages : List (List ℕ)) (number : ℕ) (message : List ℕ) → domain_of message ≢ domain → IsExpected domain messages number → IsExpected domain (message ∷ messages) number
after_other domain messages number message other h = record {
  message = h.message;
  older = h.older;
  last = record {
    newer = message ∷ h.last.newer;
    messages_are = ap (λ (ms : List (List ℕ)). message ∷ ms) h.last.messages_are;
    own = h.last.own;
    others = (other, h.last.others);
  };
  next = h.next;
}

pub found : (domain : ℕ) (messages : List (List ℕ)) (number : ℕ) → expected_number domain messages ≡ Some number → IsExpected domain messages number
unfolding expected_number
found domain [] number e = absurd cc
found domain (message ∷ older) number e = by_domain (λ k. found domain older number k) (domain == domain_of message) refl e where
  by_domain : (expected_number domain older ≡ Some number → IsExpected domain older number) → (same : Bool) → (domain == domain_of message) ≡ same
      → cond same (next_number (header_of message) (contents_of older message)) (expected_number domain older) ≡ Some number → IsExpected domain (message ∷ older) number
  by_domain rec true is at = record {
    message = message;
    older = older;
    last = record { newer = []; messages_are = refl; own = sym (eqb-true domain (domain_of message) is); others = tt };
    next = at;
  }
  by_domain rec false is at = after_other domain older number message (λ same. eqb-false domain (domain_of message) is (sym same)) (rec at)

-- messages of other domains change no number
still : (domain : ℕ) (newer : List (List ℕ)) (message : List ℕ) (older : List (List ℕ)) → domain_of message ≡ domain → AllByRecursion (λ m. domain_of m ≢ domain) newer
    → expected_number domain (newer ++ message ∷ older) ≡ next_number (header_of message) (contents_of older message)
unfolding expected_number
still domain [] message older own others = rw (eq-eqb domain (domain_of message) (sym own)) refl
still domain (m ∷ newer) message older own others = rw (ne_eqb domain (domain_of m) (λ same. others.0 (sym same))) (still domain newer message older own others.1)

pub only : (domain : ℕ) (messages : List (List ℕ)) (number : ℕ) → IsExpected domain messages number → expected_number domain messages ≡ Some number
only domain messages number h = ap (expected_number domain) h.last.messages_are ∙ still domain h.last.newer h.message h.older h.last.own h.last.others ∙ h.next
