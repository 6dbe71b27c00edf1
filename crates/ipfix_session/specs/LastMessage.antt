-- The expected number in plain words: that after the last message of the domain.
use Rattle.std.specs.Prelude.{◌≡◌, ◌≢◌, ℕ, List, ◌∷◌, ◌++◌, Some}
use Rattle.std.specs.List.{AllByRecursion}
use Rattle.ipfix_message.specs.Reading.{header_of}
use Rattle.ipfix_session.specs.Meaning.{domain_of, contents_of, next_number}

-- the last message of a domain, with the messages before it, of whatever domains; newest first
pub record IsLastMessage (domain : ℕ) (messages : List (List ℕ)) (message : List ℕ) (older : List (List ℕ)) : Type 0 where
  pub newer : List (List ℕ)
  pub messages_are : messages ≡ newer ++ message ∷ older
  pub own : domain_of message ≡ domain
  pub others : AllByRecursion (λ m. domain_of m ≢ domain) newer

-- the domain has a last message, and after its header and contents the next message is to have this number
pub record IsExpected (domain : ℕ) (messages : List (List ℕ)) (number : ℕ) : Type 0 where
  pub message : List ℕ
  pub older : List (List ℕ)
  pub last : IsLastMessage domain messages message older
  pub next : next_number (header_of message) (contents_of older message) ≡ Some number
