-- What `items` answers, from what is read.
use Rattle.std.proofs.Common.{◌≡◌, ℕ, List, Result, Ok, Err, subst}
use Rattle.std.specs.Prelude.{IfOk}
use Rattle.std.specs.Global.{Vec}
use Rattle.ipfix_message.specs.declared.header.Header.{Header}
use Rattle.ipfix_message.specs.declared.fault.Fault.{Fault}
use Rattle.ipfix_message.specs.declared.item.Item.{Item}
use Rattle.ipfix_message.specs.Grammar.{IsMessage}
use Rattle.ipfix_message.specs.Reading.{GivesDecoded, items_of}
use Rattle.ipfix_message.proofs.GrammarFound.{message_found}

pub gives_found : (octets : List ℕ) (answer : Result (Vec Item) Fault) → GivesDecoded (λ v. v.items) answer (items_of octets) → IfOk answer (λ v. (h : Header) × IsMessage octets h v.items)
gives_found octets (Ok v) gives = message_found octets v.items gives
gives_found octets (Err e) gives = tt

pub gives_only : (octets : List ℕ) (answer : Result (Vec Item) Fault) (said : List Item) → items_of octets ≡ Ok said → GivesDecoded (λ v. v.items) answer (items_of octets) → GivesDecoded (λ v. v.items) answer (Ok said)
gives_only octets answer said is gives = subst (GivesDecoded (λ v. v.items) answer) is gives
