use Rattle.std.proofs.Common.{ℕ, List, length, subst}
use Rattle.std.proofs.lemmas.Result.{err_from_is_err_and}
use Rattle.ipfix_session.specs.Meaning.{meaning_of}
use Rattle.ipfix_session.specs.Keeping.{StandIn}
use Rattle.ipfix_session.specs.Answers.{FailsMeaning, read_fault}
use Rattle.ipfix_session.proofs.ItemsStand.{items_stand}
use Rattle.ipfix_session.proofs.SessionSteps.{header_fault, items_fault, found_in, read_means, read_follows}
use Rattle.ipfix_session.proofs.session.Session.read.Goals as goal

pub returns-in_err-header-clause-meaning : goal.returns-in_err-header-clause-meaning
returns-in_err-header-clause-meaning c = λ older stands.
    let p = err_from_is_err_and c.from_residual.result c.from_residual.ensures.1 in
    rw (p.1, p.2) (subst (λ (m : List ℕ). FailsMeaning (read_fault c.in_err-header.field-0.0) (meaning_of older m)) c.deref-octets.ensures (header_fault older c.deref-octets.result.now c.in_err-header.field-0.0 c.in_err-header.ensures.exact))

pub returns-in_err-said-clause-meaning : goal.returns-in_err-said-clause-meaning
returns-in_err-said-clause-meaning c = λ older stands.
    let p = err_from_is_err_and c.from_residual-in_err-said.result c.from_residual-in_err-said.ensures.1 in
    rw (p.1, p.2) (subst (λ (m : List ℕ). FailsMeaning (read_fault c.in_err-said.field-0.0) (meaning_of older m)) c.deref-octets.ensures (items_fault older c.deref-octets.result.now c.in_err-said.field-0.0 c.in_err-said.ensures.exact))

pub read_message-requires-clause-stand : goal.read_message-requires-clause-stand
read_message-requires-clause-stand c =
    subst (λ (m : List ℕ). StandIn (length m) c.in_ok-said.said.items) c.deref-octets.ensures (items_stand c.deref-octets.result.now c.in_ok-said.said.items c.in_ok-header.ensures.most c.in_ok-header.ensures.least c.in_ok-said.ensures.exact)

pub returns-clause-meaning : goal.returns-clause-meaning
returns-clause-meaning c = λ older stands.
    read_means c.args.self.now.standing older c.args.message.now c.in_ok-header.header c.in_ok-said.said.items c.read_message.result
    (found_in c.args.self.now.standing older c.deref-octets.result.now c.args.message.now c.in_ok-header.header c.in_ok-said.said.items c.deref-octets.ensures c.in_ok-header.ensures.exact c.in_ok-said.ensures.exact stands)
    c.read_message.ensures.reads c.read_message.ensures.header c.read_message.ensures.gap

pub returns-clause-reading : goal.returns-clause-reading
returns-clause-reading c = λ older stands.
    read_follows c.args.self.now.standing older c.args.message.now c.in_ok-header.header c.in_ok-said.said.items c.read_message.result
    (found_in c.args.self.now.standing older c.deref-octets.result.now c.args.message.now c.in_ok-header.header c.in_ok-said.said.items c.deref-octets.ensures c.in_ok-header.ensures.exact c.in_ok-said.ensures.exact stands)
    c.read_message.ensures.reads c.read_message.ensures.keeps c.read_message.ensures.header c.read_message.ensures.gap c.read_message.ensures.next
