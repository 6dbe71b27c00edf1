use Rattle.std.proofs.Common.{ℕ, List, Result, length, sym, ap, ◌∙◌, subst}
use Rattle.ipfix_message.specs.declared.header.Header.{Header}
use Rattle.ipfix_message.specs.Reading.{read_header, items_of}
use Rattle.ipfix_session.specs.declared.fault.Fault.{Fault}
use Rattle.ipfix_session.specs.Contents.{Contents}
use Rattle.ipfix_session.specs.Keeping.{Keeps, StandIn}
use Rattle.ipfix_session.specs.Standing.{templates_of}
use Rattle.ipfix_session.specs.Answers.{GivesMeant, as_contents}
use Rattle.ipfix_session.proofs.ItemsStand.{items_stand}
use Rattle.ipfix_session.proofs.SessionSteps.{before, header_is, contents_are, known_keeps, no_header_fault}
use Rattle.ipfix_session.proofs.templates.Templates.read.Goals as goal

pub returns-in_err-header-clause-messages : goal.returns-in_err-header-clause-messages
returns-in_err-header-clause-messages c = absurd (no_header_fault c.deref-octets.result.now c.args.said.items c.in_err-header.field-0.0 (ap items_of c.deref-octets.ensures ∙ c.requires.said) c.in_err-header.ensures.exact)

pub returns-in_err-header-clause-items : goal.returns-in_err-header-clause-items
returns-in_err-header-clause-items c = absurd (no_header_fault c.deref-octets.result.now c.args.said.items c.in_err-header.field-0.0 (ap items_of c.deref-octets.ensures ∙ c.requires.said) c.in_err-header.ensures.exact)

pub read_items-requires-clause-stand : goal.read_items-requires-clause-stand
read_items-requires-clause-stand c =
    subst (λ (m : List ℕ). StandIn (length m) c.args.said.items) c.deref-octets.ensures
    (items_stand c.deref-octets.result.now c.args.said.items c.in_ok-header.ensures.most c.in_ok-header.ensures.least (ap items_of c.deref-octets.ensures ∙ c.requires.said))

pub returns-clause-messages : goal.returns-clause-messages
returns-clause-messages c = λ older knows.
    let message = c.args.message.now in
    let header = c.in_ok-header.header in
    let is = header_is message header (c.in_ok-header.ensures.exact ∙ ap read_header c.deref-octets.ensures) in
    subst (λ (r : Result Contents Fault). GivesMeant as_contents c.read_items.result r) (sym (contents_are older message c.args.said.items c.requires.said))
    (c.read_items.ensures (before older message) (known_keeps c.args.self.now older message header is knows))

pub returns-clause-items : goal.returns-clause-items
returns-clause-items c = λ older keeps.
    let message = c.args.message.now in
    let header = c.in_ok-header.header in
    let is = header_is message header (c.in_ok-header.ensures.exact ∙ ap read_header c.deref-octets.ensures) in
    c.read_items.ensures older (subst (λ (h : Header). Keeps (templates_of h.domain c.args.self.now) older) (sym is) keeps)
