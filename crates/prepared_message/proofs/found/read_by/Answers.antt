use Rattle.std.proofs.Common.{◌≡◌, ◌≤◌, ℕ, List, Option, None, length, sym, ap, ◌∙◌, subst}
use Rattle.std.proofs.lemmas.Result.{err_from_is_err_and}
use Rattle.ipfix_octets.specs.MessageFormat.{longest_message}
use Rattle.ipfix_template.specs.declared.template.Template.{Template}
use Rattle.ipfix_message.specs.declared.header.Header.{Header}
use Rattle.ipfix_message.specs.declared.item.Item.{Item}
use Rattle.ipfix_message.specs.Reading.{header_of, read_header}
use Rattle.ipfix_session.proofs.SessionSteps.{header_is}
use Rattle.prepared_message.specs.Faults.{items_wanted}
use Rattle.prepared_message.specs.Uses.{known_in, used_by}
use Rattle.prepared_message.proofs.SetLaws.{no_templates}
use Rattle.prepared_message.proofs.FindLaws.{AreWanted, wanted, header_fault}
use Rattle.prepared_message.proofs.found.read_by.Goals as goal

pub returns-in_err-header-clause-gives : goal.returns-in_err-header-clause-gives
returns-in_err-header-clause-gives c = λ older knows.
    let p = err_from_is_err_and c.from_residual.result c.from_residual.ensures.1 in
    rw (p.1, p.2) (header_fault older c.args.message.now c.in_err-header.field-0.0 (c.in_err-header.ensures.exact ∙ ap read_header c.deref-octets.ensures))

pub returns-clause-found : goal.returns-clause-found
returns-clause-found c =
    let said = wanted c.args.message.now c.in_ok-said.said.items (ap items_wanted (sym c.deref-octets.ensures) ∙ c.in_ok-said.ensures) in
    let header : c.in_ok-header.header ≡ header_of c.args.message.now = header_is c.args.message.now c.in_ok-header.header (c.in_ok-header.ensures.exact ∙ ap read_header c.deref-octets.ensures) in
    record {
      said = c.in_ok-said.said.items;
      items = said.items;
      unchanging = no_templates c.args.message.now c.in_ok-said.said.items said.items said.plain;
      headed = sym header;
      used = c.in_ok-uses.ensures ∙ ap (λ (h : Header). used_by (known_in h.domain c.args.templates.now) None c.as_slice.result.now) header ∙ ap (λ (items : List Item). used_by (known_in (header_of c.args.message.now).domain c.args.templates.now) None items) c.as_slice.ensures.value;
      holds = c.in_ok-contents.ensures.items;
      short = subst (λ (m : List ℕ). length m ≤ longest_message) c.deref-octets.ensures c.in_ok-header.ensures.most;
    }
