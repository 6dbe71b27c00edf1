use Rattle.std.proofs.Common.{refl, sym, ap, ◌∙◌}
use Rattle.ipfix_message.specs.declared.header.Header.{Header}
use Rattle.ipfix_message.specs.Reading.{items_of, read_header}
use Rattle.ipfix_session.specs.Answers.{as_contents}
use Rattle.ipfix_session.proofs.SessionSteps.{header_is}
use Rattle.prepared_message.proofs.ahead.JudgedAhead.of.Goals as goal

pub returns : goal.returns
returns c = record {
  domain = ap (λ (h : Header). h.domain) (header_is c.args.message.now c.in_ok-domain.field-0 (c.in_ok-domain.ensures.exact ∙ ap read_header c.deref-octets.ensures));
  holds = (
    c.snapshot.inside.templates,
    record {
      said = c.in_ok-said.said.items;
      items = ap items_of (sym c.deref-octets.ensures) ∙ c.in_ok-said.ensures.exact;
      contents = as_contents c.in_ok-records.field-0;
      held = c.in_ok-records.ensures.items;
      are = refl;
    },
  );
}
