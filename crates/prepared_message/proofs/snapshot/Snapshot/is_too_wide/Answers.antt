use Rattle.std.proofs.Common.{◌≡◌, ◌*◌, ℕ, Ok, List, length, sym, ap, ◌∙◌, subst, subst₂}
use Rattle.std.specs.Prelude.{◌↔◌, IsTrue, ◌<◌}
use Rattle.ipfix_message.specs.declared.item.Item.{Item}
use Rattle.ipfix_message.specs.Reading.{header_of, read_header, items_of}
use Rattle.ipfix_session.proofs.SessionSteps.{header_is}
use Rattle.prepared_message.specs.declared.width.TheConstants.{VALUES_AN_OCTET}
use Rattle.prepared_message.specs.Widths.{values_by_widths, widths_in}
use Rattle.prepared_message.proofs.WidthLaws.{too_wide}
use Rattle.prepared_message.proofs.snapshot.Snapshot.is_too_wide.Goals as goal

pub returns : goal.returns
returns c =
    let headed = header_is c.args.message.now c.in_ok-domain.field-0 (c.in_ok-domain.ensures.exact ∙ ap read_header c.deref-octets.ensures) in
    let items : items_of c.args.message.now ≡ Ok c.in_ok-said.said.items = ap items_of (sym c.deref-octets.ensures) ∙ c.in_ok-said.ensures.exact in
    too_wide c.args.self.now c.args.message.now c.in_ok-domain.field-0 c.in_ok-said.said.items c.in_ok-are_too_wide.field-0 headed items
    (subst (λ (octets : List ℕ). IsTrue c.in_ok-are_too_wide.field-0 ↔ (length octets * VALUES_AN_OCTET < values_by_widths (widths_in c.in_ok-domain.field-0.domain c.args.self.now) c.in_ok-said.said.items)) c.deref-octets.ensures
    (subst₂ (λ known (read : List Item). IsTrue c.in_ok-are_too_wide.field-0 ↔ (length c.deref-octets.result.now * VALUES_AN_OCTET < values_by_widths (widths_in c.in_ok-domain.field-0.domain known) read)) c.self.view_is c.deref.ensures.value c.in_ok-are_too_wide.ensures))
