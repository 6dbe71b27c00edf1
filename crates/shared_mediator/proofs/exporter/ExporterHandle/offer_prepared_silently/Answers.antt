use Rattle.std.proofs.Common.{◌∙◌, ◌++◌, ◌∷◌, [], List, ap, length}
use Rattle.event_journal.specs.declared.entry.Entry.TheVariants.{Message}
use Rattle.shared_mediator.specs.declared.kept.KeptEntry.{KeptEntry}
use Rattle.shared_mediator.proofs.HandleLaws.{offered}
use Rattle.shared_mediator.proofs.exporter.ExporterHandle.offer_prepared_silently.Goals as goal

pub invariant_of-self-2 : goal.invariant_of-self-2
invariant_of-self-2 g c =
    offered c.self.inside.session.0 c.len-number.result c.in_ok-receipt.receipt.position c.self.inside.share.parts c.receive_prepared.new.share.parts c.self.inside.share.amount c.receive_prepared.new.share.amount c.in-Ok.octets c.self.inside.kept.items c.push_reserved.new.self.items
    c.self.invariant (c.len-number.ensures ∙ c.reserve.new.self.ok.0 ∙ ap length c.reserve.ensures.items) c.receive_prepared.ensures.part c.in_ok-receipt.ensures.share
    (c.push_reserved.ensures.items ∙ ap (λ (xs : List KeptEntry). xs ++ record { position = c.in_ok-receipt.receipt.position; entry = Message c.self.inside.session.0 c.len-number.result c.in-Ok.octets } ∷ []) c.reserve.ensures.items)
