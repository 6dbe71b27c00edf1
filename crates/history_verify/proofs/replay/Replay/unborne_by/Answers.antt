use Rattle.std.proofs.Common.{map, ap, ◌∙◌}
use Rattle.mediator_tables.specs.SubscriptionTable.{shown}
use Rattle.mediator_shares.specs.Sharing.{shares_of}
use Rattle.history_verify.proofs.UnborneLaws.{place_within}
use Rattle.history_verify.proofs.Judging.{known, as_many, first_unborne}
use Rattle.history_verify.proofs.replay.Replay.unborne_by.Goals as goal

pub returns-clause-within : goal.returns-clause-within
returns-clause-within c =
    place_within (map shown c.deref-3.result.now) _ c.first_empty.result
    (as_many c.requires.short.history c.args.self.now.waiting.items c.header.result.domain c.args.self.now.in_force c.records-records.result.now c.in_ok-cut.cut.items (map shown c.deref-3.result.now)
    (c.in_ok-cut.ensures c.requires.short.history c.requires.short.stands.over.subscribers ∙ ap (map (known c.requires.short.history)) c.deref.ensures.value)
    (ap (map shown) c.deref-3.ensures.value ∙ c.in_ok-shares.ensures.shares ∙ ap (shares_of c.header.result.domain c.args.self.now.in_force c.records-records.result.now) c.deref-2.ensures.value))
    c.first_empty.ensures

pub returns-clause-first : goal.returns-clause-first
returns-clause-first c = λ g h session number octets so is.
    first_unborne c.args.self.now g h session number octets c.args.reading.now c.header.result.domain c.records-records.result.now c.in_ok-cut.cut.items (map shown c.deref-3.result.now) c.first_empty.result so is
    (ap (λ x. x.domain) c.header.ensures) c.records-records.ensures
    (c.in_ok-cut.ensures h so.subscribers ∙ ap (map (known h)) c.deref.ensures.value)
    (ap (map shown) c.deref-3.ensures.value ∙ c.in_ok-shares.ensures.shares ∙ ap (shares_of c.header.result.domain c.args.self.now.in_force c.records-records.result.now) c.deref-2.ensures.value)
    c.first_empty.ensures
