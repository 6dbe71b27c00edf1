use Rattle.std.proofs.Common.{ℕ, List, Ok, sym, ap, ◌∙◌, subst, eqb}
use Rattle.std.specs.Prelude.{not}
use Rattle.ipfix_template.specs.DataRecord.{DataRecord}
use Rattle.ipfix_session.specs.Contents.{Contents}
use Rattle.prepared_message.specs.Preparation.{Preparation, IsPreparedWith, AgreesWith}
use Rattle.prepared_message.proofs.ApplyLaws.{meaning_as, is_meant}
use Rattle.prepared_message.proofs.prepared.Prepared.apply_to.Goals as goal

pub returns-in_ok-gap-in-Some-clause-means : goal.returns-in_ok-gap-in-Some-clause-means
returns-in_ok-gap-in-Some-clause-means c = λ older stands.
    let p = c.args.self.now in
    let h = c.self.inside.header in
    let gap = c.in_ok-gap-in-Some.gap in
    let kept : IsPreparedWith p h c.self.inside.count = subst (λ (q : Preparation). IsPreparedWith q h c.self.inside.count) c.self.view_is c.self.invariant.0 in
    let agrees : AgreesWith older p = rw c.in-Some.is at (c.in_ok-records.ensures.agrees older stands) in
    is_meant older p h c.self.inside.count gap kept agrees (c.in_ok-gap-in-Some.ensures.gap older stands)
    ∙ ap (λ (rs : List DataRecord). meaning_as (record { records = rs; skips = p.contents.skips }) h gap) (sym (rw c.in-Some.is at c.in_ok-records.ensures.records))
    ∙ ap (λ (q : Preparation). meaning_as (record { records = c.in-Some.records; skips = q.contents.skips }) h gap) (sym c.self.view_is)

pub returns-in_ok-gap-in-Some-clause-stands : goal.returns-in_ok-gap-in-Some-clause-stands
returns-in_ok-gap-in-Some-clause-stands c = λ older stands.
    let p = c.args.self.now in
    let h = c.self.inside.header in
    let kept : IsPreparedWith p h c.self.inside.count = subst (λ (q : Preparation). IsPreparedWith q h c.self.inside.count) c.self.view_is c.self.invariant.0 in
    let agrees : AgreesWith older p = rw c.in-Some.is at (c.in_ok-records.ensures.agrees older stands) in
    c.in_ok-gap-in-Some.ensures.stands older p.message p.contents stands kept.headed kept.prepared.no_templates (kept.prepared.holds older agrees) kept.counted
    (ap (λ (q : Preparation). not (eqb q.contents.skips.unknown 0)) c.self.view_is)
