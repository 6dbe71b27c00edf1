use Rattle.std.proofs.Common.{ℕ, List, Result, Ok, sym, ap, ◌∙◌, subst}
use Rattle.ipfix_template.specs.DataRecord.{DataRecord}
use Rattle.ipfix_session.specs.declared.fault.Fault.{Fault as ReadError}
use Rattle.ipfix_message.specs.declared.header.Header.{Header}
use Rattle.ipfix_session.specs.Contents.{Contents}
use Rattle.ipfix_session.specs.Meaning.{Meaning}
use Rattle.prepared_message.specs.Preparation.{Preparation, IsPreparedWith, AgreesWith}
use Rattle.prepared_message.proofs.ApplyLaws.{read_as}
use Rattle.prepared_message.proofs.prepared.Prepared.reading_in.Goals as goal

pub returns-in-Some-clause-reading : goal.returns-in-Some-clause-reading
returns-in-Some-clause-reading c = λ older stands.
    let p = c.args.self.now in
    let h = c.self.inside.header in
    let kept : IsPreparedWith p h c.self.inside.count = subst (λ (q : Preparation). IsPreparedWith q h c.self.inside.count) c.self.view_is c.self.invariant.0 in
    let agrees : AgreesWith older p = rw c.in-Some.is at (c.in_ok-records.ensures.agrees older stands) in
    c.reading_of.ensures.reading older p.message stands kept.headed kept.prepared.no_templates
    (kept.prepared.holds older agrees
    ∙ ap (λ (rs : List DataRecord). read_as (record { records = rs; skips = p.contents.skips })) (sym (rw c.in-Some.is at c.in_ok-records.ensures.records))
    ∙ ap (λ (q : Preparation). read_as (record { records = c.in-Some.records; skips = q.contents.skips })) (sym c.self.view_is))

pub returns-in-Some-clause-domain : goal.returns-in-Some-clause-domain
returns-in-Some-clause-domain c =
    let kept : IsPreparedWith c.args.self.now c.self.inside.header c.self.inside.count = subst (λ (q : Preparation). IsPreparedWith q c.self.inside.header c.self.inside.count) c.self.view_is c.self.invariant.0 in
    ap (λ (m : Meaning). m.header.domain) c.reading_of.ensures.meaning ∙ ap (λ (h : Header). h.domain) (sym kept.headed)

pub returns-in-Some-clause-records : goal.returns-in-Some-clause-records
returns-in-Some-clause-records c = ap (λ (m : Meaning). m.records) c.reading_of.ensures.meaning ∙ (rw c.in-Some.is at c.in_ok-records.ensures.records)
