use Rattle.std.proofs.Common.{◌≡◌, ◌<◌, ◌∙◌, length, refl, sym, subst}
use Rattle.std.specs.Prelude.{IfSome, ◌≢◌, []}
use Rattle.std.specs.List.{AllByRecursion}
use Rattle.mediator_history.specs.Disclosed.{given_at}
use Rattle.event_journal.specs.declared.entry.Entry.TheVariants.{Message}
use Rattle.history_verify.specs.declared.fault.Fault.{Fault}
use Rattle.history_verify.specs.declared.replay.Replay.{Replay}
use Rattle.history_verify.specs.Standing.{RefusesNext, NamesUnborne, StandsOver, Repeats, StandsShort}
use Rattle.history_verify.proofs.FeedLaws.{err_gives, refused, names_unborne, fed_more, borne, short_front}
use Rattle.history_verify.proofs.StepLaws.{read_accepted}
use Rattle.history_verify.proofs.verifier.Verifier.message.Goals as goal

pub returns-in_err-reading-clause-err : goal.returns-in_err-reading-clause-err
returns-in_err-reading-clause-err c =
    err_gives c.from_residual.result c.from_residual.ensures
    (λ e same h fed. refused c.args.self.now (Message c.args.session c.args.number c.args.octets.now) (Message c.args.session c.args.number c.args.octets.now) e refl refl
    (subst (λ (w : Fault). RefusesNext w c.args.self.now.replay (Message c.args.session c.args.number c.args.octets.now)) (sym same) c.in_err-reading.ensures.err) h fed)

pub unborne_by-requires : goal.unborne_by-requires
unborne_by-requires c = record { short = short_front c.args.self.now c.requires.short; few = c.in_ok-reading.ensures.few }

pub borne_out-requires-clause-within : goal.borne_out-requires-clause-within
borne_out-requires-clause-within c = subst (λ (r : Replay). IfSome c.in_ok-unborne.unborne (λ place. place < length r.waiting.items)) (sym c.unborne_by.ensures.unchanged) c.in_ok-unborne.ensures.within

pub returns-in_err-borne_out-clause-err : goal.returns-in_err-borne_out-clause-err
returns-in_err-borne_out-clause-err c =
    err_gives c.from_residual-in_err-borne_out.result c.from_residual-in_err-borne_out.ensures
    (λ e same h fed.
    let is = c.in_ok-reading.ensures.ok fed.front fed.over.stands in
    names_unborne c.args.self.now h (Message c.args.session c.args.number c.args.octets.now) e c.in_ok-unborne.unborne fed
    (subst (λ (w : Fault). NamesUnborne w c.args.self.now c.in_ok-unborne.unborne) (sym same)
    (subst (λ (r : Replay). NamesUnborne c.in_err-borne_out.field-0.0 (record { replay = r; behind = c.args.self.now.behind }) c.in_ok-unborne.unborne) c.unborne_by.ensures.unchanged c.in_err-borne_out.ensures.err)) refl
    (read_accepted fed.front c.args.session c.args.number c.args.octets.now c.in_ok-reading.reading is)
    (c.in_ok-unborne.ensures.first fed.over.stands.settled fed.front c.args.session c.args.number c.args.octets.now fed.over.stands.over is))

pub judge-requires : goal.judge-requires
judge-requires c = record { few = c.in_ok-reading.ensures.few }

pub message-requires : goal.message-requires
message-requires c =
    let fed = c.requires.short.fed in
    let same : c.unborne_by.new.self ≡ c.args.self.now.replay = c.unborne_by.ensures.unchanged in
    let now : c.judge.new.self ≡ c.args.self.now.replay = c.judge.ensures.unchanged ∙ c.unborne_by.ensures.unchanged in
    let is = c.in_ok-reading.ensures.ok fed.front fed.over.stands in
    record {
      short = subst StandsShort (sym now) (short_front c.args.self.now c.requires.short);
      few = c.in_ok-reading.ensures.few;
      planned = (
        fed.over.stands.settled,
        fed.front,
        c.args.number,
        c.args.octets.now,
        subst (λ (r : Replay). StandsOver r fed.over.stands.settled fed.front) (sym now) fed.over.stands.over,
        is,
        c.in_ok-judged.ensures.judged fed.front c.args.session c.args.number c.args.octets.now (subst (λ (r : Replay). Repeats r fed.front) (sym same) fed.over.stands) is,
      );
    }

pub returns-clause-ok : goal.returns-clause-ok
returns-clause-ok c = λ h fed.
    let same : c.unborne_by.new.self ≡ c.args.self.now.replay = c.unborne_by.ensures.unchanged in
    let now : c.judge.new.self ≡ c.args.self.now.replay = c.judge.ensures.unchanged ∙ c.unborne_by.ensures.unchanged in
    let is = c.in_ok-reading.ensures.ok fed.front fed.over.stands in
    fed_more c.args.self.now _ h (Message c.args.session c.args.number c.args.octets.now) fed c.in_ok-borne_out.ensures.behind refl
    (c.in_ok-message.ensures.ok fed.over.stands.settled fed.front c.args.number c.args.octets.now (subst (λ (r : Replay). StandsOver r fed.over.stands.settled fed.front) (sym now) fed.over.stands.over) is
    (subst (λ (r : Replay). AllByRecursion (λ s. given_at s fed.over.stands.settled (Message c.args.session c.args.number c.args.octets.now) ≢ []) r.waiting.items) (sym now)
    (borne (λ s. given_at s fed.over.stands.settled (Message c.args.session c.args.number c.args.octets.now)) c.args.self.now.replay.waiting.items c.in_ok-unborne.unborne c.in_ok-borne_out.ensures.none
    (c.in_ok-unborne.ensures.first fed.over.stands.settled fed.front c.args.session c.args.number c.args.octets.now fed.over.stands.over is)))
    (c.in_ok-judged.ensures.judged fed.front c.args.session c.args.number c.args.octets.now (subst (λ (r : Replay). Repeats r fed.front) (sym same) fed.over.stands) is))
