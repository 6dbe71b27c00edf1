use Rattle.std.proofs.Common.{◌≡◌, length, map, sym, ap, subst, ◌∙◌}
use Rattle.ipfix_records.specs.Runs.{records_of_runs}
use Rattle.mediator_tables.specs.SubscriptionTable.{shown}
use Rattle.mediator_shares.specs.InForce.{InForce}
use Rattle.mediator_shares.specs.Alike.{AreLed}
use Rattle.disclosure_audit.specs.Noting.{and_more}
use Rattle.disclosure_audit.proofs.NotingLaws.{kept_from_none}
use Rattle.mediator_shares.specs.Sharing.{shares_of, notes_of}
use Rattle.mediator_shares.proofs.JudgeLaws.{judges_ready}
use Rattle.mediator_shares.proofs.AlikeLaws.{given_each, led_many, led_within}
use Rattle.mediator_shares.proofs.shares.Shares.of_led.Goals.{then-has_led+in_ok-shares, else-has_led}
use Rattle.mediator_shares.proofs.shares.Shares.of_led.Goals as goal

pub keep-requires : goal.keep-requires
keep-requires c = judges_ready c.add_runs.new.judges c.keep_room.new.self c.judges.new.self c.args.domain c.args.leaders.now c.in_ok-add_runs.ensures.judges (c.keep_room.ensures ∙ c.in_ok-given.ensures.taken)

pub spread-requires-clause-each : goal.spread-requires-clause-each
spread-requires-clause-each c =
    led_many c.args.in_force.now.policy.rules c.args.leaders.now c.args.served.now c.args.places.now
    c.requires.led

pub spread-requires-clause-within : goal.spread-requires-clause-within
spread-requires-clause-within c =
    let leaders = c.args.leaders.now in
    led_within c.args.in_force.now.policy.rules leaders c.args.served.now c.args.places.now (length c.deref.result.now)
    c.requires.led
    (given_each c.deref.result.now c.args.domain c.judges.new.self (records_of_runs c.runs-runs.result.now) leaders (ap (map shown) c.deref.ensures.value ∙ c.in_ok-given.ensures.shares ∙ c.in_ok-add_runs.ensures.shares))

pub returns-clause-shares : goal.returns-clause-shares
returns-clause-shares c =
    let stays = c.in_ok-judges.ensures.unchanged in
    let f = c.judges.new.self in
    let records = records_of_runs c.runs-runs.result.now in
    let leaders = c.args.leaders.now in
    let places = c.args.places.now in
    let to_leaders = c.in_ok-given.ensures.shares ∙ c.in_ok-add_runs.ensures.shares in
    let to_all : map shown c.if-has_led.shares.items ≡ shares_of c.args.domain f records c.args.served.now =
    elim c.if-has_led.branch [
      | then-has_led+in_ok-shares w ↦ rw w.shares-is (w.in_ok-shares.ensures c.args.domain f records leaders (ap (map shown) w.deref.ensures.value ∙ to_leaders)
          (subst (λ (x : InForce). AreLed x.policy.rules leaders c.args.served.now places) (sym stays)
          c.requires.led))
      | else-has_led w ↦ rw w.shares-is (to_leaders ∙ ap (λ ws. shares_of c.args.domain f records ws) (c.requires.alone w.if-has_led.false))
    ] in
    to_all
    ∙ ap (λ (x : InForce). shares_of c.args.domain x records c.args.served.now) stays
    ∙ ap (λ rs. shares_of c.args.domain c.args.in_force.now rs c.args.served.now) c.runs-runs.ensures.value

pub returns-clause-notes : goal.returns-clause-notes
returns-clause-notes c =
    let stays = c.in_ok-judges.ensures.unchanged in
    let records = records_of_runs c.runs-runs.result.now in
    let begun = c.in_ok-sums.sums.notes in
    kept_from_none c.args.most (notes_of c.args.domain c.args.in_force.now c.args.records.now c.args.served.now) begun c.add_runs.new.self.notes c.in_ok-sums.ensures.notes
    (c.in_ok-add_runs.ensures.notes
    ∙ ap (λ (x : InForce). and_more begun (notes_of c.args.domain x records c.args.served.now)) stays
    ∙ ap (λ rs. and_more begun (notes_of c.args.domain c.args.in_force.now rs c.args.served.now)) c.runs-runs.ensures.value)
