use Rattle.std.proofs.Common.{rules}
use Rattle.std.proofs.lemmas.Grind.{common_steps}
use Rattle.mediator_state.proofs.CutRows.{none_cut, one_cut, room_left}
use Rattle.mediator_state.proofs.engine.Engine.cut_all.Goals as goal

pub cuts-init : goal.cuts-init
cuts-init g c = none_cut c.args.self.now c.args.position c.args.numbers.now c.requires.room

pub cuts-preserved : goal.cuts-preserved
cuts-preserved g c = one_cut c.args.self.now c.cuts.self c.cut.new.self c.args.position c.cuts.place _ c.args.numbers.now c.cuts.invariant c.cuts-test.true (search (rules, common_steps)) c.cut.ensures.stands c.cut.ensures.once c.cut.ensures.notes

pub cut-requires : goal.cut-requires
cut-requires g c = record { room = room_left c.args.self.now c.cuts.self c.args.position c.cuts.place c.args.numbers.now c.cuts.invariant c.cuts-test.true }
