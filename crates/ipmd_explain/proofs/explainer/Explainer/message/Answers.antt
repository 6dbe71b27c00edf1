use Rattle.std.proofs.Common.{rules, refl, sym, ap, ◌∙◌}
use Rattle.std.specs.Prelude.{string_bytes}
use Rattle.ipfix_session.specs.Keeping.{at_key}
use Rattle.history_verify.proofs.ExporterLaws.{exporters_same}
use Rattle.ipmd_explain.proofs.StandingLaws.{count_stays, room_there, taken_met}
use Rattle.ipmd_explain.proofs.explainer.Explainer.message.Goals as goal

pub keep-requires : goal.keep-requires
keep-requires c =
    let same = c.in_ok-make_room.ensures.unchanged.sessions c.args.session in
    record {
      room = room_there (at_key c.args.session c.args.self.now.exporters.sessions) (at_key c.args.session c.make_room.new.self.sessions) c.in-Some.reading same (rw c.in-Some.is at c.in_ok-reading.ensures.room) c.in_ok-make_room.ensures.room;
      count = count_stays (at_key c.args.session c.args.self.now.exporters.sessions) (at_key c.args.session c.make_room.new.self.sessions) same (rw c.in-Some.is at c.in_ok-reading.ensures.room);
    }

pub returns : goal.returns
returns c = λ h so may.
    let read = (rw c.in-Some.is at c.in_ok-reading.ensures.some) h so.exporters in
    taken_met c.args.self.now c.count.new.self c.meet.new.self c.keep.new.self h c.args.session c.args.number c.args.octets.now c.in-Some.reading c.len-records.result (string_bytes c.in_ok-text.text) so may read
    c.in_ok-text.ensures c.meet.ensures (search rules) c.count.ensures
    (c.keep.ensures h c.args.number c.args.octets.now (exporters_same c.args.self.now.exporters c.make_room.new.self h c.in_ok-make_room.ensures.unchanged so.exporters) read.turn.0 read.read)
