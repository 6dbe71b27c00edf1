use Rattle.ipfix_session.specs.ReadAhead.{Ahead}
use Rattle.ipfix_session.specs.Answers.{as_meaning}
use Rattle.ipfix_session.specs.Changing.{change_of}
use Rattle.ipfix_session.proofs.SessionSteps.{room_made}
use Rattle.ipfix_session.proofs.session.Session.make_room.Goals as goal

pub returns-clause-room : goal.returns-clause-room
returns-clause-room c =
    let r = c.reading.inside in
    let ahead : Ahead = record { meaning = as_meaning r.read; change = change_of r.changes; next = r.next } in
    room_made c.make_room.result c.make_place.new.self c.make_room.new.self ahead c.args.reading.now c.reading.view_is c.in_ok-make_place.ensures.made c.make_room.ensures.room
