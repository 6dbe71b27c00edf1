use Rattle.std.proofs.Common.{ℕ, List, subst, arith}
use Rattle.sequences.specs.Octets.{AreOctets}
use Rattle.mediator_history.specs.Sessions.{messages_of}
use Rattle.history_verify.proofs.FewRecords.{means_few}
use Rattle.history_verify.proofs.ExporterLaws.{session_at}
use Rattle.history_verify.proofs.replay.Replay.read.Goals as goal

pub returns-in-Ok-clause-few : goal.returns-in-Ok-clause-few
returns-in-Ok-clause-few c =
    let older : List (List ℕ) = messages_of c.args.session c.requires.short.history in
    omega (
      arith,
      means_few older c.args.octets.now c.in-Ok.reading.meaning (subst AreOctets c.deref.ensures c.octets_for_proof.ensures)
          (c.in-Ok.ensures.reading older (session_at c.args.self.now.exporters c.requires.short.history c.args.session c.in-Some.open.now c.requires.short.stands.over.exporters c.in-Some.ensures.found.is)).means,
    )
