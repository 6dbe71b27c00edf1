use Rattle.std.proofs.Common.{map}
use Rattle.octet_io.specs.Device.{device_failed, device_inner}
use Rattle.ipmd.proofs.Endings.{blamed}
use Rattle.ipmd.proofs.program.Goals as goal

pub returns-in-Err-clause-fails : goal.returns-in-Err-clause-fails
returns-in-Err-clause-fails g c =
    λ failed. (
      c.in-Err.fault,
      c.report.ensures.status,
      blamed (λ errors. g.E.Write.contents (device_inner errors)) (map g.S.AsStr.text c.args.words.now) c.in-Err.fault (g.I.Read.remaining c.args.input)
          (g.O.Write.contents (device_inner c.args.output.now)) (g.O.Write.contents (device_inner c.run.new.output)) c.args.errors.now c.run.new.errors
          (device_failed c.report.new.errors) (g.E.Write.contents (device_inner c.report.new.errors)) c.in-Err.ensures.err c.report.ensures.told,
    )
