use Rattle.octet_io.specs.Device.{device_failed, device_inner}
use Rattle.ipmd_commands.proofs.Telling.{blames}
use Rattle.ipmd_commands.proofs.fault.Fault.report.Goals as goal

pub returns-clause-told : goal.returns-clause-told
returns-clause-told g c =
    blames c.args.self (device_failed c.name_device.new.errors) (device_failed c.say.new.errors) (g.E.Write.contents (device_inner c.args.errors.now))
    (g.E.Write.contents (device_inner c.name_device.new.errors)) (g.E.Write.contents (device_inner c.say.new.errors))
    c.name_device.ensures c.say.ensures.stays c.say.ensures.told
