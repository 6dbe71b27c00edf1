-- What a device shows: its reader or writer, whether it has failed, and why it first did.
use Rattle.std.specs.Prelude.{Bool, Option, is_some}
use Rattle.std.specs.declared.io.Error.{Error}
use Rattle.octet_io.specs.declared.device.Device.{Device}

abbrev pub device_inner : {T : Type 0} → Device T → T
device_inner d = d.inner

abbrev pub device_fault : {T : Type 0} → Device T → Option Error
device_fault d = d.fault

abbrev pub device_failed : {T : Type 0} → Device T → Bool
device_failed d = is_some (device_fault d)
