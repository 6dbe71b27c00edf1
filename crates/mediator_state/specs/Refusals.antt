-- How a mediator names what its parts refuse.
use Rattle.std.specs.Prelude.{if◌then◌else◌}
use Rattle.ipfix_session.specs.declared.fault.Fault.{Fault as ReadError}
use Rattle.ipfix_session.specs.declared.fault.Fault.TheVariants as read
use Rattle.policy_text.specs.declared.fault.Fault.{Fault as PolicyFault}
use Rattle.policy_text.specs.Results.{is_memory}
use Rattle.mediator_state.specs.declared.fault.Fault.{Fault}
use Rattle.mediator_state.specs.declared.fault.Fault.TheVariants.{Malformed, Policy, OutOfMemory}

abbrev pub reading_refusal : ReadError → Fault
reading_refusal read.OutOfMemory = OutOfMemory
reading_refusal (read.Malformed why) = Malformed (read.Malformed why)
reading_refusal read.RecordOverrun = Malformed read.RecordOverrun

-- want of memory is no fault of a policy
abbrev pub policy_refusal : PolicyFault → Fault
policy_refusal why = if is_memory why.kind then OutOfMemory else Policy why
