-- What a command says: the command with the octets of its name.
use Rattle.std.specs.Prelude.{ℕ, List}
use Rattle.admin_text.specs.declared.command.Topic.{Topic}
use Rattle.admin_text.specs.declared.command.Command.{Command}
use Rattle.admin_text.specs.declared.command.Command.TheVariants as command

pub data AdminSaying : Type 0 where
  -- how many octets the policy's text has
  to_edit : ℕ → AdminSaying
  to_subscribe : List ℕ → AdminSaying
  to_unsubscribe : ℕ → AdminSaying
  -- the time, in milliseconds since 1970
  to_advance : ℕ → AdminSaying
  to_tell_status : ℕ → AdminSaying
  to_drain_audit : ℕ → AdminSaying
  to_tell : Topic → AdminSaying
  to_stop : AdminSaying

abbrev pub admin_saying : Command → AdminSaying
admin_saying (command.Edit octets) = to_edit octets
admin_saying (command.Subscribe name) = to_subscribe name.items
admin_saying (command.Unsubscribe sub) = to_unsubscribe sub
admin_saying (command.Advance t) = to_advance t
admin_saying (command.Status sub) = to_tell_status sub
admin_saying (command.Audit most) = to_drain_audit most
admin_saying (command.Tell topic) = to_tell topic
admin_saying command.Stop = to_stop
