-- How the limits that are read stand to those of a mediator.
use Rattle.std.specs.Prelude.{◌≡◌, pos, codes, Some, Ok}
use Rattle.toml.specs.Data.{Members, integer, get_member}
use Rattle.mediator_calls.specs.declared.limits.Limits.{Limits}
use Rattle.mediator_calls.specs.Limited.{AreAllowed}
use Rattle.ipmd_settings.specs.Reading.{limits_in}

-- the five limits stand at their keys
pub record HasLimits (table : Members) (limits : Limits) : Type 0 where
  pub queue : get_member (codes "queue") table ≡ Some (integer (pos limits.queue))
  pub shapes : get_member (codes "shapes") table ≡ Some (integer (pos limits.shapes))
  pub audit : get_member (codes "audit") table ≡ Some (integer (pos limits.audit))
  pub entries : get_member (codes "journal_entries") table ≡ Some (integer (pos limits.entries))
  pub octets : get_member (codes "journal_octets") table ≡ Some (integer (pos limits.octets))

-- limits that a mediator takes are read where they stand at their keys
abbrev pub AllowedLimitsAreRead : Type 0
AllowedLimitsAreRead = (table : Members) (limits : Limits) → AreAllowed limits → HasLimits table limits → limits_in table ≡ Ok limits
