-- Records whose template's numbers fit their octets may be streamed.
use Rattle.std.proofs.Common.{ℕ, List, [], ◌∷◌, ◌≡◌, ◌<◌, length, map, arith}
use Rattle.std.specs.List.{AllByRecursion}
use Rattle.ipfix_octets.specs.MessageFormat.{least_template_id}
use Rattle.ipfix_template.specs.declared.template.Template.{Template}
use Rattle.ipfix_template.specs.Template.{IsAcceptable, IsWritable, is_options}
use Rattle.ipfix_template.specs.DataRecord.{IsKept, kept_record}
use Rattle.stream_meaning.specs.Served.{IsStreamable}

-- the template of a run of some record is accepted
pub accepted_of_some : (t : Template) (texts : List (List ℕ)) → AllByRecursion (IsKept t) texts → 0 < length texts → IsAcceptable t
accepted_of_some t [] kept some = absurd (omega arith)
accepted_of_some t (text ∷ texts) kept some = kept.0.sound.accepted

pub seen_run : (t : Template) (texts : List (List ℕ)) → AllByRecursion (IsKept t) texts → IsWritable least_template_id (is_options t) t → AllByRecursion IsStreamable (map (kept_record t) texts)
seen_run t [] kept writable = tt
seen_run t (text ∷ texts) kept writable = (record { sound = kept.0.sound; writable = writable }, seen_run t texts kept.1 writable)

-- without a record there is nothing to see
pub seen_none : (t : Template) (texts : List (List ℕ)) → length texts ≡ 0 → AllByRecursion IsStreamable (map (kept_record t) texts)
seen_none t [] none = tt
seen_none t (text ∷ texts) none = absurd (omega arith)
