use Rattle.std.proofs.Common.{◌∷◌, [], length, arith}
use Rattle.sequences.specs.Octets.{be_octets}
use Rattle.journal_files.proofs.TextLaws.{name_short, name_octet}
use Rattle.journal_files.proofs.WrittenParts.{appended, three_parts}
use Rattle.journal_files.proofs.encoding.put_subscribe.Goals as goal

pub overflow_cast-name : goal.overflow_cast-name
overflow_cast-name c = let short = name_short c.args.name.now c.requires in omega (arith, short)

pub returns : goal.returns
returns c =
    rw (name_octet c.args.name.now c.requires)
    (appended c.extend_from_slice.result c.push.new.self.items c.args.name.now _ _ c.extend_from_slice.ensures.items
    (three_parts c.args.out.now.items (5 ∷ be_octets 8 c.args.sub) (length c.args.name.now ∷ []) c.args.name.now
    _ _ c.in_ok-put_numbered.ensures c.in_ok-push.ensures.items))
