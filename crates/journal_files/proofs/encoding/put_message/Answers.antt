use Rattle.std.proofs.Common.{◌∷◌, length}
use Rattle.sequences.specs.Octets.{be_octets}
use Rattle.journal_files.proofs.WrittenParts.{appended, four_parts}
use Rattle.journal_files.proofs.encoding.put_message.Goals as goal

pub returns : goal.returns
returns c =
    appended c.extend_from_slice.result c.put_length.new.out.items c.args.message.now _ _ c.extend_from_slice.ensures.items
    (four_parts c.args.out.now.items (3 ∷ be_octets 8 c.args.session) (be_octets 8 c.args.number) (be_octets 4 (length c.args.message.now)) c.args.message.now
    _ _ _ c.in_ok-put_numbered.ensures c.in_ok-put_number.ensures c.in_ok-put_length.ensures)
