use Rattle.std.proofs.Common.{refl}
use Rattle.std.proofs.lemmas.List.{take_rest}
use Rattle.ipfix_template.proofs.TextLaws.{first_cut}
use Rattle.ipfix_template.proofs.data_record.entries.cut_first.Goals as goal

pub returns-clause-first : goal.returns-clause-first
returns-clause-first c =
    (first_cut c.args.fields.now c.args.octets.now _ _ c.next_place-start.result.0 c.next_place-start.result.1 c.requires.kept c.requires.some c.next_place-start.ensures.shown c.next_place-start.ensures.passed refl (take_rest c.args.octets.now c.next_place-start.result.1)).0

pub returns-clause-kept : goal.returns-clause-kept
returns-clause-kept c =
    (first_cut c.args.fields.now c.args.octets.now _ _ c.next_place-start.result.0 c.next_place-start.result.1 c.requires.kept c.requires.some c.next_place-start.ensures.shown c.next_place-start.ensures.passed refl (take_rest c.args.octets.now c.next_place-start.result.1)).1
