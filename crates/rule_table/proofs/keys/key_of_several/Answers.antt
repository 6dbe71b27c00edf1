use Rattle.std.proofs.Common.{arith, map, sym}
use Rattle.std.proofs.lemmas.List.{length-map}
use Rattle.rule_table.specs.Places.{value_at}
use Rattle.rule_table.proofs.ClassLaws.{key_of_three}
use Rattle.rule_table.proofs.keys.key_of_several.Goals as goal

pub returns-then-places-gt-MOST_DIGITS-clause-key : goal.returns-then-places-gt-MOST_DIGITS-clause-key
returns-then-places-gt-MOST_DIGITS-clause-key c =
    sym ((key_of_three c.args.classes.now (map (value_at c.args.flow_record.now) c.args.places.now) c.cuts-for_proof.ensures.sound.few).1
    (omega (arith, c.if-places-gt-MOST_DIGITS.true, length-map c.args.places.now (value_at c.args.flow_record.now))))
