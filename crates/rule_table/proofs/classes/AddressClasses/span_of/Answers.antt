use Rattle.std.proofs.Common.{◌<◌, ◌^◌, sym, ap, ◌∙◌, arith}
use Rattle.rule_table.specs.Classes.{class_of}
use Rattle.rule_table.proofs.classes.AddressClasses.span_of.Goals as goal

pub returns-clause-span : goal.returns-clause-span
returns-clause-span c =
    let found = c.span_of.ensures.span in
    record {
      few = found.few;
      each = λ address above below.
          let low : address < 2 ^ 32 = omega (arith, below, c.span_of.ensures.span.few) in
          sym (c.self.invariant.below address low ∙ ap (λ xs. class_of xs address) c.self.view_is) ∙ found.each address above below;
    }
