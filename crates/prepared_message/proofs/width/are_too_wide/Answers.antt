use Rattle.std.proofs.Common.{◌+◌, ◌<◌, ◌==◌, ℕ, Some, cond, refl, sym, ap, ◌∙◌, subst₂, true≢false, arith}
use Rattle.std.specs.Ordering.{nat_cmp}
use Rattle.std.specs.BTreeMap.{get}
use Rattle.prepared_message.specs.Widths.{values_by_widths, given_or, widths_in}
use Rattle.prepared_message.proofs.WidthLaws.{AreCounted, counts_given, counts_other, counts_set, counts_too_many, counts_all}
use Rattle.prepared_message.proofs.width.are_too_wide.Goals as goal
use Rattle.prepared_message.proofs.width.are_too_wide.Goals.{in-Define+in_ok-give-in-Define, in-DataSet+else-values-left, in_default}

pub returns-then-values-left : goal.returns-then-values-left
returns-then-values-left c =
    let known = widths_in c.args.domain c.args.templates.now in
    let many : c.args.most < values_by_widths known c.args.said.now =
    counts_too_many c.args.most (given_or (get nat_cmp c.items.given) known) c.args.said.now c.items.item-index (values_by_widths known c.args.said.now) c.items.left c.values_of_set-values.result c.item-item.result c.in-DataSet.id c.in-DataSet.start c.in-DataSet.len
    c.items-test.true c.item-item.is c.in-DataSet.is c.values_of_set-values.ensures c.if-values-left.true c.items.invariant.counted in
    (λ is. many, λ is. refl)

pub items-preserved : goal.items-preserved
items-preserved c =
    let known = widths_in c.args.domain c.args.templates.now in
    let all = values_by_widths known c.args.said.now in
    let place = c.items.item-index in
    let counted = c.items.invariant.counted in
    elim c.match-item.branch [
      | in-Define+in_ok-give-in-Define w ↦ record {
        counted = subst₂ (λ given left. AreCounted c.args.most (given_or (get nat_cmp given) known) c.args.said.now (place + 1) all left) (sym w.given-is) (sym w.left-is)
            (counts_given c.args.most (get nat_cmp c.items.given) (get nat_cmp w.give.new.given) known c.args.said.now place all c.items.left c.item-item.result w.in-Define.id w.in-Define.template c.items-test.true c.item-item.is w.in-Define.is
            (λ other. w.in_ok-give-in-Define.ensures other ∙ ap (λ x. cond (other == w.in-Define.id) (Some x) (get nat_cmp c.items.given other)) w.of.ensures) counted);
        few = omega (arith, w.left-is, c.items.invariant.few);
      }
      | in-DataSet+else-values-left w ↦ record {
        counted = subst₂ (λ given left. AreCounted c.args.most (given_or (get nat_cmp given) known) c.args.said.now (place + 1) all left) (sym w.given-is) (sym w.left-is)
            (counts_set c.args.most (given_or (get nat_cmp c.items.given) known) c.args.said.now place all c.items.left w.values_of_set-values.result c.item-item.result w.in-DataSet.id w.in-DataSet.start w.in-DataSet.len c.items-test.true c.item-item.is w.in-DataSet.is
            w.values_of_set-values.ensures w.if-values-left.false c.items.invariant.few c.requires.few counted);
        few = omega (arith, w.left-is, c.items.invariant.few);
      }
      | in_default w ↦ record {
        counted = subst₂ (λ given left. AreCounted c.args.most (given_or (get nat_cmp given) known) c.args.said.now (place + 1) all left) (sym w.given-is) (sym w.left-is)
            (counts_other c.args.most (given_or (get nat_cmp c.items.given) known) c.args.said.now place all c.items.left c.item-item.result c.items-test.true c.item-item.is w.in_default.not-Define w.in_default.not-DataSet counted);
        few = omega (arith, w.left-is, c.items.invariant.few);
      }
    ]

pub returns : goal.returns
returns c =
    let known = widths_in c.args.domain c.args.templates.now in
    let few = counts_all c.args.most (given_or (get nat_cmp c.items.given) known) c.args.said.now c.items.item-index (values_by_widths known c.args.said.now) c.items.left c.items-test.false c.items.invariant.counted in
    (λ is. absurd (true≢false (sym is)), λ many. absurd (omega (arith, few, many)))
