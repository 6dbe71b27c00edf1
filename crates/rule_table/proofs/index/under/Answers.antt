use Rattle.std.proofs.Common.{◌≤◌, ◌<◌, ◌+◌, arith}
use Rattle.rule_table.specs.Index.{entry}
use Rattle.rule_table.proofs.IndexLaws.{to_bound}
use Rattle.rule_table.proofs.index.under.Goals as goal

pub returns : goal.returns
returns c = λ place few there.
    let e = entry c.args.mark place in
    let up : c.entry-low.result ≤ e = omega (arith, c.entry-low.ensures) in
    let down : e < c.entry-low.result + 18446744073709551615 = omega (arith, c.entry-low.ensures, few) in
    to_bound c.from_bound-rest.result.now c.count_below.result (c.entry-low.result + 18446744073709551615) e c.count_below.ensures.within c.count_below.ensures.above down (c.from_bound-rest.ensures.kept e up there)
