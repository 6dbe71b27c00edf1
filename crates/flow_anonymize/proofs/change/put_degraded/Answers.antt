use Rattle.std.proofs.Common.{◌≡◌, ◌++◌, OnOk, ℕ, List, subst, arith}
use Rattle.flow_anonymize.proofs.TimeLaws.{no_time}
use Rattle.flow_anonymize.proofs.change.put_degraded.Goals as goal

pub returns-in_default-clause-ok : goal.returns-in_default-clause-ok
returns-in_default-clause-ok c =
    let shows : List ℕ → Type 0 = λ shown. OnOk c.put_first_bits.result (c.put_first_bits.new.text.items ≡ c.args.text.now.items ++ shown) in
    subst shows (no_time c.args.seconds c.args.octets.now (λ i. omega (arith, c.type_inv.octets i)) c.in_default.ensures.none) c.put_first_bits.ensures.ok
