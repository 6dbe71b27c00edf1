use Rattle.std.proofs.Common.{refl, ◌≡◌, ◌++◌, [], sym, ap, ◌∙◌, drop, append-nil, arith}
use Rattle.std.proofs.lemmas.List.{drop_all}
use Rattle.flow_prefix.proofs.BitLaws.{kept_from, kept_from-octets}
use Rattle.flow_prefix.proofs.bits.keep_bits.Goals as goal

pub returns-clause-ok : goal.returns-clause-ok
returns-clause-ok c =
    let end : drop c.loop-octet.octet-index c.args.octets.now ≡ [] = drop_all c.loop-octet.octet-index c.args.octets.now (omega arith) in
    let kept = c.loop-octet.invariant.kept in
    let whole = kept_from-octets c.args.n c.args.octets.now (λ i. omega (arith, c.type_inv.octets i)) in
    let rest : kept_from c.loop-octet.left (drop c.loop-octet.octet-index c.args.octets.now) ≡ [] = ap (kept_from c.loop-octet.left) end in
    sym (append-nil c.loop-octet.out.items) ∙ ap (λ r. c.loop-octet.out.items ++ r) (sym rest) ∙ kept ∙ rw (c.reserve.ensures.items, whole) refl
