use Rattle.std.proofs.Common.{◌≡◌, ◌∙◌, append_assoc}
use Rattle.std.proofs.lemmas.Result.{IfOk-weaker}
use Rattle.std.specs.String.{string_bytes}
use Rattle.flow_prefix.specs.declared.family.Family.TheVariants.{Ipv6}
use Rattle.flow_prefix.specs.Printing.{address_text}
use Rattle.ipmd_explain.proofs.WordLaws.{colons}
use Rattle.ipmd_explain.proofs.flow_words.groups.Goals as goal

pub returns : goal.returns
returns c =
    IfOk-weaker c.format.result _ (λ text. string_bytes text ≡ address_text Ipv6 c.args.n)
    (λ text e.
    let digits = rw (c.in_radix.ensures, c.in_radix-2.ensures, c.in_radix-3.ensures, c.in_radix-4.ensures, c.in_radix-5.ensures, c.in_radix-6.ensures, c.in_radix-7.ensures, c.in_radix-8.ensures) at e in
    let numbers = rw (c.group-a.ensures, c.group-b.ensures, c.group-c.ensures, c.group-d.ensures, c.group-e.ensures, c.group-f.ensures, c.group-g.ensures, c.group-h.ensures) at digits in
    let written = simp append_assoc at numbers in
    written ∙ colons c.args.n)
    c.format.ensures.ok
