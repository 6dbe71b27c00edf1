use Rattle.std.proofs.Common.{◌≡◌, ap, ◌∙◌, append_assoc}
use Rattle.std.proofs.lemmas.Result.{IfOk-weaker}
use Rattle.std.specs.String.{string_bytes}
use Rattle.flow_prefix.specs.declared.family.Family.TheVariants.{Ipv6}
use Rattle.flow_prefix.specs.Printing.{net_text}
use Rattle.flow_prefix.proofs.PrintLaws.{colons}
use Rattle.flow_prefix.proofs.net.Prefix6.print.Goals as goal

pub returns-clause-text : goal.returns-clause-text
returns-clause-text c =
    IfOk-weaker c.format.result _ (λ text. string_bytes text ≡ net_text Ipv6 c.args.self.now)
    (λ text e.
    let digits = rw (c.in_radix.ensures, c.in_radix-2.ensures, c.in_radix-3.ensures, c.in_radix-4.ensures, c.in_radix-5.ensures, c.in_radix-6.ensures, c.in_radix-7.ensures, c.in_radix-8.ensures) at e in
    let numbers = rw (c.group-a.ensures, c.group-b.ensures, c.group-c.ensures, c.group-d.ensures, c.group-e.ensures, c.group-f.ensures, c.group-g.ensures, c.group-h.ensures) at digits in
    let written = simp append_assoc at numbers in
    written ∙ colons c.self.inside.address c.self.inside.length ∙ ap (net_text Ipv6) c.self.view_is)
    c.format.ensures.ok
