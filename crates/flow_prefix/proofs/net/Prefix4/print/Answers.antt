use Rattle.std.proofs.Common.{◌≡◌, ap, ◌∙◌}
use Rattle.std.proofs.lemmas.Result.{IfOk-weaker}
use Rattle.std.specs.String.{string_bytes}
use Rattle.flow_prefix.specs.declared.family.Family.TheVariants.{Ipv4}
use Rattle.flow_prefix.specs.Printing.{net_text}
use Rattle.flow_prefix.proofs.PrintLaws.{dotted}
use Rattle.flow_prefix.proofs.net.Prefix4.print.Goals as goal

pub returns-clause-text : goal.returns-clause-text
returns-clause-text c =
    IfOk-weaker c.format.result _ (λ text. string_bytes text ≡ net_text Ipv4 c.args.self.now)
    (λ text e. let written = rw c.to_be_bytes.ensures at e in written ∙ dotted c.self.inside.address c.self.inside.length ∙ ap (net_text Ipv4) c.self.view_is)
    c.format.ensures.ok
