use Rattle.std.proofs.Common.{◌≡◌, Ok, sym, ap, ◌∙◌}
use Rattle.std.proofs.lemmas.Result.{IfOk-weaker}
use Rattle.std.specs.String.{string_bytes}
use Rattle.flow_prefix.specs.declared.family.Family.TheVariants.{Ipv4, Ipv6}
use Rattle.flow_prefix.specs.declared.prefix.Prefix.TheVariants.{V4, V6}
use Rattle.flow_prefix.specs.Printing.{net_text}
use Rattle.flow_prefix.specs.Reading.{prefix_of}
use Rattle.flow_prefix.proofs.PrintLaws.{reads_back}
use Rattle.flow_prefix.proofs.prefix.Prefix.print.Goals as goal

pub returns-in-V4-clause-reads_back : goal.returns-in-V4-clause-reads_back
returns-in-V4-clause-reads_back c =
    IfOk-weaker c.print.result (λ text. string_bytes text ≡ net_text Ipv4 c.in-V4.net) (λ text. prefix_of (string_bytes text) ≡ Ok c.args.self.now)
    (λ text e. ap prefix_of e ∙ reads_back (V4 c.in-V4.net) c.print.ensures.sound ∙ ap (λ p. Ok p) (sym c.in-V4.is))
    c.print.ensures.text

pub returns-in-V6-clause-reads_back : goal.returns-in-V6-clause-reads_back
returns-in-V6-clause-reads_back c =
    IfOk-weaker c.print-in-V6.result (λ text. string_bytes text ≡ net_text Ipv6 c.in-V6.net) (λ text. prefix_of (string_bytes text) ≡ Ok c.args.self.now)
    (λ text e. ap prefix_of e ∙ reads_back (V6 c.in-V6.net) c.print-in-V6.ensures.sound ∙ ap (λ p. Ok p) (sym c.in-V6.is))
    c.print-in-V6.ensures.text
