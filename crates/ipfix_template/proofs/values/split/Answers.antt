use Rattle.std.proofs.Common.{arith}
use Rattle.std.proofs.lemmas.Result.{IfOk-weaker}
use Rattle.ipfix_template.specs.Shown.{Shows}
use Rattle.ipfix_template.specs.Values.{record_front}
use Rattle.ipfix_template.proofs.SplitClauses.{shows_split, shows_found, shows_padding}
use Rattle.ipfix_template.proofs.values.split.Goals as goal

pub returns-clause-found : goal.returns-clause-found
returns-clause-found c =
    IfOk-weaker c.find_record.result (Shows c.args.octets.now (record_front c.args.template.now c.args.octets.now)) _ (λ s h. shows_split c.args.template.now c.args.octets.now (λ i. omega (arith, c.type_inv.octets i)) s h) c.find_record.ensures.exact

pub returns-clause-only : goal.returns-clause-only
returns-clause-only c = λ text rest values parts is.
    IfOk-weaker c.find_record.result (Shows c.args.octets.now (record_front c.args.template.now c.args.octets.now)) _ (shows_found c.args.template.now c.args.octets.now text rest values parts is) c.find_record.ensures.exact

pub returns-clause-padding : goal.returns-clause-padding
returns-clause-padding c =
    IfOk-weaker c.find_record.result (Shows c.args.octets.now (record_front c.args.template.now c.args.octets.now)) _ (shows_padding c.args.template.now c.args.octets.now) c.find_record.ensures.exact
