use Rattle.std.proofs.Common.{Some, sym, ap, ◌∙◌}
use Rattle.ipfix_template.specs.declared.template.Template.{Template}
use Rattle.prepared_message.proofs.UseLaws.{same_template_is}
use Rattle.prepared_message.proofs.used.are_same.Goals as goal

pub returns-in-Some-used : goal.returns-in-Some-used
returns-in-Some-used c = same_template_is c.args.kept c.args.used c.in-Some.kept c.in-Some-used.used c.eq.result c.in-Some.is c.in-Some-used.is c.eq.ensures
