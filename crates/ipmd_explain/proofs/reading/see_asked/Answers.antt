use Rattle.std.proofs.Common.{refl, sym, ◌∙◌}
use Rattle.ipmd_explain.proofs.reading.see_asked.Goals as goal

pub returns-in-Some-clause-err : goal.returns-in-Some-clause-err
returns-in-Some-clause-err c = λ h so. record { what = c.in-Some.absent; is = refl; lacks = sym (c.absent.ensures h so) ∙ c.in-Some.is }

pub returns-in-None-clause-there : goal.returns-in-None-clause-there
returns-in-None-clause-there c = λ h so. sym (c.absent.ensures h so) ∙ c.in-None.is
