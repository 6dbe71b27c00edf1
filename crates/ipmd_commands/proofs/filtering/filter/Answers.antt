use Rattle.std.proofs.Common.{string_bytes}
use Rattle.std.proofs.lemmas.Result.{IfErr-weaker, IfOk-weaker}
use Rattle.octet_io.specs.Moments.{writer_of}
use Rattle.ipmd_commands.proofs.Inputs.{asked_for}
use Rattle.ipmd_commands.proofs.Naming.{refuses_audited, refuses_unaudited}
use Rattle.ipmd_commands.proofs.filtering.filter.Goals as goal

pub returns-in-Some-clause-ok : goal.returns-in-Some-clause-ok
returns-in-Some-clause-ok g c =
    let asked = asked_for c.args.options.now c.as_str.result (string_bytes c.in_ok-policy.policy) c.is_some.result c.in_ok-policy.ensures.text c.as_str.ensures.value c.is_some.ensures in
    IfOk-weaker c.filter_to_file.result _ _ (λ report done. (asked, done)) c.filter_to_file.ensures.ok

pub returns-in-Some-clause-err : goal.returns-in-Some-clause-err
returns-in-Some-clause-err g c =
    let asked = asked_for c.args.options.now c.as_str.result (string_bytes c.in_ok-policy.policy) c.is_some.result c.in_ok-policy.ensures.text c.as_str.ensures.value c.is_some.ensures in
    IfErr-weaker c.filter_to_file.result _ _ (λ e stops. refuses_audited c.args.options.now c.in-Some.path asked e _ _ _ c.in-Some.is stops) c.filter_to_file.ensures.err

pub returns-clause-ok : goal.returns-clause-ok
returns-clause-ok g c =
    let asked = asked_for c.args.options.now c.as_str.result (string_bytes c.in_ok-policy.policy) c.is_some.result c.in_ok-policy.ensures.text c.as_str.ensures.value c.is_some.ensures in
    IfOk-weaker c.filter_input.result _ _ (λ report done. (asked, (writer_of _ _, done))) c.filter_input.ensures.ok

pub returns-clause-err : goal.returns-clause-err
returns-clause-err g c =
    let asked = asked_for c.args.options.now c.as_str.result (string_bytes c.in_ok-policy.policy) c.is_some.result c.in_ok-policy.ensures.text c.as_str.ensures.value c.is_some.ensures in
    IfErr-weaker c.filter_input.result _ _ (λ e stops. refuses_unaudited c.args.options.now asked e _ _ _ _ _ c.in-None.is stops) c.filter_input.ensures.err
