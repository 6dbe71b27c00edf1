use Rattle.std.proofs.lemmas.Result.{err_from_is_err_and}
use Rattle.ipfix_session.proofs.SessionSteps.{header_fault}
use Rattle.ipfix_session.proofs.session.Session.apply.Goals as goal

pub returns-in_err-read_header-clause-meaning : goal.returns-in_err-read_header-clause-meaning
returns-in_err-read_header-clause-meaning c = λ older stands.
    let p = err_from_is_err_and c.from_residual.result c.from_residual.ensures.1 in
    rw (p.1, p.2) (header_fault older c.args.message.now c.in_err-read_header.field-0.0 c.in_err-read_header.ensures.exact)
