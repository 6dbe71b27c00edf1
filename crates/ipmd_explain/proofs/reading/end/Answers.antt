use Rattle.std.proofs.Common.{inl, inr}
use Rattle.history_verify.proofs.FeedLaws.{err_map, ok_map}
use Rattle.ipmd_explain.proofs.reading.end.Goals as goal

pub returns-in-Ok-clause-legal : goal.returns-in-Ok-clause-legal
returns-in-Ok-clause-legal c = ok_map c.see_asked.result c.see_asked.ensures.there (λ there h fed. (c.in-Ok.ensures.ok h fed).legal)

pub returns-in-Ok-clause-err : goal.returns-in-Ok-clause-err
returns-in-Ok-clause-err c = err_map c.see_asked.result c.see_asked.ensures.err (λ e lacks h fed so. inr ((c.in-Ok.ensures.ok h fed).legal, lacks h so))

pub returns-in-Err-clause-err : goal.returns-in-Err-clause-err
returns-in-Err-clause-err c = λ h fed so. inl (record { fault = c.in-Err.fault; is = c.fault_of.ensures; names = c.in-Err.ensures.err h fed })
