use Rattle.std.proofs.Common.{◌+◌, refl, subst, sym, arith}
use Rattle.mediator_offline.specs.Steps.{RunRefuses}
use Rattle.mediator_offline.proofs.Receiving.{err_gives, refused, received, records_fit, few_noted}
use Rattle.mediator_offline.proofs.run.OfflineRun.receive.Goals as goal

pub returns-in_err-receipt-clause-err : goal.returns-in_err-receipt-clause-err
returns-in_err-receipt-clause-err g c =
    err_gives c.from_residual.result c.from_residual.ensures
    (λ e is. subst (λ x. RunRefuses x c.args.self.now c.args.message) (sym is) (refused c.in_err-receipt.field-0.0 c.args.self.now c.args.message c.requires.delivered c.in_err-receipt.ensures.err))

pub overflow_add-self-2 : goal.overflow_add-self-2
overflow_add-self-2 g c = omega (arith, records_fit c.args.self.now (record { alloc = c.args.self.now.alloc; job = c.args.self.now.job; state = c.receive.new.self; messages = 0; records = 0; sent = 0; message = c.args.self.now.message }) c.args.message c.in_ok-receipt.receipt c.requires.delivered c.in_ok-receipt.ensures.ok.goes_on)

pub returns-clause-few : goal.returns-clause-few
returns-clause-few g c = few_noted c.args.self.now (record { alloc = c.args.self.now.alloc; job = c.args.self.now.job; state = c.receive.new.self; messages = c.args.self.now.messages + 1; records = c.args.self.now.records + c.in_ok-receipt.receipt.records; sent = c.args.self.now.sent; message = c.args.self.now.message }) c.args.message c.in_ok-receipt.receipt c.requires.delivered (record {
  job = refl;
  messages = refl;
  records = refl;
  untouched = c.in_ok-receipt.ensures.ok.untouched;
  journaled = c.in_ok-receipt.ensures.ok.journaled;
  receives = c.in_ok-receipt.ensures.ok.goes_on;
})

pub returns-clause-ok : goal.returns-clause-ok
returns-clause-ok g c = received c.args.self.now (record { alloc = c.args.self.now.alloc; job = c.args.self.now.job; state = c.receive.new.self; messages = c.args.self.now.messages + 1; records = c.args.self.now.records + c.in_ok-receipt.receipt.records; sent = c.args.self.now.sent; message = c.args.self.now.message }) c.args.message c.in_ok-receipt.receipt (record {
  job = refl;
  messages = refl;
  records = refl;
  untouched = c.in_ok-receipt.ensures.ok.untouched;
  journaled = c.in_ok-receipt.ensures.ok.journaled;
  receives = c.in_ok-receipt.ensures.ok.goes_on;
})
