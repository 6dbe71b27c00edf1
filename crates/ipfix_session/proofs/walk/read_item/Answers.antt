use Rattle.std.proofs.Common.{ap}
use Rattle.ipfix_session.specs.Contents.{item_contents}
use Rattle.ipfix_session.specs.Changing.{after}
use Rattle.ipfix_session.specs.Walking.{contents_in}
use Rattle.ipfix_session.proofs.WalkSteps.{keeps_define, keeps_withdraw, keeps_refused, keeps_withdraw_all, keeps_skipped, keeps_data, added_reserved, added_refused, added_nothing, in_force}
use Rattle.ipfix_session.proofs.walk.read_item.Goals as goal

pub returns-in-DataSet-clause-reads : goal.returns-in-DataSet-clause-reads
returns-in-DataSet-clause-reads c = λ done keeps.
    in_force done c.args.message.now c.args.item c.in-DataSet.id c.in-DataSet.start c.in-DataSet.len (after c.args.state.now.changes c.args.base.now.templates) (contents_in c.args.state.now) (contents_in c.read_data_set.new.state) c.read_data_set.result c.in-DataSet.is keeps c.read_data_set.ensures.reads

pub returns-in-DataSet-clause-keeps : goal.returns-in-DataSet-clause-keeps
returns-in-DataSet-clause-keeps c =
    keeps_data c.read_data_set.result c.args.base.now.templates c.args.state.now.changes c.read_data_set.new.state.changes c.args.item c.in-DataSet.id c.in-DataSet.start c.in-DataSet.len c.in-DataSet.is c.read_data_set.ensures.changes

pub returns-in-Skipped-clause-reads : goal.returns-in-Skipped-clause-reads
returns-in-Skipped-clause-reads c = λ done keeps. added_reserved done c.args.message.now c.args.item c.in-Skipped.set c.args.state.now.records c.args.state.now.skips c.in-Skipped.is

pub returns-in-Skipped-clause-keeps : goal.returns-in-Skipped-clause-keeps
returns-in-Skipped-clause-keeps c = keeps_skipped (after c.args.state.now.changes c.args.base.now.templates) c.args.item c.in-Skipped.set c.in-Skipped.is

pub returns-in_ok-withdraw-in-Refused-clause-reads : goal.returns-in_ok-withdraw-in-Refused-clause-reads
returns-in_ok-withdraw-in-Refused-clause-reads c = λ done keeps. added_refused done c.args.message.now c.args.item c.in-Refused.id c.in-Refused.why c.args.state.now.records c.args.state.now.skips c.in-Refused.is

pub returns-in_ok-withdraw-in-Refused-clause-keeps : goal.returns-in_ok-withdraw-in-Refused-clause-keeps
returns-in_ok-withdraw-in-Refused-clause-keeps c =
    keeps_refused (after c.args.state.now.changes c.args.base.now.templates) (after c.withdraw.new.self c.args.base.now.templates) c.args.item c.in-Refused.id c.in-Refused.why c.in-Refused.is c.in_ok-withdraw-in-Refused.ensures

pub returns-in_ok-withdraw-in-Withdraw-clause-reads : goal.returns-in_ok-withdraw-in-Withdraw-clause-reads
returns-in_ok-withdraw-in-Withdraw-clause-reads c = λ done keeps. added_nothing done c.args.message.now c.args.item (contents_in c.args.state.now) (ap (item_contents done c.args.message.now) c.in-Withdraw.is)

pub returns-in_ok-withdraw-in-Withdraw-clause-keeps : goal.returns-in_ok-withdraw-in-Withdraw-clause-keeps
returns-in_ok-withdraw-in-Withdraw-clause-keeps c =
    keeps_withdraw (after c.args.state.now.changes c.args.base.now.templates) (after c.withdraw-in-Withdraw.new.self c.args.base.now.templates) c.args.item c.in-Withdraw.id c.in-Withdraw.is c.in_ok-withdraw-in-Withdraw.ensures

pub returns-in-WithdrawAll-clause-reads : goal.returns-in-WithdrawAll-clause-reads
returns-in-WithdrawAll-clause-reads c = λ done keeps. added_nothing done c.args.message.now c.args.item (contents_in c.args.state.now) (ap (item_contents done c.args.message.now) c.in-WithdrawAll.is)

pub returns-in-WithdrawAll-clause-keeps : goal.returns-in-WithdrawAll-clause-keeps
returns-in-WithdrawAll-clause-keeps c =
    keeps_withdraw_all (after c.args.state.now.changes c.args.base.now.templates) (after c.withdraw_all.new.self c.args.base.now.templates) c.args.item c.in-WithdrawAll.options c.in-WithdrawAll.is (c.withdraw_all.ensures c.args.base.now.templates)

pub returns-in_ok-define-in-Define-clause-reads : goal.returns-in_ok-define-in-Define-clause-reads
returns-in_ok-define-in-Define-clause-reads c = λ done keeps. added_nothing done c.args.message.now c.args.item (contents_in c.args.state.now) (ap (item_contents done c.args.message.now) c.in-Define.is)

pub returns-in_ok-define-in-Define-clause-keeps : goal.returns-in_ok-define-in-Define-clause-keeps
returns-in_ok-define-in-Define-clause-keeps c =
    keeps_define (after c.args.state.now.changes c.args.base.now.templates) (after c.define.new.self c.args.base.now.templates) c.args.item c.in-Define.id c.in-Define.template c.in-Define.is c.in_ok-define-in-Define.ensures
