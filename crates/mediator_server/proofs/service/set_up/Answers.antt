use Rattle.std.proofs.Common.{◌≡◌, get_or, subst, arith}
use Rattle.std.specs.Prelude.{string_bytes}
use Rattle.event_journal.specs.declared.entry.Entry.TheVariants.{Subscribe}
use Rattle.shared_mediator.specs.Handles.{KeepsEntry}
use Rattle.mediator_server.proofs.SettingUp.{subscribed}
use Rattle.mediator_server.proofs.service.set_up.Goals as goal

pub collectors-preserved : goal.collectors-preserved
collectors-preserved g c =
    subscribed (string_bytes c.args.plan.now.policy) c.args.plan.now.deliver.items c.collectors.collector-index c.collector-item.result c.in_ok-sub.sub.0 c.collectors.admin c.subscribe.new.self (omega (arith, c.collectors-test.true))
    (subst (λ items. c.collector-item.result ≡ get_or items c.collectors.collector-index c.collector-item.result) c.as_slice-collector-items.ensures.value c.collector-item.is) c.collectors.invariant
    (subst (λ name. KeepsEntry c.collectors.admin (Subscribe c.in_ok-sub.sub.0 name) c.subscribe.new.self) c.as_str-in-collectors.ensures.value c.in_ok-sub.ensures.kept)
