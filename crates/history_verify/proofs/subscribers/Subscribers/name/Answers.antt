use Rattle.std.proofs.Common.{◌≡◌, ◌+◌, ◌∙◌, ℕ, List, None, sym, ap, subst}
use Rattle.std.specs.Prelude.{slice_get}
use Rattle.history_verify.specs.declared.count.SubscriptionCount.{SubscriptionCount}
use Rattle.history_verify.proofs.SubscriberLaws.{named_at, none_at, if_none}
use Rattle.history_verify.proofs.subscribers.Subscribers.name.Goals as goal

pub returns-in_err-count-clause-none : goal.returns-in_err-count-clause-none
returns-in_err-count-clause-none c = if_none c.from_residual.result (λ h so. none_at c.args.self.now h c.args.sub so
    (subst (λ (l : List SubscriptionCount). (place : ℕ) → c.args.sub ≡ place + 1 → slice_get l place ≡ None) c.deref.ensures.value c.in_err-count.ensures.none))

pub returns-clause-some : goal.returns-clause-some
returns-clause-some c = λ h so.
    let found = c.in_ok-count.ensures.some in
    let at = named_at c.args.self.now h c.args.sub found.0 c.in_ok-count.count.now so found.1 (ap (λ (l : List SubscriptionCount). slice_get l found.0) (sym c.deref.ensures.value) ∙ found.2) in
    (c.as_str.ensures ∙ at.0, at.1, at.2)
