use Rattle.std.proofs.Common.{◌≡◌, ◌+◌, ◌∙◌, ℕ, List, None, sym, ap, subst, refl}
use Rattle.std.specs.Prelude.{slice_get}
use Rattle.std.specs.Map.{update}
use Rattle.std.specs.Str.{bytes_eq}
use Rattle.std.proofs.lemmas.Map.Text.{btree_map_updates_text}
use Rattle.history_verify.specs.declared.count.SubscriptionCount.{SubscriptionCount}
use Rattle.history_verify.specs.Parts.{live_number}
use Rattle.history_verify.proofs.SubscriberLaws.{named_at, none_at}
use Rattle.history_verify.proofs.BeginLaws.{subscribers_end, live_begun}
use Rattle.history_verify.proofs.subscribers.Subscribers.end.Goals as goal

pub returns-in-Some : goal.returns-in-Some
returns-in-Some c = λ h so on.
    let found = c.in-Some.ensures.some in
    let at = named_at c.args.self.now h c.args.sub found.0 c.in-Some.count.now so found.1 (ap (λ (l : List SubscriptionCount). slice_get l found.0) (sym c.deref.ensures.value) ∙ found.2) in
    subscribers_end c.args.self.now _ h c.args.sub so on refl
    (λ n. btree_map_updates_text c.as_str.result.now c.args.self.now.live c.remove-in-Some.new.self None c.remove-in-Some.ensures.updates n
    ∙ ap (λ (bs : List ℕ). update bytes_eq (live_number c.args.self.now) bs None n) (c.as_str.ensures ∙ at.0))
    c.remove.ensures.keys

pub returns-in_default : goal.returns-in_default
returns-in_default c = λ h so on.
    absurd (live_begun h c.args.sub on (none_at c.args.self.now h c.args.sub so (subst (λ (l : List SubscriptionCount). (place : ℕ) → c.args.sub ≡ place + 1 → slice_get l place ≡ None) c.deref.ensures.value c.in_default.ensures.none)))
