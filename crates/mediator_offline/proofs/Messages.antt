-- Whom a message cuts, where the subscription 1 alone is served.
use Rattle.std.proofs.Common.{◌≡◌, ℕ, Bool, true, false, List, [], ◌∷◌, map, refl, ap, ◌∙◌}
use Rattle.std.specs.Prelude.{filter}
use Rattle.std.specs.List.{flat_map}
use Rattle.event_journal.specs.declared.entry.Entry.{Entry}
use Rattle.event_journal.specs.declared.entry.Entry.TheVariants.{Cut}
use Rattle.mediator_history.specs.Subscriptions.{is_served, subscribed_in, served}
use Rattle.mediator_history.specs.Cuts.{is_cut_by}
use Rattle.mediator_offline.specs.Offline.{offline_stream_limits, next_message, cuts_by}

filter-one : {X : Type 0} (p : X → Bool) (x : X) → p x ≡ true → filter p (x ∷ []) ≡ x ∷ []
filter-one p x e = rw e refl

pub filter-none : {X : Type 0} (p : X → Bool) (x : X) → p x ≡ false → filter p (x ∷ []) ≡ []
filter-none p x e = rw e refl

pub served_alone : (h : List Entry) → flat_map subscribed_in h ≡ 1 ∷ [] → is_served 1 h ≡ true → served h ≡ 1 ∷ []
served_alone h alone on = ap (filter (λ sub. is_served sub h)) alone ∙ filter-one (λ sub. is_served sub h) 1 on

-- where what is given fits, no one is cut
pub cuts_none : (h : List Entry) (octets : List ℕ) → served h ≡ 1 ∷ [] → is_cut_by offline_stream_limits h (next_message h octets) (λ sub. 0) 1 ≡ false → cuts_by h octets ≡ []
cuts_none h octets alone fits =
    ap (λ subs. map Cut (filter (is_cut_by offline_stream_limits h (next_message h octets) (λ sub. 0)) subs)) alone
    ∙ ap (map Cut) (filter-none (is_cut_by offline_stream_limits h (next_message h octets) (λ sub. 0)) 1 fits)

-- else the subscription is
pub cuts_one : (h : List Entry) (octets : List ℕ) → served h ≡ 1 ∷ [] → is_cut_by offline_stream_limits h (next_message h octets) (λ sub. 0) 1 ≡ true → cuts_by h octets ≡ Cut 1 ∷ []
cuts_one h octets alone over =
    ap (λ subs. map Cut (filter (is_cut_by offline_stream_limits h (next_message h octets) (λ sub. 0)) subs)) alone
    ∙ ap (map Cut) (filter-one (is_cut_by offline_stream_limits h (next_message h octets) (λ sub. 0)) 1 over)
