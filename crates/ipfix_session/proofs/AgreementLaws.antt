-- What items hold that bring no template depends on the templates of their Data Sets alone.
use Rattle.std.proofs.Common.{◌≡◌, ℕ, List, [], ◌∷◌, Option, Result, Ok, take, drop, refl, sym, ap, ◌∙◌}
use Rattle.sequences.specs.Results.{◌>>=◌}
use Rattle.ipfix_template.specs.declared.template.Template.{Template}
use Rattle.ipfix_message.specs.declared.item.Item.{Item}
use Rattle.ipfix_message.specs.declared.item.Item.TheVariants.{Define, Withdraw, WithdrawAll, Refused, DataSet, Skipped}
use Rattle.ipfix_message.specs.Reading.{items_of}
use Rattle.ipfix_session.specs.declared.fault.Fault.{Fault}
use Rattle.ipfix_session.specs.InForce.{template_in_force}
use Rattle.ipfix_session.specs.Contents.{Contents, both, set_contents, item_contents, contents_after}
use Rattle.ipfix_session.specs.Meaning.{domain_of, items_of_domain, contents_of}
use Rattle.ipfix_session.specs.Unchanging.{BringsNoTemplate, BringNoTemplates, AgreesOn, AgreeOn, in_force_after}
use Rattle.ipfix_session.proofs.SessionSteps.{unchanged_one, contents_are}

-- the template that an ID has after items
abbrev in_force : List Item → ℕ → Option Template
in_force items id = template_in_force id items

one_item : (older newer : List Item) (message : List ℕ) (item : Item) → BringsNoTemplate item → AgreesOn (in_force older) (in_force newer) item → item_contents older message item ≡ item_contents newer message item
one_item older newer message (DataSet id start len) none agrees = ap (λ (t : Option Template). set_contents t (take len (drop start message))) agrees
one_item older newer message (Skipped set) none agrees = refl
one_item older newer message (Define id t) none agrees = absurd none
one_item older newer message (Refused id why) none agrees = absurd none
one_item older newer message (Withdraw id) none agrees = absurd none
one_item older newer message (WithdrawAll options) none agrees = absurd none

-- an item that brings no template leaves them agreeing on another
still_one : (older newer : List Item) (first item : Item) → BringsNoTemplate first → AgreesOn (in_force older) (in_force newer) item → AgreesOn (in_force (first ∷ older)) (in_force (first ∷ newer)) item
still_one older newer first (DataSet id start len) none agrees = unchanged_one id first older none ∙ agrees ∙ sym (unchanged_one id first newer none)
still_one older newer first (Skipped set) none agrees = tt
still_one older newer first (Define id t) none agrees = tt
still_one older newer first (Refused id why) none agrees = tt
still_one older newer first (Withdraw id) none agrees = tt
still_one older newer first (WithdrawAll options) none agrees = tt

still : (older newer : List Item) (first : Item) (items : List Item) → BringsNoTemplate first → AgreeOn (in_force older) (in_force newer) items → AgreeOn (in_force (first ∷ older)) (in_force (first ∷ newer)) items
still older newer first [] none agree = tt
still older newer first (item ∷ items) none agree = (still_one older newer first item none agree.0, still older newer first items none agree.1)

pub same_contents : (older newer : List Item) (message : List ℕ) (items : List Item) → BringNoTemplates items → AgreeOn (in_force older) (in_force newer) items → contents_after older message items ≡ contents_after newer message items
unfolding contents_after
same_contents older newer message [] none agree = refl
same_contents older newer message (item ∷ items) none agree =
    ap (λ (r : Result Contents Fault). r >>= λ f. contents_after (item ∷ older) message items >>= λ o. Ok (both f o)) (one_item older newer message item none.0 agree.0)
    ∙ ap (λ (r : Result Contents Fault). item_contents newer message item >>= λ f. r >>= λ o. Ok (both f o)) (same_contents (item ∷ older) (item ∷ newer) message items none.1 (still older newer item items none.0 agree.1))

pub same_message : (older newer : List (List ℕ)) (message : List ℕ) (said : List Item) → items_of message ≡ Ok said → BringNoTemplates said → AgreeOn (in_force_after (domain_of message) older) (in_force_after (domain_of message) newer) said → contents_of older message ≡ contents_of newer message
same_message older newer message said is none agree =
    contents_are older message said is
    ∙ same_contents (items_of_domain (domain_of message) older) (items_of_domain (domain_of message) newer) message said none agree
    ∙ sym (contents_are newer message said is)
