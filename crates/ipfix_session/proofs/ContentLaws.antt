-- What items hold, item by item.
use Rattle.std.proofs.Common.{◌≡◌, ℕ, List, [], ◌∷◌, ◌++◌, reverse, Result, Ok, Err, refl, sym, ap, ◌∙◌, append_assoc}
use Rattle.std.proofs.lemmas.List.{reverse-append}
use Rattle.ipfix_message.specs.declared.item.Item.{Item}
use Rattle.ipfix_session.specs.declared.fault.Fault.{Fault}
use Rattle.ipfix_session.specs.Contents.{Contents, both, nothing, item_contents, contents_after, both_read}
use Rattle.sequences.specs.Results.{◌>>=◌}
use Rattle.ipfix_session.proofs.WalkSteps.{both-nothing, nothing-both, both-both}

abbrev Reading : Type 0
Reading = Result Contents Fault

abbrev holds : Contents → Reading
holds c = Ok c

nothing-read : (r : Reading) → r ≡ both_read (Ok nothing) r
nothing-read (Ok c) = ap holds (sym (nothing-both c))
nothing-read (Err e) = refl

read-nothing : (r : Reading) → both_read r (Ok nothing) ≡ r
read-nothing (Ok c) = ap holds (both-nothing c)
read-nothing (Err e) = refl

read-read : (a b c : Reading) → both_read a (both_read b c) ≡ both_read (both_read a b) c
read-read (Ok a) (Ok b) (Ok c) = ap holds (sym (both-both a b c))
read-read (Ok a) (Ok b) (Err e) = refl
read-read (Ok a) (Err e) c = refl
read-read (Err e) b c = refl

in_turn : (a b : Reading) → (a >>= λ first. b >>= λ others. holds (both first others)) ≡ both_read a b
in_turn (Ok a) (Ok b) = refl
in_turn (Ok a) (Err e) = refl
in_turn (Err e) b = refl

contents_after-cons : (older : List Item) (message : List ℕ) (item : Item) (items : List Item) → contents_after older message (item ∷ items) ≡ both_read (item_contents older message item) (contents_after (item ∷ older) message items)
unfolding contents_after
contents_after-cons older message item items = in_turn (item_contents older message item) (contents_after (item ∷ older) message items)

contents_after-nil : (older : List Item) (message : List ℕ) → contents_after older message [] ≡ Ok nothing
unfolding contents_after
contents_after-nil older message = refl

pub contents_after-one : (older : List Item) (message : List ℕ) (item : Item) → contents_after older message (item ∷ []) ≡ item_contents older message item
contents_after-one older message item =
    contents_after-cons older message item []
    ∙ ap (both_read (item_contents older message item)) (contents_after-nil (item ∷ older) message)
    ∙ read-nothing (item_contents older message item)

pub contents_after-append : (older : List Item) (message : List ℕ) (first others : List Item) → contents_after older message (first ++ others) ≡ both_read (contents_after older message first) (contents_after (reverse first ++ older) message others)
contents_after-append older message [] others =
    nothing-read (contents_after older message others)
    ∙ ap (λ (r : Reading). both_read r (contents_after older message others)) (sym (contents_after-nil older message))
contents_after-append older message (item ∷ first) others =
    let back : reverse first ++ (item ∷ older) ≡ reverse (item ∷ first) ++ older = sym (append_assoc (reverse first) (item ∷ []) older) ∙ ap (λ (is : List Item). is ++ older) (sym (reverse-append (item ∷ []) first)) in
    let here : Reading = item_contents older message item in
    let rest : Reading = contents_after (reverse (item ∷ first) ++ older) message others in
    contents_after-cons older message item (first ++ others)
    ∙ ap (both_read here) (contents_after-append (item ∷ older) message first others ∙ ap (λ (is : List Item). both_read (contents_after (item ∷ older) message first) (contents_after is message others)) back)
    ∙ read-read here (contents_after (item ∷ older) message first) rest
    ∙ ap (λ (r : Reading). both_read r rest) (sym (contents_after-cons older message item first))
