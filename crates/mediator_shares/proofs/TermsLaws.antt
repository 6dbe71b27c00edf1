-- Terms that are compared, and what was judged by the same terms.
use Rattle.std.proofs.Common.{◌≡◌, true, false, ℕ, ◌+◌, ◌<◌, ◌≤◌, List, [], ◌∷◌, ◌++◌, length, map, take, get_or, slice_get, Some, Result, Ok, refl, sym, ap, ◌∙◌, subst}
use Rattle.std.specs.List.{flat_map, enumerate_from}
use Rattle.std.proofs.lemmas.List.{length-map, map-append, take_more, take_all}
use Rattle.std.proofs.lemmas.List.Concat.{flat_map-cons}
use Rattle.ipfix_template.specs.DataRecord.{DataRecord}
use Rattle.policy_text.specs.Policies.{PolicyMeaning}
use Rattle.policy_text.specs.Parsing.{policy_of}
use Rattle.policy_text.specs.Grammar.{IsPolicy}
use Rattle.policy_text.specs.Printing.{policy_text}
use Rattle.policy_text.specs.declared.fault.Fault.{Fault as PolicyFault}
use Rattle.policy_text.proofs.RoundLaws.{reads_back}
use Rattle.mediator_tables.specs.declared.served.Served.{Served}
use Rattle.mediator_tables.specs.SubscriptionTable.{told}
use Rattle.flow_aggregate.specs.Counts.{Count}
use Rattle.disclosure_audit.specs.declared.entry.Note.{Note}
use Rattle.mediator_shares.specs.declared.shares.Shares.{Shares}
use Rattle.mediator_shares.specs.InForce.{InForce}
use Rattle.mediator_shares.specs.Sharing.{given_by, added_by, kept_by, note_of, noted_of_each, shares_of, tallies_of, notes_of}
use Rattle.disclosure_audit.specs.Noting.{kept_notes}
use Rattle.mediator_shares.specs.Terms.{Terms, terms_of}
use Rattle.mediator_shares.specs.Judgements.{AreSharesOf}
use Rattle.mediator_shares.proofs.JudgeLaws.{got_map, map_twice}

some_is : {A : Type 0} {x y : A} → Some x ≡ Some y → x ≡ y
some_is e = cc

pub no_truth : false ≡ true → ⊥
no_truth e = cc

-- ---- lists that are alike

pub alike_more : {A B C : Type 0} (f : A → C) (g : B → C) (xs : List A) (ys : List B) (n : ℕ) (x ox : A) (y oy : B) → n < length xs → n < length ys
    → x ≡ get_or xs n ox → y ≡ get_or ys n oy → map f (take n xs) ≡ map g (take n ys) → f x ≡ g y → map f (take (n + 1) xs) ≡ map g (take (n + 1) ys)
alike_more f g xs ys n x ox y oy l m at bt so same =
    ap (map f) (take_more xs n ox l) ∙ map-append f (take n xs) (get_or xs n ox ∷ [])
    ∙ ap (λ front. front ++ f (get_or xs n ox) ∷ []) so
    ∙ ap (λ c. map g (take n ys) ++ c ∷ []) (ap f (sym at) ∙ same ∙ ap g bt)
    ∙ sym (map-append g (take n ys) (get_or ys n oy ∷ [])) ∙ ap (map g) (sym (take_more ys n oy m))

pub alike_all : {A B C : Type 0} (f : A → C) (g : B → C) (xs : List A) (ys : List B) (n : ℕ) → map f (take n xs) ≡ map g (take n ys) → length xs ≤ n → length ys ≤ n → map f xs ≡ map g ys
alike_all f g xs ys n so over all = ap (map f) (sym (take_all n xs over)) ∙ so ∙ ap (map g) (take_all n ys all)

pub alike_at : {A B C : Type 0} (f : A → C) (g : B → C) (xs : List A) (ys : List B) (n : ℕ) (x ox : A) (y oy : B) → n < length xs → n < length ys
    → x ≡ get_or xs n ox → y ≡ get_or ys n oy → map f xs ≡ map g ys → f x ≡ g y
alike_at f g xs ys n x ox y oy l m at bt so =
    some_is (sym (got_map f xs n x ox l at) ∙ ap (λ cs. slice_get cs n) so ∙ got_map g ys n y oy m bt)

pub alike_long : {A B C : Type 0} (f : A → C) (g : B → C) (xs : List A) (ys : List B) → map f xs ≡ map g ys → length xs ≡ length ys
alike_long f g xs ys so = sym (length-map xs f) ∙ ap length so ∙ length-map ys g

-- ---- policies with the same text

abbrev read_as : PolicyMeaning → Result PolicyMeaning PolicyFault
read_as p = Ok p

read_is : (p q : PolicyMeaning) → read_as p ≡ read_as q → p ≡ q
read_is p q e = cc

pub same_policy : (p q : PolicyMeaning) → IsPolicy p → IsPolicy q → policy_text p ≡ policy_text q → p ≡ q
same_policy p q so is same = read_is p q (sym (reads_back p so) ∙ ap policy_of same ∙ reads_back q is)

-- ---- shares for those that are told alike

flat_alike : {X Y : Type 0} (p q : X → List Y) (xs : List X) → ((x : X) → p x ≡ q x) → flat_map p xs ≡ flat_map q xs
flat_alike p q [] same = refl
flat_alike p q (x ∷ xs) same =
    flat_map-cons p x xs ∙ ap (λ l. l ++ flat_map p xs) (same x) ∙ ap (λ l. q x ++ l) (flat_alike p q xs same) ∙ sym (flat_map-cons q x xs)

flat_twice : {X Y Z : Type 0} (t : X → Y) (k : Y → List Z) (xs : List X) → flat_map k (map t xs) ≡ flat_map (λ x. k (t x)) xs
flat_twice t k [] = refl
flat_twice t k (x ∷ xs) =
    flat_map-cons k (t x) (map t xs) ∙ ap (λ l. k (t x) ++ l) (flat_twice t k xs) ∙ sym (flat_map-cons (λ y. k (t y)) x xs)

shares_alike : (domain : ℕ) (f : InForce) (records : List DataRecord) (a b : List Served) → map told a ≡ map told b → shares_of domain f records a ≡ shares_of domain f records b
shares_alike domain f records a b same =
    let h : ℕ × List ℕ → ℕ × List DataRecord = λ p. (p.0, flat_map (given_by domain f p.1) records) in
    sym (map_twice told h a) ∙ ap (map h) same ∙ map_twice told h b

tallies_alike : (domain : ℕ) (f : InForce) (records : List DataRecord) (a b : List Served) → map told a ≡ map told b → tallies_of domain f records a ≡ tallies_of domain f records b
tallies_alike domain f records a b same =
    let h : ℕ × List ℕ → ℕ × List Count = λ p. (p.0, flat_map (added_by domain f p.1) records) in
    sym (map_twice told h a) ∙ ap (map h) same ∙ map_twice told h b

noted_alike : (domain : ℕ) (f : InForce) (r : ℕ × DataRecord) (a b : List Served) → map told a ≡ map told b → noted_of_each domain f a r ≡ noted_of_each domain f b r
noted_alike domain f r a b same =
    let k : ℕ × List ℕ → List Note = λ p. map (note_of r.0 p.0) (kept_by domain f p.1 r.1) in
    sym (flat_twice told k a) ∙ ap (flat_map k) same ∙ flat_twice told k b

notes_alike : (domain : ℕ) (f : InForce) (records : List DataRecord) (a b : List Served) → map told a ≡ map told b → notes_of domain f records a ≡ notes_of domain f records b
notes_alike domain f records a b same =
    flat_alike (noted_of_each domain f a) (noted_of_each domain f b) (enumerate_from 0 records) (λ r. noted_alike domain f r a b same)

-- shares by some terms are those for all that have these terms
pub judged_alike : (domain : ℕ) (records : List DataRecord) (f : InForce) (a : List Served) (most : ℕ) (terms : Terms) (s : Shares) → terms.in_force ≡ f → map told a ≡ terms.served → terms.most ≡ most
    → AreSharesOf domain records f a most s → (g : InForce) (b : List Served) (n : ℕ) → terms ≡ terms_of g b n → AreSharesOf domain records g b n s
judged_alike domain records f a most terms s force those many are g b n is =
    let same : map told a ≡ map told b = those ∙ ap (λ (t : Terms). t.served) is in
    let P : InForce → Type 0 = λ e. AreSharesOf domain records e b n s in
    subst P (sym force ∙ ap (λ (t : Terms). t.in_force) is) (record {
      shares_are = are.shares_are ∙ shares_alike domain f records a b same;
      tallies_are = are.tallies_are ∙ tallies_alike domain f records a b same;
      notes_are = are.notes_are ∙ ap (kept_notes most) (notes_alike domain f records a b same) ∙ ap (λ m. kept_notes m (notes_of domain f records b)) (sym many ∙ ap (λ (t : Terms). t.most) is);
    })
