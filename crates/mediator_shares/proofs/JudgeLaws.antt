-- What judges a message's records: the judge at a place, and those that begin with other records.
use Rattle.std.proofs.Common.{◌≡◌, ◌==◌, true, ℕ, zero, suc, ◌+◌, ◌<◌, ◌≤◌, List, [], ◌∷◌, ◌++◌, length, map, take, drop, get_or, set, slice_get, Option, Some, None, refl, sym, ap, ◌∙◌, subst, arith}
use Rattle.std.specs.List.{All}
use Rattle.std.proofs.lemmas.List.{length-map, map-append, take_more, take_all}
use Rattle.std.proofs.lemmas.Slice.Eq.{bytes_eq-Decides}
use Rattle.std.proofs.lemmas.Bool.{and_parts}
use Rattle.std.proofs.lemmas.Bool.Decides.{Decides-eqb}
use Rattle.ipfix_template.specs.declared.template.Template.{Template}
use Rattle.ipfix_template.specs.DataRecord.{DataRecord}
use Rattle.policy_text.specs.declared.rule.Rule.{Rule}
use Rattle.flow_anonymize.specs.Plans.{PlansFor}
use Rattle.mediator_shares.specs.declared.judges.Judge.{Judge}
use Rattle.mediator_tables.specs.declared.served.Served.{Served}
use Rattle.mediator_shares.specs.InForce.{InForce}
use Rattle.mediator_tables.specs.declared.share.Share.{Share}
use Rattle.mediator_tables.specs.SubscriptionTable.{shown}
use Rattle.mediator_shares.specs.Sharing.{blank}
use Rattle.mediator_shares.specs.Judges.{Judges, for_of, share_of_judge, plans_for, of_template, JudgeFor, JudgesAny, AreJudgesReady, AreFor, whose, without_records, is_judge_for}

pub got_map : {A B : Type 0} (f : A → B) (xs : List A) (n : ℕ) (x other : A) → n < length xs → x ≡ get_or xs n other → slice_get (map f xs) n ≡ Some (f x)
got_map f [] n x other l at = absurd (omega arith)
got_map f (y ∷ ys) zero x other l at = ap (λ z. Some (f z)) (sym at)
got_map f (y ∷ ys) (suc n) x other l at = got_map f ys n x other (omega (arith, l)) at

pub map_twice : {A B C : Type 0} (f : A → B) (g : B → C) (xs : List A) → map g (map f xs) ≡ map (λ x. g (f x)) xs
map_twice f g [] = refl
map_twice f g (x ∷ xs) = ap (λ ys. g (f x) ∷ ys) (map_twice f g xs)

-- the same with other shares
abbrev pub with_shares : Judges → List (ℕ × List DataRecord) → Judges
with_shares j shares = record { rules = j.rules; cuts = j.cuts; domain = j.domain; template = j.template; fors = j.fors; shares = shares }

pub got : {A : Type 0} (xs : List A) (n : ℕ) (x : A) → n < length xs → x ≡ get_or xs n x → slice_get xs n ≡ Some x
got [] n x l at = absurd (omega arith)
got (y ∷ ys) zero x l at = ap (λ z. Some z) (sym at)
got (y ∷ ys) (suc n) x l at = got ys n x (omega (arith, l)) at

pub all_one : {A : Type 0} (P : A → Type 0) (x : A) → P x → All P (x ∷ [])
all_one P x p zero d l = p
all_one P x p (suc k) d l = absurd (omega (arith, l))

-- what holds of the one at a place holds of whichever is named there
pub the_one : {A : Type 0} (P : A → Type 0) (xs : List A) (n : ℕ) (x y : A) → n < length xs → x ≡ get_or xs n x → P x → slice_get xs n ≡ Some y → P y
the_one P xs n x y l at p there = subst P (some_is (sym (got xs n x l at) ∙ there)) p where
  some_is : Some x ≡ Some y → x ≡ y
  some_is e = cc

-- ---- a judge at its place

pub own_for : (judges : List Judge) (fors : List PlansFor) (k : ℕ) (was : Judge) → map for_of judges ≡ fors → k < length fors → was ≡ get_or judges k was → slice_get fors k ≡ Some (for_of was)
own_for judges fors k was view l at = ap (λ ps. slice_get ps k) (sym view) ∙ got_map for_of judges k was was (omega (arith, l, ap length view, length-map judges for_of)) at

pub which_for : (judges : List Judge) (fors : List PlansFor) (k : ℕ) (was : Judge) (p : PlansFor) → map for_of judges ≡ fors → k < length fors → was ≡ get_or judges k was → slice_get fors k ≡ Some p → p ≡ for_of was
which_for judges fors k was p view l at there = some_is (sym there ∙ own_for judges fors k was view l at) where
  some_is : {p q : PlansFor} → Some p ≡ Some q → p ≡ q
  some_is e = cc

-- ---- a judge that changes at its place

-- what a change leaves as it is
pub set_same : {A B : Type 0} (f : A → B) (xs : List A) (k : ℕ) (was now : A) → k < length xs → was ≡ get_or xs k was → f now ≡ f was → map f (set xs k now) ≡ map f xs
set_same f [] k was now l at same = refl
set_same f (x ∷ xs) zero was now l at same = ap (λ y. y ∷ map f xs) (same ∙ ap f at)
set_same f (x ∷ xs) (suc k) was now l at same = ap (λ ys. f x ∷ ys) (set_same f xs k was now (omega (arith, l)) at same)

-- the first so many begin with records of a template
pub record HaveBegun (t : Template) (old now : List Judge) (place : ℕ) : Type 0 where
  pub fors : map for_of now ≡ map (of_template t) (map for_of (take place old)) ++ map for_of (drop place old)
  pub shares : map share_of_judge now ≡ map share_of_judge old
  pub many : length now ≡ length old

pub begun_start : (t : Template) (js : List Judge) → HaveBegun t js js 0
begun_start t js = record { fors = refl; shares = refl; many = refl }

changed_at : {B : Type 0} (f : Judge → B) (g : B → B) (old now : List Judge) (place : ℕ) (was j : Judge) → place < length now → map f now ≡ map g (map f (take place old)) ++ map f (drop place old)
    → was ≡ get_or now place was → f j ≡ g (f was) → place < length old
    → map f (set now place j) ≡ map g (map f (take (suc place) old)) ++ map f (drop (suc place) old)
changed_at f g [] now place was j l all at is l2 = absurd (omega arith)
changed_at f g (o ∷ old) [] place was j l all at is l2 = absurd (omega arith)
changed_at {B} f g (o ∷ old) (n ∷ now) zero was j l all at is l2 =
    let here : f n ≡ f o = head_is all in
    ap (λ p. p ∷ map f now) (is ∙ ap g (ap f at ∙ here)) ∙ ap (λ ps. g (f o) ∷ ps) (tail_is all)
  where
    head_is : {p q : B} {ps qs : List B} → p ∷ ps ≡ q ∷ qs → p ≡ q
    head_is e = cc

    tail_is : {p q : B} {ps qs : List B} → p ∷ ps ≡ q ∷ qs → ps ≡ qs
    tail_is e = cc
changed_at {B} f g (o ∷ old) (n ∷ now) (suc place) was j l all at is l2 =
    ap (λ p. p ∷ map f (set now place j)) (head_is all)
    ∙ ap (λ ps. g (f o) ∷ ps) (changed_at f g old now place was j (omega (arith, l)) (tail_is all) at is (omega (arith, l2)))
  where
    head_is : {p q : B} {ps qs : List B} → p ∷ ps ≡ q ∷ qs → p ≡ q
    head_is e = cc

    tail_is : {p q : B} {ps qs : List B} → p ∷ ps ≡ q ∷ qs → ps ≡ qs
    tail_is e = cc

one_more : (n : ℕ) → suc n ≡ n + 1
one_more n = omega arith

length-set-same : {A : Type 0} (xs : List A) (k : ℕ) (x : A) → length (set xs k x) ≡ length xs
length-set-same [] k x = refl
length-set-same (y ∷ ys) zero x = refl
length-set-same (y ∷ ys) (suc k) x = ap (λ n. suc n) (length-set-same ys k x)

pub begun_step : (t : Template) (old now : List Judge) (place : ℕ) (was j : Judge) → HaveBegun t old now place → place < length now → was ≡ get_or now place was → for_of j ≡ of_template t (for_of was) → share_of_judge j ≡ share_of_judge was
    → HaveBegun t old (set now place j) (place + 1)
begun_step t old now place was j so l at is given = record {
  fors = changed_at for_of (of_template t) old now place was j l so.fors at is (omega (arith, l, so.many)) ∙ ap (λ n. map (of_template t) (map for_of (take n old)) ++ map for_of (drop n old)) (one_more place);
  shares = set_same share_of_judge now place was j l at given ∙ so.shares;
  many = length-set-same now place j ∙ so.many;
}

drop_all-le : {A : Type 0} (xs : List A) (n : ℕ) → length xs ≤ n → drop n xs ≡ []
drop_all-le [] zero l = refl
drop_all-le [] (suc n) l = refl
drop_all-le (x ∷ xs) zero l = absurd (omega arith)
drop_all-le (x ∷ xs) (suc n) l = drop_all-le xs n (omega (arith, l))

append-nil' : {A : Type 0} (xs : List A) → xs ++ [] ≡ xs
append-nil' [] = refl
append-nil' (x ∷ xs) = ap (λ ys. x ∷ ys) (append-nil' xs)

changed_all : {B : Type 0} (f : Judge → B) (g : B → B) (old now : List Judge) (place : ℕ) → map f now ≡ map g (map f (take place old)) ++ map f (drop place old) → length old ≤ place → map f now ≡ map g (map f old)
changed_all f g old now place all over =
    all ∙ ap (λ js. map g (map f js) ++ map f (drop place old)) (take_all place old over)
    ∙ ap (λ js. map g (map f old) ++ map f js) (drop_all-le old place over) ∙ append-nil' (map g (map f old))

pub begun_all : (t : Template) (old now : List Judge) (place : ℕ) → HaveBegun t old now place → length now ≤ place → map for_of now ≡ map (of_template t) (map for_of old)
begun_all t old now place so over = changed_all for_of (of_template t) old now place so.fors (omega (arith, over, so.many))

-- ---- all is taken of one after another

pub record HaveGiven (old now : List Judge) (taken : List Share) (place : ℕ) : Type 0 where
  pub fors : map for_of now ≡ map for_of old
  pub given : map share_of_judge now ≡ map without_records (map share_of_judge (take place old)) ++ map share_of_judge (drop place old)
  pub shares : map shown taken ≡ map share_of_judge (take place old)
  pub many : length now ≡ length old

pub given_start : (js : List Judge) → HaveGiven js js [] 0
given_start js = record { fors = refl; given = refl; shares = refl; many = refl }

-- the one at a place was not changed yet
got_back : {B : Type 0} (f : Judge → B) (g : B → B) (old now : List Judge) (place : ℕ) (was other : Judge) → map f now ≡ map g (map f (take place old)) ++ map f (drop place old) → place < length now → place < length old
    → was ≡ get_or now place was → f was ≡ f (get_or old place other)
got_back f g [] now place was other all l l2 at = absurd (omega arith)
got_back f g (o ∷ old) [] place was other all l l2 at = absurd (omega arith)
got_back {B} f g (o ∷ old) (n ∷ now) zero was other all l l2 at = ap f at ∙ head_is all where
  head_is : {p q : B} {ps qs : List B} → p ∷ ps ≡ q ∷ qs → p ≡ q
  head_is e = cc
got_back {B} f g (o ∷ old) (n ∷ now) (suc place) was other all l l2 at = got_back f g old now place was other (tail_is all) (omega (arith, l)) (omega (arith, l2)) at where
  tail_is : {p q : B} {ps qs : List B} → p ∷ ps ≡ q ∷ qs → ps ≡ qs
  tail_is e = cc

pub given_step : (old now : List Judge) (shares shares2 : List Share) (place : ℕ) (was j : Judge) (share : Share) → HaveGiven old now shares place → place < length now → was ≡ get_or now place was
    → for_of j ≡ for_of was → share_of_judge j ≡ without_records (share_of_judge was) → shown share ≡ share_of_judge was → shares2 ≡ shares ++ share ∷ [] → HaveGiven old (set now place j) shares2 (place + 1)
given_step old now shares shares2 place was j share so l at for given shows more =
    let l2 : place < length old = omega (arith, l, so.many) in
    record {
      fors = set_same for_of now place was j l at for ∙ so.fors;
      given = changed_at share_of_judge without_records old now place was j l so.given at given l2 ∙ ap (λ n. map without_records (map share_of_judge (take n old)) ++ map share_of_judge (drop n old)) (one_more place);
      shares = ap (map shown) more ∙ map-append shown shares (share ∷ []) ∙ ap (λ s. s ++ shown share ∷ []) so.shares
          ∙ ap (λ s. map share_of_judge (take place old) ++ s ∷ []) (shows ∙ got_back share_of_judge without_records old now place was was so.given l l2 at)
          ∙ sym (map-append share_of_judge (take place old) (get_or old place was ∷ [])) ∙ ap (map share_of_judge) (sym (take_more old place was l2));
      many = length-set-same now place j ∙ so.many;
    }

pub given_taken : (old now : List Judge) (shares : List Share) (place : ℕ) → HaveGiven old now shares place → length now ≤ place → map share_of_judge now ≡ map without_records (map share_of_judge old)
given_taken old now shares place so over = changed_all share_of_judge without_records old now place so.given (omega (arith, over, so.many))

pub given_shares : (old now : List Judge) (shares : List Share) (place : ℕ) → HaveGiven old now shares place → length now ≤ place → map shown shares ≡ map share_of_judge old
given_shares old now shares place so over = so.shares ∙ ap (map share_of_judge) (take_all place old (omega (arith, over, so.many)))

-- ---- those that are for the subscriptions that are served

-- the first so many are
pub record AreAlike (judges : List Judge) (domain : ℕ) (served : List Served) (place : ℕ) : Type 0 where
  pub whose_they_are : map whose (map for_of (take place judges)) ≡ map (λ who. (domain, who.name.now)) (take place served)
  pub subs : map (λ s. s.0) (map share_of_judge (take place judges)) ≡ map (λ who. who.sub) (take place served)

pub alike_start : (judges : List Judge) (domain : ℕ) (served : List Served) → AreAlike judges domain served 0
alike_start judges domain served = record { whose_they_are = refl; subs = refl }

pub alike_step : (judges : List Judge) (domain : ℕ) (served : List Served) (place : ℕ) (judge : Judge) (who other : Served) → AreAlike judges domain served place → place < length judges → place < length served
    → judge ≡ get_or judges place judge → who ≡ get_or served place other → is_judge_for who.sub domain who.name.now judge ≡ true → AreAlike judges domain served (place + 1)
alike_step judges domain served place judge who other so l l2 at at2 is =
    let first = and_parts (judge.sub == who.sub) _ is in
    let second = and_parts (judge.plans.for.domain == domain) _ first.1 in
    let sub : judge.sub ≡ who.sub = (Decides-eqb judge.sub who.sub).0 first.0 in
    let in_domain : judge.plans.for.domain ≡ domain = (Decides-eqb judge.plans.for.domain domain).0 second.0 in
    let name : judge.plans.for.name ≡ who.name.now = (bytes_eq-Decides judge.plans.for.name who.name.now).0 second.1 in
    let W : Served → ℕ × List ℕ = λ who. (domain, who.name.now) in
    let J : Judge → ℕ × List ℕ = λ j. whose (for_of j) in
    let S : Judge → ℕ = λ j. (share_of_judge j).0 in
    let T : Served → ℕ = λ who. who.sub in
    record {
      whose_they_are = map_twice for_of whose (take (place + 1) judges)
          ∙ grown_alike J W judges served place judge who other l l2 at at2 (sym (map_twice for_of whose (take place judges)) ∙ so.whose_they_are) (pair_is in_domain name);
      subs = map_twice share_of_judge (λ (s : ℕ × List DataRecord). s.0) (take (place + 1) judges)
          ∙ grown_alike S T judges served place judge who other l l2 at at2 (sym (map_twice share_of_judge (λ (s : ℕ × List DataRecord). s.0) (take place judges)) ∙ so.subs) sub;
    }
  where
    pair_is : {a b : ℕ} {n m : List ℕ} → a ≡ b → n ≡ m → ◌≡◌ {A = ℕ × List ℕ} (a, n) (b, m)
    pair_is e f = cc

    grown_alike : {A B C : Type 0} (f : A → C) (g : B → C) (xs : List A) (ys : List B) (n : ℕ) (x : A) (y other : B) → n < length xs → n < length ys → x ≡ get_or xs n x → y ≡ get_or ys n other → map f (take n xs) ≡ map g (take n ys) → f x ≡ g y
        → map f (take (n + 1) xs) ≡ map g (take (n + 1) ys)
    grown_alike f g xs ys n x y other l l2 at at2 so same =
        ap (map f) (take_more xs n x l) ∙ map-append f (take n xs) (get_or xs n x ∷ []) ∙ ap (λ z. map f (take n xs) ++ f z ∷ []) (sym at)
        ∙ ap (λ zs. zs ++ f x ∷ []) so ∙ ap (λ z. map g (take n ys) ++ z ∷ []) same
        ∙ ap (λ z. map g (take n ys) ++ g z ∷ []) at2 ∙ sym (map-append g (take n ys) (get_or ys n other ∷ [])) ∙ ap (map g) (sym (take_more ys n other l2))

pub alike_whose : (judges : List Judge) (domain : ℕ) (served : List Served) (place : ℕ) → AreAlike judges domain served place → length judges ≤ place → length judges ≡ length served
    → map whose (map for_of judges) ≡ map (λ who. (domain, who.name.now)) served
alike_whose judges domain served place so over many =
    ap (λ js. map whose (map for_of js)) (sym (take_all place judges over)) ∙ so.whose_they_are ∙ ap (map (λ (who : Served). (domain, who.name.now))) (take_all place served (omega (arith, over, many)))

pub alike_subs : (judges : List Judge) (domain : ℕ) (served : List Served) (place : ℕ) → AreAlike judges domain served place → length judges ≤ place → length judges ≡ length served
    → map (λ s. s.0) (map share_of_judge judges) ≡ map (λ who. who.sub) served
alike_subs judges domain served place so over many =
    ap (λ js. map (λ (s : ℕ × List DataRecord). s.0) (map share_of_judge js)) (sym (take_all place judges over)) ∙ so.subs ∙ ap (map (λ (who : Served). who.sub)) (take_all place served (omega (arith, over, many)))

-- those that are kept, where they are for these
pub ready_judges : (j : Judges) (f : InForce) (domain : ℕ) (served : List Served) → AreJudgesReady f.policy.rules j → AreFor j domain served → JudgesAny j f domain served
ready_judges j f domain served ready for =
    let plan : ℕ × List ℕ → PlansFor = λ w. plans_for f.policy.rules j.cuts w.0 j.template w.1 in
    record {
      template = j.template;
      judges = record {
        template_is = refl;
        fors = ready.fors ∙ sym (map_twice whose plan j.fors) ∙ ap (map plan) for.whose_they_are ∙ map_twice (λ (who : Served). (domain, who.name.now)) plan served;
      };
    }

pub ready_blank : (j : Judges) (rules : List Rule) (domain : ℕ) (served : List Served) → AreJudgesReady rules j → AreFor j domain served → j.shares ≡ map blank served
ready_blank j rules domain served ready for =
    let none : ℕ → ℕ × List DataRecord = λ sub. (sub, []) in
    ready.shares ∙ sym (map_twice (λ (s : ℕ × List DataRecord). s.0) none j.shares) ∙ ap (map none) for.subs ∙ map_twice (λ (who : Served). who.sub) none served

-- those that have judged for some are ready for more, once all is taken
pub judges_ready : (before new : Judges) (f : InForce) (domain : ℕ) (served : List Served) → JudgesAny before f domain served → new ≡ with_shares before (map without_records before.shares) → AreJudgesReady f.policy.rules new
judges_ready before new f domain served so is =
    subst (AreJudgesReady f.policy.rules) (sym is) (record {
      fors = again before f domain so.template served so.judges;
      shares = sym (map_twice without_records without_records before.shares);
    })
  where
    again : (j : Judges) (f : InForce) (domain : ℕ) (template : Option Template) (served : List Served) → JudgeFor j f domain template served → j.fors ≡ map (λ p. plans_for f.policy.rules j.cuts p.domain j.template p.name) j.fors
    again j f domain template served so =
        let pf : Served → PlansFor = λ who. plans_for f.policy.rules j.cuts domain template who.name.now in
        let k : Option Template → PlansFor → PlansFor = λ t p. plans_for f.policy.rules j.cuts p.domain t p.name in
        so.fors ∙ sym (map_twice pf (k template) served) ∙ ap (map (k template)) (sym so.fors) ∙ ap (λ t. map (k t) j.fors) (sym so.template_is)

-- ---- those of what is in force

-- one subscription more
pub judge_more : (before new : Judges) (f : InForce) (domain : ℕ) (served : List Served) (n : ℕ) (who other : Served) → JudgeFor before f domain None (take n served) → n < length served → who ≡ get_or served n other
    → new.template ≡ before.template → new.fors ≡ before.fors ++ plans_for f.policy.rules before.cuts domain None who.name.now ∷ [] → new.cuts ≡ before.cuts → JudgeFor new f domain None (take (n + 1) served)
judge_more before new f domain served n who other so l at template grown cuts =
    let for = λ (who : Served). plans_for f.policy.rules before.cuts domain None who.name.now in
    record {
      template_is = template ∙ so.template_is;
      fors = grown ∙ ap (λ ps. ps ++ for who ∷ []) so.fors ∙ sym (map-append for (take n served) (who ∷ []))
          ∙ ap (λ w. map for (take n served ++ w ∷ [])) at ∙ ap (map for) (sym (take_more served n other l))
          ∙ ap (λ c. map (λ (who : Served). plans_for f.policy.rules c domain None who.name.now) (take (n + 1) served)) (sym cuts);
    }

-- the same of those that were given nothing yet
abbrev pub with_judge : Judges → ℕ → List ℕ → Judges
with_judge j sub name = record { rules = j.rules; cuts = j.cuts; domain = j.domain; template = j.template; fors = j.fors ++ plans_for j.rules j.cuts j.domain None name ∷ []; shares = j.shares ++ (sub, []) ∷ [] }

pub more_judges : (before new : Judges) (f : InForce) (domain : ℕ) (served : List Served) (n : ℕ) (who other : Served) → JudgeFor before f domain None (take n served) → before.rules ≡ f.policy.rules → before.domain ≡ domain → before.shares ≡ map blank (take n served)
    → n < length served → who ≡ get_or served n other → new ≡ with_judge before who.sub who.name.now
    → JudgeFor new f domain None (take (n + 1) served) × (new.rules ≡ f.policy.rules) × (new.domain ≡ domain) × (new.shares ≡ map blank (take (n + 1) served))
more_judges before new f domain served n who other so rules domain_is shares l at is =
    let empty : Served → ℕ × List DataRecord = blank in
    let grown = ap (λ (j : Judges). j.fors) is ∙ ap (λ rs. before.fors ++ plans_for rs before.cuts before.domain None who.name.now ∷ []) rules ∙ ap (λ d. before.fors ++ plans_for f.policy.rules before.cuts d None who.name.now ∷ []) domain_is in (
      judge_more before new f domain served n who other so l at (ap (λ (j : Judges). j.template) is) grown (ap (λ (j : Judges). j.cuts) is),
      ap (λ (j : Judges). j.rules) is ∙ rules,
      ap (λ (j : Judges). j.domain) is ∙ domain_is,
      ap (λ (j : Judges). j.shares) is ∙ ap (λ s. s ++ empty who ∷ []) shares ∙ sym (map-append empty (take n served) (who ∷ []))
          ∙ ap (λ w. map empty (take n served ++ w ∷ [])) at ∙ ap (map empty) (sym (take_more served n other l)),
    )

pub judge_all : (j : Judges) (f : InForce) (domain : ℕ) (served : List Served) (n : ℕ) → JudgeFor j f domain None (take n served) → length served ≤ n → JudgeFor j f domain None served
judge_all j f domain served n so over = subst (λ l. JudgeFor j f domain None l) (take_all n served over) so

-- those that begin with records of a template
pub judge_begun : (before new : Judges) (f : InForce) (domain : ℕ) (template : Option Template) (t : Template) (served : List Served) → JudgeFor before f domain template served
    → new.template ≡ Some t → new.fors ≡ map (of_template t) before.fors → new.cuts ≡ before.cuts → JudgeFor new f domain (Some t) served
judge_begun before new f domain template t served so is begun cuts = record {
  template_is = is;
  fors = begun ∙ ap (map (of_template t)) so.fors ∙ map_twice (λ (who : Served). plans_for f.policy.rules before.cuts domain template who.name.now) (of_template t) served
      ∙ ap (λ c. map (λ (who : Served). plans_for f.policy.rules c domain (Some t) who.name.now) served) (sym cuts);
}

pub judge_same : (before new : Judges) (f : InForce) (domain : ℕ) (template : Option Template) (served : List Served) → JudgeFor before f domain template served → new.template ≡ before.template → new.fors ≡ before.fors → new.cuts ≡ before.cuts
    → JudgeFor new f domain template served
judge_same before new f domain template served so is fors cuts = record {
  template_is = is ∙ so.template_is;
  fors = fors ∙ so.fors ∙ ap (λ c. map (λ (who : Served). plans_for f.policy.rules c domain template who.name.now) served) (sym cuts);
}

-- whose they are, at a place
pub judge_at : (j : Judges) (f : InForce) (domain : ℕ) (template : Option Template) (served : List Served) (n : ℕ) (who other : Served) → JudgeFor j f domain template served → n < length served → who ≡ get_or served n other
    → slice_get j.fors n ≡ Some (plans_for f.policy.rules j.cuts domain template who.name.now)
judge_at j f domain template served n who other so l at =
    let for = λ (who : Served). plans_for f.policy.rules j.cuts domain template who.name.now in
    ap (λ ps. slice_get ps n) so.fors ∙ got_map for served n who other l at

-- which are for that template, and by those cuts
got_any : {A B : Type 0} (f : A → B) (P : B → Type 0) (xs : List A) (n : ℕ) (y : B) → ((x : A) → P (f x)) → slice_get (map f xs) n ≡ Some y → P y
got_any f P [] n y so e = absurd cc
got_any f P (x ∷ xs) zero y so e = subst P (some_is e) (so x) where
  some_is : Some (f x) ≡ Some y → f x ≡ y
  some_is e = cc
got_any f P (x ∷ xs) (suc n) y so e = got_any f P xs n y so e

pub template_at : (j : Judges) (f : InForce) (domain : ℕ) (template : Option Template) (served : List Served) (n : ℕ) (p : PlansFor) → JudgeFor j f domain template served → slice_get j.fors n ≡ Some p → p.template ≡ template
template_at j f domain template served n p so there =
    got_any (λ (who : Served). plans_for f.policy.rules j.cuts domain template who.name.now) (λ (p : PlansFor). p.template ≡ template) served n p (λ who. refl) (ap (λ ps. slice_get ps n) (sym so.fors) ∙ there)

pub cuts_at : (j : Judges) (f : InForce) (domain : ℕ) (template : Option Template) (served : List Served) (n : ℕ) (p : PlansFor) → JudgeFor j f domain template served → slice_get j.fors n ≡ Some p → p.cuts ≡ j.cuts
cuts_at j f domain template served n p so there =
    got_any (λ (who : Served). plans_for f.policy.rules j.cuts domain template who.name.now) (λ (p : PlansFor). p.cuts ≡ j.cuts) served n p (λ who. refl) (ap (λ ps. slice_get ps n) (sym so.fors) ∙ there)

pub there_for : (j : Judges) (f : InForce) (domain : ℕ) (template : Option Template) (served : List Served) (n : ℕ) → JudgeFor j f domain template served → n < length served → n < length j.fors
there_for j f domain template served n so l = omega (arith, l, ap length so.fors, length-map served (λ (who : Served). plans_for f.policy.rules j.cuts domain template who.name.now))
