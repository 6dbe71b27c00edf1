use Rattle.std.proofs.Common.{◌≡◌, ℕ, Some, ◌++◌, ◌∷◌, [], length, refl, sym, ap, subst, ◌∙◌, arith}
use Rattle.mediator_shares.specs.Alike.{IsGrouping}
use Rattle.mediator_shares.proofs.AlikeLaws.{grouping_named, grouping_first, grouping_next, grouping_is}
use Rattle.mediator_shares.proofs.alike.Groups.add.Goals.{then-not-is_named+in_default, else-not-is_named}
use Rattle.mediator_shares.proofs.alike.Groups.add.Goals as goal

pub returns-in-Some-clause-grouping : goal.returns-in-Some-clause-grouping
returns-in-Some-clause-grouping c = λ rules served named so.
    grouping_is rules c.args.self.now.leaders.items c.args.self.now.leaders.items c.args.self.now.unnamed (served ++ c.args.who ∷ []) (c.args.self.now.places.items ++ c.in-Some.place ∷ []) c.push.new.self.items refl c.in_ok-push.ensures.items
    (grouping_next rules c.args.self.now.leaders.items served c.args.self.now.unnamed c.args.self.now.places.items c.args.who c.in-Some.place so c.in-Some.is (sym named ∙ c.if-not-is_named.true))

pub returns-clause-grouping : goal.returns-clause-grouping
returns-clause-grouping c = λ rules served named so.
    let old = c.args.self.now in
    let joined = c.if-not-is_named.self in
    let leaders_stay : joined.leaders.items ≡ old.leaders.items = elim c.if-not-is_named.branch [ then-not-is_named+in_default w ↦ rw w.self-is refl | else-not-is_named w ↦ rw w.self-is refl ] in
    let places_stay : joined.places.items ≡ old.places.items = elim c.if-not-is_named.branch [ then-not-is_named+in_default w ↦ rw w.self-is refl | else-not-is_named w ↦ rw w.self-is refl ] in
    let many : c.len-2.result ≡ length old.leaders.items = omega (arith, c.len-2.ensures, joined.leaders.ok.0, ap length leaders_stay) in
    grouping_is rules c.push-3.new.self.items (old.leaders.items ++ c.args.who ∷ []) joined.unnamed (served ++ c.args.who ∷ []) (old.places.items ++ c.len-2.result ∷ []) c.push-2.new.self.items
    (c.in_ok-push-3.ensures.items ∙ ap (λ l. l ++ c.args.who ∷ []) leaders_stay)
    (c.in_ok-push-2.ensures.items ∙ ap (λ l. l ++ c.len-2.result ∷ []) places_stay)
    (elim c.if-not-is_named.branch [
      | then-not-is_named+in_default w ↦ rw w.self-is (subst (λ (k : ℕ). IsGrouping rules (old.leaders.items ++ c.args.who ∷ []) (Some k) (served ++ c.args.who ∷ []) (old.places.items ++ c.len-2.result ∷ [])) (omega (arith, many, w.len.ensures, old.leaders.ok.0))
          (grouping_first rules old.leaders.items served old.unnamed old.places.items c.args.who c.len-2.result so many (sym named ∙ w.if-not-is_named.true)))
      | else-not-is_named w ↦ rw w.self-is (grouping_named rules old.leaders.items served old.unnamed old.places.items c.args.who c.len-2.result so many)
    ])

-- where one is led, that is noted
pub returns-in-Some-clause-alone : goal.returns-in-Some-clause-alone
returns-in-Some-clause-alone c = λ served so led. absurd cc

pub returns-clause-alone : goal.returns-clause-alone
returns-clause-alone c = λ served so led.
    let old = c.args.self.now in
    let joined = c.if-not-is_named.self in
    let leaders_stay : joined.leaders.items ≡ old.leaders.items = elim c.if-not-is_named.branch [ then-not-is_named+in_default w ↦ rw w.self-is refl | else-not-is_named w ↦ rw w.self-is refl ] in
    let led_stays : joined.has_led ≡ old.has_led = elim c.if-not-is_named.branch [ then-not-is_named+in_default w ↦ rw w.self-is refl | else-not-is_named w ↦ rw w.self-is refl ] in
    c.in_ok-push-3.ensures.items ∙ ap (λ l. l ++ c.args.who ∷ []) (leaders_stay ∙ so (sym led_stays ∙ led))
