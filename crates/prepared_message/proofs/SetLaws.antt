-- The Set IDs of a message, beside its items.
use Rattle.std.proofs.Common.{◌≡◌, ℕ, zero, suc, ◌+◌, ◌-◌, ◌<◌, ◌≤◌, Bool, true, false, cond, ltb, eqb, List, [], ◌∷◌, ◌++◌, length, take, drop, Option, Some, None, Result, Ok, Err, refl, sym, ap, ◌∙◌, arith, length-drop}
use Rattle.std.specs.Prelude.{◌||◌, IsOk, IfOk}
use Rattle.std.specs.Borrow.{Bor}
use Rattle.std.proofs.lemmas.Bool.{ltb-false, or_parts, cond_both}
use Rattle.sequences.specs.Octets.{number_at}
use Rattle.sequences.specs.Sequence.{Front, End, Fault, Next, with_front, read_on, read_within, read_all, TakesSome}
use Rattle.sequences.proofs.SequenceLaws.{Lessens, takes_some, read_all-step}
use Rattle.sequences.proofs.ListLaws.{AllByRecursion-append}
use Rattle.ipfix_message.specs.declared.header.Header.{Header}
use Rattle.ipfix_message.specs.declared.fault.Fault.{Fault as DecodeError}
use Rattle.ipfix_message.specs.declared.fault.Fault.TheVariants.{BadSetLength}
use Rattle.ipfix_message.specs.declared.item.Item.{Item}
use Rattle.ipfix_message.specs.declared.item.Item.TheVariants.{DataSet, Skipped}
use Rattle.ipfix_message.specs.Reading.{read_header, template_front, set_items, found_set, set_front, after_header, items_of}
use Rattle.ipfix_session.specs.Unchanging.{BringsNoTemplate, BringNoTemplates}
use Rattle.prepared_message.specs.SetIds.{id_front, set_ids, is_of_templates, has_one, has_one_read, has_template_set, ShowsSet}

pub id_takes : TakesSome id_front
unfolding id_front
id_takes =
    takes_some id_front
    (λ octets. cond_both (eqb (length octets) 0) _ _ (Lessens (length octets)) (λ _. tt)
    (λ _. cond_both (ltb (length octets) 4) _ _ (Lessens (length octets)) (λ _. tt)
    (λ _. cond_both (ltb (number_at 2 2 octets) 4 || ltb (length octets) (number_at 2 2 octets)) _ _ (Lessens (length octets)) (λ _. tt)
    (λ fits. let both = or_parts (ltb (number_at 2 2 octets) 4) (ltb (length octets) (number_at 2 2 octets)) fits in
    let least = ltb-false _ _ both.0 in
    let most = ltb-false _ _ both.1 in
    omega (arith, least, most, length-drop (number_at 2 2 octets) octets)))))

-- ---- the test, set by set

-- the octets left are sets, and what the test says of them it says of the message
pub record IsLeft (rest message : List ℕ) : Type 0 where
  pub sets : IsOk (read_all id_front rest)
  pub same : has_one_read (read_all id_front rest) ≡ has_template_set message

-- at first all of them are
pub first_left : (message : List ℕ) → IsOk (set_ids message) → IsLeft (drop 16 message) message
unfolding set_ids
first_left message sets = record { sets = sets; same = refl }

one_more : (id : ℕ) (rest after : List ℕ) → id_front rest ≡ Next (id ∷ []) after → read_all id_front rest ≡ with_front (id ∷ []) (read_all id_front after)
one_more id rest after at = read_all-step id_front id_takes rest ∙ ap (λ f. read_on f (read_all id_front)) at

-- the set at the front is one of templates
pub found_one : (id : ℕ) (rest after message : List ℕ) → id_front rest ≡ Next (id ∷ []) after → is_of_templates id ≡ true → IsLeft rest message → true ≡ has_template_set message
found_one id rest after message at is_one left =
    sym (holds (read_all id_front after) (rw (one_more id rest after at) at left.sets)) ∙ ap has_one_read (sym (one_more id rest after at)) ∙ left.same
  where
    holds : (r : Result (List ℕ) (Unit {0})) → IsOk (with_front (id ∷ []) r) → has_one_read (with_front (id ∷ []) r) ≡ true
    holds (Ok ids) ok = ap (λ (b : Bool). b || has_one ids) is_one
    holds (Err e) ok = absurd cc

-- it is another
pub not_yet : (id : ℕ) (rest after message : List ℕ) → id_front rest ≡ Next (id ∷ []) after → is_of_templates id ≡ false → IsLeft rest message → IsLeft after message
not_yet id rest after message at is_none left =
    record {
      sets = sets (read_all id_front after) (rw (one_more id rest after at) at left.sets);
      same = sym (same (read_all id_front after)) ∙ ap has_one_read (sym (one_more id rest after at)) ∙ left.same;
    }
  where
    sets : (r : Result (List ℕ) (Unit {0})) → IsOk (with_front (id ∷ []) r) → IsOk r
    sets (Ok ids) ok = refl
    sets (Err e) ok = absurd cc

    same : (r : Result (List ℕ) (Unit {0})) → has_one_read (with_front (id ∷ []) r) ≡ has_one_read r
    same (Ok ids) = ap (λ (b : Bool). b || has_one ids) is_none
    same (Err e) = refl

-- no set is left
pub none_left : (found : Option (ℕ × Bor (List ℕ))) (rest message : List ℕ) → ((x : ℕ × Bor (List ℕ)) → found ≡ Some x → ⊥) → ShowsSet found (id_front rest) → IsLeft rest message → false ≡ has_template_set message
none_left (Some x) rest message other shown left = absurd (other x refl)
none_left None rest message other shown left = sym (ends (id_front rest) shown) ∙ ap has_one_read (sym (read_all-step id_front id_takes rest)) ∙ left.same
  where
    ends : (f : Front ℕ (Unit {0})) → ShowsSet None f → has_one_read (read_on f (read_all id_front)) ≡ false
    ends End shown = refl
    ends (Fault e) shown = refl
    ends (Next ids after) shown = absurd shown

-- ---- what is read as sets with items is read as sets with IDs, and where no ID is one of templates no item brings one

-- of sets with these IDs these are the items
abbrev AreBeside : List ℕ → List Item → Type 0
AreBeside ids said = has_one ids ≡ false → BringNoTemplates said

abbrev StandBeside : Front ℕ (Unit {0}) → Front Item DecodeError → Type 0
StandBeside ids End = ids ≡ End
StandBeside ids (Fault e) = Unit {0}
StandBeside End (Next said rest) = ⊥
StandBeside (Fault e) (Next said rest) = ⊥
StandBeside (Next ids after) (Next said rest) = (after ≡ rest) × AreBeside ids said

abbrev pub ReadBeside : Result (List ℕ) (Unit {0}) → Result (List Item) DecodeError → Type 0
ReadBeside ids (Err e) = Unit {0}
ReadBeside (Err e) (Ok said) = ⊥
ReadBeside (Ok ids) (Ok said) = AreBeside ids said

set_beside : (id place : ℕ) (content rest : List ℕ) → StandBeside (Next (id ∷ []) rest) (found_set (set_items id place content) rest)
unfolding set_items
set_beside id place content rest = by_id (eqb id 2) (eqb id 3) (ltb id 256) refl refl
  where
    of_templates : (r : Result (List Item) DecodeError) → is_of_templates id ≡ true → StandBeside (Next (id ∷ []) rest) (found_set r rest)
    of_templates (Err e) is_one = tt
    of_templates (Ok said) is_one = (refl, λ is_none. absurd (differ (sym (ap (λ (b : Bool). b || false) is_one) ∙ is_none)))
      where
        differ : true ≡ false → ⊥
        differ e = absurd cc

    by_id : (two three low : Bool) → eqb id 2 ≡ two → eqb id 3 ≡ three
        → StandBeside (Next (id ∷ []) rest) (found_set (cond two (read_all (template_front false) content) (cond three (read_all (template_front true) content) (cond low (Ok (Skipped id ∷ [])) (Ok (DataSet id place (length content) ∷ []))))) rest)
    by_id true three low is_two is_three = of_templates (read_all (template_front false) content) (ap (λ (b : Bool). b || eqb id 3) is_two)
    by_id false true low is_two is_three = of_templates (read_all (template_front true) content) (ap (λ (b : Bool). b || eqb id 3) is_two ∙ is_three)
    by_id false false true is_two is_three = (refl, λ is_none. (tt, tt))
    by_id false false false is_two is_three = (refl, λ is_none. (tt, tt))

front_beside : (total : ℕ) (octets : List ℕ) → StandBeside (id_front octets) (set_front total octets)
unfolding id_front set_front
front_beside total octets =
    by_tests (eqb (length octets) 0) (ltb (length octets) 4) (ltb (number_at 2 2 octets) 4 || ltb (length octets) (number_at 2 2 octets))
  where
    by_tests : (none short wrong : Bool)
        → StandBeside (cond none End (cond short (Fault tt) (cond wrong (Fault tt) (Next (number_at 0 2 octets ∷ []) (drop (number_at 2 2 octets) octets)))))
        (cond none End (cond short (Fault BadSetLength) (cond wrong (Fault BadSetLength) (found_set (set_items (number_at 0 2 octets) (total - length octets + 4) (take (number_at 2 2 octets - 4) (drop 4 octets))) (drop (number_at 2 2 octets) octets)))))
    by_tests true short wrong = refl
    by_tests false true wrong = tt
    by_tests false false true = tt
    by_tests false false false = set_beside (number_at 0 2 octets) (total - length octets + 4) (take (number_at 2 2 octets - 4) (drop 4 octets)) (drop (number_at 2 2 octets) octets)

no_first : (ids others : List ℕ) → has_one (ids ++ others) ≡ false → (has_one ids ≡ false) × (has_one others ≡ false)
no_first [] others is_none = (refl, is_none)
no_first (id ∷ ids) others is_none =
    let parts = or_parts (is_of_templates id) (has_one (ids ++ others)) is_none in
    let after = no_first ids others parts.1 in
    (ap (λ (b : Bool). b || has_one ids) parts.0 ∙ after.0, after.1)

beside_on : (f : Front ℕ (Unit {0})) (g : Front Item DecodeError) (one : List ℕ → Result (List ℕ) (Unit {0})) (other : List ℕ → Result (List Item) DecodeError)
    → StandBeside f g → ((rest : List ℕ) → ReadBeside (one rest) (other rest)) → ReadBeside (read_on f one) (read_on g other)
beside_on f (Fault e) one other here after = tt
beside_on f End one other here after = rw here (λ is_none. tt)
beside_on End (Next said rest) one other here after = absurd here
beside_on (Fault e) (Next said rest) one other here after = absurd here
beside_on (Next ids behind) (Next said rest) one other here after = joined (one behind) (other rest) (rw here.0 (after rest))
  where
    joined : (r : Result (List ℕ) (Unit {0})) (s : Result (List Item) DecodeError) → ReadBeside r s → ReadBeside (with_front ids r) (with_front said s)
    joined r (Err e) h = tt
    joined (Err e) (Ok more) h = absurd h
    joined (Ok others) (Ok more) h = λ is_none.
        let parts = no_first ids others is_none in
        AllByRecursion-append BringsNoTemplate said more (here.1 parts.0) (h parts.1)

beside_within : (steps total : ℕ) (octets : List ℕ) → ReadBeside (read_within steps id_front octets) (read_within steps (set_front total) octets)
unfolding read_within
beside_within zero total octets = λ is_none. tt
beside_within (suc steps) total octets =
    beside_on (id_front octets) (set_front total octets) (read_within steps id_front) (read_within steps (set_front total)) (front_beside total octets) (beside_within steps total)

message_beside : (message : List ℕ) → ReadBeside (set_ids message) (items_of message)
unfolding set_ids items_of read_all
message_beside message = by_header (read_header message)
  where
    by_header : (header : Result Header DecodeError) → ReadBeside (read_all id_front (drop 16 message)) (after_header message header)
    by_header (Err e) = tt
    by_header (Ok h) = beside_within (suc (length (drop 16 message))) (length message) (drop 16 message)

-- a message with items is sets with IDs
pub sets_read : (message : List ℕ) (said : List Item) → items_of message ≡ Ok said → IsOk (set_ids message)
sets_read message said is = ok (set_ids message) (rw is at (message_beside message))
  where
    ok : (r : Result (List ℕ) (Unit {0})) → ReadBeside r (Ok said) → IsOk r
    ok (Ok ids) h = refl
    ok (Err e) h = absurd h

-- where none of them is of templates, no item brings one
pub no_templates : (message : List ℕ) (said : List Item) → items_of message ≡ Ok said → has_template_set message ≡ false → BringNoTemplates said
no_templates message said is is_none = none (set_ids message) (rw is at (message_beside message)) is_none
  where
    none : (r : Result (List ℕ) (Unit {0})) → ReadBeside r (Ok said) → has_one_read r ≡ false → BringNoTemplates said
    none (Ok ids) h is_none = h is_none
    none (Err e) h is_none = absurd h
