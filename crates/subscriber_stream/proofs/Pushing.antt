-- What a stream keeps where a record is given.
use Rattle.std.proofs.Common.{◌≡◌, ℕ, suc, ◌+◌, ◌-◌, ◌<◌, ◌≤◌, ◌^◌, Bool, true, false, cond, not, List, [], ◌∷◌, ◌++◌, length, map, get_or, Option, Some, None, refl, sym, ap, subst, ◌∙◌, arith, append_assoc, length-append}
use Rattle.std.specs.Prelude.{◌||◌, slice_get}
use Rattle.std.specs.List.{AllByRecursion, list_any, position_or_len}
use Rattle.std.proofs.lemmas.List.{append-nil, length-map, map-append}
use Rattle.std.proofs.lemmas.Option.{get_or_from_slice_get}
use Rattle.std.proofs.Math.ListN.{get_or-append}
use Rattle.std.proofs.Math.Seq.{get_or-append_seam}
use Rattle.ipfix_template.specs.declared.template.Template.{Template}
use Rattle.ipfix_template.specs.DataRecord.{IsKept as IsKeptOf, kept_record}
use Rattle.ipfix_template.specs.Template.{IsAcceptable, is_options, template_record}
use Rattle.ipfix_template.specs.Equality.{same_template}
use Rattle.ipfix_template.specs.SameTemplate.{same_template-is, same_template-itself}
use Rattle.ipfix_records.specs.Runs.{RunOf, run_records}
use Rattle.subscriber_stream.specs.declared.limits.StreamLimits.{StreamLimits}
use Rattle.subscriber_stream.specs.declared.waiting.Waiting.{Waiting}
use Rattle.subscriber_stream.specs.Shapes.{is_among, with_shape, id_of}
use Rattle.subscriber_stream.specs.Parts.{Part, Announcement, Entry}
use Rattle.subscriber_stream.specs.Table.{Table}
use Rattle.subscriber_stream.specs.Items.{Item, Announced, Brought, shape_at, part_of, stream_parts, AreItemsKept, AreFollowed, announcements, entries}
use Rattle.subscriber_stream.specs.Waiting.{items_in, AreFilled, new_waiting}
use Rattle.subscriber_stream.specs.Standing.{KeptStream}
use Rattle.subscriber_stream.specs.Steps.{given_one, after_given, StreamCounts, IsConsistent}
use Rattle.subscriber_stream.proofs.Pieces.{kept_append}
use Rattle.subscriber_stream.proofs.RunLaws.{brings}
use Rattle.subscriber_stream.proofs.Queues.{items_in-append, filled_append}
use Rattle.subscriber_stream.proofs.ShapeLaws.{is_among-itself}
use Rattle.subscriber_stream.specs.Items.{longest_body}
use Rattle.ipfix_octets.specs.MessageFormat.{set_header_octets}

-- ---- the place of a shape

-- one that is among them stands at its place
place_of_one : (p : Template → Bool) (shapes : List Template) (d : Template) → list_any p shapes ≡ true → (position_or_len p shapes < length shapes) × (p (get_or shapes (position_or_len p shapes) d) ≡ true)
place_of_one p [] d is = absurd cc
place_of_one p (s ∷ shapes) d is = by_test (p s) refl is (place_of_one p shapes d) where
  by_test : (b : Bool) → p s ≡ b → (b || list_any p shapes) ≡ true → (list_any p shapes ≡ true → (position_or_len p shapes < length shapes) × (p (get_or shapes (position_or_len p shapes) d) ≡ true))
      → (cond (not b) (1 + position_or_len p shapes) 0 < suc (length shapes)) × (p (get_or (s ∷ shapes) (cond (not b) (1 + position_or_len p shapes) 0) d) ≡ true)
  by_test true here is others = (omega arith, here)
  by_test false here is others =
      let at = others is in
      let n : suc (position_or_len p shapes) ≡ 1 + position_or_len p shapes = omega arith in
      let P : ℕ → Type 0 = λ i. (i < suc (length shapes)) × (p (get_or (s ∷ shapes) i d) ≡ true) in
      subst P n (omega (arith, at.0), at.1)

-- one that is not comes after them
place_of_none : (p : Template → Bool) (shapes : List Template) → list_any p shapes ≡ false → position_or_len p shapes ≡ length shapes
place_of_none p [] is = refl
place_of_none p (s ∷ shapes) is = by_test (p s) is (place_of_none p shapes) where
  by_test : (b : Bool) → (b || list_any p shapes) ≡ false → (list_any p shapes ≡ false → position_or_len p shapes ≡ length shapes) → cond (not b) (1 + position_or_len p shapes) 0 ≡ suc (length shapes)
  by_test true is others = absurd cc
  by_test false is others = omega (arith, others is)

-- the shapes with one more, of which this is the place
record IsPlaced (shapes : List Template) (shape : Template) (grown : List Template) (place : ℕ) : Type 0 where
  known : place < length grown
  there : shape_at grown (256 + place) ≡ shape
  longer : length shapes ≤ length grown
  before : (i : ℕ) (d : Template) → i < length shapes → get_or grown i d ≡ get_or shapes i d

at_place : (shapes : List Template) (place : ℕ) → shape_at shapes (256 + place) ≡ get_or shapes place (record { fields = []; scope = 0 })
at_place shapes place =
    let n : 256 + place - 256 ≡ place = omega arith in ap (λ (i : ℕ). get_or shapes i (record { fields = []; scope = 0 })) n

placed : (shapes : List Template) (shape : Template) (b : Bool) → is_among shape shapes ≡ b → IsPlaced shapes shape (cond b shapes (shapes ++ shape ∷ [])) (position_or_len (same_template shape) shapes)
placed shapes shape true is =
    let place = position_or_len (same_template shape) shapes in
    let at = place_of_one (same_template shape) shapes (record { fields = []; scope = 0 }) is in
    record {
      known = at.0;
      there = at_place shapes place ∙ sym (same_template-is shape _ at.1);
      longer = omega arith;
      before = λ i d lt. refl;
    }
placed shapes shape false is =
    let place = position_or_len (same_template shape) shapes in
    let at = place_of_none (same_template shape) shapes is in
    record {
      known = omega (arith, at, length-append shapes (shape ∷ []));
      there = at_place (shapes ++ shape ∷ []) place ∙ ap (λ (i : ℕ). get_or (shapes ++ shape ∷ []) i (record { fields = []; scope = 0 })) at ∙ get_or-append_seam shapes shape [] (record { fields = []; scope = 0 });
      longer = omega (arith, length-append shapes (shape ∷ []));
      before = λ i d lt. get_or-append shapes (shape ∷ []) d i lt;
    }

-- ---- what waited before

same_shape_at : (shapes grown : List Template) (id : ℕ) → ((i : ℕ) (d : Template) → i < length shapes → get_or grown i d ≡ get_or shapes i d) → 256 ≤ id → id < 256 + length shapes → shape_at shapes id ≡ shape_at grown id
same_shape_at shapes grown id before low known = sym (before (id - 256) (record { fields = []; scope = 0 }) (omega arith))

kept_grown : (shapes grown : List Template) (ws : List Item) → length shapes ≤ length grown → ((i : ℕ) (d : Template) → i < length shapes → get_or grown i d ≡ get_or shapes i d) → AreItemsKept shapes ws → AreItemsKept grown ws × (stream_parts shapes ws ≡ stream_parts grown ws)
kept_grown shapes grown [] longer before kept = (tt, refl)
kept_grown shapes grown (Announced id octets ∷ ws) longer before kept =
    let others = kept_grown shapes grown ws longer before kept.1 in
    let same = same_shape_at shapes grown id before kept.0.low kept.0.known in
    let A : Template → Type 0 = λ t. IsAcceptable t in
    let C : Template → Type 0 = λ t. octets ≡ length (template_record 256 (is_options t) t) in (
      (record { low = kept.0.low; known = omega (arith, kept.0.known); accepted = subst A same kept.0.accepted; counted = subst C same kept.0.counted; few = kept.0.few }, others.0),
      ap (λ (t : Template). Announcement id t ∷ stream_parts shapes ws) same ∙ ap (λ (ps : List Part). Announcement id (shape_at grown id) ∷ ps) others.1,
    )
kept_grown shapes grown (Brought id octets ∷ ws) longer before kept =
    let others = kept_grown shapes grown ws longer before kept.1 in
    let same = same_shape_at shapes grown id before kept.0.low kept.0.known in
    let K : Template → Type 0 = λ t. IsKeptOf t octets in (
      (record { low = kept.0.low; known = omega (arith, kept.0.known); kept = subst K same kept.0.kept; few = kept.0.few }, others.0),
      ap (λ (t : Template). Entry id (kept_record t octets) ∷ stream_parts shapes ws) same ∙ ap (λ (ps : List Part). Entry id (kept_record (shape_at grown id) octets) ∷ ps) others.1,
    )

-- ---- what is put behind it

-- the records of a run, and before them the announcement of its template where it is new
abbrev pub new_items : ℕ → Option ℕ → List (List ℕ) → List Item
new_items id None texts = brings id texts
new_items id (Some announced) texts = Announced id announced ∷ brings id texts

items_new : (id : ℕ) (announcement : Option ℕ) (texts : List (List ℕ)) → items_in (new_waiting id announcement texts) ≡ new_items id announcement texts
items_new id None texts = append-nil (brings id texts)
items_new id (Some announced) texts = ap (λ (ws : List Item). Announced id announced ∷ ws) (append-nil (brings id texts))

filled_new : (id : ℕ) (announcement : Option ℕ) (texts : List (List ℕ)) → 0 < length texts → AreFilled (new_waiting id announcement texts)
filled_new id None texts some = (omega (arith, some, length-map texts (Brought id)), tt)
filled_new id (Some announced) texts some = (omega arith, (omega (arith, some, length-map texts (Brought id)), tt))

few_new : (id : ℕ) (announcement : Option ℕ) (texts : List (List ℕ)) → length (new_waiting id announcement texts) ≤ 2
few_new id None texts = omega arith
few_new id (Some announced) texts = omega arith

entries_brings : (id : ℕ) (texts : List (List ℕ)) → entries (brings id texts) ≡ length texts
entries_brings id [] = refl
entries_brings id (text ∷ texts) = ap suc (entries_brings id texts)

announcements_brings : (id : ℕ) (texts : List (List ℕ)) → announcements (brings id texts) ≡ 0
announcements_brings id [] = refl
announcements_brings id (text ∷ texts) = announcements_brings id texts

followed_brings : (id : ℕ) (texts : List (List ℕ)) → AreFollowed (brings id texts)
followed_brings id [] = tt
followed_brings id (text ∷ texts) = followed_brings id texts

followed_new : (id : ℕ) (announcement : Option ℕ) (texts : List (List ℕ)) → 0 < length texts → AreFollowed (new_items id announcement texts)
followed_new id None texts some = followed_brings id texts
followed_new id (Some announced) texts some = (omega (arith, some, entries_brings id texts), followed_brings id texts)

-- the octets of a template's record
abbrev pub IsAnnounced : Template → ℕ → Type 0
IsAnnounced t announced = announced ≡ length (template_record 256 (is_options t) t)

-- the texts are kept under an ID of their template
kept_brings : (grown : List Template) (id : ℕ) (texts : List (List ℕ)) → 256 ≤ id → id < 256 + length grown → AllByRecursion (IsKeptOf (shape_at grown id)) texts → AreItemsKept grown (brings id texts)
kept_brings grown id [] low known kept = tt
kept_brings grown id (text ∷ texts) low known kept = (
  record { low = low; known = known; kept = kept.0; few = omega (arith, kept.0.sound.record_fits, ap length kept.0.shortest) },
  kept_brings grown id texts low known kept.1,
)

-- the parts of records of one template, where these shapes were used before them
abbrev entry_of : ℕ → Template → List ℕ → Part
entry_of id t text = Entry id (kept_record t text)

abbrev pub run_parts : List Template → Template → List (List ℕ) → List Part
run_parts shapes t texts = cond (is_among t shapes) [] (Announcement (id_of t shapes) t ∷ []) ++ map (entry_of (id_of t shapes) t) texts

shown_brings : (grown : List Template) (id : ℕ) (texts : List (List ℕ)) → stream_parts grown (brings id texts) ≡ map (entry_of id (shape_at grown id)) texts
shown_brings grown id [] = refl
shown_brings grown id (text ∷ texts) = ap (λ (ps : List Part). entry_of id (shape_at grown id) text ∷ ps) (shown_brings grown id texts)

record IsPut (shapes : List Template) (t : Template) (texts : List (List ℕ)) (grown : List Template) (items : List Item) : Type 0 where
  kept : AreItemsKept grown items
  shown : stream_parts grown items ≡ run_parts shapes t texts
  entries_are : entries items ≡ length texts
  counted : length shapes + announcements items ≡ length grown

put_by : (shapes : List Template) (t : Template) (texts : List (List ℕ)) (announced : ℕ) (b : Bool) → is_among t shapes ≡ b → IsAcceptable t → announced ≤ longest_body - set_header_octets → AllByRecursion (IsKeptOf t) texts → IsAnnounced t announced
    → IsPut shapes t texts (cond b shapes (shapes ++ t ∷ [])) (new_items (256 + position_or_len (same_template t) shapes) (cond b None (Some announced)) texts)
put_by shapes t texts announced true is accepted few kept announces =
    let id = 256 + position_or_len (same_template t) shapes in
    let at = placed shapes t true is in
    let K : Template → Type 0 = λ u. AllByRecursion (IsKeptOf u) texts in
    record {
      kept = kept_brings shapes id texts (omega arith) (omega (arith, at.known)) (subst K (sym at.there) kept);
      shown = shown_brings shapes id texts ∙ ap (λ (u : Template). map (entry_of id u) texts) at.there ∙ sym (ap (λ (c : Bool). cond c [] (Announcement id t ∷ []) ++ map (entry_of id t) texts) is);
      entries_are = entries_brings id texts;
      counted = omega (arith, announcements_brings id texts);
    }
put_by shapes t texts announced false is accepted few kept announces =
    let id = 256 + position_or_len (same_template t) shapes in
    let grown = shapes ++ t ∷ [] in
    let at = placed shapes t false is in
    let K : Template → Type 0 = λ u. AllByRecursion (IsKeptOf u) texts in
    let A : Template → Type 0 = λ u. IsAcceptable u in
    let C : Template → Type 0 = λ u. announced ≡ length (template_record 256 (is_options u) u) in
    record {
      kept = (
        record { low = omega arith; known = omega (arith, at.known); accepted = subst A (sym at.there) accepted; counted = subst C (sym at.there) announces; few = few },
        kept_brings grown id texts (omega arith) (omega (arith, at.known)) (subst K (sym at.there) kept),
      );
      shown = ap (λ (ps : List Part). Announcement id (shape_at grown id) ∷ ps) (shown_brings grown id texts) ∙ ap (λ (u : Template). Announcement id u ∷ map (entry_of id u) texts) at.there ∙ sym (ap (λ (c : Bool). cond c [] (Announcement id t ∷ []) ++ map (entry_of id t) texts) is);
      entries_are = entries_brings id texts;
      counted = omega (arith, announcements_brings id texts, length-append shapes (t ∷ []));
    }

announcements-append : (vs ws : List Item) → announcements (vs ++ ws) ≡ announcements vs + announcements ws
announcements-append [] ws = omega arith
announcements-append (Announced id octets ∷ vs) ws = omega (arith, announcements-append vs ws)
announcements-append (Brought id octets ∷ vs) ws = announcements-append vs ws

entries-append : (vs ws : List Item) → entries (vs ++ ws) ≡ entries vs + entries ws
entries-append [] ws = omega arith
entries-append (Announced id octets ∷ vs) ws = entries-append vs ws
entries-append (Brought id octets ∷ vs) ws = omega (arith, entries-append vs ws)

followed_append : (vs ws : List Item) → AreFollowed vs → AreFollowed ws → AreFollowed (vs ++ ws)
followed_append [] ws first second = second
followed_append (Announced id octets ∷ vs) ws first second =
    (omega (arith, first.0, entries-append vs ws), followed_append vs ws first.1 second)
followed_append (Brought id octets ∷ vs) ws first second = followed_append vs ws first second

-- the table and the queue before and after, and what the run asks for
pub record Takes (table grown : Table) (limits : StreamLimits) (waiting handed spare : ℕ) (t : Template) (texts : List (List ℕ)) (announced : ℕ) : Type 0 where
  pub accepted : IsAcceptable t
  pub announces : IsAnnounced t announced
  pub announced_few : announced ≤ longest_body - set_header_octets
  pub kept : AllByRecursion (IsKeptOf t) texts
  pub some : 0 < length texts
  pub reserved : length texts ≤ spare
  pub few : length (with_shape table.shapes t) ≤ limits.shapes
  pub queue : waiting + length texts ≤ limits.queue
  pub below : handed + waiting + length texts < 2 ^ 64
  pub shapes : grown.shapes ≡ with_shape table.shapes t
  pub spare_left : table.spare ≤ grown.spare + 1

-- what is put behind the queue
abbrev pub new_run : List Template → Template → List (List ℕ) → ℕ → List Waiting
new_run shapes t texts announced = new_waiting (256 + position_or_len (same_template t) shapes) (cond (is_among t shapes) None (Some announced)) texts

pub taken : (table grown : Table) (queue : List Waiting) (capacity : ℕ) (limits : StreamLimits) (counts : StreamCounts) (spare : ℕ) (t : Template) (texts : List (List ℕ)) (announced_octets : ℕ)
    → IsConsistent table queue capacity limits counts spare → Takes table grown limits counts.waiting counts.handed spare t texts announced_octets
    → IsConsistent grown (queue ++ new_run table.shapes t texts announced_octets) capacity limits (record { waiting = counts.waiting + length texts; handed = counts.handed; announced = counts.announced }) (spare - length texts) × (stream_parts grown.shapes (items_in (queue ++ new_run table.shapes t texts announced_octets)) ≡ stream_parts table.shapes (items_in queue) ++ run_parts table.shapes t texts)
taken table grown queue capacity limits counts spare t texts announced_octets is takes =
    let id = 256 + position_or_len (same_template t) table.shapes in
    let announcement = cond (is_among t table.shapes) None (Some announced_octets) in
    let new = new_waiting id announcement texts in
    let added = new_items id announcement texts in
    let all : items_in (queue ++ new) ≡ items_in queue ++ added = items_in-append queue new ∙ ap (λ (ws : List Item). items_in queue ++ ws) (items_new id announcement texts) in
    let one = put_by table.shapes t texts announced_octets (is_among t table.shapes) refl takes.accepted takes.announced_few takes.kept takes.announces in
    let at = placed table.shapes t (is_among t table.shapes) refl in
    let old = kept_grown table.shapes (with_shape table.shapes t) (items_in queue) at.longer at.before is.kept in
    let K : List Template → Type 0 = λ shapes. AreItemsKept shapes (items_in (queue ++ new)) in
    let I : List Item → Type 0 = λ ws. AreItemsKept (with_shape table.shapes t) ws in
    let F : List Item → Type 0 = λ ws. AreFollowed ws in
    let len : length grown.shapes ≡ length (with_shape table.shapes t) = ap length takes.shapes in (
      record {
        filled = filled_append queue new is.filled (filled_new id announcement texts takes.some);
        kept = subst K (sym takes.shapes) (subst I (sym all) (kept_append (with_shape table.shapes t) (items_in queue) added old.0 one.kept));
        followed = subst F (sym all) (followed_append (items_in queue) added is.followed (followed_new id announcement texts takes.some));
        counted = omega (arith, is.counted, ap entries all, entries-append (items_in queue) added, one.entries_are);
        announced_before = omega (arith, is.announced_before, ap announcements all, announcements-append (items_in queue) added, one.counted, len);
        few_shapes = omega (arith, takes.few, len);
        few_ids = is.few_ids;
        few_waiting = takes.queue;
        below = omega (arith, takes.below);
        room = omega (arith, is.room, takes.some, takes.reserved, few_new id announcement texts, length-append queue new);
        table_room = omega (arith, is.table_room, takes.spare_left, takes.some, takes.reserved);
      },
      ap (λ (shapes : List Template). stream_parts shapes (items_in (queue ++ new))) takes.shapes ∙ ap (stream_parts (with_shape table.shapes t)) all ∙ map-append (part_of (with_shape table.shapes t)) (items_in queue) added ∙ ap (λ (ps : List Part). ps ++ stream_parts (with_shape table.shapes t) added) (sym old.1) ∙ ap (λ (ps : List Part). stream_parts table.shapes (items_in queue) ++ ps) one.shown,
    )

-- the place of a shape is below the limit, and the shape stands there
pub place_below : (shapes : List Template) (shape : Template) → position_or_len (same_template shape) shapes < length (with_shape shapes shape)
place_below shapes shape = (placed shapes shape (is_among shape shapes) refl).known

pub place_holds : (shapes grown : List Template) (shape found : Template) (place : ℕ) → grown ≡ with_shape shapes shape → place ≡ position_or_len (same_template shape) shapes → slice_get grown place ≡ Some found → found ≡ shape
place_holds shapes grown shape found place grown_is is at =
    let d : Template = record { fields = []; scope = 0 } in
    let first = position_or_len (same_template shape) shapes in
    let there = (placed shapes shape (is_among shape shapes) refl).there in
    sym (get_or_from_slice_get grown place found d at) ∙ ap (λ (i : ℕ). get_or grown i d) is ∙ ap (λ (ss : List Template). get_or ss first d) grown_is ∙ sym (at_place (with_shape shapes shape) first) ∙ there

-- what is kept of a record says of its template
pub template_kept : (t : Template) (texts : List (List ℕ)) → 0 < length texts → AllByRecursion (IsKeptOf t) texts → IsAcceptable t × (length (template_record 256 (is_options t) t) ≤ longest_body - set_header_octets)
template_kept t [] some kept = absurd (omega arith)
template_kept t (text ∷ texts) some kept = (kept.0.sound.accepted, omega (arith, kept.0.sound.template_fits))

-- what the code puts behind the queue
pub put_is : (shapes : List Template) (t u found : Template) (texts given_texts : List (List ℕ)) (place : ℕ) (is_new : Bool) (announcement : Option ℕ) → u ≡ t → found ≡ t → place ≡ position_or_len (same_template u) shapes → is_new ≡ not (is_among u shapes) → announcement ≡ cond is_new (Some (length (template_record 256 (is_options found) found))) None → given_texts ≡ texts
    → new_waiting (256 + place) announcement given_texts ≡ new_run shapes t texts (length (template_record 256 (is_options t) t))
put_is shapes t u found texts given_texts place is_new announcement u_is found_is place_is new_is announcement_is texts_is =
    let octets : Template → ℕ = λ v. length (template_record 256 (is_options v) v) in
    let place_too : place ≡ position_or_len (same_template t) shapes = place_is ∙ ap (λ (v : Template). position_or_len (same_template v) shapes) u_is in
    let announcement_too : announcement ≡ cond (is_among t shapes) None (Some (octets t)) = announcement_is ∙ ap (λ (b : Bool). cond b (Some (octets found)) None) (new_is ∙ ap (λ (v : Template). not (is_among v shapes)) u_is) ∙ ap (λ (v : Template). cond (not (is_among t shapes)) (Some (octets v)) None) found_is ∙ other_way (is_among t shapes) (octets t) in
    ap (λ (n : ℕ). new_waiting (256 + n) announcement given_texts) place_too ∙ ap (λ (a : Option ℕ). new_waiting (256 + position_or_len (same_template t) shapes) a given_texts) announcement_too ∙ ap (new_waiting (256 + position_or_len (same_template t) shapes) (cond (is_among t shapes) None (Some (octets t)))) texts_is where
      other_way : (b : Bool) (n : ℕ) → cond (not b) (Some n) None ≡ cond b None (Some n)
      other_way true n = refl
      other_way false n = refl

-- ---- the view after it

position_same : (p : Template → Bool) (t : Template) (shapes : List Template) → p t ≡ true → position_or_len p (shapes ++ t ∷ []) ≡ position_or_len p shapes
position_same p t [] is = rw is refl
position_same p t (s ∷ shapes) is = ap (λ (n : ℕ). cond (not (p s)) (1 + n) 0) (position_same p t shapes is)

id_same : (shapes : List Template) (t : Template) → id_of t (with_shape shapes t) ≡ id_of t shapes
id_same shapes t = by_test (is_among t shapes) where
  by_test : (b : Bool) → id_of t (cond b shapes (shapes ++ t ∷ [])) ≡ id_of t shapes
  by_test true = refl
  by_test false = ap (λ (n : ℕ). 256 + n) (position_same (same_template t) t shapes (same_template-itself t))

abbrev kept_with : List Template → StreamLimits → ℕ → ℕ → ℕ → List Part → KeptStream
kept_with shapes limits spare handed announced waiting = record { standing = record { shapes = shapes; handed = handed; announced = announced; waiting = waiting }; limits = limits; spare = spare }

-- a record of a shape that is known
one_known : (shapes : List Template) (limits : StreamLimits) (spare handed announced : ℕ) (waiting : List Part) (t : Template) (text : List ℕ) → is_among t shapes ≡ true
    → given_one (kept_with shapes limits spare handed announced waiting) (kept_record t text) ≡ kept_with shapes limits (spare - 1) handed announced (waiting ++ entry_of (id_of t shapes) t text ∷ [])
unfolding given_one
one_known shapes limits spare handed announced waiting t text is = rw is refl

given_known : (shapes : List Template) (limits : StreamLimits) (spare handed announced : ℕ) (waiting : List Part) (t : Template) (texts : List (List ℕ)) → is_among t shapes ≡ true
    → after_given (kept_with shapes limits spare handed announced waiting) (map (kept_record t) texts) ≡ kept_with shapes limits (spare - length texts) handed announced (waiting ++ map (entry_of (id_of t shapes) t) texts)
given_known shapes limits spare handed announced waiting t [] is =
    let none : spare ≡ spare - 0 = omega arith in
    ap (λ (n : ℕ). kept_with shapes limits n handed announced waiting) none ∙ ap (kept_with shapes limits (spare - 0) handed announced) (sym (append-nil waiting))
given_known shapes limits spare handed announced waiting t (text ∷ texts) is =
    let e = entry_of (id_of t shapes) t text in
    let one_less : spare - 1 - length texts ≡ spare - suc (length texts) = omega arith in
    ap (λ (k : KeptStream). after_given k (map (kept_record t) texts)) (one_known shapes limits spare handed announced waiting t text is)
    ∙ given_known shapes limits (spare - 1) handed announced (waiting ++ e ∷ []) t texts is
    ∙ ap (λ (n : ℕ). kept_with shapes limits n handed announced ((waiting ++ e ∷ []) ++ map (entry_of (id_of t shapes) t) texts)) one_less
    ∙ ap (kept_with shapes limits (spare - suc (length texts)) handed announced) (append_assoc waiting (e ∷ []) (map (entry_of (id_of t shapes) t) texts))

-- the first record, with its announcement where its shape is not known
with_first : (waiting : List Part) (id : ℕ) (t : Template) (text : List ℕ) (es : List Part) (b : Bool) → (waiting ++ cond b (entry_of id t text ∷ []) (Announcement id t ∷ entry_of id t text ∷ [])) ++ es ≡ waiting ++ (cond b [] (Announcement id t ∷ []) ++ (entry_of id t text ∷ es))
with_first waiting id t text es true = append_assoc waiting (entry_of id t text ∷ []) es
with_first waiting id t text es false = append_assoc waiting (Announcement id t ∷ entry_of id t text ∷ []) es

first_given : (shapes : List Template) (limits : StreamLimits) (spare handed announced : ℕ) (waiting : List Part) (t : Template) (text : List ℕ)
    → given_one (kept_with shapes limits spare handed announced waiting) (kept_record t text) ≡ kept_with (with_shape shapes t) limits (spare - 1) handed announced (waiting ++ cond (is_among t shapes) (entry_of (id_of t shapes) t text ∷ []) (Announcement (id_of t shapes) t ∷ entry_of (id_of t shapes) t text ∷ []))
unfolding given_one
first_given shapes limits spare handed announced waiting t text = refl

pub given_run : (shapes : List Template) (limits : StreamLimits) (spare handed announced : ℕ) (waiting : List Part) (t : Template) (texts : List (List ℕ)) → 0 < length texts
    → after_given (kept_with shapes limits spare handed announced waiting) (map (kept_record t) texts) ≡ kept_with (with_shape shapes t) limits (spare - length texts) handed announced (waiting ++ run_parts shapes t texts)
given_run shapes limits spare handed announced waiting t [] some = absurd (omega arith)
given_run shapes limits spare handed announced waiting t (text ∷ texts) some =
    let id = id_of t shapes in
    let first = waiting ++ cond (is_among t shapes) (entry_of id t text ∷ []) (Announcement id t ∷ entry_of id t text ∷ []) in
    let one_less : spare - 1 - length texts ≡ spare - suc (length texts) = omega arith in
    ap (λ (k : KeptStream). after_given k (map (kept_record t) texts)) (first_given shapes limits spare handed announced waiting t text)
    ∙ given_known (with_shape shapes t) limits (spare - 1) handed announced first t texts (is_among-itself shapes t)
    ∙ ap (λ (n : ℕ). kept_with (with_shape shapes t) limits n handed announced (first ++ map (entry_of (id_of t (with_shape shapes t)) t) texts)) one_less
    ∙ ap (λ (n : ℕ). kept_with (with_shape shapes t) limits (spare - suc (length texts)) handed announced (first ++ map (entry_of n t) texts)) (id_same shapes t)
    ∙ ap (kept_with (with_shape shapes t) limits (spare - suc (length texts)) handed announced) (with_first waiting id t text (map (entry_of id t) texts) (is_among t shapes))

-- what a stream keeps after it
pub given_run-view : (k : KeptStream) (run : RunOf) (shapes : List Template) (limits : StreamLimits) (spare handed announced : ℕ) (waiting after : List Part) (grown : List Template) → k ≡ kept_with shapes limits spare handed announced waiting → 0 < length run.texts → grown ≡ with_shape shapes run.template → after ≡ waiting ++ run_parts shapes run.template run.texts
    → kept_with grown limits (spare - length run.texts) handed announced after ≡ after_given k (run_records run)
given_run-view k run shapes limits spare handed announced waiting after grown is some grown_is after_is =
    ap (λ (ss : List Template). kept_with ss limits (spare - length run.texts) handed announced after) grown_is
    ∙ ap (kept_with (with_shape shapes run.template) limits (spare - length run.texts) handed announced) after_is
    ∙ sym (given_run shapes limits spare handed announced waiting run.template run.texts some)
    ∙ ap (λ (l : KeptStream). after_given l (run_records run)) (sym is)
