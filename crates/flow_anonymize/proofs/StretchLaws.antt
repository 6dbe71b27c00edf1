-- What stretches show of octets, and how it is left in place of these.
use Rattle.std.proofs.Common.{◌≡◌, ◌⊎◌, inl, inr, ℕ, ◌+◌, ◌-◌, ◌<◌, ◌≤◌, List, [], ◌∷◌, ◌++◌, length, take, drop, get_or, refl, sym, ap, subst, ◌∙◌, arith, append_assoc, append-nil, length-append, length-drop}
use Rattle.std.proofs.Math.Seq.{take-add}
use Rattle.std.proofs.lemmas.Bool.{cases_lt}
use Rattle.std.proofs.lemmas.List.{drop-drop, drop_at, drop_more, drop_all, take_at, take_all, take-take, take-append-drop, length-take, length-take-le, length-replicate, replicate-append-replicate}
use Rattle.flow_anonymize.specs.declared.stretch.Stretch.{Stretch}
use Rattle.flow_anonymize.specs.Stretches.{stretch, zeroed, stretch_shown, behind_of, shown_in, put_in, IsJoined}

-- ---- one stretch in place of two

-- as many 0 as there are octets in both parts
zero_parts : (m n : ℕ) (octets : List ℕ) → zeroed (length (take (m + n) octets)) ≡ zeroed (length (take m octets)) ++ zeroed (length (take n (drop m octets)))
zero_parts m n octets =
    ap (λ (xs : List ℕ). zeroed (length xs)) (take-add m n octets) ∙ ap zeroed (length-append (take m octets) (take n (drop m octets)))
    ∙ sym (replicate-append-replicate (length (take m octets)) (length (take n (drop m octets))) 0)

shown_both : (front back zeros skipped : ℕ) → IsJoined (stretch (front + back) zeros skipped) (stretch front 0 0) (stretch back zeros skipped)
shown_both front back zeros skipped = record {
  shown = λ octets.
      ap (λ (xs : List ℕ). xs ++ zeroed (length (take zeros (drop (front + back) octets)))) (take-add front back octets)
      ∙ append_assoc (take front octets) (take back (drop front octets)) (zeroed (length (take zeros (drop (front + back) octets))))
      ∙ ap (λ (o : List ℕ). take front octets ++ (take back (drop front octets) ++ zeroed (length (take zeros o)))) (sym (drop-drop back front octets))
      ∙ ap (λ (xs : List ℕ). xs ++ (take back (drop front octets) ++ zeroed (length (take zeros (drop back (drop front octets)))))) (sym (append-nil (take front octets)));
  behind = λ octets. ap (λ (o : List ℕ). drop skipped (drop zeros o)) (sym (drop-drop back front octets));
}

hidden_both : (shown front back skipped : ℕ) → IsJoined (stretch shown (front + back) skipped) (stretch shown front 0) (stretch 0 back skipped)
hidden_both shown front back skipped = record {
  shown = λ octets.
      ap (λ (xs : List ℕ). take shown octets ++ xs) (zero_parts front back (drop shown octets))
      ∙ sym (append_assoc (take shown octets) (zeroed (length (take front (drop shown octets)))) (zeroed (length (take back (drop front (drop shown octets))))));
  behind = λ octets. ap (λ (o : List ℕ). drop skipped o) (sym (drop-drop back front (drop shown octets)));
}

stretch_of : (s : Stretch) (shown zeros skipped : ℕ) → s.shown ≡ shown → s.zeros ≡ zeros → s.skipped ≡ skipped → s ≡ stretch shown zeros skipped
stretch_of s shown zeros skipped e f g =
    ap (λ (n : ℕ). stretch n s.zeros s.skipped) e ∙ ap (λ (n : ℕ). stretch shown n s.skipped) f ∙ ap (stretch shown zeros) g

-- what holds of three stretches with these numbers holds of them
joined_as : (both one next as_both as_one as_next : Stretch) → both ≡ as_both → one ≡ as_one → next ≡ as_next → IsJoined as_both as_one as_next → IsJoined both one next
joined_as both one next as_both as_one as_next e f g is =
    subst (λ (s : Stretch). IsJoined s one next) (sym e) (subst (λ (s : Stretch). IsJoined as_both s next) (sym f) (subst (λ (s : Stretch). IsJoined as_both as_one s) (sym g) is))

pub join_shown : (both one next : Stretch) (sum : ℕ) → one.zeros ≡ 0 → one.skipped ≡ 0 → sum ≡ one.shown + next.shown → both ≡ stretch sum next.zeros next.skipped → IsJoined both one next
join_shown both one next sum zeros skipped is made =
    joined_as both one next (stretch (one.shown + next.shown) next.zeros next.skipped) (stretch one.shown 0 0) next (made ∙ ap (λ (n : ℕ). stretch n next.zeros next.skipped) is)
    (stretch_of one one.shown 0 0 refl zeros skipped) refl (shown_both one.shown next.shown next.zeros next.skipped)

pub join_hidden : (both one next : Stretch) (sum : ℕ) → one.skipped ≡ 0 → next.shown ≡ 0 → sum ≡ one.zeros + next.zeros → both ≡ stretch one.shown sum next.skipped → IsJoined both one next
join_hidden both one next sum skipped shown is made =
    joined_as both one next (stretch one.shown (one.zeros + next.zeros) next.skipped) (stretch one.shown one.zeros 0) (stretch 0 next.zeros next.skipped) (made ∙ ap (λ (n : ℕ). stretch one.shown n next.skipped) is)
    (stretch_of one one.shown one.zeros 0 refl refl skipped) (stretch_of next 0 next.zeros next.skipped shown refl refl) (hidden_both one.shown one.zeros next.zeros next.skipped)

-- ---- octets in place of others

-- what stands before them and behind them
pub record IsPut (place : ℕ) (octets text new : List ℕ) : Type 0 where
  pub front : take (place + length octets) new ≡ take place text ++ octets
  pub behind : drop (place + length octets) new ≡ drop (place + length octets) text
  pub long : length new ≡ length text

pub is_put : (place : ℕ) (octets text : List ℕ) → place + length octets ≤ length text → IsPut place octets text (put_in place octets text)
is_put place octets text room =
    let front = take place text in
    let left = drop (place + length octets) text in
    let ends : place + length octets ≡ length (front ++ octets) = omega (arith, length-append front octets, length-take-le place text (omega (arith, room))) in
    let parts : put_in place octets text ≡ (front ++ octets) ++ left = sym (append_assoc front octets left) in
    record {
      front = ap (take (place + length octets)) parts ∙ take_at (front ++ octets) left (place + length octets) (sym ends);
      behind = ap (drop (place + length octets)) parts ∙ drop_at (front ++ octets) left (place + length octets) (sym ends);
      long = omega (arith, ap length parts, length-append (front ++ octets) left, ends, length-drop (place + length octets) text, room);
    }

-- octets that are put behind those that were put
pub put_twice : (place : ℕ) (octets more text : List ℕ) → place + (length octets + length more) ≤ length text → put_in (place + length octets) more (put_in place octets text) ≡ put_in place (octets ++ more) text
put_twice place octets more text room =
    let first = is_put place octets text (omega (arith, room)) in
    let new = put_in place octets text in
    let end : place + length octets + length more ≡ place + length (octets ++ more) = omega (arith, length-append octets more) in
    let left : drop (place + length octets + length more) new ≡ drop (place + length (octets ++ more)) text =
    sym (drop-drop (length more) (place + length octets) new) ∙ ap (drop (length more)) first.behind ∙ drop-drop (length more) (place + length octets) text ∙ ap (λ (n : ℕ). drop n text) end in
    ap (λ (xs : List ℕ). xs ++ (more ++ drop (place + length octets + length more) new)) first.front
    ∙ ap (λ (xs : List ℕ). (take place text ++ octets) ++ (more ++ xs)) left
    ∙ append_assoc (take place text) octets (more ++ drop (place + length (octets ++ more)) text)
    ∙ ap (λ (xs : List ℕ). take place text ++ xs) (sym (append_assoc octets more (drop (place + length (octets ++ more)) text)))

taken : (k : ℕ) (xs : List ℕ) → take (length (take k xs)) xs ≡ take k xs
taken k xs = by (cases_lt k (length xs)) where
  by : (k < length xs) ⊎ (length xs ≤ k) → take (length (take k xs)) xs ≡ take k xs
  by (inl less) = ap (λ (n : ℕ). take n xs) (length-take-le k xs (omega (arith, less)))
  by (inr more) = ap (λ (ys : List ℕ). take (length ys) xs) (take_all k xs more) ∙ take_all (length xs) xs (omega arith) ∙ sym (take_all k xs more)

front_of : (k : ℕ) (xs text : List ℕ) → take (length xs) text ≡ xs → take (length (take k xs)) text ≡ take k xs
front_of k xs text is =
    let few : length (take k xs) ≤ length xs = omega (arith, length-take k xs) in
    sym (take-take (length (take k xs)) (length xs) text few) ∙ ap (take (length (take k xs))) is ∙ taken k xs

-- the first of octets that stand there already need not be put
pub put_already : (place k : ℕ) (octets text : List ℕ) → take (length octets) (drop place text) ≡ octets → text ≡ put_in place (take k octets) text
put_already place k octets text there =
    let here = take k octets in
    let front : take (length here) (drop place text) ≡ here = front_of k octets (drop place text) there in
    sym (take-append-drop place text)
    ∙ ap (λ (xs : List ℕ). take place text ++ xs) (sym (take-append-drop (length here) (drop place text)))
    ∙ ap (λ (xs : List ℕ). take place text ++ (xs ++ drop (length here) (drop place text))) front
    ∙ ap (λ (xs : List ℕ). take place text ++ (here ++ xs)) (drop-drop (length here) place text)

pub stretch_put : (s : Stretch) (octets text first new here hidden left : List ℕ) (place : ℕ) → place + length octets ≤ length text → here ≡ take s.shown octets → left ≡ drop s.shown octets → hidden ≡ take s.zeros left
    → first ≡ put_in place here text → new ≡ put_in (place + length here) (zeroed (length hidden)) first → new ≡ put_in place (stretch_shown s octets) text
stretch_put s octets text first new here hidden left place room is_here is_left is_hidden is_first made =
    let hides : hidden ≡ take s.zeros (drop s.shown octets) = is_hidden ∙ ap (take s.zeros) is_left in
    let shown : here ++ zeroed (length hidden) ≡ stretch_shown s octets =
    ap (λ (xs : List ℕ). xs ++ zeroed (length hidden)) is_here ∙ ap (λ (xs : List ℕ). take s.shown octets ++ zeroed (length xs)) hides in
    let zeros : length (zeroed (length hidden)) ≡ length hidden = length-replicate (length hidden) 0 in
    let fits : place + (length here + length (zeroed (length hidden))) ≤ length text =
    omega (arith, room, zeros, ap length is_here, ap length hides, length-take s.shown octets, length-take s.zeros (drop s.shown octets), length-drop s.shown octets) in
    made ∙ ap (λ (f : List ℕ). put_in (place + length here) (zeroed (length hidden)) f) is_first ∙ put_twice place here (zeroed (length hidden)) text fits ∙ ap (λ (xs : List ℕ). put_in place xs text) shown

-- ---- stretch by stretch

-- the octets that are left stand behind the others
abbrev pub IsRest : List ℕ → List ℕ → Type 0
IsRest octets rest = rest ≡ drop (length octets - length rest) octets

rest_after : (k : ℕ) (octets rest : List ℕ) → length rest ≤ length octets → IsRest octets rest → IsRest octets (drop k rest)
rest_after k octets rest few is = by (cases_lt (length rest) k) where
  whole : drop k rest ≡ drop (length octets - length rest + k) octets
  whole = ap (drop k) is ∙ drop-drop k (length octets - length rest) octets

  by : (length rest < k) ⊎ (k ≤ length rest) → IsRest octets (drop k rest)
  by (inl less) =
      let none : length (drop k rest) ≡ 0 = omega (arith, length-drop k rest, less) in
      let all : length octets - length (drop k rest) ≡ length octets = omega (arith, none) in
      whole ∙ drop_all (length octets - length rest + k) octets (omega (arith, less, few)) ∙ sym (drop_all (length octets - length (drop k rest)) octets (omega (arith, all)))
  by (inr le) =
      let same : length octets - length rest + k ≡ length octets - length (drop k rest) = omega (arith, length-drop k rest, le, few) in
      whole ∙ ap (λ (n : ℕ). drop n octets) same

-- of a text that held so many octets and then these: so many were put behind the first ones, and with what the stretches that are left show of the rest they are the whole
pub record IsClosing (held : ℕ) (whole octets : List ℕ) (left : List Stretch) (put : ℕ) (rest text : List ℕ) : Type 0 where
  pub front : take (held + put) text ++ shown_in left rest ≡ whole
  pub behind : drop (held + put) text ≡ drop put octets
  pub long : length text ≡ held + length octets
  pub room : put + length rest ≤ length octets
  pub suffix : IsRest octets rest

-- a stretch shows no more octets than it takes
shown_within : (s : Stretch) (octets : List ℕ) → length (stretch_shown s octets) + length (behind_of s octets) ≤ length octets
shown_within s octets =
    let ahead = drop s.shown octets in
    let zeros : length (zeroed (length (take s.zeros ahead))) ≡ length (take s.zeros ahead) = length-replicate (length (take s.zeros ahead)) 0 in
    omega (arith, length-append (take s.shown octets) (zeroed (length (take s.zeros ahead))), zeros, length-take s.shown octets, length-take s.zeros ahead, length-drop s.shown octets, length-drop s.zeros ahead, length-drop s.skipped (drop s.zeros ahead))

behind_rest : (s : Stretch) (octets rest : List ℕ) → length rest ≤ length octets → IsRest octets rest → IsRest octets (behind_of s rest)
behind_rest s octets rest few is =
    let one = rest_after s.shown octets rest few is in
    let two = rest_after s.zeros octets (drop s.shown rest) (omega (arith, length-drop s.shown rest, few)) one in
    rest_after s.skipped octets (drop s.zeros (drop s.shown rest)) (omega (arith, length-drop s.shown rest, length-drop s.zeros (drop s.shown rest), few)) two

pub closed_one : (held : ℕ) (whole octets : List ℕ) (s : Stretch) (left : List Stretch) (put more : ℕ) (rest text new : List ℕ) → IsClosing held whole octets (s ∷ left) put rest text → more ≡ put + length (stretch_shown s rest) → new ≡ put_in (held + put) (stretch_shown s rest) text
    → IsClosing held whole octets left more (behind_of s rest) new
closed_one held whole octets s left put more rest text new is counted made =
    let shown = stretch_shown s rest in
    let within = shown_within s rest in
    let here : held + more ≡ held + put + length shown = omega (arith, counted) in
    let done = is_put (held + put) shown text (omega (arith, within, is.long, is.room)) in
    let all : IsClosing held whole octets left more (behind_of s rest) (put_in (held + put) shown text) = record {
      front =
          ap (λ (n : ℕ). take n (put_in (held + put) shown text) ++ shown_in left (behind_of s rest)) here
          ∙ ap (λ (xs : List ℕ). xs ++ shown_in left (behind_of s rest)) done.front
          ∙ append_assoc (take (held + put) text) shown (shown_in left (behind_of s rest))
          ∙ is.front;
      behind =
          ap (λ (n : ℕ). drop n (put_in (held + put) shown text)) here ∙ done.behind ∙ sym (drop-drop (length shown) (held + put) text)
          ∙ ap (drop (length shown)) is.behind ∙ drop-drop (length shown) put octets ∙ ap (λ (n : ℕ). drop n octets) (sym counted);
      long = omega (arith, done.long, is.long);
      room = omega (arith, counted, within, is.room);
      suffix = behind_rest s octets rest (omega (arith, is.room)) is.suffix;
    } in
    subst (λ (t : List ℕ). IsClosing held whole octets left more (behind_of s rest) t) (sym made) all

-- the stretch at a place of a list
pub closed_at : (held : ℕ) (whole octets : List ℕ) (stretches : List Stretch) (i : ℕ) (d : Stretch) (put count : ℕ) (rest after text new : List ℕ) → i < length stretches → IsClosing held whole octets (drop i stretches) put rest text
    → count ≡ length (stretch_shown (get_or stretches i d) rest) → new ≡ put_in (held + put) (stretch_shown (get_or stretches i d) rest) text → after ≡ behind_of (get_or stretches i d) rest
    → IsClosing held whole octets (drop (i + 1) stretches) (put + count) after new
closed_at held whole octets stretches i d put count rest after text new low is counted made goes =
    let s = get_or stretches i d in
    let more : put + count ≡ put + length (stretch_shown s rest) = ap (λ (n : ℕ). put + n) counted in
    let was : IsClosing held whole octets (s ∷ drop (i + 1) stretches) put rest text = subst (λ (ss : List Stretch). IsClosing held whole octets ss put rest text) (drop_more stretches i d low) is in
    subst (λ (o : List ℕ). IsClosing held whole octets (drop (i + 1) stretches) (put + count) o new) (sym goes) (closed_one held whole octets s (drop (i + 1) stretches) put (put + count) rest text new was more made)

-- ---- one stretch, or two

-- what a text has up to where octets that were put end
cut_behind : (place count : ℕ) (octets text new : List ℕ) → place + length octets ≤ length text → new ≡ put_in place octets text → count ≡ length octets → take (place + count) new ≡ take place text ++ octets
cut_behind place count octets text new room made counted = ap (take (place + count)) made ∙ ap (λ (n : ℕ). take (place + n) (put_in place octets text)) counted ∙ (is_put place octets text room).front

pub closed_only : (only : Stretch) (octets text new : List ℕ) (held count : ℕ) → held ≤ length text → drop held text ≡ octets → new ≡ put_in held (stretch_shown only octets) text → count ≡ length (stretch_shown only octets)
    → take (held + count) new ≡ take held text ++ shown_in (only ∷ []) octets
closed_only only octets text new held count low there made counted =
    let shown = stretch_shown only octets in
    let room : held + length shown ≤ length text = omega (arith, low, ap length there, length-drop held text, shown_within only octets) in
    cut_behind held count shown text new room made counted ∙ ap (λ (xs : List ℕ). take held text ++ xs) (sym (append-nil shown))

pub closed_two : (first second : Stretch) (octets rest text one two : List ℕ) (held front back : ℕ) → held ≤ length text → drop held text ≡ octets → rest ≡ behind_of first octets → one ≡ put_in held (stretch_shown first octets) text → front ≡ length (stretch_shown first octets)
    → two ≡ put_in (held + front) (stretch_shown second rest) one → back ≡ length (stretch_shown second rest) → take (held + (front + back)) two ≡ take held text ++ shown_in (first ∷ second ∷ []) octets
closed_two first second octets rest text one two held front back low there is_rest is_one is_front is_two is_back =
    let here = stretch_shown first octets in
    let next = stretch_shown second (behind_of first octets) in
    let is_next : stretch_shown second rest ≡ next = ap (stretch_shown second) is_rest in
    let room : held + (length here + length next) ≤ length text =
    omega (arith, low, ap length there, length-drop held text, shown_within first octets, shown_within second (behind_of first octets)) in
    let all : two ≡ put_in held (here ++ next) text =
    is_two
    ∙ ap (λ (n : ℕ). put_in (held + n) (stretch_shown second rest) one) is_front
    ∙ ap (λ (xs : List ℕ). put_in (held + length here) xs one) is_next
    ∙ ap (put_in (held + length here) next) is_one
    ∙ put_twice held here next text room in
    let count : front + back ≡ length (here ++ next) = omega (arith, is_front, is_back, ap length is_next, length-append here next) in
    cut_behind held (front + back) (here ++ next) text two (omega (arith, room, length-append here next)) all count
    ∙ ap (λ (xs : List ℕ). take held text ++ (here ++ xs)) (sym (append-nil next))
