-- How the values of the fields are found one after another.
use Rattle.std.proofs.Common.{◌≡◌, ℕ, ◌+◌, ◌<◌, ◌≤◌, List, [], ◌∷◌, ◌++◌, length, take, drop, get_or, Option, Some, None, refl, sym, ap, ◌∙◌}
use Rattle.std.proofs.lemmas.List.{drop-drop, drop_all, map_push, append-nil}
use Rattle.std.proofs.lemmas.List.Elements.{All-push}
use Rattle.sequences.specs.Options.{◌>>=◌, with_found}
use Rattle.sequences.proofs.ListLaws.{drop_read}
use Rattle.sequences.proofs.OptionLaws.{with_found-nil, with_found_push}
use Rattle.ipfix_template.specs.declared.field.FieldSpec.{FieldSpec}
use Rattle.ipfix_template.specs.declared.spans.Span.{Span}
use Rattle.ipfix_template.specs.Values.{span_at, values_at}
use Rattle.ipfix_template.specs.Shown.{octets_of, values_shown, AreWithin}

-- nothing is found before the first field
pub none_found : (fs : List FieldSpec) (octets : List ℕ) → with_found [] (values_at fs octets) ≡ values_at fs octets
none_found fs octets = with_found-nil (values_at fs octets)

at_field : (fs : List FieldSpec) (f : FieldSpec) (octets : List ℕ) (start len : ℕ) → span_at f octets ≡ Some (start, len) → values_at (f ∷ fs) octets ≡ (values_at fs (drop (start + len) octets) >>= λ o. Some (take len (drop start octets) ∷ o.0, o.1))
unfolding values_at
at_field fs f octets start len at = rw at refl

no_field : (fs : List FieldSpec) (f : FieldSpec) (octets : List ℕ) → span_at f octets ≡ None → values_at (f ∷ fs) octets ≡ None
unfolding values_at
no_field fs f octets at = rw at refl

-- one field more
pub one_found : (fs : List FieldSpec) (f : FieldSpec) (octets : List ℕ) (spans : List Span) (i used start len : ℕ) (whole : Option (List (List ℕ) × List ℕ)) → i < length fs → f ≡ get_or fs i f → span_at f (drop used octets) ≡ Some (start, len)
    → with_found (values_shown octets spans) (values_at (drop i fs) (drop used octets)) ≡ whole
    → with_found (values_shown octets (spans ++ record { start = used + start; length = len } ∷ [])) (values_at (drop (i + 1) fs) (drop (used + (start + len)) octets)) ≡ whole
one_found fs f octets spans i used start len whole lt is at e =
    let shown : values_shown octets (spans ++ record { start = used + start; length = len } ∷ []) ≡ values_shown octets spans ++ take len (drop (used + start) octets) ∷ [] = map_push (octets_of octets) spans (record { start = used + start; length = len }) in
    let others = values_at (drop (i + 1) fs) (drop (used + (start + len)) octets) in
    let value = take len (drop (used + start) octets) in
    let at_once : values_at (drop i fs) (drop used octets) ≡ (others >>= λ o. Some (value ∷ o.0, o.1)) =
    ap (λ g. values_at g (drop used octets)) (drop_read fs i f lt is) ∙ at_field (drop (i + 1) fs) f (drop used octets) start len at
    ∙ rw (drop-drop (start + len) used octets, drop-drop start used octets) refl in
    rw shown (with_found_push (values_shown octets spans) value others ∙ ap (with_found (values_shown octets spans)) (sym at_once) ∙ e)

-- a field whose value isn't there
pub none_more : (fs : List FieldSpec) (f : FieldSpec) (octets : List ℕ) (before : List (List ℕ)) (i used : ℕ) (whole : Option (List (List ℕ) × List ℕ)) → i < length fs → f ≡ get_or fs i f → span_at f (drop used octets) ≡ None
    → with_found before (values_at (drop i fs) (drop used octets)) ≡ whole → whole ≡ None
none_more fs f octets before i used whole lt is at e =
    sym e ∙ ap (with_found before) (ap (λ g. values_at g (drop used octets)) (drop_read fs i f lt is) ∙ no_field (drop (i + 1) fs) f (drop used octets) at)

-- all fields were found
pub all_found : (fs : List FieldSpec) (octets : List ℕ) (before : List (List ℕ)) (i used : ℕ) (whole : Option (List (List ℕ) × List ℕ)) → length fs ≤ i → with_found before (values_at (drop i fs) (drop used octets)) ≡ whole → Some (before, drop used octets) ≡ whole
unfolding values_at
all_found fs octets before i used whole le e =
    let none : drop i fs ≡ [] = drop_all i fs le in
    let here : with_found before (values_at [] (drop used octets)) ≡ Some (before, drop used octets) = (let pair : List (List ℕ) → Option (List (List ℕ) × List ℕ) = λ vs. Some (vs, drop used octets) in ap pair (append-nil before)) in
    sym here ∙ ap (λ g. with_found before (values_at g (drop used octets))) (sym none) ∙ e

-- one span more that lies within
pub within_more : (octets : List ℕ) (spans : List Span) (span : Span) → span.start + span.length ≤ length octets → AreWithin octets spans → AreWithin octets (spans ++ span ∷ [])
within_more octets spans span inside all = All-push (λ s. s.start + s.length ≤ length octets) spans span all inside
