-- The walk over gaps answers what the walk over fields does.
use Rattle.std.proofs.Common.{◌≡◌, ℕ, ◌+◌, ◌<◌, ◌≤◌, Bool, true, false, cond, eqb, leb, List, [], ◌∷◌, length, drop, get_or, Option, Some, None, refl, sym, ap, ◌∙◌, arith, length-drop}
use Rattle.std.specs.Prelude.{◌&&◌}
use Rattle.std.proofs.lemmas.Bool.{leb-true, leb-false, le-leb, lt-leb}
use Rattle.std.proofs.lemmas.List.{drop-drop, drop_all, drop_more}
use Rattle.sequences.specs.Options.{◌>>=◌}
use Rattle.sequences.proofs.ListLaws.{drop_read}
use Rattle.ipfix_octets.specs.Variable.{varlen_at}
use Rattle.ipfix_template.specs.declared.field.FieldSpec.{FieldSpec}
use Rattle.ipfix_template.specs.Template.{is_variable}
use Rattle.ipfix_template.specs.Values.{extent_at}
use Rattle.ipfix_template.proofs.ExtentLaws.{with_extent}
use Rattle.ipfix_records.specs.Gaps.{first_gap, gaps_behind, start_of, walk_at}

-- ---- gaps, field by field

pub fixed_first : (fs : List FieldSpec) (i : ℕ) (f : FieldSpec) → i < length fs → f ≡ get_or fs i f → is_variable f ≡ false → first_gap (drop i fs) ≡ f.length + first_gap (drop (i + 1) fs)
fixed_first fs i f lt is fixed = rw (drop_read fs i f lt is, fixed) refl

pub variable_first : (fs : List FieldSpec) (i : ℕ) (f : FieldSpec) → i < length fs → f ≡ get_or fs i f → is_variable f ≡ true → first_gap (drop i fs) ≡ 0
variable_first fs i f lt is variable = rw (drop_read fs i f lt is, variable) refl

pub none_first : (fs : List FieldSpec) (i : ℕ) → length fs ≤ i → first_gap (drop i fs) ≡ 0
none_first fs i le = rw (drop_all i fs le) refl

pub fixed_behind : (fs : List FieldSpec) (i : ℕ) (f : FieldSpec) → i < length fs → f ≡ get_or fs i f → is_variable f ≡ false → gaps_behind (drop i fs) ≡ gaps_behind (drop (i + 1) fs)
fixed_behind fs i f lt is fixed = rw (drop_read fs i f lt is, fixed) refl

pub variable_behind : (fs : List FieldSpec) (i : ℕ) (f : FieldSpec) → i < length fs → f ≡ get_or fs i f → is_variable f ≡ true → gaps_behind (drop i fs) ≡ first_gap (drop (i + 1) fs) ∷ gaps_behind (drop (i + 1) fs)
variable_behind fs i f lt is variable = rw (drop_read fs i f lt is, variable) refl

pub none_behind : (fs : List FieldSpec) (i : ℕ) → length fs ≤ i → gaps_behind (drop i fs) ≡ []
none_behind fs i le = rw (drop_all i fs le) refl

-- ---- a gap in two parts

abbrev extent_with : ℕ → Bool → Option (ℕ × Bool)
extent_with used short = Some (used, short)

-- what a walk answers behind a value
abbrev behind : ℕ → ℕ → Bool → Option (ℕ × Bool) → Option (ℕ × Bool)
behind before size short o = o >>= λ m. extent_with (before + (size + m.0)) (short && m.1)

-- and behind one that may not be there
abbrev behind_span : ℕ → ℕ → List ℕ → List ℕ → Option (ℕ × ℕ) → Option (ℕ × Bool)
behind_span before gap gaps rest span = span >>= λ s. behind before (s.0 + s.1) (eqb s.0 (start_of s.1)) (walk_at gap gaps (drop (s.0 + s.1) rest))

behind_moved : (n k size : ℕ) (short : Bool) (o : Option (ℕ × Bool)) → with_extent n true (behind k size short o) ≡ behind (n + k) size short o
behind_moved n k size short None = refl
behind_moved n k size short (Some m) = ap (λ (x : ℕ). extent_with x (short && m.1)) (omega arith)

span_moved : (n k gap : ℕ) (gaps rest : List ℕ) (span : Option (ℕ × ℕ)) → with_extent n true (behind_span k gap gaps rest span) ≡ behind_span (n + k) gap gaps rest span
span_moved n k gap gaps rest None = refl
span_moved n k gap gaps rest (Some s) = behind_moved n k (s.0 + s.1) (eqb s.0 (start_of s.1)) (walk_at gap gaps (drop (s.0 + s.1) rest))

enough_moved : (n k : ℕ) (octets : List ℕ) → n ≤ length octets → (b : Bool) → leb (n + k) (length octets) ≡ b → leb k (length (drop n octets)) ≡ b
enough_moved n k octets low true e = le-leb _ _ (omega (arith, leb-true _ _ e, length-drop n octets, low))
enough_moved n k octets low false e = lt-leb _ _ (omega (arith, leb-false _ _ e, length-drop n octets, low))

last_by : (n k : ℕ) (b : Bool) → with_extent n true (cond b (extent_with k true) None) ≡ cond b (extent_with (n + k) true) None
last_by n k true = refl
last_by n k false = refl

next_by : (n k gap : ℕ) (gaps rest : List ℕ) (span : Option (ℕ × ℕ)) (b : Bool) → with_extent n true (cond b (behind_span k gap gaps rest span) None) ≡ cond b (behind_span (n + k) gap gaps rest span) None
next_by n k gap gaps rest span true = span_moved n k gap gaps rest span
next_by n k gap gaps rest span false = refl

-- the octets of a gap may be passed over in two steps
pub gap_parts : (n k : ℕ) (gaps octets : List ℕ) → n ≤ length octets → with_extent n true (walk_at k gaps (drop n octets)) ≡ walk_at (n + k) gaps octets
unfolding walk_at
gap_parts n k [] octets low =
    rw (enough_moved n k octets low (leb (n + k) (length octets)) refl) (last_by n k (leb (n + k) (length octets)))
gap_parts n k (gap ∷ gaps) octets low =
    rw (enough_moved n k octets low (leb (n + k) (length octets)) refl, drop-drop k n octets) (next_by n k gap gaps (drop (n + k) octets) (varlen_at (drop (n + k) octets)) (leb (n + k) (length octets)))

-- a gap that runs past the end
pub gap_past : (first : ℕ) (gaps octets : List ℕ) → length octets < first → walk_at first gaps octets ≡ None
unfolding walk_at
gap_past first [] octets more = rw (lt-leb first (length octets) more) refl
gap_past first (gap ∷ gaps) octets more = rw (lt-leb first (length octets) more) refl

-- ---- the walk over fields

abbrev FieldsWalk : List FieldSpec → List ℕ → Type 0
FieldsWalk fs rest = extent_at fs rest ≡ walk_at (first_gap fs) (gaps_behind fs) rest

-- what the fields behind a value answer
abbrev others_behind : ℕ → Bool → Option (ℕ × Bool) → Option (ℕ × Bool)
others_behind size short o = o >>= λ m. extent_with (size + m.0) (short && m.1)

same_behind : (size : ℕ) (short : Bool) (o : Option (ℕ × Bool)) → others_behind size short o ≡ behind 0 size short o
same_behind size short None = refl
same_behind size short (Some m) = ap (λ (x : ℕ). extent_with x (short && m.1)) (omega arith)

variable_by : (fs : List FieldSpec) (octets : List ℕ) (span : Option (ℕ × ℕ)) → ((rest : List ℕ) → FieldsWalk fs rest)
    → (span >>= λ s. others_behind (s.0 + s.1) (eqb s.0 (start_of s.1)) (extent_at fs (drop (s.0 + s.1) octets))) ≡ behind_span 0 (first_gap fs) (gaps_behind fs) octets span
variable_by fs octets None same = refl
variable_by fs octets (Some s) same =
    rw (same (drop (s.0 + s.1) octets)) (same_behind (s.0 + s.1) (eqb s.0 (start_of s.1)) (walk_at (first_gap fs) (gaps_behind fs) (drop (s.0 + s.1) octets)))

variable_walks : (fs : List FieldSpec) (octets : List ℕ) → ((rest : List ℕ) → FieldsWalk fs rest)
    → (varlen_at octets >>= λ s. others_behind (s.0 + s.1) (eqb s.0 (start_of s.1)) (extent_at fs (drop (s.0 + s.1) octets))) ≡ walk_at 0 (first_gap fs ∷ gaps_behind fs) octets
unfolding walk_at
variable_walks fs octets same = variable_by fs octets (varlen_at octets) same ∙ rw (le-leb 0 (length octets) (omega arith)) refl

fixed_behind_by : (n : ℕ) (o : Option (ℕ × Bool)) → others_behind (0 + n) (eqb 0 0) o ≡ with_extent n true o
fixed_behind_by n None = refl
fixed_behind_by n (Some m) = ap (λ (x : ℕ). extent_with x m.1) (omega arith)

-- where a value of fixed length stands, if there are enough octets
abbrev fixed_span : ℕ → Bool → Option (ℕ × ℕ)
fixed_span n enough = cond enough (Some (0, n)) None

fixed_by : (n : ℕ) (fs : List FieldSpec) (octets : List ℕ) → ((rest : List ℕ) → FieldsWalk fs rest) → (enough : Bool) → leb n (length octets) ≡ enough
    → (fixed_span n enough >>= λ s. others_behind (s.0 + s.1) (eqb s.0 0) (extent_at fs (drop (s.0 + s.1) octets))) ≡ walk_at (n + first_gap fs) (gaps_behind fs) octets
fixed_by n fs octets same true e =
    let none : 0 + n ≡ n = omega arith in
    ap (λ (k : ℕ). others_behind (0 + n) (eqb 0 0) (extent_at fs (drop k octets))) none
    ∙ ap (others_behind (0 + n) (eqb 0 0)) (same (drop n octets))
    ∙ fixed_behind_by n (walk_at (first_gap fs) (gaps_behind fs) (drop n octets))
    ∙ gap_parts n (first_gap fs) (gaps_behind fs) octets (leb-true _ _ e)
fixed_by n fs octets same false e =
    sym (gap_past (n + first_gap fs) (gaps_behind fs) octets (omega (arith, leb-false _ _ e)))

-- how far fields reach is how far their gaps do, with the values of variable length between them
pub fields_walk : (fs : List FieldSpec) (octets : List ℕ) → extent_at fs octets ≡ walk_at (first_gap fs) (gaps_behind fs) octets
unfolding extent_at walk_at
fields_walk [] octets = rw (le-leb 0 (length octets) (omega arith)) refl
fields_walk (f ∷ fs) octets =
    elim (is_variable f) as
    (λ b. (cond b (varlen_at octets) (fixed_span f.length (leb f.length (length octets))) >>= λ s. others_behind (s.0 + s.1) (eqb s.0 (cond b (start_of s.1) 0)) (extent_at fs (drop (s.0 + s.1) octets)))
    ≡ walk_at (cond b 0 (f.length + first_gap fs)) (cond b (first_gap fs ∷ gaps_behind fs) (gaps_behind fs)) octets)
    [ true ↦ variable_walks fs octets (λ rest. fields_walk fs rest) | false ↦ fixed_by f.length fs octets (λ rest. fields_walk fs rest) (leb f.length (length octets)) refl ]

-- ---- one gap after another

-- the first gap is there
pub walk_begins : (first : ℕ) (gaps octets : List ℕ) → first ≤ length octets → with_extent first true (walk_at 0 gaps (drop first octets)) ≡ walk_at first gaps octets
walk_begins first gaps octets low =
    gap_parts first 0 gaps octets low ∙ ap (λ (n : ℕ). walk_at n gaps octets) (omega arith)

at_value : (gap : ℕ) (gaps rest : List ℕ) (start len : ℕ) → varlen_at rest ≡ Some (start, len)
    → walk_at 0 (gap ∷ gaps) rest ≡ behind 0 (start + len) (eqb start (start_of len)) (walk_at gap gaps (drop (start + len) rest))
unfolding walk_at
at_value gap gaps rest start len at = rw (le-leb 0 (length rest) (omega arith), at) refl

no_value : (gap : ℕ) (gaps rest : List ℕ) → varlen_at rest ≡ None → walk_at 0 (gap ∷ gaps) rest ≡ None
unfolding walk_at
no_value gap gaps rest at = rw (le-leb 0 (length rest) (omega arith), at) refl

pushed : (used size gap : ℕ) (short b : Bool) (o : Option (ℕ × Bool)) → with_extent (used + size + gap) (short && b) o ≡ with_extent used short (behind 0 size b (with_extent gap true o))
pushed used size gap short b None = refl
pushed used size gap true true (Some m) = ap (λ (x : ℕ). extent_with x m.1) (omega arith)
pushed used size gap true false (Some m) = ap (λ (x : ℕ). extent_with x false) (omega arith)
pushed used size gap false b (Some m) = ap (λ (x : ℕ). extent_with x false) (omega arith)

-- where the walk stands behind so many gaps, after so many octets
pub record IsWalked (gaps octets : List ℕ) (i used : ℕ) (short : Bool) (whole : Option (ℕ × Bool)) : Type 0 where
  pub within : used ≤ length octets
  pub walked : with_extent used short (walk_at 0 (drop i gaps) (drop used octets)) ≡ whole

-- a value of variable length and the gap behind it
pub one_walked : (gaps octets rest : List ℕ) (i used start len : ℕ) (short : Bool) (whole : Option (ℕ × Bool)) → i < length gaps → rest ≡ drop used octets → varlen_at rest ≡ Some (start, len) → start + len ≤ length rest
    → used + start + len + get_or gaps i 0 ≤ length octets → IsWalked gaps octets i used short whole
    → IsWalked gaps octets (i + 1) (used + start + len + get_or gaps i 0) (short && eqb start (start_of len)) whole
one_walked gaps octets rest i used start len short whole lt left at inside enough was =
    let gap = get_or gaps i 0 in
    let b = eqb start (start_of len) in
    let others = drop (i + 1) gaps in
    let size = start + len in
    let here : walk_at 0 (drop i gaps) (drop used octets) ≡ behind 0 size b (walk_at gap others (drop size (drop used octets))) =
    ap (λ g. walk_at 0 g (drop used octets)) (drop_more gaps i 0 lt) ∙ at_value gap others (drop used octets) start len (ap varlen_at (sym left) ∙ at) in
    let parts : with_extent gap true (walk_at 0 others (drop gap (drop size (drop used octets)))) ≡ walk_at gap others (drop size (drop used octets)) =
    walk_begins gap others (drop size (drop used octets)) (omega (arith, length-drop size (drop used octets), length-drop used octets, enough)) in
    let place : drop gap (drop size (drop used octets)) ≡ drop (used + size + gap) octets =
    ap (drop gap) (drop-drop size used octets) ∙ drop-drop gap (used + size) octets in
    let end : used + start + len + gap ≡ used + size + gap = omega arith in
    let walked : with_extent (used + size + gap) (short && b) (walk_at 0 others (drop (used + size + gap) octets)) ≡ whole =
    ap (λ r. with_extent (used + size + gap) (short && b) (walk_at 0 others r)) (sym place)
    ∙ pushed used size gap short b (walk_at 0 others (drop gap (drop size (drop used octets))))
    ∙ ap (λ o. with_extent used short (behind 0 size b o)) parts
    ∙ ap (with_extent used short) (sym here) ∙ was.walked in
    record {
      within = enough;
      walked = rw end walked;
    }

-- a value that isn't there
pub no_more_walked : (gaps octets rest : List ℕ) (i used : ℕ) (short : Bool) (whole : Option (ℕ × Bool)) → i < length gaps → rest ≡ drop used octets → varlen_at rest ≡ None → IsWalked gaps octets i used short whole → whole ≡ None
no_more_walked gaps octets rest i used short whole lt left at was =
    sym was.walked ∙ ap (with_extent used short) (ap (λ g. walk_at 0 g (drop used octets)) (drop_more gaps i 0 lt)
    ∙ no_value (get_or gaps i 0) (drop (i + 1) gaps) (drop used octets) (ap varlen_at (sym left) ∙ at))

-- a gap that runs past the end
pub past_walked : (gaps octets rest : List ℕ) (i used start len : ℕ) (short : Bool) (whole : Option (ℕ × Bool)) → i < length gaps → rest ≡ drop used octets → varlen_at rest ≡ Some (start, len)
    → length octets < used + start + len + get_or gaps i 0 → start + len ≤ length rest → IsWalked gaps octets i used short whole → whole ≡ None
past_walked gaps octets rest i used start len short whole lt left at more inside was =
    let gap = get_or gaps i 0 in
    let others = drop (i + 1) gaps in
    let past : walk_at gap others (drop (start + len) (drop used octets)) ≡ None =
    gap_past gap others (drop (start + len) (drop used octets)) (omega (arith, length-drop (start + len) (drop used octets), length-drop used octets, more, inside, ap length left)) in
    sym was.walked ∙ ap (with_extent used short) (ap (λ g. walk_at 0 g (drop used octets)) (drop_more gaps i 0 lt)
    ∙ at_value gap others (drop used octets) start len (ap varlen_at (sym left) ∙ at)
    ∙ ap (behind 0 (start + len) (eqb start (start_of len))) past)

all_by : (used : ℕ) (short : Bool) → extent_with (used + 0) (short && true) ≡ extent_with used short
all_by used true = ap (λ (k : ℕ). extent_with k true) (omega arith)
all_by used false = ap (λ (k : ℕ). extent_with k false) (omega arith)

walk_ends : (rest : List ℕ) → walk_at 0 [] rest ≡ extent_with 0 true
unfolding walk_at
walk_ends rest = rw (le-leb 0 (length rest) (omega arith)) refl

-- all gaps were passed over
pub all_walked : (gaps octets : List ℕ) (i used : ℕ) (short : Bool) (whole : Option (ℕ × Bool)) → length gaps ≤ i → IsWalked gaps octets i used short whole → Some (used, short) ≡ whole
all_walked gaps octets i used short whole le was =
    sym (all_by used short)
    ∙ ap (with_extent used short) (sym (ap (λ g. walk_at 0 g (drop used octets)) (drop_all i gaps le) ∙ walk_ends (drop used octets)))
    ∙ was.walked
