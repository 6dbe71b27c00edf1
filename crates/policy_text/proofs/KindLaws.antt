-- The kind of fault that each class of words gives.
use Rattle.std.proofs.Common.{◌≡◌, ◌⊎◌, inl, inr, ℕ, Bool, true, false, cond, eqb, leb, ltb, List, [], ◌∷◌, ◌++◌, map, Option, Some, None, Result, Ok, Err, refl, sym, ap, ◌∙◌, ⊎_elim, is_some}
use Rattle.std.specs.List.{slice_split}
use Rattle.std.specs.Str.{bytes_eq}
use Rattle.std.proofs.lemmas.Bool.{cases_Bool}
use Rattle.ipfix_element.specs.Element.{Element, IsElement}
use Rattle.ipfix_element.specs.Names.{element_name}
use Rattle.flow_prefix.specs.declared.prefix.Prefix.{Prefix}
use Rattle.flow_prefix.specs.declared.fault.Fault.{Fault as PrefixFault}
use Rattle.numerals.specs.Numerals.{number_of}
use Rattle.flow_prefix.specs.Reading.{prefix_of}
use Rattle.sequences.proofs.ResultLaws.{Err-Ok, same_Err, bind_Ok}
use Rattle.sequences.specs.Results.{◌>>=◌}
use Rattle.policy_text.specs.declared.fault.FaultKind.{FaultKind}
use Rattle.policy_text.specs.declared.fault.FaultKind.TheVariants.{BadName, BadNumber, BadPrefix, BadTruncate, UnknownAggregate, DoubleAggregate, BadKey}
use Rattle.policy_text.specs.Words.{Word}
use Rattle.policy_text.specs.Naming.{is_name}
use Rattle.policy_text.specs.Elements.{element_of}
use Rattle.policy_text.specs.Policies.{Aggregate as Definition}
use Rattle.policy_text.specs.Results.{or_fault}
use Rattle.policy_text.specs.Classes.{name, number, element, prefix, prefix_or_fault, star, some_of, or_star, with_key, add_piece, add_pieces, key_of, place_of, aggregate_place, new_name, interval, bits_within}
use Rattle.policy_text.specs.Grammar.{IsKey}
use Rattle.policy_text.specs.LineParts.{IsKeyFault}
use Rattle.policy_text.proofs.ElementLaws.{element_of-found, element_of-only}
use Rattle.policy_text.proofs.KeyStepLaws.{IsKeyAfter, as_key, step_by_step}
use Rattle.policy_text.proofs.SoundLaws.{or_fault-Ok, with_key-sound}
use Rattle.policy_text.proofs.PlaceLaws.{ok_or_err}

-- a step that failed
pub bound_err : {A B : Type 0} (r : Result A FaultKind) (f : A → Result B FaultKind) (kind : FaultKind) → (r >>= f) ≡ Err kind → (r ≡ Err kind) ⊎ ((x : A) × (r ≡ Ok x) × (f x ≡ Err kind))
bound_err (Ok x) f kind e = inr (x, refl, e)
bound_err {A} {B} (Err k) f kind e = inl (ap (λ (l : FaultKind). Err l) (same_Err k kind e))

guarded_err : {A : Type 0} (b : Bool) (k kind : FaultKind) (x : A) → cond b (Ok x) (Err k) ≡ Err kind → kind ≡ k
guarded_err true k kind x e = absurd (Err-Ok kind x (sym e))
guarded_err false k kind x e = sym (same_Err k kind e)

or_fault_err : {A : Type 0} (k kind : FaultKind) (o : Option A) → or_fault k o ≡ Err kind → kind ≡ k
or_fault_err k kind None e = sym (same_Err k kind e)
or_fault_err k kind (Some x) e = absurd (Err-Ok kind x (sym e))

some_err : {A : Type 0} (kind : FaultKind) (r : Result A FaultKind) → some_of r ≡ Err kind → r ≡ Err kind
some_err kind (Ok a) e = absurd (Err-Ok kind (Some a) (sym e))
some_err kind (Err k) e = ap (λ (l : FaultKind). Err l) (same_Err k kind e)

or_star_err : {A : Type 0} (class : Word → Result A FaultKind) (w : Word) (kind : FaultKind) → or_star class w ≡ Err kind → class w ≡ Err kind
unfolding or_star
or_star_err class w kind e =
    ⊎_elim (λ (t : bytes_eq w star ≡ true). absurd (Err-Ok kind None (sym (rw t at e))))
    (λ (f : bytes_eq w star ≡ false). some_err kind (class w) (rw f at e))
    (cases_Bool (bytes_eq w star))

name_kind : (w : Word) (kind : FaultKind) → name w ≡ Err kind → kind ≡ BadName
unfolding name
name_kind w kind e = guarded_err (is_name w) BadName kind w e

number_kind : (most : ℕ) (w : Word) (kind : FaultKind) → number most w ≡ Err kind → kind ≡ BadNumber
unfolding number
number_kind most w kind e = or_fault_err BadNumber kind (number_of most w) e

pub element_kind : (w : Word) (kind : FaultKind) → element w ≡ Err kind → kind ≡ BadName
unfolding element
element_kind w kind e = or_fault_err BadName kind (element_of w) e

prefix_or_fault_kind : (r : Result Prefix PrefixFault) (kind : FaultKind) → prefix_or_fault r ≡ Err kind → kind ≡ BadPrefix
prefix_or_fault_kind (Ok p) kind e = absurd (Err-Ok kind p (sym e))
prefix_or_fault_kind (Err fault) kind e = sym (same_Err BadPrefix kind e)

prefix_kind : (w : Word) (kind : FaultKind) → prefix w ≡ Err kind → kind ≡ BadPrefix
unfolding prefix
prefix_kind w kind e = prefix_or_fault_kind (prefix_of w) kind e

pub who_kind : (w : Word) (kind : FaultKind) → or_star name w ≡ Err kind → kind ≡ BadName
who_kind w kind e = name_kind w kind (or_star_err name w kind e)

pub domain_kind : (w : Word) (kind : FaultKind) → or_star (number 4294967295) w ≡ Err kind → kind ≡ BadNumber
domain_kind w kind e = number_kind 4294967295 w kind (or_star_err (number 4294967295) w kind e)

pub network_kind : (w : Word) (kind : FaultKind) → or_star prefix w ≡ Err kind → kind ≡ BadPrefix
network_kind w kind e = prefix_kind w kind (or_star_err prefix w kind e)

pub element_or_star_kind : (w : Word) (kind : FaultKind) → or_star element w ≡ Err kind → kind ≡ BadName
element_or_star_kind w kind e = element_kind w kind (or_star_err element w kind e)

pub grace_kind : (w : Word) (kind : FaultKind) → number 86400 w ≡ Err kind → kind ≡ BadNumber
grace_kind w kind e = number_kind 86400 w kind e

pub interval_kind : (w : Word) (kind : FaultKind) → interval w ≡ Err kind → kind ≡ BadNumber
unfolding interval
interval_kind w kind e =
    ⊎_elim (λ (first : number 86400 w ≡ Err kind). number_kind 86400 w kind first)
    (λ (second : (n : ℕ) × (number 86400 w ≡ Ok n) × (cond (ltb n 1) (Err BadNumber) (Ok n) ≡ Err kind)). low (ltb second.0 1) second.0 second.2)
    (bound_err (number 86400 w) (λ seconds. cond (ltb seconds 1) (Err BadNumber) (Ok seconds)) kind e)
  where
    low : (b : Bool) (n : ℕ) → cond b (Err BadNumber) (Ok n) ≡ Err kind → kind ≡ BadNumber
    low true n e = sym (same_Err BadNumber kind e)
    low false n e = absurd (Err-Ok kind n (sym e))

bits_by : (width : ℕ) (o : Option ℕ) (kind : FaultKind) → (or_fault BadNumber o >>= λ bits. cond (leb bits width) (Ok bits) (Err BadTruncate)) ≡ Err kind → kind ≡ cond (is_some o) BadTruncate BadNumber
bits_by width None kind e = sym (same_Err BadNumber kind e)
bits_by width (Some n) kind e = guarded_err (leb n width) BadTruncate kind n e

pub bits_kind : (width : ℕ) (w : Word) (kind : FaultKind) → bits_within width w ≡ Err kind → kind ≡ cond (is_some (number_of 999 w)) BadTruncate BadNumber
unfolding bits_within number
bits_kind width w kind e = bits_by width (number_of 999 w) kind e

place_by : (named : Bool) (o : Option ℕ) (kind : FaultKind) → cond named (or_fault UnknownAggregate o) (Err BadName) ≡ Err kind → kind ≡ cond named UnknownAggregate BadName
place_by true o kind e = or_fault_err UnknownAggregate kind o e
place_by false o kind e = sym (same_Err BadName kind e)

pub place_kind : (aggregates : List Definition) (w : Word) (kind : FaultKind) → aggregate_place aggregates w ≡ Err kind → kind ≡ cond (is_name w) UnknownAggregate BadName
unfolding aggregate_place
place_kind aggregates w kind e = place_by (is_name w) (place_of aggregates w) kind e

new_by : (named taken : Bool) (w : Word) (kind : FaultKind) → cond named (cond taken (Err DoubleAggregate) (Ok w)) (Err BadName) ≡ Err kind → kind ≡ cond named DoubleAggregate BadName
new_by true true w kind e = sym (same_Err DoubleAggregate kind e)
new_by true false w kind e = absurd (Err-Ok kind w (sym e))
new_by false taken w kind e = sym (same_Err BadName kind e)

pub new_name_kind : (aggregates : List Definition) (w : Word) (kind : FaultKind) → new_name aggregates w ≡ Err kind → kind ≡ cond (is_name w) DoubleAggregate BadName
unfolding new_name
new_name_kind aggregates w kind e = new_by (is_name w) (is_some (place_of aggregates w)) w kind e

-- the first faulty piece behind those before it
record PieceFault (before : List Element) (pieces : List Word) (kind : FaultKind) : Type 0 where
  key : List Element
  piece : Word
  others : List Word
  pieces_are : pieces ≡ map element_name key ++ piece ∷ others
  begun : IsKeyAfter before key
  faulty : (((e : Element) → IsElement e → piece ≡ element_name e → ⊥) × (kind ≡ BadName)) ⊎ ((e : Element) × IsElement e × (piece ≡ element_name e) × (IsKeyAfter before (key ++ e ∷ []) → ⊥) × (kind ≡ BadKey))

pub element_here : (w : Word) (e : Element) → IsElement e → w ≡ element_name e → element w ≡ Ok e
unfolding element
element_here w e ok is = rw (element_of-only w e ok is) refl

pub element_word : (w : Word) (e : Element) → element w ≡ Ok e → IsElement e × (w ≡ element_name e)
unfolding element
element_word w e h = element_of-found w e (or_fault-Ok BadName (element_of w) e h)

pub with_key_kind : (key : List Element) (e : Element) (kind : FaultKind) → with_key key e ≡ Err kind → kind ≡ BadKey
unfolding with_key
with_key_kind key e kind h = guarded_err _ BadKey kind (key ++ e ∷ []) h

no_element : (before : List Element) (piece : Word) (pieces : List Word) (kind : FaultKind) → element piece ≡ Err kind → PieceFault before (piece ∷ pieces) kind
no_element before piece pieces kind e = record {
  key = [];
  piece = piece;
  others = pieces;
  pieces_are = refl;
  begun = tt;
  faulty = inl (λ x ok is. ok_or_err (element piece) kind x e (element_here piece x ok is), element_kind piece kind e);
}

no_key : (before : List Element) (piece : Word) (pieces : List Word) (x : Element) (kind : FaultKind) → element piece ≡ Ok x → with_key before x ≡ Err kind → PieceFault before (piece ∷ pieces) kind
no_key before piece pieces x kind read e =
    let named = element_word piece x read in
    record {
      key = [];
      piece = piece;
      others = pieces;
      pieces_are = refl;
      begun = tt;
      faulty = inr (x, named.0, named.1, λ (after : IsKeyAfter before (x ∷ [])). ok_or_err (with_key before x) kind (before ++ x ∷ []) e after.1, with_key_kind before x kind e);
    }

later_piece : (before : List Element) (piece : Word) (pieces : List Word) (x : Element) (kind : FaultKind) → element piece ≡ Ok x → with_key before x ≡ Ok (before ++ x ∷ []) → PieceFault (before ++ x ∷ []) pieces kind → PieceFault before (piece ∷ pieces) kind
later_piece before piece pieces x kind read kept p =
    let named = element_word piece x read in
    record {
      key = x ∷ p.key;
      piece = p.piece;
      others = p.others;
      pieces_are = ap (λ w. w ∷ pieces) named.1 ∙ ap (λ ws. element_name x ∷ ws) p.pieces_are;
      begun = (named.0, kept, p.begun);
      faulty =
          ⊎_elim (λ (unnamed : ((e : Element) → IsElement e → p.piece ≡ element_name e → ⊥) × (kind ≡ BadName)). inl unnamed)
          (λ (refused : (e : Element) × IsElement e × (p.piece ≡ element_name e) × (IsKeyAfter (before ++ x ∷ []) (p.key ++ e ∷ []) → ⊥) × (kind ≡ BadKey)).
          inr (refused.0, refused.1, refused.2, λ (after : IsKeyAfter before (x ∷ (p.key ++ refused.0 ∷ []))). refused.3 after.2, refused.4))
          p.faulty;
    }

piece_fault : (before : List Element) (pieces : List Word) (kind : FaultKind) → add_pieces before pieces ≡ Err kind → PieceFault before pieces kind
unfolding add_pieces add_piece
piece_fault before [] kind e = absurd (Err-Ok kind before (sym e))
piece_fault before (piece ∷ pieces) kind e =
    ⊎_elim (λ (first : (element piece >>= λ x. with_key before x) ≡ Err kind).
    ⊎_elim (λ (unnamed : element piece ≡ Err kind). no_element before piece pieces kind unnamed)
    (λ (named : (x : Element) × (element piece ≡ Ok x) × (with_key before x ≡ Err kind)). no_key before piece pieces named.0 kind named.1 named.2)
    (bound_err (element piece) (λ x. with_key before x) kind first))
    (λ (then : (more : List Element) × ((element piece >>= λ x. with_key before x) ≡ Ok more) × (add_pieces more pieces ≡ Err kind)).
    let read = bind_Ok (element piece) (λ x. with_key before x) then.0 then.1 in
    let added = with_key-sound before then.0 read.0 read.2 in
    later_piece before piece pieces read.0 kind read.1 added.again (piece_fault (before ++ read.0 ∷ []) pieces kind (ap (λ l. add_pieces l pieces) added.more_is ∙ then.2)))
    (bound_err (element piece >>= λ x. with_key before x) (λ more. add_pieces more pieces) kind e)

pub key_kind : (w : Word) (kind : FaultKind) → key_of w ≡ Err kind → IsKeyFault w kind
unfolding key_of
key_kind w kind e =
    let p = piece_fault [] (slice_split (λ c. eqb c 44) w) kind e in
    record {
      key = p.key;
      piece = p.piece;
      others = p.others;
      pieces_are = p.pieces_are;
      begun = as_key p.key p.begun;
      faulty =
          ⊎_elim (λ (unnamed : ((e : Element) → IsElement e → p.piece ≡ element_name e → ⊥) × (kind ≡ BadName)). inl unnamed)
          (λ (refused : (e : Element) × IsElement e × (p.piece ≡ element_name e) × (IsKeyAfter [] (p.key ++ e ∷ []) → ⊥) × (kind ≡ BadKey)).
          inr (refused.0, refused.1, refused.2, λ (whole : IsKey (p.key ++ refused.0 ∷ [])). refused.3 (step_by_step (p.key ++ refused.0 ∷ []) whole), refused.4))
          p.faulty;
    }
