-- Where the values of the fields lie, one after another.
use Rattle.std.proofs.Common.{◌≡◌, ℕ, ◌+◌, ◌-◌, ◌<◌, ◌≤◌, List, [], ◌∷◌, ◌++◌, length, take, drop, get_or, Some, refl, sym, ap, ◌∙◌, arith}
use Rattle.std.proofs.lemmas.List.{drop-drop, take_more}
use Rattle.sequences.specs.Octets.{AreOctets}
use Rattle.sequences.proofs.OctetLaws.{AreOctets-drop}
use Rattle.ipfix_template.specs.declared.field.FieldSpec.{FieldSpec}
use Rattle.ipfix_template.specs.declared.spans.Span.{Span}
use Rattle.ipfix_template.specs.Values.{IsText, span_at}
use Rattle.ipfix_template.specs.Shown.{octets_of, AreLaid}
use Rattle.ipfix_template.proofs.SplitLaws.{span_at-found}

-- one span more at the end
laid_push : (fs : List FieldSpec) (f : FieldSpec) (place : ℕ) (octets : List ℕ) (spans : List Span) (s : Span) (end last : ℕ) → AreLaid fs place octets spans end → end ≤ s.start → IsText f (take (s.start + s.length - end) (drop end octets)) (octets_of octets s) → last ≡ s.start + s.length → AreLaid (fs ++ f ∷ []) place octets (spans ++ s ∷ []) last
laid_push [] f place octets [] s end last laid le text is = rw laid (le, text, sym is)
laid_push [] f place octets (t ∷ spans) s end last laid le text is = absurd laid
laid_push (g ∷ fs) f place octets [] s end last laid le text is = absurd laid
laid_push (g ∷ fs) f place octets (t ∷ spans) s end last laid le text is =
    (laid.0, laid.1, laid_push fs f (t.start + t.length) octets spans s end last laid.2 le text is)

text_as : (f : FieldSpec) (octets value : List ℕ) (start len n : ℕ) → n ≡ start + len → value ≡ take len (drop start octets) → IsText f (take (start + len) octets) (take len (drop start octets)) → IsText f (take n octets) value
text_as f octets value start len n count same text = rw (count, same) text

-- one field more
pub one_laid : (fs : List FieldSpec) (f : FieldSpec) (octets : List ℕ) (spans : List Span) (i used start len : ℕ) → AreOctets octets → i < length fs → f ≡ get_or fs i f → span_at f (drop used octets) ≡ Some (start, len)
    → AreLaid (take i fs) 0 octets spans used
    → AreLaid (take (i + 1) fs) 0 octets (spans ++ record { start = used + start; length = len } ∷ []) (used + (start + len))
one_laid fs f octets spans i used start len fits lt is at laid =
    let found = span_at-found f (drop used octets) (AreOctets-drop used octets fits) (start, len) at in
    let value : take len (drop (used + start) octets) ≡ take len (drop start (drop used octets)) = rw (drop-drop start used octets) refl in
    let text = text_as f (drop used octets) (take len (drop (used + start) octets)) start len (used + start + len - used) (omega arith) value found in
    let front : take (i + 1) fs ≡ take i fs ++ f ∷ [] = take_more fs i f lt ∙ ap (λ (g : FieldSpec). take i fs ++ g ∷ []) (sym is) in
    rw front (laid_push (take i fs) f 0 octets spans (record { start = used + start; length = len }) used (used + (start + len)) laid (omega arith) text (omega arith))
