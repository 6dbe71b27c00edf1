-- No line is that of two entries.
use Rattle.std.proofs.Common.{◌≡◌, ℕ, ◌<◌, ◌≤◌, true, false, eqb, List, [], ◌∷◌, length, get_or, drop, map, cond, refl, sym, ap, ◌∙◌, arith, length-append}
use Rattle.std.specs.List.{AllByRecursion, join_with_byte}
use Rattle.std.specs.Char.{digit_value}
use Rattle.std.specs.Fmt.{decimal}
use Rattle.std.proofs.lemmas.Fmt.{decimal_injective}
use Rattle.std.proofs.lemmas.Bool.{and_from}
use Rattle.std.proofs.lemmas.List.{append_cancel_right}
use Rattle.disclosure_audit.specs.declared.reason.Reason.{Reason}
use Rattle.disclosure_audit.specs.declared.reason.Reason.TheVariants.{Rule, ScopeLost, Empty, NoTime, NoKey, Late}
use Rattle.disclosure_audit.specs.declared.entry.RemovedField.{RemovedField}
use Rattle.disclosure_audit.specs.declared.entry.What.{What}
use Rattle.disclosure_audit.specs.declared.entry.What.TheVariants.{Withheld, Aggregated, Removed, Cut}
use Rattle.disclosure_audit.specs.declared.entry.AuditEntry.{AuditEntry}
use Rattle.disclosure_audit.specs.Lines.{reason_word, field_text, fields_text, what_words, entry_words}
use Rattle.disclosure_audit.specs.Laws.{IsField, IsWhat, IsAuditEntry, OneEntry}
use Rattle.disclosure_audit.proofs.SplitLaws.{lacks, all_lack, joined_same, lacks-append, lacks-joined, lacks-decimal}

abbrev word_at : ℕ → List (List ℕ) → List ℕ
word_at i words = get_or words i []

-- ---- reasons

-- the reason by its word's length and first letter
abbrev reason_from : List ℕ → Reason
reason_from word = cond (eqb (length word) 10) ScopeLost (cond (eqb (length word) 5) Empty (cond (eqb (length word) 7) NoTime (cond (eqb (length word) 6) NoKey (cond (eqb (get_or word 0 0) 108) Late Rule))))

reason_back : (r : Reason) → reason_from (reason_word r) ≡ r
reason_back Rule = refl
reason_back ScopeLost = refl
reason_back Empty = refl
reason_back NoTime = refl
reason_back NoKey = refl
reason_back Late = refl

reason_same : (q r : Reason) → reason_word q ≡ reason_word r → q ≡ r
reason_same q r e = sym (reason_back q) ∙ ap reason_from e ∙ reason_back r

reason_plain : (r : Reason) → lacks 32 (reason_word r) ≡ true
reason_plain Rule = refl
reason_plain ScopeLost = refl
reason_plain Empty = refl
reason_plain NoTime = refl
reason_plain NoKey = refl
reason_plain Late = refl

-- ---- removed fields

field_lacks : (c : ℕ) (f : RemovedField) → IsField f → 10 ≤ digit_value c → eqb 58 c ≡ false → lacks c (field_text f) ≡ true
field_lacks c f ok high other =
    lacks-append c (decimal f.place) (58 ∷ decimal f.rule) (lacks-decimal c f.place high (omega (arith, ok.place))) (rw other (lacks-decimal c f.rule high (omega (arith, ok.rule))))

fields_lack : (c : ℕ) (fields : List RemovedField) → AllByRecursion IsField fields → 10 ≤ digit_value c → eqb 58 c ≡ false → all_lack c (map field_text fields) ≡ true
fields_lack c [] ok high other = refl
fields_lack c (f ∷ fields) ok high other = and_from (lacks c (field_text f)) (all_lack c (map field_text fields)) (field_lacks c f ok.0 high other) (fields_lack c fields ok.1 high other)

field_words : (f : RemovedField) → IsField f → all_lack 58 (decimal f.place ∷ decimal f.rule ∷ []) ≡ true
field_words f ok =
    and_from (lacks 58 (decimal f.place)) (all_lack 58 (decimal f.rule ∷ [])) (lacks-decimal 58 f.place (omega arith) (omega (arith, ok.place)))
    (and_from (lacks 58 (decimal f.rule)) true (lacks-decimal 58 f.rule (omega arith) (omega (arith, ok.rule))) refl)

field_same : (f g : RemovedField) → IsField f → IsField g → field_text f ≡ field_text g → f ≡ g
field_same f g here there e =
    let words : decimal f.place ∷ decimal f.rule ∷ [] ≡ decimal g.place ∷ decimal g.rule ∷ [] = joined_same 58 (decimal f.place) (decimal f.rule ∷ []) (decimal g.place) (decimal g.rule ∷ []) refl (field_words f here) (field_words g there) e in
    let place : f.place ≡ g.place = decimal_injective f.place g.place (omega (arith, here.place)) (omega (arith, there.place)) (ap (word_at 0) words) in
    let rule : f.rule ≡ g.rule = decimal_injective f.rule g.rule (omega (arith, here.rule)) (omega (arith, there.rule)) (ap (word_at 1) words) in
    λ i. record { place = place i; rule = rule i }

texts_same : (fs gs : List RemovedField) → AllByRecursion IsField fs → AllByRecursion IsField gs → map field_text fs ≡ map field_text gs → fs ≡ gs
texts_same [] [] here there e = refl
texts_same [] (g ∷ gs) here there e = cc
texts_same (f ∷ fs) [] here there e = cc
texts_same (f ∷ fs) (g ∷ gs) here there e =
    let first = field_same f g here.0 there.0 (ap (word_at 0) e) in
    let others = texts_same fs gs here.1 there.1 (ap (drop 1) e) in
    λ i. first i ∷ others i

-- the text of some fields has an octet
field_some : (f : RemovedField) → 0 < length (field_text f)
field_some f = omega (arith, length-append (decimal f.place) (58 ∷ decimal f.rule))

fields_some : (f : RemovedField) (fs : List RemovedField) → 0 < length (fields_text (f ∷ fs))
fields_some f [] = field_some f
fields_some f (g ∷ fs) = omega (arith, field_some f, length-append (field_text f) (44 ∷ fields_text (g ∷ fs)))

fields_same : (fs gs : List RemovedField) → AllByRecursion IsField fs → AllByRecursion IsField gs → fields_text fs ≡ fields_text gs → fs ≡ gs
fields_same [] [] here there e = refl
fields_same [] (g ∷ gs) here there e = absurd (let n : 0 ≡ length (fields_text (g ∷ gs)) = ap (λ (t : List ℕ). length t) e in omega (arith, n, fields_some g gs))
fields_same (f ∷ fs) [] here there e = absurd (let n : length (fields_text (f ∷ fs)) ≡ 0 = ap (λ (t : List ℕ). length t) e in omega (arith, n, fields_some f fs))
fields_same (f ∷ fs) (g ∷ gs) here there e =
    texts_same (f ∷ fs) (g ∷ gs) here there
    (joined_same 44 (field_text f) (map field_text fs) (field_text g) (map field_text gs) refl (fields_lack 44 (f ∷ fs) here (omega arith) refl) (fields_lack 44 (g ∷ gs) there (omega arith) refl) e)

-- ---- what was kept back

what_plain : (w : What) → IsWhat w → all_lack 32 (what_words w) ≡ true
what_plain (Withheld rule reason) ok =
    and_from (lacks 32 (decimal rule)) (all_lack 32 (reason_word reason ∷ [])) (lacks-decimal 32 rule (omega arith) (omega (arith, ok)))
    (and_from (lacks 32 (reason_word reason)) true (reason_plain reason) refl)
what_plain (Aggregated rule) ok = and_from (lacks 32 (decimal rule)) true (lacks-decimal 32 rule (omega arith) (omega (arith, ok))) refl
what_plain (Removed fields) ok = and_from (lacks 32 (fields_text fields)) true (lacks-joined 32 44 (map field_text fields) refl (fields_lack 32 fields ok (omega arith) refl)) refl
what_plain Cut ok = refl

-- the first letter of the first word tells the variants apart
abbrev first_letter : List (List ℕ) → ℕ
first_letter words = get_or (word_at 0 words) 0 0

what_same : (v w : What) → IsWhat v → IsWhat w → what_words v ≡ what_words w → v ≡ w
what_same (Withheld q x) (Withheld r y) here there e =
    let rule : q ≡ r = decimal_injective q r (omega (arith, here)) (omega (arith, there)) (ap (word_at 1) e) in
    let reason : x ≡ y = reason_same x y (ap (word_at 2) e) in
    λ i. Withheld (rule i) (reason i)
what_same (Aggregated q) (Aggregated r) here there e = ap (λ n. Aggregated n) (decimal_injective q r (omega (arith, here)) (omega (arith, there)) (ap (word_at 1) e))
what_same (Removed fs) (Removed gs) here there e = ap (λ (l : List RemovedField). Removed l) (fields_same fs gs here there (ap (word_at 1) e))
what_same Cut Cut here there e = refl
what_same (Withheld q x) (Aggregated r) here there e = absurd (let n : 119 ≡ 97 = ap first_letter e in omega (arith, n))
what_same (Withheld q x) (Removed gs) here there e = absurd (let n : 119 ≡ 114 = ap first_letter e in omega (arith, n))
what_same (Withheld q x) Cut here there e = absurd (let n : 119 ≡ 99 = ap first_letter e in omega (arith, n))
what_same (Aggregated q) (Withheld r y) here there e = absurd (let n : 97 ≡ 119 = ap first_letter e in omega (arith, n))
what_same (Aggregated q) (Removed gs) here there e = absurd (let n : 97 ≡ 114 = ap first_letter e in omega (arith, n))
what_same (Aggregated q) Cut here there e = absurd (let n : 97 ≡ 99 = ap first_letter e in omega (arith, n))
what_same (Removed fs) (Withheld r y) here there e = absurd (let n : 114 ≡ 119 = ap first_letter e in omega (arith, n))
what_same (Removed fs) (Aggregated r) here there e = absurd (let n : 114 ≡ 97 = ap first_letter e in omega (arith, n))
what_same (Removed fs) Cut here there e = absurd (let n : 114 ≡ 99 = ap first_letter e in omega (arith, n))
what_same Cut (Withheld r y) here there e = absurd (let n : 99 ≡ 119 = ap first_letter e in omega (arith, n))
what_same Cut (Aggregated r) here there e = absurd (let n : 99 ≡ 97 = ap first_letter e in omega (arith, n))
what_same Cut (Removed gs) here there e = absurd (let n : 99 ≡ 114 = ap first_letter e in omega (arith, n))

-- ---- entries

entry_plain : (a : AuditEntry) → IsAuditEntry a → all_lack 32 (entry_words a) ≡ true
entry_plain a ok =
    and_from (lacks 32 (decimal a.position)) (all_lack 32 (decimal a.index ∷ decimal a.sub ∷ what_words a.what)) (lacks-decimal 32 a.position (omega arith) ok.position)
    (and_from (lacks 32 (decimal a.index)) (all_lack 32 (decimal a.sub ∷ what_words a.what)) (lacks-decimal 32 a.index (omega arith) (omega (arith, ok.index)))
    (and_from (lacks 32 (decimal a.sub)) (all_lack 32 (what_words a.what)) (lacks-decimal 32 a.sub (omega arith) ok.sub) (what_plain a.what ok.what)))

pub one_entry : OneEntry
one_entry a b here there e =
    let joined : join_with_byte 32 (entry_words a) ≡ join_with_byte 32 (entry_words b) = append_cancel_right (join_with_byte 32 (entry_words a)) (join_with_byte 32 (entry_words b)) (10 ∷ []) e in
    let words : entry_words a ≡ entry_words b =
    joined_same 32 (decimal a.position) (decimal a.index ∷ decimal a.sub ∷ what_words a.what) (decimal b.position) (decimal b.index ∷ decimal b.sub ∷ what_words b.what) refl (entry_plain a here) (entry_plain b there) joined in
    let position : a.position ≡ b.position = decimal_injective a.position b.position here.position there.position (ap (word_at 0) words) in
    let index : a.index ≡ b.index = decimal_injective a.index b.index (omega (arith, here.index)) (omega (arith, there.index)) (ap (word_at 1) words) in
    let sub : a.sub ≡ b.sub = decimal_injective a.sub b.sub here.sub there.sub (ap (word_at 2) words) in
    let what : a.what ≡ b.what = what_same a.what b.what here.what there.what (ap (drop 3) words) in
    λ i. record { position = position i; index = index i; sub = sub i; what = what i }
