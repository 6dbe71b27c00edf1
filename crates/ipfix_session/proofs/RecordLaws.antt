-- The records of a Data Set's content, one after another, and padding.
use Rattle.std.proofs.Common.{◌≡◌, ℕ, zero, suc, ◌<◌, Bool, true, false, cond, ltb, List, [], ◌∷◌, ◌++◌, length, length-append, drop, Option, Some, None, Result, Ok, Err, refl, sym, ap, ◌∙◌, subst, arith}
use Rattle.std.proofs.lemmas.Bool.{ltb-true, lt-ltb}
use Rattle.sequences.specs.Octets.{AreOctets}
use Rattle.sequences.specs.Sequence.{Front, End, Fault, Next, with_front, read_on, read_all}
use Rattle.std.proofs.lemmas.List.{drop_at}
use Rattle.sequences.proofs.OctetLaws.{AreOctets-drop}
use Rattle.sequences.proofs.SequenceLaws.{read_all-step}
use Rattle.ipfix_template.specs.declared.template.Template.{Template}
use Rattle.ipfix_template.specs.Template.{IsAcceptable, shortest_record}
use Rattle.ipfix_template.specs.Values.{Splits, values_at, found_record, record_front, records_in}
use Rattle.ipfix_template.proofs.SplitLaws.{values_at-found, Splits-least}
use Rattle.ipfix_template.proofs.SplitClauses.{front_is}
use Rattle.sequences.proofs.ResultLaws.{same_Ok}
use Rattle.ipfix_session.specs.DataSetContent.{AreRecords}
use Rattle.ipfix_session.proofs.Soundness.{record_takes, shortest_some}

abbrev Rows : Type 0
Rows = Result (List (List (List ℕ))) (Unit {0})

front_end : (t : Template) (octets : List ℕ) → length octets < shortest_record t → record_front t octets ≡ End
unfolding record_front
front_end t octets short = rw (lt-ltb _ _ short) refl

pub only : (t : Template) → IsAcceptable t → (octets : List ℕ) (rows : List (List (List ℕ))) → AreRecords t octets rows → records_in t octets ≡ Ok rows
only t accepted octets [] short = read_all-step (record_front t) (record_takes t accepted) octets ∙ ap (λ f. read_on f (read_all (record_front t))) (front_end t octets short)
only t accepted octets (row ∷ rows) h =
    ap (records_in t) h.2
    ∙ read_all-step (record_front t) (record_takes t accepted) (h.0 ++ h.1)
    ∙ ap (λ f. read_on f (read_all (record_front t))) (front_is t (h.0 ++ h.1) h.0 h.1 row refl h.3)
    ∙ ap (with_front (row ∷ [])) (only t accepted h.1 rows h.4)

-- what stands at the front, said by what the front is
abbrev IsFrontOf : Template → List ℕ → Front (List (List ℕ)) (Unit {0}) → Type 0
IsFrontOf t octets End = length octets < shortest_record t
IsFrontOf t octets (Fault e) = Unit {0}
IsFrontOf t octets (Next items rest) = (text : List ℕ) × (row : List (List ℕ)) × (items ≡ row ∷ []) × (octets ≡ text ++ rest) × Splits t.fields text row × (length rest < length octets)

front_by : (t : Template) → IsAcceptable t → (octets : List ℕ) → AreOctets octets → (short : Bool) → ltb (length octets) (shortest_record t) ≡ short → (v : Option (List (List ℕ) × List ℕ)) → values_at t.fields octets ≡ v → IsFrontOf t octets (cond short End (found_record v))
front_by t accepted octets fits true is v e = ltb-true _ _ is
front_by t accepted octets fits false is None e = tt
front_by t accepted octets fits false is (Some f) e =
    let h = values_at-found t.fields octets fits f e in
    let least = Splits-least t.fields h.0 f.0 h.2 in
    (h.0, f.0, refl, h.1, h.2, omega (arith, least, shortest_some t accepted, ap length h.1, length-append h.0 f.1))

front_found : (t : Template) → IsAcceptable t → (octets : List ℕ) → AreOctets octets → IsFrontOf t octets (record_front t octets)
unfolding record_front
front_found t accepted octets fits = front_by t accepted octets fits (ltb (length octets) (shortest_record t)) refl (values_at t.fields octets) refl

found_in : (t : Template) → IsAcceptable t → (n : ℕ) (octets : List ℕ) → length octets < n → AreOctets octets → (rows : List (List (List ℕ))) → records_in t octets ≡ Ok rows → AreRecords t octets rows
found_in t accepted zero octets few fits rows e = absurd (omega arith)
found_in t accepted (suc n) octets few fits rows e = by (λ rest less fit more same. found_in t accepted n rest (omega arith) fit more same) (record_front t octets) (front_found t accepted octets fits) (sym (read_all-step (record_front t) (record_takes t accepted) octets) ∙ e) where
  by : ((rest : List ℕ) → length rest < length octets → AreOctets rest → (more : List (List (List ℕ))) → records_in t rest ≡ Ok more → AreRecords t rest more) → (f : Front (List (List ℕ)) (Unit {0})) → IsFrontOf t octets f → read_on f (read_all (record_front t)) ≡ Ok rows → AreRecords t octets rows
  by rec End short at = subst (λ rs. AreRecords t octets rs) (same_Ok [] rows at) short
  by rec (Fault w) is at = absurd cc
  by rec (Next items rest) is at = others (records_in t rest) refl at where
    others : (r : Rows) → records_in t rest ≡ r → with_front items r ≡ Ok rows → AreRecords t octets rows
    others (Err w) same at2 = absurd cc
    others (Ok more) same at2 =
        let back : rest ≡ drop (length is.0) octets = sym (ap (drop (length is.0)) is.3 ∙ drop_at is.0 rest (length is.0) refl) in
        let here = rec rest is.5 (subst AreOctets (sym back) (AreOctets-drop (length is.0) octets fits)) more same in
        subst (λ rs. AreRecords t octets rs) (ap (λ xs. xs ++ more) (sym is.2) ∙ same_Ok (items ++ more) rows at2) (is.0, rest, is.3, is.4, here)

pub found : (t : Template) → IsAcceptable t → (octets : List ℕ) → AreOctets octets → (rows : List (List (List ℕ))) → records_in t octets ≡ Ok rows → AreRecords t octets rows
found t accepted octets fits rows e = found_in t accepted (suc (length octets)) octets (omega arith) fits rows e
