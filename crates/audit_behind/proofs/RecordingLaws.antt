-- The lines of entries that were handed over, and what of them is written.
use Rattle.std.proofs.Common.{◌≡◌, ℕ, List, [], ◌∷◌, ◌++◌, Option, Some, None, take, drop, sym, ap, ◌∙◌, subst, append_assoc, append-nil, length, arith}
use Rattle.std.specs.Global.{Vec}
use Rattle.std.proofs.lemmas.Grind.{flat_map-append}
use Rattle.std.proofs.Math.Seq.{drop-nil, take-length}
use Rattle.std.proofs.KnownBytes.{Appends-trans, Appends-kept, Keeps-trans, append_known-kept}
use Rattle.std.specs.Io.KnownBytes.{Appends, Keeps, append_known}
use Rattle.disclosure_audit.specs.Lines.{audit_line}
use Rattle.disclosure_audit.specs.declared.entry.AuditEntry.{AuditEntry}
use Rattle.write_behind.proofs.PassingLaws.{hands_more, takes_front, settles}
use Rattle.mediator_offline.specs.Lines.{audit_text, WritesBeginning}
use Rattle.audit_behind.specs.Recording.{texts}

-- one list more
pub texts_push : (lists : List (Vec AuditEntry)) (entries : Vec AuditEntry) → texts (lists ++ entries ∷ []) ≡ texts lists ++ audit_text entries.items
texts_push lists entries =
    flat_map-append (λ (v : Vec AuditEntry). audit_text v.items) lists (entries ∷ []) ∙ ap (λ l. texts lists ++ l) (append-nil (audit_text entries.items))

-- the lines of one list more were written
pub writes_more : (first held holds : Option (List ℕ)) (lists : List (Vec AuditEntry)) (entries : Vec AuditEntry) → Appends first held (texts lists)
    → Appends held holds (audit_text entries.items) → Appends first holds (texts (lists ++ entries ∷ []))
writes_more first held holds lists entries before more =
    subst (Appends first holds) (sym (texts_push lists entries)) (Appends-trans first held holds (texts lists) (audit_text entries.items) before more)

-- the first n octets of them were
pub writes_front : (first held holds : Option (List ℕ)) (lists : List (Vec AuditEntry)) (entries : Vec AuditEntry) (n : ℕ) → Appends first held (texts lists)
    → Appends held holds (take n (audit_text entries.items))
    → Appends first (append_known holds (drop n (audit_text entries.items))) (texts (lists ++ entries ∷ []))
writes_front first held holds lists entries n before front =
    subst (Appends first (append_known holds (drop n (audit_text entries.items)))) (sym (texts_push lists entries))
    (takes_front first held holds (texts lists) (audit_text entries.items) n before front)

-- entries were gathered behind others
pub gathers : (held : Option (List ℕ)) (old new more : List AuditEntry) → new ≡ old ++ more
    → Appends (append_known held (audit_text old)) (append_known held (audit_text new)) (audit_text more)
gathers held old new more e =
    hands_more held (audit_text old) (audit_text new) (audit_text more) (ap audit_text e ∙ flat_map-append audit_line old more)

-- what was gathered was handed over
pub moves : (first : Option (List ℕ)) (old new : List (Vec AuditEntry)) (entries : Vec AuditEntry) (free : List AuditEntry) → new ≡ old ++ entries ∷ [] → free ≡ []
    → Keeps (append_known (append_known first (texts old)) (audit_text entries.items)) (append_known (append_known first (texts new)) (audit_text free))
moves None old new entries free pushed none = tt
moves (Some xs) old new entries free pushed none =
    ap (λ l. (xs ++ texts new) ++ audit_text l) none ∙ append-nil (xs ++ texts new)
    ∙ ap (λ l. xs ++ l) (ap texts pushed ∙ texts_push old entries) ∙ sym (append_assoc xs (texts old) (audit_text entries.items))

-- what came through the ring, what is still there, and what is still gathered are all entries
pub settles_all : (first holds : Option (List ℕ)) (came there sent : List (Vec AuditEntry)) (gathered : List ℕ) → Appends first holds (texts came)
    → came ++ there ≡ sent → Keeps (append_known (append_known first (texts sent)) gathered) (append_known (append_known holds (texts there)) gathered)
settles_all first holds came there sent gathered passed all =
    append_known-kept (append_known first (texts sent)) (append_known holds (texts there)) gathered
    (settles first holds (texts came) (texts there) (texts sent) passed
    (sym (flat_map-append (λ (v : Vec AuditEntry). audit_text v.items) came there) ∙ ap texts all))

-- nothing is left to be written
pub nothing_left : (a b : Option (List ℕ)) → Keeps a (append_known (append_known (append_known b []) []) []) → Keeps a b
nothing_left None b k = tt
nothing_left (Some xs) None k = absurd k
nothing_left (Some xs) (Some ys) k =
    sym (append-nil ys) ∙ sym (append-nil (ys ++ [])) ∙ sym (append-nil ((ys ++ []) ++ [])) ∙ k

-- the device took all
pub settles_whole : (first holds : Option (List ℕ)) (came there sent : List (Vec AuditEntry)) (entries gathered : List AuditEntry) (n : ℕ)
    → Appends first (append_known holds (drop n (audit_text entries))) (texts came) → came ++ there ≡ sent → there ≡ [] → entries ≡ [] → gathered ≡ []
    → Keeps (append_known (append_known first (texts sent)) (audit_text gathered)) holds
settles_whole first holds came there sent entries gathered n passed all none empty free =
    let k = settles_all first (append_known holds (drop n (audit_text entries))) came there sent (audit_text gathered) passed all in
    let d : drop n (audit_text entries) ≡ [] = ap (λ l. drop n (audit_text l)) empty ∙ drop-nil n in
    let a = append_known (append_known first (texts sent)) (audit_text gathered) in
    nothing_left a holds
    (subst (λ l. Keeps a (append_known (append_known (append_known holds l) []) [])) d
    (subst (λ l. Keeps a (append_known (append_known (append_known holds (drop n (audit_text entries))) (texts l)) [])) none
    (subst (λ l. Keeps a (append_known (append_known (append_known holds (drop n (audit_text entries))) (texts there)) (audit_text l))) free k)))

-- nothing was handed over yet
pub begins_empty : (a b : Option (List ℕ)) (lists : List (Vec AuditEntry)) (entries : List AuditEntry) → b ≡ a → lists ≡ [] → entries ≡ []
    → Keeps a (append_known (append_known b (texts lists)) (audit_text entries))
begins_empty None b lists entries same none free = tt
begins_empty (Some xs) b lists entries same none free =
    subst (Keeps (Some xs))
    (sym (ap (λ k. append_known (append_known k (texts lists)) (audit_text entries)) same
    ∙ ap (λ l. append_known (append_known (Some xs) (texts l)) (audit_text entries)) none
    ∙ ap (λ l. append_known (append_known (Some xs) []) (audit_text l)) free))
    (append-nil (xs ++ []) ∙ append-nil xs)

-- nothing more was written
pub writes_nothing : (a b : Option (List ℕ)) (octets : List ℕ) → Keeps a b → WritesBeginning a b octets
writes_nothing None b octets k = record { count = 0; within = omega (arith); written = tt }
writes_nothing (Some xs) None octets k = absurd k
writes_nothing (Some xs) (Some ys) octets k = record { count = 0; within = omega (arith); written = k ∙ sym (append-nil xs) }

-- all was written, or is held
pub writes_all : (a b c d : Option (List ℕ)) (octets : List ℕ) → Appends a b octets → Keeps b c → Keeps c d → WritesBeginning a d octets
writes_all a b c d octets written kept still = record {
  count = length octets;
  within = omega arith;
  written = subst (Appends a d) (sym (take-length octets)) (Appends-kept a b d octets written (Keeps-trans b c d kept still));
}
