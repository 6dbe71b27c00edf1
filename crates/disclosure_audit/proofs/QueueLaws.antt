-- What is copied, and what is dropped, from the front of a queue.
use Rattle.std.proofs.Common.{◌≡◌, ℕ, ◌+◌, ◌-◌, ◌≤◌, ◌<◌, List, [], ◌∷◌, ◌++◌, length, take, drop, get_or, sym, ap, ◌∙◌, arith, append_assoc, append-nil, length-append}
use Rattle.std.specs.Prelude.{min}
use Rattle.std.proofs.lemmas.List.{drop_more, length-take}
use Rattle.disclosure_audit.specs.declared.entry.AuditEntry.{AuditEntry}
use Rattle.disclosure_audit.specs.declared.chunk.Chunk.{Chunk}
use Rattle.disclosure_audit.specs.Chunks.{entries_in, entries_of}
use Rattle.disclosure_audit.proofs.PartLaws.{taken_of_two, dropped_of_two}

-- ---- copied

pub chunk_copied : (queue : List Chunk) (at left taken : ℕ) (d chunk : Chunk) (out more whole : List AuditEntry) → at < length queue → chunk ≡ get_or queue at d → out ++ take left (entries_of (drop at queue)) ≡ whole
    → more ≡ out ++ take left (entries_in chunk) → taken ≡ min (length (entries_in chunk)) left → more ++ take (left - taken) (entries_of (drop (at + 1) queue)) ≡ whole
chunk_copied queue at left taken d chunk out more whole there is was pushed takes =
    ap (λ l. l ++ take (left - taken) rest) pushed ∙ append_assoc out (take left (entries_in chunk)) (take (left - taken) rest)
    ∙ ap (λ n. out ++ (take left (entries_in chunk) ++ take n rest)) fewer
    ∙ ap (λ l. out ++ l) (sym (ap (λ q. take left (entries_of q)) (drop_more queue at d there ∙ ap (λ c. c ∷ drop (at + 1) queue) (sym is)) ∙ taken_of_two left (entries_in chunk) rest))
    ∙ was
  where
    rest : List AuditEntry
    rest = entries_of (drop (at + 1) queue)

    fewer : left - taken ≡ left - length (entries_in chunk)
    fewer = omega (arith, takes)

pub room_left : (left taken capacity : ℕ) (out more entries : List AuditEntry) → more ≡ out ++ take left entries → taken ≡ min (length entries) left → length out + left ≤ capacity → length more + (left - taken) ≤ capacity
room_left left taken capacity out more entries pushed takes room =
    omega (arith, ap (λ (l : List AuditEntry). length l) pushed, length-append out (take left entries), length-take left entries, takes, room)

-- ---- dropped

-- nothing is left of a chunk, and what is left to drop is dropped of the others
pub chunk_dropped : (queue rest : List Chunk) (chunk : Chunk) (left dropped : ℕ) (all : List AuditEntry) → queue ≡ chunk ∷ rest → drop left (entries_of queue) ≡ all → [] ≡ drop left (entries_in chunk) → dropped ≡ min (length (entries_in chunk)) left
    → drop (left - dropped) (entries_of rest) ≡ all
chunk_dropped queue rest chunk left dropped all first was none drops =
    ap (λ n. drop n (entries_of rest)) fewer ∙ ap (λ l. l ++ drop (left - length (entries_in chunk)) (entries_of rest)) none
    ∙ sym (ap (λ q. drop left (entries_of q)) first ∙ dropped_of_two left (entries_in chunk) (entries_of rest)) ∙ was
  where
    fewer : left - dropped ≡ left - length (entries_in chunk)
    fewer = omega (arith, drops)

-- something is left of it, and then all were dropped
pub part_dropped : (queue rest : List Chunk) (chunk kept : Chunk) (left dropped : ℕ) (all : List AuditEntry) → queue ≡ chunk ∷ rest → drop left (entries_of queue) ≡ all → entries_in kept ++ [] ≡ drop left (entries_in chunk)
    → dropped ≡ min (length (entries_in chunk)) left → left < length (entries_in chunk) → drop (left - dropped) (entries_of (kept ∷ rest)) ≡ all
part_dropped queue rest chunk kept left dropped all first was some drops more =
    ap (λ n. drop n (entries_of (kept ∷ rest))) done ∙ ap (λ l. l ++ entries_of rest) (sym (append-nil (entries_in kept)) ∙ some)
    ∙ ap (λ n. drop left (entries_in chunk) ++ drop n (entries_of rest)) over
    ∙ sym (ap (λ q. drop left (entries_of q)) first ∙ dropped_of_two left (entries_in chunk) (entries_of rest)) ∙ was
  where
    done : left - dropped ≡ 0
    done = omega (arith, drops, more)

    over : 0 ≡ left - length (entries_in chunk)
    over = omega (arith, more)
