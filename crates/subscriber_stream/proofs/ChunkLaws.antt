-- Where octets stand in the pieces of a message.
use Rattle.std.proofs.Common.{◌≡◌, ℕ, ◌+◌, ◌-◌, ◌<◌, ◌≤◌, List, ◌++◌, length, get_or, take, drop, refl, sym, ap, ◌∙◌, arith, length-append}
use Rattle.std.specs.List.{flat_map}
use Rattle.std.proofs.lemmas.List.{drop_more, drop-append-le}
use Rattle.std.proofs.Math.Seq.{take-append_seam, drop-append-add}
use Rattle.subscriber_stream.specs.declared.message_pieces.Piece.{Piece}
use Rattle.subscriber_stream.specs.MessagePieces.{piece_octets}

-- the octets of the pieces from a place on
abbrev pub octets_from : List Piece → ℕ → List ℕ
octets_from pieces place = flat_map piece_octets (drop place pieces)

-- what stands from an octet on, stands behind the first so many octets of the pieces from a place on, which have more
pub record IsSkipping (pieces : List Piece) (place start skip : ℕ) : Type 0 where
  pub more : skip < length (octets_from pieces place)
  pub same : drop skip (octets_from pieces place) ≡ drop start (flat_map piece_octets pieces)

pub skips_first : (pieces : List Piece) (start : ℕ) → start < length (flat_map piece_octets pieces) → IsSkipping pieces 0 start start
skips_first pieces start lt = record { more = lt; same = refl }

-- the octets of the piece at the place come first
piece_first : (pieces : List Piece) (place : ℕ) (p : Piece) (octets : List ℕ) → place < length pieces → p ≡ get_or pieces place p → octets ≡ piece_octets p → octets_from pieces place ≡ octets ++ octets_from pieces (place + 1)
piece_first pieces place p octets lt at is =
    ap (flat_map piece_octets) (drop_more pieces place p lt) ∙ ap (λ (q : Piece). piece_octets q ++ octets_from pieces (place + 1)) (sym at) ∙ ap (λ (os : List ℕ). os ++ octets_from pieces (place + 1)) (sym is)

pub skips_next : (pieces : List Piece) (place start skip : ℕ) (p : Piece) (octets : List ℕ) → IsSkipping pieces place start skip → place < length pieces → p ≡ get_or pieces place p → octets ≡ piece_octets p → length octets ≤ skip → IsSkipping pieces (place + 1) start (skip - length octets)
skips_next pieces place start skip p octets is lt at octets_is le =
    let first = piece_first pieces place p octets lt at octets_is in
    let parts : length octets + (skip - length octets) ≡ skip = omega (arith, le) in
    record {
      more = omega (arith, is.more, ap length first, length-append octets (octets_from pieces (place + 1)), le);
      same = sym (drop-append-add octets (octets_from pieces (place + 1)) (skip - length octets)) ∙ ap (λ (n : ℕ). drop n (octets ++ octets_from pieces (place + 1))) parts ∙ ap (drop skip) (sym first) ∙ is.same;
    }

-- what the piece at the place has behind those that are skipped
pub chunk_at : (pieces : List Piece) (place start skip : ℕ) (p : Piece) (octets chunk : List ℕ) → IsSkipping pieces place start skip → place < length pieces → p ≡ get_or pieces place p → octets ≡ piece_octets p → skip < length octets → chunk ≡ drop skip octets → chunk ≡ take (length chunk) (drop start (flat_map piece_octets pieces))
chunk_at pieces place start skip p octets chunk is lt at octets_is le chunk_is =
    let rest = octets_from pieces (place + 1) in
    let first = piece_first pieces place p octets lt at octets_is in
    let there : drop start (flat_map piece_octets pieces) ≡ chunk ++ rest = sym is.same ∙ ap (drop skip) first ∙ drop-append-le skip octets rest (omega (arith, le)) ∙ ap (λ (c : List ℕ). c ++ rest) (sym chunk_is) in
    sym (ap (take (length chunk)) there ∙ take-append_seam chunk rest)
