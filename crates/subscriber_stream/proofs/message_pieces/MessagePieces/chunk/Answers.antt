use Rattle.std.proofs.Common.{◌≡◌, ◌-◌, take, drop, length, ap, ◌∙◌, arith, length-drop}
use Rattle.std.specs.List.{flat_map}
use Rattle.std.proofs.lemmas.List.{take_all}
use Rattle.subscriber_stream.specs.MessagePieces.{piece_octets}
use Rattle.subscriber_stream.proofs.ChunkLaws.{skips_first, skips_next, chunk_at}
use Rattle.subscriber_stream.proofs.message_pieces.MessagePieces.chunk.Goals as goal

whole : (c : goal.After-deref-piece-items) → flat_map piece_octets c.deref-piece-items.result.now ≡ c.args.self.now
whole c = ap (flat_map piece_octets) c.deref-piece-items.ensures.value ∙ c.self.view_is

pub pieces-init : goal.pieces-init
pieces-init c = skips_first _ c.args.start (omega (arith, c.requires, ap length (whole c)))

pub returns-then-skip-octets-clause-part : goal.returns-then-skip-octets-clause-part
returns-then-skip-octets-clause-part c =
    let octets = c.as_slice-octets.result.now in
    let behind : take (length octets - c.pieces.skip) (drop c.pieces.skip octets) ≡ drop c.pieces.skip octets = take_all _ _ (omega (arith, length-drop c.pieces.skip octets)) in
    chunk_at _ _ c.args.start _ _ octets _ c.pieces.invariant c.pieces-test.true c.piece-item.is c.as_slice-octets.ensures c.if-skip-octets.true behind ∙ ap (λ m. take (length (take (length octets - c.pieces.skip) (drop c.pieces.skip octets))) (drop c.args.start m)) (ap (flat_map piece_octets) c.deref-piece-items.ensures.value ∙ c.self.view_is)

pub pieces-preserved : goal.pieces-preserved
pieces-preserved c =
    skips_next _ _ c.args.start _ _ _ c.pieces.invariant c.pieces-test.true c.piece-item.is c.as_slice-octets.ensures c.if-skip-octets.false
