use Rattle.std.proofs.Common.{◌≡◌, ℕ, List, ◌++◌, take, refl, sym, ap, ◌∙◌, append_assoc}
use Rattle.subscriber_stream.specs.Waiting.{items_in}
use Rattle.subscriber_stream.proofs.Pieces.{kept_take}
use Rattle.subscriber_stream.proofs.Messages.{message_pieces}
use Rattle.subscriber_stream.proofs.writing.put_message.Goals as goal

put_together : (out second first before head rest whole : List ℕ) → out ≡ second ++ rest → second ≡ first ++ head → first ≡ before → whole ≡ head ++ rest → out ≡ before ++ whole
put_together out second first before head rest whole a b e w =
    a ∙ ap (λ (t : List ℕ). t ++ rest) (b ∙ ap (λ (t : List ℕ). t ++ head) e) ∙ append_assoc before head rest ∙ ap (λ (t : List ℕ). before ++ t) (sym w)

pub returns : goal.returns
returns g c =
    let ws = take c.args.whole.parts (items_in c.args.queue.now.items) in
    let kept = kept_take c.args.shapes.now.shapes c.args.whole.parts (items_in c.args.queue.now.items) c.requires.kept in
    let written = message_pieces c.args.shapes.now.shapes ws c.args.now c.args.handed c.args.whole.octets kept c.requires.octets in
    put_together _ _ _ _ _ _ _ c.in_ok-put_parts.ensures c.in_ok-put_header.ensures refl written
