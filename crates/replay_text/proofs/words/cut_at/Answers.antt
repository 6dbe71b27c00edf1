use Rattle.replay_text.proofs.CutLaws.{cut_by_octets}
use Rattle.replay_text.proofs.words.cut_at.Goals as goal

pub returns : goal.returns
returns c = cut_by_octets c.args.separator c.args.text.now c.split_once.result (c.split_once.ensures.byte c.requires.ascii (λ w o h. h))
