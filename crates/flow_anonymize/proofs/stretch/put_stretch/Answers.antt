use Rattle.std.proofs.Common.{◌≡◌, List, ℕ, ap, sym, rules, ◌∙◌}
use Rattle.flow_anonymize.specs.Stretches.{put_in}
use Rattle.flow_anonymize.proofs.StretchLaws.{put_already, stretch_put}
use Rattle.flow_anonymize.proofs.stretch.put_stretch.Goals.{then-moved, else-moved}
use Rattle.flow_anonymize.proofs.stretch.put_stretch.Goals as goal

pub returns-clause-text : goal.returns-clause-text
returns-clause-text c =
    let first : c.if-moved.text.items ≡ put_in c.args.place c.split.result.0.now c.args.text.now.items = elim c.if-moved.branch [
      | then-moved w ↦ search (rules, w.text-is, w.put_at.ensures)
      | else-moved w ↦
          let already = put_already c.args.place c.args.stretch.shown c.args.octets.now c.args.text.now.items (c.requires.there w.if-moved.false) in
          let here = already ∙ ap (λ (xs : List ℕ). put_in c.args.place xs c.args.text.now.items) (sym c.split.ensures.front) in
          search (rules, w.text-is, here)
    ] in
    stretch_put c.args.stretch c.args.octets.now c.args.text.now.items c.if-moved.text.items c.clear_at.new.text.items c.split.result.0.now c.split-2.result.0.now c.split.result.1.now c.args.place
    c.requires.room c.split.ensures.front c.split.ensures.back c.split-2.ensures.front first c.clear_at.ensures
