use Rattle.std.proofs.Common.{◌≡◌, ◌*◌, length, drop, sym, ap, ◌∙◌, arith}
use Rattle.std.proofs.lemmas.List.{length-take, length-drop}
use Rattle.disclosure_audit.specs.Stretching.{each_of}
use Rattle.disclosure_audit.proofs.StretchLaws.{length-stretch}
use Rattle.disclosure_audit.proofs.stretch.Stretch.size.Goals as goal

pub returns : goal.returns
returns c =
    let s = c.args.self.now in
    let all = c.args.all.now in
    let long : length (each_of all s) ≡ s.len = omega (arith, length-take s.len (drop s.from all), length-drop s.from all, c.requires.there) in
    sym (length-stretch s.first s.count (each_of all s) ∙ ap (λ n. s.count * n) long)
