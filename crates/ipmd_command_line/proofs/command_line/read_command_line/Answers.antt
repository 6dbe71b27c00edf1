use Rattle.std.proofs.Common.{ap, sym, subst, inl, inr, map, ◌≡◌, ◌∙◌}
use Rattle.clap.specs.Words.{app_of, kind_of}
use Rattle.clap.specs.declared.error.kind.ErrorKind.TheVariants.{OutOfMemory, MissingRequiredArgument}
use Rattle.ipmd_command_line.specs.CommandLine.{IsCommandIn, RefusesWords, is_shown}
use Rattle.ipmd_command_line.proofs.GivenRows.{asks_for}
use Rattle.ipmd_command_line.proofs.ToldWords.{is_shown_told, not_shown_told, refusal_told, shown_remembers, subcommand_told}
use Rattle.ipmd_command_line.proofs.command_line.read_command_line.Goals as goal

pub returns-in-Err-clause-refused : goal.returns-in-Err-clause-refused
returns-in-Err-clause-refused g c = elim c.from.ensures [
  | inl h ↦ subst (RefusesWords (map g.S.AsStr.text c.args.words.now)) (sym h.1) tt
  | inr h ↦ subst (RefusesWords (map g.S.AsStr.text c.args.words.now)) (sym h.1) (
    inl (refusal_told (app_of c.in_ok-command.command) (map g.S.AsStr.text c.args.words.now) c.in-Err.error c.in_ok-command.ensures c.in-Err.ensures.kinds h.0),
    not_shown_told (kind_of c.in-Err.error) c.use_stderr.result c.use_stderr.ensures c.if-use_stderr.true,
  )
]

pub returns-in-Err-2-clause-asked : goal.returns-in-Err-2-clause-asked
returns-in-Err-2-clause-asked g c =
    let shown = is_shown_told (kind_of c.in-Err.error) c.use_stderr.result c.use_stderr.ensures c.if-use_stderr.false in
    (refusal_told (app_of c.in_ok-command.command) (map g.S.AsStr.text c.args.words.now) c.in-Err.error c.in_ok-command.ensures c.in-Err.ensures.kinds (shown_remembers (kind_of c.in-Err.error) shown), shown)

pub returns-clause-refused : goal.returns-clause-refused
returns-clause-refused g c = elim c.from-in-None.ensures [
  | inl h ↦
      let bad : MissingRequiredArgument ≡ OutOfMemory = sym c.in_ok-error-in-None.ensures.kind ∙ h.0 in
      cc
  | inr h ↦ subst (RefusesWords (map g.S.AsStr.text c.args.words.now)) (sym h.1) (
    inr (λ task is.
        let none = c.in-None.ensures.only task (subst (IsCommandIn task)
        (sym (subcommand_told (app_of c.in_ok-command.command) (map g.S.AsStr.text c.args.words.now) c.in-Ok.matches c.in_ok-command.ensures c.in-Ok.ensures.ok.2)) is) in
        cc),
    ap is_shown c.in_ok-error-in-None.ensures.kind,
  )
]

pub returns-in-Some-clause-asked : goal.returns-in-Some-clause-asked
returns-in-Some-clause-asked g c =
    asks_for (map g.S.AsStr.text c.args.words.now) c.in-Some.task (subst (IsCommandIn c.in-Some.task)
    (subcommand_told (app_of c.in_ok-command.command) (map g.S.AsStr.text c.args.words.now) c.in-Ok.matches c.in_ok-command.ensures c.in-Ok.ensures.ok.2) c.in-Some.ensures.found)
