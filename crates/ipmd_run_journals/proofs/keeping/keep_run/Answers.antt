use Rattle.std.proofs.Common.{◌∙◌, subst, sym}
use Rattle.ipmd_run_journals.specs.Keeping.{IsKeepingFault}
use Rattle.ipmd_run_journals.proofs.Kept.{err_gives, unnamed, unwritten}
use Rattle.ipmd_run_journals.proofs.keeping.keep_run.Goals as goal

pub returns-in_err-write_file : goal.returns-in_err-write_file
returns-in_err-write_file g c = record {
  err = err_gives c.from_residual-in_err-write_file.result c.from_residual-in_err-write_file.ensures
      (λ e is. subst (IsKeepingFault c.args.path.now c.args.number) (sym is)
      (unwritten c.args.path.now c.args.number c.as_str.result.now c.as_str-2.result.now c.in_err-write_file.field-0.0 (c.as_str.ensures.value ∙ c.in_ok-name.ensures) (c.as_str-2.ensures.value ∙ c.in_ok-part.ensures)
      c.in_err-write_file.ensures.err));
}

pub returns-in_err-of_file : goal.returns-in_err-of_file
returns-in_err-of_file g c = record {
  err = err_gives c.from_residual-in_err-of_file.result c.from_residual-in_err-of_file.ensures
      (λ e is. subst (IsKeepingFault c.args.path.now c.args.number) (sym is)
      (unnamed c.args.path.now c.args.number c.as_str-5.result.now c.in_err-of_file.field-0.0 (c.as_str-5.ensures.value ∙ c.in_ok-name.ensures) c.in_err-of_file.ensures.err));
}
