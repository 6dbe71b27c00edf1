-- What the parser tells of words, said of the program's own command.
use Rattle.std.proofs.Common.{refl, ap, sym, subst, inl, inr, true, false, Bool, List, ◌≡◌, ◌∙◌}
use Rattle.std.specs.Prelude.{◌≢◌, ◌↔◌, IsTrue}
use Rattle.clap.specs.Words.{App, HasKind, HasMatchesOf, IsAmong, Text, fault_of, is_simple, kind_of, subcommand_of, subcommand_rows_of}
use Rattle.clap.specs.Faults.{is_simple_and_free}
use Rattle.clap.specs.declared.error.Error.{Error}
use Rattle.clap.specs.declared.error.kind.ErrorKind.{ErrorKind}
use Rattle.clap.specs.declared.error.kind.ErrorKind.TheVariants.{InvalidValue, UnknownArgument, InvalidSubcommand, NoEquals, ValueValidation, TooManyValues, TooFewValues, WrongNumberOfValues, ArgumentConflict, MissingRequiredArgument, MissingSubcommand, DisplayHelp, DisplayHelpOnMissingArgumentOrSubcommand, DisplayVersion, Io, Format, OutOfMemory}
use Rattle.clap.specs.declared.parser.matches.ArgMatches.{ArgMatches}
use Rattle.clap.proofs.OnLiterals.{clap_on_literals}
use Rattle.ipmd_command_line.specs.CommandLine.{ipmd_command, is_shown}

is_free : is_simple_and_free ipmd_command ≡ true
unfolding clap_on_literals
is_free = refl

is_told : is_simple ipmd_command ≡ true
unfolding clap_on_literals
is_told = refl

-- a refusal that isn't for want of memory is one that the words cause
pub refusal_told : (app : App) (words : List Text) (e : Error) → app ≡ ipmd_command → (is_simple_and_free app ≡ true → HasKind (fault_of app words) e)
    → kind_of e ≢ OutOfMemory → IsAmong (kind_of e) (fault_of ipmd_command words)
refusal_told app words e is kinds some = pick (subst (λ (a : App). HasKind (fault_of a words) e) is (kinds (ap is_simple_and_free is ∙ is_free)))
  where
    pick : HasKind (fault_of ipmd_command words) e → IsAmong (kind_of e) (fault_of ipmd_command words)
    pick (inl memory) = absurd (some memory)
    pick (inr among) = among

-- what isn't for the standard error is help or the version
pub is_shown_told : (k : ErrorKind) (r : Bool) → (IsTrue r ↔ ((k ≢ DisplayHelp) × (k ≢ DisplayVersion))) → r ≡ false → is_shown k ≡ true
is_shown_told InvalidValue r told unset = sym unset ∙ told.1 (λ h. cc, λ h. cc)
is_shown_told UnknownArgument r told unset = sym unset ∙ told.1 (λ h. cc, λ h. cc)
is_shown_told InvalidSubcommand r told unset = sym unset ∙ told.1 (λ h. cc, λ h. cc)
is_shown_told NoEquals r told unset = sym unset ∙ told.1 (λ h. cc, λ h. cc)
is_shown_told ValueValidation r told unset = sym unset ∙ told.1 (λ h. cc, λ h. cc)
is_shown_told TooManyValues r told unset = sym unset ∙ told.1 (λ h. cc, λ h. cc)
is_shown_told TooFewValues r told unset = sym unset ∙ told.1 (λ h. cc, λ h. cc)
is_shown_told WrongNumberOfValues r told unset = sym unset ∙ told.1 (λ h. cc, λ h. cc)
is_shown_told ArgumentConflict r told unset = sym unset ∙ told.1 (λ h. cc, λ h. cc)
is_shown_told MissingRequiredArgument r told unset = sym unset ∙ told.1 (λ h. cc, λ h. cc)
is_shown_told MissingSubcommand r told unset = sym unset ∙ told.1 (λ h. cc, λ h. cc)
is_shown_told DisplayHelp r told unset = refl
is_shown_told DisplayHelpOnMissingArgumentOrSubcommand r told unset = sym unset ∙ told.1 (λ h. cc, λ h. cc)
is_shown_told DisplayVersion r told unset = refl
is_shown_told Io r told unset = sym unset ∙ told.1 (λ h. cc, λ h. cc)
is_shown_told Format r told unset = sym unset ∙ told.1 (λ h. cc, λ h. cc)
is_shown_told OutOfMemory r told unset = sym unset ∙ told.1 (λ h. cc, λ h. cc)

-- what is for it is neither
pub not_shown_told : (k : ErrorKind) (r : Bool) → (IsTrue r ↔ ((k ≢ DisplayHelp) × (k ≢ DisplayVersion))) → r ≡ true → is_shown k ≡ false
not_shown_told InvalidValue r told set = refl
not_shown_told UnknownArgument r told set = refl
not_shown_told InvalidSubcommand r told set = refl
not_shown_told NoEquals r told set = refl
not_shown_told ValueValidation r told set = refl
not_shown_told TooManyValues r told set = refl
not_shown_told TooFewValues r told set = refl
not_shown_told WrongNumberOfValues r told set = refl
not_shown_told ArgumentConflict r told set = refl
not_shown_told MissingRequiredArgument r told set = refl
not_shown_told MissingSubcommand r told set = refl
not_shown_told DisplayHelp r told set = absurd ((told.0 set).0 refl)
not_shown_told DisplayHelpOnMissingArgumentOrSubcommand r told set = refl
not_shown_told DisplayVersion r told set = absurd ((told.0 set).1 refl)
not_shown_told Io r told set = refl
not_shown_told Format r told set = refl
not_shown_told OutOfMemory r told set = refl

-- neither is for want of memory
pub shown_remembers : (k : ErrorKind) → is_shown k ≡ true → k ≢ OutOfMemory
shown_remembers k shown memory =
    let bad : false ≡ true = sym (ap is_shown memory) ∙ shown in
    cc

-- the subcommand that was met is the one that the words name
pub subcommand_told : (app : App) (words : List Text) (m : ArgMatches) → app ≡ ipmd_command → HasMatchesOf app words m → subcommand_rows_of m ≡ subcommand_of ipmd_command words
subcommand_told app words m is has = (has (ap is_simple is ∙ is_told)).1 ∙ ap (λ (a : App). subcommand_of a words) is
