-- What a getter of the parser answers is what the rows of its matches have.
use Rattle.std.proofs.Common.{refl, codes, sym, subst, ap, arith, get_or, Result, Ok, Err, List, ℕ, Option, Some, None, option_map, ◌≡◌, ◌∙◌}
use Rattle.std.specs.Borrow.{Bor}
use Rattle.std.specs.Prelude.{IsSome}
use Rattle.clap.specs.Words.{ReadsOne, Row, Text, first_of, first_value, found_of, one_of, one_text, rows_of, subcommand_of}
use Rattle.clap.specs.declared.parser.matches.ArgMatches.{ArgMatches}
use Rattle.std.specs.Str.Parse.{ParsesUnsigned}
use Rattle.clap.specs.declared.error.Error.{Error}
use Rattle.ipmd_command_line.specs.declared.task.ExplainOptions.{ExplainOptions}
use Rattle.ipmd_command_line.specs.declared.task.Task.{Task}
use Rattle.ipmd_command_line.specs.declared.task.Task.TheVariants.{Offline, CheckPolicy, Replay, Serve, Verify, Explain, Show}
use Rattle.ipmd_command_line.specs.CommandLine.{AreExplainOptions, AsksForTask, IsCommand, IsCommandIn, IsMaybeNumber, IsOptionNumber, IsSource, ipmd_command}
use Rattle.ipmd_command_line.specs.declared.task.PolicySource.{PolicySource}
use Rattle.ipmd_command_line.specs.declared.task.PolicySource.TheVariants.{File, Text as PolicyText}
use Rattle.clap.proofs.WalkLemmas.{first_value-rows, one_text-rows}

-- a value that was given, or the want of one
pub given_row : (m : ArgMatches) (id : Text) (got : Option (Bor (List ℕ))) (o : Option (Bor (List ℕ))) → option_map (λ s. s.now) got ≡ first_value (found_of m) id
    → got ≡ o → first_of id (rows_of (found_of m)) ≡ option_map (λ s. s.now) o
given_row m id got o is same = sym (first_value-rows (found_of m) id) ∙ sym is ∙ ap (option_map (λ s. s.now)) same

pub one_row : (m : ArgMatches) (id : Text) → one_text (found_of m) id ≡ one_of id (rows_of (found_of m))
one_row m id = one_text-rows (found_of m) id

-- a number that was read is that of a numeral
pub number_row : {E : Type 0} (G : List ℕ → Result ℕ E → Type 0) (k : ℕ) (m : ArgMatches) (id : Text) (got : Option ℕ) (n : ℕ)
    → ((t : List ℕ) (r : Result ℕ E) → G t r → ParsesUnsigned k 10 t r)
    → (one_text (found_of m) id ≡ None → got ≡ None) → ((t : List ℕ) → one_text (found_of m) id ≡ Some t → ReadsOne G t got)
    → got ≡ Some n → IsOptionNumber k id (rows_of (found_of m)) n
number_row {E} G k m id got n parses none reads same = from (one_text (found_of m) id) refl
  where
    read : (t : List ℕ) → one_text (found_of m) id ≡ Some t → ReadsOne G t (Some n) → IsOptionNumber k id (rows_of (found_of m)) n
    read t is given =
        let parsed = parses t (Ok n) given in
        record { numeral = t; given = sym (one_row m id) ∙ is; digits = parsed.0.0; value = sym parsed.1; fits = rw parsed.1 parsed.0.1 }

    from : (o : Option (List ℕ)) → one_text (found_of m) id ≡ o → IsOptionNumber k id (rows_of (found_of m)) n
    from None is =
        let bad : None ≡ Some n = sym (none is) ∙ same in
        cc
    from (Some t) is = read t is (subst (ReadsOne G t) same (reads t is))

-- a numeral that fits is read
pub number_read : {E : Type 0} (G : List ℕ → Result ℕ E → Type 0) (k : ℕ) (m : ArgMatches) (id : Text) (got : Option ℕ) (n : ℕ)
    → ((t : List ℕ) (r : Result ℕ E) → G t r → ParsesUnsigned k 10 t r)
    → ((t : List ℕ) → one_text (found_of m) id ≡ Some t → ReadsOne G t got)
    → IsOptionNumber k id (rows_of (found_of m)) n → got ≡ None → ⊥
number_read {E} G k m id got n parses reads is missed = refuted (subst (ReadsOne G is.numeral) missed (reads is.numeral (one_row m id ∙ is.given)))
  where
    refuted : ReadsOne G is.numeral None → ⊥
    refuted refusal = parses is.numeral (Err refusal.0) refusal.1 (is.digits, rw is.value is.fits)

-- both options name a policy, or neither
pub both_given : (rows : List Row) (path text : List ℕ) → first_of (codes "policy") rows ≡ Some path → first_of (codes "policy-text") rows ≡ Some text
    → (source : PolicySource) → IsSource source rows → ⊥
both_given rows path text has_path has_text (File p) is =
    let bad : Some text ≡ None = sym has_text ∙ is.1 in
    cc
both_given rows path text has_path has_text (PolicyText t) is =
    let bad : Some path ≡ None = sym has_path ∙ is.0 in
    cc

pub none_given : (rows : List Row) → first_of (codes "policy") rows ≡ None → first_of (codes "policy-text") rows ≡ None → (source : PolicySource) → IsSource source rows → ⊥
none_given rows no_path no_text (File p) is =
    let bad : None ≡ Some p.now = sym no_path ∙ is.0 in
    cc
none_given rows no_path no_text (PolicyText t) is =
    let bad : None ≡ Some t.now = sym no_text ∙ is.1 in
    cc

-- a value that the rows have was given
pub given_value : (m : ArgMatches) (id : Text) (got : Option (Bor (List ℕ))) (value : List ℕ) → option_map (λ s. s.now) got ≡ first_value (found_of m) id
    → first_of id (rows_of (found_of m)) ≡ Some value → got ≡ None → ⊥
given_value m id got value is has missed =
    let bad : Some value ≡ None = sym has ∙ given_row m id got None is missed in
    cc

-- an option that was given has a value, so it is a number or the rows have none
pub maybe_missed : (k : ℕ) (m : ArgMatches) (id : Text) (got : Option (Bor (List ℕ))) (s : Bor (List ℕ)) → option_map (λ s. s.now) got ≡ first_value (found_of m) id → got ≡ Some s
    → ((n : ℕ) → IsOptionNumber k id (rows_of (found_of m)) n → ⊥) → (o : Option ℕ) → IsMaybeNumber k id (rows_of (found_of m)) o → ⊥
maybe_missed k m id got s is given none (Some n) so = none n so
maybe_missed k m id got s is given none None so =
    let bad : None ≡ Some s.now = sym so ∙ given_row m id got (Some s) is given in
    cc

-- ---- what commands ask for

-- a command is no other
apart : (name : Text) (a b : Text) → name ≡ a → name ≡ b → (get_or a 0 0 ≡ get_or b 0 0 → ⊥) → ⊥
apart name a b here there other = other (ap (λ t. get_or t 0 0) (sym here ∙ there))

-- where the options of `explain` are none, nothing is asked for
pub explain_missed : (name : Text) (rows : List Row) → name ≡ codes "explain" → ((options : ExplainOptions) → AreExplainOptions options rows → ⊥) → (task : Task) → IsCommand task name rows → ⊥
explain_missed name rows same none (Offline options) is = apart name (codes "offline") (codes "explain") is.0 same (λ n. absurd (omega (arith, n)))
explain_missed name rows same none (CheckPolicy source) is = apart name (codes "check-policy") (codes "explain") is.0 same (λ n. absurd (omega (arith, n)))
explain_missed name rows same none (Replay path) is = apart name (codes "replay") (codes "explain") is.0 same (λ n. absurd (omega (arith, n)))
explain_missed name rows same none (Serve path) is = apart name (codes "serve") (codes "explain") is.0 same (λ n. absurd (omega (arith, n)))
explain_missed name rows same none (Verify options) is = apart name (codes "verify") (codes "explain") is.0 same (λ n. absurd (omega (arith, n)))
explain_missed name rows same none (Explain options) is = none options is.1
explain_missed name rows same none (Show text) is = is

shows_none : (text : Error) (o : Option (Text × List Row)) → IsCommandIn (Show text) o → ⊥
shows_none text None is = is
shows_none text (Some command) is = is

-- the command that the words name is asked for
pub asks_for : (words : List Text) (task : Task) → IsCommandIn task (subcommand_of ipmd_command words) → AsksForTask words task
asks_for words (Offline options) is = is
asks_for words (CheckPolicy source) is = is
asks_for words (Replay path) is = is
asks_for words (Serve path) is = is
asks_for words (Verify options) is = is
asks_for words (Explain options) is = is
asks_for words (Show text) is = absurd (shows_none text (subcommand_of ipmd_command words) is)

some_none : {A : Type 0} (o : Option A) → o ≡ None → IsSome o → ⊥
some_none None is there = absurd cc
some_none (Some a) is there = absurd cc

-- so in the rows of the command that was named
pub explain_refused : (o : Option (Text × List Row)) (name : Text) (rows : List Row) (got : Option ExplainOptions) → o ≡ Some (name, rows) → name ≡ codes "explain" → got ≡ None
    → ((options : ExplainOptions) → AreExplainOptions options rows → IsSome got) → (task : Task) → IsCommandIn task o → ⊥
explain_refused o name rows got is same missed only task so =
    explain_missed name rows same (λ options are. some_none got missed (only options are)) task (subst (IsCommandIn task) is so)
