use Rattle.std.proofs.Common.{ap, ap₂, refl, Bool, true, false, not, ◌&&◌, ◌≡◌, ◌∙◌}
use Rattle.std.proofs.lemmas.Result.{IfOk-weaker}
use Rattle.clap.specs.Words.{App, app_of, with_subcommand}
use Rattle.ipmd_command_line.specs.CommandLine.{top_command}
use Rattle.ipmd_command_line.proofs.command_line.whole_command.Goals as goal

first_holds : (a b : Bool) → (a && b) ≡ true → a ≡ true
first_holds true b h = refl
first_holds false b h = h

second_holds : (a b : Bool) → (a && b) ≡ true → b ≡ true
second_holds true b h = h
second_holds false true h = refl
second_holds false false h = h

is_false : (a : Bool) → not a ≡ true → a ≡ false
is_false true h = cc
is_false false h = refl

abbrev is_plain : App → Bool
is_plain a = a.top.is_plain

pub returns : goal.returns
returns c =
    let top : app_of c.subcommand_required.result ≡ top_command =
    rw (c.subcommand_required.ensures, c.after_help.ensures, c.about.ensures, c.version.ensures, c.no_binary_name.ensures, c.in_ok-bin_name.ensures.0)
    (ap (λ (a : App). record a { top = record a.top { no_binary_name = true; has_version = true; subcommand_required = true } }) c.new.ensures.app) in
    let offline_local = is_false _ (first_holds _ _ (second_holds _ _ (second_holds _ _ (ap is_plain c.in_ok-offline_command.ensures)))) in
    let check_local = is_false _ (first_holds _ _ (second_holds _ _ (second_holds _ _ (ap is_plain c.in_ok-check_policy_command.ensures)))) in
    let replay_local = is_false _ (first_holds _ _ (second_holds _ _ (second_holds _ _ (ap is_plain c.in_ok-replay_command.ensures)))) in
    let serve_local = is_false _ (first_holds _ _ (second_holds _ _ (second_holds _ _ (ap is_plain c.in_ok-serve_command.ensures)))) in
    let verify_local = is_false _ (first_holds _ _ (second_holds _ _ (second_holds _ _ (ap is_plain c.in_ok-verify_command.ensures)))) in
    let explain_local = is_false _ (first_holds _ _ (second_holds _ _ (second_holds _ _ (ap is_plain c.in_ok-explain_command.ensures)))) in
    let first = c.in_ok-subcommand.ensures.shape offline_local ∙ ap₂ with_subcommand top (ap (λ (a : App). a.top) c.in_ok-offline_command.ensures) in
    let second = c.in_ok-subcommand-2.ensures.shape check_local ∙ ap₂ with_subcommand first (ap (λ (a : App). a.top) c.in_ok-check_policy_command.ensures) in
    let third = c.in_ok-subcommand-3.ensures.shape replay_local ∙ ap₂ with_subcommand second (ap (λ (a : App). a.top) c.in_ok-replay_command.ensures) in
    let fourth = c.in_ok-subcommand-4.ensures.shape serve_local ∙ ap₂ with_subcommand third (ap (λ (a : App). a.top) c.in_ok-serve_command.ensures) in
    let fifth = c.in_ok-subcommand-5.ensures.shape verify_local ∙ ap₂ with_subcommand fourth (ap (λ (a : App). a.top) c.in_ok-verify_command.ensures) in
    IfOk-weaker c.subcommand-6.result _ _ (λ r h. h.shape explain_local ∙ ap₂ with_subcommand fifth (ap (λ (a : App). a.top) c.in_ok-explain_command.ensures)) c.subcommand-6.ensures
