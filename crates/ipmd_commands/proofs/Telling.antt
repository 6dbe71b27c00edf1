-- What is said, and what a device that did not fail was told.
use Rattle.std.proofs.Common.{◌≡◌, ℕ, List, [], ◌∷◌, ◌++◌, codes, append_assoc, Bool, true, false, Option, Some, None, sym, subst, subst₂, ◌∙◌}
use Rattle.std.specs.Prelude.{Result, Ok, Err, OnOk, IfSome}
use Rattle.std.specs.Io.KnownBytes.{Appends}
use Rattle.std.proofs.KnownBytes.{Appends-trans}
use Rattle.octet_io.specs.Failing.{FailsOnErr}
use Rattle.ipmd_commands.specs.declared.fault.Fault.{Fault}
use Rattle.ipmd_commands.specs.Failures.{failure_line, plain}
use Rattle.ipmd_commands.specs.Status.{Blames, NamesDevice, TellsLine, line_of_fault}

pub told : {X E : Type 0} (result : Result X E) (had_failed has_failed : Bool) (held holds : Option (List ℕ)) (text line : List ℕ)
    → OnOk result (Appends held holds text) → FailsOnErr had_failed has_failed result → text ≡ line → TellsLine (Some line) has_failed held holds
told (Ok x) had_failed has_failed held holds text line written failed same = λ sound. subst (Appends held holds) same written
told (Err e) had_failed has_failed held holds text line written failed same = λ sound. absurd (let bad : true ≡ false = sym failed ∙ sound in cc)

-- what failed was named, and then the fault was said
pub blames : (e : Fault) (failed has_failed : Bool) (held now holds : Option (List ℕ))
    → NamesDevice e failed held now → (has_failed ≡ false → failed ≡ false) → TellsLine (line_of_fault e) has_failed now holds → Blames e has_failed held holds
blames e failed has_failed held now holds names stays tells = λ sound.
    let note = names (stays sound) in
    (note.0, note.1, joined note.0 note.2 (line_of_fault e) (tells sound))
  where
    joined : (note : List ℕ) → Appends held now note → (line : Option (List ℕ)) → IfSome line (Appends now holds) → IfSome line (λ line. Appends held holds (note ++ line))
    joined note noted None told = tt
    joined note noted (Some line) told = Appends-trans held now holds note line noted told

-- a line is made of a name and of what is said of it
pub made_of : (name why shown said : List ℕ) → shown ≡ plain name → said ≡ plain why → codes "ipmd: " ++ (shown ++ (codes ": " ++ (said ++ 10 ∷ []))) ≡ failure_line name why
made_of name why shown said shows says =
    subst₂ (λ n w. codes "ipmd: " ++ (shown ++ (codes ": " ++ (said ++ 10 ∷ []))) ≡ codes "ipmd: " ++ n ++ codes ": " ++ w ++ 10 ∷ []) shows says (simp append_assoc)
