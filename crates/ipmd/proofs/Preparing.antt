-- Files that can't be read before anything is served.
use Rattle.std.proofs.Common.{◌≡◌, ℕ, List, Ok, inl, inr, refl, subst, sym}
use Rattle.ipmd_settings.specs.Asked.{AskedService}
use Rattle.ipmd_settings.specs.Reading.{settings_of}
use Rattle.ipmd_commands.specs.declared.fault.Fault.{Fault as ProgramFault}
use Rattle.ipmd_commands.specs.Failures.{IsFileFault}
use Rattle.ipmd.specs.Serving.{RefusesToPrepare}

-- the settings
pub no_settings : (path : List ℕ) (e : ProgramFault) → IsFileFault path e → RefusesToPrepare path e
no_settings path e (inl is) = subst (RefusesToPrepare path) (sym is) tt
no_settings path e (inr (text, same, (why, is))) = subst (RefusesToPrepare path) (sym is) (inl (text, same, (why, refl)))

-- the policy
pub no_policy : (path text : List ℕ) (asked : AskedService) (e : ProgramFault) → settings_of text ≡ Ok asked → IsFileFault asked.policy e → RefusesToPrepare path e
no_policy path text asked e read (inl is) = subst (RefusesToPrepare path) (sym is) tt
no_policy path text asked e read (inr (name, same, (why, is))) = subst (RefusesToPrepare path) (sym is) (inr (text, asked, read, inr (name, same, (why, refl))))
