-- Lists of runs, as they are kept.
use Rattle.std.specs.Prelude.{List, [], ◌∷◌, Some, None}
use Rattle.ipfix_records.specs.Runs.{RunOf}
use Rattle.ipfix_records.specs.declared.records.Runs.{Runs}
use Rattle.ipfix_records.specs.declared.records.Runs.TheVariants.{Few, Many}

-- the runs, one after another
abbrev pub runs_in : Runs → List RunOf
runs_in (Few None) = []
runs_in (Few (Some run)) = run ∷ []
runs_in (Many runs) = runs.items
