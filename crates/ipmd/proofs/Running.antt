-- Runs that follow each other.
use Rattle.std.proofs.Common.{Bool, ◌≡◌, ◌⊎◌, inl, inr, ℕ, ◌+◌, ◌≤◌, ◌<◌, true, false, not, ◌&&◌, true≢false, List, [], ◌∷◌, ◌++◌, length, Option, refl, sym, ap, ◌∙◌, subst, arith, append-nil}
use Rattle.std.specs.Io.KnownBytes.{Appends}
use Rattle.std.specs.List.{flat_map}
use Rattle.std.proofs.KnownBytes.{Appends-trans, Appends-nil, Keeps-refl}
use Rattle.std.proofs.lemmas.List.{length-append}
use Rattle.std.proofs.lemmas.List.Concat.{flat_map-append}
use Rattle.ipmd_settings.specs.Asked.{AskedService}
use Rattle.mediator_server.specs.declared.plan.RunPlan.{RunPlan}
use Rattle.mediator_server.specs.Listening.{IsServed}
use Rattle.mediator_calls.specs.declared.limits.Limits.{Limits}
use Rattle.mediator_calls.specs.Limited.{AreAllowed, RefusesLimits}
use Rattle.mediator_state.specs.declared.fault.Fault.{Fault}
use Rattle.mediator_state.specs.declared.fault.Fault.TheVariants as fault
use Rattle.mediator_server.specs.declared.listening.Fault.TheVariants as listen
use Rattle.ipmd_commands.specs.declared.fault.Fault.{Fault as ProgramFault}
use Rattle.ipmd_commands.specs.declared.fault.Fault.TheVariants.{OutOfMemory}
use Rattle.ipmd_commands.specs.declared.failure.Place.TheVariants.{Output, RandomNumbers}
use Rattle.ipmd_commands.specs.Failures.{FailedAt}
use Rattle.ipmd_commands.specs.HexText.{WritesSomeOf}
use Rattle.ipmd_commands.specs.Status.{mediator_fault_of}
use Rattle.ipmd_run_journals.specs.Keeping.{IsKeepingFault, IsSomeFileFault, part_name}
use Rattle.ipmd_run_journals.specs.Numbering.{file_name}
use Rattle.ipmd.specs.declared.serve.Service.{Service}
use Rattle.ipmd.specs.Serving.{IsAskedFor, Run, IsRun, AreFull, policy_after, run_line, MakesRun, ServesRuns, StopsBehindRuns, StopsRun, StopsServingRuns, IsBeginFault, IsListenFault, RefusesToTell, IsToRun}

-- the first run is to be made
pub begins : (service : Service) (held : Option (List ℕ)) → IsAskedFor service → IsToRun service.plan service.runs 1 held held
begins service held asked = record {
  text = asked.text;
  asked = asked.asked;
  read = asked.read;
  first = asked.policy;
  before = [];
  policy = asked.policy;
  are_full = refl;
  plan_is = asked.is.plan_is;
  runs_are = asked.is.runs_are;
  counted = refl;
  allowed = asked.some_run;
  written = Appends-nil held;
}

-- a run by the plan
pub is_run : (plan : RunPlan) (runs run : ℕ) (held holds : Option (List ℕ)) (made : Run) (so : IsToRun plan runs run held holds) → IsServed plan [] made.history made.accepted made.handed → IsRun so.asked so.policy made
is_run plan runs run held holds made so is_served = record { plan = plan; plan_is = so.plan_is; is_served = is_served }

-- a run more whose journal was full
full_more : (asked : AskedService) (first : List ℕ) (before : List Run) (policy : List ℕ) (made : Run) → AreFull asked first before policy → IsRun asked policy made → made.full ≡ true → made.stopped ≡ false
    → AreFull asked first (before ++ made ∷ []) (policy_after policy made.history)
full_more asked first [] policy made are is full unstopped = (subst (λ p. IsRun asked p made) are is, full, unstopped, ap (λ p. policy_after p made.history) are)
full_more asked first (run ∷ before) policy made are is full unstopped = (are.0, are.1, are.2, full_more asked (policy_after first run.history) before policy made are.3 is full unstopped)

-- another run follows
followed : (full stopped : Bool) → true ≡ full && not stopped → (full ≡ true) × (stopped ≡ false)
followed true false is = (refl, refl)
followed true true is = absurd (true≢false is)
followed false stopped is = absurd (true≢false is)

-- none does
unfollowed : (full stopped : Bool) → false ≡ full && not stopped → (full ≡ false) ⊎ (stopped ≡ true)
unfollowed false stopped is = inl refl
unfollowed true true is = inr refl
unfollowed true false is = absurd (true≢false (sym is))

told_more : (before : List Run) (made : Run) (held holds writes : Option (List ℕ)) → Appends held holds (flat_map run_line before) → Appends holds writes (run_line made) → Appends held writes (flat_map run_line (before ++ made ∷ []))
told_more before made held holds writes so more =
    subst (Appends held writes) (sym (flat_map-append run_line before (made ∷ []) ∙ ap (λ t. flat_map run_line before ++ t) (append-nil (run_line made)))) (Appends-trans held holds writes (flat_map run_line before) (run_line made) so more)

-- another run is to follow
pub goes_on : (plan next : RunPlan) (runs run : ℕ) (held holds writes : Option (List ℕ)) → IsToRun plan runs run held holds → MakesRun true plan next holds writes → run < runs → IsToRun next runs (run + 1) held writes
goes_on plan next runs run held holds writes so makes more = record {
  text = so.text;
  asked = so.asked;
  read = so.read;
  first = so.first;
  before = so.before ++ makes.made ∷ [];
  policy = policy_after so.policy makes.made.history;
  are_full = full_more so.asked so.first so.before so.policy makes.made so.are_full (is_run plan runs run held holds makes.made so makes.is_served) follows.0 follows.1;
  plan_is = makes.renewed refl so.asked so.policy so.plan_is;
  runs_are = so.runs_are;
  counted = omega (arith, so.counted, length-append so.before (makes.made ∷ []));
  allowed = omega (arith, more);
  written = told_more so.before makes.made held holds writes so.written makes.told;
} where
  follows : (makes.made.full ≡ true) × (makes.made.stopped ≡ false)
  follows = followed makes.made.full makes.made.stopped makes.more_is

-- it was the last one
ends : (plan next : RunPlan) (runs run : ℕ) (more : Bool) (held holds writes : Option (List ℕ)) → IsToRun plan runs run held holds → MakesRun more plan next holds writes → (more ≡ false) ⊎ (runs ≤ run) → ServesRuns held writes
ends plan next runs run more held holds writes so makes last = record {
  text = so.text;
  asked = so.asked;
  read = so.read;
  first = so.first;
  before = so.before;
  policy = so.policy;
  are_full = so.are_full;
  last = makes.made;
  is_run = is_run plan runs run held holds makes.made so makes.is_served;
  few = omega (arith, so.counted, so.allowed, so.runs_are);
  ends = ended last;
  written = told_more so.before makes.made held holds writes so.written makes.told;
} where
  unmade : (makes.made.full ≡ false) ⊎ (makes.made.stopped ≡ true) → (makes.made.full ≡ false) ⊎ ((makes.made.stopped ≡ true) ⊎ (so.asked.runs ≡ length so.before + 1))
  unmade (inl not_full) = inl not_full
  unmade (inr stopped) = inr (inl stopped)

  ended : (more ≡ false) ⊎ (runs ≤ run) → (makes.made.full ≡ false) ⊎ ((makes.made.stopped ≡ true) ⊎ (so.asked.runs ≡ length so.before + 1))
  ended (inl none) = unmade (unfollowed makes.made.full makes.made.stopped (sym none ∙ makes.more_is))
  ended (inr all) = inr (inr (omega (arith, so.counted, so.allowed, so.runs_are, all)))

pub ends_early : (plan next : RunPlan) (runs run : ℕ) (more : Bool) (held holds writes : Option (List ℕ)) → IsToRun plan runs run held holds → MakesRun more plan next holds writes → more ≡ false → ServesRuns held writes
ends_early plan next runs run more held holds writes so makes none = ends plan next runs run more held holds writes so makes (inl none)

pub ends_at_last : (plan next : RunPlan) (runs run : ℕ) (more : Bool) (held holds writes : Option (List ℕ)) → IsToRun plan runs run held holds → MakesRun more plan next holds writes → runs ≤ run → ServesRuns held writes
ends_at_last plan next runs run more held holds writes so makes all = ends plan next runs run more held holds writes so makes (inr all)

-- it stops behind the runs that were told
pub stops : (plan : RunPlan) (runs run : ℕ) (held holds writes : Option (List ℕ)) (e : ProgramFault) → IsToRun plan runs run held holds → StopsRun e plan holds writes → StopsServingRuns e held writes
stops plan runs run held holds writes e so stopped = record {
  text = so.text;
  asked = so.asked;
  read = so.read;
  first = so.first;
  before = so.before;
  policy = so.policy;
  are_full = so.are_full;
  between = holds;
  written = so.written;
  stops = behind stopped;
} where
  behind : StopsRun e plan holds writes → StopsBehindRuns e so.asked so.policy holds writes
  behind (inl fault) = inl fault
  behind (inr (made, is_served, refuses)) = inr (made, is_run plan runs run held holds made so is_served, refuses)

-- no run is made
pub stops_first : (service : Service) (held : Option (List ℕ)) (e : ProgramFault) → IsAskedFor service → IsBeginFault e → StopsServingRuns e held held
stops_first service held e asked fault = stops service.plan service.runs 1 held held held e (begins service held asked) (inl (fault, Keeps-refl held))

-- ---- faults

-- a folder that can't be read
pub folder_begins : (e : ProgramFault) → IsSomeFileFault e → IsBeginFault e
folder_begins e is = inr (inr is)

-- no random numbers
pub no_numbers : (e : ProgramFault) → (e ≡ OutOfMemory) ⊎ FailedAt RandomNumbers e → IsBeginFault e
no_numbers e (inl is) = inr (inr ([], inl is))
no_numbers e (inr failed) = inr (inl failed)

-- a journal's file
pub kept_somewhere : (path : List ℕ) (number : ℕ) (e : ProgramFault) → IsKeepingFault path number e → IsSomeFileFault e
kept_somewhere path number e (inl fault) = (part_name (file_name path number), fault)
kept_somewhere path number e (inr fault) = (file_name path number, fault)

-- a mediator with limits that it may have is refused for memory alone
pub new_refused : (why : Fault) (limits : Limits) → RefusesLimits why limits → AreAllowed limits → IsListenFault (mediator_fault_of why)
new_refused fault.BadLimits limits refused allowed = absurd (refused allowed)
new_refused fault.OutOfMemory limits refused allowed = (listen.Mediator fault.OutOfMemory, refl)
new_refused _ limits refused allowed = absurd refused

-- nothing was written of a run's line, some of it, or all of it
pub told_nothing : (made : Run) (held : Option (List ℕ)) → RefusesToTell OutOfMemory made held held
told_nothing made held = inl (refl, Keeps-refl held)

pub told_some : (e : ProgramFault) (made : Run) (held holds : Option (List ℕ)) → FailedAt Output e → WritesSomeOf (run_line made) held holds → RefusesToTell e made held holds
told_some e made held holds failed some = inr (inl (failed, some))

pub told_all : (e : ProgramFault) (made : Run) (held holds : Option (List ℕ)) → IsSomeFileFault e → Appends held holds (run_line made) → RefusesToTell e made held holds
told_all e made held holds is told = inr (inr (is, told))
