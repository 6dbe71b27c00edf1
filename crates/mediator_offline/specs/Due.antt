-- What is due for a subscriber, as a relation: messages that are built one after another.
use Rattle.std.specs.Prelude.{◌≡◌, ℕ, List, [], ◌∷◌, ◌++◌, length}
use Rattle.subscriber_stream.specs.Parts.{parts}
use Rattle.mediator_offline.specs.declared.job.OfflineJob.{OfflineJob}
use Rattle.mediator_offline.specs.Offline.{disclosed_by}
use Rattle.mediator_offline.specs.HandsOut.{HandsOutAll}

-- the place behind all parts of what messages disclose
abbrev pub end_by : OfflineJob → List (List ℕ) → ℕ
end_by job messages = length (parts (disclosed_by job messages))

-- after messages that were read before, and were handed out up to place p, others are read, and this is written: for each
-- that is read, messages that are built one after another from where the earlier ones ended, to the end of all that is
-- disclosed by then
abbrev pub IsWrittenFor : OfflineJob → List (List ℕ) → ℕ → List (List ℕ) → List (List ℕ) → Type 0
IsWrittenFor job before p [] written = written ≡ []
IsWrittenFor job before p (octets ∷ messages) written =
    (next later : List (List ℕ)) × (written ≡ next ++ later)
    × HandsOutAll (disclosed_by job (before ++ octets ∷ [])) job.now job.target p next (end_by job (before ++ octets ∷ []))
    × IsWrittenFor job (before ++ octets ∷ []) (end_by job (before ++ octets ∷ [])) messages later
