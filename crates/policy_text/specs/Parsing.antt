-- Reading a policy's text, with its first fault, by this project's own rule: the first faulty line, and in it the first word
-- that doesn't fit.
use Rattle.std.specs.Prelude.{ℕ, ◌+◌, List, [], ◌∷◌, Option, Some, None, Result, Ok, Err, if◌then◌else◌, codes}
use Rattle.std.specs.Str.{bytes_eq}
use Rattle.sequences.specs.Results.{◌>>=◌}
use Rattle.policy_text.specs.declared.fault.FaultKind.{FaultKind}
use Rattle.policy_text.specs.declared.fault.FaultKind.TheVariants.{NoHeader}
use Rattle.policy_text.specs.declared.fault.Fault.{Fault}
use Rattle.policy_text.specs.declared.version.Version.{Version}
use Rattle.policy_text.specs.declared.version.Version.TheVariants.{One, Two}
use Rattle.policy_text.specs.Words.{Word, words_of, lines_of, is_skipped}
use Rattle.policy_text.specs.Policies.{PolicyMeaning, without_lines}
use Rattle.policy_text.specs.Results.{at_line, then_read}
use Rattle.policy_text.specs.Lines.{policy_after_line}

-- the version of this number
abbrev pub numbered_version : Word → Option Version
numbered_version word = if bytes_eq word (codes "1") then Some One else if bytes_eq word (codes "2") then Some Two else None

-- the version that the words `policy 1` or `policy 2` name
unfoldable pub version_of : List Word → Option Version
version_of [] = None
version_of (w ∷ []) = None
version_of (w ∷ v ∷ []) = if bytes_eq w (codes "policy") then numbered_version v else None
version_of (w ∷ v ∷ u ∷ words) = None

-- the policy after a header of this version
abbrev pub after_header : Option Version → Result PolicyMeaning FaultKind
after_header None = Err NoHeader
after_header (Some version) = Ok (without_lines version)

-- the policy after a line that isn't skipped, of which the first is the header
unfoldable pub step : Option PolicyMeaning → List Word → Result PolicyMeaning FaultKind
step None words = after_header (version_of words)
step (Some policy) words = policy_after_line policy words

-- the same of a line that may be skipped; before the header there is no policy
unfoldable pub line_step : Option PolicyMeaning → List ℕ → Result (Option PolicyMeaning) FaultKind
line_step so_far line =
    if is_skipped (words_of line) then Ok so_far
    else (step so_far (words_of line) >>= λ policy. Ok (Some policy))

-- the policy after these lines, of which the first has number n
unfoldable pub read_lines : Option PolicyMeaning → ℕ → List (List ℕ) → Result PolicyMeaning Fault
read_lines None n [] = Err (record { line = 1; kind = NoHeader })
read_lines (Some policy) n [] = Ok policy
read_lines so_far n (line ∷ others) =
    if is_skipped (words_of line) then read_lines so_far (n + 1) others
    else then_read (at_line n (step so_far (words_of line))) (λ policy. read_lines (Some policy) (n + 1) others)

unfoldable pub policy_of : List ℕ → Result PolicyMeaning Fault
policy_of text = read_lines None 1 (lines_of text)
