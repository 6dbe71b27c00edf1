-- The lines of a policy's text, one after another.
use Rattle.std.proofs.Common.{◌≡◌, ℕ, ◌+◌, Bool, true, false, cond, List, [], ◌∷◌, Option, Some, None, Result, Ok, Err, MatchBool, refl, ap, ◌∙◌}
use Rattle.flow_prefix.specs.Reading.{cut_at}
use Rattle.flow_prefix.proofs.PartsLaws.{slice_split-cut, slice_split-whole}
use Rattle.sequences.specs.Results.{◌>>=◌}
use Rattle.policy_text.specs.declared.fault.FaultKind.{FaultKind}
use Rattle.policy_text.specs.declared.fault.FaultKind.TheVariants.{NoHeader}
use Rattle.policy_text.specs.declared.fault.Fault.{Fault}
use Rattle.policy_text.specs.Words.{words_of, lines_of, is_skipped}
use Rattle.policy_text.specs.Policies.{PolicyMeaning}
use Rattle.policy_text.specs.Results.{Fails, at_line, then_read, is_memory, fault_at}
use Rattle.policy_text.specs.Parsing.{step, line_step, read_lines, policy_of}

-- what is read after a line
abbrev after_line : ℕ → List (List ℕ) → Option PolicyMeaning → Result PolicyMeaning Fault
after_line n others so_far = read_lines so_far (n + 1) others

not_skipped : (n : ℕ) (others : List (List ℕ)) (r : Result PolicyMeaning FaultKind) → then_read (at_line n r) (λ q. read_lines (Some q) (n + 1) others) ≡ then_read (at_line n (r >>= λ q. Ok (Some q))) (after_line n others)
not_skipped n others (Ok q) = refl
not_skipped n others (Err kind) = refl

skip_or : (b : Bool) (n : ℕ) (others : List (List ℕ)) (so_far : Option PolicyMeaning) (r : Result PolicyMeaning FaultKind) → cond b (read_lines so_far (n + 1) others) (then_read (at_line n r) (λ q. read_lines (Some q) (n + 1) others)) ≡ then_read (at_line n (cond b (Ok so_far) (r >>= λ q. Ok (Some q)))) (after_line n others)
skip_or true n others so_far r = refl
skip_or false n others so_far r = not_skipped n others r

pub read_lines-cons : (so_far : Option PolicyMeaning) (n : ℕ) (line : List ℕ) (others : List (List ℕ)) → read_lines so_far n (line ∷ others) ≡ then_read (at_line n (line_step so_far line)) (after_line n others)
unfolding read_lines line_step
read_lines-cons None n line others = skip_or (is_skipped (words_of line)) n others None (step None (words_of line))
read_lines-cons (Some p) n line others = skip_or (is_skipped (words_of line)) n others (Some p) (step (Some p) (words_of line))

pub policy_of-start : (text : List ℕ) → read_lines None 1 (lines_of text) ≡ policy_of text
unfolding policy_of
policy_of-start text = refl

pub read_lines-cut : (so_far : Option PolicyMeaning) (n : ℕ) (text line after : List ℕ) → cut_at 10 text ≡ Some (line, after) → read_lines so_far n (lines_of text) ≡ then_read (at_line n (line_step so_far line)) (after_line n (lines_of after))
read_lines-cut so_far n text line after e = ap (read_lines so_far n) (slice_split-cut 10 text line after e) ∙ read_lines-cons so_far n line (lines_of after)

pub read_lines-whole : (so_far : Option PolicyMeaning) (n : ℕ) (text : List ℕ) → cut_at 10 text ≡ None → read_lines so_far n (lines_of text) ≡ then_read (at_line n (line_step so_far text)) (after_line n [])
read_lines-whole so_far n text e = ap (read_lines so_far n) (slice_split-whole 10 text e) ∙ read_lines-cons so_far n text []

-- a turn of the loop over the lines
pub read_lines-turn : (so_far mid : Option PolicyMeaning) (n : ℕ) (text line after : List ℕ) → cut_at 10 text ≡ Some (line, after) → line_step so_far line ≡ Ok mid → read_lines so_far n (lines_of text) ≡ read_lines mid (n + 1) (lines_of after)
read_lines-turn so_far mid n text line after e read =
    read_lines-cut so_far n text line after e ∙ ap (λ r. then_read (at_line n r) (after_line n (lines_of after))) read

-- the last line
pub read_lines-last : (so_far mid : Option PolicyMeaning) (n : ℕ) (text : List ℕ) → cut_at 10 text ≡ None → line_step so_far text ≡ Ok mid → read_lines so_far n (lines_of text) ≡ read_lines mid (n + 1) []
read_lines-last so_far mid n text e read =
    read_lines-whole so_far n text e ∙ ap (λ r. then_read (at_line n r) (after_line n [])) read

pub read_lines-done : (p : PolicyMeaning) (n : ℕ) → read_lines (Some p) n [] ≡ Ok p
unfolding read_lines
read_lines-done p n = refl

pub read_lines-empty : (n : ℕ) → read_lines None n [] ≡ Err (record { line = 1; kind = NoHeader })
unfolding read_lines
read_lines-empty n = refl

-- a fault as parse reports it
abbrev pub Reports : Fault → Result PolicyMeaning Fault → Type 0
Reports fault read = MatchBool (is_memory fault.kind) (fault.line ≡ 0) (read ≡ Err fault)

-- a line's fault is that of the text
pub reports-line : (kind : FaultKind) (n : ℕ) (r : Result (Option PolicyMeaning) FaultKind) (f : Option PolicyMeaning → Result PolicyMeaning Fault) → Fails kind r → Reports (fault_at n kind) (then_read (at_line n r) f)
reports-line kind n r f fails = by_test (is_memory kind) fails
  where
    by_test : (b : Bool) → MatchBool b (Unit {0}) (r ≡ Err kind) → MatchBool b (cond b 0 n ≡ 0) (then_read (at_line n r) f ≡ Err (record { line = cond b 0 n; kind = kind }))
    by_test true e = refl
    by_test false e = ap (λ x. then_read (at_line n x) f) e

pub Reports-same : (fault : Fault) (r s : Result PolicyMeaning Fault) → r ≡ s → Reports fault s → Reports fault r
Reports-same fault r s e h = by_test (is_memory fault.kind) h
  where
    by_test : (b : Bool) → MatchBool b (fault.line ≡ 0) (s ≡ Err fault) → MatchBool b (fault.line ≡ 0) (r ≡ Err fault)
    by_test true h = h
    by_test false h = e ∙ h
