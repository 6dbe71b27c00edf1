-- The lines of a text of calls, one after another.
use Rattle.std.proofs.Common.{◌≡◌, ℕ, ◌+◌, Bool, true, false, cond, List, [], ◌∷◌, Option, Some, None, Result, Ok, Err, refl, sym, ap, ◌∙◌}
use Rattle.std.specs.Option.{option_map}
use Rattle.flow_prefix.specs.Reading.{cut_at}
use Rattle.flow_prefix.proofs.PartsLaws.{slice_split-cut, slice_split-whole}
use Rattle.sequences.specs.Options.{◌>>=◌}
use Rattle.policy_text.specs.Words.{lines_of}
use Rattle.replay_text.specs.Lists.{AskedCalls, no_calls, is_passed_over, list_after, list_after_line, or_line, calls_of_lines, calls_of_text}

-- what is read after a line
abbrev pub go_on : ℕ → List (List ℕ) → Option (Bool × AskedCalls) → Result AskedCalls ℕ
go_on n others None = Err n
go_on n others (Some x) = calls_of_lines x.0 x.1 (n + 1) others

not_skipped : (n : ℕ) (others : List (List ℕ)) (o : Option AskedCalls) → or_line n o (λ more. calls_of_lines true more (n + 1) others) ≡ go_on n others (o >>= λ more. Some (true, more))
not_skipped n others (Some more) = refl
not_skipped n others None = refl

skip_or : (b : Bool) (n : ℕ) (others : List (List ℕ)) (started : Bool) (list : AskedCalls) (o : Option AskedCalls)
    → cond b (calls_of_lines started list (n + 1) others) (or_line n o (λ more. calls_of_lines true more (n + 1) others)) ≡ go_on n others (cond b (Some (started, list)) (o >>= λ more. Some (true, more)))
skip_or true n others started list o = refl
skip_or false n others started list o = not_skipped n others o

pub read_lines-cons : (started : Bool) (list : AskedCalls) (n : ℕ) (line : List ℕ) (others : List (List ℕ)) → calls_of_lines started list n (line ∷ others) ≡ go_on n others (list_after_line started list line)
unfolding calls_of_lines list_after_line
read_lines-cons started list n line others = skip_or (is_passed_over line) n others started list (list_after started list line)

pub list_of-start : (text : List ℕ) → calls_of_lines false no_calls 1 (lines_of text) ≡ calls_of_text text
unfolding calls_of_text
list_of-start text = refl

read_lines-cut : (started : Bool) (list : AskedCalls) (n : ℕ) (text line after : List ℕ) → cut_at 10 text ≡ Some (line, after) → calls_of_lines started list n (lines_of text) ≡ go_on n (lines_of after) (list_after_line started list line)
read_lines-cut started list n text line after e = ap (calls_of_lines started list n) (slice_split-cut 10 text line after e) ∙ read_lines-cons started list n line (lines_of after)

read_lines-whole : (started : Bool) (list : AskedCalls) (n : ℕ) (text : List ℕ) → cut_at 10 text ≡ None → calls_of_lines started list n (lines_of text) ≡ go_on n [] (list_after_line started list text)
read_lines-whole started list n text e = ap (calls_of_lines started list n) (slice_split-whole 10 text e) ∙ read_lines-cons started list n text []

-- a turn of the loop over the lines
pub read_lines-turn : (started next : Bool) (list more : AskedCalls) (n : ℕ) (text line after : List ℕ) → cut_at 10 text ≡ Some (line, after) → list_after_line started list line ≡ Some (next, more)
    → calls_of_lines started list n (lines_of text) ≡ calls_of_lines next more (n + 1) (lines_of after)
read_lines-turn started next list more n text line after e read = read_lines-cut started list n text line after e ∙ ap (go_on n (lines_of after)) read

-- a line that asks for nothing
pub read_lines-stop : (started : Bool) (list : AskedCalls) (n : ℕ) (text line after : List ℕ) → cut_at 10 text ≡ Some (line, after) → list_after_line started list line ≡ None → calls_of_lines started list n (lines_of text) ≡ Err n
read_lines-stop started list n text line after e read = read_lines-cut started list n text line after e ∙ ap (go_on n (lines_of after)) read

pub read_lines-nil : (started : Bool) (list : AskedCalls) (n : ℕ) → calls_of_lines started list n [] ≡ Ok list
unfolding calls_of_lines
read_lines-nil started list n = refl

-- the last line
pub read_lines-last : (started next : Bool) (list more : AskedCalls) (n : ℕ) (text : List ℕ) → cut_at 10 text ≡ None → list_after_line started list text ≡ Some (next, more) → calls_of_lines started list n (lines_of text) ≡ Ok more
read_lines-last started next list more n text e read = read_lines-whole started list n text e ∙ ap (go_on n []) read ∙ read_lines-nil next more (n + 1)

-- the last line, where it asks for nothing
pub read_lines-last_stop : (started : Bool) (list : AskedCalls) (n : ℕ) (text : List ℕ) → cut_at 10 text ≡ None → list_after_line started list text ≡ None → calls_of_lines started list n (lines_of text) ≡ Err n
read_lines-last_stop started list n text e read = read_lines-whole started list n text e ∙ ap (go_on n []) read

-- what a line was read as, by what its reader answered
abbrev pub read_as : AskedCalls → Option Bool → Option (Bool × AskedCalls)
read_as list None = None
read_as list (Some started) = Some (started, list)

pub read_is : (list : AskedCalls) (o v : Option Bool) (s : Option (Bool × AskedCalls)) → option_map (λ started. (started, list)) o ≡ s → o ≡ v → s ≡ read_as list v
read_is list None None s e is = sym e
read_is list (Some a) None s e is = absurd cc
read_is list None (Some b) s e is = absurd cc
read_is list (Some a) (Some b) s e is = sym e ∙ ap (read_as list) is
