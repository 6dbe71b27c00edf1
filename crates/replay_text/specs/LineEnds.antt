-- A policy in one line.
use Rattle.std.specs.Prelude.{ℕ, List, map, encode_utf8_all, ◌==◌, if◌then◌else◌}
use Rattle.std.specs.Str.{chars}

-- each semicolon (59) stands for a line feed (10)
abbrev pub as_line_end : ℕ → ℕ
as_line_end c = if c == 59 then 10 else c

abbrev pub with_line_ends : List ℕ → List ℕ
with_line_ends text = encode_utf8_all (map as_line_end (chars text))
