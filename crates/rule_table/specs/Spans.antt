-- Addresses in a row, of one class.
use Rattle.std.specs.Prelude.{◌≡◌, ◌≤◌, ℕ, List}
use Rattle.rule_table.specs.declared.span.Span.{Span}
use Rattle.rule_table.specs.declared.span.WideSpan.{WideSpan}
use Rattle.rule_table.specs.declared.span.Spans.{Spans}
use Rattle.rule_table.specs.Cuts.{most_cuts}
use Rattle.rule_table.specs.Classes.{class_of}

-- each address of IPv4 from the first to the last has the class
pub record IsSpan (cuts : List ℕ) (span : Span) : Type 0 where
  pub few : span.class ≤ most_cuts
  pub each : (address : ℕ) → span.first ≤ address → address ≤ span.last → class_of cuts address ≡ span.class

-- the address is among them
pub record IsAmong (address : ℕ) (span : Span) : Type 0 where
  pub above : span.first ≤ address
  pub below : address ≤ span.last

-- each address of IPv6 from the first to the last has the class
pub record IsWideSpan (cuts : List ℕ) (span : WideSpan) : Type 0 where
  pub few : span.class ≤ most_cuts
  pub each : (address : ℕ) → span.first ≤ address → address ≤ span.last → class_of cuts address ≡ span.class

pub record IsWideAmong (address : ℕ) (span : WideSpan) : Type 0 where
  pub above : span.first ≤ address
  pub below : address ≤ span.last

-- those of both
pub record AreSpans (cuts : List ℕ) (spans : Spans) : Type 0 where
  pub narrow : IsSpan cuts spans.narrow
  pub wide : IsWideSpan cuts spans.wide

-- the last spans that were met of either side
pub record AreBothSpans (cuts : List ℕ) (sources destinations : Spans) : Type 0 where
  pub of_sources : AreSpans cuts sources
  pub of_destinations : AreSpans cuts destinations
