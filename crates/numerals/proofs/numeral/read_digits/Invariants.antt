use Rattle.std.proofs.Common.{◌≡◌, ◌≤◌, drop}
use Rattle.numerals.proofs.NumeralLaws.{digits_from}
use Rattle.numerals.proofs.numeral.read_digits.Given as goal

abbrev pub invariant-loop-byte : goal.invariant-loop-byte
invariant-loop-byte l = record {
  reading : digits_from l.radix l.most l.value (drop l.byte-index l.word) ≡ digits_from l.radix l.most 0 l.word;
  bound : l.value ≤ l.most;
}
