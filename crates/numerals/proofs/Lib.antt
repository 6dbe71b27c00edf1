pub mod NumeralLaws
