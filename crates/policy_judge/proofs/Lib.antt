pub mod PairLaws
pub mod OccurrenceLaws
pub mod FirstRuleLaws
pub mod NeverLaws
