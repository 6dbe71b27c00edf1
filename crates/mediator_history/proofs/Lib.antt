pub mod HistoryLaws
pub mod LastLaws
pub mod SinceLaws
pub mod Counts
pub mod ListFilters
pub mod EntryLaws
pub mod CutLaws
pub mod CountingLaws
