pub mod QueueLaws
pub mod SplitLaws
pub mod LineLaws
pub mod LinePartLaws
pub mod NotingLaws
pub mod StandingLaws
pub mod PartLaws
pub mod StretchLaws
