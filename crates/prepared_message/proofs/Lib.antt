pub mod SetLaws
pub mod UseLaws
pub mod ApplyLaws
pub mod FindLaws
pub mod AheadLaws
pub mod WidthLaws
