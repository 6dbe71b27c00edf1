pub mod SharingLaws
mod AlikeLaws
pub mod KeyLaws
pub mod JudgeLaws
pub mod TermsLaws
mod TotalLaws
mod StretchLaws
