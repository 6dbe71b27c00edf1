pub mod GroupTableLaws
pub mod AddingLaws
pub mod NameLaws
pub mod ShareLaws
