pub mod OctetLaws
pub mod SequenceLaws
pub mod BeforeLaws
pub mod JoinLaws
pub mod OptionLaws
pub mod ResultLaws
pub mod ListLaws
