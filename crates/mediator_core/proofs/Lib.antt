pub mod Holding
pub mod RunLaws
pub mod SecrecyLaws
pub mod AnsweredLaws
