pub mod ArgumentLaws
pub mod LineLaws
