pub mod CutLaws
pub mod NumberLaws
pub mod ListLaws
pub mod SpaceLaws
pub mod LineLaws
pub mod LimitLaws
pub mod TextLaws
