pub mod PieceLaws
pub mod RunLaws
pub mod GapLaws
pub mod LayoutLaws
