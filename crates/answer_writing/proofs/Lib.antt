pub mod PieceLaws
pub mod Sending
