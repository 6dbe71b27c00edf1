pub mod Numbers
pub mod VariableLaws
