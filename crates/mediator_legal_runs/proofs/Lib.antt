pub mod NumberLaws
pub mod BearingOut
pub mod RunLaws
