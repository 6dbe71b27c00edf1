pub mod Places
pub mod CallLaws
pub mod HeldLaws
