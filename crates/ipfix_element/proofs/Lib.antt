pub mod RegistryLaws
pub mod NameLaws
