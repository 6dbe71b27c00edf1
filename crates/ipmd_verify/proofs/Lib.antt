pub mod ReadingLaws
mod Refusing
