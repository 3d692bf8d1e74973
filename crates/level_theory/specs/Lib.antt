pub mod Words
pub mod Levels
pub mod Texts
pub mod Reading
pub mod Accepting
pub mod Refusing
