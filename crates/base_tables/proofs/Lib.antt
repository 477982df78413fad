pub mod Stored
pub mod Tops
pub mod Parents
pub mod Held
pub mod TreeLaws
pub mod Climbing
