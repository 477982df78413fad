pub mod Refusal
pub mod Sheet
pub mod Labelled
pub mod Text
pub mod Drawing
pub mod Term
