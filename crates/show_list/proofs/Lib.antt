pub mod Underway
pub mod Printed
