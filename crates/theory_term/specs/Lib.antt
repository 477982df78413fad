pub mod Solves
