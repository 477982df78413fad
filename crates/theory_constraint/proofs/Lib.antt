pub mod Members
pub mod Graphs
pub mod Literals
pub mod Once
pub mod Normality
pub mod Fitting
pub mod Sheets
