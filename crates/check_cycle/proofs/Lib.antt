pub mod Scans
pub mod Checked
