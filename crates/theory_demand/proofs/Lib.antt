pub mod Refusing
pub mod Handing
pub mod Demand3
pub mod Determined
pub mod Possible
pub mod Stretches
pub mod Checking
pub mod Printing
