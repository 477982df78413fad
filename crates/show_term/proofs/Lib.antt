pub mod Lists
pub mod Texts
pub mod Forest
pub mod SheetTerm
