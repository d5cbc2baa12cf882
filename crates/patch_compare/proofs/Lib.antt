pub mod SameDecides
pub mod Items
pub mod Found
pub mod Chosen
pub mod Lists
