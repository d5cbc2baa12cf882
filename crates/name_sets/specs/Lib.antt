pub mod IdSet
pub mod Least
pub mod Limit
pub mod NameLists
pub mod Row
pub mod RowBack
pub mod Search
pub mod Texts
