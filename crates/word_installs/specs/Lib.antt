pub mod Freshened
pub mod TextRows
pub mod NewRows
pub mod Prepared
