mod Examples
pub mod TextLemmas
pub mod SetLemmas
mod LeastLemmas
mod RowLemmas
mod RowSetLemmas
mod UniteLemmas
