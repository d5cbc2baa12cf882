mod EachRow
mod EachSlot
mod Examples
pub mod NameOrder
mod LeastNames
mod PlainSearch
mod Rows
