pub mod UsedIds
pub mod StoredBodies
pub mod DirectUses
pub mod Room
pub mod Counting
pub mod FlowCheckIns
