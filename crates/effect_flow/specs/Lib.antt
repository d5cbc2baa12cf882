pub mod Parts
pub mod Flows
pub mod FlowLaws
