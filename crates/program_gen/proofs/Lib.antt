mod Examples
pub mod Drawing
pub mod Growing
pub mod Middle
