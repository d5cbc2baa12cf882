pub mod Conversions
pub mod Firsts
pub mod InferredByForm
pub mod Needs
