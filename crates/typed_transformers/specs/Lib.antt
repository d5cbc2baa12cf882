pub mod TransformerTypes
