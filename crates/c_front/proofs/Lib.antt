pub mod Layers
pub mod FaultsWithin
pub mod ExpressionFaultsWithin
pub mod ExpressionsWithin
pub mod StatementsWithin
pub mod DefinitionsWithin
pub mod TokensWithin
pub mod TextsWithin
