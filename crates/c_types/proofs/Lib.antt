pub mod Bindings
pub mod Counts
pub mod TransformedFields
pub mod DefinitionsByIndex
pub mod Measures
pub mod Hiding
pub mod Samples
pub mod FoldsAtNode
pub mod StatementsByNode
pub mod TreesCross
mod ExampleNames
mod ExampleOperators
mod ExampleCalls
mod ExampleJumps
mod ExampleTexts
mod ExampleInitialisers
mod ExampleTransformers
mod ExampleOrder
mod ExampleLimits
mod ExamplePrograms
mod ExampleSizes
