mod LeastPlaces
pub mod ValuesOfTypes
mod FoundValues
mod Examples
mod ExampleSorts
