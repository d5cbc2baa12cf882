pub mod WordOperators
