pub mod ReturnedInts
