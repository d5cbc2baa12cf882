pub mod Causes
pub mod Sinks
pub mod Files
pub mod MemorySink
pub mod MemoryFiles
pub mod formers
