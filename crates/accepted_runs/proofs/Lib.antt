pub mod StoredBodies
pub mod SoundRuns
