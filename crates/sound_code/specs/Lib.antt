pub mod StopWords
pub mod Executable
pub mod SoundLaws
