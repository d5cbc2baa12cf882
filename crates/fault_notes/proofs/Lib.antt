mod Fronts
mod NotesGrow
mod ShownBytes
mod Trying
