mod FirstLine
mod Adding
