mod Characters
mod Numbers
mod BareRanges
mod Expressions
mod Statements
mod Functions
mod Resolution
mod Bodies
