mod Expressions
mod Statements
mod Rooms
