mod Rows
mod Placed
