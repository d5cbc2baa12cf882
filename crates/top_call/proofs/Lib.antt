mod Ranges
mod Asking
mod Explaining
