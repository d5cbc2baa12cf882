mod ConstantWords
mod Limits
mod Unbroken
mod FineCode
mod TextCode
