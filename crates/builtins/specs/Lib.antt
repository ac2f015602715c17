pub mod Numbers
pub mod Builtins
