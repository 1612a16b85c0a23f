pub mod Numbers
pub mod Rounding
