pub mod Numbers
pub mod Input
pub mod Printed
pub mod Texts
pub mod Cases
