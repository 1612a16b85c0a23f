pub mod Refusals
pub mod Table
pub mod Conversion
pub mod Views
pub mod Cases
