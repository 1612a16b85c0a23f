pub mod Views
pub mod Cases
