pub mod Limits
pub mod Rules
pub mod Layout
pub mod Views
pub mod CasesLayout
