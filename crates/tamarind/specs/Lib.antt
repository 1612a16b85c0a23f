pub mod Run
pub mod Exports
pub mod Pad
pub mod Budget
