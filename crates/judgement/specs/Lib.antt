pub mod Wanted
pub mod Typing
pub mod WellTyped
pub mod Tested
pub mod Exactly
pub mod CasesTested
