pub mod Answering
pub mod ReadingOn
