pub mod Marked
pub mod Post
