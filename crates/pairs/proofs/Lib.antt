pub mod Heads
pub mod Loop
pub mod Stretch
