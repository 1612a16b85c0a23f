pub mod Laws
pub mod Stretches
pub mod Sets
