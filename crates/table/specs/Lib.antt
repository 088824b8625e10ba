pub mod Faults
pub mod Kinds
pub mod Parts
pub mod Reads
pub mod Steps
pub mod Tables
pub mod Views
