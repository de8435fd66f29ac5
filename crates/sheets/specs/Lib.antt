pub mod Faults
pub mod Fields
pub mod Numbers
pub mod Opening
pub mod Readers
pub mod Readings
pub mod Spelled
pub mod Suits
