pub mod Kept
pub mod Marks
pub mod Rings
pub mod Searches
pub mod Spreading
pub mod Tables
