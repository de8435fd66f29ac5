pub mod Drawn
pub mod Floors
pub mod Grid
pub mod Links
pub mod Sides
pub mod Survey
pub mod Walks
