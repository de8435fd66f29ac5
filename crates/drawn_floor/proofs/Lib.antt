mod Adopting
mod Chunking
mod Finding
mod Marking
mod Measuring
mod Rows
mod Spreading
mod Tabling
