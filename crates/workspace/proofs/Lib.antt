-- answers that tell want of room from there being nothing
pub mod Serving
-- looking for a free variable in a list
mod Freeness
-- having a type
mod Hastype
-- nodes of joined lists
mod Joining
-- terms built from parts
mod Building
