-- terms built anew by a change of leaves and types, and its instances
pub mod Rebuilt
-- the machine that builds a term anew
pub mod Machine
-- which change an instance does, by its numbers
pub mod Instances
-- which change an instance does stays while the store grows
pub mod Kept
