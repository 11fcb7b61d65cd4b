-- stores that grow: one step after another, and back to a mark
pub mod Growth
-- nodes against sizes
pub mod Sizes
