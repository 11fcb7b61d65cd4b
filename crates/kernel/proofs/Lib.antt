-- what a recognised shape says
pub mod Shapes
-- which sequent a rule finds where it fits
pub mod Fits
-- sequents that were found, and what was short
pub mod Giving
-- a λ applied to an argument
pub mod Redexes
