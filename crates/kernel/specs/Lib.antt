-- which sequent a sequent by numbers is, and what a rule says of its answer
pub mod Sequents
-- a λ applied to an argument
pub mod Redexes
