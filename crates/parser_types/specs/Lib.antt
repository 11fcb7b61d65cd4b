-- what a reading says
pub mod Reads
-- words for the kinds of pairs on the stack
pub mod Marks
-- the machine that reads a list of types
pub mod Machine
