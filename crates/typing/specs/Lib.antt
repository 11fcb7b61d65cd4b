-- how many nodes typing builds
pub mod Built
-- a type's own name, without its arguments
pub mod Heads
-- a type that was found, or that there is none
pub mod Typed
-- the machine that finds the type of a term
pub mod Machine
