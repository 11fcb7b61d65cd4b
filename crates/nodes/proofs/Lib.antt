-- which nodes the words hold
pub mod Rows
-- what a node is made of, as a relation
pub mod Made
-- items read as names, types, terms and lists
pub mod Readings
-- what numbers stand for
pub mod Numbers
-- a node that is added
pub mod Adding
-- the node and the size of a number
pub mod Reading
-- two numbers with nodes
pub mod Agreeing
-- pairs of numbers on a stack
pub mod Pairs
-- what holds while pairs are still to be compared
pub mod Stepping
-- the loop that compares
pub mod Looping
-- calls that build, one after another
pub mod Growing
-- names
pub mod Naming
