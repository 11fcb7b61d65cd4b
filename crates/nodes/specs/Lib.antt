-- the words that stand for the kinds of nodes
pub mod Kinds
-- which nodes the words hold
pub mod Table
-- what a number can stand for
pub mod Items
-- what the nodes of a table stand for
pub mod Meaning
-- comparing two nodes
pub mod Comparing
