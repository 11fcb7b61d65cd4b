-- how large types and terms are, in nodes
pub mod Measures
-- what a store holds, and what a call may do to it
pub mod State
-- what a number stands for once it was made
pub mod Builds
-- what a view of a number says
pub mod Views
