-- entries of a type substitution in lent words
pub mod Entries
-- what a call that builds anew says
pub mod Rebuilds
-- words for what waits
pub mod Codes
-- the machine that builds a type or a list of types anew
pub mod Machine
