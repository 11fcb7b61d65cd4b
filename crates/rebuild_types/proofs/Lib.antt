-- looking a name up among entries
pub mod Lookup
-- what the stack's words hold
pub mod Stack
-- one lemma for each move of the machine
pub mod Steps
-- the loop: what it keeps, and what falls
pub mod Loop
