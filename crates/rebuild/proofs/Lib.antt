-- what the stack's words hold
pub mod Stack
-- one lemma for each move of the machine
pub mod Steps
-- the loop: what it keeps, and what falls
pub mod Loop
-- the definitions of opening, closing and substitution are changes of leaves
pub mod Changes
-- what type substitution does at leaves
pub mod Leaves
-- looking a free variable up among entries
pub mod Variables
