-- what typing builds is less than twice a term's size
pub mod Sizes
-- lists of types as long as a number
mod Counted
-- going through lists of types while all are ok
mod OkLists
-- names and types side by side, as the entries of a type substitution
mod Paired
-- a type with types for its type variables
mod Instancing
-- function types, built and used up
mod Forms
-- what stands at a place of a list
mod Scopes
-- what the machine's stack and scope hold
pub mod Stack
-- one lemma for each move of the machine
pub mod Steps
-- a move that is refused lacks something
pub mod Refusals
-- the loop of the machine
pub mod Loop
