-- answers that are refused
pub mod Refused
-- the stack's words and what they hold
mod Stack
-- one lemma for each move of the machine
mod Steps
-- the loop: from one turn to the next
mod Loop
-- one type: a word, or a bracket
pub mod Single
