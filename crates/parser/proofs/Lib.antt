-- the names of the λs around
mod Lookup
-- a name and a type; a free variable; a constant
mod Parts
-- how a bracket begins
mod Opens
-- the stacks' words and what they hold
mod Stack
-- the moves down into a term
mod Downs
-- the moves up with a term
mod Ups
-- the loop: from one turn to the next
mod Loop
