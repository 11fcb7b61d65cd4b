-- how many nodes lists have
mod Nodes
-- looking for a term in a list
pub mod Seeking
-- which terms are left out
mod Leaving
-- a term put before a list, or left out
mod Putting
-- the terms of a list pushed onto a stack
mod Spreading
-- terms taken from a stack and put before a list
mod Gathering
-- lists that come to union, remove and dedup
mod Sifted
-- images of terms: how much room is needed at the peak
mod Imaging
