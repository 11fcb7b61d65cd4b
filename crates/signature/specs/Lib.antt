-- which theory a signature stands for
pub mod Meaning
-- what a lookup answers
pub mod Finds
