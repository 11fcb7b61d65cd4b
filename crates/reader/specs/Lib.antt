-- Counting the S-expressions of a text, and reading its tokens.
-- what the count says
pub mod Counts
-- what one byte does to a depth and a count
pub mod Steps
-- trees written flat, their cost and their depth
pub mod Flat
-- the next token of a text
pub mod Next
-- the line on which an S-expression begins
pub mod Lines
