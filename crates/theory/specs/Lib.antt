-- names and types that are always there
pub mod Grounds
-- which declarations the words of a table stand for
pub mod Rows
-- which theory a table stands for, and what adding to it does
pub mod Knows
-- what is looked for in a table, and what is found
pub mod Lookups
-- that stays while the store grows
pub mod Kept
