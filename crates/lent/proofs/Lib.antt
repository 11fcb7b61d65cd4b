-- the words of a stack, as lists
pub mod Words
-- an answer by `ok_or`
pub mod Asked
-- a refusal that is handed on
pub mod Refused
