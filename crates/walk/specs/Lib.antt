-- what the parts of a recognised shape stand for
pub mod Parts
-- the terms right below a term
pub mod Below
-- words that stand for things, in order
pub mod Standing
-- type variables gathered into a list of names
pub mod TypeVars
-- the first type of a list, opened
pub mod Firsts
