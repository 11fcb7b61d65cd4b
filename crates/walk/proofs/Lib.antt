-- shapes: a name is tested, then a list of types for its length
pub mod Recognised
-- a stack of words that stand for items still to be gone through
pub mod Pending
-- going through a term by the terms right below it
pub mod Passing
-- looking for free variables is going through a term
pub mod FreeVars
-- a list of names in words
pub mod NameLists
-- a type or a term adds no more names than it has nodes
pub mod Lengths
-- gathering type variables by going through lists of types
pub mod TypeLists
-- names gathered so far, while items are still to be gone through
pub mod Gathering
-- gathering type variables by going through a term
pub mod TermTypes
