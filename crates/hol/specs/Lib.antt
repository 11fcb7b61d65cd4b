-- Higher-order logic: what a reader must believe. Read in this order.
-- lists and names
pub mod Base
-- types, terms, and which term has which type
pub mod Syntax
-- what may be declared
pub mod Theory
-- the rules as functions on sequents
pub mod Kernel
-- the rules as a relation: what can be derived
pub mod Rules
-- what terms are worth in a finite model
pub mod Models
-- from bytes to the verdict on a text
pub mod Text
-- how large a text's terms are
pub mod Weight
-- the theorems, and what the call promises
pub mod Says
