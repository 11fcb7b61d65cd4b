-- the names of the λs around
pub mod Scope
-- what the parts of a bracket are read as
pub mod Parts
-- the machine that reads a term
pub mod Machine
