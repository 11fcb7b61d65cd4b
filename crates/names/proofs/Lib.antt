-- a name compared with bytes, from the front
mod Spelling
-- comparing numbers is comparing what they stand for
pub mod Compared
