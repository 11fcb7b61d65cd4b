-- which step and which command of the definitions they stand for
pub mod Means
