-- what follows the first byte of a name
pub mod Tails
