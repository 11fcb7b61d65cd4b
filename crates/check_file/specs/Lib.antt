-- What the program prints.
pub mod Lines
