-- a depth and a count stand for a mode and a stack
pub mod Stands
-- one byte, on both sides
pub mod Bytes
-- by how much a byte raises them
pub mod Bounds
-- the whole text
pub mod Whole
-- a text's trees written flat are its tokens
pub mod Trees
-- what a reader learns of the trees ahead from the first token
pub mod Streams
-- what each byte does to a reader of tokens
pub mod Lexing
-- the tokens of a text, by its first byte
pub mod Ahead
-- the next token of the stream
pub mod Given
-- what a text's tokens come to, by its length
pub mod Costs
-- how many brackets are open and how many S-expressions began
pub mod Nesting
-- line feeds
pub mod Feeds
-- fuel that suffices does not matter
pub mod Fuel
