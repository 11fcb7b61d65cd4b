-- adding to a table
mod Adding
-- looking through a table
mod Looking
mod Found
