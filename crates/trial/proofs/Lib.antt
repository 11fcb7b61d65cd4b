-- one call of a store after another
mod Chain
