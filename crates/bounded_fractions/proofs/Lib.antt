-- signed numbers come back from their bits
pub mod Casts
-- the steps of sums, products and quotients of fractions
pub mod Steps
-- a fraction is its value
pub mod Values
