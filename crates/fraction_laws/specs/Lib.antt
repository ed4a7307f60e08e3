-- the greatest common divisor, and numbers with no common divisor but 1
pub mod Divisor
-- a numerator and a denominator divided by their greatest common divisor
pub mod Reduced
-- rational numbers in lowest terms
pub mod Rational
