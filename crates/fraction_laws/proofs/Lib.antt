-- Euclid's lemma
pub mod Divisors
-- rational numbers are equal where their cross products are
pub mod Cross
-- identities and inequalities of rational numbers by multiplying out
pub mod Expression
-- the laws of a commutative field
pub mod Field
-- the order: total, and kept by sums and by positive factors
pub mod Order
-- finite sums and their exchange
pub mod Sums
-- quotients, products and sums that are reduced before they grow
pub mod Reducing
-- quotients of whole numbers and of rational numbers
pub mod Quotient
-- opposites, inverses and quotients by the signs
pub mod Signs
