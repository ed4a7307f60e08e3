-- a weight that may stand on a row
pub mod Lawful
