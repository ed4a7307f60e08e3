-- sites so far on the way to a generated one
pub mod Growing
