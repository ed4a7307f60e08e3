-- the line of a row, part by part
pub mod RowLine
