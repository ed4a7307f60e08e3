-- the words of a line
pub mod Words
-- numbers of a line
pub mod Numbers
-- what the words of a line say
pub mod Said
-- the members of a row
pub mod Members
-- the words of a line with its numbers within their limits or not
pub mod Judged
