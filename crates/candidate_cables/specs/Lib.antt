-- lists of arcs on the way to all candidate arcs of a site
pub mod Listing
-- costs of arcs at the power of their starts
pub mod OwnCosts
-- an arc's number, and the tables beside a list of arcs
pub mod Tables
