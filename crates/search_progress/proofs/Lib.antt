-- rows of single points, listed one after another
pub mod RowsListed
-- the open node that is taken first
pub mod OpenFirst
-- lanes that hold nodes
pub mod HeldLanes
-- the list of open nodes
pub mod OpenList
-- what an act on a node leaves
pub mod Acting
-- the state that a search begins in
pub mod OpenStart
