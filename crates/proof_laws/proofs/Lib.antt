-- elements of lists at a place, tests that pass, and greatest values
pub mod Lists
-- the arcs that the cables of a layout lie on, and the left sides of rows as sums over cables
pub mod Cables
-- no two cables of a legal layout lie on incompatible arcs
pub mod Compatible
-- how many cables start and end in a point of a legal layout, what they carry, and how much a cable may carry
pub mod Points
-- each well-formed row holds of each legal layout
pub mod RowsHold
-- what a legal layout chooses at each arc, and that the sum of these choices lies between the sums of extremes in its box
pub mod Choices
-- the used arcs of a box, and their walks, which are beginnings of the walks of each layout in the box
pub mod Within
-- a legal layout costs at most the ceiling
pub mod Costs
-- where a reason is true of a node, no legal layout lies in its box
pub mod DeadNodes
-- a layout in the box of a full node uses the node's used arcs alone, and costs at least as much as the full layout
pub mod FullNodes
-- rows in the box of a node whose arcs are all decided: a row that can be met holds of the used cables
pub mod Decided
-- where all arcs are decided and no reason is true, the used arcs are a layout
pub mod FullLemma
-- where all arcs are decided and no reason is true, the node is full
pub mod FullWhole
-- the value of lawful weights in a box is at most the cost of each legal layout there
pub mod Weights
-- the boxes of the made nodes
pub mod Boxes
-- what accepted items keep: bounds in boxes, and open leaves that cover all legal layouts
pub mod Sound
-- node 1 holds every layout, later items change no mark, and a split divides a box
pub mod Growing
-- a row that counts no arc as anything can't be met where its right side is above 0
pub mod NoArc
-- works and what is left of them
pub mod WorkCounts
-- weights have one value and make one bound, and weights on the rows of turbines can have at least the sum of the least costs out of them
pub mod NearestValue
-- bounds never fall
pub mod Rising
-- one weight on the row of each turbine
pub mod TurbineWeights
-- sums of extremes over the choices of each arc
pub mod Extremes
