-- a tree as its nodes, and the nodes that a work leaves
pub mod State
-- the nodes that the program keeps
pub mod Nodes
