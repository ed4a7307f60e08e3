-- the greatest costs of arcs, arc by arc
pub mod GreatestCosts
-- the least that the uses of an arc leave of their costs
pub mod LeastUses
