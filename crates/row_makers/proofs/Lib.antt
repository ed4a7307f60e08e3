-- sums of the shares of the first arcs
pub mod Upto
-- tables of sums, arc by arc
pub mod Tables
-- the shares that leave few points, by sums
pub mod Leaving
-- all turbines and bends
pub mod Whole
-- the set that misses most so far
pub mod Mosts
-- arcs that can't be together and have more shares than one cable
pub mod Rivals
