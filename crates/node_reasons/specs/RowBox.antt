-- What a row counts in the box of a node.
use Rattle.std.specs.Prelude.{◌≡◌, ℕ, ◌≤◌, ◌<◌, ℤ, length, slice_get, Some, Bool}
use Rattle.cable_definitions.specs.declared.cable.Arc.{Arc}
use Rattle.cable_definitions.specs.declared.row.Mark.{Mark}
use Rattle.cable_definitions.specs.Site.{IsValid}
use Rattle.cable_definitions.specs.Arcs.{AreArcs, largest_capacity}
use Rattle.cable_definitions.specs.Row.{Row}
use Rattle.cable_definitions.specs.Choice.{IsExtreme, AtMost, AtLeast}
use Rattle.cable_definitions.specs.Tree.{counted}
use Rattle.node_reasons.specs.declared.boxed_row.BoxedRow.{BoxedRow}
use Rattle.node_reasons.specs.declared.extent.Extent.{Extent}
use Rattle.node_reasons.specs.Extents.{IsUpTo}
use Rattle.node_reasons.specs.Own.{IsSumAt}

-- the site is valid, the arcs are its own, each has a mark, the row is one of those listed, and the largest capacity is that of the site
pub record IsBoxedRow (b : BoxedRow) : Type 0 where
  pub valid : IsValid b.site.now
  pub are_arcs : AreArcs b.site.now b.arcs.now
  pub count : length b.decisions.now ≡ length b.arcs.now
  pub listed : b.row < length b.pool.now
  pub largest_is : b.largest ≡ largest_capacity b.site.now
  pub largest_small : b.largest ≤ 10000

-- an extreme of what the row counts arc number a as, with this mark; it is from -most to most
pub record IsArcEnd (Relates : ℤ → ℤ → Type 0) (b : BoxedRow) (a : ℕ) (mark : Mark) (z : ℤ) : Type 0 where
  pub extreme : (r : Row) (arc : Arc) → slice_get b.pool.now b.row ≡ Some r → slice_get b.arcs.now a ≡ Some arc → IsExtreme Relates b.site.now arc mark (counted r a arc) z
  pub small : IsUpTo 2000000 z

-- the least and the greatest of what the row counts arc number a as, with this mark
pub record IsArcExtent (b : BoxedRow) (a : ℕ) (mark : Mark) (extent : Extent) : Type 0 where
  pub least : IsArcEnd AtMost b a mark extent.least
  pub greatest : IsArcEnd AtLeast b a mark extent.greatest

-- the sum of the extremes of what the row counts those arcs as that pass a test; it is from -most to most
pub record IsEndAt (Relates : ℤ → ℤ → Type 0) (b : BoxedRow) (test : ℕ → Bool) (most : ℕ) (z : ℤ) : Type 0 where
  pub sum : (r : Row) → slice_get b.pool.now b.row ≡ Some r → IsSumAt Relates b.site.now b.arcs.now b.decisions.now (counted r) test z
  pub small : IsUpTo most z

-- the least and the greatest of what the row counts those arcs as that pass a test
pub record IsExtentAt (b : BoxedRow) (test : ℕ → Bool) (most : ℕ) (extent : Extent) : Type 0 where
  pub least : IsEndAt AtMost b test most extent.least
  pub greatest : IsEndAt AtLeast b test most extent.greatest
