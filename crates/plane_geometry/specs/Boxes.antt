-- The boxes of segments: the least upright rectangles that hold both ends.
use Rattle.std.specs.Prelude.{◌<ℤ◌}
use Rattle.cable_definitions.specs.declared.place.Place.{Place}

-- A and B stand west of P
pub record AreWestOf (a b p : Place) : Type 0 where
  pub first : a.x <ℤ p.x
  pub second : b.x <ℤ p.x

-- both ends of A-B stand west of both ends of C-D
pub record IsWest (a b c d : Place) : Type 0 where
  pub of_first : AreWestOf a b c
  pub of_second : AreWestOf a b d

-- A and B stand south of P
pub record AreSouthOf (a b p : Place) : Type 0 where
  pub first : a.y <ℤ p.y
  pub second : b.y <ℤ p.y

-- both ends of A-B stand south of both ends of C-D
pub record IsSouth (a b c d : Place) : Type 0 where
  pub of_first : AreSouthOf a b c
  pub of_second : AreSouthOf a b d

-- the boxes of A-B and C-D meet: neither segment stands wholly west or wholly south of the other
pub record BoxesMeet (a b c d : Place) : Type 0 where
  pub not_west : ¬ (IsWest a b c d)
  pub not_east : ¬ (IsWest c d a b)
  pub not_south : ¬ (IsSouth a b c d)
  pub not_north : ¬ (IsSouth c d a b)
