-- The cells that a heap is made over. Assumes nothing.
use Rattle.std.specs.Prelude.{◌≡◌, List, take, drop, vec_items, vec_len}
use Rattle.heap.specs.declared.places.Places.{Places}

module _ {C : Type 0} where
  -- the first 1,024 cells are the places, or all where there are fewer
  abbrev pub places_of : Places C → List C
  places_of p = take 1024 (vec_items p.cells)

  -- the cells beyond them
  abbrev pub spare_of : Places C → List C
  spare_of p = drop 1024 (vec_items p.cells)

-- the cells beyond the places are as they were, and so is their number
pub record SameSpare {C : Type 0} (before after : Places C) : Type 0 where
  pub spare : spare_of after ≡ spare_of before
  pub count : vec_len after.cells ≡ vec_len before.cells
