use Rattle.std.proofs.Common.{◌≡◌, ◌+◌, ◌++◌, drop}
use Rattle.def_image.specs.Sizes.{sum_of}
use Rattle.ct_image_parts.specs.Places.{library_bytes}
use Rattle.ct_image.specs.Spans.{rows_of, library_rows}
use Rattle.ct_image.proofs.spans.add_libraries.Given as goal

-- the place of the next one, and the regions so far with those to come
pub record Keeps (l : goal.Live-loop-library) : Type 0 where
  pub place : l.place + sum_of library_bytes (drop l.library-index l.libraries) ≡ l.at + sum_of library_bytes l.libraries
  pub rows : rows_of l.spans.items ++ library_rows l.place (drop l.library-index l.libraries) ≡ rows_of l.fn.spans.items ++ library_rows l.at l.libraries

abbrev pub invariant-loop-library : goal.invariant-loop-library
invariant-loop-library l = Keeps l
