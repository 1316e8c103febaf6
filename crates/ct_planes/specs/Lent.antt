-- What `Planes` lends, each by the list of granules alone.
use Rattle.std.specs.Prelude.{ℕ, ◌*◌, List, length, map}
use Rattle.std.specs.List.{range_with_len}
use Rattle.def_memory.specs.declared.Granule.{Granule}
use Rattle.def_memory.specs.Accesses.{byte_at}
use Rattle.ct_planes.specs.Bits.{words_of}

-- the bytes of all granules, in order
abbrev pub bytes_of : List Granule → List ℕ
bytes_of gs = map (byte_at gs) (range_with_len 0 (8 * length gs))

-- bit i mod 64 of word i / 64 is 1 exactly where granule i is tagged; no more words than that needs
abbrev pub tag_words_of : List Granule → List ℕ
tag_words_of gs = words_of (map (λ g. g.cap.tag) gs)

-- the same for marks
abbrev pub mark_words_of : List Granule → List ℕ
mark_words_of gs = words_of (map (λ g. g.mark) gs)
