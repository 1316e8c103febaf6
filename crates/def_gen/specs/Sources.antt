-- The sources of the generated firmware: one text for each compartment, in their order.
use Rattle.std.specs.Prelude.{ℕ, Bool, true, false, List, [], ◌∷◌, ◌++◌, map, codes, decimal, if◌then◌else◌}
use Rattle.std.specs.List.{flat_map, range_with_len}
use Rattle.def_gen.specs.Numbers.{count_of, chosen, object_size, is_last}

abbrev pub line : List ℕ → List ℕ
line text = text ++ 10 ∷ []

-- it takes memory of so many bytes
abbrev pub opening : ℕ → List (List ℕ)
opening size =
    codes "go: cincaddrimm csp, csp, -16"
    ∷ codes " csc cra, 8(csp)"
    ∷ codes " cimport ca0, q"
    ∷ (codes " li a1, " ++ decimal size)
    ∷ codes " cimport ct2, allocate"
    ∷ codes " cjalr cra, ct2"
    ∷ codes " csc ca0, 0(csp)"
    ∷ []

-- it passes the memory on to the next compartment
abbrev pub passing_on : List (List ℕ)
passing_on =
    codes " cimport ct1, next"
    ∷ codes " cimport ct2, switch"
    ∷ codes " cjalr cra, ct2"
    ∷ []

-- the last one calls none
abbrev pub passing_unless : Bool → List (List ℕ)
passing_unless last = if last then [] else passing_on

-- it frees the memory and writes its index
abbrev pub closing : ℕ → List (List ℕ)
closing i =
    codes " clc ca1, 0(csp)"
    ∷ codes " cimport ca0, q"
    ∷ codes " cimport ct2, free"
    ∷ codes " cjalr cra, ct2"
    ∷ codes " cimport ct0, uart"
    ∷ (codes " li a0, " ++ decimal i)
    ∷ codes " csb a0, 0(ct0)"
    ∷ codes " clc cra, 8(csp)"
    ∷ codes " cincaddrimm csp, csp, 16"
    ∷ codes " cret"
    ∷ []

abbrev pub lines_with : Bool → ℕ → ℕ → List (List ℕ)
lines_with last size i = opening size ++ passing_unless last ++ closing i

-- compartment i, which is the last one or not
abbrev pub source_with : Bool → ℕ → ℕ → List ℕ
source_with last size i = flat_map line (lines_with last size i)

-- compartment i of so many, by its number y
abbrev pub source_by : ℕ → ℕ → ℕ → List ℕ
source_by count y i = source_with (is_last count i) (object_size y) i

abbrev pub source : ℕ → ℕ → List ℕ
source seed i = source_by (count_of seed) (chosen seed i) i

unfoldable pub sources : ℕ → List (List ℕ)
sources seed = map (source seed) (range_with_len 0 (count_of seed))
