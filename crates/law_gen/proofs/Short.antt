-- There is a source for each compartment, of few bytes.
use Rattle.std.proofs.Common.{ℕ, zero, suc, ◌≡◌, ◌+◌, ◌*◌, ◌/◌, ◌%◌, ◌^◌, ◌<◌, ◌≤◌, Bool, true, false, List, [], ◌∷◌, ◌++◌, length, map, codes, decimal, arith, lit≤, lit<}
use Rattle.std.specs.List.{AllByRecursion, flat_map, range_with_len}
use Rattle.std.proofs.lemmas.Fmt.{length-decimal-le_succ}
use Rattle.std.proofs.lemmas.List.{length-append}
use Rattle.std.proofs.lemmas.List.FromFn.{length-map-range_with_len}
use Rattle.def_gen.specs.Numbers.{count_of, chosen, object_size, is_last}
use Rattle.def_gen.specs.Sources.{line, lines_with, source_with, source, sources}

abbrev IsShortLine : List ℕ → Type 0
IsShortLine l = length l ≤ 299

lines_short : (ls : List (List ℕ)) → AllByRecursion IsShortLine ls → length (flat_map line ls) ≤ 300 * length ls
lines_short [] h = omega arith
lines_short (l ∷ ls) h =
    let here : length l ≤ 299 = h.0 in
    let rest = lines_short ls h.1 in
    let first = length-append l (10 ∷ []) in
    let both = length-append (line l) (flat_map line ls) in
    omega (arith, here, rest, first, both)

number_short : (n : ℕ) → n ≤ 256 → length (decimal n) ≤ 257
number_short n le =
    let low : 256 < 2 ^ 64 = lit< tt in
    let most = length-decimal-le_succ n (omega (arith, le, low)) in
    omega (arith, most, le)

size_line : (n : ℕ) → n ≤ 256 → IsShortLine (codes " li a1, " ++ decimal n)
size_line n le = let most = number_short n le in let both = length-append (codes " li a1, ") (decimal n) in omega (arith, most, both)

index_line : (n : ℕ) → n ≤ 256 → IsShortLine (codes " li a0, " ++ decimal n)
index_line n le = let most = number_short n le in let both = length-append (codes " li a0, ") (decimal n) in omega (arith, most, both)

all_short : (last : Bool) (size i : ℕ) → size ≤ 256 → i ≤ 256 → AllByRecursion IsShortLine (lines_with last size i)
all_short true size i hs hi = (lit≤ tt, (lit≤ tt, (lit≤ tt, (size_line size hs, (lit≤ tt, (lit≤ tt, (lit≤ tt, (lit≤ tt, (lit≤ tt, (lit≤ tt, (lit≤ tt, (lit≤ tt, (index_line i hi, (lit≤ tt, (lit≤ tt, (lit≤ tt, (lit≤ tt, tt)))))))))))))))))
all_short false size i hs hi = (lit≤ tt, (lit≤ tt, (lit≤ tt, (size_line size hs, (lit≤ tt, (lit≤ tt, (lit≤ tt, (lit≤ tt, (lit≤ tt, (lit≤ tt, (lit≤ tt, (lit≤ tt, (lit≤ tt, (lit≤ tt, (lit≤ tt, (index_line i hi, (lit≤ tt, (lit≤ tt, (lit≤ tt, (lit≤ tt, tt))))))))))))))))))))

few_lines : (last : Bool) (size i : ℕ) → length (lines_with last size i) ≤ 20
few_lines true size i = lit≤ tt
few_lines false size i = lit≤ tt

source_short : (last : Bool) (size i : ℕ) → size ≤ 256 → i ≤ 256 → length (source_with last size i) < 2 ^ 32
source_short last size i hs hi =
    let most = lines_short (lines_with last size i) (all_short last size i hs hi) in
    let few = few_lines last size i in
    let all : 6000 < 2 ^ 32 = lit< tt in
    omega (arith, most, few, all)

size_few : (y : ℕ) → object_size y ≤ 256
size_few y = let rest : y / 256 % 32 < 32 = omega arith in omega (arith, rest)

from_short : (seed a m : ℕ) → a + m ≤ 64 → AllByRecursion (λ (t : List ℕ). length t < 2 ^ 32) (map (source seed) (range_with_len a m))
from_short seed a zero le = tt
from_short seed a (suc m) le =
    (source_short (is_last (count_of seed) a) (object_size (chosen seed a)) a (size_few (chosen seed a)) (omega arith), from_short seed (a + 1) m (omega arith))

pub short : (seed : ℕ) → AllByRecursion (λ (t : List ℕ). length t < 2 ^ 32) (sources seed)
unfolding sources
short seed = let rest : seed % 63 < 63 = omega arith in from_short seed 0 (count_of seed) (omega (arith, rest))

pub each : (seed : ℕ) → length (sources seed) ≡ count_of seed
unfolding sources
each seed = length-map-range_with_len (source seed) 0 (count_of seed)
