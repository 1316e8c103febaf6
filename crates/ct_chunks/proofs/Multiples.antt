-- The least multiple of a unit at or above a number.
use Rattle.std.proofs.Common.{ℕ, ◌≡◌, ◌+◌, ◌-◌, ◌*◌, ◌/◌, ◌%◌, ◌<◌, ◌≤◌, arith}
use Rattle.std.proofs.lemmas.Nat.{div-add-mod', div_below, mul-le, mod_below, mod-mul-add}
use Rattle.ct_chunks.specs.Multiples.{up}

pub up_least : (unit n b : ℕ) → 0 < unit → b % unit ≡ 0 → n ≤ b → up unit n ≤ b
up_least unit n b some even le =
    let whole : b / unit * unit + b % unit ≡ b = div-add-mod' b unit in
    let more : (b / unit + 1) * unit ≡ b / unit * unit + unit = omega arith in
    let low : (n + unit - 1) / unit < b / unit + 1 = div_below (n + unit - 1) unit (b / unit + 1) some (omega (arith, whole, even, le, more, some)) in
    let times : (n + unit - 1) / unit * unit ≤ b / unit * unit = mul-le ((n + unit - 1) / unit) unit (b / unit) unit (omega (arith, low)) (omega arith) in
    omega (arith, times, whole)

pub up_above : (unit n : ℕ) → 0 < unit → n ≤ up unit n
up_above unit n some =
    let whole : (n + unit - 1) / unit * unit + (n + unit - 1) % unit ≡ n + unit - 1 = div-add-mod' (n + unit - 1) unit in
    let rest : (n + unit - 1) % unit < unit = mod_below (n + unit - 1) unit some in
    omega (arith, whole, rest, some)

pub up_below : (unit n : ℕ) → 0 < unit → up unit n < n + unit
up_below unit n some =
    let whole : (n + unit - 1) / unit * unit + (n + unit - 1) % unit ≡ n + unit - 1 = div-add-mod' (n + unit - 1) unit in
    omega (arith, whole, some)

pub up_even : (unit n : ℕ) → 0 < unit → up unit n % unit ≡ 0
up_even unit n some =
    let same : (n + unit - 1) / unit * unit + 0 ≡ (n + unit - 1) / unit * unit = omega arith in
    rw same at (mod-mul-add ((n + unit - 1) / unit) unit 0 some)
