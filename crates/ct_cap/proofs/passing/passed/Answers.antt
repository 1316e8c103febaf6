use Rattle.std.proofs.Common.{ℕ, [], bit_and, lit<, ◌∷◌, ◌≡◌}
use Rattle.ct_cap.proofs.passing.passed.Goals as goal
use Rattle.def_words.specs.Permissions.{bit, global, load_global, load_mutable, removed, set_where, store_data}
use Rattle.law_words.proofs.Bits.{and_where}

all : (set : ℕ) → bit_and set 4095 ≡ removed set []
unfolding removed set_where bit
all set = and_where set 4095 (lit< tt)

no_globals : (set : ℕ) → bit_and set 4092 ≡ removed set (global ∷ load_global ∷ [])
unfolding removed set_where bit
no_globals set = and_where set 4092 (lit< tt)

no_mutable : (set : ℕ) → bit_and set 4083 ≡ removed set (store_data ∷ load_mutable ∷ [])
unfolding removed set_where bit
no_mutable set = and_where set 4083 (lit< tt)

neither : (set : ℕ) → bit_and set 4080 ≡ removed set (store_data ∷ load_mutable ∷ global ∷ load_global ∷ [])
unfolding removed set_where bit
neither set = and_where set 4080 (lit< tt)

no_global : (set : ℕ) → bit_and set 4094 ≡ removed set (global ∷ [])
unfolding removed set_where bit
no_global set = and_where set 4094 (lit< tt)

pub returns-then-globals : goal.returns-then-globals
returns-then-globals c = rw (c.if-unsealed.true, c.if-mutable.true, c.if-globals.true) all

pub returns-else-globals : goal.returns-else-globals
returns-else-globals c = rw (c.if-unsealed.true, c.if-mutable.true, c.if-globals.false) no_globals

pub returns-then-globals-2 : goal.returns-then-globals-2
returns-then-globals-2 c = rw (c.if-unsealed.true, c.if-mutable.false, c.if-globals-2.true) no_mutable

pub returns-else-globals-2 : goal.returns-else-globals-2
returns-else-globals-2 c = rw (c.if-unsealed.true, c.if-mutable.false, c.if-globals-2.false) neither

pub returns-then-globals-3 : goal.returns-then-globals-3
returns-then-globals-3 c = rw (c.if-unsealed.false, c.if-globals-3.true) all

pub returns-else-globals-3 : goal.returns-else-globals-3
returns-else-globals-3 c = rw (c.if-unsealed.false, c.if-globals-3.false) no_global
