-- Six bits spell a set of permissions; the two above them count for nothing.
use Rattle.std.proofs.Common.{ℕ, ◌≡◌, ◌%◌, ◌<◌, ◌==◌, Bool, true, refl}
use Rattle.std.proofs.lemmas.Bool.{eqb-true}
use Rattle.law_words.proofs.Spellings.{all_below, below_holds}
use Rattle.def_words.specs.Permissions.{bit, set_where, unpacked}

six_test : ℕ → Bool
six_test bits = unpacked (bits % 64) == unpacked bits

six_all : all_below six_test 256 ≡ true
unfolding six_test unpacked set_where bit
six_all = refl

pub six_bits : (bits : ℕ) → bits < 256 → unpacked (bits % 64) ≡ unpacked bits
unfolding six_test
six_bits bits small = eqb-true (unpacked (bits % 64)) (unpacked bits) (below_holds six_test 256 bits six_all small)
