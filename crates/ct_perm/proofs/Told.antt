-- The table of what six bits spell is the definition's, by trying all 64.
use Rattle.std.proofs.Common.{ℕ, ◌<◌, ◌≡◌, ◌==◌, Bool, true, refl, slice_index_or}
use Rattle.std.proofs.lemmas.Bool.{eqb-true}
use Rattle.law_words.proofs.Spellings.{all_below, below_holds}
use Rattle.ct_perm.specs.declared.spelling.TheConstants.{SETS}
use Rattle.def_words.specs.Permissions.{bit, set_where, unpacked}

told_test : ℕ → Bool
told_test bits = slice_index_or SETS bits 0 == unpacked bits

told_all : all_below told_test 64 ≡ true
unfolding told_test unpacked set_where bit
told_all = refl

pub told_is : (bits : ℕ) → bits < 64 → slice_index_or SETS bits 0 ≡ unpacked bits
unfolding told_test
told_is bits small = eqb-true (slice_index_or SETS bits 0) (unpacked bits) (below_holds told_test 64 bits told_all small)
