use Rattle.std.proofs.Common.{◌≡◌, lit<, ℕ, bit_and, ◌&&◌}
use Rattle.def_words.specs.Permissions.{set_where, bit, holds, executable_form, read_write_form, read_only_form, write_only_form, plain_form, sealing_form}
use Rattle.law_words.proofs.Bits.{and_where}
use Rattle.ct_perm.proofs.forms.Form.held.Goals as goal

executable : (set : ℕ) → bit_and set 491 ≡ set_where (λ p. bit set p && holds executable_form p)
unfolding set_where bit
executable set = and_where set 491 (lit< tt)

read_write : (set : ℕ) → bit_and set 127 ≡ set_where (λ p. bit set p && holds read_write_form p)
unfolding set_where bit
read_write set = and_where set 127 (lit< tt)

read_only : (set : ℕ) → bit_and set 107 ≡ set_where (λ p. bit set p && holds read_only_form p)
unfolding set_where bit
read_only set = and_where set 107 (lit< tt)

write_only : (set : ℕ) → bit_and set 69 ≡ set_where (λ p. bit set p && holds write_only_form p)
unfolding set_where bit
write_only set = and_where set 69 (lit< tt)

plain : (set : ℕ) → bit_and set 37 ≡ set_where (λ p. bit set p && holds plain_form p)
unfolding set_where bit
plain set = and_where set 37 (lit< tt)

sealing : (set : ℕ) → bit_and set 3585 ≡ set_where (λ p. bit set p && holds sealing_form p)
unfolding set_where bit
sealing set = and_where set 3585 (lit< tt)

pub returns-in-Executable : goal.returns-in-Executable
returns-in-Executable c = rw c.in-Executable.is executable

pub returns-in-ReadWrite : goal.returns-in-ReadWrite
returns-in-ReadWrite c = rw c.in-ReadWrite.is read_write

pub returns-in-ReadOnly : goal.returns-in-ReadOnly
returns-in-ReadOnly c = rw c.in-ReadOnly.is read_only

pub returns-in-WriteOnly : goal.returns-in-WriteOnly
returns-in-WriteOnly c = rw c.in-WriteOnly.is write_only

pub returns-in-Plain : goal.returns-in-Plain
returns-in-Plain c = rw c.in-Plain.is plain

pub returns-in-Sealing : goal.returns-in-Sealing
returns-in-Sealing c = rw c.in-Sealing.is sealing
