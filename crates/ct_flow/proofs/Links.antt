-- The link of a jump has the root of the program counter capability, wherever its address is.
use Rattle.std.proofs.Common.{ℕ, ◌+◌, ◌%◌, ◌^◌, ◌≡◌, Bool, true, false, refl, ap, ◌∙◌}
use Rattle.def_profile.specs.declared.seals.TheConstants.{RETURN_DISABLE, RETURN_ENABLE}
use Rattle.def_words.specs.declared.Cap.{Cap}
use Rattle.def_words.specs.declared.Posture.{Posture}
use Rattle.def_words.specs.declared.Shadow.{Shadow}
use Rattle.def_words.specs.Authority.{cap_address}
use Rattle.def_words.specs.Capability.{cap_of, raised, with_address, word_at, word_sealed}
use Rattle.def_words.specs.Jumped.{return_link}

rooted : (t : Bool) (old word source : ℕ) (from : Shadow)
    → cap_of t word (record { root = (cap_of t old from).shadow.root; source = source }) ≡ cap_of t word (record { root = from.root; source = source })
rooted true old word source from = refl
rooted false old word source from = refl

-- a capability sealed so, with this source
sealed : Cap → ℕ → ℕ → Cap
sealed c field source = cap_of c.tag (word_sealed c field) (record { root = c.shadow.root; source = source })

rooted_link : (c : Cap) (a field source : ℕ)
    → sealed (with_address c a) field source ≡ cap_of (with_address c a).tag (word_sealed (with_address c a) field) (record { root = c.shadow.root; source = source })
unfolding with_address sealed
rooted_link c a field source = rooted (with_address c a).tag (word_at c a) (word_sealed (with_address c a) field) source c.shadow

pub disabling_link : (c next : Cap) (p : Posture) → next ≡ raised c 4 → p.off ≡ true
    → cap_of next.tag (word_sealed next RETURN_DISABLE) (record { root = next.shadow.root; source = p.source }) ≡ return_link c p
unfolding sealed
disabling_link c next p is off =
    ap (λ (d : Cap). sealed d RETURN_DISABLE p.source) is ∙ rooted_link c ((cap_address c + 4) % 2 ^ 32) RETURN_DISABLE p.source ∙ rw off refl

pub enabling_link : (c next : Cap) (p : Posture) → next ≡ raised c 4 → p.off ≡ false
    → cap_of next.tag (word_sealed next RETURN_ENABLE) (record { root = next.shadow.root; source = 0 }) ≡ return_link c p
unfolding sealed
enabling_link c next p is on =
    ap (λ (d : Cap). sealed d RETURN_ENABLE 0) is ∙ rooted_link c ((cap_address c + 4) % 2 ^ 32) RETURN_ENABLE 0 ∙ rw on refl
