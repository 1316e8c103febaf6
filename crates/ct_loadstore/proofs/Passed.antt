-- What is loaded through a capability that has each right to pass on what it loads.
use Rattle.std.proofs.Common.{ℕ, ◌≡◌, ◌^◌, ◌<◌, ◌&&◌, ◌++◌, Bool, true, false, not, [], ◌∷◌, refl, ap, ◌∙◌, if◌then◌else◌}
use Rattle.std.proofs.lemmas.Bool.{and_parts}
use Rattle.def_words.specs.declared.Cap.{Cap}
use Rattle.def_words.specs.Capability.{cap_of, word_with_set}
use Rattle.def_words.specs.Loaded.{attenuated, lost_through}
use Rattle.def_words.specs.Permissions.{bit, cap_perms, global, has, is_among, load_global, load_mutable, memory_capability, removed, store_data}
use Rattle.def_words.specs.Seals.{is_unsealed}
use Rattle.law_words.proofs.Bits.{bit_where, same_set, where_small}
use Rattle.law_words.proofs.Narrowing.{perms_small}
use Rattle.ct_cap.proofs.Parts.{word_unchanged}
use Rattle.ct_loadstore.specs.Quiet.{passes_all}

and_true : (b : Bool) → (b && true) ≡ b
and_true true = refl
and_true false = refl

-- a set without none of its permissions
none_removed : (s : ℕ) → s < 2 ^ 12 → removed s [] ≡ s
unfolding removed
none_removed s small =
    same_set (removed s []) s (where_small (λ q. bit s q && not (is_among q []))) small
    (λ p low. bit_where (λ q. bit s q && not (is_among q [])) p low ∙ and_true (bit s p))

none_lost : (unsealed mutable globals : Bool) → mutable ≡ true → globals ≡ true
    → (if unsealed then (if mutable then [] else store_data ∷ load_mutable ∷ []) ++ (if globals then [] else global ∷ load_global ∷ []) else (if globals then [] else global ∷ [])) ≡ []
none_lost true mutable globals m g = rw (m, g) refl
none_lost false mutable globals m g = rw g refl

pub passes_whole : (x c : Cap) → passes_all x ≡ true → attenuated x c ≡ cap_of c.tag c.word c.shadow
unfolding attenuated
passes_whole x c passes =
    let loads = and_parts (has x load_mutable) (has x load_global && has x memory_capability) passes in
    let rest = and_parts (has x load_global) (has x memory_capability) loads.1 in
    let lost : lost_through x c ≡ [] = none_lost (is_unsealed c) (has x load_mutable) (has x load_global) loads.0 rest.0 in
    let word : word_with_set c (removed (cap_perms c) (lost_through x c)) ≡ c.word =
    ap (λ ps. word_with_set c (removed (cap_perms c) ps)) lost ∙ word_unchanged c (removed (cap_perms c) []) (none_removed (cap_perms c) (perms_small c)) in
    ap (λ t. cap_of (c.tag && t) (word_with_set c (removed (cap_perms c) (lost_through x c))) c.shadow) rest.1
    ∙ ap (λ t. cap_of t (word_with_set c (removed (cap_perms c) (lost_through x c))) c.shadow) (and_true c.tag)
    ∙ ap (λ w. cap_of c.tag w c.shadow) word
