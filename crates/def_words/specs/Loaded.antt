-- What a load through a capability takes from the word that it loads, and what a store keeps of a tag.
use Rattle.std.specs.Prelude.{ℕ, ◌&&◌, not, List, [], ◌∷◌, ◌++◌, if◌then◌else◌}
use Rattle.def_words.specs.declared.Cap.{Cap}
use Rattle.def_words.specs.Capability.{cap_of, untagged, word_with_set}
use Rattle.def_words.specs.Permissions.{global, load_global, store_data, load_mutable, store_local, memory_capability, cap_perms, has, removed}
use Rattle.def_words.specs.Seals.{is_unsealed}

-- A word loaded through one without `load_mutable` loses `store_data` and `load_mutable`, through one without
-- `load_global` it loses `global` and `load_global`. A sealed one, by its bits, loses `global` alone.
abbrev pub lost_through : Cap → Cap → List ℕ
lost_through by c =
    if is_unsealed c
    then (if has by load_mutable then [] else store_data ∷ load_mutable ∷ [])
    ++ (if has by load_global then [] else global ∷ load_global ∷ [])
    else (if has by load_global then [] else global ∷ [])

-- Every word that is loaded as a capability, tagged or not, is so attenuated; the tag goes where the
-- authorising one lacks `memory_capability`.
unfoldable pub attenuated : Cap → Cap → Cap
attenuated by c =
    cap_of (c.tag && has by memory_capability)
    (word_with_set c (removed (cap_perms c) (lost_through by c))) c.shadow

-- A tagged value that isn't global is stored untagged where the authorising one may not store such.
abbrev pub stored_through : Cap → Cap → Cap
stored_through by c =
    if c.tag && not (has c global) && not (has by store_local) then untagged c else c
