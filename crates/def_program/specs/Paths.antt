-- What `why` writes: how an owner reaches a compartment, by the names of both.
use Rattle.std.specs.Prelude.{ℕ, ◌≡◌, ◌⊎◌, List, [], ◌∷◌, ◌++◌, codes, map}
use Rattle.ct_entry.specs.declared.rows.Owner.{Owner}
use Rattle.def_reach.specs.Reach.{Reached}
use Rattle.def_reach.specs.Route.{IsPath}
use Rattle.def_image.specs.Parts.{PartsRow}
use Rattle.def_boot.specs.Gates.{entries_of}
pub use Rattle.def_policy.specs.Names.{compartment_named, library_named, or_library, owner_named, name_of}
use Rattle.def_program.specs.Lines.{spaced_words}

-- ---- lines

abbrev pub none_line : List ℕ
none_line = codes "none" ++ 10 ∷ []

abbrev pub path_line : PartsRow → List Owner → List ℕ
path_line p owners = codes "path" ++ spaced_words (map (name_of p) owners)

-- the names of the path that comes before all others, or `none` where the owner doesn't reach the
-- compartment
abbrev pub IsWhyLine : PartsRow → Owner → ℕ → List ℕ → Type 0
IsWhyLine p owner c text =
    ((Reached (entries_of p) owner c → ⊥) × (text ≡ none_line))
    ⊎ ((owners : List Owner)
    × (Reached (entries_of p) owner c × IsPath (entries_of p) owner c owners
    × (text ≡ path_line p owners)))
