-- What is known of the places that follow, one place further: a rule that has failed says the same of
-- any places, and one that has not is judged at the place.
use Rattle.std.proofs.Common.{◌≡◌, ℕ, List, ◌∷◌, Bool, true, false, cond, Option, Some, None, refl, sym, ap, ◌∙◌, not}
use Rattle.std.specs.Prelude.{is_some, option_map, find}
use Rattle.std.specs.Option.{option_or}
use Rattle.def_texts.specs.Names.{among}
use Rattle.def_desc.specs.declared.faults.Place.{Place}
use Rattle.def_desc.specs.declared.faults.Fault.{Fault}
use Rattle.def_desc.specs.Names.{Spaces, spot_name, name_space, with_part_name, first_twice}
use Rattle.def_desc.specs.Walk.{Spot}
use Rattle.def_desc.specs.WellFormed.{first_failing, fault_or, spot_place}

pub has_failed : (n : ℕ) (first a b : Option Place) (x y : Option Fault) → is_some first ≡ true
    → fault_or n (option_or first a) x ≡ fault_or n (option_or first b) y
has_failed n None a b x y e = absurd (let no : false ≡ true = e in cc)
has_failed n (Some p) a b x y e = refl

pub passes : (n : ℕ) (first : Option Place) (test : Spot → Bool) (s : Spot) (ss : List Spot) (x y : Option Fault)
    → is_some first ≡ false → test s ≡ true → x ≡ y
    → fault_or n (option_or first (first_failing test ss)) x ≡ fault_or n (option_or first (first_failing test (s ∷ ss))) y
passes n (Some p) test s ss x y none e same = absurd (let no : true ≡ false = none in cc)
passes n None test s ss x y none e same =
    ap (fault_or n (first_failing test ss)) same
    ∙ ap (λ b. fault_or n (option_map spot_place (cond (not b) (Some s) (find (λ z. not (test z)) ss))) y) (sym e)

pub fails : (n : ℕ) (first : Option Place) (test : Spot → Bool) (s : Spot) (ss : List Spot) (x y : Option Fault)
    → is_some first ≡ false → test s ≡ false
    → fault_or n (option_or (Some s.place) (first_failing test ss)) x ≡ fault_or n (option_or first (first_failing test (s ∷ ss))) y
fails n (Some p) test s ss x y none e = absurd (let no : true ≡ false = none in cc)
fails n None test s ss x y none e =
    ap (λ b. fault_or n (option_map spot_place (cond (not b) (Some s) (find (λ z. not (test z)) ss))) y) (sym e)

pub new_name : (n : ℕ) (first : Option Place) (m : Spaces) (s : Spot) (ss : List Spot) (x y : Option Fault)
    → is_some first ≡ false → among (spot_name s) (name_space s.place.part m) ≡ false → x ≡ y
    → fault_or n (option_or first (first_twice (with_part_name s.place.part (spot_name s) m) ss)) x ≡ fault_or n (option_or first (first_twice m (s ∷ ss))) y
new_name n (Some p) m s ss x y none e same = absurd (let no : true ≡ false = none in cc)
new_name n None m s ss x y none e same =
    ap (fault_or n (first_twice (with_part_name s.place.part (spot_name s) m) ss)) same
    ∙ ap (λ b. fault_or n (cond b (Some s.place) (first_twice (with_part_name s.place.part (spot_name s) m) ss)) y) (sym e)

pub known_name : (n : ℕ) (first a : Option Place) (m : Spaces) (s : Spot) (ss : List Spot) (x y : Option Fault)
    → is_some first ≡ false → among (spot_name s) (name_space s.place.part m) ≡ true
    → fault_or n (option_or (Some s.place) a) x ≡ fault_or n (option_or first (first_twice m (s ∷ ss))) y
known_name n (Some p) a m s ss x y none e = absurd (let no : true ≡ false = none in cc)
known_name n None a m s ss x y none e =
    ap (λ b. fault_or n (cond b (Some s.place) (first_twice (with_part_name s.place.part (spot_name s) m) ss)) y) (sym e)

-- where no places follow
pub no_more : (n : ℕ) (first : Option Place) (x : Option Fault) → fault_or n (option_or first None) x ≡ fault_or n first x
no_more n None x = refl
no_more n (Some p) x = refl
