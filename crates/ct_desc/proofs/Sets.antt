-- A set of names, by the names.
use Rattle.std.proofs.Common.{◌≡◌, ℕ, List, [], ◌∷◌, ◌||◌, ◌++◌, Bool, true, false, cond, map, refl, ap, sym, ◌∙◌}
use Rattle.std.specs.Prelude.{bytes_eq}
use Rattle.std.specs.List.{list_any}
use Rattle.std.proofs.lemmas.List.{map_push}
use Rattle.def_texts.specs.Names.{among, with_name}

pub any_name : {K : Type 0} (bytes : K → List ℕ) (name : List ℕ) (keys : List K) → among name (map bytes keys) ≡ list_any (λ k. bytes_eq name (bytes k)) keys
any_name bytes name [] = refl
any_name bytes name (k ∷ keys) = ap (λ rest. bytes_eq name (bytes k) || rest) (any_name bytes name keys)

chosen : {K : Type 0} (bytes : K → List ℕ) (b : Bool) (keys : List K) (k : K) → map bytes (cond b keys (keys ++ k ∷ [])) ≡ cond b (map bytes keys) (map bytes keys ++ bytes k ∷ [])
chosen bytes true keys k = refl
chosen bytes false keys k = map_push bytes keys k

-- a name that is added to a set is added to its names
pub names_added : {K : Type 0} (bytes : K → List ℕ) (keys : List K) (k : K) → map bytes (cond (list_any (λ x. bytes_eq (bytes k) (bytes x)) keys) keys (keys ++ k ∷ [])) ≡ with_name (map bytes keys) (bytes k)
names_added bytes keys k =
    chosen bytes (list_any (λ x. bytes_eq (bytes k) (bytes x)) keys) keys k
    ∙ ap (λ b. cond b (map bytes keys) (map bytes keys ++ bytes k ∷ [])) (sym (any_name bytes (bytes k) keys))
