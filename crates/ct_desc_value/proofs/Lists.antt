-- The list that a value is, and the keys of an object.
use Rattle.std.proofs.Common.{◌≡◌, ℕ, List, [], ◌∷◌, ◌&&◌, ◌||◌, Bool, true, Option, Some, None, refl, ap, sym, ◌∙◌}
use Rattle.std.proofs.lemmas.Option.{none-some, same_Some}
use Rattle.std.specs.Prelude.{bytes_eq, codes, option_map}
use Rattle.std.specs.List.{list_all}
use Rattle.serde_json.specs.Data.{Data, Items, Members}
use Rattle.def_desc.specs.declared.faults.PartWord.{PartWord}
use Rattle.def_desc.specs.Kinds.{is_listed_member, is_member, stands_beside}
use Rattle.def_desc.specs.Members.{list_in, list_of, names_in, names_of}
use Rattle.ct_desc_value.specs.Seen.{is_listed_beside}

pub list_there : (left : List Data) (o : Option Items) → Some left ≡ option_map list_of o → left ≡ list_in o
list_there left (Some ds) e = same_Some left (list_of ds) e
list_there left None e = absurd (none-some left (sym e))

pub no_list : (o : Option Items) → None ≡ option_map list_of o → [] ≡ list_in o
no_list (Some ds) e = absurd (none-some (list_of ds) e)
no_list None e = refl

pub keys_there : (test : List ℕ → Bool) (b : Bool) (o : Option Members) → Some b ≡ option_map (λ ms. list_all test (names_in ms)) o → b ≡ list_all test (names_of o)
keys_there test b (Some ms) e = same_Some b (list_all test (names_in ms)) e
keys_there test b None e = absurd (none-some b (sym e))

pub no_keys : (test : List ℕ → Bool) (o : Option Members) → None ≡ option_map (λ ms. list_all test (names_in ms)) o → true ≡ list_all test (names_of o)
no_keys test (Some ms) e = absurd (none-some (list_all test (names_in ms)) e)
no_keys test None e = refl

pub listed_beside : (part : PartWord) (d : Data) (rights : Bool) (names : List (List ℕ))
    → ((name : List ℕ) → stands_beside part d name ≡ (rights && bytes_eq name (codes "rights")))
    → list_all (is_listed_beside part rights) names ≡ list_all (is_listed_member part d) names
listed_beside part d rights [] same = refl
listed_beside part d rights (n ∷ ns) same =
    ap (λ b. (is_member part n || b) && list_all (is_listed_beside part rights) ns) (sym (same n))
    ∙ ap (λ b. is_listed_member part d n && b) (listed_beside part d rights ns same)
