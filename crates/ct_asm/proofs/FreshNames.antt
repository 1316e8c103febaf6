-- The slot of a name among keys, and that a name without a slot goes last.
use Rattle.std.proofs.Common.{◌≡◌, ℕ, ◌+◌, suc, nat_lt, List, [], ◌∷◌, ◌++◌, length, map, Option, Some, None, is_some, option_map, Bool, true, false, not, ◌||◌, cond, refl, sym, ap, ◌∙◌, arith}
use Rattle.std.specs.Prelude.{position}
use Rattle.std.specs.List.{position_or_len}
use Rattle.std.specs.List.{list_any}
use Rattle.std.specs.Str.{bytes_eq}
use Rattle.indexmap.specs.IndexSet.{insert_key}
use Rattle.def_source.specs.Source.{Name}
use Rattle.def_object.specs.Object.{slot_from, slot_of}

no_name : {K : Type 0} (bytes : K → Name) (keys : List K) (name : Name) (k : ℕ) → slot_from k (map bytes keys) name ≡ None → list_any (λ x. bytes_eq name (bytes x)) keys ≡ false
no_name bytes [] name k e = refl
no_name bytes (x ∷ xs) name k e = by_test (bytes_eq name (bytes x)) e (no_name bytes xs name (k + 1))
  where
    by_test : (b : Bool) → cond b (Some k) (slot_from (k + 1) (map bytes xs) name) ≡ None → (slot_from (k + 1) (map bytes xs) name ≡ None → list_any (λ x. bytes_eq name (bytes x)) xs ≡ false) → (b || list_any (λ x. bytes_eq name (bytes x)) xs) ≡ false
    by_test true e more = cc e
    by_test false e more = more e

pub fresh_last : {K : Type 0} (bytes : K → Name) (keys : List K) (value : K) → slot_of (map bytes keys) (bytes value) ≡ None → insert_key (λ a b. bytes_eq (bytes a) (bytes b)) keys value ≡ keys ++ value ∷ []
unfolding slot_of
fresh_last bytes keys value e = ap (λ b. cond b keys (keys ++ value ∷ [])) (no_name bytes keys (bytes value) 0 e)

pub none_of : {A : Type 0} (o : Option A) (b : Bool) → b ≡ is_some o → b ≡ false → o ≡ None
none_of None b e f = refl
none_of (Some x) b e f = cc (e, f)

-- one key further: m is the number of keys in front of the name's, of `len` keys
further : (same : Bool) (k m len : ℕ) (tail : Option ℕ) → tail ≡ option_map (λ i. k + 1 + i) (cond (nat_lt m len) (Some m) None)
    → cond same (Some k) tail
    ≡ option_map (λ i. k + i) (cond (nat_lt (cond (not same) (1 + m) 0) (suc len)) (Some (cond (not same) (1 + m) 0)) None)
further true k m len tail e = grind arith
further false k m len tail e = by_test (nat_lt m len) refl e
  where
    by_test : (b : Bool) → nat_lt m len ≡ b → tail ≡ option_map (λ i. k + 1 + i) (cond b (Some m) None)
        → tail ≡ option_map (λ i. k + i) (cond (nat_lt (1 + m) (suc len)) (Some (1 + m)) None)
    by_test true is e = grind (arith, is, e)
    by_test false is e = grind (arith, is, e)

slots_from : {K : Type 0} (bytes : K → Name) (name : Name) (keys : List K) (k : ℕ)
    → slot_from k (map bytes keys) name ≡ option_map (λ i. k + i) (position (λ x. bytes_eq name (bytes x)) keys)
slots_from bytes name [] k = refl
slots_from bytes name (x ∷ xs) k =
    further (bytes_eq name (bytes x)) k (position_or_len (λ y. bytes_eq name (bytes y)) xs) (length xs) _ (slots_from bytes name xs (k + 1))

from_zero : (o : Option ℕ) → option_map (λ i. 0 + i) o ≡ o
from_zero None = refl
from_zero (Some i) = ap (λ n. Some n) (let e : 0 + i ≡ i = omega arith in e)

-- the slot of a name is the index of its key
pub slot_found : {K : Type 0} (bytes : K → Name) (name : Name) (keys : List K)
    → position (λ x. bytes_eq name (bytes x)) keys ≡ slot_of (map bytes keys) name
unfolding slot_of
slot_found bytes name keys = sym (slots_from bytes name keys 0 ∙ from_zero (position (λ x. bytes_eq name (bytes x)) keys))
