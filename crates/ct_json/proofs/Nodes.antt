-- What a list of nodes begins with, and what comes after its first value.
use Rattle.std.proofs.Common.{◌≡◌, ℕ, zero, suc, ◌-◌, ◌<◌, List, [], ◌∷◌, ◌⊎◌, inl, inr, length, drop, map, false, unwrap_or, Bor, arith, ap}
use Rattle.std.specs.List.{slice_get, drop-map}
use Rattle.serde_json.specs.Data.{Data}
use Rattle.def_desc.specs.Members.{list_of}
use Rattle.ct_json.specs.declared.node.Node.{Node}
use Rattle.ct_json.specs.declared.node.Node.TheVariants.{Null, Key}
use Rattle.ct_json.specs.Rows.{row, inside, span, value_of, value_at, items_of, pairs_of}
use Rattle.ct_json.proofs.Turns.{is_key, value_of-nil, value_of-cons, items_of-cons, items_of-nil, items_of-zero, pairs_of-key, pairs_of-other, pairs_of-zero, pairs_of-nil}

pub first_seen : (ns : List Node)
    → value_of (map row ns) ≡ value_at (row (unwrap_or (slice_get ns 0) Null)) (drop 1 (map row ns))
first_seen [] = value_of-nil
first_seen (n ∷ ns) = value_of-cons (row n) (map row ns)

abbrev values : ℕ → List Node → List Data
values left ns = list_of (items_of left (map row ns))

pub items_next : (left : ℕ) (ns : List Node) → 0 < left → 0 < length ns
    → values left ns ≡ value_of (map row ns) ∷ values (left - span (map row ns)) (drop (span (map row ns)) ns)
items_next zero ns a b = absurd (omega arith)
items_next (suc left) [] a b = absurd (omega arith)
items_next (suc left) (n ∷ ns) a b =
    let rest : suc left - suc (inside (row n)) ≡ left - inside (row n) = omega arith in
    rw (items_of-cons, rest, drop-map row (inside (row n)) ns)

pub no_items_left : (left : ℕ) (ns : List Node) → (left ≡ 0) ⊎ (length ns ≡ 0) → values left ns ≡ []
no_items_left zero ns e = ap list_of (items_of-zero (map row ns))
no_items_left (suc left) [] e = ap list_of (items_of-nil (suc left))
no_items_left (suc left) (n ∷ ns) e = absurd (elim e [ inl z ↦ omega arith | inr z ↦ omega arith ])

abbrev pairs : ℕ → List Node → List (List ℕ × Data)
pairs left ns = pairs_of left (map row ns)

pub pairs_next : (left : ℕ) (ns : List Node) (k : Bor (List ℕ)) → Key k ≡ unwrap_or (slice_get ns 0) Null → 0 < left
    → pairs left ns
    ≡ (k.now, value_of (map row (drop 1 ns))) ∷ pairs (left - 1 - span (map row (drop 1 ns)))
    (drop (span (map row (drop 1 ns))) (drop 1 ns))
pairs_next zero ns k e a = absurd (omega arith)
pairs_next (suc left) [] k e a = cc
pairs_next (suc left) (n ∷ ns) k e a =
    let rest : suc left - 1 ≡ left = omega arith in
    rw (← e, pairs_of-key, rest, drop-map row (span (map row ns)) ns)

pub no_pairs_left : (left : ℕ) (ns : List Node) → left ≡ 0 → pairs left ns ≡ []
no_pairs_left left ns e = rw e (pairs_of-zero (map row ns))

pub no_key_first : (left : ℕ) (ns : List Node) → is_key (row (unwrap_or (slice_get ns 0) Null)) ≡ false
    → pairs left ns ≡ []
no_key_first left [] e = pairs_of-nil left
no_key_first left (n ∷ ns) e = pairs_of-other left (row n) (map row ns) e
