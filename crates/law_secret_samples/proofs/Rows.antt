-- What the entries of the images are, whatever the secret: what each compartment may read and store, and that they share
-- nothing.
use Rattle.std.proofs.Common.{ℕ, zero, suc, ◌≡◌, ◌+◌, ◌<◌, ◌≤◌, ◌⊎◌, inl, inr, Bool, true, false, List, [], ◌∷◌, Some, slice_get, refl, sym, ap, ◌∙◌, subst, arith}
use Rattle.ct_entry.specs.declared.rows.Entry.{Entry}
use Rattle.ct_entry.specs.declared.rows.Gate.{Gate}
use Rattle.ct_entry.specs.declared.rows.Kind.TheVariants as kind
use Rattle.ct_entry.specs.declared.rows.Owner.{Owner}
use Rattle.ct_entry.specs.declared.rows.Owner.TheVariants.{Compartment}
use Rattle.ct_entry.specs.Listed.{Listed}
use Rattle.def_words.specs.Permissions.{bit, set_where, store_data, unpacked}
use Rattle.def_reach.specs.Roots.{Origin, Listing, Root, no_root, trusted_root, listed_root, gate_for, root_of, compartment_of, is_owned, is_stack}
use Rattle.def_reach.specs.Sharing.{Edge, IsEdgeList, Imports, Reaches}
use Rattle.def_machine.specs.Image.{root}
use Rattle.def_boot.specs.Boot.{image_of}
use Rattle.def_boot.specs.Entries.{entry_rows}
use Rattle.def_boot.specs.Gates.{entries_of}
use Rattle.def_secrecy.specs.View.{ReadsThrough}
use Rattle.def_secrecy.specs.Others.{StoresThrough}
use Rattle.law_secret_samples.specs.Walls.{walls}
use Rattle.law_boot.proofs.Clauses.{is_device}

-- ---- all entries of a report

abbrev AllRows : (Root → Type 0) → List Gate → ℕ → List Entry → Type 0
AllRows P gates k [] = Unit {0}
AllRows P gates k (r ∷ rs) = P (listed_root (Some r) (gate_for gates k)) × AllRows P gates (k + 1) rs

row_at : (P : Root → Type 0) (gates : List Gate) (k : ℕ) (rows : List Entry) (n : ℕ) → P no_root → AllRows P gates k rows → P (listed_root (slice_get rows n) (gate_for gates (k + n)))
row_at P gates k [] n none h = none
row_at P gates k (r ∷ rs) zero none h = subst (λ j. P (listed_root (Some r) (gate_for gates j))) (let e : k ≡ k + 0 = omega arith in e) h.0
row_at P gates k (r ∷ rs) (suc n) none h = subst (λ j. P (listed_root (slice_get rs n) (gate_for gates j))) (let e : k + 1 + n ≡ k + suc n = omega arith in e) (row_at P gates (k + 1) rs n none h.1)

-- what holds of the trusted part, of no entry, and of each that is listed
root_at : (P : Root → Type 0) (e : Listed) (n : ℕ) → P trusted_root → P no_root → AllRows P e.gates 1 e.rows → P (root_of e n)
unfolding root_of
root_at P e zero trusted none h = trusted
root_at P e (suc n) trusted none h = subst (λ j. P (listed_root (slice_get e.rows n) (gate_for e.gates j))) (let q : 1 + n ≡ suc n = omega arith in q) (row_at P e.gates 1 e.rows n none h)

-- ---- what is shared: nothing

abbrev shares : Origin → Bool
shares (Listing kind.Call) = true
shares (Listing kind.Shared) = true
shares (Listing kind.Library) = true
shares _ = false

abbrev Unshared : Root → Type 0
Unshared r = shares r.origin ≡ false

unshared : (n k : ℕ) → Unshared (root (image_of (walls n)) k)
unfolding image_of entries_of entry_rows
unshared n k = root_at Unshared (entries_of (walls n)) k refl refl (refl, (refl, (refl, (refl, (refl, (refl, (refl, (refl, (refl, (refl, (refl, tt)))))))))))

shares_not : (n k : ℕ) (o : Origin) → (root (image_of (walls n)) k).origin ≡ o → shares o ≡ true → ⊥
shares_not n k o is h = let clash : true ≡ false = sym h ∙ ap shares (sym is) ∙ unshared n k in cc

pub no_call : (n k : ℕ) → (root (image_of (walls n)) k).origin ≡ Listing kind.Call → ⊥
no_call n k is = shares_not n k (Listing kind.Call) is refl

no_edge : (n a b : ℕ) → Edge (image_of (walls n)).entries a b → ⊥
no_edge n a b (inl call) = no_call n call.import call.kind_is
no_edge n a b (inr (inl call)) = no_call n call.import call.kind_is
no_edge n a b (inr (inr both)) = shares_not n both.1.import (Listing kind.Shared) both.1.kind_is refl

edges_end : (n by d : ℕ) (members : List ℕ) → IsEdgeList (image_of (walls n)).entries by members d → by ≡ d
edges_end n by d [] h = h
edges_end n by d (x ∷ xs) h = absurd (no_edge n by x h.0)

imports_end : (n by : ℕ) (through : List Owner) (o : Owner) → Imports (image_of (walls n)).entries (Compartment by) through o → Compartment by ≡ o
imports_end n by [] o h = h
imports_end n by (x ∷ xs) o h = absurd (shares_not n h.0.import (Listing kind.Library) h.0.kind_is refl)

-- so a compartment is reached by itself alone
pub reach_itself : (n d : ℕ) (o : Owner) → Reaches (image_of (walls n)).entries o d → o ≡ Compartment d
reach_itself n d o h = sym (imports_end n h.by h.through o h.imports) ∙ ap (λ k. Compartment k) (edges_end n h.by d h.joined.members h.joined.leads)

-- ---- whose an entry is

abbrev For : ℕ → Root → Type 0
For d r = is_owned r.origin ≡ true → r.owner ≡ Compartment d

not_first : {A : Type 0} → Compartment 1 ≡ Compartment 0 → A
not_first e = absurd (let same : 1 ≡ 0 = ap compartment_of e in omega (arith, same))

not_second : {A : Type 0} → Compartment 0 ≡ Compartment 1 → A
not_second e = absurd (let same : 0 ≡ 1 = ap compartment_of e in omega (arith, same))

within : (low high a b x : ℕ) → low ≤ a → b ≤ high → a ≤ x → x < b → (low ≤ x) × (x < high)
within low high a b x h k l m = (omega (arith, h, l), omega (arith, k, m))

-- ---- what the prowler may read: its own code, table and globals, and native entries

abbrev pub ProwlersOwn : ℕ → Type 0
ProwlersOwn x = ((0x80000000 ≤ x) × (x < 0x80000050)) ⊎ ((0x10000 ≤ x) × (x < 0x10018))

abbrev ReadsAt : ℕ → Root → Type 0
ReadsAt x r = is_stack r.origin ≡ false → For 0 r → r.base ≤ x → x < r.top → ProwlersOwn x

module _ (x : ℕ) where
  ram : (a b : ℕ) → 0x80000000 ≤ a → b ≤ 0x80000050 → a ≤ x → x < b → ProwlersOwn x
  ram a b h k low high = inl (within 0x80000000 0x80000050 a b x h k low high)

  native : (a b : ℕ) → 0x10000 ≤ a → b ≤ 0x10018 → a ≤ x → x < b → ProwlersOwn x
  native a b h k low high = inr (within 0x10000 0x10018 a b x h k low high)

reads_at : (n x k : ℕ) → ReadsAt x (root (image_of (walls n)) k)
unfolding image_of entries_of entry_rows
reads_at n x k = root_at (ReadsAt x) (entries_of (walls n)) k
    (λ plain own low high. native x 0x10010 0x10018 (omega arith) (omega arith) low high)
    (λ plain own low high. absurd (let none : x < 0 = high in omega (arith, none))) (
      λ plain own low high. ram x 0x80000000 0x80000020 (omega arith) (omega arith) low high,
      (
        λ plain own low high. ram x 0x80000040 0x80000050 (omega arith) (omega arith) low high,
        (
          λ plain own low high. native x 0x10000 0x10008 (omega arith) (omega arith) low high,
          (
            λ plain own low high. ram x 0x80000030 0x80000040 (omega arith) (omega arith) low high,
            (
              λ plain own low high. not_first (own refl),
              (
                λ plain own low high. not_first (own refl),
                (
                  λ plain own low high. not_first (own refl),
                  (
                    λ plain own low high. not_first (own refl),
                    (
                      λ plain own low high. not_first (own refl),
                      (
                        λ plain own low high. absurd (let clash : true ≡ false = plain in cc),
                        (
                          λ plain own low high. absurd (let clash : true ≡ false = plain in cc),
                          tt,
                        ),
                      ),
                    ),
                  ),
                ),
              ),
            ),
          ),
        ),
      ),
    )

pub reads : (n k x : ℕ) → ReadsThrough (image_of (walls n)) 0 k x → ProwlersOwn x
reads n k x h = reads_at n x k h.no_stack (λ owned. reach_itself n 0 (root (image_of (walls n)) k).owner (h.reached owned)) h.low h.high

-- ---- what the keeper may store to: its own globals, and the port

abbrev pub KeepersOwn : ℕ → Type 0
KeepersOwn x = ((0x800000a0 ≤ x) × (x < 0x800000b0)) ⊎ ((0x10000000 ≤ x) × (x < 0x10000010))

abbrev StoresAt : ℕ → Root → Type 0
StoresAt x r = is_stack r.origin ≡ false → For 1 r → bit r.rights store_data ≡ true → r.base ≤ x → x < r.top → KeepersOwn x

stores_at : (n x k : ℕ) → StoresAt x (root (image_of (walls n)) k)
unfolding image_of entries_of entry_rows bit set_where unpacked
stores_at n x k = root_at (StoresAt x) (entries_of (walls n)) k
    (λ plain own may low high. absurd (let clash : false ≡ true = may in cc))
    (λ plain own may low high. absurd (let none : x < 0 = high in omega (arith, none))) (
      λ plain own may low high. not_second (own refl),
      (
        λ plain own may low high. not_second (own refl),
        (
          λ plain own may low high. not_second (own refl),
          (
            λ plain own may low high. not_second (own refl),
            (
              λ plain own may low high. absurd (let clash : false ≡ true = may in cc),
              (
                λ plain own may low high. inl (low, high),
                (
                  λ plain own may low high. absurd (let clash : false ≡ true = may in cc),
                  (
                    λ plain own may low high. inr (low, high),
                    (
                      λ plain own may low high. absurd (let clash : false ≡ true = may in cc),
                      (
                        λ plain own may low high. absurd (let clash : true ≡ false = plain in cc),
                        (
                          λ plain own may low high. absurd (let clash : true ≡ false = plain in cc),
                          tt,
                        ),
                      ),
                    ),
                  ),
                ),
              ),
            ),
          ),
        ),
      ),
    )

pub stores : (n k x : ℕ) → StoresThrough (image_of (walls n)) 1 k x → KeepersOwn x
stores n k x h = stores_at n x k h.no_stack (λ owned. reach_itself n 1 (root (image_of (walls n)) k).owner (h.reached owned)) h.may h.low h.high

-- ---- quotas and devices

pub no_limit : (n k : ℕ) → (root (image_of (walls n)) k).limit ≡ 0
unfolding image_of entries_of entry_rows
no_limit n k = root_at (λ r. r.limit ≡ 0) (entries_of (walls n)) k refl refl (refl, (refl, (refl, (refl, (refl, (refl, (refl, (refl, (refl, (refl, (refl, tt)))))))))))

abbrev NotItsDevice : Root → Type 0
NotItsDevice r = is_device r.origin ≡ true → For 0 r → ⊥

none_of : false ≡ true → ⊥
none_of e = cc

device_at : (n k : ℕ) → NotItsDevice (root (image_of (walls n)) k)
unfolding image_of entries_of entry_rows
device_at n k = root_at NotItsDevice (entries_of (walls n)) k (λ is own. none_of is) (λ is own. none_of is) (
  λ is own. none_of is,
  (
    λ is own. none_of is,
    (
      λ is own. none_of is,
      (
        λ is own. none_of is,
        (
          λ is own. none_of is,
          (
            λ is own. none_of is,
            (
              λ is own. none_of is,
              (
                λ is own. not_first (own refl),
                (
                  λ is own. none_of is,
                  (
                    λ is own. none_of is,
                    (
                      λ is own. none_of is,
                      tt,
                    ),
                  ),
                ),
              ),
            ),
          ),
        ),
      ),
    ),
  ),
)

pub no_device : (n k x : ℕ) → ReadsThrough (image_of (walls n)) 0 k x → (root (image_of (walls n)) k).origin ≡ Listing kind.Device → ⊥
no_device n k x h is = device_at n k (ap is_device is) (λ owned. reach_itself n 0 (root (image_of (walls n)) k).owner (h.reached owned))
