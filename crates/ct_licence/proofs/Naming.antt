-- What a number stands for, by the row that it names.
use Rattle.std.proofs.Common.{◌≡◌, ◌≢◌, ℕ, zero, suc, Some, None, refl}
use Rattle.ct_entry.specs.declared.rows.Entry.{Entry}
use Rattle.ct_entry.specs.declared.rows.Kind.{Kind}
use Rattle.ct_entry.specs.Listed.{Listed}
use Rattle.def_reach.specs.Roots.{Listing, TrustedPart, Unknown, gate_for, root_of}
use Rattle.def_reach.specs.Reach.{same_owner}
use Rattle.ct_graph.proofs.Owners.{any_at, same_self}
use Rattle.ct_graph.proofs.Steps.{origin_of}
use Rattle.ct_licence.specs.Rows.{IsRow, row_at}

trusted_differs : (k : Kind) → TrustedPart ≢ Listing k
trusted_differs k h = cc

unknown_differs : (k : Kind) → Unknown ≢ Listing k
unknown_differs k h = cc

-- a number that names no row is of no kind
pub no_row : (e : Listed) (n : ℕ) (k : Kind) → row_at e n ≡ None → (root_of e n).origin ≢ Listing k
unfolding root_of
no_row e zero k none = trusted_differs k
no_row e (suc n) k none = rw none (unknown_differs k)

-- a row's kind is the kind of what its number stands for
pub row_is : (e : Listed) (n : ℕ) (r : Entry) → row_at e n ≡ Some r → IsRow e n r.kind r
unfolding root_of
row_is e zero r at = cc
row_is e (suc n) r at = record {
  origin_is = rw at refl;
  owner_is = rw at refl;
  base_is = rw at refl;
  top_is = rw at refl;
  rights_are = rw at refl;
  of_is = rw at refl;
  limit_is = rw at refl;
  disabled_is = rw at refl;
  listed = any_at (λ (s : Entry). same_owner s.owner r.owner) e.rows n r at (same_self r.owner);
}

pub other_kind : (e : Listed) (n : ℕ) (r : Entry) (k : Kind) → row_at e n ≡ Some r → r.kind ≢ k → (root_of e n).origin ≢ Listing k
unfolding root_of
other_kind e zero r k at differs = trusted_differs k
other_kind e (suc n) r k at differs = λ is. differs (origin_of r (gate_for e.gates (suc n)) k (rw at at is))
