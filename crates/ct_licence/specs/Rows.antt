-- What the code looks up of the entry that a number names.
use Rattle.std.specs.Prelude.{ℕ, zero, suc, ◌≡◌, ◌+◌, true, Option, None, slice_get}
use Rattle.ct_entry.specs.declared.rows.Entry.{Entry}
use Rattle.ct_entry.specs.declared.rows.Kind.{Kind}
use Rattle.ct_entry.specs.Listed.{Listed}
use Rattle.def_reach.specs.Roots.{Listing, gate_for, turns_interrupts_off, root_of}
use Rattle.def_reach.specs.Reach.{has_entry}

-- rows are numbered from 1
abbrev pub row_at : Listed → ℕ → Option Entry
row_at e zero = None
row_at e (suc n) = slice_get e.rows n

-- what a number stands for is this row, which is of this kind
pub record IsRow (e : Listed) (n : ℕ) (k : Kind) (r : Entry) : Type 0 where
  pub origin_is : (root_of e n).origin ≡ Listing k
  pub owner_is : (root_of e n).owner ≡ r.owner
  pub base_is : (root_of e n).base ≡ r.base
  pub top_is : (root_of e n).top ≡ r.base + r.length
  pub rights_are : (root_of e n).rights ≡ r.rights
  pub of_is : (root_of e n).of ≡ r.of
  pub limit_is : (root_of e n).limit ≡ r.limit
  pub disabled_is : (root_of e n).disabled ≡ turns_interrupts_off (gate_for e.gates n).posture
  pub listed : has_entry e.rows r.owner ≡ true
