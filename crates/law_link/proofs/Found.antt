-- Where names stand: an index below the list's length, and an export of an owner.
use Rattle.std.proofs.Common.{ℕ, zero, suc, ◌≡◌, ◌+◌, ◌<◌, Bool, true, false, not, cond, nat_lt, List, [], ◌∷◌, length, map, Some, None, slice_get, refl, sym, ap, ◌∙◌, subst, arith, inl, inr}
use Rattle.std.specs.Prelude.{bytes_eq, option_map}
use Rattle.std.proofs.lemmas.Option.{slice_get-map}
use Rattle.std.proofs.lemmas.List.{length-map}
use Rattle.std.proofs.lemmas.Slice.Eq.{bytes_eq-Decides}
use Rattle.law_lists.proofs.Tests.{lt_tells}
use Rattle.def_desc.specs.Rows.{ExportRow, DescCompartment, LexportRow, LibraryRow, DescRow}
use Rattle.def_desc.specs.References.{export_name}
use Rattle.def_desc.specs.Named.{export_names, library_export_names}
use Rattle.def_desc.specs.Lawful.{Has, IsCallImport, IsLent}
use Rattle.def_link.specs.Slots.{index_of, Exported, exported, Exporter, full_names, export_from, compartment_exporters, library_exporters, compartment_export_named, library_export_named}
use Rattle.law_desc.proofs.Lists.{has_mapped}

-- a name of a list has an index in it
index_from : (name : List ℕ) (names : List (List ℕ)) (i : ℕ) → slice_get names i ≡ Some name → index_of name names < length names
index_from name [] i is = absurd (let no : None ≡ Some name = is in cc)
index_from name (n ∷ ns) zero is =
    let same : n ≡ name = cc in
    let yes : bytes_eq name n ≡ true = (bytes_eq-Decides name n).1 (sym same) in
    let none : index_of name (n ∷ ns) ≡ 0 = ap (λ b. cond (not b) (1 + index_of name ns) 0) yes in
    rw none (omega arith)
index_from name (n ∷ ns) (suc i) is = by (bytes_eq name n) (index_from name ns i is)
  where
    by : (b : Bool) → index_of name ns < length ns → cond (not b) (1 + index_of name ns) 0 < suc (length ns)
    by true lt = omega arith
    by false lt = omega (arith, lt)

pub index_less : (name : List ℕ) (names : List (List ℕ)) → Has names name → index_of name names < length names
index_less name names h = index_from name names h.0 h.1

-- ---- exports

-- an export of an owner that is there
pub record IsFound (n : ℕ) (xs : List Exporter) (e : Exported) : Type 0 where
  pub index : ℕ
  pub owner : Exporter
  pub at : slice_get xs index ≡ Some owner
  pub counted : e.owner ≡ n + index
  pub inside : e.export < length owner.exports

found_later : (n : ℕ) (x : Exporter) (xs : List Exporter) (e : Exported) → IsFound (n + 1) xs e → IsFound n (x ∷ xs) e
found_later n x xs e h = record { index = suc h.index; owner = h.owner; at = h.at; counted = (let c = h.counted in omega (arith, c)); inside = h.inside }

-- one of the owners has an export of this name
pub record IsExported (name : List ℕ) (xs : List Exporter) : Type 0 where
  pub index : ℕ
  pub owner : Exporter
  pub at : slice_get xs index ≡ Some owner
  pub among : Has (full_names owner) name

find_export : (name : List ℕ) (n : ℕ) (xs : List Exporter) (i : ℕ) (owner : Exporter) → slice_get xs i ≡ Some owner → Has (full_names owner) name → IsFound n xs (export_from name n xs)
find_export name n [] i owner is h = absurd (let no : None ≡ Some owner = is in cc)
find_export name n (x ∷ xs) zero owner is h =
    let same : x ≡ owner = cc in
    let here : Has (full_names x) name = subst (λ (y : Exporter). Has (full_names y) name) (sym same) h in
    let less : index_of name (full_names x) < length x.exports = subst (λ k. index_of name (full_names x) < k) (length-map x.exports (export_name x.name)) (index_less name (full_names x) here) in
    first less
  where
    first : index_of name (full_names x) < length x.exports → IsFound n (x ∷ xs) (export_from name n (x ∷ xs))
    first lt = elim (lt_tells (index_of name (full_names x)) (length x.exports)) [
      | inl t ↦ subst (IsFound n (x ∷ xs)) (sym (ap (λ b. cond b (exported n (index_of name (full_names x))) (export_from name (n + 1) xs)) t.0))
          (record { index = zero; owner = x; at = refl; counted = omega arith; inside = lt })
      | inr t ↦ absurd (let le = t.1 in omega (arith, le, lt))
    ]
find_export name n (x ∷ xs) (suc i) owner is h = by (nat_lt (index_of name (full_names x)) (length x.exports)) refl (find_export name (n + 1) xs i owner is h)
  where
    by : (b : Bool) → nat_lt (index_of name (full_names x)) (length x.exports) ≡ b → IsFound (n + 1) xs (export_from name (n + 1) xs)
        → IsFound n (x ∷ xs) (cond b (exported n (index_of name (full_names x))) (export_from name (n + 1) xs))
    by false is later = found_later n x xs (export_from name (n + 1) xs) later
    by true is later = elim (lt_tells (index_of name (full_names x)) (length x.exports)) [
      | inl t ↦ record { index = zero; owner = x; at = refl; counted = omega arith; inside = t.1 }
      | inr t ↦ absurd (let no : true ≡ false = sym is ∙ t.0 in cc)
    ]

unfoldable pub exporter_of : DescCompartment → Exporter
exporter_of c = record { name = c.name; exports = export_names c }

unfoldable pub library_exporter_of : LibraryRow → Exporter
library_exporter_of l = record { name = l.name; exports = library_export_names l }

pub call_found : (d : DescRow) (text : List ℕ) → IsCallImport d text → IsFound 0 (compartment_exporters d) (compartment_export_named d text)
unfolding exporter_of
call_found d text h =
    let owner = exporter_of h.owner in
    let there = has_mapped exporter_of d.compartments h.owner h.listed in
    let gate = has_mapped (λ (x : ExportRow). x.name) h.owner.exports h.gate h.exported in
    let full = has_mapped (export_name h.owner.name) (export_names h.owner) h.gate.name gate in
    find_export text 0 (compartment_exporters d) there.0 owner there.1 (subst (Has (full_names owner)) (sym h.spelled) full)

pub lent_found : (d : DescRow) (text : List ℕ) → IsLent d text → IsFound 0 (library_exporters d) (library_export_named d text)
unfolding library_exporter_of
lent_found d text h =
    let owner = library_exporter_of h.owner in
    let there = has_mapped library_exporter_of d.libraries h.owner h.listed in
    let gate = has_mapped (λ (x : LexportRow). x.name) h.owner.exports h.gate h.exported in
    let full = has_mapped (export_name h.owner.name) (library_export_names h.owner) h.gate.name gate in
    find_export text 0 (library_exporters d) there.0 owner there.1 (subst (Has (full_names owner)) (sym h.spelled) full)
