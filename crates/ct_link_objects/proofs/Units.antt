-- An owner's object: its exports begin in its text, and a library has no initial bytes.
use Rattle.std.proofs.Common.{ℕ, ◌≡◌, ◌+◌, true, false, cond, List, [], ◌∷◌, Option, Some, None, refl, sym, ap, ap₂, ◌∙◌}
use Rattle.std.specs.Prelude.{Ok, Err, is_none, option_and_then}
use Rattle.def_desc.specs.Rows.{AtRow}
use Rattle.def_link.specs.declared.LinkFault.{LinkFault}
use Rattle.def_link.specs.declared.LinkFault.TheVariants as fault
use Rattle.def_link.specs.Owners.{Unit as OwnerUnit, Built, built, label_or, is_begin, begin_of, first_lost, has_stray_bytes, placed_or, unit_checked, unit_built}
use Rattle.def_object.specs.Object.{text_offset}
use Rattle.ct_asm.specs.Labels.{Assembled}
use Rattle.ct_link_objects.specs.Objects.{built_of, HoldsBuilt, IsBuilt, RefusesLink}

-- ---- an object that holds what was built says the same of exports

label_same : (b : Built) (o : Assembled) → HoldsBuilt b o → (label : Option (List ℕ)) (offset : ℕ) → label_or (built_of o) label offset ≡ label_or b label offset
label_same b o h None offset = refl
label_same b o h (Some name) offset = ap text_offset (h.labels name)

-- the number, where it begins a word of the text
pub begin_at : Built → ℕ → Option ℕ
begin_at b offset = cond (is_begin b offset) (Some offset) None

at_same : (b : Built) (o : Assembled) → HoldsBuilt b o → (r : Option ℕ) → option_and_then (begin_at (built_of o)) r ≡ option_and_then (begin_at b) r
unfolding begin_at
at_same b o h None = refl
at_same b o h (Some offset) = rw h.text refl

begin_same : (b : Built) (o : Assembled) → HoldsBuilt b o → (at : AtRow) → begin_of (built_of o) at ≡ begin_of b at
unfolding begin_at
begin_same b o h at = at_same b o h (label_or (built_of o) at.label at.offset) ∙ ap (λ r. option_and_then (begin_at b) r) (label_same b o h at.label at.offset)

lost_same : (b : Built) (o : Assembled) → HoldsBuilt b o → (n : ℕ) (ats : List AtRow) → first_lost (built_of o) n ats ≡ first_lost b n ats
lost_same b o h n [] = refl
lost_same b o h n (at ∷ ats) = ap₂ (λ r rest. cond (is_none r) (Some n) rest) (begin_same b o h at) (lost_same b o h (n + 1) ats)

stray_same : (u : OwnerUnit) (b : Built) (o : Assembled) → HoldsBuilt b o → has_stray_bytes u.owner (built_of o) ≡ has_stray_bytes u.owner b
stray_same u b o h = rw h.initial refl

-- ---- what comes of an owner

pub unit_fault : (u : OwnerUnit) (source : List ℕ) (e : LinkFault) → built u.owner u.slots u.code source ≡ Err e → unit_built u source ≡ Err e
unit_fault u source e is = ap (unit_checked u) is

unit_is : (u : OwnerUnit) (source : List ℕ) (o : Assembled) (h : IsBuilt (built u.owner u.slots u.code source) o) (lost : Option ℕ) → first_lost (built_of o) 0 u.exports ≡ lost
    → unit_built u source ≡ placed_or u.owner h.built lost
unit_is u source o h lost is = ap (unit_checked u) h.is ∙ ap (placed_or u.owner h.built) (sym (lost_same h.built o h.held 0 u.exports) ∙ is)

pub unit_lost : (u : OwnerUnit) (source : List ℕ) (o : Assembled) (n : ℕ) → IsBuilt (built u.owner u.slots u.code source) o → first_lost (built_of o) 0 u.exports ≡ Some n
    → unit_built u source ≡ Err (fault.Export u.owner n)
unit_lost u source o n h is = unit_is u source o h (Some n) is

pub unit_stray : (u : OwnerUnit) (source : List ℕ) (o : Assembled) → IsBuilt (built u.owner u.slots u.code source) o → first_lost (built_of o) 0 u.exports ≡ None
    → has_stray_bytes u.owner (built_of o) ≡ true → unit_built u source ≡ Err (fault.Initial u.owner)
unit_stray u source o h is stray =
    unit_is u source o h None is ∙ ap (λ b. cond b (Err (fault.Initial u.owner)) (Ok h.built)) (sym (stray_same u h.built o h.held) ∙ stray)

pub unit_placed : (u : OwnerUnit) (source : List ℕ) (o : Assembled) → IsBuilt (built u.owner u.slots u.code source) o → first_lost (built_of o) 0 u.exports ≡ None
    → has_stray_bytes u.owner (built_of o) ≡ false → IsBuilt (unit_built u source) o
unit_placed u source o h is stray = record {
  built = h.built;
  is = unit_is u source o h None is ∙ ap (λ b. cond b (Err (fault.Initial u.owner)) (Ok h.built)) (sym (stray_same u h.built o h.held) ∙ stray);
  held = h.held;
}

-- a fault of the code is that of the owner
pub unit_refused : (u : OwnerUnit) (source : List ℕ) (e : LinkFault) → RefusesLink (built u.owner u.slots u.code source) e → RefusesLink (unit_built u source) e
unit_refused u source fault.NoMemory h = tt
unit_refused u source (fault.Asm owner number line) h = unit_fault u source (fault.Asm owner number line) h
unit_refused u source (fault.Export owner item) h = unit_fault u source (fault.Export owner item) h
unit_refused u source (fault.NoRoom needed has) h = unit_fault u source (fault.NoRoom needed has) h
unit_refused u source (fault.Import owner line) h = unit_fault u source (fault.Import owner line) h
unit_refused u source (fault.Initial owner) h = unit_fault u source (fault.Initial owner) h
