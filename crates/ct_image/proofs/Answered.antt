-- What acceptance answers is a fault, by its stages.
use Rattle.std.proofs.Common.{ℕ, ◌≡◌, ◌<◌, ◌^◌, inl, inr, ◌&&◌, true, false, nat_le, List, length, take, drop, Some, None, refl, sym, ap, ◌∙◌, subst, arith}
use Rattle.std.specs.Prelude.{bytes_eq, IfOk, IfErr, Result, Ok, Err}
use Rattle.std.specs.Int.{w32, from_le_bytes, is_in_range}
use Rattle.law_lists.proofs.Tests.{both_right}
use Rattle.def_image.specs.Raw.{RawImage}
use Rattle.def_image.specs.Parts.{PartsRow}
use Rattle.def_image.specs.Profile.{last_version}
use Rattle.def_image.specs.Spelling.{magic, spelled, image_bytes}
use Rattle.def_image.specs.Checks.{first}
use Rattle.def_image.specs.Limits.{limit_checks}
use Rattle.def_image.specs.Lying.{region_checks}
use Rattle.def_image.specs.Indexes.{index_checks}
use Rattle.def_image.specs.Rights.{right_checks}
use Rattle.def_image.specs.Accepted.{is_begun, Spells, SpellsParts, IsFaultless, IsImage, FaultAt}
use Rattle.law_image.proofs.Rows.{number_back}
use Rattle.ct_image_parts.specs.Converted.{parts_of}
use Rattle.ct_image_parts.proofs.Backs.{comes_back}
use Rattle.ct_image.specs.declared.fault.ImageFault.{ImageFault}
use Rattle.ct_image.specs.declared.fault.ImageFault.TheVariants.{At, NoMemory}
use Rattle.ct_image.specs.Answers.{RefusesBytes, Stand, Wrong, Breaks}

pub unbegun : (bytes : List ℕ) → is_begun bytes ≡ false → FaultAt bytes 1 0
unbegun bytes e = inl (refl, e, refl)

pub uncut : (bytes : List ℕ) → is_begun bytes ≡ true → ((r : RawImage) → Spells r bytes → ⊥) → FaultAt bytes 2 (length bytes)
uncut bytes begun none = inr (begun, inl (refl, (refl, none)))

pub unlimited : (bytes : List ℕ) (r : RawImage) (place : ℕ) → is_begun bytes ≡ true → Spells r bytes → first (limit_checks r) ≡ Some place → FaultAt bytes 3 place
unlimited bytes r place begun spells found = inr (begun, inr (inl (refl, (r, spells, found))))

-- ---- the parts of fields whose limits hold

version_is : (r : RawImage) (bytes : List ℕ) → is_begun bytes ≡ true → Spells r bytes → is_in_range 1 last_version r.version ≡ true
unfolding spelled
version_is r bytes begun spells =
    let told : is_in_range 1 last_version (from_le_bytes w32 (take 4 (drop 4 bytes))) ≡ true =
    both_right (nat_le 8 (length bytes) && bytes_eq (take 4 bytes) magic) (is_in_range 1 last_version (from_le_bytes w32 (take 4 (drop 4 bytes)))) begun in
    let there : from_le_bytes w32 (take 4 (drop 4 bytes)) ≡ r.version =
    ap (λ (b : List ℕ). from_le_bytes w32 (take 4 (drop 4 b))) spells.1 ∙ number_back r.version spells.0.version in
    sym (ap (is_in_range 1 last_version) there) ∙ told

version_kept : (r : RawImage) → (parts_of r).version ≡ r.version
unfolding parts_of
version_kept r = refl

pub standing : (r : RawImage) (bytes : List ℕ) → length bytes < 2 ^ 32 → is_begun bytes ≡ true → Spells r bytes → first (limit_checks r) ≡ None → Stand (parts_of r)
unfolding image_bytes
standing r bytes short begun spells none =
    let back = comes_back r spells.0 none in
    let size : length (image_bytes (parts_of r)) ≡ length bytes = ap (λ q. length (spelled q)) back.fields ∙ ap (λ (b : List ℕ). length b) (sym spells.1) in
    record {
      spellable = back.spellable;
      version = ap (is_in_range 1 last_version) (version_kept r) ∙ version_is r bytes begun spells;
      limits = ap (λ q. first (limit_checks q)) back.fields ∙ none;
      small = omega (arith, size, short);
    }

pub spelled_by : (r : RawImage) (bytes : List ℕ) → Spells r bytes → first (limit_checks r) ≡ None → bytes ≡ image_bytes (parts_of r)
unfolding image_bytes
spelled_by r bytes spells none = spells.1 ∙ ap spelled (sym (comes_back r spells.0 none).fields)

-- ---- what is wrong with parts

stands : (p : PartsRow) (bytes : List ℕ) → Stand p → bytes ≡ image_bytes p → SpellsParts bytes p
stands p bytes s e = (s.spellable, e, s.limits)

wrong : (p : PartsRow) (bytes : List ℕ) (n k : ℕ) → is_begun bytes ≡ true → Stand p → bytes ≡ image_bytes p → Wrong p n k → FaultAt bytes n k
wrong p bytes n k begun s e w = elim w [
  | inl a ↦ inr (begun, inr (inr (inl (a.0, (p, stands p bytes s e, a.1)))))
  | inr x ↦ elim x [
    | inl a ↦ inr (begun, inr (inr (inr (inl (a.0, (p, stands p bytes s e, a.1, a.2))))))
    | inr a ↦ inr (begun, inr (inr (inr (inr (a.0, (p, stands p bytes s e, a.1, a.2, a.3))))))
  ]
]

pub refused : (p : PartsRow) (bytes : List ℕ) (f : ImageFault) → is_begun bytes ≡ true → Stand p → bytes ≡ image_bytes p → Breaks p f → RefusesBytes bytes f
refused p bytes (At n k) begun s e b = wrong p bytes n k begun s e b
refused p bytes NoMemory begun s e b = tt

-- ---- parts on which nothing fails

pub faultless : (p : PartsRow) → Stand p → first (region_checks p) ≡ None → first (index_checks p) ≡ None → first (right_checks p) ≡ None → IsFaultless p
faultless p s r i g = record { spellable = s.spellable; version = s.version; limits = s.limits; regions = r; indexes = i; rights = g }

-- ---- what judging answers, said of the bytes

pub image_is : (r : RawImage) (p : PartsRow) (bytes : List ℕ) (x : Result PartsRow ImageFault) → Spells r bytes → first (limit_checks r) ≡ None → p ≡ parts_of r → IfOk x (λ i. i ≡ p) → IfOk x (λ i. IsFaultless i) → IfOk x (λ i. IsImage bytes i)
image_is r p bytes (Ok i) spells none made same right = (right, spelled_by r bytes spells none ∙ sym (ap image_bytes (same ∙ made)))
image_is r p bytes (Err e) spells none made same right = tt

pub refused_is : (r : RawImage) (p : PartsRow) (bytes : List ℕ) (x : Result PartsRow ImageFault) → is_begun bytes ≡ true → Spells r bytes → first (limit_checks r) ≡ None → p ≡ parts_of r → Stand p → IfErr x (λ e. Breaks p e) → IfErr x (λ e. RefusesBytes bytes e)
refused_is r p bytes (Ok i) begun spells none made s b = tt
refused_is r p bytes (Err e) begun spells none made s b = refused p bytes e begun s (spelled_by r bytes spells none ∙ sym (ap image_bytes made)) b

pub standing_is : (r : RawImage) (p : PartsRow) (bytes : List ℕ) → length bytes < 2 ^ 32 → is_begun bytes ≡ true → Spells r bytes → first (limit_checks r) ≡ None → p ≡ parts_of r → Stand p
standing_is r p bytes short begun spells none made = subst (λ (q : PartsRow). Stand q) (sym made) (standing r bytes short begun spells none)
