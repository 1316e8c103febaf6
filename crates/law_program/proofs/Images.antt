-- Any bytes are an image, or have a fault.
use Rattle.std.proofs.Common.{ℕ, ◌≡◌, ◌^◌, ◌<◌, ◌⊎◌, inl, inr, true, List, length, Option, Some, None, refl, sym, ◌∙◌, arith}
use Rattle.std.proofs.lemmas.Bool.{cases_Bool}
use Rattle.def_image.specs.Raw.{RawImage}
use Rattle.def_image.specs.Parts.{PartsRow}
use Rattle.def_image.specs.Spelling.{image_bytes}
use Rattle.def_image.specs.Checks.{first}
use Rattle.def_image.specs.Limits.{limit_checks}
use Rattle.def_image.specs.Lying.{region_checks}
use Rattle.def_image.specs.Indexes.{index_checks}
use Rattle.def_image.specs.Rights.{right_checks}
use Rattle.def_image.specs.Accepted.{is_begun, Spells, IsImage, FaultAt}
use Rattle.ct_image_fields.specs.Reading.{all_of}
use Rattle.ct_image_fields.proofs.Whole.{all_take, all_again}
use Rattle.ct_image_parts.specs.Converted.{parts_of}
use Rattle.ct_image.specs.declared.fault.ImageFault.TheVariants.{At}
use Rattle.ct_image.specs.Answers.{Stand}
use Rattle.ct_image.proofs.Answered.{unbegun, uncut, unlimited, standing, spelled_by, refused, faultless}
use Rattle.def_program.specs.Following.{IsContent}

pub record Taken (bytes : List ℕ) : Type 0 where
  pub parts : PartsRow
  pub image : IsImage bytes parts

pub record Flawed (bytes : List ℕ) : Type 0 where
  pub number : ℕ
  pub place : ℕ
  pub fault : FaultAt bytes number place

-- ---- parts whose limits and forms hold

module _ (bytes : List ℕ) (p : PartsRow) (begun : is_begun bytes ≡ true) (s : Stand p) (e : bytes ≡ image_bytes p) where
  by_rights : (o : Option ℕ) → first (right_checks p) ≡ o → first (region_checks p) ≡ None → first (index_checks p) ≡ None → Taken bytes ⊎ Flawed bytes
  by_rights None rights regions indexes = inl (record { parts = p; image = (faultless p s regions indexes rights, e) })
  by_rights (Some place) rights regions indexes =
      inr (record { number = 6; place = place; fault = refused p bytes (At 6 place) begun s e (inr (inr (refl, regions, indexes, rights))) })

  by_indexes : (o : Option ℕ) → first (index_checks p) ≡ o → first (region_checks p) ≡ None → Taken bytes ⊎ Flawed bytes
  by_indexes None indexes regions = by_rights (first (right_checks p)) refl regions indexes
  by_indexes (Some place) indexes regions =
      inr (record { number = 5; place = place; fault = refused p bytes (At 5 place) begun s e (inr (inl (refl, regions, indexes))) })

  by_regions : (o : Option ℕ) → first (region_checks p) ≡ o → Taken bytes ⊎ Flawed bytes
  by_regions None regions = by_indexes (first (index_checks p)) refl regions
  by_regions (Some place) regions =
      inr (record { number = 4; place = place; fault = refused p bytes (At 4 place) begun s e (inl (refl, regions)) })

-- ---- bytes that begin as an image does

module _ (bytes : List ℕ) (content : IsContent bytes) (begun : is_begun bytes ≡ true) where
  short : length bytes < 2 ^ 32
  short = let size = content.size in omega (arith, size)

  by_limits : (r : RawImage) → Spells r bytes → (o : Option ℕ) → first (limit_checks r) ≡ o → Taken bytes ⊎ Flawed bytes
  by_limits r spells None none =
      by_regions bytes (parts_of r) begun (standing r bytes short begun spells none) (spelled_by r bytes spells none) (first (region_checks (parts_of r))) refl
  by_limits r spells (Some place) found = inr (record { number = 3; place = place; fault = unlimited bytes r place begun spells found })

  by_fields : (o : Option RawImage) → all_of bytes ≡ o → Taken bytes ⊎ Flawed bytes
  by_fields None none =
      inr (record {
        number = 2;
        place = length bytes;
        fault = uncut bytes begun (λ r spells. absurd (let clash : None ≡ Some r = sym none ∙ all_again bytes r spells in cc));
      })
  by_fields (Some r) found = by_limits r (all_take bytes r content.each found) (first (limit_checks r)) refl

pub image_or_flaw : (bytes : List ℕ) → IsContent bytes → Taken bytes ⊎ Flawed bytes
image_or_flaw bytes content = elim (cases_Bool (is_begun bytes)) [
  | inr off ↦ inr (record { number = 1; place = 0; fault = unbegun bytes off })
  | inl begun ↦ by_fields bytes content begun (all_of bytes) refl
]
