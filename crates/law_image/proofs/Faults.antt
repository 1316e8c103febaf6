-- Bytes have one answer: an image, or one fault at one place.
use Rattle.std.proofs.Common.{ℕ, suc, ◌≡◌, ◌<◌, ◌^◌, ◌⊎◌, inl, inr, Bool, true, false, nat_le, List, length, take, drop, Option, Some, None, refl, sym, ap, ◌∙◌, subst, arith}
use Rattle.std.specs.Prelude.{bytes_eq}
use Rattle.std.specs.Int.{w32, from_le_bytes, is_in_range}
use Rattle.def_image.specs.Raw.{RawImage}
use Rattle.def_image.specs.Parts.{PartsRow}
use Rattle.def_image.specs.Profile.{last_version}
use Rattle.def_image.specs.Spelling.{magic, number, spelled, raw_of, image_bytes}
use Rattle.def_image.specs.Checks.{first}
use Rattle.def_image.specs.Limits.{limit_checks}
use Rattle.def_image.specs.Lying.{region_checks}
use Rattle.def_image.specs.Indexes.{index_checks}
use Rattle.def_image.specs.Rights.{right_checks}
use Rattle.def_image.specs.Accepted.{is_begun, Spells, IsImage, IsCut, BreaksLimit, SpellsParts, BreaksRegion, BreaksIndex, BreaksRight}
use Rattle.law_lists.proofs.Tests.{le_tells, all_three}
use Rattle.def_image.specs.Answers.{ImagesHaveNoFault, OneFault}
use Rattle.law_image.proofs.Rows.{number_back}
use Rattle.law_image.proofs.OneCut.{one_cut}
use Rattle.law_image.proofs.Backs.{one_reading}

-- ---- an image's bytes begin as one

pub eight : (n : ℕ) → nat_le 8 (suc (suc (suc (suc (suc (suc (suc (suc n)))))))) ≡ true
eight n = elim (le_tells 8 (suc (suc (suc (suc (suc (suc (suc (suc n))))))))) [ inl h ↦ h.0 | inr h ↦ absurd (let less = h.1 in omega (arith, less)) ]

begun : (r : RawImage) → r.version < 2 ^ 32 → is_in_range 1 last_version r.version ≡ true → is_begun (spelled r) ≡ true
unfolding spelled
begun r small within =
    let bytes = spelled r in
    let version : from_le_bytes w32 (take 4 (drop 4 bytes)) ≡ r.version = number_back r.version small in
    let long : nat_le 8 (length bytes) ≡ true = eight (length (drop 8 bytes)) in
    all_three (nat_le 8 (length bytes)) (bytes_eq (take 4 bytes) magic) (is_in_range 1 last_version (from_le_bytes w32 (take 4 (drop 4 bytes)))) long refl (ap (is_in_range 1 last_version) version ∙ within)

-- ---- what each answer says of the fields and parts

abbrev placed : ℕ → Option ℕ
placed n = Some n

apart : (k : ℕ) (o : Option ℕ) → o ≡ placed k → o ≡ None → ⊥
apart k o e f = absurd (let no : placed k ≡ None = sym e ∙ f in cc)

same : (k j : ℕ) (o : Option ℕ) → o ≡ placed k → o ≡ placed j → k ≡ j
same k j o e f = let g : placed k ≡ placed j = sym e ∙ f in cc

-- the parts of one spelling are one
one_parts : (bytes : List ℕ) (p q : PartsRow) → SpellsParts bytes p → SpellsParts bytes q → p ≡ q
one_parts bytes p q hp hq = one_reading p q hp.0 hq.0 (sym hp.1 ∙ hq.1)

parts_spell : (bytes : List ℕ) (p : PartsRow) → SpellsParts bytes p → Spells (raw_of p) bytes
unfolding image_bytes
parts_spell bytes p h = (h.0.shaped, h.1)

-- fields that break a limit are not those of parts that stand
limit_apart : (bytes : List ℕ) (k : ℕ) (p : PartsRow) → BreaksLimit bytes k → SpellsParts bytes p → ⊥
limit_apart bytes k p b h =
    let is : b.0 ≡ raw_of p = one_cut bytes b.0 (raw_of p) b.1 (parts_spell bytes p h) in
    apart k (first (limit_checks (raw_of p))) (subst (λ (r : RawImage). first (limit_checks r) ≡ placed k) is b.2) h.2

-- of parts q that stand, where p are these
moved : (bytes : List ℕ) (p q : PartsRow) (f : PartsRow → Option ℕ) (o : Option ℕ) → SpellsParts bytes p → SpellsParts bytes q → f p ≡ o → f q ≡ o
moved bytes p q f o hp hq e = subst (λ (x : PartsRow). f x ≡ o) (one_parts bytes p q hp hq) e

abbrev regions : PartsRow → Option ℕ
regions p = first (region_checks p)

abbrev indexes : PartsRow → Option ℕ
indexes p = first (index_checks p)

abbrev rights : PartsRow → Option ℕ
rights p = first (right_checks p)

-- ---- a cut, a limit, a region, an index, a right: no two of them

cut_limit : (bytes : List ℕ) (k j : ℕ) → IsCut bytes k → BreaksLimit bytes j → ⊥
cut_limit bytes k j a b = a.1 b.0 b.1

cut_stands : (bytes : List ℕ) (k : ℕ) (p : PartsRow) → IsCut bytes k → SpellsParts bytes p → ⊥
cut_stands bytes k p a h = a.1 (raw_of p) (parts_spell bytes p h)

region_later : (bytes : List ℕ) (k : ℕ) (p : PartsRow) → BreaksRegion bytes k → SpellsParts bytes p → regions p ≡ None → ⊥
region_later bytes k p b h e = apart k (regions p) (moved bytes b.0 p regions (placed k) b.1 h b.2) e

index_later : (bytes : List ℕ) (k : ℕ) (p : PartsRow) → BreaksIndex bytes k → SpellsParts bytes p → indexes p ≡ None → ⊥
index_later bytes k p b h e = apart k (indexes p) (moved bytes b.0 p indexes (placed k) b.1 h b.3) e

right_later : (bytes : List ℕ) (k : ℕ) (p : PartsRow) → BreaksRight bytes k → SpellsParts bytes p → rights p ≡ None → ⊥
right_later bytes k p b h e = apart k (rights p) (moved bytes b.0 p rights (placed k) b.1 h b.4) e

-- ---- and each at one place

limit_once : (bytes : List ℕ) (k j : ℕ) → BreaksLimit bytes k → BreaksLimit bytes j → k ≡ j
limit_once bytes k j a b =
    let is : a.0 ≡ b.0 = one_cut bytes a.0 b.0 a.1 b.1 in
    same k j (first (limit_checks b.0)) (subst (λ (r : RawImage). first (limit_checks r) ≡ placed k) is a.2) b.2

region_once : (bytes : List ℕ) (k j : ℕ) → BreaksRegion bytes k → BreaksRegion bytes j → k ≡ j
region_once bytes k j a b = same k j (regions b.0) (moved bytes a.0 b.0 regions (placed k) a.1 b.1 a.2) b.2

index_once : (bytes : List ℕ) (k j : ℕ) → BreaksIndex bytes k → BreaksIndex bytes j → k ≡ j
index_once bytes k j a b = same k j (indexes b.0) (moved bytes a.0 b.0 indexes (placed k) a.1 b.1 a.3) b.3

right_once : (bytes : List ℕ) (k j : ℕ) → BreaksRight bytes k → BreaksRight bytes j → k ≡ j
right_once bytes k j a b = same k j (rights b.0) (moved bytes a.0 b.0 rights (placed k) a.1 b.1 a.4) b.4

-- ---- two faults of the same bytes

abbrev Same : ℕ → ℕ → ℕ → ℕ → Type 0
Same n m k j = (n ≡ m) × (k ≡ j)

-- of two kinds that are each told once, and never both, one is told once
abbrev Once : (ℕ → ℕ → Type 0) → Type 0
Once A = (n m k j : ℕ) → A n k → A m j → Same n m k j

abbrev Never : (ℕ → ℕ → Type 0) → (ℕ → ℕ → Type 0) → Type 0
Never A B = (n m k j : ℕ) → A n k → B m j → ⊥

abbrev Either : (ℕ → ℕ → Type 0) → (ℕ → ℕ → Type 0) → ℕ → ℕ → Type 0
Either A B n k = A n k ⊎ B n k

either_once : (A B : ℕ → ℕ → Type 0) → Once A → Never A B → Once B → Once (Either A B)
either_once A B one apart other n m k j x y = elim x [
  | inl a ↦ elim y [ inl b ↦ one n m k j a b | inr b ↦ absurd (apart n m k j a b) ]
  | inr a ↦ elim y [ inl b ↦ absurd (apart m n j k b a) | inr b ↦ other n m k j a b ]
]

-- a kind has a number, and is told at one place
abbrev Kind : ℕ → (ℕ → Type 0) → ℕ → ℕ → Type 0
Kind number Told n k = (n ≡ number) × Told k

kind_once : (number : ℕ) (Told : ℕ → Type 0) → ((k j : ℕ) → Told k → Told j → k ≡ j) → Once (Kind number Told)
kind_once number Told once n m k j a b = (a.0 ∙ sym b.0, once k j a.1 b.1)

module _ (bytes : List ℕ) where
  abbrev Cuts : ℕ → ℕ → Type 0
  Cuts = Kind 2 (IsCut bytes)

  abbrev Limits : ℕ → ℕ → Type 0
  Limits = Kind 3 (BreaksLimit bytes)

  abbrev Regions : ℕ → ℕ → Type 0
  Regions = Kind 4 (BreaksRegion bytes)

  abbrev Indexes : ℕ → ℕ → Type 0
  Indexes = Kind 5 (BreaksIndex bytes)

  abbrev Rights : ℕ → ℕ → Type 0
  Rights = Kind 6 (BreaksRight bytes)

  -- what later kinds say of the parts
  parted : (n k : ℕ) → Either Regions (Either Indexes Rights) n k → (p : PartsRow) × SpellsParts bytes p
  parted n k (inl a) = (a.1.0, a.1.1)
  parted n k (inr (inl a)) = (a.1.0, a.1.1)
  parted n k (inr (inr a)) = (a.1.0, a.1.1)

  laid : (n k : ℕ) → Either Indexes Rights n k → (p : PartsRow) × SpellsParts bytes p × (regions p ≡ None)
  laid n k (inl a) = (a.1.0, a.1.1, a.1.2)
  laid n k (inr a) = (a.1.0, a.1.1, a.1.2)

  cut_never : Never Cuts (Either Limits (Either Regions (Either Indexes Rights)))
  cut_never n m k j a (inl b) = cut_limit bytes k j a.1 b.1
  cut_never n m k j a (inr b) = let s = parted m j b in cut_stands bytes k s.0 a.1 s.1

  limit_never : Never Limits (Either Regions (Either Indexes Rights))
  limit_never n m k j a b = let s = parted m j b in limit_apart bytes k s.0 a.1 s.1

  region_never : Never Regions (Either Indexes Rights)
  region_never n m k j a b = let s = laid m j b in region_later bytes k s.0 a.1 s.1 s.2

  index_never : Never Indexes Rights
  index_never n m k j a b = index_later bytes k b.1.0 a.1 b.1.1 b.1.3

  later : Once (Either Cuts (Either Limits (Either Regions (Either Indexes Rights))))
  later =
      either_once Cuts (Either Limits (Either Regions (Either Indexes Rights))) (kind_once 2 (IsCut bytes) (λ k j a b. a.0 ∙ sym b.0)) cut_never
      (either_once Limits (Either Regions (Either Indexes Rights)) (kind_once 3 (BreaksLimit bytes) (limit_once bytes)) limit_never
      (either_once Regions (Either Indexes Rights) (kind_once 4 (BreaksRegion bytes) (region_once bytes)) region_never
      (either_once Indexes Rights (kind_once 5 (BreaksIndex bytes) (index_once bytes)) index_never
      (kind_once 6 (BreaksRight bytes) (right_once bytes)))))

unbegun : (b : Bool) → b ≡ false → b ≡ true → ⊥
unbegun b e f = absurd (let no : false ≡ true = sym e ∙ f in cc)

pub one_fault : OneFault
one_fault bytes n m k j a b = elim a [
  | inl x ↦ elim b [
    | inl y ↦ (x.0 ∙ sym y.0, x.2 ∙ sym y.2)
    | inr y ↦ absurd (unbegun (is_begun bytes) x.1 y.0)
  ]
  | inr x ↦ elim b [
    | inl y ↦ absurd (unbegun (is_begun bytes) y.1 x.0)
    | inr y ↦ later bytes n m k j x.1 y.1
  ]
]

-- ---- an image's bytes have none

image_begins : (bytes : List ℕ) (p : PartsRow) → IsImage bytes p → is_begun bytes ≡ true
unfolding image_bytes raw_of
image_begins bytes p h = ap is_begun h.1 ∙ begun (raw_of p) h.0.spellable.shaped.version h.0.version

pub no_fault : ImagesHaveNoFault
no_fault bytes p n k h a =
    let stands : SpellsParts bytes p = (h.0.spellable, h.1, h.0.limits) in
    elim a [
      | inl x ↦ unbegun (is_begun bytes) x.1 (image_begins bytes p h)
      | inr y ↦ elim y.1 [
        | inl c ↦ cut_stands bytes k p c.1 stands
        | inr d ↦ elim d [
          | inl c ↦ limit_apart bytes k p c.1 stands
          | inr f ↦ elim f [
            | inl c ↦ region_later bytes k p c.1 stands h.0.regions
            | inr g ↦ elim g [
              | inl c ↦ index_later bytes k p c.1 stands h.0.indexes
              | inr c ↦ right_later bytes k p c.1 stands h.0.rights
            ]
          ]
        ]
      ]
    ]
