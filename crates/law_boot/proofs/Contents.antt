-- What stands in RAM at boot: what is tagged was made for an entry.
use Rattle.std.proofs.Common.{ℕ, zero, suc, ◌≡◌, ◌+◌, ◌-◌, ◌*◌, ◌/◌, ◌<◌, ◌≤◌, inl, inr, Bool, true, false, cond, nat_lt, nat_eq, length, Option, Some, None, slice_index_or, refl, sym, ap, ◌∙◌, subst, arith}
use Rattle.law_lists.proofs.Tests.{lt_tells}
use Rattle.ct_entry.specs.declared.rows.Owner.TheVariants.{Trusted, Compartment, Library, Thread}
use Rattle.def_profile.specs.declared.layout.TheConstants.{SLOT_SIZE, GRANULE}
use Rattle.def_words.specs.declared.Cap.{Cap}
use Rattle.def_memory.specs.declared.Granule.{Granule}
use Rattle.def_memory.specs.Granules.{plain, nothing}
use Rattle.def_machine.specs.Image.{booted, address_of}
use Rattle.def_image.specs.Parts.{CodeRow, PartsRow}
use Rattle.def_image.specs.Members.{compartment, library, code_number, globals_number, library_number}
use Rattle.def_image.specs.Regions.{Holder, CodeOf, TableOf, GlobalsOf, SharedOf, SealedOf, StackOf, TrustedPart, RegionRow}
use Rattle.def_boot.specs.Made.{boot_cap_of, caps_at_boot, return_sentry}
use Rattle.def_boot.specs.Contents.{content, content_at, code_content, boot_cap, boot_granule, boot_granules, granules_from, granules_in, region_at}
use Rattle.def_boot.specs.Boot.{image_of}
use Rattle.law_boot.proofs.Sets.{no_way}

-- a capability is what was made for an entry
abbrev pub IsMadeCap : PartsRow → Cap → Type 0
IsMadeCap p c = (n : ℕ) × (c ≡ boot_cap_of p n)

-- either of two
either : (p : PartsRow) (b : Bool) (c d : Cap) → (c.tag ≡ true → IsMadeCap p c) → (d.tag ≡ true → IsMadeCap p d) → (cond b c d).tag ≡ true → IsMadeCap p (cond b c d)
either p true c d one other tagged = one tagged
either p false c d one other tagged = other tagged

in_code : (p : PartsRow) (first : ℕ) (c : CodeRow) (k : ℕ) → (code_content p first c k).tag ≡ true → IsMadeCap p (code_content p first c k)
in_code p first c k tagged = either p (nat_lt k (SLOT_SIZE * length c.slots)) (boot_cap_of p (first + k / SLOT_SIZE)) _ (λ t. (first + k / SLOT_SIZE, refl)) (λ t. no_way t) tagged

sentry_made : (p : PartsRow) → return_sentry ≡ boot_cap_of p 0
unfolding caps_at_boot
sentry_made p = refl

made_in : (p : PartsRow) (h : Holder) (k : ℕ) → (content p h k).tag ≡ true → IsMadeCap p (content p h k)
made_in p (CodeOf (Compartment b)) k tagged = in_code p (code_number p b + 2) (compartment p b).code k tagged
made_in p (CodeOf (Library l)) k tagged = in_code p (library_number p l + 1) (library p l) k tagged
made_in p (CodeOf Trusted) k tagged = no_way tagged
made_in p (CodeOf (Thread t)) k tagged = no_way tagged
made_in p (TableOf b) k tagged =
    either p (nat_eq k 0) (boot_cap_of p (code_number p b)) _ (λ t. (code_number p b, refl))
    (either p (nat_eq k GRANULE) (boot_cap_of p (globals_number p b)) _ (λ t. (globals_number p b, refl)) (λ t. no_way t)) tagged
made_in p (GlobalsOf b) k tagged = no_way tagged
made_in p (SharedOf n) k tagged = no_way tagged
made_in p (SealedOf n) k tagged = no_way tagged
made_in p (StackOf t) k tagged = no_way tagged
made_in p TrustedPart k tagged = either p (nat_eq k 0) return_sentry (plain 0) (λ t. (0, sentry_made p)) (λ t. no_way t) tagged

made_found : (p : PartsRow) (o : Option RegionRow) (x : ℕ) → (content_at p o x).tag ≡ true → IsMadeCap p (content_at p o x)
made_found p None x tagged = no_way tagged
made_found p (Some r) x tagged = made_in p r.holder (x - r.base) tagged

pub made_at : (p : PartsRow) (x : ℕ) → (boot_cap p x).tag ≡ true → IsMadeCap p (boot_cap p x)
unfolding boot_cap
made_at p x tagged = made_found p (region_at p x) x tagged

-- ---- by granule

pub granules_count : (p : PartsRow) (x n : ℕ) → length (granules_from p x n) ≡ n
granules_count p x zero = refl
granules_count p x (suc n) = ap suc (granules_count p (x + GRANULE) n)

pub granules_there : (p : PartsRow) (x n k : ℕ) → k < n → slice_index_or (granules_from p x n) k nothing ≡ boot_granule p (x + 8 * k)
granules_there p x zero k lt = absurd (omega (arith, lt))
granules_there p x (suc n) zero lt = ap (λ y. boot_granule p y) (let same : x ≡ x + 8 * 0 = omega arith in same)
granules_there p x (suc n) (suc k) lt = granules_there p (x + GRANULE) n k (omega (arith, lt)) ∙ ap (λ y. boot_granule p y) (let same : x + GRANULE + 8 * k ≡ x + 8 * suc k = omega arith in same)

pub granules_past : (p : PartsRow) (x n k : ℕ) → n ≤ k → slice_index_or (granules_from p x n) k nothing ≡ nothing
granules_past p x zero k past = refl
granules_past p x (suc n) zero past = absurd (omega (arith, past))
granules_past p x (suc n) (suc k) past = granules_past p (x + GRANULE) n k (omega (arith, past))

pub booted_in : (p : PartsRow) (k : ℕ) → k < granules_in p → (booted (image_of p) k).cap ≡ boot_cap p (address_of (image_of p) k)
unfolding image_of boot_granules
booted_in p k lt = ap (λ (g : Granule). g.cap) (granules_there p p.ram (granules_in p) k lt)

booted_past : (p : PartsRow) (k : ℕ) → granules_in p ≤ k → booted (image_of p) k ≡ nothing
unfolding image_of boot_granules
booted_past p k past = granules_past p p.ram (granules_in p) k past

pub booted_made : (p : PartsRow) (k : ℕ) → (booted (image_of p) k).cap.tag ≡ true → IsMadeCap p (booted (image_of p) k).cap
booted_made p k tagged = elim (lt_tells k (granules_in p)) [
  | inl lt ↦ subst (λ c. IsMadeCap p c) (sym (booted_in p k lt.1)) (made_at p (address_of (image_of p) k) (ap (λ (c : Cap). c.tag) (sym (booted_in p k lt.1)) ∙ tagged))
  | inr past ↦ no_way (ap (λ (g : Granule). g.cap.tag) (sym (booted_past p k past.1)) ∙ tagged)
]
