-- What boot made for an entry has its range and rights.
use Rattle.std.proofs.Common.{ℕ, zero, suc, ◌≡◌, ◌^◌, inl, inr, true, Option, Some, None, slice_get, refl, sym, ap, ◌∙◌, arith}
use Rattle.ct_entry.specs.Listed.{Listed}
use Rattle.ct_entry.specs.declared.rows.Entry.{Entry}
use Rattle.ct_entry.specs.declared.rows.Gate.{Gate}
use Rattle.ct_entry.specs.declared.rows.Kind.{Kind}
use Rattle.def_words.specs.declared.Cap.{Cap}
use Rattle.def_words.specs.declared.Shadow.{Shadow}
use Rattle.def_words.specs.Authority.{cap_base, cap_top}
use Rattle.def_reach.specs.Roots.{Origin, Listing, root_of, listed_root, gate_for, is_root}
use Rattle.def_machine.specs.Image.{root, made_cap}
use Rattle.def_image.specs.Parts.{PartsRow}
use Rattle.def_image.specs.Sound.{Sound}
use Rattle.def_boot.specs.Boot.{image_of}
use Rattle.def_boot.specs.Made.{caps_at_boot, return_sentry}
use Rattle.def_boot.specs.Listed.{HasGrant, IsListed}
use Rattle.law_boot.proofs.Sets.{no_way}
use Rattle.law_boot.proofs.Making.{sentry_made}
use Rattle.law_boot.proofs.Told.{LiesAs, of_nothing, in_ram, native, device, of_key, native_high}
use Rattle.law_boot.proofs.Clauses.{told_at}
use Rattle.law_boot.proofs.Rooting.{faithful}

pub sentry_is : (p : PartsRow) → made_cap (image_of p) 0 ≡ return_sentry
unfolding image_of caps_at_boot
sentry_is p = refl

listed_entry : (o : Option Entry) (g : Gate) → is_root (listed_root o g).origin ≡ true → (k : Kind) × ((listed_root o g).origin ≡ Listing k)
listed_entry None g is = no_way is
listed_entry (Some r) g is = (r.kind, refl)

numbered_entry : (e : Listed) (m : ℕ) → is_root (root_of e (suc m)).origin ≡ true → (k : Kind) × ((root_of e (suc m)).origin ≡ Listing k)
unfolding root_of
numbered_entry e m is = listed_entry (slice_get e.rows m) (gate_for e.gates (suc m)) is

-- what has a root's range and rights is the return sentry, or an entry's
pub listed_by : (p : PartsRow) (n : ℕ) (c : Cap) → is_root (root (image_of p) n).origin ≡ true → (n ≡ 0 → c ≡ return_sentry) → HasGrant (image_of p) n c → IsListed (image_of p) c
listed_by p zero c is none h = inl (none refl)
listed_by p (suc m) c is none h = inr (suc m, numbered_entry (image_of p).entries m is, h)

module _ (p : PartsRow) (s : Sound p) where
  pub made_grant : (n : ℕ) → (made_cap (image_of p) n).tag ≡ true → HasGrant (image_of p) n (made_cap (image_of p) n)
  made_grant n tagged =
      let f = faithful p s n tagged in
      record {
        root_is = ap (λ (x : Shadow). x.root) f.made.shadow_is;
        source_is = ap (λ (x : Shadow). x.source) f.made.shadow_is;
        base_is = f.made.made.base_is;
        top_is = f.made.made.top_is;
        rights_are = f.made.made.rights_are;
      }

  pub made_listed : (n : ℕ) → (made_cap (image_of p) n).tag ≡ true → IsListed (image_of p) (made_cap (image_of p) n)
  made_listed n tagged = listed_by p n (made_cap (image_of p) n) (faithful p s n tagged).roots (λ e. ap (made_cap (image_of p)) e ∙ sentry_is p) (made_grant n tagged)

  -- ---- no entry has all authority

  lies_narrow : (o : Origin) (base top : ℕ) → LiesAs p o base top → base ≡ 0 → top ≡ 2 ^ 32 → ⊥
  lies_narrow o base top (of_nothing no_key none) low high = omega (arith, none, high)
  lies_narrow o base top (in_ram no_key from to) low high =
      let inside = s.heap.inside in
      let end = s.ram.end in
      omega (arith, to, inside, end, high)
  lies_narrow o base top (native no_key own entry) low high = let to = native_high base top entry in omega (arith, to, high)
  lies_narrow o base top (device its at) low high = let ends = at.ends in omega (arith, ends, low, high)
  lies_narrow o base top (of_key its from to) low high = omega (arith, to, high)

  grant_narrow : (n : ℕ) (c : Cap) → HasGrant (image_of p) n c → cap_base c ≡ 0 → cap_top c ≡ 2 ^ 32 → ⊥
  grant_narrow n c h low high = lies_narrow _ _ _ (told_at p s n).lies (sym h.base_is ∙ low) (sym h.top_is ∙ high)

  pub listed_narrow : (c : Cap) → IsListed (image_of p) c → cap_base c ≡ 0 → cap_top c ≡ 2 ^ 32 → ⊥
  listed_narrow c (inl same) low high =
      let base = sentry_made.made.base_is in
      let there : cap_base return_sentry ≡ 0 = ap cap_base (sym same) ∙ low in
      omega (arith, base, there)
  listed_narrow c (inr h) low high = grant_narrow h.0 c h.2 low high
