-- What boot makes: a capability with an entry's number as root and no source.
use Rattle.std.proofs.Common.{ℕ, ◌≡◌, ◌&&◌, ◌||◌, Bool, true, false, not, nat_eq, List, refl, sym, ap, ◌∙◌, subst}
use Rattle.def_words.specs.declared.Cap.{Cap}
use Rattle.def_words.specs.declared.Shadow.{Shadow}
use Rattle.def_words.specs.Authority.{cap_address, cap_base, cap_top}
use Rattle.def_words.specs.Permissions.{has}
use Rattle.def_words.specs.Seals.{cap_seal}
use Rattle.ct_entry.specs.declared.rows.Kind.TheVariants.{Service}
use Rattle.def_reach.specs.Roots.{TrustedPart, Listing, is_quota}
use Rattle.def_memory.specs.declared.Granule.{Granule}
use Rattle.def_machine.specs.Image.{Image, Region, Fixed, root, made_cap, booted}
use Rattle.def_machine.specs.State.{State, Object}
use Rattle.def_confined.specs.Capabilities.{AsBoot, Kept, heap_cap}
use Rattle.def_confined.specs.Places.{HasLive, InRegion}
use Rattle.law_moves.proofs.Puts.{plain_region}

-- as the image's own list has it
pub as_boot : (i : Image) (n : ℕ) (d : Cap) → d ≡ made_cap i n → d.shadow ≡ record { root = n; source = 0 } → AsBoot i d
as_boot i n d e s =
    let same : made_cap i d.shadow.root ≡ d = ap (λ (x : Shadow). made_cap i x.root) s ∙ sym e in
    record {
      seal = sym (ap cap_seal same);
      low = sym (ap cap_base same);
      high = sym (ap cap_top same);
      at = sym (ap cap_address same);
      rights = λ p other. sym (ap (λ z. has z p) same);
      source = ap (λ (x : Shadow). x.source) s;
    }

-- it has no object as source
pub no_source : (b : Bool) → (b && not (nat_eq 0 0)) ≡ false
no_source true = refl
no_source false = refl

-- so it is no object's, and of none that has to be live
pub no_object : (i : Image) (n : ℕ) (d : Cap) → d.shadow ≡ record { root = n; source = 0 } → heap_cap i d ≡ false
no_object i n d s = let P : Shadow → Type 0 = λ z. (is_quota (root i z.root).origin && not (nat_eq z.source 0)) ≡ false in subst P (sym s) (no_source (is_quota (root i n).origin))

pub not_live : (i : Image) (objects : List Object) (n : ℕ) (d : Cap) → d.shadow ≡ record { root = n; source = 0 } → HasLive i objects d
not_live i objects n d s = λ tagged heap. absurd (let clash : true ≡ false = sym heap ∙ no_object i n d s in cc)

-- what its entry asks of its seal
pub kept_as : (i : Image) (n : ℕ) (d : Cap) → d.shadow ≡ record { root = n; source = 0 } → ((root i n).origin ≡ Listing Service → cap_seal d ≡ 1) × ((root i n).origin ≡ TrustedPart → cap_seal d ≡ 5) → Kept i d
kept_as i n d s h = λ tagged.
    let P : Shadow → Type 0 = λ z. ((root i z.root).origin ≡ Listing Service → cap_seal d ≡ 1) × ((root i z.root).origin ≡ TrustedPart → cap_seal d ≡ 5) in
    subst P (sym s) h

-- a granule as boot filled it is as its region asks, where only what is fixed holds a capability
abbrev pub is_fixed : Region → Bool
is_fixed Fixed = true
is_fixed _ = false

pub filled_region : (i : Image) (s : State) (k : ℕ) (r : Region) (g : Granule) → g.cap ≡ (booted i k).cap → (is_fixed r || not (booted i k).cap.tag) ≡ true → InRegion i s k r g
filled_region i s k Fixed g same test = same
filled_region i s k r g same test = plain_region i s k r g (λ fixed. let clash : true ≡ false = sym (ap is_fixed fixed) in cc) (ap (λ (c : Cap). c.tag) same ∙ untagged (booted i k).cap.tag test)
  where
    untagged : (b : Bool) → not b ≡ true → b ≡ false
    untagged true h = absurd (let clash : false ≡ true = h in cc)
    untagged false h = refl
