-- What boot makes for each entry is rooted in it.
use Rattle.std.proofs.Common.{ℕ, ◌≡◌, inl, inr, true, ◌&&◌, not, nat_eq, refl, sym, ap, ◌∙◌, arith}
use Rattle.def_words.specs.declared.Cap.{Cap}
use Rattle.def_words.specs.declared.Shadow.{Shadow}
use Rattle.def_reach.specs.Roots.{is_root, is_quota}
use Rattle.def_machine.specs.Image.{root, made_cap}
use Rattle.def_confined.specs.Partitioned.{BootMade}
use Rattle.def_image.specs.Parts.{PartsRow}
use Rattle.def_image.specs.Sound.{Sound}
use Rattle.def_boot.specs.Boot.{image_of}
use Rattle.def_boot.specs.Made.{from_entry}
use Rattle.law_moves.proofs.Boots.{as_boot, no_source}
use Rattle.law_moves.proofs.Makes.{made_rooted}
use Rattle.law_boot.proofs.Sets.{clash_of, no_way}
use Rattle.law_boot.proofs.Told.{Told, Faithful}
use Rattle.law_boot.proofs.Clauses.{told_at}

boot_made : (p : PartsRow) (n : ℕ) → Told p n (root (image_of p) n) (made_cap (image_of p) n) → Faithful p n (root (image_of p) n) (made_cap (image_of p) n) → BootMade (image_of p) n (made_cap (image_of p) n)
boot_made p n t f =
    let i = image_of p in
    let order = t.order in
    let no_heap = no_source (is_quota (root i n).origin) in
    record {
      from = ap (λ (x : Shadow). x.root) f.made.shadow_is;
      source = ap (λ (x : Shadow). x.source) f.made.shadow_is;
      rooted = made_rooted i (made_cap i n) (from_entry n) (root i n).base (root i n).top (root i n).rights f.at f.seal f.made.made f.made.shadow_is (record {
        order = t.order;
        roots = f.roots;
        home = f.home;
        legal = t.rights.legal;
        range = λ none. (omega arith, omega arith);
        heap = λ heap. clash_of (is_quota (root i n).origin && not (nat_eq 0 0)) heap no_heap;
        rights = λ none b there. there;
        heap_rights = λ heap. clash_of (is_quota (root i n).origin && not (nat_eq 0 0)) heap no_heap;
        local = t.rights.local;
        held = t.rights.held;
        returns = λ returns. let says = f.says.returns (elim returns [ inl four ↦ absurd (f.says.not_off four) | inr five ↦ five ]) in (says.0, says.1, no_heap);
        off = f.says.not_off;
        calls = f.says.calls;
        native = λ native. sym f.made.made.address_is;
      }) (λ boots. as_boot i n (made_cap i n) refl f.made.shadow_is);
    }

-- what boot makes for an entry is as *Partitioned* asks
pub made_stands : (p : PartsRow) → Sound p → (n : ℕ) → is_root (root (image_of p) n).origin ≡ true → (made_cap (image_of p) n).tag ≡ true → BootMade (image_of p) n (made_cap (image_of p) n)
made_stands p s n is tagged = elim (told_at p s n).made [
  | inl none ↦ no_way (sym (ap (λ (c : Cap). c.tag) none.plain_is) ∙ tagged)
  | inr f ↦ boot_made p n (told_at p s n) f
]
