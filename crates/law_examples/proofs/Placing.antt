-- What boot puts into RAM, granule by granule.
use Rattle.std.proofs.Common.{ℕ, ◌≡◌, ◌==◌, ◌<◌, inl, Bool, true, false, refl, sym, ◌∙◌, subst, lit<}
use Rattle.std.proofs.lemmas.Bool.{eqb-true}
use Rattle.def_profile.specs.declared.seals.TheConstants.{SENTRY_INHERIT, RETURN_ENABLE}
use Rattle.def_words.specs.declared.Cap.{Cap}
use Rattle.def_words.specs.Authority.{cap_base}
use Rattle.def_words.specs.Narrows.{IsMade}
use Rattle.def_memory.specs.declared.Granule.{Granule}
use Rattle.def_memory.specs.Granules.{plain, nothing}
use Rattle.ct_entry.specs.declared.rows.Kind.TheVariants.{Service}
use Rattle.def_reach.specs.Roots.{Origin, TrustedPart, Listing, root_of, gate_for}
use Rattle.def_machine.specs.Image.{root, booted}
use Rattle.def_confined.specs.Capabilities.{Rooted, Kept, heap_cap}
use Rattle.def_confined.specs.Partitioned.{AwayFromHeap}
use Rattle.law_moves.proofs.Boots.{no_object, kept_as}
use Rattle.law_examples.specs.Small.{small, made_0, made_1, made_2, made_3, made_4, made_5, made_6, made_7, made_8, made_9, made_11, made_12, made_13, made_14}
use Rattle.law_examples.proofs.Cases.{each_at}
use Rattle.law_examples.proofs.Mades.{is_0, is_1, is_2, is_3, is_4, is_5, is_6, is_7, is_8, is_9, is_11, is_12, is_13, is_14}
use Rattle.law_examples.proofs.Rooting.{rooted_0, rooted_1, rooted_2, rooted_3, rooted_4, rooted_5, rooted_6, rooted_7, rooted_8, rooted_9, rooted_11, rooted_12, rooted_13, rooted_14}

-- the type that an entry asks of its capability
abbrev seal_asked : Origin → ℕ → Bool
seal_asked (Listing Service) k = k == SENTRY_INHERIT
seal_asked TrustedPart k = k == RETURN_ENABLE
seal_asked _ k = true

pub kept_by : (n low high set at k : ℕ) (d : Cap) → IsMade low high set at k d × (d.shadow ≡ record { root = n; source = 0 }) → seal_asked (root small n).origin k ≡ true → Kept small d
kept_by n low high set at k d is asked = kept_as small n d is.1 (
  (λ service. is.0.kind_is ∙ eqb-true k SENTRY_INHERIT (subst (λ o. seal_asked o k ≡ true) service asked)),
  (λ trusted. is.0.kind_is ∙ eqb-true k RETURN_ENABLE (subst (λ o. seal_asked o k ≡ true) trusted asked)),
)

pub record InRam (c : Cap) : Type 0 where
  pub rooted : Rooted small c
  pub away : AwayFromHeap small (cap_base c)
  pub no_heap : heap_cap small c ≡ false
  pub kept : Kept small c

in_ram : (n low high set at k : ℕ) (d : Cap) → IsMade low high set at k d × (d.shadow ≡ record { root = n; source = 0 }) → Rooted small d → low < 0x80000110 → seal_asked (root small n).origin k ≡ true → InRam d
in_ram n low high set at k d is rooted away asked = record {
  rooted = rooted;
  away = inl (subst (λ x. x < 0x80000110) (sym is.0.base_is) away);
  no_heap = no_object small n d is.1;
  kept = kept_by n low high set at k d is asked;
}

none : (plain 0).tag ≡ true → InRam (plain 0)
none tagged = absurd (let clash : false ≡ true = tagged in cc)

pub boot_caps : (k : ℕ) → (booted small k).cap.tag ≡ true → InRam (booted small k).cap
unfolding root_of gate_for
boot_caps = each_at (λ (g : Granule). g.cap.tag ≡ true → InRam g.cap) small.boot nothing none
    ((λ _. in_ram 3 _ _ _ _ _ made_3 is_3 rooted_3 (lit< tt) refl), ((λ _. in_ram 4 _ _ _ _ _ made_4 is_4 rooted_4 (lit< tt) refl), ((λ _. in_ram 5 _ _ _ _ _ made_5 is_5 rooted_5 (lit< tt) refl), ((λ _. in_ram 6 _ _ _ _ _ made_6 is_6 rooted_6 (lit< tt) refl), ((λ _. in_ram 7 _ _ _ _ _ made_7 is_7 rooted_7 (lit< tt) refl), ((λ _. in_ram 8 _ _ _ _ _ made_8 is_8 rooted_8 (lit< tt) refl), ((λ _. in_ram 9 _ _ _ _ _ made_9 is_9 rooted_9 (lit< tt) refl), (none, ((λ _. in_ram 1 _ _ _ _ _ made_1 is_1 rooted_1 (lit< tt) refl), ((λ _. in_ram 2 _ _ _ _ _ made_2 is_2 rooted_2 (lit< tt) refl), (none, (none, (none, (none, ((λ _. in_ram 13 _ _ _ _ _ made_13 is_13 rooted_13 (lit< tt) refl), ((λ _. in_ram 14 _ _ _ _ _ made_14 is_14 rooted_14 (lit< tt) refl), (none, (none, ((λ _. in_ram 11 _ _ _ _ _ made_11 is_11 rooted_11 (lit< tt) refl), ((λ _. in_ram 12 _ _ _ _ _ made_12 is_12 rooted_12 (lit< tt) refl), (none, (none, (none, (none, (none, (none, (none, (none, (none, (none, (none, (none, ((λ _. in_ram 0 _ _ _ _ _ made_0 is_0 rooted_0 (lit< tt) refl), tt)))))))))))))))))))))))))))))))))
