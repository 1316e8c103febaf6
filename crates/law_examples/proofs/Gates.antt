-- Gates of the small firmware are of exports.
use Rattle.std.proofs.Common.{◌≡◌, ◌||◌, ℕ, true, false, not, refl}
use Rattle.ct_entry.specs.Kinds.{is_export}
use Rattle.ct_entry.specs.declared.rows.Kind.TheVariants.{Export}
use Rattle.def_reach.specs.Roots.{Origin, Listing, root_of, gate_for}
use Rattle.def_machine.specs.Image.{root}
use Rattle.def_confined.specs.Uses.{GatesOfExports}
use Rattle.law_examples.specs.Small.{small}
use Rattle.law_lists.proofs.Tests.{by_test, implied}
use Rattle.law_examples.proofs.Cases.{of_kind}

export_of : (o : Origin) → of_kind is_export o ≡ true → o ≡ Listing Export
export_of (Listing Export) h = refl
export_of o h = absurd (let clash : false ≡ true = h in cc)

pub small_gates : GatesOfExports small
unfolding root_of gate_for
small_gates n off = export_of (root small n).origin (implied (root small n).disabled (of_kind is_export (root small n).origin) (told n) off)
  where
    told : (k : ℕ) → (not (root small k).disabled || of_kind is_export (root small k).origin) ≡ true
    told = by_test (λ k. not (root small k).disabled || of_kind is_export (root small k).origin) 19 refl (λ j. refl)
