-- Plain words in a thread's stack.
use Rattle.std.proofs.Common.{ℕ, ◌≡◌, ◌+◌, ◌*◌, ◌≤◌, true, false, List, [], ◌∷◌, length, refl, sym, ◌∙◌, arith, slice_set}
use Rattle.std.proofs.lemmas.List.{length-set}
use Rattle.law_lists.proofs.Sets.{after_set}
use Rattle.def_memory.specs.declared.Granule.{Granule}
use Rattle.def_memory.specs.Granules.{plain, nothing, granule_at}
use Rattle.ct_entry.specs.declared.rows.Kind.TheVariants.{Stack as StackKind}
use Rattle.def_reach.specs.Roots.{Listing}
use Rattle.def_machine.specs.Image.{Image, Fixed, Stack, region, root, address_of, stack_entry, stack_base, stack_top}
use Rattle.def_machine.specs.State.{State, granule}
use Rattle.def_confined.specs.Confined.{Confined}
use Rattle.def_confined.specs.Partitioned.{Partitioned}
use Rattle.def_confined.specs.Swept.{HasUnpainted}
use Rattle.law_moves.proofs.Puts.{plain_kept, plain_region, put_confined}
use Rattle.law_moves.proofs.SweepsMoves.{RamLeft}
use Rattle.def_step.specs.Handlers.{words_written}

-- each of the granules from k on lies in the stack
pub written_confined : (i : Image) (s : State) (t k : ℕ) (ws : List ℕ) → Partitioned i → Confined i s → (root i (stack_entry i t)).origin ≡ Listing StackKind
    → stack_base i t ≤ address_of i k → address_of i k + 8 * length ws ≤ stack_top i t → Confined i (record s { granules = words_written s.granules k ws })
written_confined i s t k [] p h stack low high = h
written_confined i s t k (w ∷ ws) p h stack low high =
    let is : region i k ≡ Stack t = p.stack_span k t stack low (omega (arith, high)) in
    let one = put_confined i s k (plain w) h
    (plain_region i s k (region i k) (record { cap = plain w; mark = (granule s k).mark }) (λ fixed. let clash : Stack t ≡ Fixed = sym is ∙ fixed in cc) refl)
    (plain_kept i (plain w) refl) in
    written_confined i (record s { granules = slice_set s.granules k (record { cap = plain w; mark = (granule s k).mark }) }) t (k + 1) ws p one stack (omega (arith, low)) (omega (arith, high))

set_more : (i : Image) (s : State) (gs : List Granule) (k w : ℕ) → RamLeft i s gs → RamLeft i s (slice_set gs k (record { cap = plain w; mark = (granule_at gs k).mark }))
set_more i s gs k w r = record {
  size = length-set gs k (record { cap = plain w; mark = (granule_at gs k).mark }) ∙ r.size;
  swept = λ h j passed. after_set (λ g. HasUnpainted i s.objects g.cap) gs k j (record { cap = plain w; mark = (granule_at gs k).mark }) nothing
      (λ tagged. absurd (let clash : false ≡ true = tagged in cc)) (r.swept h j passed);
}

pub written_left : (i : Image) (s : State) (gs : List Granule) (k : ℕ) (ws : List ℕ) → RamLeft i s gs → RamLeft i s (words_written gs k ws)
written_left i s gs k [] r = r
written_left i s gs k (w ∷ ws) r = written_left i s (slice_set gs k (record { cap = plain w; mark = (granule_at gs k).mark })) (k + 1) ws (set_more i s gs k w r)
