-- The state in which this firmware starts is confined.
use Rattle.std.proofs.Common.{ℕ, ◌≡◌, ◌||◌, not, true, false, [], ◌∷◌, Some, None, refl, sym, ap, ◌∙◌, subst, arith, lit≤}
use Rattle.std.proofs.lemmas.Bool.{not-true}
use Rattle.def_words.specs.declared.Cap.{Cap}
use Rattle.def_words.specs.declared.Shadow.{Shadow}
use Rattle.def_words.specs.Authority.{cap_top}
use Rattle.def_words.specs.Permissions.{bit}
use Rattle.def_memory.specs.Granules.{plain, nothing}
use Rattle.def_reach.specs.Roots.{root_of, gate_for, is_code}
use Rattle.def_machine.specs.Image.{region, root, booted}
use Rattle.def_machine.specs.State.{Serial}
use Rattle.def_confined.specs.Capabilities.{Kept}
use Rattle.def_confined.specs.Places.{Placed, InFrames, OwnStack}
use Rattle.def_confined.specs.Confined.{Confined, IsPcc}
use Rattle.law_moves.proofs.Boots.{is_fixed}
use Rattle.law_moves.proofs.Puts.{plain_kept}
use Rattle.law_moves.proofs.Places.{all_of}
use Rattle.law_examples.specs.Small.{small, made_0, made_2, made_18}
use Rattle.law_examples.specs.Starting.{starting, first_pcc, first_frame, first_thread}
use Rattle.law_lists.proofs.Tests.{by_test}
use Rattle.law_examples.proofs.Cases.{past_end}
use Rattle.law_examples.proofs.Placing.{kept_by, boot_caps}
use Rattle.law_examples.proofs.Mades.{is_first, is_0, is_2, is_18}
use Rattle.law_examples.proofs.Rooting.{entry_placed, rooted_0, rooted_2, rooted_18, rooted_first}
use Rattle.law_examples.proofs.Alone.{Filled, ThreadHolds, alone_confined}

untagged_in : (c : Cap) → c.tag ≡ false → InFrames small [] 0 (first_frame ∷ []) c
untagged_in c none = λ tagged. absurd (let clash : true ≡ false = sym tagged ∙ none in cc)

plain_is_kept : Kept small (plain 0)
plain_is_kept = plain_kept small (plain 0) refl

kept_0 : Kept small made_0
unfolding root_of gate_for
kept_0 = kept_by 0 _ _ _ _ _ made_0 is_0 refl

kept_2 : Kept small made_2
unfolding root_of gate_for
kept_2 = kept_by 2 _ _ _ _ _ made_2 is_2 refl

kept_18 : Kept small made_18
unfolding root_of gate_for
kept_18 = kept_by 18 _ _ _ _ _ made_18 is_18 refl

-- the first thread's capabilities
pcc_placed : Placed small [] (λ y. y ≡ 0) (OwnStack small 0 (first_frame ∷ [])) first_pcc
unfolding root_of gate_for
pcc_placed = entry_placed small 0 1 0 _ first_pcc is_first.1 rooted_first is_first.0.kind_is (λ e. omega (arith, e)) (λ owned. refl) (λ stack. absurd (let clash : false ≡ true = stack in cc))

back_placed : Placed small [] (λ y. y ≡ 0) (OwnStack small 0 (first_frame ∷ [])) made_0
unfolding root_of gate_for
back_placed = entry_placed small 0 0 5 _ made_0 is_0.1 rooted_0 is_0.0.kind_is (λ e. omega (arith, e)) (λ owned. absurd (let clash : false ≡ true = owned in cc)) (λ stack. absurd (let clash : false ≡ true = stack in cc))

stack_placed : Placed small [] (λ y. y ≡ 0) (OwnStack small 0 (first_frame ∷ [])) made_18
unfolding root_of gate_for
stack_placed = entry_placed small 0 18 0 _ made_18 is_18.1 rooted_18 is_18.0.kind_is (λ e. omega (arith, e)) (λ owned. absurd (let clash : false ≡ true = owned in cc))
    (λ stack. (ap (λ (z : Shadow). z.root) is_18.1, (let at : cap_top made_18 ≡ 0x80000100 = is_18.0.top_is in omega (arith, at))))

globals_placed : Placed small [] (λ y. y ≡ 0) (OwnStack small 0 (first_frame ∷ [])) made_2
unfolding root_of gate_for
globals_placed = entry_placed small 0 2 0 _ made_2 is_2.1 rooted_2 is_2.0.kind_is (λ e. omega (arith, e)) (λ owned. refl) (λ stack. absurd (let clash : false ≡ true = stack in cc))

pcc_runs : IsPcc small first_pcc
unfolding root_of gate_for bit
pcc_runs = record {
  unsealed = is_first.0.kind_is;
  executes = let P : ℕ → Type 0 = λ n. bit n 8 ≡ true in subst P (sym is_first.0.rights_are) refl;
  code = let P : Shadow → Type 0 = λ z. is_code (root small z.root).origin ≡ true in subst P (sym is_first.1) refl;
}

-- RAM is as boot filled it
small_filled : Filled small starting.granules
small_filled = record {
  filled = λ k. past_end small.boot 9 k nothing;
  untagged = by_test (λ k. is_fixed (region small k) || not (booted small k).cap.tag) 42 refl (λ j. refl);
  kept = λ k tagged. (boot_caps k tagged).kept tagged;
  unmarked = λ k. not-true (booted small k).mark (by_test (λ j. not (booted small j).mark) 42 refl (λ j. refl) k);
  size = lit≤ tt;
}

none_in : InFrames small [] 0 (first_frame ∷ []) (plain 0)
none_in = untagged_in (plain 0) refl

first_holds : ThreadHolds small first_thread None
unfolding root_of gate_for
first_holds = record {
  pcc = λ tagged. pcc_placed;
  registers = all_of (λ c. InFrames small [] 0 (first_frame ∷ []) c) first_thread.registers (plain 0) none_in
      (none_in, ((λ tagged. back_placed), ((λ tagged. stack_placed), ((λ tagged. globals_placed), (none_in, (none_in, (none_in, (none_in, (none_in, (none_in, (none_in, (none_in, (none_in, (none_in, (none_in, (none_in, tt))))))))))))))));
  frames = (record { stack = refl; even = refl; low = lit≤ tt; high = lit≤ tt; under = tt; passes = tt; returns = tt; c1 = refl; c2 = refl; c3 = refl; c8 = refl; c9 = refl }, tt);
  posture = λ off. absurd (let clash : false ≡ true = off in cc);
  runs = λ tagged. pcc_runs;
  kept = all_of (Kept small) first_thread.registers (plain 0) plain_is_kept
      (plain_is_kept, (kept_0, (kept_18, (kept_2, (plain_is_kept, (plain_is_kept, (plain_is_kept, (plain_is_kept, (plain_is_kept, (plain_is_kept, (plain_is_kept, (plain_is_kept, (plain_is_kept, (plain_is_kept, (plain_is_kept, (plain_is_kept, tt))))))))))))))));
  saved = (record { c1 = plain_is_kept; c2 = plain_is_kept; c3 = plain_is_kept; c8 = plain_is_kept; c9 = plain_is_kept }, tt);
  live = λ runs. absurd (let clash : None ≡ Some 0 = runs in cc);
}

pub starting_confined : Confined small starting
starting_confined = alone_confined small starting.granules first_thread None (Serial [] ∷ []) (0 ∷ []) small_filled first_holds
