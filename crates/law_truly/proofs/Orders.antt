-- Which check comes first.
use Rattle.std.proofs.Common.{ℕ, ◌≡◌, ◌&&◌, ◌||◌, ◌++◌, ◌⊎◌, inl, inr, Bool, true, false, not, List, [], ◌∷◌, Option, Some, None, refl, ap, ◌∙◌}
use Rattle.def_native.specs.declared.TheConstants.{WAIT, WAKE}
use Rattle.def_words.specs.declared.Cap.{Cap}
use Rattle.def_words.specs.declared.Trap.{Trap}
use Rattle.def_words.specs.Permissions.{has, memory_capability}
use Rattle.def_machine.specs.Image.{Image}
use Rattle.def_machine.specs.State.{State, Thread, register, thread}
use Rattle.def_step.specs.declared.Access.{Access}
use Rattle.def_step.specs.Accesses.{access_checks, load_checks, store_checks}
use Rattle.def_step.specs.Checks.{Check, first_failed}
use Rattle.def_step.specs.Instructions.{fetch_checks}
use Rattle.def_step.specs.Jumps.{register_jump_checks}
use Rattle.def_step.specs.Routines.{word_checks}
use Rattle.def_step.specs.Switch.{gate_checks, return_checks, stack_checks}
use Rattle.def_truly.specs.Orders.{CallOrder, FetchOrder, GateOrder, JumpOrder, LoadOrder, ReturnOrder, StackOrder, StoreOrder, WaitOrder, WordOrder}
use Rattle.law_truly.proofs.Passing.{hold_passes}

-- a check of the list fails, with this trap, and each before it holds
abbrev Stops : List Check → Trap → Type 0
Stops [] why = ⊥
Stops (c ∷ cs) why = ((c.0 ≡ false) × (c.1 ≡ why)) ⊎ ((c.0 ≡ true) × Stops cs why)

fails : (cs : List Check) (why : Trap) → Stops cs why → first_failed cs ≡ Some why
fails [] why stops = absurd stops
fails ((true, w) ∷ cs) why (inl (off, is)) = absurd (let clash : true ≡ false = off in cc)
fails ((true, w) ∷ cs) why (inr (on, later)) = fails cs why later
fails ((false, w) ∷ cs) why (inl (off, is)) = ap (λ (t : Trap). Some t) is
fails ((false, w) ∷ cs) why (inr (on, later)) = absurd (let clash : false ≡ true = on in cc)

pub fetch_order : (pcc : Cap) → FetchOrder pcc
fetch_order pcc = record {
  tag = λ off. fails (fetch_checks pcc) _ (inl (off, refl));
  seal = λ on sealed. fails (fetch_checks pcc) _ (inr (on, inl (sealed, refl)));
  right = λ is lacks. fails (fetch_checks pcc) _ (inr (is.tag, inr (is.seal, inl (lacks, refl))));
  bounds = λ is right beyond. fails (fetch_checks pcc) _ (inr (is.tag, inr (is.seal, inr (right, inl (beyond, refl)))));
  passes = λ is right inside. hold_passes (fetch_checks pcc) (is.tag, (is.seal, (right, (inside, tt))));
}

pub load_order : (a : Access) (x y : Cap) (at : ℕ) → a.loads ≡ true → LoadOrder a x y at
load_order a x y at loads =
    let by : (o : Option Trap) → first_failed (load_checks a x at) ≡ o → first_failed (access_checks a x y at) ≡ o = λ o e. rw loads e in
    record {
      tag = λ off. by _ (fails (load_checks a x at) _ (inl (off, refl)));
      seal = λ on sealed. by _ (fails (load_checks a x at) _ (inr (on, inl (sealed, refl))));
      right = λ is lacks. by _ (fails (load_checks a x at) _ (inr (is.tag, inr (is.seal, inl (lacks, refl)))));
      bounds = λ is right beyond. by _ (fails (load_checks a x at) _ (inr (is.tag, inr (is.seal, inr (right, inl (beyond, refl))))));
      aligned = λ is right inside odd. by _ (fails (load_checks a x at) _ (inr (is.tag, inr (is.seal, inr (right, inr (inside, inl (odd, refl)))))));
      passes = λ is right inside even. by None (hold_passes (load_checks a x at) (is.tag, (is.seal, (right, (inside, (even, tt))))));
    }

-- what a store of a capability asks for holds where it isn't one, and where the right is there
may_carry : (whole tagged right : Bool) → (whole ≡ true → tagged ≡ true → right ≡ true) → (not (whole && tagged) || right) ≡ true
may_carry false tagged right h = refl
may_carry true false right h = refl
may_carry true true right h = h refl refl

-- and fails where it is one, and the right is missing
may_not_carry : (whole tagged right : Bool) → whole ≡ true → tagged ≡ true → right ≡ false → (not (whole && tagged) || right) ≡ false
may_not_carry true true right is on lacks = lacks
may_not_carry true false right is on lacks = absurd (let clash : false ≡ true = on in cc)
may_not_carry false tagged right is on lacks = absurd (let clash : false ≡ true = is in cc)

pub store_order : (a : Access) (x y : Cap) (at : ℕ) → a.loads ≡ false → StoreOrder a x y at
store_order a x y at stores =
    let by : (o : Option Trap) → first_failed (store_checks a x at (a.whole && y.tag)) ≡ o → first_failed (access_checks a x y at) ≡ o = λ o e. rw stores e in
    let may : (a.whole ≡ true → y.tag ≡ true → has x memory_capability ≡ true) → (not (a.whole && y.tag) || has x memory_capability) ≡ true = may_carry a.whole y.tag (has x memory_capability) in
    record {
      tag = λ off. by _ (fails (store_checks a x at (a.whole && y.tag)) _ (inl (off, refl)));
      seal = λ on sealed. by _ (fails (store_checks a x at (a.whole && y.tag)) _ (inr (on, inl (sealed, refl))));
      right = λ is lacks. by _ (fails (store_checks a x at (a.whole && y.tag)) _ (inr (is.tag, inr (is.seal, inl (lacks, refl)))));
      capability = λ is right whole on lacks. by _ (fails (store_checks a x at (a.whole && y.tag)) _ (inr (is.tag, inr (is.seal, inr (right, inl (may_not_carry a.whole y.tag (has x memory_capability) whole on lacks, refl))))));
      bounds = λ is right carries beyond. by _ (fails (store_checks a x at (a.whole && y.tag)) _ (inr (is.tag, inr (is.seal, inr (right, inr (may carries, inl (beyond, refl)))))));
      aligned = λ is right carries inside odd. by _ (fails (store_checks a x at (a.whole && y.tag)) _ (inr (is.tag, inr (is.seal, inr (right, inr (may carries, inr (inside, inl (odd, refl))))))));
      passes = λ is right carries inside even. by None (hold_passes (store_checks a x at (a.whole && y.tag)) (is.tag, (is.seal, (right, (may carries, (inside, (even, tt)))))));
    }

pub jump_order : (to at : ℕ) (x : Cap) (n : ℕ) → JumpOrder to at x n
jump_order to at x n = record {
  tag = λ off. fails (register_jump_checks to at x n) _ (inl (off, refl));
  seal = λ on shut. fails (register_jump_checks to at x n) _ (inr (on, inl (shut, refl)));
  right = λ on opens lacks. fails (register_jump_checks to at x n) _ (inr (on, inr (opens, inl (lacks, refl))));
  aligned = λ on opens right odd. fails (register_jump_checks to at x n) _ (inr (on, inr (opens, inr (right, inl (odd, refl)))));
  passes = λ on opens right even. hold_passes (register_jump_checks to at x n) (on, (opens, (right, (even, tt))));
}

-- ---- a call

pub return_order : (c : Cap) → ReturnOrder c
return_order c = record {
  tag = λ off. fails (return_checks c) _ (inl (off, refl));
  seal = λ on other. fails (return_checks c) _ (inr (on, inl (other, refl)));
  passes = λ on kind. hold_passes (return_checks c) (on, (kind, tt));
}

pub gate_order : (c : Cap) → GateOrder c
gate_order c = record {
  tag = λ off. fails (gate_checks c) _ (inl (off, refl));
  seal = λ on other. fails (gate_checks c) _ (inr (on, inl (other, refl)));
  passes = λ on kind. hold_passes (gate_checks c) (on, (kind, tt));
}

pub stack_order : (base top : ℕ) (c : Cap) → StackOrder base top c
stack_order base top c = record {
  tag = λ off. fails (stack_checks base top c) _ (inl (off, refl));
  seal = λ on sealed. fails (stack_checks base top c) _ (inr (on, inl (sealed, refl)));
  right = λ is lacks. fails (stack_checks base top c) _ (inr (is.tag, inr (is.seal, inl (lacks, refl))));
  bounds = λ is right beyond. fails (stack_checks base top c) _ (inr (is.tag, inr (is.seal, inr (right, inl (beyond, refl)))));
  passes = λ is right inside. hold_passes (stack_checks base top c) (is.tag, (is.seal, (right, (inside, tt))));
}

pub word_order : (i : Image) (s : State) (c : Cap) → WordOrder i s c
word_order i s c = record {
  tag = λ off. fails (word_checks i s c) _ (inl (off, refl));
  seal = λ on sealed. fails (word_checks i s c) _ (inr (on, inl (sealed, refl)));
  right = λ is lacks. fails (word_checks i s c) _ (inr (is.tag, inr (is.seal, inl (lacks, refl))));
  bounds = λ is right beyond. fails (word_checks i s c) _ (inr (is.tag, inr (is.seal, inr (right, inl (beyond, refl)))));
  aligned = λ is right inside odd. fails (word_checks i s c) _ (inr (is.tag, inr (is.seal, inr (right, inr (inside, inl (odd, refl))))));
  passes = λ is right inside even. hold_passes (word_checks i s c) (is.tag, (is.seal, (right, (inside, (even, tt)))));
}

-- what fails first of one list before another
first_fails : (cs ds : List Check) (why : Trap) → first_failed cs ≡ Some why → first_failed (cs ++ ds) ≡ Some why
first_fails [] ds why e = absurd (let clash : None ≡ Some why = e in cc)
first_fails ((true, w) ∷ cs) ds why e = first_fails cs ds why e
first_fails ((false, w) ∷ cs) ds why e = e

second_fails : (cs ds : List Check) → first_failed cs ≡ None → first_failed (cs ++ ds) ≡ first_failed ds
second_fails [] ds e = refl
second_fails ((true, w) ∷ cs) ds e = second_fails cs ds e
second_fails ((false, w) ∷ cs) ds e = absurd (let clash : Some w ≡ None = e in cc)

pub call_order : (base top : ℕ) (caller : Thread) → CallOrder base top caller
call_order base top caller =
    let back : List Check = return_checks (register caller 1) in
    let gate : List Check = gate_checks (register caller 6) in
    let stack : List Check = stack_checks base top (register caller 2) in
    record {
      back = λ why e. first_fails back (gate ++ stack) why e;
      gate = λ why none e. second_fails back (gate ++ stack) none ∙ first_fails gate stack why e;
      stack = λ none nor. second_fails back (gate ++ stack) none ∙ second_fails gate stack nor;
    }

pub wait_order : (i : Image) (s : State) (t : ℕ) → WaitOrder i s t WAIT
wait_order i s t =
    let back : List Check = return_checks (register (thread s t) 1) in
    let word : List Check = word_checks i s (register (thread s t) 10) in
    record { back = λ why e. first_fails back word why e; word = λ none. second_fails back word none }

pub wake_order : (i : Image) (s : State) (t : ℕ) → WaitOrder i s t WAKE
wake_order i s t =
    let back : List Check = return_checks (register (thread s t) 1) in
    let word : List Check = word_checks i s (register (thread s t) 10) in
    record { back = λ why e. first_fails back word why e; word = λ none. second_fails back word none }
