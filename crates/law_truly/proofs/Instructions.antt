-- What an instruction that is carried out leaves of its thread.
use Rattle.std.proofs.Common.{ℕ, zero, suc, ◌≡◌, ◌⊎◌, inl, inr, List, [], ◌∷◌, Option, None, Result, Ok, Err, refl, sym, ap, ◌∙◌, subst, slice_set}
use Rattle.std.proofs.Math.ListN.{get_or}
use Rattle.std.proofs.lemmas.List.{get_or-set_other}
use Rattle.ct_entry.specs.declared.acts.Deed.{Deed}
use Rattle.def_words.specs.declared.Cap.{Cap}
use Rattle.def_words.specs.declared.Trap.{Trap}
use Rattle.def_words.specs.declared.Posture.{Posture}
use Rattle.def_words.specs.Authority.{cap_address}
use Rattle.def_memory.specs.Granules.{plain}
use Rattle.def_instr.specs.declared.Instr.{Instr}
use Rattle.def_machine.specs.Platform.{Platform}
use Rattle.def_machine.specs.Registers.{written}
use Rattle.def_machine.specs.State.{State, Thread, nobody, thread}
use Rattle.def_machine.specs.Threads.{jumped}
use Rattle.def_step.specs.declared.Class.{Class}
use Rattle.def_step.specs.declared.Class.TheVariants as class
use Rattle.def_step.specs.declared.Next.TheVariants.{Instruction}
use Rattle.def_step.specs.Accesses.{Accessed, access_result}
use Rattle.def_step.specs.Checks.{first_failed}
use Rattle.def_step.specs.Events.{continued}
use Rattle.def_step.specs.Instructions.{Effect, Context, accesses, after_fetch, around, carried_out, executed, fetch_checks, flows, goes_on, instruction_end, instructed, named_by, next_at, operand, space_of}
use Rattle.def_step.specs.Jumps.{Flowed, flow_result}
use Rattle.def_step.specs.Operands.{class_of, operands_of}
use Rattle.def_safety.specs.Each.{ready}
use Rattle.def_truly.specs.Changes.{TellsSuch}
use Rattle.def_truly.specs.Instructions.{InstructionsKeep, IsTrapAct, OnlyItsRegister}

-- an effect on the register that the instruction names, or on none, that keeps the posture unless it is a jump's
record Meek (k : Instr) (p : Posture) (c : Class) (d : Effect) : Type 0 where
  to : (d.to ≡ (operands_of k).to) ⊎ (d.to ≡ 0)
  posture : (c ≡ class.Jump → ⊥) → d.posture ≡ p

abbrev IfMeek : Instr → Posture → Class → Result Effect Trap → Type 0
IfMeek k p c (Err why) = Unit {0}
IfMeek k p c (Ok d) = Meek k p c d

flowed_meek : (k : Instr) (a : Context) (r : Result Flowed Trap) → IfMeek k a.posture class.Jump (flows a (operands_of k).to r)
flowed_meek k a (Err why) = tt
flowed_meek k a (Ok f) = record { to = inl refl; posture = λ other. absurd (other refl) }

accessed_meek : (k : Instr) (a : Context) (r : Result Accessed Trap) → IfMeek k a.posture class.Access (accesses a (operands_of k).to r)
accessed_meek k a (Err why) = tt
accessed_meek k a (Ok m) = record { to = inl refl; posture = λ other. refl }

carried_meek : (k : Instr) (c : Class) (x y : Cap) (named : ℕ) (a : Context) → IfMeek k a.posture c (carried_out c k (operands_of k).to x y named a)
carried_meek k class.Integer x y named a = record { to = inl refl; posture = λ other. refl }
carried_meek k class.Capability x y named a = record { to = inl refl; posture = λ other. refl }
carried_meek k class.System x y named a = tt
carried_meek k class.Jump x y named a = flowed_meek k a (flow_result k x y a.pcc a.posture named)
carried_meek k class.Access x y named a = accessed_meek k a (access_result k x y a.space)
carried_meek k class.Fence x y named a = record { to = inr refl; posture = λ other. refl }
carried_meek k class.Call x y named a = tt
carried_meek k class.Break x y named a = tt

written_other : (rs : List Cap) (to n : ℕ) (c : Cap) → (n ≡ to → ⊥) → get_or (written rs to c) n (plain 0) ≡ get_or rs n (plain 0)
written_other rs zero n c other = refl
written_other rs (suc to) n c other = get_or-set_other rs (suc to) n c (plain 0) other

keeps_others : (k : Instr) (old : Thread) (d : Effect) → Meek k old.posture (class_of k) d → OnlyItsRegister k old (jumped old d.pcc d.posture d.to d.value)
keeps_others k old d m = record {
  registers = λ n other. elim m.to [
    | inl is ↦ written_other old.registers d.to n d.value (λ e. other (e ∙ is))
    | inr none ↦ subst (λ j. get_or (written old.registers j d.value) n (plain 0) ≡ get_or old.registers n (plain 0)) (sym none) refl
  ];
  posture = m.posture;
  frames = refl;
  status = refl;
}

keeps_all : (k : Instr) (x : Thread) → OnlyItsRegister k x x
keeps_all k x = record { registers = λ n other. refl; posture = λ other. refl; frames = refl; status = refl }

-- a thread that is put at its place, or has none
put_there : (P : Thread → Type 0) (ts : List Thread) (t : ℕ) (new : Thread) → P new → P (get_or ts t nobody) → P (get_or (slice_set ts t new) t nobody)
put_there P [] t new is was = was
put_there P (x ∷ xs) zero new is was = is
put_there P (x ∷ xs) (suc t) new is was = put_there P xs t new is was

-- what is left where no trap is told
abbrev Leaves : Instr → State → ℕ → State × Option Deed → Type 0
Leaves k s t r = (TellsSuch IsTrapAct r.1 → ⊥) → OnlyItsRegister k (thread s t) (thread r.0 t)

ended : (b : Platform) (s : State) (t : ℕ) (k : Instr) (x : Cap) (r : Result Effect Trap) → IfMeek k (thread s t).posture (class_of k) r → Leaves k s t (instruction_end b s t x r)
ended b s t k x (Err why) m silent = absurd (silent tt)
ended b s t k x (Ok d) m silent = put_there (OnlyItsRegister k (thread s t)) s.threads t (jumped (thread s t) d.pcc d.posture d.to d.value) (keeps_others k (thread s t) d m) (keeps_all k (thread s t))

done : (b : Platform) (s : State) (t : ℕ) (k : Instr) → first_failed (fetch_checks (thread s t).pcc) ≡ None → next_at (space_of b s) (cap_address (thread s t).pcc) ≡ Instruction k → Leaves k s t (executed b s t)
unfolding executed
done b s t k fetched stands =
    let x : Cap = operand s t (operands_of k).first in
    let leads : executed b s t ≡ instructed b s t k = ap (after_fetch b s t) fetched ∙ ap (goes_on b s t) stands in
    subst (Leaves k s t) (sym leads) (ended b s t k x (carried_out (class_of k) k (operands_of k).to x (operand s t (operands_of k).second) (named_by b.image x) (around b s t)) (carried_meek k (class_of k) x (operand s t (operands_of k).second) (named_by b.image x) (around b s t)))

pub instructions_keep : (b : Platform) (s : State) → InstructionsKeep b s
instructions_keep b s t k runs fetched stands =
    subst (λ o. Leaves k (ready b s) t (continued b (ready b s) o)) (sym runs) (done b (ready b s) t k fetched stands)
