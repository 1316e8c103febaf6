-- What one step of a thread owes, and how it ends: a trap, a return, a register with a new program counter.
use Rattle.std.proofs.Common.{ℕ, ◌≡◌, true, false, List, [], ◌∷◌, Option, Some, None, refl, sym, ◌∙◌, subst, arith}
use Rattle.def_words.specs.declared.Cap.{Cap}
use Rattle.def_words.specs.declared.Trap.{Trap}
use Rattle.def_words.specs.declared.Posture.{Posture}
use Rattle.ct_entry.specs.declared.acts.Act.TheVariants as acts
use Rattle.ct_entry.specs.declared.acts.Deed.{Deed}
use Rattle.def_machine.specs.Image.{Image}
use Rattle.def_machine.specs.State.{State, Frame, Object, thread}
use Rattle.def_step.specs.Handlers.{handler_value, return_taken}
use Rattle.def_confined.specs.Facts.{Facts}
use Rattle.law_routines.proofs.Stepping.{trap_case, return_case}
use Rattle.law_events.proofs.Entered.{entered_beside}
use Rattle.law_events.proofs.Whole.{handler_confined}
use Rattle.def_machine.specs.Threads.{jumped}
use Rattle.def_step.specs.Instructions.{Effect, bank_of, deed, trapped, put_done}
use Rattle.def_machine.specs.Platform.{Platform}
use Rattle.def_confined.specs.Places.{InFrames}
use Rattle.def_confined.specs.Confined.{Confined}
use Rattle.def_confined.specs.Partitioned.{Partitioned}
use Rattle.def_confined.specs.Licensed.{Licensed}
use Rattle.law_moves.proofs.Turns.{clock_of}
use Rattle.law_moves.proofs.CallsPops.{returned_confined, ended_confined, unwound_confined}
use Rattle.law_moves.proofs.Pops.{returned_beside, ended_beside, unwound_beside}
use Rattle.law_moves.proofs.Threads.{written_length}
use Rattle.def_confined.specs.Changes.{Jumps}
use Rattle.law_moves.proofs.JumpsMoves.{jumps_confined}
use Rattle.def_confined.specs.Keeps.{Beside}
use Rattle.law_moves.proofs.SweepsMoves.{RamLeft, ram_same, running_left, moved_beside}
use Rattle.law_moves.proofs.Checks.{MayTell}

-- the state after stays confined, the deed is licensed, and what stands beside stays
pub record Fair (b : Platform) (s : State) (r : State × Option Deed) : Type 0 where
  pub confined : Confined b.image r.0
  pub licensed : (d : Deed) → r.1 ≡ Some d → Licensed b.image.entries d
  pub beside : Beside b.image s → Beside b.image r.0

-- what is some is told; what isn't, isn't
pub some_same : {A : Type 0} (P : A → Type 0) (x y : A) → Some x ≡ Some y → P x → P y
some_same P x y e h = let same : x ≡ y = cc in subst P same h

pub none_licensed : (b : Platform) (d : Deed) → None ≡ Some d → Licensed b.image.entries d
none_licensed b d e = absurd (let clash : None ≡ Some d = e in cc)

pub trapped_fair : (b : Platform) (s : State) (t : ℕ) (why : Trap) → s.running ≡ Some t → Partitioned b.image → Facts b.image → Confined b.image s → MayTell why → Fair b s (trapped b s t why)
trapped_fair b s t why runs parts facts h tells = record {
  confined = trap_case (Confined b.image) b.image s t why (thread s t).frames (λ f fs frames is. handler_confined b.image s t why f fs parts facts h runs frames is)
      (unwound_confined b.image s t (thread s t).frames parts h refl);
  licensed = λ d e. some_same (Licensed b.image.entries) (deed s t 0 (acts.Trap why.cause why.code why.register)) d e (refl, tells);
  beside = λ beside. trap_case (Beside b.image) b.image s t why (thread s t).frames (λ f fs frames is. entered_beside b.image s t why f fs runs frames beside)
      (unwound_beside b.image s t (thread s t).frames refl runs beside);
}

pub returned_fair : (b : Platform) (s : State) (t : ℕ) → s.running ≡ Some t → Partitioned b.image → Confined b.image s → Fair b s (return_taken b.image s t (thread s t).frames, None)
returned_fair b s t runs parts h = record {
  confined = return_case (Confined b.image) b.image s t (thread s t).frames (λ f fs frames is. ended_confined b.image s t (handler_value (thread s t)) (thread s t).frames parts h refl)
      (λ unmarked. returned_confined b.image s t (thread s t).frames parts h refl);
  licensed = none_licensed b;
  beside = λ beside. return_case (Beside b.image) b.image s t (thread s t).frames (λ f fs frames is. ended_beside b.image s t (handler_value (thread s t)) (thread s t).frames refl runs beside)
      (λ unmarked. returned_beside b.image s t (thread s t).frames refl runs beside);
}

-- ---- a register and the program counter change

-- where a tagged capability of a thread is, it has frames
pub has_frames : (i : Image) (objects : List Object) (t : ℕ) (fs : List Frame) (c : Cap) → InFrames i objects t fs c → c.tag ≡ true → fs ≡ [] → ⊥
has_frames i objects t [] c h tagged e = let clash : true ≡ false = sym tagged ∙ h in cc
has_frames i objects t (f ∷ fs) c h tagged e = let clash : (f ∷ fs) ≡ [] = e in cc

-- a register and the program counter of the running thread change, and RAM
pub put_beside : (b : Platform) (s : State) (t : ℕ) (d : Effect) → s.running ≡ Some t → ((thread s t).frames ≡ [] → ⊥) → RamLeft b.image s d.granules → Beside b.image s → Beside b.image (put_done s t d)
put_beside b s t d runs some ram h = moved_beside b.image s t d.granules (jumped (thread s t) d.pcc d.posture d.to d.value) s.running (record (clock_of s) { devices = d.bank.states }) ram
    (running_left b.image s t (jumped (thread s t) d.pcc d.posture d.to d.value) runs refl (omega (arith, h.bounded.few t, written_length (thread s t).registers d.to d.value)) (λ e. record { over = e.over; none = λ none. absurd (some none) }) h)
    h

abbrev pub moved_on : Platform → State → ℕ → Cap → Cap → Posture → Effect
moved_on b s to value pcc posture = record { to = to; value = value; pcc = pcc; posture = posture; granules = s.granules; bank = bank_of b s; act = None }

pub jumps_fair : (b : Platform) (s : State) (t to : ℕ) (value pcc : Cap) (posture : Posture) → s.running ≡ Some t → (thread s t).pcc.tag ≡ true → Jumps b.image s t pcc posture value → Fair b s (put_done s t (moved_on b s to value pcc posture), None)
jumps_fair b s t to value pcc posture runs tagged j = record {
  confined = jumps_confined b.image s t to pcc posture value (clock_of s) j;
  licensed = none_licensed b;
  beside = put_beside b s t (moved_on b s to value pcc posture) runs (has_frames b.image s.objects t (thread s t).frames (thread s t).pcc (j.held.pcc t) tagged) (ram_same b.image s);
}
