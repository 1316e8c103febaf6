-- What an answer of a native routine is.
use Rattle.std.proofs.Common.{ℕ, zero, suc, ◌≡◌, ◌<◌, arith, List, [], ◌∷◌, length, refl, sym, ◌∙◌, subst, slice_set}
use Rattle.std.proofs.Math.ListN.{get_or}
use Rattle.std.proofs.lemmas.List.{get_or-set_other, get_or-set_same, length-set}
use Rattle.def_words.specs.declared.Cap.{Cap}
use Rattle.def_words.specs.Seals.{cap_seal}
use Rattle.def_memory.specs.Granules.{plain}
use Rattle.def_machine.specs.State.{State, Thread, nobody, register, thread}
use Rattle.def_step.specs.Routines.{answered, answers}
use Rattle.def_truly.specs.Answers.{AnswersNoMore, IsAnswered}
use Rattle.law_truly.proofs.Postures.{through_is}

-- a thread with registers is there
has_place : (ts : List Thread) (t : ℕ) → 11 < length (get_or ts t nobody).registers → t < length ts
has_place [] t many = absurd (omega (arith, many))
has_place (x ∷ xs) zero many = omega arith
has_place (x ∷ xs) (suc t) many = (let later = has_place xs t many in omega (arith, later))

is_answered : (old : Thread) (value : Cap) → 11 < length old.registers → IsAnswered old value (answered old value)
is_answered old value many =
    let once : List Cap = slice_set old.registers 10 value in
    let size : length once ≡ length old.registers = length-set old.registers 10 value in
    record {
      c10 = get_or-set_other once 11 10 (plain 0) (plain 0) (λ e. omega (arith, e)) ∙ get_or-set_same old.registers 10 value (plain 0) (omega (arith, many));
      c11 = get_or-set_same once 11 (plain 0) (plain 0) (omega (arith, many, size));
      others = λ n ten eleven. get_or-set_other once 11 n (plain 0) (plain 0) eleven ∙ get_or-set_other old.registers 10 n value (plain 0) ten;
      pcc = refl;
      posture = through_is old.posture (cap_seal (register old 1)) 0 (register old 1).shadow.source;
      frames = refl;
      status = refl;
    }

pub answers_no_more : (s : State) (t : ℕ) (value : Cap) → 11 < length (thread s t).registers → AnswersNoMore s t value (answers s t value)
answers_no_more s t value many = record {
  answered = subst (IsAnswered (thread s t) value) (sym (get_or-set_same s.threads t (answered (thread s t) value) nobody (has_place s.threads t many))) (is_answered (thread s t) value many);
  others = λ u other. get_or-set_other s.threads t u (answered (thread s t) value) nobody other;
  running = refl;
  pending = refl;
  picks = refl;
  time = refl;
  counts = refl;
  rest = record { granules = refl; objects = refl; next = refl; tokens = refl; front = refl; devices = refl };
}
