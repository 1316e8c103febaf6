-- Two writes of the running thread, of c10 and then of c11, are its answer.
use Rattle.std.proofs.Common.{ℕ, zero, suc, ◌≡◌, List, [], ◌∷◌, refl, ap, ◌∙◌}
use Rattle.std.proofs.Math.ListN.{get_or, set}
use Rattle.def_words.specs.declared.Cap.{Cap}
use Rattle.def_words.specs.declared.Posture.{Posture}
use Rattle.def_words.specs.Jumped.{opened}
use Rattle.def_words.specs.Seals.{cap_seal, posture_through}
use Rattle.def_memory.specs.Granules.{plain}
use Rattle.def_machine.specs.State.{Thread, nobody, register}
use Rattle.def_machine.specs.Threads.{jumped}
use Rattle.ct_engine.specs.Seen.{EngineRow, thread, after_jump}
use Rattle.ct_services.specs.Answering.{answered_in}

-- an element is written twice, each time by what stands there
twice : (f g : Thread → Thread) (ts : List Thread) (t : ℕ)
    → set (set ts t (f (get_or ts t nobody))) t (g (get_or (set ts t (f (get_or ts t nobody))) t nobody)) ≡ set ts t (g (f (get_or ts t nobody)))
twice f g [] t = refl
twice f g (x ∷ ts) zero = refl
twice f g (x ∷ ts) (suc t) = ap (λ (us : List Thread). x ∷ us) (twice f g ts t)

pub answers : (s u r : EngineRow) (t : ℕ) (pcc after value : Cap) (p : Posture)
    → pcc ≡ opened (register (thread s t) 1)
    → p ≡ posture_through (thread s t).posture (cap_seal (register (thread s t) 1)) 0 (register (thread s t) 1).shadow.source
    → u ≡ after_jump s t pcc p 10 value → after ≡ (thread u t).pcc → r ≡ after_jump u t after p 11 (plain 0)
    → r ≡ answered_in s t value
answers s u r t pcc after value p pcc_is p_is u_is after_is r_is = r_is ∙ rest
  where
    rest : after_jump u t after p 11 (plain 0) ≡ answered_in s t value
    rest = rw (after_is, u_is, pcc_is, p_is) (ap (λ (ts : List Thread). record s { state = record s.state { threads = ts } })
        (twice
        (λ (w : Thread). jumped w (opened (register (thread s t) 1)) (posture_through (thread s t).posture (cap_seal (register (thread s t) 1)) 0 (register (thread s t) 1).shadow.source) 10 value)
        (λ (w : Thread). jumped w w.pcc (posture_through (thread s t).posture (cap_seal (register (thread s t) 1)) 0 (register (thread s t) 1).shadow.source) 11 (plain 0))
        s.state.threads t))
