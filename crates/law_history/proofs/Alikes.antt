-- What is alike is the same without shadows, and the other way round.
use Rattle.std.proofs.Common.{ℕ, ◌≡◌, Bool, List, [], ◌∷◌, Result, Ok, Err, refl, sym, ap, ap₂, ◌∙◌}
use Rattle.def_words.specs.declared.Cap.{Cap}
use Rattle.def_words.specs.declared.Posture.{Posture}
use Rattle.def_words.specs.declared.Trap.{Trap}
use Rattle.def_words.specs.Capability.{nowhere}
use Rattle.def_memory.specs.declared.Granule.{Granule}
use Rattle.def_instr.specs.declared.Instr.{Instr}
use Rattle.def_step.specs.declared.Class.{Class}
use Rattle.def_step.specs.Accesses.{MemoryAndDevices}
use Rattle.def_step.specs.Checks.{first_failed}
use Rattle.def_step.specs.Devices.{DeviceStates}
use Rattle.def_step.specs.Instructions.{Context, Effect, carried_out, fetch_checks, next_at}
use Rattle.def_events.specs.Alike.{Alike, GranulesAlike, AllAlike, SpacesAlike, AroundsAlike, DonesAlike, ResultsAlike, PosturesAlike}
use Rattle.law_history.proofs.Strips.{stripped, calm, bare, all_bare, bare_space, bare_around, bare_done, bare_result, carried_bare, fetch_bare, next_bare}

-- ---- the same without shadows

same_cap : (c d : Cap) → Alike c d → stripped c ≡ stripped d
same_cap c d h = ap₂ (λ (t : Bool) (w : ℕ). record { tag = t; word = w; shadow = nowhere }) h.tag_is h.word_is

same_posture : (p q : Posture) → PosturesAlike p q → calm p ≡ calm q
same_posture p q h = ap (λ (b : Bool). record { off = b; source = 0 }) h

same_granule : (g h : Granule) → GranulesAlike g h → bare g ≡ bare h
same_granule g h a = ap₂ (λ (c : Cap) (m : Bool). record { cap = c; mark = m }) (same_cap g.cap h.cap a.cap) a.mark_is

same_all : (gs hs : List Granule) → AllAlike gs hs → all_bare gs ≡ all_bare hs
same_all [] [] a = refl
same_all (g ∷ gs) (h ∷ hs) a = ap₂ (λ (x : Granule) (xs : List Granule). x ∷ xs) (same_granule g h a.0) (same_all gs hs a.1)
same_all [] (h ∷ hs) a = absurd a
same_all (g ∷ gs) [] a = absurd a

same_space : (p q : MemoryAndDevices) → SpacesAlike p q → bare_space p ≡ bare_space q
same_space p q a =
    ap₂ (λ (r : ℕ) (gs : List Granule). record { ram = r; granules = gs; bank = p.bank; time = p.time }) a.ram_is (same_all p.granules q.granules a.granules)
    ∙ ap₂ (λ (b : DeviceStates) (t : ℕ). record { ram = q.ram; granules = all_bare q.granules; bank = b; time = t }) a.bank_is a.time_is

same_around : (a b : Context) → AroundsAlike a b → bare_around a ≡ bare_around b
same_around a b h =
    ap₂ (λ (c : Cap) (q : Posture). record { pcc = c; posture = q; space = bare_space a.space }) (same_cap a.pcc b.pcc h.pcc) (same_posture a.posture b.posture h.posture)
    ∙ ap (λ (p : MemoryAndDevices). record { pcc = stripped b.pcc; posture = calm b.posture; space = p }) (same_space a.space b.space h.space)

-- ---- and the other way round

alike_cap : (c d : Cap) → stripped c ≡ stripped d → Alike c d
alike_cap c d e = record { tag_is = ap (λ (z : Cap). z.tag) e; word_is = ap (λ (z : Cap). z.word) e }

alike_all : (gs hs : List Granule) → all_bare gs ≡ all_bare hs → AllAlike gs hs
alike_all [] [] e = tt
alike_all (g ∷ gs) (h ∷ hs) e =
    let heads : bare g ≡ bare h = cc in
    let tails : all_bare gs ≡ all_bare hs = cc in
    (record { cap = alike_cap g.cap h.cap (ap (λ (z : Granule). z.cap) heads); mark_is = ap (λ (z : Granule). z.mark) heads }, alike_all gs hs tails)
alike_all [] (h ∷ hs) e = absurd (cc)
alike_all (g ∷ gs) [] e = absurd (cc)

alike_done : (d e : Effect) → bare_done d ≡ bare_done e → DonesAlike d e
alike_done d e same = record {
  to_is = ap (λ (z : Effect). z.to) same;
  value = alike_cap d.value e.value (ap (λ (z : Effect). z.value) same);
  pcc = alike_cap d.pcc e.pcc (ap (λ (z : Effect). z.pcc) same);
  posture = ap (λ (z : Effect). z.posture.off) same;
  granules = alike_all d.granules e.granules (ap (λ (z : Effect). z.granules) same);
  bank_is = ap (λ (z : Effect). z.bank) same;
  act_is = ap (λ (z : Effect). z.act) same;
}

alike_result : (r s : Result Effect Trap) → bare_result bare_done r ≡ bare_result bare_done s → ResultsAlike r s
alike_result (Ok d) (Ok e) same = let dones : bare_done d ≡ bare_done e = cc in alike_done d e dones
alike_result (Err why) (Err other) same = let traps : why ≡ other = cc in traps
alike_result (Ok d) (Err other) same = absurd (cc)
alike_result (Err why) (Ok e) same = absurd (cc)

-- ---- the laws

pub checks_unread : (pcc other : Cap) → Alike pcc other → first_failed (fetch_checks pcc) ≡ first_failed (fetch_checks other)
checks_unread pcc other h = fetch_bare pcc ∙ ap (λ (c : Cap). first_failed (fetch_checks c)) (same_cap pcc other h) ∙ sym (fetch_bare other)

pub fetch_unread : (p q : MemoryAndDevices) (at : ℕ) → SpacesAlike p q → next_at p at ≡ next_at q at
fetch_unread p q at h = next_bare p at ∙ ap (λ (r : MemoryAndDevices). next_at r at) (same_space p q h) ∙ sym (next_bare q at)

pub instruction_unread : (k : Class) (i : Instr) (to named other : ℕ) (x y z w : Cap) (a b : Context) → Alike x z → Alike y w → AroundsAlike a b → ResultsAlike (carried_out k i to x y named a) (carried_out k i to z w other b)
instruction_unread k i to named other x y z w a b first second around = alike_result (carried_out k i to x y named a) (carried_out k i to z w other b)
    (carried_bare k i to x y named a
    ∙ (ap₂ (λ (c : Cap) (d : Cap). bare_result bare_done (carried_out k i to c d 0 (bare_around a))) (same_cap x z first) (same_cap y w second)
    ∙ ap (λ (e : Context). bare_result bare_done (carried_out k i to (stripped z) (stripped w) 0 e)) (same_around a b around))
    ∙ sym (carried_bare k i to z w other b))
