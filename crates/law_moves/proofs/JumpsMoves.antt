-- Jumps of the running thread.
use Rattle.std.proofs.Common.{ℕ, ◌≡◌, ◌<◌, inl, inr, true, false, List, [], ◌∷◌, refl, sym, ap, ◌∙◌, subst}
use Rattle.law_lists.proofs.Tests.{bool_tells}
use Rattle.def_words.specs.declared.Cap.{Cap}
use Rattle.def_words.specs.declared.Posture.{Posture}
use Rattle.def_words.specs.declared.Shadow.{Shadow}
use Rattle.def_words.specs.Authority.{cap_base, cap_top}
use Rattle.def_words.specs.Permissions.{bit, has, execute}
use Rattle.def_words.specs.Seals.{cap_seal, posture_through}
use Rattle.def_reach.specs.Roots.{is_native, is_owned}
use Rattle.def_reach.specs.Sharing.{Reaches}
use Rattle.def_machine.specs.Image.{Image, root, made_cap}
use Rattle.def_machine.specs.State.{State, Thread, Frame, Object, thread}
use Rattle.def_machine.specs.Threads.{Clockwork, changed, jumped}
use Rattle.def_confined.specs.Capabilities.{Rooted, IsReturnType, Kept, heap_cap}
use Rattle.def_confined.specs.Places.{InFrames, HasLive}
use Rattle.def_confined.specs.Confined.{Confined, IsPcc, PostureFits}
use Rattle.def_confined.specs.Partitioned.{Partitioned}
use Rattle.def_confined.specs.Made.{Opens, Links, Derived}
use Rattle.def_confined.specs.Changes.{Puts, Jumps}
use Rattle.law_moves.proofs.Turns.{changed_confined, after_written, fits_as}
use Rattle.law_moves.proofs.Derives.{Bound, derived_in}
use Rattle.law_moves.proofs.Moves.{not_native_bound}
use Rattle.def_confined.specs.Jumping.{IsForwardType, IsRunnable, MayJump, Lands}
use Rattle.law_moves.proofs.Targets.{opened_in, opened_runs}
use Rattle.law_moves.proofs.Linking.{link_in, link_kept, link_live}

pub jumps_confined : (i : Image) (s : State) (t to : ℕ) (pcc : Cap) (posture : Posture) (link : Cap) (w : Clockwork) → Jumps i s t pcc posture link → Confined i (changed s t (jumped (thread s t) pcc posture to link) s.running w)
jumps_confined i s t to pcc posture link w j = changed_confined i s t (jumped (thread s t) pcc posture to link) s.running w j.held (record {
  frames = refl;
  pcc = j.target;
  registers = λ n. after_written (λ c. InFrames i s.objects t (thread s t).frames c) (thread s t).registers to n link j.gets.there (j.held.registers t n);
  kept = λ n. after_written (Kept i) (thread s t).registers to n link j.gets.kept (j.held.kept.registers t n);
  posture = fits_as i (record (thread s t) { posture = posture }) (jumped (thread s t) pcc posture to link) (thread s t).frames refl j.fits;
  runs = j.runs;
  live = λ runs n. after_written (HasLive i s.objects) (thread s t).registers to n link j.gets.live (j.held.live t runs n);
  others = λ u other is. is;
})

-- ---- postures

pub return_fits : (i : Image) (objects : List Object) (t : ℕ) (th : Thread) (fs : List Frame) (c : Cap) (named : ℕ) → InFrames i objects t fs c → c.tag ≡ true → IsReturnType (cap_seal c)
    → PostureFits i (record th { posture = posture_through th.posture (cap_seal c) named c.shadow.source }) fs
return_fits i objects t th [] c named h tagged is = tt
return_fits i objects t th (f ∷ fs) c named h tagged (inl four) =
    let new : posture_through th.posture (cap_seal c) named c.shadow.source ≡ record { off = true; source = c.shadow.source } = ap (λ k. posture_through th.posture k named c.shadow.source) four in
    let P : Posture → Type 0 = λ p. p.off ≡ true → ((root i p.source).disabled ≡ true) × Reaches i.entries (root i p.source).owner f.actor in
    subst P (sym new) (λ off. ((h tagged).rooted.source four, (h tagged).source four f.actor refl))
return_fits i objects t th (f ∷ fs) c named h tagged (inr five) =
    let new : posture_through th.posture (cap_seal c) named c.shadow.source ≡ record { off = false; source = 0 } = ap (λ k. posture_through th.posture k named c.shadow.source) five in
    let P : Posture → Type 0 = λ p. p.off ≡ true → ((root i p.source).disabled ≡ true) × Reaches i.entries (root i p.source).owner f.actor in
    subst P (sym new) (λ off. absurd (let clash : false ≡ true = off in cc))

pub forward_fits : (i : Image) (objects : List Object) (t : ℕ) (th : Thread) (fs : List Frame) (c : Cap) → Partitioned i → PostureFits i th fs → InFrames i objects t fs c → c.tag ≡ true → IsForwardType (cap_seal c)
    → PostureFits i (record th { posture = posture_through th.posture (cap_seal c) (root i c.shadow.root).of c.shadow.source }) fs
forward_fits i objects t th [] c p old h tagged is = tt
forward_fits i objects t th (f ∷ fs) c p old h tagged (inl one) =
    let new : posture_through th.posture (cap_seal c) (root i c.shadow.root).of c.shadow.source ≡ th.posture = ap (λ k. posture_through th.posture k (root i c.shadow.root).of c.shadow.source) one in
    let P : Posture → Type 0 = λ q. q.off ≡ true → ((root i q.source).disabled ≡ true) × Reaches i.entries (root i q.source).owner f.actor in
    subst P (sym new) old
forward_fits i objects t th (f ∷ fs) c p old h tagged (inr (inl two)) =
    let new : posture_through th.posture (cap_seal c) (root i c.shadow.root).of c.shadow.source ≡ record { off = true; source = (root i c.shadow.root).of } = ap (λ k. posture_through th.posture k (root i c.shadow.root).of c.shadow.source) two in
    let P : Posture → Type 0 = λ q. q.off ≡ true → ((root i q.source).disabled ≡ true) × Reaches i.entries (root i q.source).owner f.actor in
    let boot = (h tagged).rooted.boot (inr (inl two)) in
    let made : cap_seal (made_cap i c.shadow.root) ≡ 2 = sym ((h tagged).rooted.boot (inr (inl two))).seal ∙ two in
    let owned : is_owned (root i c.shadow.root).origin ≡ true = elim (p.forwards c.shadow.root (inr (inl made))) [ inl e ↦ ap is_owned e | inr e ↦ ap is_owned e ] in
    let says = p.disables c.shadow.root made in
    subst P (sym new) (λ off. (says.0, says.1 f.actor ((h tagged).owner owned f.actor refl)))
forward_fits i objects t th (f ∷ fs) c p old h tagged (inr (inr three)) =
    let new : posture_through th.posture (cap_seal c) (root i c.shadow.root).of c.shadow.source ≡ record { off = false; source = 0 } = ap (λ k. posture_through th.posture k (root i c.shadow.root).of c.shadow.source) three in
    let P : Posture → Type 0 = λ q. q.off ≡ true → ((root i q.source).disabled ≡ true) × Reaches i.entries (root i q.source).owner f.actor in
    subst P (sym new) (λ off. absurd (let clash : false ≡ true = off in cc))

-- what a thread's tagged capability is, wherever its frames are
pub in_rooted : (i : Image) (objects : List Object) (t : ℕ) (fs : List Frame) (c : Cap) → InFrames i objects t fs c → c.tag ≡ true → Rooted i c
in_rooted i objects t [] c h tagged = absurd (let clash : true ≡ false = sym tagged ∙ h in cc)
in_rooted i objects t (f ∷ fs) c h tagged = (h tagged).rooted

-- what is derived from an executable capability, unsealed and executable itself, is a program counter
pub derived_runs : (i : Image) (objects : List Object) (t : ℕ) (fs : List Frame) (c p : Cap) → Partitioned i → (c.tag ≡ true → Bound i c) → Derived c p → InFrames i objects t fs c → IsRunnable p → (c.tag ≡ true → heap_cap i c ≡ false) → p.tag ≡ true → IsPcc i p
derived_runs i objects t fs c p parts bound x h says none tagged =
    let placed : InFrames i objects t fs p = derived_in i objects t fs c p bound x h in
    let here : Rooted i p = in_rooted i objects t fs p (derived_in i objects t fs c p bound x h) tagged in
    let no_heap : heap_cap i p ≡ false =
    let P : Shadow → Type 0 = λ z. heap_cap i (record c { shadow = z }) ≡ false in subst P (sym (x tagged).narrows.shadows) (none (x tagged).narrows.tagged) in
    record {
      unsealed = (says tagged).0;
      executes = (says tagged).1;
      code = parts.executes p.shadow.root here.from (here.rights no_heap execute (says tagged).1);
    }

-- an object's capability isn't executable
objects_run_not : bit 111 8 ≡ false
unfolding bit
objects_run_not = refl

pub runs_no_heap : (i : Image) (c : Cap) → Rooted i c → has c execute ≡ true → heap_cap i c ≡ false
runs_no_heap i c r runs = elim (bool_tells (heap_cap i c)) [
  | inl heap ↦ absurd (let clash : true ≡ false = sym (r.heap_rights heap execute runs) ∙ objects_run_not in cc)
  | inr other ↦ other
]

-- ---- where a jump goes, and what it leaves

-- to what a capability seals, at its own address
pub opened_lands : (i : Image) (objects : List Object) (t : ℕ) (fs : List Frame) (x p : Cap) → Partitioned i → MayJump i objects t fs x → Opens x p → Lands i objects t fs p
opened_lands i objects t fs x p parts m opens =
    let here : Rooted i x = in_rooted i objects t fs x m.there m.tagged in
    let none : heap_cap i x ≡ false = runs_no_heap i x here m.executes in
    record {
      there = opened_in i objects t fs x p opens (λ any. none) m.there;
      runs = λ is. opened_runs i x p parts (opens is) none m.executes here;
    }

-- to what is derived from a capability, away from native routines
pub derived_lands : (i : Image) (objects : List Object) (t : ℕ) (fs : List Frame) (x p : Cap) → Partitioned i → InFrames i objects t fs x → (x.tag ≡ true → Bound i x) → (x.tag ≡ true → has x execute ≡ true) → Derived x p → IsRunnable p → Lands i objects t fs p
derived_lands i objects t fs x p parts there bound executes derived says = record {
  there = derived_in i objects t fs x p bound derived there;
  runs = derived_runs i objects t fs x p parts bound derived there says (λ is. runs_no_heap i x (in_rooted i objects t fs x there is) (executes is));
}

-- the link that a jump leaves in a register
pub link_puts : (i : Image) (s : State) (t : ℕ) (l : Cap) → Confined i s → is_native (root i (thread s t).pcc.shadow.root).origin ≡ false → cap_base (thread s t).pcc < cap_top (thread s t).pcc → Links (thread s t).pcc (thread s t).posture l → Puts i s t l
link_puts i s t l h other some links = record {
  there = link_in i s.objects t (thread s t) (thread s t).frames l links (h.runs t) other some (h.postures t) (h.pcc t);
  kept = link_kept i (thread s t) l links other;
  live = link_live i s.objects (thread s t) l links (h.runs t);
}

-- the program counter goes on, or goes elsewhere in its own code, and a register gets a value
pub onward_jumps : (i : Image) (s : State) (t : ℕ) (p l : Cap) → Partitioned i → Confined i s → is_native (root i (thread s t).pcc.shadow.root).origin ≡ false → Derived (thread s t).pcc p → IsRunnable p → Puts i s t l → Jumps i s t p (thread s t).posture l
onward_jumps i s t p l parts h other derived says puts =
    let lands = derived_lands i s.objects t (thread s t).frames (thread s t).pcc p parts (h.pcc t) (λ is. not_native_bound i (thread s t).pcc other) (λ is. (h.runs t is).executes) derived says in
    record {
      held = h;
      target = lands.there;
      runs = lands.runs;
      fits = fits_as i (thread s t) (record (thread s t) { posture = (thread s t).posture }) (thread s t).frames refl (h.postures t);
      gets = puts;
    }
