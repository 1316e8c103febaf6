-- One register is written; and what a register of the running thread may get.
use Rattle.std.proofs.Common.{ℕ, ◌≡◌, true, false, Some, sym, ap, ◌∙◌}
use Rattle.def_words.specs.declared.Cap.{Cap}
use Rattle.def_reach.specs.Roots.{is_native}
use Rattle.def_machine.specs.Image.{Image, root}
use Rattle.def_machine.specs.State.{State, register, thread}
use Rattle.def_machine.specs.Registers.{put_register}
use Rattle.def_confined.specs.Capabilities.{Kept}
use Rattle.def_confined.specs.Confined.{Confined}
use Rattle.def_confined.specs.Made.{Derived}
use Rattle.def_confined.specs.Changes.{Puts}
use Rattle.law_moves.proofs.Places.{plain_in}
use Rattle.law_moves.proofs.Puts.{plain_kept}
use Rattle.law_moves.proofs.Turns.{put_register_confined}
use Rattle.law_moves.proofs.Derives.{Bound, kept_bound, derived_in, derived_kept, live_derived, pcc_live}

pub not_native_bound : (i : Image) (c : Cap) → is_native (root i c.shadow.root).origin ≡ false → Bound i c
not_native_bound i c not native loose = let clash : true ≡ false = sym native ∙ not in cc

pub not_native_kept : (i : Image) (c : Cap) → is_native (root i c.shadow.root).origin ≡ false → Kept i c
not_native_kept i c not tagged =
    ((λ service. absurd (let clash : true ≡ false = sym (ap is_native service) ∙ not in cc)), (λ trusted. absurd (let clash : true ≡ false = sym (ap is_native trusted) ∙ not in cc)))

-- ---- what a register of the running thread may get

pub untagged_puts : (i : Image) (s : State) (t : ℕ) (c : Cap) → c.tag ≡ false → Puts i s t c
untagged_puts i s t c none = record {
  there = plain_in i s.objects t (thread s t).frames c none;
  kept = plain_kept i c none;
  live = λ tagged. absurd (let clash : true ≡ false = sym tagged ∙ none in cc);
}

pub same_puts : (i : Image) (s : State) (t from : ℕ) → Confined i s → s.running ≡ Some t → Puts i s t (register (thread s t) from)
same_puts i s t from h runs = record { there = h.registers t from; kept = h.kept.registers t from; live = h.live t runs from }

-- and what is derived of what it may get
pub derived_puts : (i : Image) (s : State) (t : ℕ) (c d : Cap) → Derived c d → Puts i s t c → Puts i s t d
derived_puts i s t c d x p =
    let bound = λ (tagged : c.tag ≡ true). kept_bound i c tagged p.kept in
    record {
      there = derived_in i s.objects t (thread s t).frames c d bound x p.there;
      kept = derived_kept i c d bound x p.kept;
      live = live_derived i s.objects c d x p.live;
    }

pub register_puts : (i : Image) (s : State) (t from : ℕ) (d : Cap) → Confined i s → s.running ≡ Some t → Derived (register (thread s t) from) d → Puts i s t d
register_puts i s t from d h runs x = derived_puts i s t (register (thread s t) from) d x (same_puts i s t from h runs)

pub pcc_puts : (i : Image) (s : State) (t : ℕ) (d : Cap) → Confined i s → is_native (root i (thread s t).pcc.shadow.root).origin ≡ false → Derived (thread s t).pcc d → Puts i s t d
pcc_puts i s t d h other x =
    let bound = λ (tagged : (thread s t).pcc.tag ≡ true). not_native_bound i (thread s t).pcc other in
    record {
      there = derived_in i s.objects t (thread s t).frames (thread s t).pcc d bound x (h.pcc t);
      kept = derived_kept i (thread s t).pcc d bound x (not_native_kept i (thread s t).pcc other);
      live = pcc_live i s.objects (thread s t).pcc d (h.runs t) x;
    }

pub put_confined : (i : Image) (s : State) (t n : ℕ) (c : Cap) → Confined i s → Puts i s t c → Confined i (put_register s t n c)
put_confined i s t n c h x = put_register_confined i s t n c h x.there x.kept (λ runs. x.live)
