-- An access or a fetch whose checks pass lies in its capability's bounds, where nothing is hidden from an open thread.
use Rattle.std.proofs.Common.{ℕ, ◌+◌, ◌-◌, ◌/◌, ◌&&◌, nat_le, ◌≡◌, ◌≤◌, ◌<◌, ◌⊎◌, Bool, true, false, inl, inr, None, sym, subst, arith, if◌then◌else◌}
use Rattle.std.proofs.lemmas.Bool.{leb-true, and_parts}
use Rattle.def_words.specs.declared.Cap.{Cap}
use Rattle.def_words.specs.Authority.{cap_address, cap_base, cap_top}
use Rattle.def_words.specs.Capability.{is_range_inside}
use Rattle.def_words.specs.Permissions.{has, load_data, store_data}
use Rattle.def_instr.specs.declared.Instr.{Instr}
use Rattle.def_instr.specs.declared.Instr.TheVariants.{Clc, Csc}
use Rattle.def_machine.specs.State.{register}
use Rattle.def_step.specs.Checks.{first_failed}
use Rattle.def_step.specs.declared.Access.{Access}
use Rattle.def_step.specs.Accesses.{access_of, access_address, load_checks, store_checks}
use Rattle.def_step.specs.Instructions.{fetch_checks}
use Rattle.def_safety.specs.HiddenSteps.{IsSeen, SeesAccess}
use Rattle.law_moves.proofs.Checks.{all_pass}
use Rattle.ct_engine.specs.Seen.{thread, EngineRow, hides}
use Rattle.ct_engine.specs.Bursts.{IsOpen}

range_says : (x : Cap) (from to : ℕ) → is_range_inside x from to ≡ true → (cap_base x ≤ from) × (to ≤ cap_top x)
range_says x from to inside =
    let ends = and_parts (nat_le (cap_base x) from) (nat_le to (cap_top x)) inside in
    (leb-true (cap_base x) from ends.0, leb-true to (cap_top x) ends.1)

-- ---- a load or a store

record Reaches (x : Cap) (at width : ℕ) : Type 0 where
  tagged : x.tag ≡ true
  may : (has x load_data ≡ true) ⊎ (has x store_data ≡ true)
  range : (cap_base x ≤ at) × (at + width ≤ cap_top x)

access_reaches : (loads : Bool) (a : Access) (x : Cap) (at : ℕ) (carries : Bool) → first_failed (if loads then load_checks a x at else store_checks a x at carries) ≡ None → Reaches x at a.width
access_reaches true a x at carries e =
    let h = all_pass (load_checks a x at) e in
    record { tagged = h.0; may = inl h.1.1.0; range = range_says x at (at + a.width) h.1.1.1.0 }
access_reaches false a x at carries e =
    let h = all_pass (store_checks a x at carries) e in
    record { tagged = h.0; may = inr h.1.1.0; range = range_says x at (at + a.width) h.1.1.1.1.0 }

width_some : (i : Instr) → 0 < (access_of i).width
width_some (Clc rd rs1 n) = omega arith
width_some (Csc rs1 rs2 n) = omega arith
width_some i = omega arith

-- nothing is hidden that may be loaded or stored through this capability
abbrev OpenTo : (ℕ → Bool) → ℕ → Cap → Type 0
OpenTo h ram x = (a : ℕ) → ram ≤ a → x.tag ≡ true → (has x load_data ≡ true) ⊎ (has x store_data ≡ true) → cap_base x ≤ a → a < cap_top x → h ((a - ram) / 8) ≡ false

access_seen : (h : ℕ → Bool) (ram : ℕ) (i : Instr) (x y : Cap) → OpenTo h ram x → SeesAccess h ram i x y
access_seen h ram i x y opens passes inside =
    let r : Reaches x (access_address (access_of i) x) (access_of i).width =
    access_reaches (access_of i).loads (access_of i) x (access_address (access_of i) x) ((access_of i).whole && y.tag) passes in
    opens (access_address (access_of i) x) inside r.tagged r.may r.range.0 (let some = width_some i in let high = r.range.1 in omega (arith, some, high))

pub register_seen : (s : EngineRow) (t n : ℕ) (i : Instr) (x y : Cap) → IsOpen s t → x ≡ register (thread s t) n → SeesAccess (hides s) s.region.ram i x y
register_seen s t n i x y opens is =
    access_seen (hides s) s.region.ram i x y
    (subst (λ (c : Cap). OpenTo (hides s) s.region.ram c) (sym is) (λ a inside tagged may low high. opens.registers n a inside tagged may low high))

-- ---- a fetch

pub fetch_seen : (s : EngineRow) (t : ℕ) → IsOpen s t → first_failed (fetch_checks (thread s t).pcc) ≡ None → IsSeen (hides s) s.region.ram (cap_address (thread s t).pcc)
fetch_seen s t opens passes inside =
    let c : Cap = (thread s t).pcc in
    let h = all_pass (fetch_checks c) passes in
    let range = range_says c (cap_address c) (cap_address c + 4) h.1.1.1.0 in
    opens.fetches (cap_address c) inside h.0 range.0 (let high = range.1 in omega (arith, high))
