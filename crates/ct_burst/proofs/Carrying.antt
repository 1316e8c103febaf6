-- What is carried out quietly: branches and jumps whose target is whole, and jumps by a register.
use Rattle.std.proofs.Common.{ℕ, ◌≡◌, ◌%◌, ◌==◌, Bool, true, false, List, Option, Some, None, Ok, refl, sym, ap, subst, if◌then◌else◌}
use Rattle.def_memory.specs.declared.Granule.{Granule}
use Rattle.def_machine.specs.State.{Frame}
use Rattle.def_words.specs.declared.Cap.{Cap}
use Rattle.def_words.specs.declared.Posture.{Posture}
use Rattle.def_words.specs.Authority.{cap_address}
use Rattle.def_words.specs.Capability.{with_address}
use Rattle.def_words.specs.Jumped.{return_link, opened}
use Rattle.def_instr.specs.declared.Instr.{Instr}
use Rattle.def_instr.specs.declared.Instr.TheVariants.{Jal, CJalr, Beq, Bne, Blt, Bge, Bltu, Bgeu}
use Rattle.def_step.specs.declared.Class.TheVariants as kinds
use Rattle.def_step.specs.Jumps.{flow_result, is_taken, jump_target, jumped_to, branched, register_jumped, register_target}
use Rattle.def_step.specs.Operands.{class_of, operands_of}
use Rattle.ct_areas.specs.declared.thread.Thread as row
use Rattle.ct_burst.specs.Carrying.{value_in, offset_of, takes, jal_offset, jump_by, jump_distance, linked_to, row_through, CarriesAlone}
use Rattle.ct_burst.specs.Going.{running_thread, Carries}

-- ---- branches and jumps

whole_target : (pcc : Cap) (posture : Posture) (target : ℕ) (link : Option Cap) → (target % 4 == 0) ≡ true
    → jumped_to pcc posture target link ≡ Ok (record { link = link; pcc = with_address pcc target; posture = posture })
whole_target pcc posture target link whole = rw whole refl

branch_goes : (taken : Bool) (pcc : Cap) (posture : Posture) (offset n : ℕ) → n ≡ (if taken then offset else 4) → (jump_target pcc n % 4 == 0) ≡ true
    → branched taken pcc posture offset ≡ Ok (record { link = None; pcc = with_address pcc (jump_target pcc n); posture = posture })
branch_goes true pcc posture offset n is whole =
    subst (λ (m : ℕ). branched true pcc posture offset ≡ Ok (record { link = None; pcc = with_address pcc (jump_target pcc m); posture = posture })) (sym is)
    (whole_target pcc posture (jump_target pcc offset) None (subst (λ (m : ℕ). (jump_target pcc m % 4 == 0) ≡ true) is whole))
branch_goes false pcc posture offset n is whole =
    subst (λ (m : ℕ). branched false pcc posture offset ≡ Ok (record { link = None; pcc = with_address pcc (jump_target pcc m); posture = posture })) (sym is) refl

abbrev IsTurned : row.Thread → Instr → ℕ → row.Thread → Type 0
IsTurned r i n new = new ≡ linked_to r (jump_target r.pcc n) (operands_of i).to

-- whatever memory and frames are
abbrev Goes : row.Thread → Instr → row.Thread → Type 0
Goes r i new = (ram : ℕ) (gs : List Granule) (fs : List Frame) → Carries ram (running_thread r fs) gs i (running_thread new fs) gs

-- what a branch comes to is by its offset
branch_flows : (i : Instr) (offset : ℕ) (x y pcc : Cap) (posture : Posture) (named : ℕ) → offset_of i ≡ Some offset
    → flow_result i x y pcc posture named ≡ branched (is_taken i (cap_address x) (cap_address y)) pcc posture offset
unfolding flow_result
branch_flows (Beq rs1 rs2 n) offset x y pcc posture named e = let same : n ≡ offset = cc in ap (branched (is_taken (Beq rs1 rs2 n) (cap_address x) (cap_address y)) pcc posture) same
branch_flows (Bne rs1 rs2 n) offset x y pcc posture named e = let same : n ≡ offset = cc in ap (branched (is_taken (Bne rs1 rs2 n) (cap_address x) (cap_address y)) pcc posture) same
branch_flows (Blt rs1 rs2 n) offset x y pcc posture named e = let same : n ≡ offset = cc in ap (branched (is_taken (Blt rs1 rs2 n) (cap_address x) (cap_address y)) pcc posture) same
branch_flows (Bge rs1 rs2 n) offset x y pcc posture named e = let same : n ≡ offset = cc in ap (branched (is_taken (Bge rs1 rs2 n) (cap_address x) (cap_address y)) pcc posture) same
branch_flows (Bltu rs1 rs2 n) offset x y pcc posture named e = let same : n ≡ offset = cc in ap (branched (is_taken (Bltu rs1 rs2 n) (cap_address x) (cap_address y)) pcc posture) same
branch_flows (Bgeu rs1 rs2 n) offset x y pcc posture named e = let same : n ≡ offset = cc in ap (branched (is_taken (Bgeu rs1 rs2 n) (cap_address x) (cap_address y)) pcc posture) same
branch_flows i offset x y pcc posture named e = absurd (cc)

-- a branch is a jump that leaves no link
branch_class : (i : Instr) (offset : ℕ) → offset_of i ≡ Some offset → (class_of i ≡ kinds.Jump) × ((operands_of i).to ≡ 0)
branch_class (Beq rs1 rs2 n) offset e = (refl, refl)
branch_class (Bne rs1 rs2 n) offset e = (refl, refl)
branch_class (Blt rs1 rs2 n) offset e = (refl, refl)
branch_class (Bge rs1 rs2 n) offset e = (refl, refl)
branch_class (Bltu rs1 rs2 n) offset e = (refl, refl)
branch_class (Bgeu rs1 rs2 n) offset e = (refl, refl)
branch_class i offset e = absurd (cc)

branch_by : (r : row.Thread) (i : Instr) (offset n : ℕ) (new : row.Thread) → offset_of i ≡ Some offset
    → n ≡ (if takes r i then offset else 4)
    → (jump_target r.pcc n % 4 == 0) ≡ true → IsTurned r i n new → Goes r i new
branch_by r i offset n new e by whole is ram gs fs named k time =
    let kind = branch_class i offset e in
    let here : new ≡ linked_to r (jump_target r.pcc n) 0 = subst (λ k. new ≡ linked_to r (jump_target r.pcc n) k) kind.1 is in
    rw (
      kind.0,
      kind.1,
      branch_flows i offset (value_in r (operands_of i).first) (value_in r (operands_of i).second) r.pcc r.posture named e,
      branch_goes (takes r i) r.pcc r.posture offset n by whole,
    ) (ap (λ (q : row.Thread). running_thread q fs) here, refl, refl, refl, refl)

jal_quiet : (r : row.Thread) (i : Instr) (n : ℕ) (new : row.Thread) → Some n ≡ jal_offset i
    → (jump_target r.pcc n % 4 == 0) ≡ true → IsTurned r i n new → Goes r i new
unfolding flow_result
jal_quiet r (Jal rd offset) n new e whole is ram gs fs named k time =
    let same : n ≡ offset = cc in
    rw (whole_target r.pcc r.posture (jump_target r.pcc offset) (Some (return_link r.pcc r.posture)) (subst (λ (m : ℕ). (jump_target r.pcc m % 4 == 0) ≡ true) same whole))
    (ap (λ (q : row.Thread). running_thread q fs) (subst (λ (m : ℕ). IsTurned r (Jal rd offset) m new) same is), refl, refl, refl, refl)
jal_quiet r i n new e whole is ram gs fs named k time = absurd (cc)

moved_quiet : (r : row.Thread) (i : Instr) (o : Option ℕ) (n : ℕ) (new : row.Thread) → offset_of i ≡ o → Some n ≡ jump_by r i o
    → (jump_target r.pcc n % 4 == 0) ≡ true → IsTurned r i n new → Goes r i new
moved_quiet r i None n new e by whole is = jal_quiet r i n new by whole is
moved_quiet r i (Some offset) n new e by whole is = branch_by r i offset n new e (cc) whole is

pub jump_quiet : (r new : row.Thread) (i : Instr) (n : ℕ) → Some n ≡ jump_distance r i
    → (jump_target r.pcc n % 4 == 0) ≡ true → IsTurned r i n new → CarriesAlone r i new
jump_quiet r new i n by whole turned = record { each = moved_quiet r i (offset_of i) n new refl by whole turned }

-- ---- a jump by a register

-- what the jump to a capability comes to, whatever is named
abbrev pub GoesThrough : ℕ → ℕ → Cap → ℕ → Posture → Type 0
GoesThrough to at x n before =
    (here : Cap) (named : ℕ) → register_jumped to at x n here before named
    ≡ Ok (record { link = Some (return_link here before); pcc = with_address (opened x) (register_target x n); posture = before })

through_goes : (r new : row.Thread) (to at n : ℕ) → GoesThrough to at (value_in r at) n r.posture → new ≡ row_through r to at n → Goes r (CJalr to at n) new
unfolding flow_result
through_goes r new to at n goes is ram gs fs named k time =
    rw (goes r.pcc named) (ap (λ (q : row.Thread). running_thread q fs) is, refl, refl, refl, refl)

pub through_quiet : (r new : row.Thread) (to at n : ℕ) (x : Cap) → x ≡ value_in r at → GoesThrough to at x n r.posture → new ≡ row_through r to at n → CarriesAlone r (CJalr to at n) new
through_quiet r new to at n x here goes is = record { each = through_goes r new to at n (subst (λ (c : Cap). GoesThrough to at c n r.posture) here goes) is }
