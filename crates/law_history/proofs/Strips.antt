-- Results by what is left without shadows: what an instruction leaves of stripped operands is, stripped, what it leaves.
use Rattle.std.proofs.Common.{ap₂, cond, ◌%◌, ℕ, zero, suc, ◌≡◌, ◌-◌, ◌/◌, ◌==◌, ◌&&◌, ◌||◌, Bool, true, false, not, List, [], ◌∷◌, length, slice_set, Option, Some, None, option_map, Result, Ok, Err, refl, sym, ap, ◌∙◌, if◌then◌else◌}
use Rattle.std.specs.Prelude.{unwrap_or}
use Rattle.def_words.specs.declared.Cap.{Cap}
use Rattle.def_words.specs.declared.Posture.{Posture}
use Rattle.def_words.specs.declared.Trap.{Trap}
use Rattle.def_words.specs.Authority.{cap_address, cap_bounds, cap_base}
use Rattle.def_words.specs.Capability.{nowhere, with_address, with_bounds, with_exact_bounds, masked, sealed_by, unsealed_by, is_subset, raised, integer, untagged}
use Rattle.def_words.specs.Jumped.{opened, return_link}
use Rattle.def_words.specs.Loaded.{attenuated, stored_through}
use Rattle.def_words.specs.Permissions.{cap_perms, has, global, store_local}
use Rattle.def_words.specs.Seals.{cap_seal, posture_through}
use Rattle.def_instr.specs.declared.Instr.{Instr}
use Rattle.def_instr.specs.declared.Instr.TheVariants.{AuiPcc, AuiCgp, CIncAddrImm, CSetBoundsImm, CSetBounds, CSetBoundsExact, CSeal, CUnseal, CAndPerm, CSetAddr, CIncAddr, CSub, CSetHigh, CTestSubset, CSetEqualExact, CGetPerm, CGetType, CGetBase, CGetLen, CGetTag, Crrl, Cram, CMove, CClearTag, CGetAddr, CGetHigh, CGetTop, Jal, CJalr, Beq, Bne, Blt, Bge, Bltu, Bgeu}
use Rattle.def_capstep.specs.Results.{capability_result}
use Rattle.def_memory.specs.declared.Granule.{Granule}
use Rattle.def_memory.specs.Granules.{granule_at, plain}
use Rattle.def_memory.specs.Accesses.{loaded, loaded_cap, with_part}
use Rattle.def_machine.specs.Memory.{filtered_in, is_marked_in}
use Rattle.def_step.specs.declared.Access.{Access}
use Rattle.def_step.specs.declared.Class.{Class}
use Rattle.def_step.specs.declared.Class.TheVariants as class
use Rattle.ct_entry.specs.declared.acts.Act.TheVariants.{Load, Store}
use Rattle.def_step.specs.Devices.{bank_value, bank_read, bank_written}
use Rattle.def_step.specs.Accesses.{MemoryAndDevices, Accessed, accessed, in_ram, on_device, deed_at, stored_value, ram_value, ram_stored, is_ram, access_of, access_checks, access_address, access_result, unless, widened}
use Rattle.def_step.specs.Checks.{first_failed}
use Rattle.def_step.specs.Instructions.{Context, Effect, gives, carried_out, flows, accesses, fetch_checks, fetched, next_at, next_native, next_word, native_number, is_native_entry}
use Rattle.def_step.specs.declared.Next.TheVariants.{Returning}
use Rattle.def_instr.specs.Reading.{instruction_in}
use Rattle.def_instr.specs.Results.{integer_result}
use Rattle.def_profile.specs.declared.native.TheConstants.{RETURN_ENTRY}
use Rattle.def_step.specs.Jumps.{Flowed, flow_result, jumped_to, passed_over, branched, is_taken, jump_target, target_checks, register_jumped, register_jump_checks, register_target}

-- ---- without shadows

abbrev pub stripped : Cap → Cap
stripped c = record { tag = c.tag; word = c.word; shadow = nowhere }

abbrev pub calm : Posture → Posture
calm p = record { off = p.off; source = 0 }

abbrev pub bare : Granule → Granule
bare g = record { cap = stripped g.cap; mark = g.mark }

abbrev pub all_bare : List Granule → List Granule
all_bare [] = []
all_bare (g ∷ gs) = bare g ∷ all_bare gs

abbrev pub bare_space : MemoryAndDevices → MemoryAndDevices
bare_space p = record { ram = p.ram; granules = all_bare p.granules; bank = p.bank; time = p.time }

abbrev pub bare_around : Context → Context
bare_around a = record { pcc = stripped a.pcc; posture = calm a.posture; space = bare_space a.space }

abbrev pub bare_done : Effect → Effect
bare_done d = record { to = d.to; value = stripped d.value; pcc = stripped d.pcc; posture = calm d.posture; granules = all_bare d.granules; bank = d.bank; act = d.act }

abbrev pub bare_accessed : Accessed → Accessed
bare_accessed m = record { value = option_map stripped m.value; act = m.act; granules = all_bare m.granules; bank = m.bank }

abbrev pub bare_flowed : Flowed → Flowed
bare_flowed f = record { link = option_map stripped f.link; pcc = stripped f.pcc; posture = calm f.posture }

abbrev pub bare_result : {A : Type 0} → (A → A) → Result A Trap → Result A Trap
bare_result f (Ok a) = Ok (f a)
bare_result f (Err why) = Err why

-- ---- choices

-- one of two, each of which is the same after f
both : {A B : Type 0} (f : A → B) (b : Bool) (x y z w : A) → f x ≡ f z → f y ≡ f w → f (if b then x else y) ≡ f (if b then z else w)
both f true x y z w here there = here
both f false x y z w here there = there

unless_bare : {A : Type 0} (f : A → A) (o : Option Trap) (a b : A) → f a ≡ f b → bare_result f (unless o a) ≡ bare_result f (unless o b)
unless_bare f None a b same = ap (λ z. Ok z) same
unless_bare f (Some why) a b same = refl

-- ---- memory

bare_there : (gs : List Granule) (k : ℕ) → granule_at (all_bare gs) k ≡ bare (granule_at gs k)
bare_there [] k = refl
bare_there (g ∷ gs) zero = refl
bare_there (g ∷ gs) (suc k) = bare_there gs k

bare_many : (gs : List Granule) → length (all_bare gs) ≡ length gs
bare_many [] = refl
bare_many (g ∷ gs) = ap suc (bare_many gs)

bare_twice : (gs : List Granule) → all_bare (all_bare gs) ≡ all_bare gs
bare_twice [] = refl
bare_twice (g ∷ gs) = ap (λ hs. bare g ∷ hs) (bare_twice gs)

bare_set : (gs : List Granule) (k : ℕ) (g h : Granule) → bare g ≡ bare h → all_bare (slice_set gs k g) ≡ all_bare (slice_set (all_bare gs) k h)
bare_set [] k g h same = refl
bare_set (q ∷ gs) zero g h same = ap (λ (z : Granule). z ∷ all_bare gs) same ∙ ap (λ hs. bare h ∷ hs) (sym (bare_twice gs))
bare_set (q ∷ gs) (suc k) g h same = ap (λ hs. bare q ∷ hs) (bare_set gs k g h same)

-- ---- capability instructions

pub capability_bare : (i : Instr) (x y pcc : Cap) → stripped (capability_result i x y pcc) ≡ stripped (capability_result i (stripped x) (stripped y) (stripped pcc))
unfolding capability_result with_address with_bounds with_exact_bounds masked sealed_by unsealed_by is_subset cap_bounds cap_perms cap_seal
capability_bare (AuiPcc rd n) x y pcc = refl
capability_bare (AuiCgp rd n) x y pcc = refl
capability_bare (CIncAddrImm rd rs1 n) x y pcc = refl
capability_bare (CIncAddr rd rs1 rs2) x y pcc = refl
capability_bare (CSetAddr rd rs1 rs2) x y pcc = refl
capability_bare (CSetBoundsImm rd rs1 n) x y pcc = refl
capability_bare (CSetBounds rd rs1 rs2) x y pcc = refl
capability_bare (CSetBoundsExact rd rs1 rs2) x y pcc = refl
capability_bare (CAndPerm rd rs1 rs2) x y pcc = refl
capability_bare (CSeal rd rs1 rs2) x y pcc = refl
capability_bare (CUnseal rd rs1 rs2) x y pcc = refl
capability_bare (CSetHigh rd rs1 rs2) x y pcc = refl
capability_bare (CMove rd rs1) x y pcc = refl
capability_bare (CClearTag rd rs1) x y pcc = refl
capability_bare (CTestSubset rd rs1 rs2) x y pcc = refl
capability_bare (CSetEqualExact rd rs1 rs2) x y pcc = refl
capability_bare (CSub rd rs1 rs2) x y pcc = refl
capability_bare (CGetPerm rd rs1) x y pcc = refl
capability_bare (CGetType rd rs1) x y pcc = refl
capability_bare (CGetBase rd rs1) x y pcc = refl
capability_bare (CGetTop rd rs1) x y pcc = refl
capability_bare (CGetLen rd rs1) x y pcc = refl
capability_bare (CGetTag rd rs1) x y pcc = refl
capability_bare (CGetAddr rd rs1) x y pcc = refl
capability_bare (CGetHigh rd rs1) x y pcc = refl
capability_bare (Crrl rd rs1) x y pcc = refl
capability_bare (Cram rd rs1) x y pcc = refl
capability_bare i x y pcc = refl

raised_bare : (c : Cap) (n : ℕ) → stripped (raised c n) ≡ stripped (raised (stripped c) n)
unfolding with_address cap_bounds cap_seal cap_perms
raised_bare c n = refl

-- ---- accesses

checks_bare : (a : Access) (x y : Cap) (at : ℕ) → access_checks a x y at ≡ access_checks a (stripped x) (stripped y) at
unfolding cap_bounds cap_seal cap_perms
checks_bare a x y at = refl

attenuated_bare : (by c : Cap) → stripped (attenuated by c) ≡ stripped (attenuated (stripped by) (stripped c))
unfolding attenuated cap_seal cap_perms
attenuated_bare by c = refl

stored_bare : (by c : Cap) → stripped (stored_through by c) ≡ stripped (stored_through (stripped by) (stripped c))
unfolding cap_perms
stored_bare by c = both stripped (c.tag && not (has c global) && not (has by store_local)) _ _ _ _ refl refl

-- whether a capability is filtered goes by its tag, its base and marks
abbrev is_lost : ℕ → List Granule → Cap → Bool
is_lost ram gs c = c.tag && is_marked_in ram gs (cap_base c)

marked_bare : (ram : ℕ) (gs : List Granule) (x : ℕ) → is_marked_in ram gs x ≡ is_marked_in ram (all_bare gs) x
marked_bare ram gs x = rw (bare_there gs ((x - ram) / 8)) refl

lost_bare : (ram : ℕ) (gs : List Granule) (c : Cap) → is_lost ram gs c ≡ is_lost ram (all_bare gs) (stripped c)
unfolding cap_bounds
lost_bare ram gs c = ap (λ b. c.tag && b) (marked_bare ram gs (cap_base c))

lost_same : (ram : ℕ) (gs : List Granule) (c d : Cap) → stripped c ≡ stripped d → is_lost ram gs c ≡ is_lost ram (all_bare gs) d
lost_same ram gs c d same = lost_bare ram gs c ∙ ap (λ z. is_lost ram (all_bare gs) z) same ∙ ap (λ hs. is_lost ram hs (stripped d)) (sym (bare_twice gs)) ∙ sym (lost_bare ram (all_bare gs) d)

chosen_bare : (a b : Bool) (c d : Cap) → a ≡ b → stripped c ≡ stripped d → stripped (cond a (untagged c) c) ≡ stripped (cond b (untagged d) d)
chosen_bare true true c d e same = ap (λ (z : Cap). untagged z) same
chosen_bare false false c d e same = same
chosen_bare true false c d e same = absurd (cc)
chosen_bare false true c d e same = absurd (cc)

filtered_bare : (ram : ℕ) (gs : List Granule) (c d : Cap) → stripped c ≡ stripped d → stripped (filtered_in ram gs c) ≡ stripped (filtered_in ram (all_bare gs) d)
filtered_bare ram gs c d same = chosen_bare (is_lost ram gs c) (is_lost ram (all_bare gs) d) c d (lost_same ram gs c d same) same

loaded_bare : (gs : List Granule) (at width : ℕ) → loaded gs at width ≡ loaded (all_bare gs) at width
loaded_bare gs at width = rw (bare_there gs (at / 8)) refl

value_bare : (a : Access) (x : Cap) (at ram : ℕ) (gs : List Granule) → stripped (ram_value a x at ram gs) ≡ stripped (ram_value a (stripped x) at ram (all_bare gs))
value_bare a x at ram gs = both stripped a.whole _ _ _ _
    (filtered_bare ram gs (attenuated x (loaded_cap gs (at - ram))) (attenuated (stripped x) (loaded_cap (all_bare gs) (at - ram)))
    (attenuated_bare x (loaded_cap gs (at - ram)) ∙ ap (λ (g : Granule). stripped (attenuated (stripped x) g.cap)) (sym (bare_there gs ((at - ram) / 8)))))
    (ap (λ n. integer (widened a n)) (loaded_bare gs (at - ram) a.width))

kept_bare : (gs : List Granule) (k : ℕ) (c d : Cap) → stripped c ≡ stripped d → bare (record { cap = c; mark = (granule_at gs k).mark }) ≡ bare (record { cap = d; mark = (granule_at (all_bare gs) k).mark })
kept_bare gs k c d same = rw (bare_there gs k) (ap (λ (z : Cap). record { cap = z; mark = (granule_at gs k).mark }) same)

ram_bare : (a : Access) (x y : Cap) (at ram : ℕ) (gs : List Granule) → all_bare (ram_stored a x y at ram gs) ≡ all_bare (ram_stored a (stripped x) (stripped y) at ram (all_bare gs))
ram_bare a x y at ram gs = both all_bare a.whole _ _ _ _
    (bare_set gs ((at - ram) / 8) _ _ (kept_bare gs ((at - ram) / 8) (stored_through x y) (stored_through (stripped x) (stripped y)) (stored_bare x y)))
    (bare_set gs ((at - ram) / 8) _ _ (kept_bare gs ((at - ram) / 8)
    (plain (with_part (granule_at gs ((at - ram) / 8)).cap.word ((at - ram) % 8) a.width (cap_address y)))
    (plain (with_part (granule_at (all_bare gs) ((at - ram) / 8)).cap.word ((at - ram) % 8) a.width (cap_address y)))
    (ap (λ (g : Granule). plain (with_part g.cap.word ((at - ram) % 8) a.width (cap_address y))) (sym (bare_there gs ((at - ram) / 8))))))

in_ram_bare : (a : Access) (x y : Cap) (at : ℕ) (p : MemoryAndDevices) → bare_accessed (in_ram a x y at p) ≡ bare_accessed (in_ram a (stripped x) (stripped y) at (bare_space p))
in_ram_bare a x y at p = both bare_accessed a.loads _ _ _ _
    (ap₂ (λ (c : Cap) (gs : List Granule). record { value = Some c; act = None; granules = gs; bank = p.bank }) (value_bare a x at p.ram p.granules) (sym (bare_twice p.granules)))
    (ap (λ (gs : List Granule). record { value = None; act = None; granules = gs; bank = p.bank }) (ram_bare a x y at p.ram p.granules))

-- a device is reached by a number
on_device_bare : (a : Access) (x y : Cap) (at : ℕ) (p : MemoryAndDevices) → bare_accessed (on_device a x y at p) ≡ bare_accessed (on_device a (stripped x) (stripped y) at (bare_space p))
unfolding attenuated cap_perms cap_seal
on_device_bare a x y at p = both bare_accessed a.loads _ _ _ _
    (ap₂ (λ (c : Cap) (gs : List Granule). record { value = Some c; act = deed_at p at (Load at a.width (bank_value p.bank at a.width p.time)); granules = gs; bank = bank_read p.bank at a.width })
    (both stripped a.whole _ _ _ _ refl refl) (sym (bare_twice p.granules)))
    (ap (λ (gs : List Granule). record { value = None; act = deed_at p at (Store at a.width (stored_value a y)); granules = gs; bank = bank_written p.bank at a.width (stored_value a y) }) (sym (bare_twice p.granules)))

ram_there : (p : MemoryAndDevices) (at width : ℕ) → is_ram p at width ≡ is_ram (bare_space p) at width
ram_there p at width = rw (bare_many p.granules) refl

accessed_bare : (a : Access) (x y : Cap) (at : ℕ) (p : MemoryAndDevices) → bare_accessed (accessed a x y at p) ≡ bare_accessed (accessed a (stripped x) (stripped y) at (bare_space p))
accessed_bare a x y at p =
    both bare_accessed (is_ram p at a.width) _ _ _ _ (in_ram_bare a x y at p) (on_device_bare a x y at p)
    ∙ ap (λ b. bare_accessed (if b then in_ram a (stripped x) (stripped y) at (bare_space p) else on_device a (stripped x) (stripped y) at (bare_space p))) (ram_there p at a.width)

access_bare : (i : Instr) (x y : Cap) (p : MemoryAndDevices) → bare_result bare_accessed (access_result i x y p) ≡ bare_result bare_accessed (access_result i (stripped x) (stripped y) (bare_space p))
unfolding access_result
access_bare i x y p =
    ap (λ cs. bare_result bare_accessed (unless (first_failed cs) (accessed (access_of i) x y (access_address (access_of i) x) p))) (checks_bare (access_of i) x y (access_address (access_of i) x))
    ∙ unless_bare bare_accessed (first_failed (access_checks (access_of i) (stripped x) (stripped y) (access_address (access_of i) x))) _ _ (accessed_bare (access_of i) x y (access_address (access_of i) x) p)

-- ---- jumps

linked_bare : (pcc : Cap) (q : Posture) → stripped (return_link pcc q) ≡ stripped (return_link (stripped pcc) (calm q))
unfolding with_address cap_bounds cap_seal cap_perms
linked_bare pcc q = refl

address_bare : (c : Cap) (n : ℕ) → stripped (with_address c n) ≡ stripped (with_address (stripped c) n)
unfolding with_address cap_bounds cap_seal cap_perms
address_bare c n = refl

opened_bare : (c : Cap) (n : ℕ) → stripped (with_address (opened c) n) ≡ stripped (with_address (opened (stripped c)) n)
unfolding with_address cap_bounds cap_seal cap_perms
opened_bare c n = refl

-- the posture before and one after it, whatever their sources are
posture_bare : (q r : Posture) (kind named other kept past : ℕ) → calm q ≡ calm r → calm (posture_through q kind named kept) ≡ calm (posture_through r kind other past)
posture_bare q r kind named other kept past same =
    both calm (kind == 2) _ _ _ _ refl
    (both calm (kind == 4) _ _ _ _ refl
    (both calm ((kind == 3) || (kind == 5)) _ _ _ _ refl same))

jumped_bare : (pcc : Cap) (q : Posture) (target : ℕ) (l m : Option Cap) → option_map stripped l ≡ option_map stripped m
    → bare_result bare_flowed (jumped_to pcc q target l) ≡ bare_result bare_flowed (jumped_to (stripped pcc) (calm q) target m)
jumped_bare pcc q target l m same = unless_bare bare_flowed (first_failed (target_checks target)) _ _
    (ap₂ (λ (o : Option Cap) (c : Cap). record { link = o; pcc = c; posture = calm q }) same (address_bare pcc target))

over_bare : (pcc : Cap) (q : Posture) → bare_result bare_flowed (passed_over pcc q) ≡ bare_result bare_flowed (passed_over (stripped pcc) (calm q))
over_bare pcc q = ap (λ (c : Cap). Ok (record { link = None; pcc = c; posture = calm q })) (raised_bare pcc 4)

branched_bare : (taken : Bool) (pcc : Cap) (q : Posture) (offset : ℕ) → bare_result bare_flowed (branched taken pcc q offset) ≡ bare_result bare_flowed (branched taken (stripped pcc) (calm q) offset)
branched_bare taken pcc q offset = both (bare_result bare_flowed) taken _ _ _ _ (jumped_bare pcc q (jump_target pcc offset) None None refl) (over_bare pcc q)

jump_checks_bare : (to at : ℕ) (x : Cap) (n : ℕ) → register_jump_checks to at x n ≡ register_jump_checks to at (stripped x) n
unfolding cap_seal cap_perms
jump_checks_bare to at x n = refl

seal_bare : (x : Cap) → cap_seal x ≡ cap_seal (stripped x)
unfolding cap_seal cap_perms
seal_bare x = refl

register_bare : (to at : ℕ) (x : Cap) (n : ℕ) (pcc : Cap) (q : Posture) (named : ℕ)
    → bare_result bare_flowed (register_jumped to at x n pcc q named) ≡ bare_result bare_flowed (register_jumped to at (stripped x) n (stripped pcc) (calm q) 0)
register_bare to at x n pcc q named =
    ap (λ cs. bare_result bare_flowed (unless (first_failed cs) (record { link = Some (return_link pcc q); pcc = with_address (opened x) (register_target x n); posture = posture_through q (cap_seal x) named x.shadow.source }))) (jump_checks_bare to at x n)
    ∙ unless_bare bare_flowed (first_failed (register_jump_checks to at (stripped x) n)) _ _
    (ap₂ (λ (l : Cap) (c : Cap). record { link = Some l; pcc = c; posture = calm (posture_through q (cap_seal x) named x.shadow.source) }) (linked_bare pcc q) (opened_bare x (register_target x n))
    ∙ ap (λ (r : Posture). record { link = Some (stripped (return_link (stripped pcc) (calm q))); pcc = stripped (with_address (opened (stripped x)) (register_target x n)); posture = r })
    (ap (λ k. calm (posture_through q k named x.shadow.source)) (seal_bare x) ∙ posture_bare q (calm q) (cap_seal (stripped x)) named 0 x.shadow.source 0 refl))

flow_bare : (i : Instr) (x y pcc : Cap) (q : Posture) (named : ℕ)
    → bare_result bare_flowed (flow_result i x y pcc q named) ≡ bare_result bare_flowed (flow_result i (stripped x) (stripped y) (stripped pcc) (calm q) 0)
unfolding flow_result
flow_bare (Jal rd offset) x y pcc q named = jumped_bare pcc q (jump_target pcc offset) (Some (return_link pcc q)) (Some (return_link (stripped pcc) (calm q))) (ap (λ (c : Cap). Some c) (linked_bare pcc q))
flow_bare (CJalr rd rs1 n) x y pcc q named = register_bare rd rs1 x n pcc q named
flow_bare (Beq rs1 rs2 offset) x y pcc q named = branched_bare (is_taken (Beq rs1 rs2 offset) (cap_address x) (cap_address y)) pcc q offset
flow_bare (Bne rs1 rs2 offset) x y pcc q named = branched_bare (is_taken (Bne rs1 rs2 offset) (cap_address x) (cap_address y)) pcc q offset
flow_bare (Blt rs1 rs2 offset) x y pcc q named = branched_bare (is_taken (Blt rs1 rs2 offset) (cap_address x) (cap_address y)) pcc q offset
flow_bare (Bge rs1 rs2 offset) x y pcc q named = branched_bare (is_taken (Bge rs1 rs2 offset) (cap_address x) (cap_address y)) pcc q offset
flow_bare (Bltu rs1 rs2 offset) x y pcc q named = branched_bare (is_taken (Bltu rs1 rs2 offset) (cap_address x) (cap_address y)) pcc q offset
flow_bare (Bgeu rs1 rs2 offset) x y pcc q named = branched_bare (is_taken (Bgeu rs1 rs2 offset) (cap_address x) (cap_address y)) pcc q offset
flow_bare i x y pcc q named = over_bare pcc q

-- ---- an instruction

value_or : (o : Option Cap) → stripped (unwrap_or o (plain 0)) ≡ unwrap_or (option_map stripped o) (plain 0)
value_or None = refl
value_or (Some c) = refl

abbrev done_by_flow : Context → ℕ → Flowed → Effect
done_by_flow a to f = record { to = to; value = unwrap_or f.link (plain 0); pcc = f.pcc; posture = f.posture; granules = all_bare a.space.granules; bank = a.space.bank; act = None }

flows_bare : (a : Context) (to : ℕ) (r s : Result Flowed Trap) → bare_result bare_flowed r ≡ bare_result bare_flowed s → bare_result bare_done (flows a to r) ≡ bare_result bare_done (flows (bare_around a) to s)
flows_bare a to (Ok f) (Ok g) same =
    let flowed : bare_flowed f ≡ bare_flowed g = cc in
    ap (λ (c : Cap). Ok (record { to = to; value = c; pcc = stripped f.pcc; posture = calm f.posture; granules = all_bare a.space.granules; bank = a.space.bank; act = None })) (value_or f.link)
    ∙ ap (λ (h : Flowed). Ok (done_by_flow a to h)) flowed
    ∙ ap₂ (λ (c : Cap) (gs : List Granule). Ok (record (done_by_flow a to (bare_flowed g)) { value = c; granules = gs })) (sym (value_or g.link)) (sym (bare_twice a.space.granules))
flows_bare a to (Err why) (Err other) same = let trap : why ≡ other = cc in ap (λ (w : Trap). Err w) trap
flows_bare a to (Ok f) (Err other) same = absurd (cc)
flows_bare a to (Err why) (Ok g) same = absurd (cc)

accesses_bare : (a : Context) (to : ℕ) (r s : Result Accessed Trap) → bare_result bare_accessed r ≡ bare_result bare_accessed s → bare_result bare_done (accesses a to r) ≡ bare_result bare_done (accesses (bare_around a) to s)
accesses_bare a to (Ok m) (Ok n) same =
    let accessed_so : bare_accessed m ≡ bare_accessed n = cc in
    ap₂ (λ (c : Cap) (d : Cap). Ok (record { to = to; value = c; pcc = d; posture = calm a.posture; granules = all_bare m.granules; bank = m.bank; act = m.act })) (value_or m.value) (raised_bare a.pcc 4)
    ∙ ap (λ (h : Accessed). Ok (record { to = to; value = unwrap_or h.value (plain 0); pcc = stripped (raised (stripped a.pcc) 4); posture = calm a.posture; granules = h.granules; bank = h.bank; act = h.act })) accessed_so
    ∙ ap (λ (c : Cap). Ok (record { to = to; value = c; pcc = stripped (raised (stripped a.pcc) 4); posture = calm a.posture; granules = all_bare n.granules; bank = n.bank; act = n.act })) (sym (value_or n.value))
accesses_bare a to (Err why) (Err other) same = let trap : why ≡ other = cc in ap (λ (w : Trap). Err w) trap
accesses_bare a to (Ok m) (Err other) same = absurd (cc)
accesses_bare a to (Err why) (Ok n) same = absurd (cc)

gives_bare : (a : Context) (to : ℕ) (c d : Cap) → stripped c ≡ stripped d → bare_result bare_done (Ok (gives a to c)) ≡ bare_result bare_done (Ok (gives (bare_around a) to d))
gives_bare a to c d same =
    ap₂ (λ (v : Cap) (p : Cap). Ok (record { to = to; value = v; pcc = p; posture = calm a.posture; granules = all_bare a.space.granules; bank = a.space.bank; act = None })) same (raised_bare a.pcc 4)
    ∙ ap (λ (gs : List Granule). Ok (record { to = to; value = stripped d; pcc = stripped (raised (stripped a.pcc) 4); posture = calm a.posture; granules = gs; bank = a.space.bank; act = None })) (sym (bare_twice a.space.granules))

pub carried_bare : (k : Class) (i : Instr) (to : ℕ) (x y : Cap) (named : ℕ) (a : Context)
    → bare_result bare_done (carried_out k i to x y named a) ≡ bare_result bare_done (carried_out k i to (stripped x) (stripped y) 0 (bare_around a))
carried_bare class.Integer i to x y named a = gives_bare a to (integer (integer_result i (cap_address x) (cap_address y))) (integer (integer_result i (cap_address x) (cap_address y))) refl
carried_bare class.Capability i to x y named a = gives_bare a to (capability_result i x y a.pcc) (capability_result i (stripped x) (stripped y) (stripped a.pcc)) (capability_bare i x y a.pcc)
carried_bare class.System i to x y named a = refl
carried_bare class.Jump i to x y named a = flows_bare a to (flow_result i x y a.pcc a.posture named) (flow_result i (stripped x) (stripped y) (stripped a.pcc) (calm a.posture) 0) (flow_bare i x y a.pcc a.posture named)
carried_bare class.Access i to x y named a = accesses_bare a to (access_result i x y a.space) (access_result i (stripped x) (stripped y) (bare_space a.space)) (access_bare i x y a.space)
carried_bare class.Fence i to x y named a = gives_bare a 0 (plain 0) (plain 0) refl
carried_bare class.Call i to x y named a = refl
carried_bare class.Break i to x y named a = refl

-- ---- a fetch

pub fetch_bare : (pcc : Cap) → first_failed (fetch_checks pcc) ≡ first_failed (fetch_checks (stripped pcc))
unfolding cap_bounds cap_seal cap_perms
fetch_bare pcc = refl

fetched_bare : (p : MemoryAndDevices) (at : ℕ) → fetched p at ≡ fetched (bare_space p) at
fetched_bare p at =
    ap (λ n. if is_ram p at 4 && (at % 4 == 0) then n else 0) (loaded_bare p.granules (at - p.ram) 4)
    ∙ ap (λ b. if b && (at % 4 == 0) then loaded (all_bare p.granules) (at - p.ram) 4 else 0) (ram_there p at 4)

pub next_bare : (p : MemoryAndDevices) (at : ℕ) → next_at p at ≡ next_at (bare_space p) at
next_bare p at = ap (λ n. if at == RETURN_ENTRY then Returning else if is_native_entry at then next_native (native_number at) else next_word (instruction_in n)) (fetched_bare p at)
