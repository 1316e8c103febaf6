-- Loads and stores of the running thread: what they leave is confined, and what reaches a device is licensed.
use Rattle.std.proofs.Common.{ℕ, ◌≡◌, ◌+◌, ◌-◌, ◌%◌, ◌≤◌, ◌<◌, ◌&&◌, ◌||◌, Bool, true, false, not, inl, inr, ◌⊎◌, List, ◌∷◌, Option, Some, None, Ok, Err, refl, sym, ap, ◌∙◌, subst, arith, nat_le, if◌then◌else◌}
use Rattle.std.specs.Prelude.{unwrap_or, is_some}
use Rattle.std.proofs.lemmas.Bool.{eqb-true, leb-true, and_parts}
use Rattle.law_lists.proofs.Tests.{chosen, bool_tells}
use Rattle.def_words.specs.declared.Cap.{Cap}
use Rattle.def_words.specs.declared.Trap.{Trap}
use Rattle.def_words.specs.Authority.{cap_address, cap_base, cap_top}
use Rattle.def_words.specs.Capability.{integer, raised, is_range_inside}
use Rattle.def_words.specs.Loaded.{attenuated, stored_through}
use Rattle.def_words.specs.Permissions.{has, load_data, store_data, memory_capability}
use Rattle.def_memory.specs.declared.Granule.{Granule}
use Rattle.def_memory.specs.Granules.{plain}
use Rattle.def_memory.specs.Accesses.{loaded, loaded_cap, with_part}
use Rattle.ct_entry.specs.declared.acts.Act.{Act}
use Rattle.ct_entry.specs.declared.acts.Act.TheVariants as acts
use Rattle.ct_entry.specs.declared.rows.Kind.TheVariants as kinds
use Rattle.def_reach.specs.Roots.{Listing}
use Rattle.def_confined.specs.Capabilities.{heap_cap}
use Rattle.def_step.specs.declared.Class.TheVariants as class
use Rattle.def_step.specs.Operands.{operands_of}
use Rattle.law_moves.proofs.JumpsMoves.{in_rooted}
use Rattle.law_moves.proofs.Authorities.{headed}
use Rattle.law_moves.proofs.Deeds.{load_licensed, store_licensed}
use Rattle.def_instr.specs.declared.Instr.{Instr}
use Rattle.def_instr.specs.declared.Instr.TheVariants.{Clc, Csc}
use Rattle.def_machine.specs.Image.{granule_of, root}
use Rattle.def_machine.specs.State.{State, Frame, thread, register, granule}
use Rattle.def_machine.specs.Memory.{cap_stored, bytes_stored}
use Rattle.def_step.specs.declared.Access.{Access}
use Rattle.def_step.specs.Checks.{first_failed}
use Rattle.def_step.specs.Devices.{DeviceStates, found, bank_value, bank_read, bank_written}
use Rattle.def_machine.specs.Memory.{filtered_in}
use Rattle.def_step.specs.Accesses.{Accessed, access_of, access_checks, load_checks, store_checks, access_address, access_result, accessed, ram_value, ram_stored, device_value, stored_value, widened, deed_at, unless}
use Rattle.def_step.specs.Instructions.{Effect, Context, accesses, around, space_of, bank_of, deed, put_done, operand, carried_out, named_by, actor_of}
use Rattle.def_machine.specs.Platform.{Platform}
use Rattle.def_safety.specs.Wired.{Wired}
use Rattle.def_confined.specs.Confined.{Confined}
use Rattle.def_confined.specs.Licensed.{Licensed}
use Rattle.law_moves.proofs.Turns.{clock_of}
use Rattle.law_moves.proofs.Loading.{load_stands}
use Rattle.law_moves.proofs.Stores.{through_case, store_cap_confined, store_bytes_confined}
use Rattle.law_moves.proofs.Slices.{live_unpainted}
use Rattle.law_moves.proofs.SweepsMoves.{RamLeft, ram_same, set_left}
use Rattle.def_confined.specs.Swept.{HasUnpainted}
use Rattle.law_moves.proofs.JumpsMoves.{jumps_confined}
use Rattle.law_moves.proofs.Results.{attenuated_derived, attenuated_carries}
use Rattle.law_moves.proofs.Checks.{AllPass, all_pass}
use Rattle.law_routines.proofs.Accesses.{ram_begins, by_access}
use Rattle.def_confined.specs.Changes.{Puts}
use Rattle.law_moves.proofs.Moves.{untagged_puts}
use Rattle.law_events.proofs.Goings.{Fetching}
use Rattle.law_events.proofs.Goings as going

-- ---- what passed checks say

pub record LoadPasses (a : Access) (x : Cap) (at : ℕ) : Type 0 where
  pub tagged : x.tag ≡ true
  pub loads : has x load_data ≡ true
  pub low : cap_base x ≤ at
  pub high : at + a.width ≤ cap_top x
  pub aligned : at % a.width ≡ 0

pub record StorePasses (a : Access) (x : Cap) (at : ℕ) (carries : Bool) : Type 0 where
  pub tagged : x.tag ≡ true
  pub stores : has x store_data ≡ true
  pub may_carry : carries ≡ true → has x memory_capability ≡ true
  pub low : cap_base x ≤ at
  pub high : at + a.width ≤ cap_top x
  pub aligned : at % a.width ≡ 0

pub range_says : (x : Cap) (from to : ℕ) → is_range_inside x from to ≡ true → (cap_base x ≤ from) × (to ≤ cap_top x)
range_says x from to e = let ends = and_parts (nat_le (cap_base x) from) (nat_le to (cap_top x)) e in (leb-true (cap_base x) from ends.0, leb-true to (cap_top x) ends.1)

pub load_passes : (a : Access) (x : Cap) (at : ℕ) → AllPass (load_checks a x at) → LoadPasses a x at
load_passes a x at h =
    let range = range_says x at (at + a.width) h.1.1.1.0 in
    record { tagged = h.0; loads = h.1.1.0; low = range.0; high = range.1; aligned = eqb-true (at % a.width) 0 h.1.1.1.1.0 }

carry_says : (carries may : Bool) → (not carries || may) ≡ true → carries ≡ true → may ≡ true
carry_says true may e is = e
carry_says false may e is = absurd (let clash : false ≡ true = is in cc)

pub store_passes : (a : Access) (x : Cap) (at : ℕ) (carries : Bool) → AllPass (store_checks a x at carries) → StorePasses a x at carries
store_passes a x at carries h =
    let range = range_says x at (at + a.width) h.1.1.1.1.0 in
    record { tagged = h.0; stores = h.1.1.0; may_carry = carry_says carries (has x memory_capability) h.1.1.1.0; low = range.0; high = range.1; aligned = eqb-true (at % a.width) 0 h.1.1.1.1.1.0 }

-- ---- the widths of accesses

pub record HasWidth (a : Access) : Type 0 where
  pub some : 0 < a.width
  pub eight : a.whole ≡ true → a.width ≡ 8

plain_width : (a : Access) → 0 < a.width → a.whole ≡ false → HasWidth a
plain_width a some part = record { some = some; eight = λ is. absurd (let clash : true ≡ false = sym is ∙ part in cc) }

pub width_of : (k : Instr) → HasWidth (access_of k)
width_of (Clc v0 v1 v2) = record { some = omega arith; eight = λ is. refl }
width_of (Csc v0 v1 v2) = record { some = omega arith; eight = λ is. refl }
width_of k = plain_width (access_of k) (omega arith) refl

-- ---- what an access leaves

abbrev done_of : Context → ℕ → Accessed → Effect
done_of a to m = record { to = to; value = unwrap_or m.value (plain 0); pcc = raised a.pcc 4; posture = a.posture; granules = m.granules; bank = m.bank; act = m.act }

pub record CarriedOut (a : Context) (to : ℕ) (o : Option Trap) (m : Accessed) (d : Effect) : Type 0 where
  pub passed : o ≡ None
  pub is : d ≡ done_of a to m

carried : (a : Context) (to : ℕ) (o : Option Trap) (m : Accessed) (d : Effect) → accesses a to (unless o m) ≡ Ok d → CarriedOut a to o m d
carried a to None m d e = record { passed = refl; is = (let same : done_of a to m ≡ d = cc in sym same) }
carried a to (Some w) m d e = absurd (let clash : Err w ≡ Ok d = e in cc)

when_true : {A : Type 0} (P : A → Type 0) (b : Bool) (x y : A) → b ≡ true → P (if b then x else y) → P x
when_true P true x y e h = h
when_true P false x y e h = absurd (let clash : false ≡ true = e in cc)

pub when_false : {A : Type 0} (P : A → Type 0) (b : Bool) (x y : A) → b ≡ false → P (if b then x else y) → P y
when_false P true x y e h = absurd (let clash : true ≡ false = e in cc)
when_false P false x y e h = h

-- an access of the running thread through register n, of the value of register m
pub record Accessing (b : Platform) (s : State) (t n m : ℕ) (a : Access) (at : ℕ) : Type 0 where
  pub f : Fetching b.image s t
  pub wired : Wired b
  pub runs : s.running ≡ Some t
  pub wide : HasWidth a
  pub passed : AllPass (access_checks a (register (thread s t) n) (register (thread s t) m) at)

load_says : (b : Platform) (s : State) (t n m : ℕ) (a : Access) (at : ℕ) → Accessing b s t n m a at → a.loads ≡ true → LoadPasses a (register (thread s t) n) at
load_says b s t n m a at w loads = load_passes a (register (thread s t) n) at
    (when_true AllPass a.loads (load_checks a (register (thread s t) n) at) (store_checks a (register (thread s t) n) at (a.whole && (register (thread s t) m).tag)) loads w.passed)

store_says : (b : Platform) (s : State) (t n m : ℕ) (a : Access) (at : ℕ) → Accessing b s t n m a at → a.loads ≡ false → StorePasses a (register (thread s t) n) at (a.whole && (register (thread s t) m).tag)
store_says b s t n m a at w stores = store_passes a (register (thread s t) n) at (a.whole && (register (thread s t) m).tag)
    (when_false AllPass a.loads (load_checks a (register (thread s t) n) at) (store_checks a (register (thread s t) n) at (a.whole && (register (thread s t) m).tag)) stores w.passed)

aligned_eight : (a : Access) (at : ℕ) → HasWidth a → a.whole ≡ true → at % a.width ≡ 0 → at % 8 ≡ 0
aligned_eight a at wide whole h = let P : ℕ → Type 0 = λ n. at % n ≡ 0 in subst P (wide.eight whole) h

-- the register gets a value and the program counter goes on; RAM is as it was
value_confined : (b : Platform) (s : State) (t to : ℕ) (v : Cap) (devices : DeviceStates) (act : Option Act) → Fetching b.image s t → Puts b.image s t v
    → Confined b.image (put_done s t (done_of (around b s t) to (record { value = Some v; act = act; granules = s.granules; bank = devices })))
value_confined b s t to v devices act f puts =
    jumps_confined b.image s t to (raised (thread s t).pcc 4) (thread s t).posture v (record (clock_of s) { devices = devices.states }) (going.goes_on b.image s t v f puts)

plain_confined : (b : Platform) (s : State) (t to : ℕ) (devices : DeviceStates) (act : Option Act) → Fetching b.image s t
    → Confined b.image (put_done s t (done_of (around b s t) to (record { value = None; act = act; granules = s.granules; bank = devices })))
plain_confined b s t to devices act f =
    jumps_confined b.image s t to (raised (thread s t).pcc 4) (thread s t).posture (plain 0) (record (clock_of s) { devices = devices.states }) (going.goes_on b.image s t (plain 0) f (untagged_puts b.image s t (plain 0) refl))

device_untagged : (x : Cap) (n : ℕ) → (attenuated x (integer n)).tag ≡ false
unfolding attenuated
device_untagged x n = refl

device_puts : (b : Platform) (s : State) (t : ℕ) (a : Access) (x : Cap) (n : ℕ) → Puts b.image s t (device_value a x n)
device_puts b s t a x n = chosen (Puts b.image s t) a.whole (attenuated x (integer n)) (integer (widened a n))
    (λ whole. untagged_puts b.image s t (attenuated x (integer n)) (device_untagged x n))
    (λ part. untagged_puts b.image s t (integer (widened a n)) refl)

ram_puts : (b : Platform) (s : State) (t n m : ℕ) (a : Access) (at : ℕ) → Accessing b s t n m a at → a.loads ≡ true → b.image.ram ≤ at → Puts b.image s t (ram_value a (register (thread s t) n) at b.image.ram s.granules)
ram_puts b s t n m a at w loads inside =
    let x : Cap = register (thread s t) n in
    let says = load_says b s t n m a at w loads in
    let some = w.wide.some in
    let high : at < cap_top (register (thread s t) n) = omega (arith, says.high, some) in
    chosen (Puts b.image s t) a.whole (filtered_in b.image.ram s.granules (attenuated (register (thread s t) n) (loaded_cap s.granules (at - b.image.ram)))) (integer (widened a (loaded s.granules (at - b.image.ram) a.width)))
    (λ whole.
    load_stands b.image s t n at (attenuated (register (thread s t) n) (granule s (granule_of b.image at)).cap) w.f.parts w.f.held w.runs inside says.tagged says.loads says.low high (aligned_eight a at w.wide whole says.aligned)
    (attenuated_derived (register (thread s t) n) (granule s (granule_of b.image at)).cap) (attenuated_carries (register (thread s t) n) (granule s (granule_of b.image at)).cap))
    (λ part. untagged_puts b.image s t (integer (widened a (loaded s.granules (at - b.image.ram) a.width))) refl)

-- a store into RAM, and then the program counter goes on
stored_confined : (b : Platform) (s : State) (t to : ℕ) (gs : List Granule) → Fetching b.image s t → Confined b.image (record s { granules = gs })
    → Confined b.image (put_done s t (done_of (around b s t) to (record { value = None; act = None; granules = gs; bank = bank_of b s })))
stored_confined b s t to gs f held =
    plain_confined b (record s { granules = gs }) t to (bank_of b s) None (record { parts = f.parts; facts = f.facts; held = held; fetched = f.fetched; other = f.other })

store_confined : (b : Platform) (s : State) (t n m to : ℕ) (a : Access) (at : ℕ) → Accessing b s t n m a at → a.loads ≡ false → b.image.ram ≤ at
    → Confined b.image (put_done s t (done_of (around b s t) to (record { value = None; act = None; granules = ram_stored a (register (thread s t) n) (register (thread s t) m) at b.image.ram s.granules; bank = bank_of b s })))
store_confined b s t n m to a at w stores inside =
    let says = store_says b s t n m a at w stores in
    let some = w.wide.some in
    let high : at < cap_top (register (thread s t) n) = omega (arith, says.high, some) in
    let P : List Granule → Type 0 = λ gs. Confined b.image (record s { granules = gs }) in
    stored_confined b s t to (ram_stored a (register (thread s t) n) (register (thread s t) m) at b.image.ram s.granules) w.f
    (chosen P a.whole (cap_stored b.image s at (register (thread s t) n) (register (thread s t) m)).granules (bytes_stored b.image s at a.width (cap_address (register (thread s t) m))).granules
    (λ whole. store_cap_confined b.image s t n m at w.f.parts w.f.held w.runs inside says.tagged says.stores (λ tagged. says.may_carry (let both : (a.whole && (register (thread s t) m).tag) ≡ true = cc in both)) says.low high (aligned_eight a at w.wide whole says.aligned))
    (λ part. store_bytes_confined b.image s t n at a.width (cap_address (register (thread s t) m)) w.f.parts w.f.held inside says.tagged says.stores says.low high))

-- ---- what an access leaves of RAM

-- a value of a register of the running thread is of a live object, with its tag or without
register_unpainted : (b : Platform) (s : State) (t n : ℕ) → Fetching b.image s t → s.running ≡ Some t → HasUnpainted b.image s.objects (register (thread s t) n)
register_unpainted b s t n f runs tagged heap some = live_unpainted b.image s.next s.objects (register (thread s t) n) f.held.fits (f.held.live t runs n tagged heap some)

stored_left : (b : Platform) (s : State) (t n m : ℕ) (a : Access) (at : ℕ) → Accessing b s t n m a at → RamLeft b.image s (ram_stored a (register (thread s t) n) (register (thread s t) m) at b.image.ram s.granules)
stored_left b s t n m a at w =
    let x : Cap = register (thread s t) n in
    let y : Cap = register (thread s t) m in
    chosen (RamLeft b.image s) a.whole (cap_stored b.image s at (register (thread s t) n) (register (thread s t) m)).granules (bytes_stored b.image s at a.width (cap_address (register (thread s t) m))).granules
    (λ whole. set_left b.image s (granule_of b.image at) (stored_through (register (thread s t) n) (register (thread s t) m))
    (through_case (HasUnpainted b.image s.objects) (register (thread s t) n) (register (thread s t) m) (λ tagged. absurd (let clash : false ≡ true = tagged in cc)) (λ local. register_unpainted b s t m w.f w.runs)))
    (λ part. set_left b.image s (granule_of b.image at) (plain (with_part (granule s (granule_of b.image at)).cap.word ((at - b.image.ram) % 8) a.width (cap_address (register (thread s t) m)))) (λ tagged. absurd (let clash : false ≡ true = tagged in cc)))

abbrev LeavesRam : Platform → State → Accessed → Type 0
LeavesRam b s m = RamLeft b.image s m.granules

pub accessed_ram : (b : Platform) (s : State) (t n m : ℕ) (a : Access) (at : ℕ) → Accessing b s t n m a at → LeavesRam b s (accessed a (register (thread s t) n) (register (thread s t) m) at (space_of b s))
accessed_ram b s t n m a at w = by_access (LeavesRam b s) a (register (thread s t) n) (register (thread s t) m) at (space_of b s) (record {
  loads = λ ram loads. ram_same b.image s;
  stores = λ ram stores. stored_left b s t n m a at w;
  reads = λ loads. ram_same b.image s;
  writes = λ stores. ram_same b.image s;
})

-- ---- whole

abbrev Leaves : Platform → State → ℕ → ℕ → Accessed → Type 0
Leaves b s t to m = Confined b.image (put_done s t (done_of (around b s t) to m))

pub accessed_confined : (b : Platform) (s : State) (t n m to : ℕ) (a : Access) (at : ℕ) → Accessing b s t n m a at → Leaves b s t to (accessed a (register (thread s t) n) (register (thread s t) m) at (space_of b s))
accessed_confined b s t n m to a at w = by_access (Leaves b s t to) a (register (thread s t) n) (register (thread s t) m) at (space_of b s) (record {
  loads = λ ram loads. value_confined b s t to (ram_value a (register (thread s t) n) at b.image.ram s.granules) (bank_of b s) None w.f (ram_puts b s t n m a at w loads (ram_begins (space_of b s) at a.width ram));
  stores = λ ram stores. store_confined b s t n m to a at w stores (ram_begins (space_of b s) at a.width ram);
  reads = λ loads. value_confined b s t to (device_value a (register (thread s t) n) (bank_value (bank_of b s) at a.width s.time)) (bank_read (bank_of b s) at a.width) (deed_at (space_of b s) at (acts.Load at a.width (bank_value (bank_of b s) at a.width s.time))) w.f (device_puts b s t a (register (thread s t) n) (bank_value (bank_of b s) at a.width s.time));
  writes = λ stores. plain_confined b s t to (bank_written (bank_of b s) at a.width (stored_value a (register (thread s t) m))) (deed_at (space_of b s) at (acts.Store at a.width (stored_value a (register (thread s t) m)))) w.f;
})

-- ---- what reaches a device is licensed

-- what a capability of a register reaches of a device, it reaches as an import of a device
device_reached : (b : Platform) (s : State) (t n at : ℕ) → Wired b → Confined b.image s → (register (thread s t) n).tag ≡ true
    → (has (register (thread s t) n) load_data ≡ true) ⊎ (has (register (thread s t) n) store_data ≡ true) → cap_base (register (thread s t) n) ≤ at → at < cap_top (register (thread s t) n) → is_some (found b.bases at) ≡ true
    → (root b.image (register (thread s t) n).shadow.root).origin ≡ Listing kinds.Device
device_reached b s t n at wired h tagged may low high reaches =
    let r = in_rooted b.image s.objects t (thread s t).frames (register (thread s t) n) (h.registers t n) tagged in
    elim (bool_tells (heap_cap b.image (register (thread s t) n))) [
      | inl heap ↦
          let range = r.heap heap in
          let none : is_some (found b.bases at) ≡ false = wired.apart at (omega (arith, range.0, low)) (omega (arith, range.1, high)) in
          absurd (let clash : true ≡ false = sym reaches ∙ none in cc)
      | inr other ↦
          let range = r.range other in
          let rights = r.rights other in
          wired.devices (register (thread s t) n).shadow.root at (elim may [ inl loads ↦ inl (rights load_data loads) | inr stores ↦ inr (rights store_data stores) ]) (omega (arith, range.0, low)) (omega (arith, range.1, high)) reaches
    ]

licensed_as : (b : Platform) (s : State) (t entry : ℕ) (act : Act) (f : Frame) (fs : List Frame) → (thread s t).frames ≡ f ∷ fs → Licensed b.image.entries (record { thread = t; actor = f.actor; entry = entry; act = act }) → Licensed b.image.entries (deed s t entry act)
licensed_as b s t entry act f fs frames h =
    let P : List Frame → Type 0 = λ gs. Licensed b.image.entries (record { thread = t; actor = actor_of gs; entry = entry; act = act }) in
    subst P (sym frames) h

abbrev Tells : Platform → State → ℕ → ℕ → Option Act → Type 0
Tells b s t n o = (act : Act) → o ≡ Some act → Licensed b.image.entries (deed s t (register (thread s t) n).shadow.root act)

none_tells : (b : Platform) (s : State) (t n : ℕ) → Tells b s t n None
none_tells b s t n act e = absurd (let clash : None ≡ Some act = e in cc)

some_tells : (b : Platform) (s : State) (t n : ℕ) (act : Act) → Licensed b.image.entries (deed s t (register (thread s t) n).shadow.root act) → Tells b s t n (Some act)
some_tells b s t n act h other e =
    let same : act ≡ other = cc in
    subst (λ (a : Act). Licensed b.image.entries (deed s t (register (thread s t) n).shadow.root a)) same h

load_told : (b : Platform) (s : State) (t n m : ℕ) (a : Access) (at value : ℕ) → Accessing b s t n m a at → a.loads ≡ true → Tells b s t n (deed_at (space_of b s) at (acts.Load at a.width value))
load_told b s t n m a at value w loads =
    let says = load_says b s t n m a at w loads in
    let some = w.wide.some in
    let high : at < cap_top (register (thread s t) n) = omega (arith, says.high, some) in
    let head = headed b.image s.objects t (thread s t).frames (register (thread s t) n) (w.f.held.registers t n) says.tagged in
    chosen (Tells b s t n) (is_some (found b.bases at)) (Some (acts.Load at a.width value)) None
    (λ reaches. some_tells b s t n (acts.Load at a.width value)
    (licensed_as b s t (register (thread s t) n).shadow.root (acts.Load at a.width value) head.0 head.1.0 head.1.1
    (load_licensed b.image s t n at a.width value head.0 head.1.0 w.f.held head.1.1 says.tagged (device_reached b s t n at w.wired w.f.held says.tagged (inl says.loads) says.low high reaches) says.loads says.low says.high)))
    (λ none. none_tells b s t n)

store_told : (b : Platform) (s : State) (t n m : ℕ) (a : Access) (at value : ℕ) → Accessing b s t n m a at → a.loads ≡ false → Tells b s t n (deed_at (space_of b s) at (acts.Store at a.width value))
store_told b s t n m a at value w stores =
    let says = store_says b s t n m a at w stores in
    let some = w.wide.some in
    let high : at < cap_top (register (thread s t) n) = omega (arith, says.high, some) in
    let head = headed b.image s.objects t (thread s t).frames (register (thread s t) n) (w.f.held.registers t n) says.tagged in
    chosen (Tells b s t n) (is_some (found b.bases at)) (Some (acts.Store at a.width value)) None
    (λ reaches. some_tells b s t n (acts.Store at a.width value)
    (licensed_as b s t (register (thread s t) n).shadow.root (acts.Store at a.width value) head.0 head.1.0 head.1.1
    (store_licensed b.image s t n at a.width value head.0 head.1.0 w.f.held head.1.1 says.tagged (device_reached b s t n at w.wired w.f.held says.tagged (inr says.stores) says.low high reaches) says.stores says.low says.high)))
    (λ none. none_tells b s t n)

pub accessed_licensed : (b : Platform) (s : State) (t n m : ℕ) (a : Access) (at : ℕ) → Accessing b s t n m a at → Tells b s t n (accessed a (register (thread s t) n) (register (thread s t) m) at (space_of b s)).act
accessed_licensed b s t n m a at w = by_access (λ r. Tells b s t n r.act) a (register (thread s t) n) (register (thread s t) m) at (space_of b s) (record {
  loads = λ ram loads. none_tells b s t n;
  stores = λ ram stores. none_tells b s t n;
  reads = λ loads. load_told b s t n m a at (bank_value (bank_of b s) at a.width s.time) w loads;
  writes = λ stores. store_told b s t n m a at (stored_value a (register (thread s t) m)) w stores;
})

-- ---- the instruction

-- of a load or a store that is carried out
pub record AccessLaws (b : Platform) (s : State) (t : ℕ) (k : Instr) : Type 0 where
  pub confined : (d : Effect) → carried_out class.Access k (operands_of k).to (operand s t (operands_of k).first) (operand s t (operands_of k).second) (named_by b.image (operand s t (operands_of k).first)) (around b s t) ≡ Ok d → Confined b.image (put_done s t d)
  pub ram : (d : Effect) → carried_out class.Access k (operands_of k).to (operand s t (operands_of k).first) (operand s t (operands_of k).second) (named_by b.image (operand s t (operands_of k).first)) (around b s t) ≡ Ok d → RamLeft b.image s d.granules
  pub licensed : (d : Effect) (a : Act) → carried_out class.Access k (operands_of k).to (operand s t (operands_of k).first) (operand s t (operands_of k).second) (named_by b.image (operand s t (operands_of k).first)) (around b s t) ≡ Ok d → d.act ≡ Some a
      → Licensed b.image.entries (deed s t (operand s t (operands_of k).first).shadow.root a)

pub access_laws : (b : Platform) (s : State) (t : ℕ) (k : Instr) → Wired b → Fetching b.image s t → s.running ≡ Some t → AccessLaws b s t k
unfolding access_result
access_laws b s t k wired f runs =
    let accessing : None ≡ first_failed (access_checks (access_of k) (operand s t (operands_of k).first) (operand s t (operands_of k).second) (access_address (access_of k) (operand s t (operands_of k).first)))
    → Accessing b s t (operands_of k).first (operands_of k).second (access_of k) (access_address (access_of k) (operand s t (operands_of k).first)) =
    λ none. record { f = f; wired = wired; runs = runs; wide = width_of k; passed = all_pass _ (sym none) } in
    record {
      confined = λ d e. let c = done d e in subst (λ (z : Effect). Confined b.image (put_done s t z)) (sym c.is)
          (accessed_confined b s t (operands_of k).first (operands_of k).second (operands_of k).to (access_of k) (access_address (access_of k) (operand s t (operands_of k).first)) (accessing (sym c.passed)));
      ram = λ d e. let c = done d e in subst (λ (z : Effect). RamLeft b.image s z.granules) (sym c.is)
          (accessed_ram b s t (operands_of k).first (operands_of k).second (access_of k) (access_address (access_of k) (operand s t (operands_of k).first)) (accessing (sym c.passed)));
      licensed = λ d act e is. let c = done d e in
          accessed_licensed b s t (operands_of k).first (operands_of k).second (access_of k) (access_address (access_of k) (operand s t (operands_of k).first)) (accessing (sym c.passed)) act (sym (ap (λ (z : Effect). z.act) c.is) ∙ is);
    }
  where
    done : (d : Effect) → carried_out class.Access k (operands_of k).to (operand s t (operands_of k).first) (operand s t (operands_of k).second) (named_by b.image (operand s t (operands_of k).first)) (around b s t) ≡ Ok d
        → CarriedOut (around b s t) (operands_of k).to (first_failed (access_checks (access_of k) (operand s t (operands_of k).first) (operand s t (operands_of k).second) (access_address (access_of k) (operand s t (operands_of k).first))))
        (accessed (access_of k) (operand s t (operands_of k).first) (operand s t (operands_of k).second) (access_address (access_of k) (operand s t (operands_of k).first)) (space_of b s)) d
    done d e = carried (around b s t) (operands_of k).to (first_failed (access_checks (access_of k) (operand s t (operands_of k).first) (operand s t (operands_of k).second) (access_address (access_of k) (operand s t (operands_of k).first))))
        (accessed (access_of k) (operand s t (operands_of k).first) (operand s t (operands_of k).second) (access_address (access_of k) (operand s t (operands_of k).first)) (space_of b s)) d e
