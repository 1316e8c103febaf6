-- An instruction leaves two states that its thread's view agrees on so that it agrees again, and tells the same.
use Rattle.std.proofs.Common.{ℕ, ◌≡◌, ◌+◌, ◌-◌, ◌/◌, ◌%◌, ◌<◌, inl, inr, true, false, List, ◌∷◌, length, Option, Some, None, Result, Ok, Err, refl, sym, ap, ◌∙◌, subst, arith, slice_set, slice_index_or, option_map}
use Rattle.std.specs.Prelude.{unwrap_or}
use Rattle.std.proofs.lemmas.List.{length-set}
use Rattle.law_lists.proofs.Tests.{chosen, lt_tells}
use Rattle.ct_entry.specs.declared.acts.Act.{Act}
use Rattle.ct_entry.specs.declared.acts.Act.TheVariants as acts
use Rattle.def_instr.specs.declared.Instr.{Instr}
use Rattle.def_words.specs.declared.Cap.{Cap}
use Rattle.def_words.specs.declared.Posture.{Posture}
use Rattle.def_words.specs.declared.Trap.{Trap}
use Rattle.def_words.specs.Authority.{cap_address}
use Rattle.def_words.specs.Loaded.{stored_through}
use Rattle.def_memory.specs.declared.Granule.{Granule}
use Rattle.def_memory.specs.Granules.{plain, granule_at}
use Rattle.def_memory.specs.Accesses.{byte_of, with_part}
use Rattle.law_granules.proofs.Bytes.{put_byte_below, put_byte_above, put_byte_inside}
use Rattle.def_machine.specs.Platform.{Platform}
use Rattle.def_machine.specs.Image.{Image}
use Rattle.def_machine.specs.State.{State, Frame, thread}
use Rattle.def_machine.specs.Registers.{written}
use Rattle.def_machine.specs.Threads.{jumped}
use Rattle.def_step.specs.declared.Access.{Access}
use Rattle.def_step.specs.declared.Class.{Class}
use Rattle.def_step.specs.declared.Class.TheVariants as class
use Rattle.def_step.specs.Checks.{first_failed}
use Rattle.def_step.specs.Jumps.{Flowed}
use Rattle.def_step.specs.Operands.{operands_of, class_of}
use Rattle.def_step.specs.Accesses.{MemoryAndDevices, Accessed, access_of, access_checks, access_result, unless, accessed, in_ram, on_device, is_ram, ram_stored, ram_value, device_value, stored_value, deed_at}
use Rattle.def_step.specs.Devices.{device, found, registers_base, bank_value, bank_read, bank_read_at, bank_written, bank_written_at, left_by_read, left_by_write}
use Rattle.def_step.specs.Instructions.{Effect, Context, accesses, around, bank_of, carried_out, deed, flows, gives, instruction_end, named_by, operand, put_done, space_of}
use Rattle.def_confined.specs.Confined.{Confined}
use Rattle.def_confined.specs.Partitioned.{Partitioned}
use Rattle.def_safety.specs.Used.{authority_of, value_of, access_start, AccessPasses}
use Rattle.def_safety.specs.Wired.{Wired}
use Rattle.def_secrecy.specs.View.{InView, SeesDevice}
use Rattle.def_secrecy.specs.Agreeing.{SameMemory, Agree}
use Rattle.law_moves.proofs.Authorities.{headed}
use Rattle.law_events.proofs.Cleans.{framed_there}
use Rattle.law_secrecy.proofs.Puts.{put_agree, public_with, same_status, same_actor_of}
use Rattle.law_secrecy.proofs.Two.{two_choices, set_two, set_devices}
use Rattle.law_secrecy.proofs.Views.{load_in, same_ram, same_device, same_load}

-- what an instruction of a thread comes to
abbrev pub carried_by : Platform → State → ℕ → Instr → Result Effect Trap
carried_by b s t k =
    carried_out (class_of k) k (operands_of k).to (operand s t (operands_of k).first)
    (operand s t (operands_of k).second)
    (named_by b.image (operand s t (operands_of k).first)) (around b s t)

-- ---- bytes of a word that a store changes

-- of two words the same part is put: the same bytes are the same
same_put : (v w p n value m : ℕ) → byte_of v m ≡ byte_of w m → byte_of (with_part v p n value) m ≡ byte_of (with_part w p n value) m
same_put v w p n value m same = elim (lt_tells m p) [
  | inl low ↦ put_byte_below v p n value m low.1 ∙ same ∙ sym (put_byte_below w p n value m low.1)
  | inr from ↦ elim (lt_tells m (p + n)) [
    | inl inside ↦
        let at_least = from.1 in
        let less = inside.1 in
        let here : p + (m - p) ≡ m = omega (arith, at_least) in
        let lt : m - p < n = omega (arith, at_least, less) in
        subst (λ j. byte_of (with_part v p n value) j ≡ byte_of (with_part w p n value) j) here (put_byte_inside v p n value (m - p) lt ∙ sym (put_byte_inside w p n value (m - p) lt))
    | inr past ↦ put_byte_above v p n value m past.1 ∙ same ∙ sym (put_byte_above w p n value m past.1)
  ]
]

-- ---- a store

-- what a store of bytes makes of a granule
abbrev put_in : ℕ → ℕ → ℕ → Granule → Granule
put_in from width value g = record { cap = plain (with_part g.cap.word from width value); mark = g.mark }

abbrev kept_in : Cap → Granule → Granule
kept_in c g = record { cap = c; mark = g.mark }

module _ (i : Image) (sees : ℕ → Type 0) (gs hs : List Granule) (same : SameMemory i sees gs hs) where
  pub set_same : (k : ℕ) (g h : Granule) → ((m : ℕ) → byte_of (granule_at gs k).cap.word m ≡ byte_of (granule_at hs k).cap.word m → byte_of g.cap.word m ≡ byte_of h.cap.word m)
      → ((granule_at gs k).cap ≡ (granule_at hs k).cap → g.cap ≡ h.cap) → SameMemory i sees (slice_set gs k g) (slice_set hs k h)
  set_same k g h bytes caps = record {
    size = length-set gs k g ∙ same.size ∙ sym (length-set hs k h);
    bytes = λ n above seen. set_two (λ (p q : Granule). byte_of p.cap.word ((n - i.ram) % 8) ≡ byte_of q.cap.word ((n - i.ram) % 8)) gs hs k ((n - i.ram) / 8) g h same.size refl
        (λ here. bytes ((n - i.ram) % 8) (subst (λ j. byte_of (granule_at gs j).cap.word ((n - i.ram) % 8) ≡ byte_of (granule_at hs j).cap.word ((n - i.ram) % 8)) (sym here) (same.bytes n above seen)))
        (same.bytes n above seen);
    whole = λ n seen. set_two (λ (p q : Granule). p.cap ≡ q.cap) gs hs k n g h same.size refl
        (λ here. caps (subst (λ j. (granule_at gs j).cap ≡ (granule_at hs j).cap) (sym here) (same.whole n seen)))
        (same.whole n seen);
  }

  same_stored : (a : Access) (x y : Cap) (at : ℕ) → SameMemory i sees (ram_stored a x y at i.ram gs) (ram_stored a x y at i.ram hs)
  same_stored a x y at =
      let k : ℕ = (at - i.ram) / 8 in
      let from : ℕ = (at - i.ram) % 8 in
      let c : Cap = stored_through x y in
      chosen (λ (l : List Granule). SameMemory i sees l (ram_stored a x y at i.ram hs)) a.whole (slice_set gs k (kept_in c (granule_at gs k))) (slice_set gs k (put_in from a.width (cap_address y) (granule_at gs k)))
      (λ whole. chosen (λ (l : List Granule). SameMemory i sees (slice_set gs k (kept_in c (granule_at gs k))) l) a.whole (slice_set hs k (kept_in c (granule_at hs k))) (slice_set hs k (put_in from a.width (cap_address y) (granule_at hs k)))
      (λ is. set_same k (kept_in c (granule_at gs k)) (kept_in c (granule_at hs k)) (λ m e. refl) (λ e. refl))
      (λ not. absurd (let clash : true ≡ false = sym whole ∙ not in cc)))
      (λ part. chosen (λ (l : List Granule). SameMemory i sees (slice_set gs k (put_in from a.width (cap_address y) (granule_at gs k))) l) a.whole (slice_set hs k (kept_in c (granule_at hs k))) (slice_set hs k (put_in from a.width (cap_address y) (granule_at hs k)))
      (λ is. absurd (let clash : true ≡ false = sym is ∙ part in cc))
      (λ not. set_same k (put_in from a.width (cap_address y) (granule_at gs k)) (put_in from a.width (cap_address y) (granule_at hs k))
      (λ m e. same_put (granule_at gs k).cap.word (granule_at hs k).cap.word from a.width (cap_address y) m e)
      (λ e. ap (λ (z : Cap). plain (with_part z.word from a.width (cap_address y))) e)))

-- ---- two effects

pub record SameDone (b : Platform) (s : State) (t : ℕ) (d e : Effect) : Type 0 where
  pub to : d.to ≡ e.to
  pub value : d.value ≡ e.value
  pub pcc : d.pcc ≡ e.pcc
  pub posture : d.posture ≡ e.posture
  pub act : d.act ≡ e.act
  pub memory : SameMemory b.image (InView b.image s t) d.granules e.granules
  pub devices : (m : ℕ) → SeesDevice b (thread s t).frames m → device d.bank.states m ≡ device e.bank.states m
  pub banks : length d.bank.states ≡ length e.bank.states

abbrev pub SameResult : Platform → State → ℕ → Result Effect Trap → Result Effect Trap → Type 0
SameResult b s t (Ok d) (Ok e) = SameDone b s t d e
SameResult b s t (Err w) (Err v) = w ≡ v
SameResult b s t (Ok d) (Err v) = ⊥
SameResult b s t (Err w) (Ok e) = ⊥

-- what an access gives and leaves, in both
record SameAccessed (b : Platform) (s : State) (t : ℕ) (m n : Accessed) : Type 0 where
  value : m.value ≡ n.value
  act : m.act ≡ n.act
  memory : SameMemory b.image (InView b.image s t) m.granules n.granules
  devices : (k : ℕ) → SeesDevice b (thread s t).frames k → device m.bank.states k ≡ device n.bank.states k
  banks : length m.bank.states ≡ length n.bank.states

-- by cases, of two memories of which both have an address in RAM or neither
record TwoAccesses (P : Accessed → Accessed → Type 0) (a : Access) (x y : Cap) (at : ℕ) (p q : MemoryAndDevices) : Type 0 where
  loads : is_ram p at a.width ≡ true → a.loads ≡ true → P (record { value = Some (ram_value a x at p.ram p.granules); act = None; granules = p.granules; bank = p.bank }) (record { value = Some (ram_value a x at q.ram q.granules); act = None; granules = q.granules; bank = q.bank })
  stores : is_ram p at a.width ≡ true → a.loads ≡ false → P (record { value = None; act = None; granules = ram_stored a x y at p.ram p.granules; bank = p.bank }) (record { value = None; act = None; granules = ram_stored a x y at q.ram q.granules; bank = q.bank })
  reads : is_ram p at a.width ≡ false → a.loads ≡ true → P (record {
    value = Some (device_value a x (bank_value p.bank at a.width p.time));
    act = deed_at p at (acts.Load at a.width (bank_value p.bank at a.width p.time));
    granules = p.granules;
    bank = bank_read p.bank at a.width;
  }) (record {
    value = Some (device_value a x (bank_value q.bank at a.width q.time));
    act = deed_at q at (acts.Load at a.width (bank_value q.bank at a.width q.time));
    granules = q.granules;
    bank = bank_read q.bank at a.width;
  })
  writes : is_ram p at a.width ≡ false → a.loads ≡ false → P (record {
    value = None;
    act = deed_at p at (acts.Store at a.width (stored_value a y));
    granules = p.granules;
    bank = bank_written p.bank at a.width (stored_value a y);
  }) (record {
    value = None;
    act = deed_at q at (acts.Store at a.width (stored_value a y));
    granules = q.granules;
    bank = bank_written q.bank at a.width (stored_value a y);
  })

by_two : (P : Accessed → Accessed → Type 0) (a : Access) (x y : Cap) (at : ℕ) (p q : MemoryAndDevices) → is_ram p at a.width ≡ is_ram q at a.width → TwoAccesses P a x y at p q → P (accessed a x y at p) (accessed a x y at q)
by_two P a x y at p q same h =
    two_choices P (is_ram p at a.width) (is_ram q at a.width) (in_ram a x y at p) (on_device a x y at p) (in_ram a x y at q) (on_device a x y at q) same
    (λ ram. two_choices P a.loads a.loads _ _ _ _ refl (λ loads. h.loads ram loads) (λ stores. h.stores ram stores))
    (λ away. two_choices P a.loads a.loads _ _ _ _ refl (λ loads. h.reads away loads) (λ stores. h.writes away stores))

-- ---- an instruction

module _ (b : Platform) (s z : State) (t : ℕ) (parts : Partitioned b.image) (wired : Wired b) (one : Confined b.image s) (two : Confined b.image z) (runs : s.running ≡ Some t) (agree : Agree b t s z) (tagged : (thread s t).pcc.tag ≡ true) where
  -- what an instruction of the other state works on, with the program counter and the posture of this one
  abbrev other : Context
  other = record { pcc = (thread s t).pcc; posture = (thread s t).posture; space = space_of b z }

  gives_same : (to : ℕ) (value : Cap) → SameResult b s t (Ok (gives (around b s t) to value)) (Ok (gives other to value))
  gives_same to value = record { to = refl; value = refl; pcc = refl; posture = refl; act = refl; memory = agree.memory; devices = agree.devices; banks = agree.banks }

  flows_same : (to : ℕ) (r : Result Flowed Trap) → SameResult b s t (flows (around b s t) to r) (flows other to r)
  flows_same to (Err w) = refl
  flows_same to (Ok f) = record { to = refl; value = refl; pcc = refl; posture = refl; act = refl; memory = agree.memory; devices = agree.devices; banks = agree.banks }

  accesses_same : (to : ℕ) (m n : Accessed) → SameAccessed b s t m n → SameResult b s t (accesses (around b s t) to (Ok m)) (accesses other to (Ok n))
  accesses_same to m n h = record { to = refl; value = ap (λ o. unwrap_or o (plain 0)) h.value; pcc = refl; posture = refl; act = h.act; memory = h.memory; devices = h.devices; banks = h.banks }

  -- a device that an access sets
  read_same : (at width : ℕ) (o : Option ℕ) → (k : ℕ) → SeesDevice b (thread s t).frames k → device (bank_read_at (bank_of b s) o at width).states k ≡ device (bank_read_at (bank_of b z) o at width).states k
  read_same at width None k seen = agree.devices k seen
  read_same at width (Some m) k seen = set_devices s.devices z.devices m k _ _ agree.banks
      (λ here. ap (λ d. left_by_read d (at - registers_base b.bases m) width) (agree.devices m (subst (λ n. SeesDevice b (thread s t).frames n) (sym here) seen)))
      (agree.devices k seen)

  written_same : (at width value : ℕ) (o : Option ℕ) → (k : ℕ) → SeesDevice b (thread s t).frames k → device (bank_written_at (bank_of b s) o at width value).states k ≡ device (bank_written_at (bank_of b z) o at width value).states k
  written_same at width value None k seen = agree.devices k seen
  written_same at width value (Some m) k seen = set_devices s.devices z.devices m k _ _ agree.banks
      (λ here. ap (λ d. left_by_write d (at - registers_base b.bases m) width value) (agree.devices m (subst (λ n. SeesDevice b (thread s t).frames n) (sym here) seen)))
      (agree.devices k seen)

  read_length : (at width : ℕ) (o : Option ℕ) → length (bank_read_at (bank_of b s) o at width).states ≡ length (bank_read_at (bank_of b z) o at width).states
  read_length at width None = agree.banks
  read_length at width (Some m) = length-set s.devices m _ ∙ agree.banks ∙ sym (length-set z.devices m _)

  written_length : (at width value : ℕ) (o : Option ℕ) → length (bank_written_at (bank_of b s) o at width value).states ≡ length (bank_written_at (bank_of b z) o at width value).states
  written_length at width value None = agree.banks
  written_length at width value (Some m) = length-set s.devices m _ ∙ agree.banks ∙ sym (length-set z.devices m _)

  in_ram_value : (k : Instr) → AccessPasses s t k → is_ram (space_of b s) (access_start s t k) (access_of k).width ≡ true → (access_of k).loads ≡ true
      → Some (ram_value (access_of k) (authority_of s t k) (access_start s t k) b.image.ram s.granules) ≡ Some (ram_value (access_of k) (authority_of s t k) (access_start s t k) b.image.ram z.granules)
  in_ram_value k passes ram loads =
      sym (load_in (access_of k) (authority_of s t k) (value_of s t k) (access_start s t k) (space_of b s) ram loads)
      ∙ same_load b s z t parts wired one two runs agree k passes loads
      ∙ load_in (access_of k) (authority_of s t k) (value_of s t k) (access_start s t k) (space_of b z) (sym (same_ram b s z t parts wired one two runs agree (access_start s t k) (access_of k).width) ∙ ram) loads

  accessed_same : (k : Instr) → AccessPasses s t k → SameAccessed b s t (accessed (access_of k) (authority_of s t k) (value_of s t k) (access_start s t k) (space_of b s)) (accessed (access_of k) (authority_of s t k) (value_of s t k) (access_start s t k) (space_of b z))
  accessed_same k passes =
      by_two (SameAccessed b s t) (access_of k) (authority_of s t k) (value_of s t k) (access_start s t k) (space_of b s) (space_of b z) (same_ram b s z t parts wired one two runs agree (access_start s t k) (access_of k).width) (record {
        loads = λ ram loads. record { value = in_ram_value k passes ram loads; act = refl; memory = agree.memory; devices = agree.devices; banks = agree.banks };
        stores = λ ram stores. record { value = refl; act = refl; memory = same_stored b.image (InView b.image s t) s.granules z.granules agree.memory (access_of k) (authority_of s t k) (value_of s t k) (access_start s t k); devices = agree.devices; banks = agree.banks };
        reads = λ away loads.
            let value = same_device b s z t parts wired one two runs agree k passes loads in
            record {
              value = ap (λ v. Some (device_value (access_of k) (authority_of s t k) v)) value;
              act = ap (λ v. deed_at (space_of b s) (access_start s t k) (acts.Load (access_start s t k) (access_of k).width v)) value;
              memory = agree.memory;
              devices = read_same (access_start s t k) (access_of k).width (found b.bases (access_start s t k));
              banks = read_length (access_start s t k) (access_of k).width (found b.bases (access_start s t k));
            };
        writes = λ away stores. record {
          value = refl;
          act = refl;
          memory = agree.memory;
          devices = written_same (access_start s t k) (access_of k).width (stored_value (access_of k) (value_of s t k)) (found b.bases (access_start s t k));
          banks = written_length (access_start s t k) (access_of k).width (stored_value (access_of k) (value_of s t k)) (found b.bases (access_start s t k));
        };
      })

  access_same : (k : Instr) → SameResult b s t (accesses (around b s t) (operands_of k).to (access_result k (authority_of s t k) (value_of s t k) (space_of b s))) (accesses other (operands_of k).to (access_result k (authority_of s t k) (value_of s t k) (space_of b z)))
  unfolding access_result
  access_same k = by (first_failed (access_checks (access_of k) (authority_of s t k) (value_of s t k) (access_start s t k))) refl
    where
      by : (o : Option Trap) → first_failed (access_checks (access_of k) (authority_of s t k) (value_of s t k) (access_start s t k)) ≡ o
          → SameResult b s t (accesses (around b s t) (operands_of k).to (unless o (accessed (access_of k) (authority_of s t k) (value_of s t k) (access_start s t k) (space_of b s))))
          (accesses other (operands_of k).to (unless o (accessed (access_of k) (authority_of s t k) (value_of s t k) (access_start s t k) (space_of b z))))
      by (Some w) e = refl
      by None e = accesses_same (operands_of k).to _ _ (accessed_same k e)

  class_same : (c : Class) (k : Instr) → class_of k ≡ c
      → SameResult b s t (carried_out c k (operands_of k).to (authority_of s t k) (value_of s t k) (named_by b.image (authority_of s t k)) (around b s t)) (carried_out c k (operands_of k).to (authority_of s t k) (value_of s t k) (named_by b.image (authority_of s t k)) other)
  class_same class.Integer k e = gives_same (operands_of k).to _
  class_same class.Capability k e = gives_same (operands_of k).to _
  class_same class.System k e = refl
  class_same class.Jump k e = flows_same (operands_of k).to _
  class_same class.Access k e = access_same k
  class_same class.Fence k e = gives_same 0 _
  class_same class.Call k e = refl
  class_same class.Break k e = refl

  -- the same of the other state's own operands, program counter and posture
  pub carried_same : (k : Instr) → SameResult b s t (carried_by b s t k) (carried_by b z t k)
  carried_same k =
      let P : Cap → Posture → List Cap → Type 0 = λ p o rs. SameResult b s t (carried_by b s t k)
      (carried_out (class_of k) k (operands_of k).to (slice_index_or rs (operands_of k).first (plain 0)) (slice_index_or rs (operands_of k).second (plain 0)) (named_by b.image (slice_index_or rs (operands_of k).first (plain 0))) (record { pcc = p; posture = o; space = space_of b z })) in
      subst (λ p. P p (thread z t).posture (thread z t).registers) agree.self.pcc
      (subst (λ o. P (thread s t).pcc o (thread z t).registers) agree.self.posture
      (subst (λ rs. P (thread s t).pcc (thread s t).posture rs) agree.self.registers (class_same (class_of k) k refl)))

  -- ---- the states that are left

  framed : (f : Frame) × ((fs : List Frame) × ((thread s t).frames ≡ f ∷ fs))
  framed = headed b.image s.objects t (thread s t).frames (thread s t).pcc (one.pcc t) tagged

  framed_too : (f : Frame) × ((fs : List Frame) × ((thread z t).frames ≡ f ∷ fs))
  framed_too = headed b.image z.objects t (thread z t).frames (thread z t).pcc (two.pcc t) (subst (λ (c : Cap). c.tag ≡ true) agree.self.pcc tagged)

  pub left_agree : (d e : Effect) → SameDone b s t d e → Agree b t (put_done s t d) (put_done z t e)
  left_agree d e h =
      put_agree b t (record s { granules = d.granules; devices = d.bank.states }) (record z { granules = e.granules; devices = e.bank.states })
      (jumped (thread s t) d.pcc d.posture d.to d.value) (jumped (thread z t) e.pcc e.posture e.to e.value)
      (framed_there s t framed.0 framed.1.0 framed.1.1) (framed_there z t framed_too.0 framed_too.1.0 framed_too.1.1)
      (public_with s z d.granules e.granules d.bank.states e.bank.states agree.public) runs (same_status s z t agree.public)
      (record {
        pcc = h.pcc;
        registers = ap (λ rs. written rs d.to d.value) agree.self.registers ∙ ap (λ n. written (thread z t).registers n d.value) h.to ∙ ap (λ v. written (thread z t).registers e.to v) h.value;
        posture = h.posture;
        frames = agree.self.frames;
      })
      h.memory h.devices h.banks

  -- the actor is the same, and so is a deed
  pub same_deed : (n : ℕ) (act : Act) → deed s t n act ≡ deed z t n act
  same_deed n act = ap (λ a. record { thread = t; actor = a; entry = n; act = act }) (same_actor_of b s z t agree)

  acts_same : (n : ℕ) (o : Option Act) → option_map (deed s t n) o ≡ option_map (deed z t n) o
  acts_same n None = refl
  acts_same n (Some a) = ap (λ d. Some d) (same_deed n a)

  pub told_same : (x y : Cap) (r v : Result Effect Trap) → x ≡ y → SameResult b s t r v → (instruction_end b s t x r).1 ≡ (instruction_end b z t y v).1
  told_same x y (Err w) (Err v) e h = ap (λ d. Some d) (same_deed 0 (acts.Trap w.cause w.code w.register)) ∙ ap (λ (u : Trap). Some (deed z t 0 (acts.Trap u.cause u.code u.register))) h
  told_same x y (Ok d) (Ok v) e h = acts_same x.shadow.root d.act ∙ ap (λ o. option_map (deed z t x.shadow.root) o) h.act ∙ ap (λ (c : Cap). option_map (deed z t c.shadow.root) v.act) e
  told_same x y (Ok d) (Err v) e h = absurd h
  told_same x y (Err w) (Ok v) e h = absurd h
