-- An access that reaches a device is told.
use Rattle.std.proofs.Common.{ℕ, ◌≡◌, true, false, Bool, Option, Some, None, Result, Ok, refl, ap, ◌∙◌, option_map, if◌then◌else◌}
use Rattle.std.specs.Prelude.{is_some}
use Rattle.ct_entry.specs.declared.acts.Act.{Act}
use Rattle.ct_entry.specs.declared.acts.Act.TheVariants as acts
use Rattle.ct_entry.specs.declared.acts.Deed.{Deed}
use Rattle.def_words.specs.declared.Trap.{Trap}
use Rattle.def_instr.specs.declared.Instr.{Instr}
use Rattle.def_machine.specs.Platform.{Platform}
use Rattle.def_machine.specs.State.{State}
use Rattle.def_step.specs.declared.Class.{Class}
use Rattle.def_step.specs.Accesses.{Accessed, access_of, access_result, accessed, in_ram, on_device, stored_value, unless}
use Rattle.def_step.specs.Devices.{bank_value, found}
use Rattle.def_step.specs.Events.{continued}
use Rattle.def_step.specs.Instructions.{Effect, after_fetch, accesses, around, bank_of, carried_out, deed, executed, goes_on, instruction_end, named_by, space_of}
use Rattle.def_step.specs.Operands.{operands_of, class_of}
use Rattle.def_safety.specs.Each.{ready}
use Rattle.def_safety.specs.Used.{authority_of, value_of, access_start}
use Rattle.def_truly.specs.DeviceAccesses.{ReachesDevice, AccessesTold, access_deed}

module _ (b : Platform) (s : State) (t : ℕ) (k : Instr) (n : ℕ) (r : ReachesDevice b s t k n) where
  abbrev ends : Result Effect Trap → State × Option Deed
  ends e = instruction_end b s t (authority_of s t k) e

  abbrev leads : Result Accessed Trap → Result Effect Trap
  leads m = accesses (around b s t) (operands_of k).to m

  past_fetch : executed b s t ≡ ends (carried_out (class_of k) k (operands_of k).to (authority_of s t k) (value_of s t k) (named_by b.image (authority_of s t k)) (around b s t))
  unfolding executed
  past_fetch = ap (after_fetch b s t) r.fetched ∙ ap (goes_on b s t) r.stands

  past_checks : access_result k (authority_of s t k) (value_of s t k) (space_of b s) ≡ Ok (accessed (access_of k) (authority_of s t k) (value_of s t k) (access_start s t k) (space_of b s))
  unfolding access_result
  past_checks = ap (λ (o : Option Trap). unless o (accessed (access_of k) (authority_of s t k) (value_of s t k) (access_start s t k) (space_of b s))) r.passes

  past_ram : accessed (access_of k) (authority_of s t k) (value_of s t k) (access_start s t k) (space_of b s) ≡ on_device (access_of k) (authority_of s t k) (value_of s t k) (access_start s t k) (space_of b s)
  past_ram = ap (λ (o : Bool). if o then in_ram (access_of k) (authority_of s t k) (value_of s t k) (access_start s t k) (space_of b s) else on_device (access_of k) (authority_of s t k) (value_of s t k) (access_start s t k) (space_of b s)) r.outside

  whole : executed b s t ≡ ends (leads (Ok (on_device (access_of k) (authority_of s t k) (value_of s t k) (access_start s t k) (space_of b s))))
  whole =
      past_fetch
      ∙ ap (λ (c : Class). ends (carried_out c k (operands_of k).to (authority_of s t k) (value_of s t k) (named_by b.image (authority_of s t k)) (around b s t))) r.accesses
      ∙ ap (λ m. ends (leads m)) past_checks
      ∙ ap (λ m. ends (leads (Ok m))) past_ram

  told_at : (act : Act) → option_map (deed s t (authority_of s t k).shadow.root) (if is_some (found b.bases (access_start s t k)) then Some act else None) ≡ Some (deed s t (authority_of s t k).shadow.root act)
  told_at act = ap (λ (o : Option ℕ). option_map (deed s t (authority_of s t k).shadow.root) (if is_some o then Some act else None)) r.here

  by_kind : (loads : Bool) → (access_of k).loads ≡ loads → (value : ℕ) × ((executed b s t).1 ≡ Some (access_deed s t k value))
  by_kind true is =
      let value : ℕ = bank_value (bank_of b s) (access_start s t k) (access_of k).width s.time in
      (value, ap (λ (x : State × Option Deed). x.1) whole ∙ (rw is (told_at (acts.Load (access_start s t k) (access_of k).width value))))
  by_kind false is =
      let value : ℕ = stored_value (access_of k) (value_of s t k) in
      (value, ap (λ (x : State × Option Deed). x.1) whole ∙ (rw is (told_at (acts.Store (access_start s t k) (access_of k).width value))))

continued_reached : (b : Platform) (z : State) (t : ℕ) (k : Instr) (n : ℕ) → ReachesDevice b z t k n → (value : ℕ) × ((continued b z z.running).1 ≡ Some (access_deed z t k value))
continued_reached b z t k n r =
    let there = by_kind b z t k n r (access_of k).loads refl in
    (there.0, ap (λ (o : Option ℕ). (continued b z o).1) r.runs ∙ there.1)

pub accesses_told : (b : Platform) (s : State) → AccessesTold b s
accesses_told b s t k n r = continued_reached b (ready b s) t k n r
