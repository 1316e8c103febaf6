-- A store of the running thread meets nothing that is hidden.
use Rattle.std.proofs.Common.{ℕ, ◌≡◌, ◌-◌, ◌%◌, ◌≤◌, ◌<◌, ◌&&◌, true, false, inr, List, Option, Some, None, Result, Ok, Err, refl, sym, ap, ◌∙◌, arith, slice_set}
use Rattle.law_lists.proofs.Tests.{chosen}
use Rattle.law_lists.proofs.Sets.{after_set_split}
use Rattle.def_words.specs.declared.Trap.{Trap}
use Rattle.def_words.specs.Authority.{cap_address, cap_base, cap_top}
use Rattle.def_words.specs.Loaded.{stored_through}
use Rattle.def_words.specs.Permissions.{has, store_data}
use Rattle.def_memory.specs.declared.Granule.{Granule}
use Rattle.def_memory.specs.Granules.{plain, nothing, granule_at}
use Rattle.def_memory.specs.Accesses.{with_part}
use Rattle.def_instr.specs.declared.Instr.{Instr}
use Rattle.def_machine.specs.Image.{granule_of}
use Rattle.def_machine.specs.State.{State, thread, register, granule}
use Rattle.def_machine.specs.Memory.{cap_stored, bytes_stored}
use Rattle.def_step.specs.declared.Access.{Access}
use Rattle.def_step.specs.Checks.{first_failed}
use Rattle.law_routines.proofs.Accesses.{ram_begins, by_access}
use Rattle.def_step.specs.Accesses.{Accessed, access_of, access_checks, load_checks, store_checks, access_address, access_result, accessed, ram_stored, unless}
use Rattle.def_step.specs.Instructions.{space_of}
use Rattle.def_machine.specs.Platform.{Platform}
use Rattle.def_confined.specs.Confined.{Confined}
use Rattle.def_hidden.specs.Hidden.{Shut, Blank, is_hidden}
use Rattle.law_events.proofs.Seeing.{register_sees}
use Rattle.law_moves.proofs.Checks.{AllPass, all_pass}
use Rattle.law_events.proofs.Accesses.{StorePasses, HasWidth, width_of, store_passes, when_false}

-- granules of which those that are hidden are zero
abbrev pub BlankIn : Platform → State → List Granule → Type 0
BlankIn b s gs = (k : ℕ) → is_hidden b.image s.objects k ≡ true → (granule_at gs k).cap ≡ plain 0

-- ---- an access

pub record Reaching (b : Platform) (s : State) (t : ℕ) : Type 0 where
  pub shut : Shut b.image
  pub held : Confined b.image s
  pub runs : s.running ≡ Some t
  pub blank : Blank b.image s

set_blank : (b : Platform) (s : State) (t n at : ℕ) (g : Granule) → Reaching b s t → b.image.ram ≤ at → (register (thread s t) n).tag ≡ true → has (register (thread s t) n) store_data ≡ true
    → cap_base (register (thread s t) n) ≤ at → at < cap_top (register (thread s t) n) → BlankIn b s (slice_set s.granules (granule_of b.image at) g)
set_blank b s t n at g r inside tagged stores low high k hidden = after_set_split (λ (z : Granule). z.cap ≡ plain 0) s.granules (granule_of b.image at) k g nothing
    (λ same. absurd (let seen : is_hidden b.image s.objects (granule_of b.image at) ≡ false = register_sees b.image s t n at r.shut r.held r.runs inside tagged (inr stores) low high in
    let clash : true ≡ false = sym hidden ∙ ap (λ j. is_hidden b.image s.objects j) (sym same) ∙ seen in cc))
    (λ same none. refl)
    (λ other. r.blank k hidden)

abbrev pub IfBlank : Platform → State → Result Accessed Trap → Type 0
IfBlank b s (Err w) = Unit {0}
IfBlank b s (Ok m) = BlankIn b s m.granules

stored_blank : (b : Platform) (s : State) (t n m : ℕ) (a : Access) (at : ℕ) → Reaching b s t → HasWidth a → b.image.ram ≤ at → StorePasses a (register (thread s t) n) at (a.whole && (register (thread s t) m).tag)
    → BlankIn b s (ram_stored a (register (thread s t) n) (register (thread s t) m) at b.image.ram s.granules)
stored_blank b s t n m a at r wide inside x =
    chosen (BlankIn b s) a.whole (cap_stored b.image s at (register (thread s t) n) (register (thread s t) m)).granules (bytes_stored b.image s at a.width (cap_address (register (thread s t) m))).granules
    (λ whole. set_blank b s t n at (record { cap = stored_through (register (thread s t) n) (register (thread s t) m); mark = (granule s (granule_of b.image at)).mark }) r inside x.tagged x.stores x.low (let high = x.high in omega (arith, high, wide.some)))
    (λ part. set_blank b s t n at (record { cap = plain (with_part (granule s (granule_of b.image at)).cap.word ((at - b.image.ram) % 8) a.width (cap_address (register (thread s t) m))); mark = (granule s (granule_of b.image at)).mark }) r inside x.tagged x.stores x.low (let high = x.high in omega (arith, high, wide.some)))

accessed_blank : (b : Platform) (s : State) (t n m : ℕ) (a : Access) (at : ℕ) → Reaching b s t → HasWidth a → AllPass (access_checks a (register (thread s t) n) (register (thread s t) m) at)
    → BlankIn b s (accessed a (register (thread s t) n) (register (thread s t) m) at (space_of b s)).granules
accessed_blank b s t n m a at r wide passes = by_access (λ z. BlankIn b s z.granules) a (register (thread s t) n) (register (thread s t) m) at (space_of b s) (record {
  loads = λ ram loads. r.blank;
  stores = λ ram stores. stored_blank b s t n m a at r wide (ram_begins (space_of b s) at a.width ram)
      (store_passes a (register (thread s t) n) at (a.whole && (register (thread s t) m).tag)
      (when_false AllPass a.loads (load_checks a (register (thread s t) n) at) (store_checks a (register (thread s t) n) at (a.whole && (register (thread s t) m).tag)) stores passes));
  reads = λ loads. r.blank;
  writes = λ stores. r.blank;
})

pub result_blank : (b : Platform) (s : State) (t n m : ℕ) (k : Instr) → Reaching b s t → IfBlank b s (access_result k (register (thread s t) n) (register (thread s t) m) (space_of b s))
unfolding access_result
result_blank b s t n m k r = by_failed (first_failed (access_checks (access_of k) (register (thread s t) n) (register (thread s t) m) (access_address (access_of k) (register (thread s t) n)))) refl
  where
    by_failed : (o : Option Trap) → first_failed (access_checks (access_of k) (register (thread s t) n) (register (thread s t) m) (access_address (access_of k) (register (thread s t) n))) ≡ o
        → IfBlank b s (unless o (accessed (access_of k) (register (thread s t) n) (register (thread s t) m) (access_address (access_of k) (register (thread s t) n)) (space_of b s)))
    by_failed (Some w) e = tt
    by_failed None e = accessed_blank b s t n m (access_of k) (access_address (access_of k) (register (thread s t) n)) r (width_of k)
        (all_pass (access_checks (access_of k) (register (thread s t) n) (register (thread s t) m) (access_address (access_of k) (register (thread s t) n))) e)
