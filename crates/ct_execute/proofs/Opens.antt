-- In a confined state of a shut image the running thread is open to an engine whose region and heap are the image's.
use Rattle.std.proofs.Common.{ℕ, ◌≡◌, ◌-◌, ◌/◌, ◌≤◌, ◌<◌, ◌⊎◌, true, false, List, ap, ◌∙◌, refl, subst}
use Rattle.std.proofs.Math.ListN.{get_or}
use Rattle.def_words.specs.declared.Cap.{Cap}
use Rattle.def_words.specs.Authority.{cap_base, cap_top}
use Rattle.def_words.specs.Permissions.{has, load_data, store_data}
use Rattle.def_memory.specs.Granules.{plain}
use Rattle.def_machine.specs.Image.{Image, granule_of}
use Rattle.def_machine.specs.State.{State, Object, register}
use Rattle.def_machine.specs.State as state
use Rattle.def_confined.specs.Confined.{Confined}
use Rattle.def_hidden.specs.Hidden.{Shut, is_hidden}
use Rattle.law_events.proofs.Seeing.{register_sees, counter_sees}
use Rattle.ct_engine.specs.declared.rows.Region.{Region}
use Rattle.ct_engine.specs.Seen.{EngineRow, hides, thread}
use Rattle.ct_engine.specs.Bursts.{IsOpen}
use Rattle.ct_execute.specs.Opening.{Runs}

-- region and heap hide what the image does
hides_is : (i : Image) (s : State) (v : EngineRow) (t k : ℕ) → Runs i s v t → hides v k ≡ is_hidden i s.objects k
hides_is i s v t k r = rw (r.region, r.heap_base, r.heap_end, r.objects) refl

at_place : (i : Image) (s : State) (v : EngineRow) (t x : ℕ) → Runs i s v t → (i.ram ≤ x → is_hidden i s.objects (granule_of i x) ≡ false)
    → v.region.ram ≤ x → hides v ((x - v.region.ram) / 8) ≡ false
at_place i s v t x r see inside =
    let base : v.region.ram ≡ i.ram = ap (λ (g : Region). g.ram) r.region in
    hides_is i s v t ((x - v.region.ram) / 8) r
    ∙ ap (λ n. is_hidden i s.objects ((x - n) / 8)) base
    ∙ see (subst (λ n. n ≤ x) base inside)

same_register : (i : Image) (s : State) (v : EngineRow) (t n : ℕ) → Runs i s v t → register (thread v t) n ≡ register (state.thread s t) n
same_register i s v t n r = ap (λ (cs : List Cap). get_or cs n (plain 0)) r.registers

registers_open : (i : Image) (s : State) (v : EngineRow) (t n x : ℕ) → Shut i → Confined i s → Runs i s v t → v.region.ram ≤ x → (register (thread v t) n).tag ≡ true
    → (has (register (thread v t) n) load_data ≡ true) ⊎ (has (register (thread v t) n) store_data ≡ true)
    → cap_base (register (thread v t) n) ≤ x → x < cap_top (register (thread v t) n) → hides v ((x - v.region.ram) / 8) ≡ false
registers_open i s v t n x shut held r inside tagged may low high =
    let same = same_register i s v t n r in
    at_place i s v t x r
    (λ within. register_sees i s t n x shut held r.running within
    (subst (λ (c : Cap). c.tag ≡ true) same tagged)
    (subst (λ (c : Cap). (has c load_data ≡ true) ⊎ (has c store_data ≡ true)) same may)
    (subst (λ (c : Cap). cap_base c ≤ x) same low) (subst (λ (c : Cap). x < cap_top c) same high)) inside

pub running_open : (i : Image) (s : State) (v : EngineRow) (t : ℕ) → Shut i → Confined i s → Runs i s v t → IsOpen v t
running_open i s v t shut held r = record {
  registers = λ n x inside tagged may low high. registers_open i s v t n x shut held r inside tagged may low high;
  fetches = λ x inside tagged low high. at_place i s v t x r
      (λ within. counter_sees i s t x shut held within
      (subst (λ (c : Cap). c.tag ≡ true) r.pcc tagged) (subst (λ (c : Cap). cap_base c ≤ x) r.pcc low) (subst (λ (c : Cap). x < cap_top c) r.pcc high)) inside;
}
