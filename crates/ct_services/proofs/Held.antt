-- A word that may be loaded lies in RAM, and isn't hidden.
use Rattle.std.proofs.Common.{ℕ, ◌+◌, ◌-◌, ◌/◌, ◌%◌, ◌≡◌, ◌≤◌, ◌<◌, false, inl, inr, refl, sym, arith}
use Rattle.std.proofs.lemmas.Bool.{leb-true}
use Rattle.law_lists.proofs.Tests.{both_left, both_right}
use Rattle.def_words.specs.declared.Cap.{Cap}
use Rattle.def_words.specs.Authority.{cap_address, cap_base, cap_top}
use Rattle.def_memory.specs.Accesses.{IsAccess}
use Rattle.def_machine.specs.State.{register}
use Rattle.ct_engine.specs.Seen.{thread, EngineRow, hides}
use Rattle.ct_engine.specs.Bursts.{IsOpen}
use Rattle.ct_services.specs.Answering.{IsWord}

accessed : (ram size at : ℕ) → ram % 16 ≡ 0 → ram ≤ at → at + 4 ≤ ram + size → at % 4 ≡ 0 → IsAccess size (at - ram) 4
accessed ram size at even low high whole = record {
  known = inr (inr refl);
  aligned = omega (arith, even, low, whole);
  inside = omega (arith, low, high);
}

pub word_accessed : (ram size at : ℕ) (c : Cap) → at ≡ cap_address c → ram % 16 ≡ 0 → IsWord ram size c → IsAccess size (at - ram) 4
word_accessed ram size at c is even w = rw is (accessed ram size (cap_address c) even w.low w.high w.even)

pub word_low : (ram size at : ℕ) (c : Cap) → at ≡ cap_address c → IsWord ram size c → ram ≤ at
word_low ram size at c is w = rw is w.low

seen_word : (s : EngineRow) (t ram size : ℕ) → ram ≡ s.region.ram → IsOpen s t → IsWord ram size (register (thread s t) 10)
    → hides s ((cap_address (register (thread s t) 10) - ram) / 8) ≡ false
seen_word s t ram size ram_is opens w =
    let base : cap_base (register (thread s t) 10) ≤ cap_address (register (thread s t) 10) = leb-true _ _ (both_left _ _ w.inside) in
    let top : cap_address (register (thread s t) 10) + 4 ≤ cap_top (register (thread s t) 10) = leb-true _ _ (both_right _ _ w.inside) in
    let high : cap_address (register (thread s t) 10) < cap_top (register (thread s t) 10) = omega (arith, top) in
    let low : s.region.ram ≤ cap_address (register (thread s t) 10) = rw (sym ram_is) w.low in
    rw ram_is (opens.registers 10 (cap_address (register (thread s t) 10)) low w.tag (inl w.loads) base high)

pub word_seen : (s : EngineRow) (t ram size at : ℕ) → at ≡ cap_address (register (thread s t) 10) → ram ≡ s.region.ram → IsOpen s t → IsWord ram size (register (thread s t) 10)
    → hides s ((at - ram) / 8) ≡ false
word_seen s t ram size at is ram_is opens w = rw is (seen_word s t ram size ram_is opens w)
