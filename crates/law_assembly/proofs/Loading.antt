-- What the instructions of `li`, `cimport`, `cla` and `clg` leave in the registers.
use Rattle.std.proofs.Common.{◌≡◌, ℕ, zero, suc, ◌+◌, ◌*◌, ◌%◌, ◌^◌, ◌<◌, [], ◌∷◌, length, Bool, true, false, cond, sym, ap, ◌∙◌, subst, arith}
use Rattle.std.proofs.lemmas.List.{get_or-set_same, get_or-set_other, length-set}
use Rattle.def_words.specs.declared.Cap.{Cap}
use Rattle.def_words.specs.declared.Posture.{Posture}
use Rattle.def_words.specs.Authority.{cap_address}
use Rattle.def_words.specs.Capability.{integer, raised, with_address}
use Rattle.def_memory.specs.Granules.{plain}
use Rattle.def_bits.specs.Bits.{extended}
use Rattle.def_instr.specs.declared.Instr.TheVariants.{Lui, Addi, AuiPcc, CIncAddrImm}
use Rattle.def_capstep.specs.Results.{capability_result, upper_offset}
use Rattle.def_machine.specs.State.{Thread, register}
use Rattle.def_machine.specs.Threads.{jumped}
use Rattle.def_step.specs.Accesses.{MemoryAndDevices}
use Rattle.def_object.specs.Object.{high_piece, low_piece, way, is_short, upper_part, rest_part, number_instructions, text_instructions, global_instructions}
use Rattle.def_assembly.specs.Loading.{effect, onward, after_instructions, MayWrite, SetsRegister, AreApart, IsWayOn, LeadsOver, LeadsToSlot}
use Rattle.law_assembly.proofs.Pieces.{pieces_back, leads_to}

-- ---- one register is written

put : (w : Thread) (rd : ℕ) (pcc : Cap) (posture : Posture) (value : Cap) → MayWrite w rd → SetsRegister w (jumped w pcc posture rd value) rd value
put w zero pcc posture value h = absurd (omega (arith, h.some))
put w (suc n) pcc posture value h = record {
  given = get_or-set_same w.registers (suc n) value (plain 0) (let all : length w.registers ≡ 16 = h.all in omega (arith, h.there, all));
  others = λ m other. get_or-set_other w.registers (suc n) m value (plain 0) other;
}

still : (w : Thread) (rd : ℕ) (pcc : Cap) (posture : Posture) (value : Cap) → MayWrite w rd → MayWrite (jumped w pcc posture rd value) rd
still w zero pcc posture value h = absurd (omega (arith, h.some))
still w (suc n) pcc posture value h = record {
  all = length-set w.registers (suc n) value ∙ h.all;
  zero = get_or-set_other w.registers (suc n) 0 value (plain 0) (λ e. omega (arith, e)) ∙ h.zero;
  some = h.some;
  there = h.there;
}

gives_as : (w new : Thread) (rd : ℕ) (a b : Cap) → a ≡ b → SetsRegister w new rd a → SetsRegister w new rd b
gives_as w new rd a b same g = subst (SetsRegister w new rd) same g

gives_then : (w u new : Thread) (rd : ℕ) (a b : Cap) → SetsRegister w u rd a → SetsRegister u new rd b → SetsRegister w new rd b
gives_then w u new rd a b first second = record {
  given = second.given;
  others = λ n other. second.others n other ∙ first.others n other;
}

-- ---- a number

integer_address : (n : ℕ) → n < 2 ^ 32 → cap_address (integer n) ≡ n
integer_address n h = omega arith

short_loaded : (p : MemoryAndDevices) (w : Thread) (rd word : ℕ) → MayWrite w rd → word < 2 ^ 32 → SetsRegister w (after_instructions p w (Addi rd 0 word ∷ [])) rd (integer word)
short_loaded p w rd word h small =
    let from : cap_address (register w 0) ≡ 0 = ap cap_address h.zero in
    let sum : (cap_address (register w 0) + word) % 2 ^ 32 ≡ word = omega (arith, from) in
    gives_as w _ rd _ _ (ap integer sum) (put w rd (raised w.pcc 4) w.posture (integer ((cap_address (register w 0) + word) % 2 ^ 32)) h)

long_loaded : (p : MemoryAndDevices) (w : Thread) (rd word : ℕ) → MayWrite w rd → word < 2 ^ 32
    → SetsRegister w (after_instructions p w (Lui rd (upper_part word) ∷ Addi rd rd (rest_part word) ∷ [])) rd (integer word)
long_loaded p w rd word h small =
    let upper : ℕ = upper_part word * 2 ^ 12 % 2 ^ 32 in
    let u : Thread = jumped w (raised w.pcc 4) w.posture rd (integer upper) in
    let first = put w rd (raised w.pcc 4) w.posture (integer upper) h in
    let held : cap_address (register u rd) ≡ upper = ap cap_address first.given ∙ integer_address upper (omega arith) in
    let sum : (cap_address (register u rd) + rest_part word) % 2 ^ 32 ≡ word = ap (λ n. (n + rest_part word) % 2 ^ 32) held ∙ pieces_back word small in
    let second = put u rd (raised u.pcc 4) u.posture (integer ((cap_address (register u rd) + rest_part word) % 2 ^ 32)) (still w rd (raised w.pcc 4) w.posture (integer upper) h) in
    gives_then w u _ rd _ _ first (gives_as u _ rd _ _ (ap integer sum) second)

pub number_loaded : (p : MemoryAndDevices) (w : Thread) (rd word : ℕ) → MayWrite w rd → word < 2 ^ 32 → SetsRegister w (after_instructions p w (number_instructions rd word)) rd (integer word)
number_loaded p w rd word h small = by_test (is_short word)
  where
    by_test : (b : Bool) → SetsRegister w (after_instructions p w (cond b (Addi rd 0 word ∷ []) (Lui rd (upper_part word) ∷ Addi rd rd (rest_part word) ∷ []))) rd (integer word)
    by_test true = short_loaded p w rd word h small
    by_test false = long_loaded p w rd word h small

-- ---- a way

raised_address : (c : Cap) (n : ℕ) → cap_address (raised c n) ≡ (cap_address c + n) % 2 ^ 32
unfolding with_address
raised_address c n = omega arith

way_on : (a at to u l : ℕ) → at < 2 ^ 32 → to < 2 ^ 32 → ((at + u) % 2 ^ 32 + l) % 2 ^ 32 ≡ to
    → ((a + u % 2 ^ 32) % 2 ^ 32 + l) % 2 ^ 32 ≡ (a + way at to) % 2 ^ 32
way_on a at to u l hat hto e = omega arith

twice : (c : Cap) (at to : ℕ) → AreApart at to → IsWayOn c at to (raised (raised c (upper_offset (high_piece at to))) (low_piece at to))
twice c at to apart =
    let u : ℕ = extended 20 (high_piece at to) * 2048 in
    raised_address (raised c (u % 2 ^ 32)) (low_piece at to)
    ∙ ap (λ n. (n + low_piece at to) % 2 ^ 32) (raised_address c (u % 2 ^ 32))
    ∙ way_on (cap_address c) at to u (low_piece at to) apart.at_fits apart.to_fits (leads_to at to apart).there

-- two words: the first raises the address of c, the second that of what the first left
two_words : (p : MemoryAndDevices) (w : Thread) (rd high low : ℕ) (c : Cap) → MayWrite w rd
    → SetsRegister w (after_instructions p (jumped w (raised w.pcc 4) w.posture rd (raised c high)) (CIncAddrImm rd rd low ∷ [])) rd (raised (raised c high) low)
unfolding capability_result
two_words p w rd high low c h =
    let u : Thread = jumped w (raised w.pcc 4) w.posture rd (raised c high) in
    let first = put w rd (raised w.pcc 4) w.posture (raised c high) h in
    let second = put u rd (raised u.pcc 4) u.posture (raised (register u rd) low) (still w rd (raised w.pcc 4) w.posture (raised c high) h) in
    gives_then w u _ rd _ _ first (gives_as u _ rd _ _ (ap (λ (x : Cap). raised x low) first.given) second)

leads : (w new : Thread) (rd : ℕ) (c : Cap) (at to : ℕ) → AreApart at to
    → SetsRegister w new rd (raised (raised c (upper_offset (high_piece at to))) (low_piece at to)) → LeadsOver w new rd c at to
leads w new rd c at to apart g = record { gives = g; address = ap cap_address g.given ∙ twice c at to apart }

pub text_leads : (p : MemoryAndDevices) (w : Thread) (rd at to : ℕ) → MayWrite w rd → AreApart at to → LeadsOver w (after_instructions p w (text_instructions at rd to)) rd w.pcc at to
unfolding capability_result
text_leads p w rd at to h apart = leads w _ rd w.pcc at to apart (two_words p w rd (upper_offset (high_piece at to)) (low_piece at to) w.pcc h)

pub global_leads : (p : MemoryAndDevices) (w : Thread) (rd to : ℕ) → MayWrite w rd → AreApart 0 to → LeadsOver w (after_instructions p w (global_instructions rd to)) rd (register w 3) 0 to
unfolding capability_result
global_leads p w rd to h apart = leads w _ rd (register w 3) 0 to apart (two_words p w rd (upper_offset (high_piece 0 to)) (low_piece 0 to) (register w 3) h)

pub slot_leads : (p : MemoryAndDevices) (w : Thread) (rd at to : ℕ) → MayWrite w rd → AreApart at to → LeadsToSlot p w rd at to
unfolding capability_result
slot_leads p w rd at to h apart =
    let c : Cap = raised w.pcc (upper_offset (high_piece at to)) in
    let first = put w rd (raised w.pcc 4) w.posture c h in
    record {
      first = first;
      address = sym (raised_address (register (onward w (effect p w (AuiPcc rd (high_piece at to)))) rd) (low_piece at to))
          ∙ ap (λ (x : Cap). cap_address (raised x (low_piece at to))) first.given ∙ twice w.pcc at to apart;
    }
