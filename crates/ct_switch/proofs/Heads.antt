-- What a callee is given, where the heads of export tables are as boot made them.
use Rattle.std.proofs.Common.{ℕ, ◌≡◌, ◌+◌, true, List, sym, ap, ◌∙◌}
use Rattle.ct_entry.specs.Listed.{Listed}
use Rattle.def_words.specs.declared.Cap.{Cap}
use Rattle.def_words.specs.declared.Shadow.{Shadow}
use Rattle.def_words.specs.Capability.{with_address}
use Rattle.def_memory.specs.declared.Granule.{Granule}
use Rattle.def_reach.specs.Roots.{gate_for}
use Rattle.def_boot.specs.Made.{return_sentry}
use Rattle.def_machine.specs.Image.{Image, made_cap, code_entry, globals_entry, stack_base}
use Rattle.def_machine.specs.State.{Thread}
use Rattle.def_machine.specs.Frames.{Given, callee_start}
use Rattle.def_memory.specs.Granules.{cap_in}
use Rattle.ct_areas.specs.declared.thread.Thread as row
use Rattle.ct_areas.specs.Threads.{thread_of}
use Rattle.ct_areas.specs.Parts.{register_in}
use Rattle.ct_areas.proofs.Places.{alive_is}
use Rattle.ct_switch.specs.Exports.{callee_of}
use Rattle.ct_switch.specs.Calls.{given_in, stack_cap, head_of, HoldsHeads}

all_given : Cap → Cap → Cap → Cap → Given
all_given pcc back stack globals = record { pcc = pcc; back = back; stack = stack; globals = globals }

pub heads_given : (i : Image) (gs : List Granule) (e : Listed) (t : row.Thread) (n export high : ℕ) → HoldsHeads i gs e t n export
    → given_in gs e t export high ≡ callee_start i (thread_of gs true t) n (callee_of e export) export high
unfolding all_given
heads_given i gs e t n export high h =
    let callee : ℕ = callee_of e export in
    let code : Cap = made_cap i (code_entry i callee) in
    let globals : Cap = made_cap i (globals_entry i callee) in
    let shadow : Shadow = (register_in t 2).shadow in
    let head : Cap = cap_in gs (head_of e t.area callee) in
    let after : Cap = cap_in gs (head_of e t.area callee + 1) in
    let address : Listed → ℕ = λ l. (gate_for l.gates export).code in
    let stack : ℕ → Cap = λ b. stack_cap b high shadow in
    let pcc : with_address head (address e) ≡ with_address code (address i.entries) =
    ap (λ c. with_address c (address e)) h.code ∙ ap (λ l. with_address code (address l)) (sym h.entries) in
    let made : all_given (with_address head (address e)) return_sentry (stack t.area.stack) after
    ≡ all_given (with_address code (address i.entries)) (made_cap i 0) (stack (stack_base i n)) globals =
    ap (λ x. all_given x return_sentry (stack t.area.stack) after) pcc
    ∙ ap (λ x. all_given (with_address code (address i.entries)) x (stack t.area.stack) after) (sym h.back)
    ∙ ap (λ b. all_given (with_address code (address i.entries)) (made_cap i 0) (stack b) after) (sym h.stack)
    ∙ ap (λ x. all_given (with_address code (address i.entries)) (made_cap i 0) (stack (stack_base i n)) x) h.globals in
    made ∙ ap (λ (l : Thread). callee_start i l n callee export high) (sym (alive_is gs true t h.alive))
