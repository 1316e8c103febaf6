-- Changes of registers.
use Rattle.std.specs.Prelude.{ℕ, zero, suc, List, slice_set}
use Rattle.def_words.specs.declared.Cap.{Cap}
use Rattle.def_machine.specs.State.{State, Thread, thread}

-- register 0 is always zero
abbrev pub written : List Cap → ℕ → Cap → List Cap
written rs zero c = rs
written rs (suc n) c = slice_set rs (suc n) c

abbrev pub with_thread : State → ℕ → Thread → State
with_thread s t new = record s { threads = slice_set s.threads t new }

abbrev pub with_registers : State → ℕ → List Cap → State
with_registers s t rs = with_thread s t (record (thread s t) { registers = rs })

abbrev pub put_register : State → ℕ → ℕ → Cap → State
put_register s t n c = with_registers s t (written (thread s t).registers n c)
