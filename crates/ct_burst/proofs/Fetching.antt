-- A word that was fetched, and what a reading of it says.
use Rattle.std.proofs.Common.{ℕ, ◌≡◌, true, List, Option, Some, None, IsSomeAnd, is_none, unwrap_or, refl, subst}
use Rattle.std.proofs.lemmas.Bool.{and_parts}
use Rattle.def_words.specs.declared.Trap.{Trap}
use Rattle.def_words.specs.Authority.{cap_address}
use Rattle.def_memory.specs.declared.Granule.{Granule}
use Rattle.def_instr.specs.declared.Instr.{Instr}
use Rattle.def_instr.specs.declared.Instr.TheVariants.{Ebreak}
use Rattle.def_instr.specs.Reading.{instruction_in}
use Rattle.def_machine.specs.State.{Frame}
use Rattle.def_step.specs.Checks.{first_failed}
use Rattle.def_step.specs.Instructions.{fetch_checks, fetched, next_at, next_word}
use Rattle.ct_areas.specs.declared.thread.Thread as row
use Rattle.ct_decode.specs.Reading.{read_as}
use Rattle.ct_loadstore.specs.Shapes.{space_of}
use Rattle.ct_threads.specs.declared.window.Window.{Window}
use Rattle.ct_threads.specs.Steps.{is_word_of_ram, finds_word, no_bank}
use Rattle.ct_threads.proofs.Windows.{next_found, word_found}
use Rattle.ct_burst.specs.Carrying.{CarriesRow, HasWindow, IsHeld}
use Rattle.ct_burst.specs.Going.{running_thread, GoesOnce}

none_is : (o : Option Trap) → is_none o ≡ true → o ≡ None
none_is None e = refl
none_is (Some why) e = absurd (cc)

goes : (ram : ℕ) (r : row.Thread) (gs : List Granule) (new : row.Thread) (after : List Granule) (o : Option Instr) → is_none (first_failed (fetch_checks r.pcc)) ≡ true
    → next_at (space_of ram gs no_bank 0) (cap_address r.pcc) ≡ next_word o → IsSomeAnd o (λ i. CarriesRow ram r gs i new after)
    → (fs : List Frame) → GoesOnce ram (running_thread r fs) gs (running_thread new fs) after
goes ram r gs new after None checks next carries fs = absurd carries
goes ram r gs new after (Some i) checks next carries fs = record {
  instruction = i;
  checks = none_is (first_failed (fetch_checks r.pcc)) checks;
  stands = next;
  carries = carries.each fs;
}

-- a word that is no instruction's reads as one that is never carried out quietly
read_goes : (ram : ℕ) (r : row.Thread) (gs : List Granule) (new : row.Thread) (after : List Granule) (o : Option Instr) → is_none (first_failed (fetch_checks r.pcc)) ≡ true
    → next_at (space_of ram gs no_bank 0) (cap_address r.pcc) ≡ next_word o → CarriesRow ram r gs (unwrap_or o Ebreak) new after
    → (fs : List Frame) → GoesOnce ram (running_thread r fs) gs (running_thread new fs) after
read_goes ram r gs new after None checks next carries fs = absurd (carries.each fs 0 no_bank 0)
read_goes ram r gs new after (Some i) checks next carries fs = goes ram r gs new after (Some i) checks next carries fs

-- where the word at the program counter, which a window holds, was read and carried out
pub word_goes : (ram : ℕ) (r : row.Thread) (gs : List Granule) (w : Window) (word : ℕ) (i : Instr) (new : row.Thread) (after : List Granule) → IsHeld r w → HasWindow ram r gs w
    → word ≡ fetched (space_of ram gs no_bank 0) (cap_address r.pcc) → i ≡ read_as word → CarriesRow ram r gs i new after
    → (fs : List Frame) → GoesOnce ram (running_thread r fs) gs (running_thread new fs) after
word_goes ram r gs w word i new after held has fetches is carries =
    let found : finds_word r.pcc ram gs ≡ true = word_found w r.pcc ram gs (cap_address r.pcc) has refl held.on.tagged held.held held.on.whole in
    let checks = (and_parts (is_none (first_failed (fetch_checks r.pcc))) (is_word_of_ram ram gs (cap_address r.pcc)) found).0 in
    read_goes ram r gs new after (instruction_in word) checks (next_found r.pcc ram gs word found fetches)
    (subst (λ (j : Instr). CarriesRow ram r gs j new after) is carries)
