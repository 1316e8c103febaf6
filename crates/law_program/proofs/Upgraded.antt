-- What is written of an upgraded image runs to the same turn.
use Rattle.std.proofs.Common.{ℕ, ◌≡◌, ◌++◌, inl, inr, List, [], ◌∷◌, Option, Some, None, refl, ap, sym, ◌∙◌, subst}
use Rattle.def_machine.specs.Platform.{MachineRow, Platform}
use Rattle.def_machine.specs.State.{State}
use Rattle.def_image.specs.Parts.{PartsRow, upgraded}
use Rattle.def_image.specs.Accepted.{IsImage}
use Rattle.def_image.specs.Spelling.{image_bytes}
use Rattle.def_boot.specs.Boot.{platform_of, boot_state, booted_machine}
use Rattle.def_program.specs.declared.Status.TheVariants as status
use Rattle.def_program.specs.Commands.{RunImage, Upgrade}
use Rattle.def_program.specs.Lines.{image_line}
use Rattle.def_program.specs.Runs.{events_until, run_lines, run_text}
use Rattle.def_step.specs.Events.{happenings_of}
use Rattle.def_script.specs.Script.{Due}
use Rattle.def_program.specs.Turns.{Turn, Ends, OfRun, OfImage, Follows}
use Rattle.def_report.specs.Report.{report_line}
use Rattle.law_image.proofs.Accepted.{stays}
use Rattle.law_image.proofs.Alike.{alike}
use Rattle.law_program.proofs.ReportsAlike.{line_alike}
use Rattle.law_image.proofs.Backs.{one_reading}
use Rattle.law_image.proofs.Faults.{no_fault}

-- the parts of an image, of which this was written
record IsWritten (bytes written : List ℕ) : Type 0 where
  parts : PartsRow
  image : IsImage bytes parts
  spelled : written ≡ image_bytes (upgraded parts)

written_so : (name bytes written : List ℕ) → Follows (Upgrade name) (bytes ∷ []) (Ends status.Done written) → IsWritten bytes written
written_so name bytes written (inl flawed) =
    absurd (let clash : Ends status.Done written ≡ Ends status.Image (image_line flawed.fault.number flawed.fault.place) = flawed.due in cc)
written_so name bytes written (inr found) = record {
  parts = found.0;
  image = found.1.0;
  spelled = (let same : Ends status.Done written ≡ Ends status.Done (image_bytes (upgraded found.0)) = found.1.1 in cc);
}

abbrev machine : Platform → State → MachineRow
machine b s = record { board = b; state = s }

machine_alike : (p : PartsRow) → booted_machine (upgraded p) ≡ booted_machine p
machine_alike p =
    ap (λ b. machine b (boot_state (upgraded p))) (alike p).board
    ∙ ap (λ s. machine (platform_of p) s) (alike p).state

pub happenings_alike : (p : PartsRow) (script : List Due) (limit : ℕ)
    → happenings_of (platform_of (upgraded p)) (boot_state (upgraded p)) (events_until (booted_machine (upgraded p)) script (upgraded p).quantum limit)
    ≡ happenings_of (platform_of p) (boot_state p) (events_until (booted_machine p) script p.quantum limit)
happenings_alike p script limit = ap (λ (m : MachineRow). happenings_of m.board m.state (events_until m script p.quantum limit)) (machine_alike p)

text_alike : (p : PartsRow) (dues : List Due) (limit : ℕ) → run_text (upgraded p) dues limit ≡ run_text p dues limit
unfolding run_text
text_alike p dues limit =
    ap (λ t. t ++ run_lines (booted_machine (upgraded p)) dues p.quantum limit) (line_alike p)
    ∙ ap (λ b. report_line p ++ run_lines (machine b (boot_state (upgraded p))) dues p.quantum limit) (alike p).board
    ∙ ap (λ s. report_line p ++ run_lines (machine (platform_of p) s) dues p.quantum limit) (alike p).state

-- with a script or without one, an image and the upgraded one have the same turn
run_alike : (p : PartsRow) (limit : ℕ) (script : Option (List ℕ)) (more : List (List ℕ)) (turn : Turn) → OfRun p limit script more turn → OfRun (upgraded p) limit script more turn
run_alike p limit None more turn h = h ∙ ap (λ t. Ends status.Done t) (sym (text_alike p [] limit))
run_alike p limit (Some name) [] turn h = h
run_alike p limit (Some name) (bytes ∷ more) turn (inl a) = inl a
run_alike p limit (Some name) (bytes ∷ more) turn (inr a) =
    inr (record { dues = a.dues; reads = a.reads; due = a.due ∙ ap (λ t. Ends status.Done t) (sym (text_alike p a.dues limit)) })

-- what is due of an image's bytes is what is due of its parts
of_parts : (other bytes : List ℕ) (more : List (List ℕ)) (p : PartsRow) (limit : ℕ) (script : Option (List ℕ)) (turn : Turn)
    → IsImage bytes p → OfImage (RunImage other limit script) bytes more turn → OfRun p limit script more turn
of_parts other bytes more p limit script turn i (inl a) = absurd (no_fault bytes p a.fault.number a.fault.place i a.is)
of_parts other bytes more p limit script turn i (inr a) =
    let same : a.0 ≡ p = one_reading a.0 p a.1.0.0.spellable i.0.spellable (sym a.1.0.1 ∙ i.1) in
    subst (λ q. OfRun q limit script more turn) same a.1.1

-- what was written is an image, of which is due what is due of the old one
pub runs_as : (name other bytes written : List ℕ) (more : List (List ℕ)) (limit : ℕ) (script : Option (List ℕ)) (turn : Turn)
    → Follows (Upgrade name) (bytes ∷ []) (Ends status.Done written)
    → Follows (RunImage other limit script) (bytes ∷ more) turn
    → (p : PartsRow) × (IsImage written p × OfRun p limit script more turn)
runs_as name other bytes written more limit script turn first second =
    let x : IsWritten bytes written = written_so name bytes written first in
    (upgraded x.parts, ((stays x.parts x.image.0, x.spelled), run_alike x.parts limit script more turn (of_parts other bytes more x.parts limit script turn x.image second)))

pub runs_on : (name other file bytes written : List ℕ) (more : List (List ℕ)) (limit : ℕ) (script : Option (List ℕ)) (turn : Turn)
    → Follows (Upgrade name) (bytes ∷ []) (Ends status.Done written)
    → Follows (RunImage other limit script) (bytes ∷ more) turn
    → Follows (RunImage file limit script) (written ∷ more) turn
runs_on name other file bytes written more limit script turn first second = inr (runs_as name other bytes written more limit script turn first second)
