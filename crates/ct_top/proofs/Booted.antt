-- What the machine asks of an image, and what it is booted to.
use Rattle.std.proofs.Common.{ℕ, ◌≡◌, ◌%◌, ◌/◌, ◌^◌, ◌<◌, ◌≤◌, ◌++◌, List, [], length, replicate, refl, sym, subst, ap, ◌∙◌, arith}
use Rattle.std.specs.List.{All}
use Rattle.std.proofs.lemmas.List.{length-map}
use Rattle.ct_entry.specs.Listed.{DeviceRow}
use Rattle.def_profile.specs.declared.limits.TheConstants.{MOST_FILE}
use Rattle.def_image.specs.Accepted.{IsFaultless}
use Rattle.def_image.specs.Parts.{PartsRow}
use Rattle.def_memory.specs.declared.Granule.{Granule}
use Rattle.def_memory.specs.Granules.{nothing}
use Rattle.def_machine.specs.State.{State, fresh_device}
use Rattle.def_machine.specs.Platform.{MachineRow}
use Rattle.def_boot.specs.Boot.{boot_state, booted_machine}
use Rattle.def_report.specs.Report.{report_line}
use Rattle.def_script.specs.Script.{Due, ReadsAsScript}
use Rattle.def_program.specs.Runs.{demo_text, run_lines, run_text, summary_after}
use Rattle.def_program.specs.declared.TheConstants.{DEMO_STEPS}
use Rattle.def_program.specs.Scripts.{IsPlayable}
use Rattle.law_script.proofs.Fits.{few, named}
use Rattle.law_image.proofs.Sounds.{sound}
use Rattle.def_boot.specs.Booting.{empty_granules}
use Rattle.def_events.specs.Kinds.{IsUncounted}

pub whole_granules : (p : PartsRow) → IsFaultless p → p.size % 16 ≡ 0
whole_granules p f = (sound p f).ram.size

pub zeros : (p : PartsRow) (gs : List Granule) → gs ≡ replicate (p.size / 8) nothing → gs ≡ empty_granules p
zeros p gs is = is

-- the parts that a call reads are the image's, so their quantum is
pub same_quantum : (p q v : PartsRow) → q ≡ p → v ≡ q → v.quantum ≡ p.quantum
same_quantum p q v is seen = ap (λ (x : PartsRow). x.quantum) (seen ∙ is)

pub some_quantum : (p q v : PartsRow) → IsFaultless p → q ≡ p → v ≡ q → 1 ≤ v.quantum
some_quantum p q v f is seen = rw (same_quantum p q v is seen) (sound p f).quantum.0

none_counted : (p : PartsRow) → IsUncounted (booted_machine p).state.counts
unfolding boot_state
none_counted p = record { steps = refl; ticks = refl; sweeps = refl; inputs = refl }

pub uncounted : (p : PartsRow) (m : MachineRow) → m ≡ booted_machine p → IsUncounted m.state.counts
uncounted p m boots = rw boots (none_counted p)

pub text_is : (p q v : PartsRow) (script : List Due) (limit : ℕ) (report : List ℕ) (m : MachineRow) → report ≡ report_line p → m ≡ booted_machine p → q ≡ p → v ≡ q
    → report ++ run_lines m script v.quantum limit ≡ run_text p script limit
unfolding run_text
text_is p q v script limit report m reports boots is seen = rw (reports, boots, same_quantum p q v is seen) refl

-- ---- scripts

pub few_devices : (p : PartsRow) → IsFaultless p → length p.devices < 2 ^ 32
few_devices p f = let few = (sound p f).few.devices in omega (arith, few)

devices_booted : (p : PartsRow) → length (booted_machine p).state.devices ≡ length p.devices
unfolding boot_state
devices_booted p = length-map p.devices (λ (d : DeviceRow). fresh_device d.kind)

-- what a text says as a script may come to the image's machine
pub playable : (p : PartsRow) (text : List ℕ) (script : List Due) (m : MachineRow) → length text ≤ MOST_FILE → ReadsAsScript p.devices text script → m ≡ booted_machine p → IsPlayable script m.state
playable p text script m small is boots = record {
  few = omega (arith, small, few p.devices text script is);
  named = rw boots (subst (λ n. All (λ (d : Due). d.given.device < n) script) (sym (devices_booted p)) (named p.devices text script is));
}

pub none_playable : (s : State) → IsPlayable [] s
none_playable s = record { few = omega arith; named = λ k d inside. absurd (omega (arith, inside)) }

pub demo_is : (p q v : PartsRow) (m : MachineRow) → m ≡ booted_machine p → q ≡ p → v ≡ q → summary_after m v.quantum DEMO_STEPS ≡ demo_text p
unfolding demo_text
demo_is p q v m boots is seen = rw (boots, same_quantum p q v is seen) refl
