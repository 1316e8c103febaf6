-- The run that a command wrote is one list of what happened, licensed and safe.
use Rattle.std.proofs.Common.{◌≡◌, ◌≤◌, ℕ, List, [], ◌∷◌, ◌++◌, Option, Some, None, Result, Ok, Err, inl, inr, refl, sym, ap, ◌∙◌, subst}
use Rattle.def_boot.specs.Boot.{platform_of, boot_state, booted_machine, image_of}
use Rattle.def_boot.specs.Gates.{entries_of}
use Rattle.def_confined.specs.Telling.{AllLicensed}
use Rattle.def_image.specs.Parts.{PartsRow}
use Rattle.def_image.specs.Sound.{Sound}
use Rattle.def_link.specs.declared.LinkFault.{LinkFault}
use Rattle.def_link.specs.declared.LinkFault.TheVariants as fault
use Rattle.def_link.specs.Linked.{linked}
use Rattle.def_report.specs.Report.{report_line}
use Rattle.def_port.specs.Bytes.{Appends}
use Rattle.def_script.specs.Script.{Due}
use Rattle.def_step.specs.Events.{happenings_of}
use Rattle.def_step.specs.declared.Event.{Event}
use Rattle.def_program.specs.Answers.{AllRead, Answers, Whole, contents}
use Rattle.def_program.specs.Calls.{CallRecord}
use Rattle.def_program.specs.Commands.{Command, Audit, Image, Run, RunImage, Why, Upgrade, Check, Demo}
use Rattle.def_program.specs.Licences.{StandFor}
use Rattle.def_program.specs.Lines.{link_status, link_text, script_line}
use Rattle.def_program.specs.Runs.{demo_text, events_until, last_line, run_text, summary_after}
use Rattle.def_program.specs.Turns.{Asks, Ends, Follows, OfLinked, OfRun, OfScript}
use Rattle.def_program.specs.Within.{state_after}
use Rattle.def_program.specs.Written.{IsRun, IsRunWritten, IsScriptFile, WritesRun, WritesRunOf, WritesSummary, run_report}
use Rattle.def_program.specs.declared.Status.{Status}
use Rattle.def_program.specs.declared.Status.TheVariants as status
use Rattle.def_program.specs.declared.TheConstants.{DEMO_STEPS}
use Rattle.def_desc.specs.Reading.{description_of}
use Rattle.def_gen.specs.Description.{firmware}
use Rattle.def_gen.specs.Sources as generated
use Rattle.law_accepted.proofs.Running.{all_licensed}
use Rattle.law_program.proofs.Licences.{stands_sound}
use Rattle.law_program.proofs.Safe.{safe}
use Rattle.law_program.proofs.Standing.{done, no_fault_is_done, of_description, of_image, same_text}
use Rattle.law_program.proofs.Telling.{run_is_told}
use Rattle.law_program.proofs.Ending.{same_command}

-- ---- what a run's text is of

-- the files stand for parts, and what follows them is the script that is named
record IsOf (c : Command) (limit : ℕ) (named : Option (List ℕ)) (files : List (List ℕ)) (text : List ℕ) : Type 0 where
  own : List (List ℕ)
  more : List (List ℕ)
  files_are : files ≡ own ++ more
  parts : PartsRow
  stand : StandFor c own parts
  script : List Due
  script_is : IsScriptFile parts named more script
  text_is : text ≡ run_text parts script limit

module _ (c : Command) (limit : ℕ) (named : Option (List ℕ)) (text : List ℕ) (files own : List (List ℕ)) (p : PartsRow) (stand : StandFor c own p) where
  by_script : (bytes : List ℕ) (more : List (List ℕ)) (name : List ℕ) → named ≡ Some name → files ≡ own ++ (bytes ∷ more) → OfScript p limit bytes (done text) → IsOf c limit named files text
  by_script bytes more name is files_are (inl f) = absurd (let clash : done text ≡ Ends status.Script (script_line f.fault.number f.fault.place) = f.due in cc)
  by_script bytes more name is files_are (inr played) = record {
    own = own;
    more = bytes ∷ more;
    files_are = files_are;
    parts = p;
    stand = stand;
    script = played.dues;
    script_is = subst (λ o. IsScriptFile p o (bytes ∷ more) played.dues) (sym is) played.reads;
    text_is = same_text text (run_text p played.dues limit) played.due;
  }

  by_run : (script : Option (List ℕ)) (more : List (List ℕ)) → named ≡ script → files ≡ own ++ more → OfRun p limit script more (done text) → IsOf c limit named files text
  by_run None more is files_are due = record {
    own = own;
    more = more;
    files_are = files_are;
    parts = p;
    stand = stand;
    script = [];
    script_is = subst (λ o. IsScriptFile p o more []) (sym is) refl;
    text_is = same_text text (run_text p [] limit) due;
  }
  by_run (Some name) [] is files_are due = absurd (let clash : done text ≡ Asks name = due in cc)
  by_run (Some name) (bytes ∷ more) is files_are due = by_script bytes more name is files_are due

of_run : (name : List ℕ) (limit : ℕ) (script : Option (List ℕ)) (text : List ℕ) (files : List (List ℕ)) → Follows (Run name limit script) files (done text)
    → IsOf (Run name limit script) limit script files text
of_run name limit script text [] due = absurd (let clash : done text ≡ Asks name = due in cc)
of_run name limit script text (bytes ∷ rest) due =
    let x = of_description (Run name limit script) text bytes (λ sources p links. links) rest due in
    by_run (Run name limit script) limit script text (bytes ∷ rest) x.own x.parts x.stand script x.more refl x.files_are x.due

of_image_run : (name : List ℕ) (limit : ℕ) (script : Option (List ℕ)) (text : List ℕ) (files : List (List ℕ)) → Follows (RunImage name limit script) files (done text)
    → IsOf (RunImage name limit script) limit script files text
of_image_run name limit script text [] due = absurd (let clash : done text ≡ Asks name = due in cc)
of_image_run name limit script text (bytes ∷ rest) due =
    let x = of_image (RunImage name limit script) text bytes (λ p is. is) rest due in
    by_run (RunImage name limit script) limit script text (bytes ∷ rest) x.own x.parts x.stand script x.more refl x.files_are x.due

-- ---- the run

run_licensed : (p : PartsRow) (es : List Event) → Sound p → AllLicensed (entries_of p) (happenings_of (platform_of p) (boot_state p) es)
unfolding image_of
run_licensed p es f = all_licensed p es f

is_run : (p : PartsRow) (script : List Due) (limit : ℕ) → Sound p
    → IsRun p script limit (events_until (booted_machine p) script p.quantum limit) (happenings_of (platform_of p) (boot_state p) (events_until (booted_machine p) script p.quantum limit))
is_run p script limit f = record {
  events_are = refl;
  happenings_are = refl;
  licensed = run_licensed p (events_until (booted_machine p) script p.quantum limit) f;
  safe = safe p (events_until (booted_machine p) script p.quantum limit) f;
}

report_is : (p : PartsRow) (script : List Due) (limit : ℕ)
    → run_text p script limit ≡ run_report p (events_until (booted_machine p) script p.quantum limit) (happenings_of (platform_of p) (boot_state p) (events_until (booted_machine p) script p.quantum limit))
unfolding run_text
report_is p script limit = ap (λ t. report_line p ++ t) (run_is_told (booted_machine p) script p.quantum limit)

summary_is : (p : PartsRow) → demo_text p ≡ last_line (state_after p (events_until (booted_machine p) [] p.quantum DEMO_STEPS))
unfolding demo_text summary_after
summary_is p = refl

writes_run : (e : CallRecord) (c : Command) (limit : ℕ) (script : Option (List ℕ)) (w : Whole e status.Done) → w.cause.command ≡ c
    → (Follows c (contents w.cause.reads) (done w.text) → IsOf c limit script (contents w.cause.reads) w.text) → WritesRun e c limit script
writes_run e c limit script w same says =
    let x = says (subst (λ k. Follows k (contents w.cause.reads) (done w.text)) same w.cause.due) in
    record {
      reads = w.cause.reads;
      read = subst (λ k. AllRead e k w.cause.reads) same w.cause.read;
      own = x.own;
      more = x.more;
      files_are = x.files_are;
      parts = x.parts;
      stand = x.stand;
      script = x.script;
      script_is = x.script_is;
      events = events_until (booted_machine x.parts) x.script x.parts.quantum limit;
      happenings = happenings_of (platform_of x.parts) (boot_state x.parts) (events_until (booted_machine x.parts) x.script x.parts.quantum limit);
      is_run = is_run x.parts x.script limit (stands_sound c x.own x.parts x.stand);
      written = subst (λ t. Appends e.sink.bytes e.sink_after.bytes t) (x.text_is ∙ report_is x.parts x.script limit) w.written;
    }

-- the generated firmware links to parts, whose summary was written
of_number : (e : CallRecord) (number : ℕ) (text : List ℕ) (files : List (List ℕ)) (r : Result PartsRow LinkFault) → linked (description_of (firmware number)) (generated.sources number) ≡ r
    → OfLinked (Demo number) (description_of (firmware number)) r files (done text) → Appends e.sink.bytes e.sink_after.bytes text → WritesSummary e number
of_number e number text files (Err f) is due written =
    let same : done text ≡ Ends (link_status f) (link_text (description_of (firmware number)) f) = due in
    let clash : link_status f ≡ status.Done = cc in
    absurd (no_fault_is_done f clash)
of_number e number text files (Ok p) is due written = record {
  parts = p;
  stand = is;
  events = events_until (booted_machine p) [] p.quantum DEMO_STEPS;
  happenings = happenings_of (platform_of p) (boot_state p) (events_until (booted_machine p) [] p.quantum DEMO_STEPS);
  is_run = is_run p [] DEMO_STEPS (stands_sound (Demo number) [] p is);
  written = subst (λ t. Appends e.sink.bytes e.sink_after.bytes t) (same_text text (demo_text p) due ∙ summary_is p) written;
}

writes_of : (e : CallRecord) (c : Command) (w : Whole e status.Done) → w.cause.command ≡ c → WritesRunOf e c
writes_of e (Audit name) w same = tt
writes_of e (Image name) w same = tt
writes_of e (Run name limit script) w same =
    writes_run e (Run name limit script) limit script w same (λ due. of_run name limit script w.text (contents w.cause.reads) due)
writes_of e (RunImage name limit script) w same =
    writes_run e (RunImage name limit script) limit script w same (λ due. of_image_run name limit script w.text (contents w.cause.reads) due)
writes_of e (Why name owner compartment) w same = tt
writes_of e (Upgrade name) w same = tt
writes_of e (Check name policy) w same = tt
writes_of e (Demo number) w same =
    let due : Follows (Demo number) (contents w.cause.reads) (done w.text) = subst (λ k. Follows k (contents w.cause.reads) (done w.text)) same w.cause.due in
    of_number e number w.text (contents w.cause.reads) (linked (description_of (firmware number)) (generated.sources number)) refl due w.written

pub run_written : (e : CallRecord) (s : Status) → Answers e s → IsRunWritten e s
run_written e s a = λ c form is.
    let w : Whole e status.Done = subst (λ z. Answers e z) is a in
    writes_of e c w (same_command e w.cause.command c w.cause.form form)
