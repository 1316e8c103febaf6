-- What a call and a trap of a confined state's thread ask, and that the head of the export's table stands as boot made
-- it.
use Rattle.std.proofs.Common.{ℕ, ◌≡◌, ◌+◌, ◌*◌, ◌<◌, ◌≤◌, true, List, length, slice_index_or, sym, ap, ◌∙◌, arith, subst}
use Rattle.ct_entry.specs.Listed.{Listed}
use Rattle.ct_entry.specs.declared.rows.Kind.TheVariants as kind
use Rattle.def_profile.specs.declared.seals.TheConstants.{EXPORT_TYPE}
use Rattle.def_words.specs.declared.Cap.{Cap}
use Rattle.def_words.specs.Seals.{cap_seal}
use Rattle.def_memory.specs.declared.Granule.{Granule}
use Rattle.def_memory.specs.Granules.{plain}
use Rattle.def_reach.specs.Roots.{Listing}
use Rattle.def_image.specs.Parts.{PartsRow}
use Rattle.def_image.specs.Sound.{Sound}
use Rattle.def_boot.specs.Boot.{image_of}
use Rattle.def_boot.specs.Fits.{ExportAt}
use Rattle.def_machine.specs.Image.{Image, root, handler_entry}
use Rattle.def_machine.specs.State.{State, register}
use Rattle.def_machine.specs.State as state
use Rattle.def_confined.specs.Confined.{Confined}
use Rattle.def_step.specs.Switch.{Enters, frame_top}
use Rattle.law_moves.proofs.JumpsMoves.{in_rooted}
use Rattle.law_boot.proofs.Imports.{named}
use Rattle.law_boot.proofs.Handling.{handler_at, handler_owner}
use Rattle.ct_areas.specs.Threads.{frames_most}
use Rattle.ct_switch.specs.Exports.{callee_of}
use Rattle.ct_switch.proofs.Failing.{checks_passed}
use Rattle.ct_threads.proofs.Entering.{enters_by}
use Rattle.ct_engine.specs.Seen.{EngineRow, thread, area_at}
use Rattle.ct_engine.specs.Calls.{IsEnterable, MayCall, HeadStands, switch_at}
use Rattle.law_callable.proofs.Showing.{ShowsCaller, top_lies}
use Rattle.law_callable.proofs.Rising.{image_sorted}
use Rattle.law_callable.proofs.Heads.{enterable, export_stands, entries_are, callee_is}

-- RAM has the image's size
size_in : (p : PartsRow) (m : State) → Confined (image_of p) m → p.size ≤ 8 * length m.granules
unfolding image_of
size_in p m confined = let whole : p.ram + p.size ≤ p.ram + 8 * length m.granules = confined.size in omega (arith, whole)

-- a tagged capability of an export's type in c6 is a call import
pub import_is : (i : Image) (m : State) (s : EngineRow) (t : ℕ) → Confined i m → (thread s t).registers ≡ (state.thread m t).registers
    → (register (thread s t) 6).tag ≡ true → cap_seal (register (thread s t) 6) ≡ EXPORT_TYPE
    → (root i (register (thread s t) 6).shadow.root).origin ≡ Listing kind.Call
import_is i m s t confined registers tagged sealed =
    let six : register (thread s t) 6 ≡ register (state.thread m t) 6 = ap (λ (cs : List Cap). slice_index_or cs 6 (plain 0)) registers in
    let rooted = in_rooted i m.objects t (state.thread m t).frames (register (state.thread m t) 6) (confined.registers t 6) (sym (ap (λ (c : Cap). c.tag) six) ∙ tagged) in
    subst (λ (c : Cap). (root i c.shadow.root).origin ≡ Listing kind.Call) (sym six) (rooted.calls (sym (ap cap_seal six) ∙ sealed))

-- an export of an image by its parts is open to an engine that shows the state
enterable_at : (p : PartsRow) (m : State) (s : EngineRow) (t n : ℕ) → Sound p → ShowsCaller (image_of p) m s t → ExportAt p n
    → IsEnterable s (image_of p).entries n
enterable_at p m s t n sound shows export =
    let size = subst (λ (gs : List Granule). p.size ≤ 8 * length gs) (sym shows.granules) (size_in p m shows.confined) in
    enterable p n sound export s shows.region size shows.heap

-- ---- a call

-- a thread of a confined state may call, where it has frames and an engine shows it
pub may_call : (i : Image) (m : State) (s : EngineRow) (t : ℕ) → ShowsCaller i m s t → 0 < length (thread s t).frames → MayCall s t i.entries
may_call i m s t shows some =
    subst (λ (j : Image). ShowsCaller j m s t → MayCall s t j.entries) (sym shows.is) (λ here. record {
      top = top_lies (image_of shows.parts) m s (8 * length s.state.granules) t here.confined here.placed here.frames some;
      sorted = image_sorted shows.parts;
      import = λ tagged sealed.
          let n : ℕ = (register (thread s t) 6).shadow.root in
          let is = import_is (image_of shows.parts) m s t here.confined here.registers tagged sealed in
          let export = (named shows.parts shows.sound n).call is in
          enterable_at shows.parts m s t (root (image_of shows.parts) n).of shows.sound here export;
    }) shows

-- what a call through an import of a confined thread asks: the head of the export's table is as boot made it
pub import_stands : (i : Image) (m : State) (s : EngineRow) (t : ℕ) → ShowsCaller i m s t → (register (thread s t) 6).tag ≡ true
    → cap_seal (register (thread s t) 6) ≡ EXPORT_TYPE → HeadStands i s t (root i (register (thread s t) 6).shadow.root).of
import_stands i m s t shows tagged sealed =
    let n : ℕ = (register (thread s t) 6).shadow.root in
    subst (λ (j : Image). ShowsCaller j m s t → HeadStands j s t (root j n).of) (sym shows.is)
    (λ here.
    let export = (named shows.parts shows.sound n).call (import_is (image_of shows.parts) m s t here.confined here.registers tagged sealed) in
    export_stands shows.parts (root (image_of shows.parts) n).of shows.sound export s
    here.region m here.confined here.granules (8 * length s.state.granules) t here.placed) shows

-- and what the callee that it enters asks
pub entered_stands : (i : Image) (m : State) (s : EngineRow) (t export high : ℕ) → ShowsCaller i m s t → switch_at s i.entries t ≡ Enters export high → HeadStands i s t export
entered_stands i m s t export high shows enters =
    let base : ℕ = (area_at s t).stack in
    let top : ℕ = frame_top (thread s t).frames in
    let by = enters_by i.entries base top (frames_most (area_at s t)) (thread s t) export high enters in
    let passed = checks_passed base top (register (thread s t) 1) (register (thread s t) 6) (register (thread s t) 2) by.passed in
    subst (λ n. HeadStands i s t n) (sym by.export_is) (import_stands i m s t shows passed.tagged passed.import)

-- ---- an error handler

-- what a trap that enters an error handler asks
pub handlers_asked : (i : Image) (m : State) (s : EngineRow) (t b : ℕ) → ShowsCaller i m s t → (handler_entry i b ≡ 0 → ⊥) → IsEnterable s i.entries (handler_entry i b)
handlers_asked i m s t b shows some =
    subst (λ (j : Image). ShowsCaller j m s t → (handler_entry j b ≡ 0 → ⊥) → IsEnterable s j.entries (handler_entry j b)) (sym shows.is)
    (λ here has.
    enterable_at shows.parts m s t (handler_entry (image_of shows.parts) b) shows.sound here (handler_at shows.parts b has))
    shows some

-- the handler's export is one of the compartment's own
pub handlers_own : (i : Image) (b : ℕ) (p : PartsRow) → Sound p → i ≡ image_of p → (handler_entry i b ≡ 0 → ⊥) → callee_of i.entries (handler_entry i b) ≡ b
handlers_own i b p sound booted some =
    subst (λ (j : Image). (handler_entry j b ≡ 0 → ⊥) → callee_of j.entries (handler_entry j b) ≡ b) (sym booted)
    (λ has. ap (λ (e : Listed). callee_of e (handler_entry (image_of p) b)) (entries_are p)
    ∙ callee_is p (handler_entry (image_of p) b) sound (handler_at p b has) ∙ handler_owner p b has) some

-- the head of its export table is as boot made it
pub handlers_stand : (i : Image) (m : State) (s : EngineRow) (t b : ℕ) → ShowsCaller i m s t → (handler_entry i b ≡ 0 → ⊥) → HeadStands i s t (handler_entry i b)
handlers_stand i m s t b shows some =
    subst (λ (j : Image). ShowsCaller j m s t → (handler_entry j b ≡ 0 → ⊥) → HeadStands j s t (handler_entry j b)) (sym shows.is)
    (λ here has.
    export_stands shows.parts (handler_entry (image_of shows.parts) b) shows.sound (handler_at shows.parts b has) s
    here.region m here.confined here.granules (8 * length s.state.granules) t here.placed) shows some
