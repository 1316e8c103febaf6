-- Objects that are made and freed, in each state of the machine that holds what is seen.
use Rattle.std.proofs.Common.{ℕ, ◌+◌, ◌-◌, ◌≡◌, ◌∙◌, true, List, Some, Result, Ok, Err, refl, sym, ap, arith}
use Rattle.std.specs.Prelude.{find}
use Rattle.std.proofs.lemmas.List.{length-set}
use Rattle.law_granules.proofs.Lists.{zeroed_length, marked_length}
use Rattle.ct_entry.specs.declared.acts.Act.TheVariants.{Allocate, Free}
use Rattle.def_profile.specs.declared.layout.TheConstants.{CHUNK_HEAD}
use Rattle.def_profile.specs.declared.rights.TheConstants.{HEAP_RIGHTS}
use Rattle.def_words.specs.declared.Cap.{Cap}
use Rattle.def_words.specs.Capability.{integer}
use Rattle.def_words.specs.Derive.{derive, memory_root}
use Rattle.def_memory.specs.declared.Granule.{Granule}
use Rattle.def_memory.specs.Ranges.{zeroed_from}
use Rattle.def_sched.specs.declared.Status.{Status}
use Rattle.def_machine.specs.Image.{Image}
use Rattle.def_machine.specs.State.{State, Object, Token}
use Rattle.def_machine.specs.Objects.{charges, has_quarantined}
use Rattle.def_machine.specs.Heap.{length_for, new_object}
use Rattle.def_step.specs.Routines.{Ran, Leaves, answers, tells, code}
use Rattle.def_step.specs.Quotas.{Allocation, Refused, Made, allocation, hands_out, freed_as}
use Rattle.ct_heap.specs.declared.rows.Object as heap
use Rattle.ct_heap.specs.declared.rows.HeapRefusal.{HeapRefusal}
use Rattle.ct_heap.specs.Lookups.{spans_of, whole_of}
use Rattle.ct_engine.specs.Seen.{EngineRow}
use Rattle.ct_engine.specs.Grants.{AllocatesAsWritten, allocation_told, refusal_code, WasWhole, freed, freed_by}
use Rattle.ct_engine.specs.Written.{HasLayout, state_with}
use Rattle.ct_engine.proofs.Freeing.{whole_says, freed_shown}
use Rattle.ct_execute.specs.declared.ran.Ran as engine
use Rattle.ct_execute.specs.declared.ran.Ran.TheVariants.{Went}
use Rattle.ct_execute.specs.Deciding.{act_by}
use Rattle.ct_services.specs.Answering.{answered_in}
use Rattle.ct_services.specs.Serves.{ServesAlone}
use Rattle.ct_services.proofs.Serving.{Becomes, serves_answer, serves_as}

-- ---- an allocation

-- the capability of a quota's object, sealed as a type where that isn't 0
abbrev cap_at : ℕ → ℕ → ℕ → ℕ → ℕ → Cap
cap_at quota kind number base long =
    derive memory_root base long HEAP_RIGHTS base kind (record { root = quota; source = number })

-- what comes of an allocation, as of a token
module _ {s u : EngineRow} {quota size : ℕ} {rows : List Token} (t : ℕ) (comes : State → Allocation → Ran) where
  comes_so : (r : Result heap.Object HeapRefusal) (i : Image) (m : State) (ss : List Status)
      → AllocatesAsWritten s u quota size rows r → HasLayout i s ss
      → comes (state_with m s ss) (allocation i (state_with m s ss) quota size)
      ≡ comes (state_with m s ss) (allocation_told s.state quota size r)
  comes_so r i m ss w h =
      ap (comes (state_with m s ss))
      (w.answer i (state_with m s ss) (record { base = h.heap.base; end = h.heap.end; limit = h.heap.limits quota })
      (record { objects = refl; next = refl }))

  pub serves_refused : {new : EngineRow} {ran : engine.Ran} {why : HeapRefusal} → AllocatesAsWritten s u quota size rows (Err why)
      → ((m : State) (n : ℕ) → comes m (Refused n) ≡ tells m t (code n))
      → ServesAlone u new ran (λ i m. tells m t (code (refusal_code why (has_quarantined m.objects))))
      → ServesAlone s new ran (λ i m. comes m (allocation i m quota size))
  serves_refused {why = why} w refuses serves =
      serves_as (rw w.is at serves)
      (λ i m ss h.
      comes_so (Err why) i m ss w h ∙ refuses (state_with m s ss) (refusal_code why (has_quarantined s.state.objects)))

  -- an object is handed out
  pub serves_made : {new : EngineRow} {o : heap.Object} {ran : engine.Ran} {v : Cap} (kind : ℕ) → AllocatesAsWritten s u quota size rows (Ok o)
      → v ≡ cap_at quota kind o.number o.base o.length → new ≡ answered_in u t v
      → ran ≡ Went (Some (act_by quota (Allocate o.number o.base o.length o.live)))
      → ((m : State) (ss : List Status) → comes (state_with m s ss) (Made (new_object s.state quota size o.base))
      ≡ hands_out (record (state_with m s ss) { tokens = rows }) t (new_object s.state quota size o.base)
      (cap_at quota kind s.state.next o.base (length_for size)))
      → ServesAlone s new ran (λ i m. comes m (allocation i m quota size))
  serves_made {o = o} {v = v} kind w value now ran_is made =
      rw (now, ran_is)
      (serves_answer s u t v (Some (act_by quota (Allocate o.number o.base o.length o.live)))
      (λ i m. comes m (allocation i m quota size))
      (rw w.is (record { size = refl; threads = refl; made = omega arith; same = refl }))
      (λ i m ss h.
      comes_so (Ok o) i m ss w h ∙ made m ss
      ∙ rw (value, w.told.number, w.told.length, w.told.live, w.is) refl))

-- ---- a free

pub serves_freed : (s u new : EngineRow) (t quota base top : ℕ) → u ≡ freed_by s t (whole_of quota base top s.state.objects)
    → (o : heap.Object) (v : Cap) → WasWhole s u quota base top o → v ≡ integer 0 → new ≡ answered_in u t v
    → ServesAlone s new (Went (Some (act_by quota (Free o.number o.base o.length o.live))))
    (λ i m. freed_as i m t (find (spans_of quota base top) m.objects))
serves_freed s u new t quota base top left o v w value now =
    let r : Object = w.object in
    let freed_is : u ≡ freed s t r = left ∙ ap (freed_by s t) w.is in
    let charged : r.quota ≡ quota = (whole_says quota base top s.state.objects r w.is).quota_is in
    let zeroed : List Granule = zeroed_from r.base (r.base + r.length) s.region.ram s.state.granules in
    let became : Becomes s u = rw freed_is (record {
      size = marked_length (r.base - CHUNK_HEAD) (r.base + r.length) true s.region.ram zeroed
          ∙ zeroed_length r.base (r.base + r.length) s.region.ram s.state.granules;
      threads = length-set s.state.threads t _;
      made = omega arith;
      same = refl;
    }) in
    let leaves : State → Ran = λ y.
    Leaves (answers y t (integer 0)) (Some (r.quota, Free r.number r.base r.length (charges r.quota y.objects))) in
    rw now
    (serves_answer s u t v (Some (act_by quota (Free o.number o.base o.length o.live)))
    (λ i m. freed_as i m t (find (spans_of quota base top) m.objects)) became
    (λ i m ss h.
    ap (freed_as i (state_with m s ss) t) w.is
    ∙ ap leaves (freed_shown i m s ss t r h.ram ∙ ap (λ (x : EngineRow). state_with m x ss) (sym freed_is))
    ∙ rw (value, w.told.number, w.told.base, w.told.length, w.told.live, charged) refl))
