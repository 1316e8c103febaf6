-- What a step goes by is in its thread's view: of two states that agree on it the same is fetched and loaded.
use Rattle.std.proofs.Common.{ℕ, ◌≡◌, ◌+◌, ◌-◌, ◌*◌, ◌/◌, ◌%◌, ◌≤◌, ◌<◌, ◌==◌, ◌&&◌, ◌⊎◌, inl, inr, Bool, true, false, cond, nat_le, List, ◌∷◌, Option, Some, None, refl, sym, ap, ◌∙◌, subst, arith, slice_index_or, if◌then◌else◌}
use Rattle.std.proofs.lemmas.Bool.{eqb-true, and_parts}
use Rattle.law_lists.proofs.Tests.{bool_tells, chosen}
use Rattle.ct_entry.specs.declared.rows.Kind.TheVariants as kind
use Rattle.def_instr.specs.declared.Instr.{Instr}
use Rattle.def_instr.specs.declared.Instr.TheVariants.{Lh, Lw, Clc, Lhu, Sh, Sw, Csc}
use Rattle.def_instr.specs.Reading.{instruction_in}
use Rattle.def_words.specs.declared.Cap.{Cap}
use Rattle.def_words.specs.Authority.{cap_address, cap_base, cap_top}
use Rattle.def_words.specs.Capability.{integer, untagged}
use Rattle.def_words.specs.Loaded.{attenuated}
use Rattle.def_words.specs.Permissions.{bit, has, load_data, execute}
use Rattle.def_memory.specs.declared.Granule.{Granule}
use Rattle.def_memory.specs.Granules.{plain, granule_at}
use Rattle.def_memory.specs.Accesses.{byte_at, loaded, loaded_cap}
use Rattle.law_granules.proofs.Lists.{two_bytes, four_bytes}
use Rattle.def_reach.specs.Roots.{Listing, is_owned, is_stack}
use Rattle.def_reach.specs.Sharing.{Reaches}
use Rattle.def_machine.specs.Platform.{Platform}
use Rattle.def_machine.specs.Image.{Image, root, granule_of, address_of, stack_base}
use Rattle.def_machine.specs.Memory.{filtered_in}
use Rattle.def_machine.specs.Objects.{Any}
use Rattle.def_machine.specs.State.{State, Frame, thread, granule}
use Rattle.def_confined.specs.Capabilities.{heap_cap, stack_cap}
use Rattle.def_confined.specs.Confined.{Confined, MarksAt}
use Rattle.def_confined.specs.Partitioned.{Partitioned}
use Rattle.def_confined.specs.Places.{Placed, InFrames, OwnStack, WithinRun, LiveCovers}
use Rattle.def_step.specs.declared.Access.{Access}
use Rattle.def_profile.specs.declared.native.TheConstants.{RETURN_ENTRY}
use Rattle.def_step.specs.declared.Next.TheVariants.{Returning}
use Rattle.def_step.specs.Accesses.{MemoryAndDevices, Accessed, access_of, access_checks, load_checks, store_checks, access_address, accessed, in_ram, on_device, is_ram, ram_value, device_value, widened}
use Rattle.def_step.specs.Checks.{Check, first_failed}
use Rattle.def_step.specs.Devices.{device, found, bank_value, bank_value_at, value_read, registers_base}
use Rattle.def_step.specs.Instructions.{actor_of, bank_of, fetch_checks, fetched, is_native_entry, native_number, next_native, next_word, next_at, space_of}
use Rattle.def_step.specs.Operands.{operands_of}
use Rattle.def_safety.specs.Accesses.{IsUse}
use Rattle.def_safety.specs.Used.{authority_of, value_of, access_start, AccessPasses}
use Rattle.def_safety.specs.Wired.{Wired}
use Rattle.def_secrecy.specs.View.{ReadsObject, InView, SeesDevice}
use Rattle.def_secrecy.specs.Agreeing.{Agree}
use Rattle.def_secrecy.specs.Secrecy.{GoesByView}
use Rattle.std.specs.Prelude.{is_some}
use Rattle.law_moves.proofs.Authorities.{headed}
use Rattle.law_moves.proofs.Checks.{AllPass, all_pass}
use Rattle.law_moves.proofs.Deeds.{register_used, pcc_used}
use Rattle.law_moves.proofs.Derives.{within_less}
use Rattle.law_moves.proofs.Rows.{any_map}
use Rattle.law_routines.proofs.Accesses.{ram_begins}
use Rattle.law_events.proofs.Accesses.{width_of, LoadPasses, load_passes, range_says}

-- ---- choices

pub same_choice : {A : Type 0} (c d : Bool) (x y u v : A) → c ≡ d → (c ≡ true → x ≡ y) → (c ≡ false → u ≡ v) → cond c x u ≡ cond d y v
same_choice true true x y u v e one other = one refl
same_choice false false x y u v e one other = other refl
same_choice true false x y u v e one other = absurd (let clash : true ≡ false = e in cc)
same_choice false true x y u v e one other = absurd (let clash : false ≡ true = e in cc)

pub same_bool : (m n : Bool) → (m ≡ true → n ≡ true) → (n ≡ true → m ≡ true) → m ≡ n
same_bool true n f g = sym (f refl)
same_bool false false f g = refl
same_bool false true f g = g refl

-- ---- marks

-- marks go by the heap's rows
pub marks_same : (i : Image) (s z : State) → Confined i s → Confined i z → s.objects ≡ z.objects → (k : ℕ) → (granule s k).mark ≡ (granule z k).mark
marks_same i s z one two same k =
    same_bool (granule s k).mark (granule z k).mark
    (λ is. (two.marks k).all (subst (Any (MarksAt (address_of i k))) same ((one.marks k).why is)))
    (λ is. (one.marks k).all (subst (Any (MarksAt (address_of i k))) (sym same) ((two.marks k).why is)))

-- and so does the load filter
pub filter_same : (ram : ℕ) (gs hs : List Granule) → ((k : ℕ) → (granule_at gs k).mark ≡ (granule_at hs k).mark) → (c : Cap) → filtered_in ram gs c ≡ filtered_in ram hs c
filter_same ram gs hs marks c = ap (λ m. cond (c.tag && (nat_le ram (cap_base c) && m)) (untagged c) c) (marks ((cap_base c - ram) / 8))

-- ---- bytes

abbrev pub Narrow : ℕ → Type 0
Narrow width = (width ≡ 1) ⊎ (width ≡ 2) ⊎ (width ≡ 4)

-- of the same bytes the same is loaded
same_part : (gs hs : List Granule) (at width : ℕ) → Narrow width → at % width ≡ 0 → ((n : ℕ) → n < width → byte_at gs (at + n) ≡ byte_at hs (at + n)) → loaded gs at width ≡ loaded hs at width
same_part gs hs at width known aligned same = elim known [
  | inl one ↦
      let here : at + 0 ≡ at = omega arith in
      subst (λ w. loaded gs at w ≡ loaded hs at w) (sym one) (subst (λ x. byte_at gs x ≡ byte_at hs x) here (same 0 (omega (arith, one))))
  | inr more ↦ elim more [
    | inl two ↦
        let here : at + 0 ≡ at = omega arith in
        let even : at % 2 ≡ 0 = subst (λ w. at % w ≡ 0) two aligned in
        let low : byte_at gs at ≡ byte_at hs at = subst (λ x. byte_at gs x ≡ byte_at hs x) here (same 0 (omega (arith, two))) in
        let high = same 1 (omega (arith, two)) in
        subst (λ w. loaded gs at w ≡ loaded hs at w) (sym two)
        (two_bytes gs at even ∙ ap (λ n. n + 256 * byte_at gs (at + 1)) low ∙ ap (λ n. byte_at hs at + 256 * n) high ∙ sym (two_bytes hs at even))
    | inr four ↦
        let here : at + 0 ≡ at = omega arith in
        let even : at % 4 ≡ 0 = subst (λ w. at % w ≡ 0) four aligned in
        let a : byte_at gs at ≡ byte_at hs at = subst (λ x. byte_at gs x ≡ byte_at hs x) here (same 0 (omega (arith, four))) in
        let b = same 1 (omega (arith, four)) in
        let c = same 2 (omega (arith, four)) in
        let d = same 3 (omega (arith, four)) in
        subst (λ w. loaded gs at w ≡ loaded hs at w) (sym four)
        (four_bytes gs at even ∙ ap (λ n. n + 256 * byte_at gs (at + 1) + 65536 * byte_at gs (at + 2) + 16777216 * byte_at gs (at + 3)) a
        ∙ ap (λ n. byte_at hs at + 256 * n + 65536 * byte_at gs (at + 2) + 16777216 * byte_at gs (at + 3)) b
        ∙ ap (λ n. byte_at hs at + 256 * byte_at hs (at + 1) + 65536 * n + 16777216 * byte_at gs (at + 3)) c
        ∙ ap (λ n. byte_at hs at + 256 * byte_at hs (at + 1) + 65536 * byte_at hs (at + 2) + 16777216 * n) d ∙ sym (four_bytes hs at even))
  ]
]

-- the widths of instructions that move no whole granule
record Widths (a : Access) : Type 0 where
  narrow : a.whole ≡ false → Narrow a.width
  wide : a.whole ≡ true → a.width ≡ 8

some_width : (a : Access) → Narrow a.width → a.whole ≡ false → Widths a
some_width a known part = record { narrow = λ is. known; wide = λ is. absurd (let clash : true ≡ false = sym is ∙ part in cc) }

widths_of : (k : Instr) → Widths (access_of k)
widths_of (Clc v0 v1 v2) = record { narrow = λ is. absurd (let clash : true ≡ false = is in cc); wide = λ is. refl }
widths_of (Csc v0 v1 v2) = record { narrow = λ is. absurd (let clash : true ≡ false = is in cc); wide = λ is. refl }
widths_of (Lh v0 v1 v2) = some_width (access_of (Lh v0 v1 v2)) (inr (inl refl)) refl
widths_of (Lhu v0 v1 v2) = some_width (access_of (Lhu v0 v1 v2)) (inr (inl refl)) refl
widths_of (Lw v0 v1 v2) = some_width (access_of (Lw v0 v1 v2)) (inr (inr refl)) refl
widths_of (Sh v0 v1 v2) = some_width (access_of (Sh v0 v1 v2)) (inr (inl refl)) refl
widths_of (Sw v0 v1 v2) = some_width (access_of (Sw v0 v1 v2)) (inr (inr refl)) refl
widths_of k = some_width (access_of k) (inl refl) refl

-- ---- loads, by where they lead

pub load_in : (a : Access) (x y : Cap) (at : ℕ) (p : MemoryAndDevices) → is_ram p at a.width ≡ true → a.loads ≡ true → (accessed a x y at p).value ≡ Some (ram_value a x at p.ram p.granules)
load_in a x y at p ram loads = chosen (λ (m : Accessed). m.value ≡ Some (ram_value a x at p.ram p.granules)) (is_ram p at a.width) (in_ram a x y at p) (on_device a x y at p)
    (λ is. chosen (λ (m : Accessed). m.value ≡ Some (ram_value a x at p.ram p.granules)) a.loads _ _ (λ yes. refl) (λ no. absurd (let clash : true ≡ false = sym loads ∙ no in cc)))
    (λ not. absurd (let clash : true ≡ false = sym ram ∙ not in cc))

pub load_off : (a : Access) (x y : Cap) (at : ℕ) (p : MemoryAndDevices) → is_ram p at a.width ≡ false → a.loads ≡ true → (accessed a x y at p).value ≡ Some (device_value a x (bank_value p.bank at a.width p.time))
load_off a x y at p away loads = chosen (λ (m : Accessed). m.value ≡ Some (device_value a x (bank_value p.bank at a.width p.time))) (is_ram p at a.width) (in_ram a x y at p) (on_device a x y at p)
    (λ is. absurd (let clash : true ≡ false = sym is ∙ away in cc))
    (λ not. chosen (λ (m : Accessed). m.value ≡ Some (device_value a x (bank_value p.bank at a.width p.time))) a.loads _ _ (λ yes. refl) (λ no. absurd (let clash : true ≡ false = sym loads ∙ no in cc)))

-- what stands at an address goes by the word there
same_next : (p q : MemoryAndDevices) (at : ℕ) → fetched p at ≡ fetched q at → next_at p at ≡ next_at q at
same_next p q at e = ap (λ w. if at == RETURN_ENTRY then Returning else if is_native_entry at then next_native (native_number at) else next_word (instruction_in w)) e

module _ (b : Platform) (s z : State) (t : ℕ) (parts : Partitioned b.image) (wired : Wired b) (one : Confined b.image s) (two : Confined b.image z) (runs : s.running ≡ Some t) (agree : Agree b t s z) where
  -- ---- what is in view

  -- through a capability that the thread uses
  pub seen : (c : Cap) (f : Frame) (fs : List Frame) → (thread s t).frames ≡ f ∷ fs → IsUse b.image s.objects t f.actor c → (stack_cap b.image c ≡ true → WithinRun b.image (f ∷ fs) (cap_top c))
      → (has c load_data ≡ true) ⊎ (has c execute ≡ true) → (x : ℕ) → cap_base c ≤ x → x < cap_top c → InView b.image s t x
  seen c f fs frames u run may x low high =
      let actor : f.actor ≡ actor_of (thread s t).frames = sym (ap actor_of frames) in
      elim (bool_tells (heap_cap b.image c)) [
        | inl heap ↦ inr (inl (any_map (LiveCovers c) (ReadsObject b.image (actor_of (thread s t).frames) x) s.objects (λ q k.
            let from = k.1.low in
            let to = k.1.high in
            record {
              live = k.0;
              reached = λ owned. subst (λ d. Reaches b.image.entries (root b.image q.quota).owner d) actor
                  (subst (λ n. Reaches b.image.entries (root b.image n).owner f.actor) (sym k.1.quota) (u.owner (subst (λ n. is_owned (root b.image n).origin ≡ true) k.1.quota owned)));
              low = omega (arith, from, low);
              high = omega (arith, to, high);
            })
            (u.live heap (omega (arith, low, high)))))
        | inr other ↦
            let range = u.range other in
            let top = range.1 in
            elim (bool_tells (is_stack (root b.image c.shadow.root).origin)) [
              | inl stack ↦
                  let base : stack_base b.image t ≤ cap_base c = subst (λ n. (root b.image n).base ≤ cap_base c) (u.own stack) range.0 in
                  inr (inr (omega (arith, base, low), subst (λ gs. WithinRun b.image gs (x + 1)) (sym frames) (within_less b.image (f ∷ fs) (cap_top c) (x + 1) (omega (arith, high)) (run stack))))
              | inr no_stack ↦
                  let base = range.0 in
                  inl (
                    c.shadow.root,
                    record {
                      no_stack = no_stack;
                      reached = λ owned. subst (λ d. Reaches b.image.entries (root b.image c.shadow.root).owner d) actor (u.owner owned);
                      may = elim may [ inl loads ↦ inl (u.rights other load_data loads) | inr runs_it ↦ inr (u.rights other execute runs_it) ];
                      low = omega (arith, base, low);
                      high = omega (arith, top, high);
                    },
                  )
            ]
      ]

  -- as far as the run of frames goes, where it is of a stack
  pub run_of : (c : Cap) (f : Frame) (fs : List Frame) → (thread s t).frames ≡ f ∷ fs → InFrames b.image s.objects t (thread s t).frames c → c.tag ≡ true → stack_cap b.image c ≡ true → WithinRun b.image (f ∷ fs) (cap_top c)
  run_of c f fs frames placed tagged stack =
      let there : Placed b.image s.objects (λ d. d ≡ f.actor) (OwnStack b.image t (f ∷ fs)) c = (subst (λ (gs : List Frame). InFrames b.image s.objects t gs c) frames placed) tagged in
      (there.own stack).1

  -- ---- memory

  pub same_bytes : (at width : ℕ) → b.image.ram ≤ at → Narrow width → at % width ≡ 0 → ((x : ℕ) → at ≤ x → x < at + width → InView b.image s t x) → loaded s.granules (at - b.image.ram) width ≡ loaded z.granules (at - b.image.ram) width
  same_bytes at width above known aligned sees = same_part s.granules z.granules (at - b.image.ram) width known (still known)
      (λ n lt.
      let here : at + n - b.image.ram ≡ at - b.image.ram + n = omega (arith, above) in
      subst (λ x. byte_at s.granules x ≡ byte_at z.granules x) here (agree.memory.bytes (at + n) (omega (arith, above)) (sees (at + n) (omega arith) (omega (arith, lt)))))
    where
      still : Narrow width → (at - b.image.ram) % width ≡ 0
      still known =
          let ram = parts.even.0 in
          elim known [
            | inl w ↦ subst (λ n. (at - b.image.ram) % n ≡ 0) (sym w) (omega arith)
            | inr more ↦ elim more [
              | inl w ↦ (let even : at % 2 ≡ 0 = subst (λ n. at % n ≡ 0) w aligned in subst (λ n. (at - b.image.ram) % n ≡ 0) (sym w) (omega (arith, even, ram, above)))
              | inr w ↦ (let even : at % 4 ≡ 0 = subst (λ n. at % n ≡ 0) w aligned in subst (λ n. (at - b.image.ram) % n ≡ 0) (sym w) (omega (arith, even, ram, above)))
            ]
          ]

  same_whole : (at : ℕ) → b.image.ram ≤ at → at % 8 ≡ 0 → ((x : ℕ) → at ≤ x → x < at + 8 → InView b.image s t x) → loaded_cap s.granules (at - b.image.ram) ≡ loaded_cap z.granules (at - b.image.ram)
  same_whole at above aligned sees =
      let ram = parts.even.0 in
      let back : address_of b.image (granule_of b.image at) ≡ at = omega (arith, above, aligned, ram) in
      agree.memory.whole (granule_of b.image at) (λ n lt. sees (address_of b.image (granule_of b.image at) + n) (omega (arith, back)) (omega (arith, back, lt)))

  pub same_mark : (k : ℕ) → (granule s k).mark ≡ (granule z k).mark
  same_mark = marks_same b.image s z one two agree.public.objects

  pub same_ram : (at width : ℕ) → is_ram (space_of b s) at width ≡ is_ram (space_of b z) at width
  same_ram at width = ap (λ n. nat_le b.image.ram at && nat_le (at + width) (b.image.ram + 8 * n)) agree.memory.size

  -- ---- what stands at the program counter

  same_fetched : first_failed (fetch_checks (thread s t).pcc) ≡ None → fetched (space_of b s) (cap_address (thread s t).pcc) ≡ fetched (space_of b z) (cap_address (thread s t).pcc)
  same_fetched passes =
      let all = all_pass (fetch_checks (thread s t).pcc) passes in
      let at : ℕ = cap_address (thread s t).pcc in
      let range = range_says (thread s t).pcc (cap_address (thread s t).pcc) (cap_address (thread s t).pcc + 4) all.1.1.1.0 in
      let low = range.0 in
      let high = range.1 in
      let head = headed b.image s.objects t (thread s t).frames (thread s t).pcc (one.pcc t) all.0 in
      let u = pcc_used b.image s t head.0 head.1.0 one head.1.1 all.0 in
      same_choice (is_ram (space_of b s) (cap_address (thread s t).pcc) 4 && (cap_address (thread s t).pcc % 4 == 0)) (is_ram (space_of b z) (cap_address (thread s t).pcc) 4 && (cap_address (thread s t).pcc % 4 == 0))
      (loaded s.granules (cap_address (thread s t).pcc - b.image.ram) 4) (loaded z.granules (cap_address (thread s t).pcc - b.image.ram) 4) 0 0
      (ap (λ r. r && (cap_address (thread s t).pcc % 4 == 0)) (same_ram (cap_address (thread s t).pcc) 4))
      (λ is.
      let both = and_parts (is_ram (space_of b s) (cap_address (thread s t).pcc) 4) (cap_address (thread s t).pcc % 4 == 0) is in
      same_bytes (cap_address (thread s t).pcc) 4 (ram_begins (space_of b s) (cap_address (thread s t).pcc) 4 both.0) (inr (inr refl)) (eqb-true (cap_address (thread s t).pcc % 4) 0 both.1)
      (λ x from to. seen (thread s t).pcc head.0 head.1.0 head.1.1 u.0 (run_of (thread s t).pcc head.0 head.1.0 head.1.1 (one.pcc t) all.0) (inr all.1.1.0) x (omega (arith, low, from)) (omega (arith, high, to))))
      (λ not. refl)

  -- ---- what a load gives

  same_value : (a : Access) (x : Cap) (at : ℕ) → Widths a → b.image.ram ≤ at → at % a.width ≡ 0 → ((n : ℕ) → at ≤ n → n < at + a.width → InView b.image s t n) → ram_value a x at b.image.ram s.granules ≡ ram_value a x at b.image.ram z.granules
  same_value a x at wide above aligned sees =
      same_choice a.whole a.whole (filtered_in b.image.ram s.granules (attenuated x (loaded_cap s.granules (at - b.image.ram)))) (filtered_in b.image.ram z.granules (attenuated x (loaded_cap z.granules (at - b.image.ram))))
      (integer (widened a (loaded s.granules (at - b.image.ram) a.width))) (integer (widened a (loaded z.granules (at - b.image.ram) a.width))) refl
      (λ whole.
      let eight : a.width ≡ 8 = wide.wide whole in
      filter_same b.image.ram s.granules z.granules same_mark (attenuated x (loaded_cap s.granules (at - b.image.ram)))
      ∙ ap (λ c. filtered_in b.image.ram z.granules (attenuated x c)) (same_whole at above (subst (λ w. at % w ≡ 0) eight aligned) (λ n from to. sees n from (omega (arith, eight, to)))))
      (λ part. ap (λ n. integer (widened a n)) (same_bytes at a.width above (wide.narrow part) aligned sees))

  pub same_bank : (at width : ℕ) (o : Option ℕ) → found b.bases at ≡ o → ((m : ℕ) → o ≡ Some m → SeesDevice b (thread s t).frames m) → bank_value_at (bank_of b s) o at width s.time ≡ bank_value_at (bank_of b z) o at width z.time
  same_bank at width None e sees = refl
  same_bank at width (Some m) e sees =
      ap (λ d. value_read d (at - registers_base b.bases m) width s.time) (agree.devices m (sees m refl)) ∙ ap (λ time. value_read (device z.devices m) (at - registers_base b.bases m) width time) agree.public.time

  -- a device that a capability of the thread reaches
  pub of_device : (c : Cap) (at m : ℕ) (f : Frame) (fs : List Frame) → (thread s t).frames ≡ f ∷ fs → IsUse b.image s.objects t f.actor c → has c load_data ≡ true → found b.bases at ≡ Some m → cap_base c ≤ at → at < cap_top c → SeesDevice b (thread s t).frames m
  of_device c at m f fs frames u loads here low high =
      let there : is_some (found b.bases at) ≡ true = ap is_some here in
      elim (bool_tells (heap_cap b.image c)) [
        | inl heap ↦
            let lies = u.heap heap in
            let from = lies.0 in
            let to = lies.1 in
            let away = wired.apart at (omega (arith, from, low)) (omega (arith, to, high)) in
            absurd (let clash : true ≡ false = sym there ∙ away in cc)
        | inr other ↦
            let range = u.range other in
            let base = range.0 in
            let top = range.1 in
            let may : bit (root b.image c.shadow.root).rights load_data ≡ true = u.rights other load_data loads in
            let is : (root b.image c.shadow.root).origin ≡ Listing kind.Device = wired.devices c.shadow.root at (inl may) (omega (arith, base, low)) (omega (arith, top, high)) there in
            record {
              entry = c.shadow.root;
              address = at;
              reads = record {
                no_stack = ap is_stack is;
                reached = λ owned. subst (λ d. Reaches b.image.entries (root b.image c.shadow.root).owner d) (sym (ap actor_of frames)) (u.owner owned);
                may = inl may;
                low = omega (arith, base, low);
                high = omega (arith, top, high);
              };
              is_device = is;
              here = here;
            }
      ]

  load_says : (k : Instr) → AccessPasses s t k → (access_of k).loads ≡ true → LoadPasses (access_of k) (authority_of s t k) (access_start s t k)
  load_says k passes loads = load_passes (access_of k) (authority_of s t k) (access_start s t k)
      (chosen (λ (cs : List Check). AllPass cs → AllPass (load_checks (access_of k) (authority_of s t k) (access_start s t k))) (access_of k).loads (load_checks (access_of k) (authority_of s t k) (access_start s t k)) (store_checks (access_of k) (authority_of s t k) (access_start s t k) ((access_of k).whole && (value_of s t k).tag))
      (λ is h. h)
      (λ not. absurd (let clash : true ≡ false = sym loads ∙ not in cc))
      (all_pass (access_checks (access_of k) (authority_of s t k) (value_of s t k) (access_start s t k)) passes))

  -- what a device that a load reaches gives
  pub same_device : (k : Instr) → AccessPasses s t k → (access_of k).loads ≡ true → bank_value (bank_of b s) (access_start s t k) (access_of k).width s.time ≡ bank_value (bank_of b z) (access_start s t k) (access_of k).width z.time
  same_device k passes loads =
      let says = load_says k passes loads in
      let low = says.low in
      let high = says.high in
      let some = (width_of k).some in
      let head = headed b.image s.objects t (thread s t).frames (authority_of s t k) (one.registers t (operands_of k).first) says.tagged in
      let u = register_used b.image s t (operands_of k).first head.0 head.1.0 one runs head.1.1 says.tagged in
      same_bank (access_start s t k) (access_of k).width (found b.bases (access_start s t k)) refl (λ m is. of_device (authority_of s t k) (access_start s t k) m head.0 head.1.0 head.1.1 u says.loads is low (omega (arith, high, some)))

  pub same_load : (k : Instr) → AccessPasses s t k → (access_of k).loads ≡ true
      → (accessed (access_of k) (authority_of s t k) (value_of s t k) (access_start s t k) (space_of b s)).value ≡ (accessed (access_of k) (authority_of s t k) (value_of s t k) (access_start s t k) (space_of b z)).value
  same_load k passes loads =
      let a : Access = access_of k in
      let c : Cap = authority_of s t k in
      let at : ℕ = access_start s t k in
      let says = load_says k passes loads in
      let low = says.low in
      let high = says.high in
      let some = (width_of k).some in
      let head = headed b.image s.objects t (thread s t).frames (authority_of s t k) (one.registers t (operands_of k).first) says.tagged in
      let u = register_used b.image s t (operands_of k).first head.0 head.1.0 one runs head.1.1 says.tagged in
      elim (bool_tells (is_ram (space_of b s) (access_start s t k) (access_of k).width)) [
        | inl ram ↦
            load_in a c (value_of s t k) at (space_of b s) ram loads
            ∙ ap (λ v. Some v) (same_value a c at (widths_of k) (ram_begins (space_of b s) at (access_of k).width ram) says.aligned
            (λ x from to. seen c head.0 head.1.0 head.1.1 u (run_of c head.0 head.1.0 head.1.1 (one.registers t (operands_of k).first) says.tagged) (inl says.loads) x (omega (arith, low, from)) (omega (arith, high, to))))
            ∙ sym (load_in a c (value_of s t k) at (space_of b z) (sym (same_ram at (access_of k).width) ∙ ram) loads)
        | inr away ↦
            load_off a c (value_of s t k) at (space_of b s) away loads
            ∙ ap (λ v. Some (device_value a c v)) (same_bank at (access_of k).width (found b.bases at) refl (λ m is. of_device c (access_start s t k) m head.0 head.1.0 head.1.1 u says.loads is low (omega (arith, high, some))))
            ∙ sym (load_off a c (value_of s t k) at (space_of b z) (sym (same_ram at (access_of k).width) ∙ away) loads)
      ]

  pub goes_by_view : GoesByView b s z t
  goes_by_view = record {
    fetches = ap (λ c. first_failed (fetch_checks c)) agree.self.pcc;
    stands = λ passes. same_next (space_of b s) (space_of b z) (cap_address (thread s t).pcc) (same_fetched passes) ∙ ap (λ c. next_at (space_of b z) (cap_address c)) agree.self.pcc;
    operands = λ n. ap (λ rs. slice_index_or rs n (plain 0)) agree.self.registers;
    loads = λ k passes loads. same_load k passes loads
        ∙ ap (λ rs. (accessed (access_of k) (slice_index_or rs (operands_of k).first (plain 0)) (slice_index_or rs (operands_of k).second (plain 0)) (access_address (access_of k) (slice_index_or rs (operands_of k).first (plain 0))) (space_of b z)).value) agree.self.registers;
  }
