-- The places of a booted state: what each holds.
use Rattle.std.proofs.Common.{ℕ, zero, suc, ◌≡◌, ◌+◌, ◌^◌, ◌<◌, ◌≤◌, true, List, [], ◌∷◌, Some, unwrap_or, slice_get, slice_index_or, refl, sym, ap, ◌∙◌, subst, arith, length}
use Rattle.def_words.specs.declared.Cap.{Cap}
use Rattle.def_words.specs.declared.Bounds.{Bounds}
use Rattle.def_words.specs.declared.Shadow.{Shadow}
use Rattle.def_memory.specs.Granules.{plain}
use Rattle.def_machine.specs.Image.{made_cap, booted}
use Rattle.def_machine.specs.State.{nobody, thread, register}
use Rattle.def_machine.specs.Objects.{Each}
use Rattle.def_machine.specs.Rows.{RowsFit}
use Rattle.def_image.specs.Parts.{CompartmentRow, ThreadRow, PartsRow}
use Rattle.def_image.specs.Members.{compartment, no_compartment, text_base, code_number, globals_number, stack_number}
use Rattle.def_image.specs.Sound.{Sound}
use Rattle.def_boot.specs.Made.{boot_cap_of, return_sentry}
use Rattle.def_boot.specs.Boot.{image_of, boot_state, entered_export, thread_entry_address, offset_of, first_pcc, first_registers, first_thread, first_threads}
use Rattle.def_boot.specs.Places.{Place, InRam, InCounter, InRegister, cap_at, IsBareFrame}
use Rattle.def_boot.specs.Listed.{IsListed}
use Rattle.law_words.proofs.Narrowing.{Addressed, addressed}
use Rattle.law_moves.proofs.Places.{all_of}
use Rattle.law_boot.proofs.Standing.{compartment_of}
use Rattle.law_boot.proofs.Lying.{own_there}
use Rattle.law_boot.proofs.Sets.{no_way}
use Rattle.law_boot.proofs.Contents.{booted_made}
use Rattle.law_boot.proofs.Rooting.{faithful}
use Rattle.law_started.proofs.Granules.{same_granule}
use Rattle.law_started.proofs.Threads.{of_thread}
use Rattle.law_started.proofs.Grants.{sentry_is, listed_by, made_grant, made_listed}

pub frames_bare : (p : PartsRow) (t : ℕ) → Each IsBareFrame (thread (boot_state p) t).frames
frames_bare p t = of_thread p (λ th. Each IsBareFrame th.frames) t (λ x there. (record { c1 = refl; c2 = refl; c3 = refl; c8 = refl; c9 = refl }, tt)) tt

-- a thread for each row, and no key and no token
pub threads_count : (p : PartsRow) (n : ℕ) (xs : List ThreadRow) → length (first_threads p n xs) ≡ length xs
threads_count p n [] = refl
threads_count p n (x ∷ xs) = ap (λ k. suc k) (threads_count p (n + 1) xs)

pub no_rows : (p : PartsRow) → RowsFit (boot_state p).objects (boot_state p).tokens
unfolding boot_state
no_rows p = record { differ = tt; live = tt }

-- the thread of a row
pub rows_start : (p : PartsRow) (from : ℕ) (xs : List ThreadRow) (t : ℕ) (x : ThreadRow) → slice_get xs t ≡ Some x → slice_index_or (first_threads p from xs) t nobody ≡ first_thread p (from + t) x
rows_start p from [] t x is = cc
rows_start p from (y ∷ ys) zero x is =
    let row : y ≡ x = cc in
    let number : from ≡ from + 0 = omega arith in
    ap (first_thread p from) row ∙ ap (λ n. first_thread p n x) number
rows_start p from (y ∷ ys) (suc t) x is =
    let number : from + 1 + t ≡ from + suc t = omega arith in
    rows_start p (from + 1) ys t x is ∙ ap (λ n. first_thread p n x) number

pub thread_starts : (p : PartsRow) (t : ℕ) (x : ThreadRow) → slice_get p.threads t ≡ Some x → thread (boot_state p) t ≡ first_thread p t x
unfolding boot_state
thread_starts p t x is = let number : 0 + t ≡ t = omega arith in rows_start p 0 p.threads t x is ∙ ap (λ n. first_thread p n x) number

module _ (p : PartsRow) (s : Sound p) where
  -- what holds of each that boot made and is tagged, and of a program counter, holds of all that is tagged
  pub record OfMade (P : Cap → Type 0) : Type 0 where
    pub made : (n : ℕ) → (made_cap (image_of p) n).tag ≡ true → P (made_cap (image_of p) n)
    pub counter : (t : ℕ) (x : ThreadRow) → slice_get p.threads t ≡ Some x → (first_pcc p x).tag ≡ true → P (first_pcc p x)

  at_granule : (P : Cap → Type 0) → OfMade P → (k : ℕ) → (booted (image_of p) k).cap.tag ≡ true → P (booted (image_of p) k).cap
  unfolding image_of
  at_granule P h k tagged =
      let found = booted_made p k tagged in
      subst P (sym found.1) (h.made found.0 (ap (λ (c : Cap). c.tag) (sym found.1) ∙ tagged))

  abbrev Tagged : (Cap → Type 0) → Cap → Type 0
  Tagged P c = c.tag ≡ true → P c

  sentry_tagged : (P : Cap → Type 0) → OfMade P → Tagged P return_sentry
  sentry_tagged P h = subst (Tagged P) (sentry_is p) (h.made 0)

  for_tagged : (P : Cap → Type 0) → OfMade P → (n : ℕ) → Tagged P (boot_cap_of p n)
  unfolding image_of
  for_tagged P h n = h.made n

  plain_tagged : (P : Cap → Type 0) → Tagged P (plain 0)
  plain_tagged P tagged = no_way tagged

  at_register : (P : Cap → Type 0) → OfMade P → (t : ℕ) (x : ThreadRow) (n : ℕ) → Tagged P (slice_index_or (first_registers p t x) n (plain 0))
  at_register P h t x n =
      let none : Tagged P (plain 0) = plain_tagged P in
      all_of (Tagged P) (first_registers p t x) (plain 0) none
      (none, (sentry_tagged P h, (for_tagged P h (stack_number p t), (for_tagged P h (globals_number p x.compartment), (none, (none, (none, (none, (none, (none, (none, (none, (none, (none, (none, (none, tt)))))))))))))))) n

  pub everywhere : (P : Cap → Type 0) → OfMade P → (x : Place) → (cap_at (boot_state p) x).tag ≡ true → P (cap_at (boot_state p) x)
  everywhere P h (InRam k) tagged = subst (λ g. g.cap.tag ≡ true → P g.cap) (sym (same_granule p s k)) (at_granule P h k) tagged
  everywhere P h (InCounter t) tagged = of_thread p (λ th. Tagged P th.pcc) t (λ x there. h.counter t x there) (plain_tagged P) tagged
  everywhere P h (InRegister t n) tagged = of_thread p (λ th. Tagged P (register th n)) t (λ x there. at_register P h t x n) (plain_tagged P) tagged

  -- ---- the program counter

  module _ (t : ℕ) (x : ThreadRow) (there : slice_get p.threads t ≡ Some x) where
    address_small : thread_entry_address p x < 2 ^ 32
    address_small =
        let enters = (s.thread t x there).enters in
        let own : compartment p x.compartment ≡ enters.0 = ap (λ o. unwrap_or o no_compartment) enters.2 in
        let base : text_base (compartment p x.compartment).code ≡ text_base enters.0.code = ap (λ (c : CompartmentRow). text_base c.code) own in
        let offset : offset_of (entered_export p x) ≡ enters.1.row.offset = ap offset_of (ap (λ (c : CompartmentRow). slice_get c.code.exports x.export) own ∙ enters.3) in
        let fits = s.compartment x.compartment enters.0 enters.2 in
        let text = fits.code.fits in
        let inside = (fits.export x.export enters.1 enters.3).offset.inside in
        let high = (own_there p s x.compartment enters.0 enters.2).code.high in
        let below = s.heap.inside in
        let end = s.ram.end in
        omega (arith, base, offset, text, inside, high, below, end)

    counted : 1 ≤ code_number p x.compartment
    counted = let enters = (s.thread t x there).enters in (compartment_of p x.compartment enters.0 enters.2).code.counted

    pub counter_addressed : (first_pcc p x).tag ≡ true → Addressed (boot_cap_of p (code_number p x.compartment)) (thread_entry_address p x)
    counter_addressed tagged = addressed (boot_cap_of p (code_number p x.compartment)) (thread_entry_address p x) address_small tagged

    pub counter_listed : (first_pcc p x).tag ≡ true → IsListed (image_of p) (first_pcc p x)
    unfolding image_of
    counter_listed tagged =
        let a = counter_addressed tagged in
        let g = made_grant p s (code_number p x.compartment) a.tagged in
        listed_by p (code_number p x.compartment) (first_pcc p x) (faithful p s (code_number p x.compartment) a.tagged).roots
        (λ e. absurd (let low = counted in omega (arith, low, e)))
        (record {
          root_is = ap (λ (z : Shadow). z.root) a.shadows ∙ g.root_is;
          source_is = ap (λ (z : Shadow). z.source) a.shadows ∙ g.source_is;
          base_is = ap (λ (b : Bounds). b.base) a.bounds ∙ g.base_is;
          top_is = ap (λ (b : Bounds). b.top) a.bounds ∙ g.top_is;
          rights_are = a.rights ∙ g.rights_are;
        })

  pub places_listed : (x : Place) → (cap_at (boot_state p) x).tag ≡ true → IsListed (image_of p) (cap_at (boot_state p) x)
  places_listed = everywhere (IsListed (image_of p)) (record { made = made_listed p s; counter = counter_listed })
