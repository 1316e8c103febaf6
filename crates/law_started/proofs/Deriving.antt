-- What boot made derives from a root word.
use Rattle.std.proofs.Common.{ℕ, zero, suc, ◌≡◌, ◌+◌, inl, inr, true, Option, Some, None, slice_get, slice_index_or, refl, sym, ap, ◌∙◌, subst}
use Rattle.ct_entry.specs.declared.rows.Entry.{Entry}
use Rattle.ct_entry.specs.declared.rows.Owner.{Owner}
use Rattle.ct_entry.specs.declared.rows.Owner.TheVariants.{Trusted, Compartment, Library, Thread}
use Rattle.ct_entry.specs.declared.rows.Kind.{Kind}
use Rattle.ct_entry.specs.declared.rows.Kind.TheVariants as kind
use Rattle.def_profile.specs.declared.rights.TheConstants.{SERVICE_RIGHTS}
use Rattle.def_profile.specs.declared.native.TheConstants.{RETURN_ENTRY, NATIVE_LENGTH}
use Rattle.def_profile.specs.declared.seals.TheConstants.{SENTRY_INHERIT, RETURN_ENABLE, EXPORT_TYPE, QUOTA_TYPE}
use Rattle.def_words.specs.declared.Cap.{Cap}
use Rattle.def_words.specs.Derive.{memory_root, executable_root, sealing_root}
use Rattle.def_memory.specs.Granules.{plain}
use Rattle.def_reach.specs.Roots.{gate_for}
use Rattle.def_machine.specs.Image.{made_cap}
use Rattle.def_image.specs.Parts.{ThreadRow, PartsRow}
use Rattle.def_image.specs.Members.{sealed, code_number}
use Rattle.def_image.specs.Sound.{Sound}
use Rattle.def_boot.specs.Entries.{entry_rows}
use Rattle.def_boot.specs.Gates.{gates_of}
use Rattle.def_boot.specs.Made.{from_entry, entry_cap_as, entry_cap, caps_at_boot, code_cap, boot_cap_of, entry_caps, return_sentry, sentry_type}
use Rattle.def_boot.specs.Boot.{image_of, boot_state, thread_entry_address, first_pcc}
use Rattle.def_boot.specs.Places.{Place, cap_at}
use Rattle.def_boot.specs.Listed.{IsRootWord, IsDerivedFromRoot, ComesFromRoot}
use Rattle.law_boot.proofs.Standing.{made_there, made_past}
use Rattle.law_boot.proofs.Sets.{no_way}
use Rattle.law_started.proofs.Starting.{everywhere, counter_addressed}

as_derived : (root n : ℕ) (r : Entry) (address type : ℕ) → IsRootWord root → IsDerivedFromRoot (entry_cap_as root n r address type)
as_derived root n r address type is = record { high = root; root_word = is; base = r.base; length = r.length; set = r.rights; address = address; kind = type; from = from_entry n; is = refl }

code_derived : (n : ℕ) (r : Entry) (o : Owner) → (code_cap n r o).tag ≡ true → IsDerivedFromRoot (code_cap n r o)
code_derived n r Trusted tagged = no_way tagged
code_derived n r (Compartment b) tagged = as_derived executable_root n r r.base 0 (inr (inl refl))
code_derived n r (Library l) tagged = no_way tagged
code_derived n r (Thread t) tagged = no_way tagged

by_derived : (p : PartsRow) (n : ℕ) (r : Entry) (k : Kind) → (entry_cap p n r k).tag ≡ true → IsDerivedFromRoot (entry_cap p n r k)
by_derived p n r kind.Code tagged = code_derived n r r.owner tagged
by_derived p n r kind.Globals tagged = as_derived memory_root n r r.base 0 (inl refl)
by_derived p n r kind.Stack tagged = as_derived memory_root n r (r.base + r.length) 0 (inl refl)
by_derived p n r kind.Service tagged = as_derived executable_root n r r.base SENTRY_INHERIT (inr (inl refl))
by_derived p n r kind.Device tagged = as_derived memory_root n r r.base 0 (inl refl)
by_derived p n r kind.Shared tagged = as_derived memory_root n r r.base 0 (inl refl)
by_derived p n r kind.Sealed tagged = as_derived memory_root n r r.base (sealed p r.of).seal (inl refl)
by_derived p n r kind.Call tagged = as_derived memory_root n r r.base EXPORT_TYPE (inl refl)
by_derived p n r kind.Library tagged = as_derived executable_root n r (gate_for (gates_of p) r.of).code (sentry_type (gate_for (gates_of p) r.of).posture) (inr (inl refl))
by_derived p n r kind.Quota tagged = as_derived memory_root n r r.base QUOTA_TYPE (inl refl)
by_derived p n r kind.Key tagged = as_derived sealing_root n r r.base 0 (inr (inr refl))
by_derived p n r kind.Export tagged = no_way tagged

sentry_derived : IsDerivedFromRoot return_sentry
sentry_derived = record { high = executable_root; root_word = inr (inl refl); base = RETURN_ENTRY; length = NATIVE_LENGTH; set = SERVICE_RIGHTS; address = RETURN_ENTRY; kind = RETURN_ENABLE; from = from_entry 0; is = refl }

row_derived : (p : PartsRow) (m : ℕ) (o : Option Entry) → slice_get (entry_rows p) m ≡ o → (slice_index_or (entry_caps p 1 (entry_rows p)) m (plain 0)).tag ≡ true → IsDerivedFromRoot (slice_index_or (entry_caps p 1 (entry_rows p)) m (plain 0))
row_derived p m None is tagged = no_way (sym (ap (λ (c : Cap). c.tag) (made_past p 1 (entry_rows p) m (plain 0) is)) ∙ tagged)
row_derived p m (Some r) is tagged =
    let same = made_there p 1 (entry_rows p) m r (plain 0) is in
    subst IsDerivedFromRoot (sym same) (by_derived p (1 + m) r r.kind (sym (ap (λ (c : Cap). c.tag) same) ∙ tagged))

pub for_derived : (p : PartsRow) (n : ℕ) → (boot_cap_of p n).tag ≡ true → IsDerivedFromRoot (boot_cap_of p n)
unfolding caps_at_boot
for_derived p zero tagged = sentry_derived
for_derived p (suc m) tagged = row_derived p m (slice_get (entry_rows p) m) refl tagged

module _ (p : PartsRow) (s : Sound p) where
  made_comes : (n : ℕ) → (made_cap (image_of p) n).tag ≡ true → ComesFromRoot (made_cap (image_of p) n)
  unfolding image_of
  made_comes n tagged = inl (for_derived p n tagged)

  counter_comes : (t : ℕ) (x : ThreadRow) → slice_get p.threads t ≡ Some x → (first_pcc p x).tag ≡ true → ComesFromRoot (first_pcc p x)
  counter_comes t x there tagged = inr (boot_cap_of p (code_number p x.compartment), thread_entry_address p x, for_derived p (code_number p x.compartment) (counter_addressed p s t x there tagged).tagged, refl)

  pub places_derived : (x : Place) → (cap_at (boot_state p) x).tag ≡ true → ComesFromRoot (cap_at (boot_state p) x)
  places_derived = everywhere p s ComesFromRoot (record { made = made_comes; counter = counter_comes })
