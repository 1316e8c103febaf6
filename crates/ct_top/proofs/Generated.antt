-- A generated firmware can be linked.
use Rattle.std.proofs.Common.{◌≡◌, ℕ, zero, suc, ◌+◌, List, length, map, refl, sym, ap, ◌∙◌, subst, arith}
use Rattle.std.specs.List.{range_with_len}
use Rattle.def_desc.specs.Reading.{description_of}
use Rattle.def_desc.specs.Rows.{DescRow}
use Rattle.def_desc.specs.WellFormed.{WellFormed}
use Rattle.def_link.specs.Linked.{linked}
use Rattle.def_link.specs.Owners.{compartment_unit, numbered, units_of}
use Rattle.def_port.specs.Bytes.{SinkView}
use Rattle.def_port.specs.Told.{FolderView}
use Rattle.def_gen.specs.Description.{firmware}
use Rattle.def_gen.specs.Numbers.{count_of}
use Rattle.def_gen.specs.Sources.{sources}
use Rattle.def_program.specs.Commands.{Command}
use Rattle.def_program.specs.Turns.{OfLinked, OfNumber}
use Rattle.def_program.specs.declared.Status.{Status}
use Rattle.law_desc.proofs.Judging.{same_rows}
use Rattle.law_desc.proofs.Lawfuls.{value_lawful}
use Rattle.law_gen.proofs.Faultless.{faultless}
use Rattle.law_gen.proofs.Linking.{Plan, plan, row_at, seed_units}
use Rattle.law_gen.proofs.Short.{each, short}
use Rattle.ct_link_objects.specs.Objects.{files_of, IsLinkable}
use Rattle.ct_commands.specs.Ended.{EndsBy}

files_counted : (p : Plan) (a m : ℕ) → files_of (numbered compartment_unit a (map (row_at p) (range_with_len a m))) ≡ m
files_counted p a zero = refl
files_counted p a (suc m) = let rest = files_counted p (a + 1) m in omega (arith, rest)

as_many : (seed : ℕ) → length (sources seed) ≡ files_of (units_of (description_of (firmware seed)))
as_many seed = each seed ∙ sym (files_counted (plan seed) 0 (count_of seed)) ∙ ap files_of (sym (seed_units seed))

linkable_seed : (seed : ℕ) → IsLinkable (description_of (firmware seed)) (sources seed)
linkable_seed seed = record {
  lawful = value_lawful (firmware seed) (faultless seed);
  sourced = record { each = as_many seed; short = short seed };
}

-- what was read of its text are its rows
pub rows_read : (seed : ℕ) (text bytes : List ℕ) (d : DescRow) → WellFormed text (description_of (firmware seed)) → bytes ≡ text → WellFormed bytes d → d ≡ description_of (firmware seed)
rows_read seed text bytes d well same read = same_rows text d (description_of (firmware seed)) (subst (λ (b : List ℕ). WellFormed b d) same read) well

pub linkable : (seed : ℕ) (d : DescRow) (texts : List (List ℕ)) → d ≡ description_of (firmware seed) → texts ≡ sources seed → IsLinkable d texts
linkable seed d texts rows given =
    subst (λ (x : DescRow). IsLinkable x texts) (sym rows) (subst (λ (ts : List (List ℕ)). IsLinkable (description_of (firmware seed)) ts) (sym given) (linkable_seed seed))

pub linked_number : (c : Command) (seed : ℕ) (d : DescRow) (texts : List (List ℕ)) (folder folder_after : FolderView) (sink sink_after : SinkView) (result : Status) → d ≡ description_of (firmware seed) → texts ≡ sources seed
    → EndsBy (OfLinked c d (linked d texts)) folder folder_after sink sink_after result → EndsBy (OfNumber c seed) folder folder_after sink sink_after result
linked_number c seed d texts folder folder_after sink sink_after result rows given s =
    subst (λ (ts : List (List ℕ)). EndsBy (OfLinked c (description_of (firmware seed)) (linked (description_of (firmware seed)) ts)) folder folder_after sink sink_after result) given
    (subst (λ (x : DescRow). EndsBy (OfLinked c x (linked x texts)) folder folder_after sink sink_after result) rows s)
