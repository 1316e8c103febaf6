-- What is due on the samples' rows.
use Rattle.std.proofs.Common.{ℕ, ◌≡◌, ◌∙◌, List, length, take, drop, Some, None, Result, slice_get, codes, refl, sym, ap, subst, arith}
use Rattle.std.proofs.lemmas.List.{take_all}
use Rattle.def_image.specs.Parts.{PartsRow}
use Rattle.def_desc.specs.Rows.{DescRow}
use Rattle.def_desc.specs.Tables.{device_kind_named, posture_of, library_posture_of, passes_of, service_of}
use Rattle.def_link.specs.declared.LinkFault.{LinkFault}
use Rattle.def_link.specs.Linked.{linked}
use Rattle.def_program.specs.Commands.{Command}
use Rattle.def_program.specs.Turns.{Turn, OfLinked, OfSources, OfRows, source_names}
use Rattle.law_link_samples.specs.Samples.{tiny_rows, tiny_in, filed}

-- where no further source is due, what is linked tells
pub of_rows : (c : Command) (d : DescRow) (sources : List (List ℕ)) (turn : Turn) (r : Result PartsRow LinkFault)
    → slice_get (source_names d) (length sources) ≡ None → length sources ≡ length (source_names d) → linked d sources ≡ r
    → OfLinked c d r (drop (length (source_names d)) sources) turn → OfRows c d sources turn
of_rows c d sources turn r none size is due =
    let own : take (length (source_names d)) sources ≡ sources = take_all (length (source_names d)) sources (omega (arith, size)) in
    subst (λ o. OfSources c d (take (length (source_names d)) sources) (drop (length (source_names d)) sources) o turn) (sym none)
    (subst (λ z. OfLinked c d z (drop (length (source_names d)) sources) turn) (sym (ap (linked d) own ∙ is)) due)

pub no_file : slice_get (source_names tiny_rows) 0 ≡ None
unfolding device_kind_named posture_of library_posture_of passes_of service_of
no_file = refl

pub no_file_in : slice_get (source_names (tiny_in 640)) 0 ≡ None
unfolding device_kind_named posture_of library_posture_of passes_of service_of
no_file_in = refl

pub one_file : slice_get (source_names filed) 0 ≡ Some (codes "app.s")
unfolding device_kind_named posture_of library_posture_of passes_of service_of
one_file = refl

pub no_other : slice_get (source_names filed) 1 ≡ None
unfolding device_kind_named posture_of library_posture_of passes_of service_of
no_other = refl

-- ---- how many files there are

pub no_files : 0 ≡ length (source_names tiny_rows)
unfolding device_kind_named posture_of library_posture_of passes_of service_of
no_files = refl

pub no_files_in : 0 ≡ length (source_names (tiny_in 640))
unfolding device_kind_named posture_of library_posture_of passes_of service_of
no_files_in = refl

pub one : 1 ≡ length (source_names filed)
unfolding device_kind_named posture_of library_posture_of passes_of service_of
one = refl
