use Rattle.std.proofs.Common.{inr, [], ◌∷◌, None, Ok, Err, codes, drop, length, refl, sym, subst, take}
use Rattle.std.specs.Fmt.{digits}
use Rattle.ct_entry.specs.declared.rows.Owner.TheVariants.{Compartment}
use Rattle.def_desc.specs.Tables.{device_kind_named, posture_of, library_posture_of, passes_of, service_of}
use Rattle.def_link.specs.declared.LinkFault.TheVariants as fault
use Rattle.def_program.specs.Commands.{Audit, Image, Run, file_of}
use Rattle.def_program.specs.Turns.{Asks, FollowsBy, OfSources, source_names}
use Rattle.law_image_samples.specs.Tiny.{tiny}
use Rattle.law_link_samples.specs.Samples.{tiny_rows, tiny_in, filed, tiny_source, unknown_mnemonic}
use Rattle.law_program.proofs.Sources.{of_rows, no_file, no_file_in, no_files, no_files_in, one, one_file, no_other}
use Rattle.law_program.proofs.samples.samples_are_told.Goals as goal

pub returns-clause-audit : goal.returns-clause-audit
returns-clause-audit c = λ name bytes w.
    inr (tiny_rows, (w, of_rows (Audit name) tiny_rows [] _ (Ok tiny) no_file no_files c.samples_are_linked.ensures.words refl))

pub returns-clause-image : goal.returns-clause-image
returns-clause-image c = λ name bytes w.
    inr (tiny_rows, (w, of_rows (Image name) tiny_rows [] _ (Ok tiny) no_file no_files c.samples_are_linked.ensures.words refl))

pub returns-clause-run : goal.returns-clause-run
returns-clause-run c = λ name bytes limit w.
    inr (tiny_rows, (w, of_rows (Run name limit None) tiny_rows [] _ (Ok tiny) no_file no_files c.samples_are_linked.ensures.words refl))

pub returns-clause-no_room : goal.returns-clause-no_room
unfolding digits
returns-clause-no_room c = λ name bytes w.
    inr (tiny_in 640, (w, of_rows (Audit name) (tiny_in 640) [] _ (Err (fault.NoRoom 656 640)) no_file_in no_files_in c.samples_are_linked.ensures.no_room refl))

pub returns-clause-source : goal.returns-clause-source
returns-clause-source c = λ name bytes limit w.
    inr (filed, (w, subst (λ o. OfSources (Run name limit None) filed (take (length (source_names filed)) []) (drop (length (source_names filed)) []) o (Asks (codes "app.s"))) (sym one_file) refl))

pub returns-clause-by_source : goal.returns-clause-by_source
returns-clause-by_source c = λ name bytes limit w.
    inr (filed, (w, of_rows (Run name limit None) filed (tiny_source ∷ []) _ (Ok tiny) no_other one c.samples_are_linked.ensures.source refl))

pub returns-clause-mnemonic : goal.returns-clause-mnemonic
unfolding digits device_kind_named posture_of library_posture_of passes_of service_of
returns-clause-mnemonic c = λ name bytes w.
    inr (filed, (w, of_rows (Audit name) filed (unknown_mnemonic ∷ []) _ (Err (fault.Asm (Compartment 0) 2 2)) no_other one c.samples_are_linked.ensures.mnemonic refl))

pub returns-clause-first : goal.returns-clause-first
returns-clause-first c = λ k none. subst (λ o. FollowsBy k o [] (Asks (file_of k))) (sym none) refl

pub returns-clause-by_image : goal.returns-clause-by_image
returns-clause-by_image c = λ name bytes limit p i. inr (p, (i, refl))
