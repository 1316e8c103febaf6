-- What was read of a well-formed description's sources can be linked.
use Rattle.std.proofs.Common.{◌≡◌, ℕ, ◌+◌, ◌<◌, ◌≤◌, ◌^◌, List, [], ◌∷◌, ◌++◌, length, map, Option, Some, None, refl, sym, ap, ◌∙◌, subst, arith}
use Rattle.std.specs.List.{AllByRecursion}
use Rattle.std.proofs.lemmas.List.{append-nil}
use Rattle.def_port.specs.Told.{Told, FolderView}
use Rattle.def_desc.specs.Rows.{DescCode, DescCompartment, LibraryRow, DescRow}
use Rattle.def_desc.specs.WellFormed.{WellFormed}
use Rattle.def_link.specs.Owners.{compartment_unit, library_unit, numbered, units_of}
use Rattle.def_program.specs.Answers.{Read, contents}
use Rattle.def_program.specs.Calls.{IsFile, most}
use Rattle.def_program.specs.Turns.{with_file, files_in, source_names}
use Rattle.law_desc.proofs.Lawfuls.{bytes_lawful}
use Rattle.ct_link_objects.specs.Objects.{file_of, files_of, IsLinkable}
use Rattle.ct_link_objects.proofs.Walks.{files_joined}
use Rattle.ct_commands.specs.Whole.{names_of, AllGiven}

-- ---- as many names as codes that are files

one_more : (file : Option (List ℕ)) (rest : List (List ℕ)) → length (with_file file rest) ≡ file_of file + length rest
one_more None rest = omega arith
one_more (Some name) rest = omega arith

own_names : (i : ℕ) (cs : List DescCompartment) (ls : List DescCode) → length (files_in (map (λ (c : DescCompartment). c.code) cs ++ ls)) ≡ files_of (numbered compartment_unit i cs) + length (files_in ls)
own_names i [] ls = omega arith
own_names i (c ∷ cs) ls =
    let first = one_more c.code.file (files_in (map (λ (x : DescCompartment). x.code) cs ++ ls)) in
    let rest = own_names (i + 1) cs ls in
    omega (arith, first, rest)

lent_names : (i : ℕ) (ls : List LibraryRow) → length (files_in (map (λ (l : LibraryRow). l.code) ls)) ≡ files_of (numbered library_unit i ls)
lent_names i [] = refl
lent_names i (l ∷ ls) =
    let first = one_more l.code.file (files_in (map (λ (x : LibraryRow). x.code) ls)) in
    let rest = lent_names (i + 1) ls in
    omega (arith, first, rest)

names_counted : (d : DescRow) → length (source_names d) ≡ files_of (units_of d)
names_counted d =
    let own = own_names 0 d.compartments (map (λ (l : LibraryRow). l.code) d.libraries) in
    let lent = lent_names 0 d.libraries in
    let both = files_joined (numbered compartment_unit 0 d.compartments) (numbered library_unit 0 d.libraries) in
    omega (arith, own, lent, both)

-- ---- texts

as_many : (done : List Read) → length (contents done) ≡ length (names_of done)
as_many [] = refl
as_many (r ∷ done) = let rest = as_many done in omega (arith, rest)

short : (told : List ℕ → Told) (done : List Read) → AllByRecursion (λ (r : Read). IsFile (told r.name) r.bytes) done → AllByRecursion (λ (t : List ℕ). length t < 2 ^ 32) (contents done)
short told [] all = tt
short told (r ∷ done) all = (let size : length r.bytes ≤ most = all.0.size in omega (arith, size), short told done all.1)

pub linkable : (bytes : List ℕ) (d : DescRow) (before after : FolderView) (sources : List (List ℕ))
    → WellFormed bytes d → AllGiven (source_names d) before after sources → IsLinkable d sources
linkable bytes d before after sources lawful all =
    let names : names_of all.done ≡ source_names d = sym (append-nil (names_of all.done)) ∙ all.front.whole in
    let counted : length (contents all.done) ≡ files_of (units_of d) = as_many all.done ∙ ap length names ∙ names_counted d in
    record {
      lawful = bytes_lawful bytes d lawful;
      sourced = record {
        each = subst (λ (ts : List (List ℕ)). length ts ≡ files_of (units_of d)) all.given counted;
        short = subst (λ (ts : List (List ℕ)). AllByRecursion (λ (t : List ℕ). length t < 2 ^ 32) ts) all.given (short before.file all.done all.front.files);
      };
    }
