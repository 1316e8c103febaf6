-- What comes of an owner's code: of words, and of a source.
use Rattle.std.proofs.Common.{ℕ, ◌≡◌, List, [], Some, None, refl, sym, ap, ap₂, ◌∙◌, subst}
use Rattle.std.specs.Prelude.{Ok, Err}
use Rattle.std.specs.List.{flat_map}
use Rattle.ct_entry.specs.declared.rows.Owner.{Owner}
use Rattle.def_source.specs.declared.AsmFault.{AsmFault}
use Rattle.def_source.specs.declared.AsmFault.TheVariants as asm
use Rattle.def_source.specs.Source.{Statements, Fails, program_of}
use Rattle.def_object.specs.Object.{undeclared_in, fault_in, label_in, text_of, initial_of, word_bytes}
use Rattle.def_link.specs.declared.LinkFault.{LinkFault}
use Rattle.def_link.specs.declared.LinkFault.TheVariants as fault
use Rattle.def_link.specs.Owners.{words_built, assembled_or, read_or}
use Rattle.ct_asm.specs.Labels.{Assembled, IsAssembled, RefusesStatements}
use Rattle.ct_link_objects.specs.Objects.{IsBuilt, RefusesLink}

-- the object of a text alone, which is that of words
pub words_hold : (words text : List ℕ) (o : Assembled) → text ≡ flat_map word_bytes words → o ≡ record { text = text; init = []; labels = [] } → IsBuilt (Ok (words_built words)) o
words_hold words text o is made =
    let here : IsBuilt (Ok (words_built words)) (record { text = text; init = []; labels = [] }) = record {
      built = words_built words;
      is = refl;
      held = record { text = is; initial = refl; labels = λ name. refl };
    } in
    subst (IsBuilt (Ok (words_built words))) (sym made) here

-- a source that isn't read, or has a fault
pub source_unread : (owner : Owner) (slots : List (List ℕ)) (source : List ℕ) (e : AsmFault) (f : LinkFault) → Fails e (program_of source) → read_or owner [] (Err e) ≡ Err f
    → RefusesLink (read_or owner slots (program_of source)) f
source_unread owner slots source (asm.At number line) f unread is =
    let same : fault.Asm owner number line ≡ f = cc in
    subst (RefusesLink (read_or owner slots (program_of source))) same (ap (read_or owner slots) unread)
source_unread owner slots source asm.NoMemory f unread is = let same : fault.NoMemory ≡ f = cc in subst (RefusesLink (read_or owner slots (program_of source))) same tt

pub source_faulty : (owner : Owner) (slots : List (List ℕ)) (source : List ℕ) (ss : Statements) (e : AsmFault) (f : LinkFault) → program_of source ≡ Ok ss → undeclared_in slots ss ≡ None
    → RefusesStatements e ss → read_or owner [] (Err e) ≡ Err f → RefusesLink (read_or owner slots (program_of source)) f
source_faulty owner slots source ss (asm.At number line) f read none found is =
    let same : fault.Asm owner number line ≡ f = cc in
    subst (RefusesLink (read_or owner slots (program_of source))) same (ap (read_or owner slots) read ∙ ap₂ (assembled_or owner slots ss) none found)
source_faulty owner slots source ss asm.NoMemory f read none found is = let same : fault.NoMemory ≡ f = cc in subst (RefusesLink (read_or owner slots (program_of source))) same tt

pub source_undeclared : (owner : Owner) (slots : List (List ℕ)) (source : List ℕ) (ss : Statements) (line : ℕ) → program_of source ≡ Ok ss
    → undeclared_in slots ss ≡ Some line → read_or owner slots (program_of source) ≡ Err (fault.Import owner line)
source_undeclared owner slots source ss line is found = ap (read_or owner slots) is ∙ ap (λ u. assembled_or owner slots ss u (fault_in ss)) found

pub source_holds : (owner : Owner) (slots : List (List ℕ)) (source : List ℕ) (ss : Statements) (o : Assembled) → program_of source ≡ Ok ss
    → undeclared_in slots ss ≡ None → IsAssembled ss slots o → IsBuilt (read_or owner slots (program_of source)) o
source_holds owner slots source ss o is none s = record {
  built = record { text = text_of ss slots; initial = initial_of ss slots; labels = label_in ss };
  is = ap (read_or owner slots) is ∙ ap₂ (assembled_or owner slots ss) none s.faultless;
  held = record { text = s.text; initial = s.init; labels = s.labels };
}
