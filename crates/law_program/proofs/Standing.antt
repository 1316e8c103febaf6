-- Where a call is done, the files that were read begin with those that stand for parts, and what is due follows from these.
use Rattle.std.proofs.Common.{◌≡◌, ◌≤◌, ℕ, List, [], ◌∷◌, ◌++◌, length, take, drop, Option, Some, None, Result, Ok, Err, slice_get, inl, inr, refl, sym, ap, ◌∙◌, arith, length-take}
use Rattle.std.proofs.lemmas.List.{take-append-drop}
use Rattle.std.proofs.lemmas.Option.{slice_get_cases}
use Rattle.def_desc.specs.Rows.{DescRow}
use Rattle.def_desc.specs.WellFormed.{WellFormed}
use Rattle.def_image.specs.Accepted.{IsImage}
use Rattle.def_image.specs.Parts.{PartsRow}
use Rattle.def_link.specs.declared.LinkFault.{LinkFault}
use Rattle.def_link.specs.declared.LinkFault.TheVariants as fault
use Rattle.def_link.specs.Linked.{linked}
use Rattle.def_program.specs.Commands.{Command}
use Rattle.def_program.specs.Licences.{LinksTo, StandFor}
use Rattle.def_program.specs.Lines.{description_line, image_line, link_status, link_text}
use Rattle.def_program.specs.Turns.{Turn, Asks, Ends, OfDescription, OfImage, OfLinked, OfParts, OfSources, source_names}
use Rattle.def_program.specs.declared.Status.{Status}
use Rattle.def_program.specs.declared.Status.TheVariants as status

abbrev pub done : List ℕ → Turn
done text = Ends status.Done text

pub same_text : (a b : List ℕ) → done a ≡ done b → a ≡ b
same_text a b is = cc

pub no_fault_is_done : (e : LinkFault) → link_status e ≡ status.Done → ⊥
no_fault_is_done (fault.Asm owner number line) h = absurd (let clash : status.Assembly ≡ status.Done = h in cc)
no_fault_is_done (fault.Export owner item) h = absurd (let clash : status.Link ≡ status.Done = h in cc)
no_fault_is_done (fault.NoRoom needed has) h = absurd (let clash : status.Link ≡ status.Done = h in cc)
no_fault_is_done (fault.Import owner line) h = absurd (let clash : status.Link ≡ status.Done = h in cc)
no_fault_is_done (fault.Initial owner) h = absurd (let clash : status.Link ≡ status.Done = h in cc)
no_fault_is_done fault.NoMemory h = absurd (let clash : status.NoMemory ≡ status.Done = h in cc)

-- the files begin with those that stand for parts, and the text is due of these and of the files after them
pub record BeginsWithParts (c : Command) (files : List (List ℕ)) (text : List ℕ) : Type 0 where
  pub own : List (List ℕ)
  pub more : List (List ℕ)
  pub files_are : files ≡ own ++ more
  pub parts : PartsRow
  pub stand : StandFor c own parts
  pub due : OfParts c parts more (done text)

-- ---- of a description

module _ (c : Command) (text bytes : List ℕ) (stands : (sources : List (List ℕ)) (p : PartsRow) → LinksTo bytes sources p → StandFor c (bytes ∷ sources) p) (rest : List (List ℕ)) where
  module _ (d : DescRow) (well : WellFormed bytes d) where
    abbrev count : ℕ
    count = length (source_names d)

    by_linked : (r : Result PartsRow LinkFault) → linked d (take count rest) ≡ r → count ≤ length rest → OfLinked c d r (drop count rest) (done text)
        → BeginsWithParts c (bytes ∷ rest) text
    by_linked (Err e) is long due =
        let same : done text ≡ Ends (link_status e) (link_text d e) = due in
        let clash : link_status e ≡ status.Done = cc in
        absurd (no_fault_is_done e clash)
    by_linked (Ok p) is long due = record {
      own = bytes ∷ take count rest;
      more = drop count rest;
      files_are = ap (λ xs. bytes ∷ xs) (sym (take-append-drop count rest));
      parts = p;
      stand = stands (take count rest) p record {
        description = d;
        well = well;
        whole = (let size = length-take count rest in omega (arith, size, long));
        links = is;
      };
      due = due;
    }

    by_sources : (o : Option (List ℕ)) → slice_get (source_names d) (length rest) ≡ o → OfSources c d (take count rest) (drop count rest) o (done text)
        → BeginsWithParts c (bytes ∷ rest) text
    by_sources (Some file) is due = absurd (let clash : done text ≡ Asks file = due in cc)
    by_sources None is due = elim (slice_get_cases (source_names d) (length rest)).1 [
      | inl x ↦ absurd (let clash : None ≡ Some x.0 = sym is ∙ x.2 in cc)
      | inr past ↦ by_linked (linked d (take count rest)) refl past.0 due
    ]

  pub of_description : OfDescription c bytes rest (done text) → BeginsWithParts c (bytes ∷ rest) text
  of_description (inl f) = absurd (let clash : done text ≡ Ends status.Description (description_line f.fault) = f.due in cc)
  of_description (inr d) = by_sources d.0 d.1.0 (slice_get (source_names d.0) (length rest)) refl d.1.1

-- ---- of an image

pub of_image : (c : Command) (text bytes : List ℕ) → ((p : PartsRow) → IsImage bytes p → StandFor c (bytes ∷ []) p) → (rest : List (List ℕ))
    → OfImage c bytes rest (done text) → BeginsWithParts c (bytes ∷ rest) text
of_image c text bytes stands rest (inl f) = absurd (let clash : done text ≡ Ends status.Image (image_line f.fault.number f.fault.place) = f.due in cc)
of_image c text bytes stands rest (inr i) = record {
  own = bytes ∷ [];
  more = rest;
  files_are = refl;
  parts = i.0;
  stand = stands i.0 i.1.0;
  due = i.1.1;
}
