-- What is written of a description's image runs to the same text.
use Rattle.std.proofs.Common.{ℕ, ◌≡◌, ◌≤◌, ◌++◌, ◌∙◌, inl, inr, List, [], ◌∷◌, length, length-append, take, drop, Option, Some, None, Result, Ok, Err, slice_get, refl, sym, ap, subst, arith}
use Rattle.std.proofs.Math.Seq.{take-append_seam, drop-append_seam}
use Rattle.std.proofs.lemmas.List.{take_all}
use Rattle.std.proofs.lemmas.Option.{slice_get_past}
use Rattle.def_image.specs.Parts.{PartsRow}
use Rattle.def_image.specs.Spelling.{image_bytes}
use Rattle.def_desc.specs.Rows.{DescRow}
use Rattle.def_desc.specs.WellFormed.{WellFormed}
use Rattle.def_link.specs.declared.LinkFault.{LinkFault}
use Rattle.def_link.specs.declared.LinkFault.TheVariants as fault
use Rattle.def_link.specs.Linked.{linked}
use Rattle.def_program.specs.declared.Status.TheVariants as status
use Rattle.def_program.specs.Commands.{Command, Image, Run, RunImage}
use Rattle.def_program.specs.Lines.{description_line, link_status, link_text}
use Rattle.def_program.specs.Licences.{LinksTo}
use Rattle.def_program.specs.Turns.{Turn, Asks, Ends, OfParts, OfRun, OfRows, OfLinked, OfSources, OfDescription, Follows, source_names}
use Rattle.law_desc.proofs.Judging.{not_both, same_rows}
use Rattle.law_desc.proofs.Lawfuls.{bytes_lawful}
use Rattle.law_link.proofs.Whole.{faultless}
use Rattle.law_program.proofs.Standing.{no_fault_is_done}

-- as many files as the rows name
abbrev pub own : DescRow → List (List ℕ) → List (List ℕ)
own rows sources = take (length (source_names rows)) sources

-- a command's text on a description: its rows, what they are linked to, and what is said of that
pub record IsTold (c : Command) (bytes : List ℕ) (sources : List (List ℕ)) (text : List ℕ) : Type 0 where
  pub rows : DescRow
  pub parts : PartsRow
  pub lawful : WellFormed bytes rows
  pub linked : linked rows (own rows sources) ≡ Ok parts
  pub due : OfParts c parts (drop (length (source_names rows)) sources) (Ends status.Done text)

module _ (c : Command) (bytes : List ℕ) (sources : List (List ℕ)) (text : List ℕ) (d : DescRow)
    (w : WellFormed bytes d) where
  by_linked : (r : Result PartsRow LinkFault) → linked d (own d sources) ≡ r
      → OfLinked c d r (drop (length (source_names d)) sources) (Ends status.Done text) → IsTold c bytes sources text
  by_linked (Err e) is h =
      let same : Ends status.Done text ≡ Ends (link_status e) (link_text d e) = h in
      let done : link_status e ≡ status.Done = cc in
      absurd (no_fault_is_done e done)
  by_linked (Ok p) is h = record { rows = d; parts = p; lawful = w; linked = is; due = h }

  by_sources : (o : Option (List ℕ)) → OfSources c d (own d sources) (drop (length (source_names d)) sources) o (Ends status.Done text) → IsTold c bytes sources text
  by_sources (Some name) h = absurd (let clash : Ends status.Done text ≡ Asks name = h in cc)
  by_sources None h = by_linked (linked d (own d sources)) refl h

pub told : (c : Command) (bytes : List ℕ) (sources : List (List ℕ)) (text : List ℕ)
    → OfDescription c bytes sources (Ends status.Done text) → IsTold c bytes sources text
told c bytes sources text (inl faulty) =
    absurd (let clash : Ends status.Done text ≡ Ends status.Description (description_line faulty.fault) = faulty.due in cc)
told c bytes sources text (inr lawful) =
    by_sources c bytes sources text lawful.0 lawful.1.0 (slice_get (source_names lawful.0) (length sources)) lawful.1.1

-- with a script or without one, what is due of a description whose sources link is what is due of its parts
run_due : (name bytes : List ℕ) (sources more : List (List ℕ)) (p : PartsRow) (limit : ℕ) (script : Option (List ℕ)) (turn : Turn)
    → LinksTo bytes sources p → OfDescription (Run name limit script) bytes (sources ++ more) turn → OfRun p limit script more turn
run_due name bytes sources more p limit script turn l (inl faulty) = absurd (not_both bytes l.description faulty.fault l.well faulty.is)
run_due name bytes sources more p limit script turn l (inr d) =
    let here : OfRows (Run name limit script) l.description (sources ++ more) turn =
    subst (λ x. OfRows (Run name limit script) x (sources ++ more) turn) (same_rows bytes d.0 l.description d.1.0 l.well) d.1.1 in
    let long : length (source_names l.description) ≤ length (sources ++ more) = omega (arith, l.whole, length-append sources more) in
    let none : slice_get (source_names l.description) (length (sources ++ more)) ≡ None = slice_get_past (source_names l.description) (length (sources ++ more)) long in
    let own_so : take (length (source_names l.description)) (sources ++ more) ≡ sources = ap (λ n. take n (sources ++ more)) (sym l.whole) ∙ take-append_seam sources more in
    let rest : drop (length (source_names l.description)) (sources ++ more) ≡ more = ap (λ n. drop n (sources ++ more)) (sym l.whole) ∙ drop-append_seam sources more in
    by_link (linked l.description sources) l.links
    (subst (λ xs. OfLinked (Run name limit script) l.description (linked l.description xs) more turn) own_so
    (subst (λ ys. OfLinked (Run name limit script) l.description (linked l.description (take (length (source_names l.description)) (sources ++ more))) ys turn) rest
    (by_none (slice_get (source_names l.description) (length (sources ++ more))) none here)))
  where
    by_none : (o : Option (List ℕ)) → o ≡ None
        → OfSources (Run name limit script) l.description (take (length (source_names l.description)) (sources ++ more)) (drop (length (source_names l.description)) (sources ++ more)) o turn
        → OfLinked (Run name limit script) l.description (linked l.description (take (length (source_names l.description)) (sources ++ more))) (drop (length (source_names l.description)) (sources ++ more)) turn
    by_none (Some x) is h = absurd (let clash : Some x ≡ None = is in cc)
    by_none None is h = h

    by_link : (r : Result PartsRow LinkFault) → r ≡ Ok p → OfLinked (Run name limit script) l.description r more turn → OfRun p limit script more turn
    by_link (Err e) is h = absurd (let clash : Err e ≡ Ok p = is in cc)
    by_link (Ok q) is h = let same : q ≡ p = (let here : Ok q ≡ Ok p = is in cc) in subst (λ x. OfRun x limit script more turn) same h

pub runs_alike : (name other bytes written : List ℕ) (sources more : List (List ℕ)) (p : PartsRow) (limit : ℕ) (script : Option (List ℕ)) (turn : Turn)
    → LinksTo bytes sources p
    → Follows (Image name) (bytes ∷ sources) (Ends status.Done written)
    → Follows (Run name limit script) (bytes ∷ (sources ++ more)) turn
    → Follows (RunImage other limit script) (written ∷ more) turn
runs_alike name other bytes written sources more p limit script turn l first second =
    let x = told (Image name) bytes sources written first in
    let rows : x.rows ≡ l.description = same_rows bytes x.rows l.description x.lawful l.well in
    let all : own l.description sources ≡ sources = ap (λ n. take n sources) (sym l.whole) ∙ take_all (length sources) sources (omega arith) in
    let there : linked l.description (own l.description sources) ≡ Ok x.parts = subst (λ d. linked d (own d sources) ≡ Ok x.parts) rows x.linked in
    let same : x.parts ≡ p = (let here : Ok x.parts ≡ Ok p = sym there ∙ ap (linked l.description) all ∙ l.links in cc) in
    let sound = faultless x.rows (own x.rows sources) x.parts (record { lawful = bytes_lawful bytes x.rows x.lawful; linked = x.linked }) in
    let due : Ends status.Done written ≡ Ends status.Done (image_bytes x.parts) = x.due in
    let spelled : written ≡ image_bytes x.parts = cc in
    inr (x.parts, ((sound, spelled), subst (λ q. OfRun q limit script more turn) (sym same) (run_due name bytes sources more p limit script turn l second)))
