-- A stored image runs as the description does from which it was written, and an upgraded one as the old one.
use Rattle.std.proofs.Common.{◌≡◌, ◌⊎◌, ℕ, zero, suc, ◌+◌, ◌<◌, ◌≤◌, List, [], ◌∷◌, ◌++◌, Option, Some, None, Result, Ok, Err, length, map, take, drop, slice_get, refl, sym, ap, ◌∙◌, subst, inl, inr, arith, length-take}
use Rattle.std.proofs.lemmas.List.{append_cancel_left, drop_all, take-map, take_all}
use Rattle.std.proofs.lemmas.Option.{slice_get_cases, slice_get_past, slice_get_within}
use Rattle.def_desc.specs.Rows.{DescRow}
use Rattle.def_desc.specs.WellFormed.{WellFormed}
use Rattle.def_image.specs.Accepted.{IsImage}
use Rattle.def_image.specs.Parts.{PartsRow}
use Rattle.def_image.specs.Spelling.{image_bytes}
use Rattle.def_link.specs.declared.LinkFault.{LinkFault}
use Rattle.def_link.specs.Linked.{linked}
use Rattle.def_port.specs.Bytes.{Appends}
use Rattle.def_port.specs.Told.{Told, Silent, Absent, File, FolderView, TellsSame}
use Rattle.def_program.specs.Answers.{Answers, Read, TurnCause, WereDue, Whole, contents}
use Rattle.def_program.specs.Beside.{EndsUnlessWanting, IsDoneWith, TellsAll, TellsSameScript}
use Rattle.def_program.specs.Calls.{CallRecord, FileHolds, IsFile, IsLarge, most}
use Rattle.def_program.specs.Commands.{Command, Image, Run, RunImage, Upgrade, command_form}
use Rattle.def_program.specs.Completing.{IsTold, NoFault}
use Rattle.def_program.specs.Deciding.{ComesTo, IsToldWhenDue}
use Rattle.def_program.specs.Lines.{description_line, image_line, large_line, script_line}
use Rattle.def_program.specs.Runs.{run_text}
use Rattle.def_program.specs.Turns.{Turn, Asks, Ends, Follows, OfDescription, OfImage, OfLinked, OfParts, OfRows, OfRun, OfSources, source_names}
use Rattle.def_program.specs.declared.Status.{Status}
use Rattle.def_program.specs.declared.Status.TheVariants as status
use Rattle.law_desc.proofs.Judging.{not_both, same_rows}
use Rattle.law_link.proofs.Whole.{faultless}
use Rattle.law_desc.proofs.Lawfuls.{bytes_lawful}
use Rattle.law_program.proofs.Deciding.{Meeting, asked, decides, further, large_is_none, nearer, same_name, together, turns}
use Rattle.law_program.proofs.Ending.{not_both_forms, same_command, take_more, too_large}
use Rattle.law_program.proofs.Then.{IsTold as IsToldRun, own, told}
use Rattle.law_program.proofs.Upgraded.{runs_as}

abbrev done : List ℕ → Turn
done text = Ends status.Done text

same_text : (due : Status) (a b : List ℕ) → Ends due a ≡ Ends due b → a ≡ b
same_text due a b is = cc

-- ---- files of one name

holds_one : (t : Told) (x y : List ℕ) → (t ≡ Silent → ⊥) → FileHolds t x → FileHolds t y → x ≡ y
holds_one Silent x y tells a b = absurd (tells refl)
holds_one Absent x y tells a b = absurd a
holds_one (File all) x y tells a b = sym a ∙ b

file_told : (t : Told) (x : List ℕ) → (t ≡ Silent → ⊥) → FileHolds t x → t ≡ File x
file_told Silent x tells a = absurd (tells refl)
file_told Absent x tells a = absurd a
file_told (File all) x tells a = ap (λ b. File b) a

-- a file that is too large isn't one that was given
holds_no_large : (t : Told) (x : List ℕ) → (t ≡ Silent → ⊥) → FileHolds t x → length x ≤ most → IsLarge t → ⊥
holds_no_large Silent x tells a size large = tells refl
holds_no_large Absent x tells a size large = a
holds_no_large (File all) x tells a size large = absurd (let same = ap length a in omega (arith, same, size, large))

-- the bytes of a file that is told to be too large
record LargeFile (t : Told) : Type 0 where
  all : List ℕ
  is : t ≡ File all
  long : most < length all

large_told : (t : Told) → (t ≡ Silent → ⊥) → IsLarge t → LargeFile t
large_told Silent tells large = absurd (tells refl)
large_told Absent tells large = absurd large
large_told (File all) tells large = record { all = all; is = refl; long = large }

module _ (one other : FolderView) (tells : TellsAll one) (same : TellsSame one other) where
  not_too_large : (m n x : List ℕ) → m ≡ n → IsFile (one.file m) x → IsLarge (other.file n) → ⊥
  not_too_large m n x is a large =
      let file : IsFile (one.file n) x = subst (λ k. IsFile (one.file k) x) is a in
      let there : IsLarge (one.file n) = subst (λ (t : Told). IsLarge t) (same n) large in
      holds_no_large (one.file n) x (tells n) file.holds file.size there

  same_file : (m n x y : List ℕ) → m ≡ n → IsFile (one.file m) x → IsFile (other.file n) y → x ≡ y
  same_file m n x y is a b =
      let there : FileHolds (one.file n) y = subst (λ (t : Told). FileHolds t y) (same n) b.holds in
      let here : FileHolds (one.file n) x = subst (λ k. FileHolds (one.file k) x) is a.holds in
      holds_one (one.file n) x y (tells n) here there

-- ---- the files of a call, by their places

-- a file that was due after these, and was given
record DueFile (e : CallRecord) (c : Command) (before : List (List ℕ)) (bytes : List ℕ) : Type 0 where
  name : List ℕ
  asked : Follows c before (Asks name)
  file : IsFile (e.folder.file name) bytes

record ReadAt (rs : List Read) (k : ℕ) (bytes : List ℕ) : Type 0 where
  read : Read
  there : slice_get rs k ≡ Some read
  is : read.bytes ≡ bytes

read_at : (rs : List Read) (k : ℕ) (bytes : List ℕ) → slice_get (contents rs) k ≡ Some bytes → ReadAt rs k bytes
read_at [] k bytes is = absurd (let clash : None ≡ Some bytes = is in cc)
read_at (r ∷ rs) zero bytes is = record { read = r; there = refl; is = (let same : Some r.bytes ≡ Some bytes = is in cc) }
read_at (r ∷ rs) (suc k) bytes is = let x = read_at rs k bytes is in record { read = x.read; there = x.there; is = x.is }

module _ (e : CallRecord) (c : Command) (rs : List Read) (due : WereDue e c rs) where
  due_at : (all : List (List ℕ)) → contents rs ≡ all → (k : ℕ) (x : List ℕ) → slice_get all k ≡ Some x → DueFile e c (take k all) x
  due_at all are k x is =
      let r : ReadAt rs k x = read_at rs k x (subst (λ xs. slice_get xs k ≡ Some x) (sym are) is) in
      let was = due k r.read r.there in
      let before : contents (take k rs) ≡ take k all = sym (take-map (λ (z : Read). z.bytes) k rs) ∙ ap (take k) are in
      record {
        name = r.read.name;
        asked = subst (λ xs. Follows c xs (Asks r.read.name)) before was.asked;
        file = subst (λ b. IsFile (e.folder.file r.read.name) b) r.is was.file;
      }

-- ---- a description

asks_rows : (c : Command) (b : List ℕ) (files : List (List ℕ)) (name : List ℕ) (d : DescRow) → OfDescription c b files (Asks name) → WellFormed b d → OfRows c d files (Asks name)
asks_rows c b files name d (inl f) well = absurd (let clash : Asks name ≡ Ends status.Description (description_line f.fault) = f.due in cc)
asks_rows c b files name d (inr x) well = subst (λ z. OfRows c z files (Asks name)) (same_rows b x.0 d x.1.0 well) x.1.1

by_next : (c : Command) (d : DescRow) (own more : List (List ℕ)) (name x : List ℕ) (o : Option (List ℕ)) → o ≡ Some x → OfSources c d own more o (Asks name) → name ≡ x
by_next c d own more name x None is h = absurd (let clash : None ≡ Some x = is in cc)
by_next c d own more name x (Some y) is h =
    let same : y ≡ x = (let here : Some y ≡ Some x = is in cc) in
    same_name name y h ∙ same

-- the name of the source that is due after so many
source_name : (c : Command) (b : List ℕ) (files : List (List ℕ)) (name x : List ℕ) (d : DescRow) → WellFormed b d → OfDescription c b files (Asks name)
    → slice_get (source_names d) (length files) ≡ Some x → name ≡ x
source_name c b files name x d well h is =
    by_next c d (take (length (source_names d)) files) (drop (length (source_names d)) files) name x (slice_get (source_names d) (length files)) is (asks_rows c b files name d h well)

size_of : {A : Type 0} (xs : List A) (j : ℕ) → j ≤ length xs → length (take j xs) ≡ j
size_of xs j few = let size = length-take j xs in omega (arith, size, few)

-- the sources that two calls read of one description are the same
module _ (one other : CallRecord) (tells : TellsAll one.folder) (same : TellsSame one.folder other.folder) (c k : Command) (b : List ℕ) (d : DescRow) (well : WellFormed b d)
    (xs ys : List (List ℕ))
    (first : (j : ℕ) (x : List ℕ) → slice_get xs j ≡ Some x → DueFile one c (b ∷ take j xs) x)
    (second : (j : ℕ) (y : List ℕ) → slice_get ys j ≡ Some y → DueFile other k (b ∷ take j ys) y)
    (asks_one : (files : List (List ℕ)) (name : List ℕ) → Follows c (b ∷ files) (Asks name) → OfDescription c b files (Asks name))
    (asks_other : (files : List (List ℕ)) (name : List ℕ) → Follows k (b ∷ files) (Asks name) → OfDescription k b files (Asks name)) where
  one_source : (j : ℕ) (x y n : List ℕ) → j ≤ length xs → j ≤ length ys → slice_get xs j ≡ Some x → slice_get ys j ≡ Some y → slice_get (source_names d) j ≡ Some n → x ≡ y
  one_source j x y n few many here there named =
      let p = first j x here in
      let q = second j y there in
      let next : (m : ℕ) → m ≡ j → slice_get (source_names d) m ≡ Some n = λ m is. subst (λ z. slice_get (source_names d) z ≡ Some n) (sym is) named in
      let one_name : p.name ≡ n = source_name c b (take j xs) p.name n d well (asks_one (take j xs) p.name p.asked) (next (length (take j xs)) (size_of xs j few)) in
      let other_name : q.name ≡ n = source_name k b (take j ys) q.name n d well (asks_other (take j ys) q.name q.asked) (next (length (take j ys)) (size_of ys j many)) in
      same_file one.folder other.folder tells same p.name q.name x y (one_name ∙ sym other_name) p.file q.file

  same_sources : (j : ℕ) → j ≤ length (source_names d) → j ≤ length xs → j ≤ length ys → take j xs ≡ take j ys
  same_sources zero named few many = refl
  same_sources (suc j) named few many = elim (slice_get_cases xs j).1 [
    | inl x ↦ elim (slice_get_cases ys j).1 [
      | inl y ↦ elim (slice_get_cases (source_names d) j).1 [
        | inl n ↦
            let before = same_sources j (omega (arith, named)) (omega (arith, few)) (omega (arith, many)) in
            let same_one : x.0 ≡ y.0 = one_source j x.0 y.0 n.0 (omega (arith, few)) (omega (arith, many)) x.2 y.2 n.2 in
            take_more xs j x.0 x.2 ∙ ap (λ zs. zs ++ x.0 ∷ []) before ∙ ap (λ z. take j ys ++ z ∷ []) same_one ∙ sym (take_more ys j y.0 y.2)
        | inr past ↦ absurd (let end : length (source_names d) ≤ j = past.0 in omega (arith, end, named))
      ]
      | inr past ↦ absurd (let end : length ys ≤ j = past.0 in omega (arith, end, many))
    ]
    | inr past ↦ absurd (let end : length xs ≤ j = past.0 in omega (arith, end, few))
  ]

-- ---- a call that ended

-- the files that it read, and the turn after them
record EndedBy (e : CallRecord) (c : Command) (turn : Turn) : Type 0 where
  reads : List Read
  due : WereDue e c reads
  follows : Follows c (contents reads) turn

-- it ended with a turn of the dialogue, or before a file that is too large
data Ended (e : CallRecord) (c : Command) (due : Status) (text : List ℕ) : Type 0 where
  by_turn : EndedBy e c (Ends due text) → Ended e c due text
  by_size : (name : List ℕ) → EndedBy e c (Asks name) → IsLarge (e.folder.file name) → due ≡ status.TooLarge → text ≡ large_line name → Ended e c due text

module _ (e : CallRecord) (c : Command) (form : command_form e.words ≡ Some c) where
  by_cause : (due : Status) (text : List ℕ) → TurnCause e due text → EndedBy e c (Ends due text)
  by_cause due text t =
      let same : t.command ≡ c = same_command e t.command c t.form form in
      record {
        reads = t.reads;
        due = subst (λ k. WereDue e k t.reads) same t.read.due;
        follows = subst (λ k. Follows k (contents t.reads) (Ends due text)) same t.due;
      }

  ended : (due : Status) (w : Whole e due) → (due ≡ status.ReadFault → ⊥) → Ended e c due w.text
  ended status.Done w no_read = by_turn (by_cause status.Done w.text w.cause)
  ended status.Usage w no_read = absurd (not_both_forms e c w.cause.form form)
  ended status.ReadFault w no_read = absurd (no_read refl)
  ended status.TooLarge w no_read =
      let same : w.cause.command ≡ c = same_command e w.cause.command c w.cause.form form in
      by_size w.cause.name (record {
        reads = w.cause.reads;
        due = subst (λ k. WereDue e k w.cause.reads) same w.cause.last.due;
        follows = subst (λ k. Follows k (contents w.cause.reads) (Asks w.cause.name)) same w.cause.last.asked;
      }) w.cause.large.large refl w.cause.due
  ended status.Description w no_read = by_turn (by_cause status.Description w.text w.cause)
  ended status.Assembly w no_read = by_turn (by_cause status.Assembly w.text w.cause)
  ended status.Link w no_read = by_turn (by_cause status.Link w.text w.cause)
  ended status.Image w no_read = by_turn (by_cause status.Image w.text w.cause)
  ended status.Script w no_read = by_turn (by_cause status.Script w.text w.cause)
  ended status.WriteFault w no_read = absurd w.cause
  ended status.NoMemory w no_read = absurd w.cause
  ended status.Name w no_read = by_turn (by_cause status.Name w.text w.cause)
  ended status.Denied w no_read = by_turn (by_cause status.Denied w.text w.cause)
  ended status.Policy w no_read = by_turn (by_cause status.Policy w.text w.cause)

done_by : (e : CallRecord) (c : Command) (text : List ℕ) → command_form e.words ≡ Some c → IsDoneWith e text → EndedBy e c (done text)
done_by e c text form d =
    let w : Whole e status.Done = d.done in
    let here : Appends (Some d.before) e.sink_after.bytes w.text = subst (λ o. Appends o e.sink_after.bytes w.text) d.tells w.written in
    let both : Some (d.before ++ w.text) ≡ Some (d.before ++ text) = sym here ∙ d.written in
    let sum : d.before ++ w.text ≡ d.before ++ text = cc in
    let is : w.text ≡ text = append_cancel_left d.before w.text text sum in
    subst (λ t. EndedBy e c (done t)) is (by_cause e c form status.Done w.text w.cause)

-- ---- the run of a stored image

-- a call that ends with a turn of a run wrote its text
record Wrote (e : CallRecord) (due : Status) : Type 0 where
  text : List ℕ
  cause : TurnCause e due text
  written : Appends e.sink.bytes e.sink_after.bytes text

-- a run is done, or its script is refused
ends_of_run : (p : PartsRow) (limit : ℕ) (o : Option (List ℕ)) (more : List (List ℕ)) (due : Status) (text : List ℕ) → OfRun p limit o more (Ends due text)
    → (due ≡ status.Done) ⊎ (due ≡ status.Script)
ends_of_run p limit None more due text h = inl (let same : Ends due text ≡ Ends status.Done (run_text p [] limit) = h in cc)
ends_of_run p limit (Some name) [] due text h = absurd (let clash : Ends due text ≡ Asks name = h in cc)
ends_of_run p limit (Some name) (x ∷ more) due text (inl f) = inr (let same : Ends due text ≡ Ends status.Script (script_line f.fault.number f.fault.place) = f.due in cc)
ends_of_run p limit (Some name) (x ∷ more) due text (inr r) = inl (let same : Ends due text ≡ Ends status.Done (run_text p r.dues limit) = r.due in cc)

wrote : (e : CallRecord) (due : Status) → (due ≡ status.Done) ⊎ (due ≡ status.Script) → Answers e due → Wrote e due
wrote e due (inl is) a =
    let w : Whole e status.Done = subst (λ d. Answers e d) is a in
    subst (λ d. Wrote e d) (sym is) (record { text = w.text; cause = w.cause; written = w.written })
wrote e due (inr is) a =
    let w : Whole e status.Script = subst (λ d. Answers e d) is a in
    subst (λ d. Wrote e d) (sym is) (record { text = w.text; cause = w.cause; written = w.written })

-- the script of a run is due
asked_script : (p : PartsRow) (limit : ℕ) (o : Option (List ℕ)) (more : List (List ℕ)) (name : List ℕ) → OfRun p limit o more (Asks name) → o ≡ Some name
asked_script p limit None more name h = absurd (let clash : Asks name ≡ Ends status.Done (run_text p [] limit) = h in cc)
asked_script p limit (Some n) [] name h = ap (λ (m : List ℕ). Some m) (sym (same_name name n h))
asked_script p limit (Some n) (x ∷ more) name (inl f) = absurd (let clash : Asks name ≡ Ends status.Script (script_line f.fault.number f.fault.place) = f.due in cc)
asked_script p limit (Some n) (x ∷ more) name (inr r) = absurd (let clash : Asks name ≡ Ends status.Done (run_text p r.dues limit) = r.due in cc)

module _ (e : CallRecord) (s : Status) (file : List ℕ) (limit : ℕ) (script : Option (List ℕ)) (form : command_form e.words ≡ Some (RunImage file limit script))
    (bytes : List ℕ) (stored : IsTold e file bytes) (p : PartsRow) (image : IsImage bytes p) (answers : Answers e s) (none : NoFault e) where
  meets_text : (due : Status) (other text : List ℕ) → Meeting e (Ends due other) (Ends due text) → other ≡ text
  meets_text due other text (together is) = same_text due other text is
  meets_text due other text (further r is given) = absurd (let clash : Ends due text ≡ Asks r.name = is in cc)
  meets_text due other text (nearer f is given) = absurd (let clash : Ends due other ≡ Asks f.name = is in cc)

  writes : (due : Status) (text : List ℕ) → (due ≡ status.Done) ⊎ (due ≡ status.Script) → ComesTo e (RunImage file limit script) (Ends due text) → EndsUnlessWanting e s due text
  writes due text either comes = elim ((decides e s answers).ends (RunImage file limit script) due text form comes none) [
    | inl is ↦
        let w : Wrote e due = wrote e due either (subst (λ z. Answers e z) is answers) in
        let one : w.text ≡ text = meets_text due w.text text (turns e (RunImage file limit script) form due w.text (Ends due text) w.cause comes) in
        inl (is, subst (λ t. Appends e.sink.bytes e.sink_after.bytes t) one w.written)
    | inr wants ↦ inr wants
  ]

  abbrev only : Read
  only = record { name = file; bytes = bytes }

  alone : (k : ℕ) (f : Read) → slice_get (only ∷ []) k ≡ Some f → IsToldWhenDue e (RunImage file limit script) (only ∷ []) k f
  alone zero f is =
      let one : only ≡ f = (let same : Some only ≡ Some f = is in cc) in
      subst (λ x. IsToldWhenDue e (RunImage file limit script) (only ∷ []) zero x) one (record { asked = refl; told = stored })
  alone (suc k) f is = absurd (let clash : None ≡ Some f = is in cc)

  without_script : (due : Status) (text : List ℕ) → script ≡ None → OfRun p limit script [] (Ends due text) → EndsUnlessWanting e s due text
  without_script due text named run =
      writes due text (ends_of_run p limit script [] due text run) (record { files = only ∷ []; told = alone; follows = inr (p, (image, run)) })

  module _ (name : List ℕ) (named : script ≡ Some name) where
    asks_next : Follows (RunImage file limit script) (bytes ∷ []) (Asks name)
    asks_next = inr (p, (image, subst (λ o. OfRun p limit o [] (Asks name)) (sym named) refl))

    -- a script that is too large
    module _ (large : LargeFile (e.folder.file name)) where
      meets_name : (other : List ℕ) → IsLarge (e.folder.file other) → Meeting e (Asks other) (Asks name) → other ≡ name
      meets_name other long (together is) = same_name other name is
      meets_name other long (further r is given) =
          let same : r.name ≡ name = same_name r.name name (sym is) in
          absurd (large_is_none e (RunImage file limit script) form name large.all large.is large.long r.bytes (subst (λ n. IsFile (e.folder.file n) r.bytes) same given))
      meets_name other long (nearer f is given) =
          let same : f.name ≡ other = same_name f.name other (sym is) in
          absurd (too_large (e.folder.file other) f.bytes (ap e.folder.file (sym same) ∙ given.told) given.size long)

      is_too_large : EndsUnlessWanting e s status.TooLarge (large_line name)
      is_too_large =
          let comes : ComesTo e (RunImage file limit script) (Asks name) = record { files = only ∷ []; told = alone; follows = asks_next } in
          elim ((decides e s answers).large (RunImage file limit script) name large.all form comes large.is large.long none) [
            | inl is ↦
                let w : Whole e status.TooLarge = subst (λ z. Answers e z) is answers in
                let one : w.cause.name ≡ name = meets_name w.cause.name w.cause.large.large (asked e (RunImage file limit script) form w.text w.cause (Asks name) comes) in
                inl (is, subst (λ t. Appends e.sink.bytes e.sink_after.bytes t) (w.cause.due ∙ ap large_line one) w.written)
            | inr wants ↦ inr wants
          ]

    module _ (bytes_of_script : List ℕ) (told_script : IsTold e name bytes_of_script) where
      abbrev next : Read
      next = record { name = name; bytes = bytes_of_script }

      both_told : (k : ℕ) (f : Read) → slice_get (only ∷ next ∷ []) k ≡ Some f → IsToldWhenDue e (RunImage file limit script) (only ∷ next ∷ []) k f
      both_told zero f is =
          let one : only ≡ f = (let same : Some only ≡ Some f = is in cc) in
          subst (λ x. IsToldWhenDue e (RunImage file limit script) (only ∷ next ∷ []) zero x) one (record { asked = refl; told = stored })
      both_told (suc zero) f is =
          let one : next ≡ f = (let same : Some next ≡ Some f = is in cc) in
          subst (λ x. IsToldWhenDue e (RunImage file limit script) (only ∷ next ∷ []) (suc zero) x) one (record { asked = asks_next; told = told_script })
      both_told (suc (suc k)) f is = absurd (let clash : None ≡ Some f = is in cc)

      with_script : (due : Status) (text : List ℕ) → OfRun p limit script (bytes_of_script ∷ []) (Ends due text) → EndsUnlessWanting e s due text
      with_script due text run =
          writes due text (ends_of_run p limit script (bytes_of_script ∷ []) due text run) (record { files = only ∷ next ∷ []; told = both_told; follows = inr (p, (image, run)) })

  -- after the image come these files, of which the first is the script, where one is named
  by_more : (due : Status) (text : List ℕ) (o : Option (List ℕ)) (more : List (List ℕ)) → script ≡ o → OfRun p limit o more (Ends due text)
      → ((name x : List ℕ) (rest : List (List ℕ)) → script ≡ Some name → more ≡ x ∷ rest → IsTold e name x) → EndsUnlessWanting e s due text
  by_more due text None more named run scripted = without_script due text named (subst (λ o. OfRun p limit o [] (Ends due text)) (sym named) run)
  by_more due text (Some name) [] named run scripted = absurd (let clash : Ends due text ≡ Asks name = run in cc)
  by_more due text (Some name) (x ∷ rest) named run scripted =
      with_script name named x (scripted name x rest named refl) due text (subst (λ o. OfRun p limit o (x ∷ []) (Ends due text)) (sym named) run)

  -- what the image comes to with some files more
  by_run : (due : Status) (text : List ℕ) (more : List (List ℕ)) → OfRun p limit script more (Ends due text)
      → ((name x : List ℕ) (rest : List (List ℕ)) → script ≡ Some name → more ≡ x ∷ rest → IsTold e name x) → EndsUnlessWanting e s due text
  by_run due text more run scripted = by_more due text script more refl run scripted

-- what a run of a stored image comes to, by the turn of the other run: this turn's end; or, where that run is before a
-- file that is too large, the same
abbrev Comes : CallRecord → CallRecord → Status → Turn → Type 0
Comes other e s (Ends due text) = EndsUnlessWanting e s due text
Comes other e s (Asks name) = IsLarge (other.folder.file name) → EndsUnlessWanting e s status.TooLarge (large_line name)

-- what a folder tells of a script, by what another call was given
script_told : (one other stored : CallRecord) (script : Option (List ℕ)) (name given x : List ℕ) → TellsAll one.folder → TellsSame one.folder other.folder
    → TellsSameScript script one.folder stored.folder → script ≡ Some name → given ≡ name → IsFile (other.folder.file given) x → IsTold stored name x
script_told one other stored None name given x tells same scripts named is file = absurd (let clash : None ≡ Some name = named in cc)
script_told one other stored (Some n) name given x tells same scripts named is file =
    let named_so : n ≡ name = (let here : Some n ≡ Some name = named in cc) in
    let there : FileHolds (one.folder.file name) x = subst (λ (t : Told). FileHolds t x) (ap other.folder.file is ∙ same name) file.holds in
    let told_one : one.folder.file name ≡ File x = file_told (one.folder.file name) x (tells name) there in
    let here : stored.folder.file name ≡ one.folder.file name = subst (λ m. stored.folder.file m ≡ one.folder.file m) named_so scripts in
    record { told = here ∙ told_one; size = file.size }

script_large : (one other stored : CallRecord) (script : Option (List ℕ)) (name : List ℕ) → TellsAll one.folder → TellsSame one.folder other.folder
    → TellsSameScript script one.folder stored.folder → script ≡ Some name → IsLarge (other.folder.file name) → LargeFile (stored.folder.file name)
script_large one other stored None name tells same scripts named large = absurd (let clash : None ≡ Some name = named in cc)
script_large one other stored (Some n) name tells same scripts named large =
    let named_so : n ≡ name = (let here : Some n ≡ Some name = named in cc) in
    let there : IsLarge (one.folder.file name) = subst (λ (t : Told). IsLarge t) (same name) large in
    let here : stored.folder.file name ≡ one.folder.file name = subst (λ m. stored.folder.file m ≡ one.folder.file m) named_so scripts in
    let x : LargeFile (one.folder.file name) = large_told (one.folder.file name) (tells name) there in
    record { all = x.all; is = here ∙ x.is; long = x.long }

-- ---- from a description

first_of : (xs ys : List (List ℕ)) (n : ℕ) (x : List ℕ) → drop n xs ≡ x ∷ ys → slice_get xs n ≡ Some x
first_of [] ys zero x is = absurd (let clash : [] ≡ x ∷ ys = is in cc)
first_of [] ys (suc n) x is = absurd (let clash : [] ≡ x ∷ ys = is in cc)
first_of (z ∷ zs) ys zero x is =
    let same : z ≡ x = (let here : z ∷ zs ≡ x ∷ ys = is in cc) in
    ap (λ (y : List ℕ). Some y) same
first_of (z ∷ zs) ys (suc n) x is = first_of zs ys n x is

by_none : (c : Command) (d : DescRow) (files more : List (List ℕ)) (turn : Turn) (o : Option (List ℕ)) → o ≡ None → OfSources c d files more o turn → OfLinked c d (linked d files) more turn
by_none c d files more turn (Some x) is h = absurd (let clash : Some x ≡ None = is in cc)
by_none c d files more turn None is h = h

by_parts : (c : Command) (d : DescRow) (p : PartsRow) (more : List (List ℕ)) (turn : Turn) (r : Result PartsRow LinkFault) → r ≡ Ok p → OfLinked c d r more turn → OfParts c p more turn
by_parts c d p more turn (Err f) is h = absurd (let clash : Err f ≡ Ok p = is in cc)
by_parts c d p more turn (Ok q) is h = let same : q ≡ p = (let here : Ok q ≡ Ok p = is in cc) in subst (λ x. OfParts c x more turn) same h

-- all sources were read
all_read : (c : Command) (d : DescRow) (own more : List (List ℕ)) (due : Status) (text : List ℕ) (k : ℕ) → OfSources c d own more (slice_get (source_names d) k) (Ends due text) → length (source_names d) ≤ k
all_read c d own more due text k h = elim (slice_get_cases (source_names d) k).1 [
  | inl x ↦ absurd (let clash : Ends due text ≡ Asks x.0 = by_some (slice_get (source_names d) k) x.0 x.2 h in cc)
  | inr past ↦ past.0
]
  where
    by_some : (o : Option (List ℕ)) (y : List ℕ) → o ≡ Some y → OfSources c d own more o (Ends due text) → Ends due text ≡ Asks y
    by_some None y is asks = absurd (let clash : None ≡ Some y = is in cc)
    by_some (Some z) y is asks = let same : z ≡ y = (let here : Some z ≡ Some y = is in cc) in asks ∙ ap (λ n. Asks n) same

rows_of : (c : Command) (b : List ℕ) (files : List (List ℕ)) (turn : Turn) (d : DescRow) → WellFormed b d → OfDescription c b files turn → OfRows c d files turn
rows_of c b files turn d well (inl f) = absurd (not_both b d f.fault well f.is)
rows_of c b files turn d well (inr x) = subst (λ z. OfRows c z files turn) (same_rows b x.0 d x.1.0 well) x.1.1

module _ (image direct stored : CallRecord) (s : Status) (name file : List ℕ) (limit : ℕ) (script : Option (List ℕ)) (bytes : List ℕ)
    (tells : TellsAll image.folder) (same : TellsSame image.folder direct.folder) (scripts : TellsSameScript script image.folder stored.folder)
    (form : command_form stored.words ≡ Some (RunImage file limit script)) (told_file : IsTold stored file bytes) (answers : Answers stored s) (none : NoFault stored)
    (rs ts : List Read) (due : WereDue image (Image name) rs) (later : WereDue direct (Run name limit script) ts) where
  -- both read these bytes first
  module _ (b : List ℕ) (xs ys : List (List ℕ)) (first : contents rs ≡ b ∷ xs) (second : contents ts ≡ b ∷ ys)
      (one : OfDescription (Image name) b xs (done bytes)) where
    abbrev run : Command
    run = Run name limit script

    abbrev x : IsToldRun (Image name) b xs bytes
    x = told (Image name) b xs bytes one

    abbrev n : ℕ
    n = length (source_names x.rows)

    long_one : n ≤ length xs
    long_one = all_read (Image name) x.rows (take n xs) (drop n xs) status.Done bytes (length xs) (rows_of (Image name) b xs (done bytes) x.rows x.lawful one)

    links_to : n ≤ length ys → linked x.rows (take n ys) ≡ Ok x.parts
    links_to long =
        let alike : take n xs ≡ take n ys =
        same_sources image direct tells same (Image name) run b x.rows x.lawful xs ys
        (λ j z is. due_at image (Image name) rs due (b ∷ xs) first (suc j) z is)
        (λ j z is. due_at direct run ts later (b ∷ ys) second (suc j) z is)
        (λ files m h. h) (λ files m h. h) n (omega arith) long_one long in
        ap (linked x.rows) (sym alike) ∙ x.linked

    stored_image : IsImage bytes x.parts
    stored_image =
        let sound = faultless x.rows (own x.rows xs) x.parts (record { lawful = bytes_lawful b x.rows x.lawful; linked = x.linked }) in
        let spelled : bytes ≡ image_bytes x.parts = same_text status.Done bytes (image_bytes x.parts) x.due in
        (sound, spelled)

    -- with all sources read, what is due is what is due of the image's parts
    run_due : (turn : Turn) → n ≤ length ys → OfDescription run b ys turn → OfRun x.parts limit script (drop n ys) turn
    run_due turn long other =
        let rows : OfRows run x.rows ys turn = rows_of run b ys turn x.rows x.lawful other in
        let past : slice_get (source_names x.rows) (length ys) ≡ None = slice_get_past (source_names x.rows) (length ys) long in
        by_parts run x.rows x.parts (drop n ys) turn (linked x.rows (take n ys)) (links_to long)
        (by_none run x.rows (take n ys) (drop n ys) turn (slice_get (source_names x.rows) (length ys)) past rows)

    no_more : (k : ℕ) → k ≡ n → slice_get (source_names x.rows) k ≡ None
    no_more k is = slice_get_past (source_names x.rows) k (omega (arith, is))

    -- the file after the sources is the script, and the stored image's call is told it
    told_next : n ≤ length ys → (wanted z : List ℕ) (rest : List (List ℕ)) → script ≡ Some wanted → drop n ys ≡ z ∷ rest → IsTold stored wanted z
    told_next long wanted z rest named more =
        let at : DueFile direct run (take (suc n) (b ∷ ys)) z = due_at direct run ts later (b ∷ ys) second (suc n) z (first_of ys rest n z more) in
        let own_all : take n (take n ys) ≡ take n ys = take_all n (take n ys) (let size = size_of ys n long in omega (arith, size)) in
        let rows : OfRows run x.rows (take n ys) (Asks at.name) = asks_rows run b (take n ys) at.name x.rows at.asked x.lawful in
        let past : slice_get (source_names x.rows) (length (take n ys)) ≡ None = no_more (length (take n ys)) (size_of ys n long) in
        let linked_so = by_none run x.rows (take n (take n ys)) (drop n (take n ys)) (Asks at.name) (slice_get (source_names x.rows) (length (take n ys))) past rows in
        let links_so : linked x.rows (take n (take n ys)) ≡ Ok x.parts = ap (linked x.rows) own_all ∙ links_to long in
        let parts : OfRun x.parts limit script (drop n (take n ys)) (Asks at.name) = by_parts run x.rows x.parts (drop n (take n ys)) (Asks at.name) (linked x.rows (take n (take n ys))) links_so linked_so in
        let is : Some wanted ≡ Some at.name = sym named ∙ asked_script x.parts limit script (drop n (take n ys)) at.name parts in
        let given : at.name ≡ wanted = cc in
        script_told image direct stored script wanted at.name z tells same scripts named given at.file

    -- no source is too large: the other call was given it
    sources_fit : (given next : List ℕ) → slice_get (source_names x.rows) (length ys) ≡ Some next → OfDescription run b ys (Asks given) → IsLarge (direct.folder.file given) → ⊥
    sources_fit given next is other large =
        let inside : length ys < n = slice_get_within (source_names x.rows) (length ys) next is in
        elim (slice_get_cases xs (length ys)).1 [
          | inl z ↦
              let p : DueFile image (Image name) (take (suc (length ys)) (b ∷ xs)) z.0 = due_at image (Image name) rs due (b ∷ xs) first (suc (length ys)) z.0 z.2 in
              let size : length (take (length ys) xs) ≡ length ys = size_of xs (length ys) (let long = long_one in omega (arith, inside, long)) in
              let here : slice_get (source_names x.rows) (length (take (length ys) xs)) ≡ Some next = subst (λ k. slice_get (source_names x.rows) k ≡ Some next) (sym size) is in
              let one_name : p.name ≡ next = source_name (Image name) b (take (length ys) xs) p.name next x.rows x.lawful p.asked here in
              let other_name : given ≡ next = source_name run b ys given next x.rows x.lawful other is in
              not_too_large image.folder direct.folder tells same p.name given z.0 (one_name ∙ sym other_name) p.file large
          | inr past ↦ absurd (let end : length xs ≤ length ys = past.0 in let long = long_one in omega (arith, end, inside, long))
        ]

    from_description : (turn : Turn) → OfDescription run b ys turn → Comes direct stored s turn
    from_description (Ends ends text) other =
        let long : n ≤ length ys = all_read run x.rows (take n ys) (drop n ys) ends text (length ys) (rows_of run b ys (Ends ends text) x.rows x.lawful other) in
        by_run stored s file limit script form bytes told_file x.parts stored_image answers none ends text (drop n ys) (run_due (Ends ends text) long other) (told_next long)
    from_description (Asks given) other = λ large. elim (slice_get_cases (source_names x.rows) (length ys)).1 [
      | inl next ↦ absurd (sources_fit given next.0 next.2 other large)
      | inr past ↦
          let named : script ≡ Some given = asked_script x.parts limit script (drop n ys) given (run_due (Asks given) past.0 other) in
          is_too_large stored s file limit script form bytes told_file x.parts stored_image answers none given named (script_large image direct stored script given tells same scripts named large)
    ]

  -- a call that read nothing ended before a file that is too large, which the other call was given
  reads_some : (b : List ℕ) (xs : List (List ℕ)) → contents rs ≡ b ∷ xs → (turn : Turn) → turn ≡ Asks name → Comes direct stored s turn
  reads_some b xs first (Ends ends text) is = absurd (let clash : Ends ends text ≡ Asks name = is in cc)
  reads_some b xs first (Asks given) is = λ large.
      let p = due_at image (Image name) rs due (b ∷ xs) first zero b refl in
      absurd (not_too_large image.folder direct.folder tells same p.name given b (same_name p.name name p.asked ∙ sym (same_name given name is)) p.file large)

  by_files : (all more : List (List ℕ)) → contents rs ≡ all → contents ts ≡ more → Follows (Image name) all (done bytes)
      → (turn : Turn) → Follows (Run name limit script) more turn → Comes direct stored s turn
  by_files [] more first second one turn other = absurd (let clash : done bytes ≡ Asks name = one in cc)
  by_files (b ∷ xs) [] first second one turn other = reads_some b xs first turn other
  by_files (b ∷ xs) (c ∷ ys) first second one turn other =
      let p = due_at image (Image name) rs due (b ∷ xs) first zero b refl in
      let q = due_at direct (Run name limit script) ts later (c ∷ ys) second zero c refl in
      let alike : b ≡ c = same_file image.folder direct.folder tells same p.name q.name b c (same_name p.name name p.asked ∙ sym (same_name q.name name q.asked)) p.file q.file in
      from_description b xs ys first (subst (λ z. contents ts ≡ z ∷ ys) (sym alike) second) one turn
      (subst (λ z. OfDescription (Run name limit script) z ys turn) (sym alike) other)

-- by the status of the other run
by_size_of : (e : CallRecord) (s due : Status) (text line : List ℕ) → due ≡ status.TooLarge → text ≡ line → EndsUnlessWanting e s status.TooLarge line → EndsUnlessWanting e s due text
by_size_of e s due text line is same h = subst (λ d. EndsUnlessWanting e s d text) (sym is) (subst (λ t. EndsUnlessWanting e s status.TooLarge t) (sym same) h)

by_ending : (other e : CallRecord) (c : Command) (s due : Status) (text : List ℕ) → Ended other c due text
    → ((turn : Turn) → EndedBy other c turn → Comes other e s turn) → EndsUnlessWanting e s due text
by_ending other e c s due text (by_turn y) comes = comes (Ends due text) y
by_ending other e c s due text (by_size name y large is same) comes = by_size_of e s due text (large_line name) is same (comes (Asks name) y large)

pub stored_alike : (image direct stored : CallRecord) (s due : Status) (name file : List ℕ) (limit : ℕ) (script : Option (List ℕ)) (bytes : List ℕ)
    → command_form image.words ≡ Some (Image name) → command_form direct.words ≡ Some (Run name limit script) → command_form stored.words ≡ Some (RunImage file limit script)
    → TellsAll image.folder → TellsSame image.folder direct.folder → TellsSameScript script image.folder stored.folder
    → stored.folder.file file ≡ File bytes → length bytes ≤ most
    → IsDoneWith image bytes → (answer : Whole direct due) → (due ≡ status.ReadFault → ⊥) → Answers stored s → NoFault stored → EndsUnlessWanting stored s due answer.text
stored_alike image direct stored s due name file limit script bytes first second third tells same scripts told_file size one answer no_read answers none =
    let x = done_by image (Image name) bytes first one in
    by_ending direct stored (Run name limit script) s due answer.text (ended direct (Run name limit script) second due answer no_read)
    (λ turn y. by_files image direct stored s name file limit script bytes tells same scripts third (record { told = told_file; size = size }) answers none
    x.reads y.reads x.due y.due (contents x.reads) (contents y.reads) refl refl x.follows turn y.follows)

-- ---- from an image in an old version

module _ (upgrade old new : CallRecord) (s : Status) (name file : List ℕ) (limit : ℕ) (script : Option (List ℕ)) (bytes : List ℕ)
    (tells : TellsAll upgrade.folder) (same : TellsSame upgrade.folder old.folder) (scripts : TellsSameScript script upgrade.folder new.folder)
    (form : command_form new.words ≡ Some (RunImage file limit script)) (told_file : IsTold new file bytes) (answers : Answers new s) (none : NoFault new)
    (rs ts : List Read) (due : WereDue upgrade (Upgrade name) rs) (later : WereDue old (RunImage name limit script) ts) where
  asks_image : (b given wanted : List ℕ) → OfImage (RunImage name limit script) b [] (Asks given) → script ≡ Some wanted → given ≡ wanted
  asks_image b given wanted (inl f) named = absurd (let clash : Asks given ≡ Ends status.Image (image_line f.fault.number f.fault.place) = f.due in cc)
  asks_image b given wanted (inr i) named = let is : Some wanted ≡ Some given = sym named ∙ asked_script i.0 limit script [] given i.1.1 in cc

  from_image : (b : List ℕ) (ys : List (List ℕ)) → contents ts ≡ b ∷ ys → Follows (Upgrade name) (b ∷ []) (done bytes)
      → (turn : Turn) → OfImage (RunImage name limit script) b ys turn → Comes old new s turn
  from_image b ys second one (Ends ends text) other =
      let r = runs_as name name b bytes ys limit script (Ends ends text) one other in
      by_run new s file limit script form bytes told_file r.0 r.1.0 answers none ends text ys r.1.1
      (λ wanted z rest named more.
      let at : DueFile old (RunImage name limit script) (b ∷ []) z = due_at old (RunImage name limit script) ts later (b ∷ ys) second (suc zero) z (ap (λ zs. slice_get zs zero) more) in
      script_told upgrade old new script wanted at.name z tells same scripts named (asks_image b at.name wanted at.asked named) at.file)
  from_image b ys second one (Asks given) other = λ large.
      let r = runs_as name name b bytes ys limit script (Asks given) one other in
      let named : script ≡ Some given = asked_script r.0 limit script ys given r.1.1 in
      is_too_large new s file limit script form bytes told_file r.0 r.1.0 answers none given named (script_large upgrade old new script given tells same scripts named large)

  drops_more : (b : List ℕ) (xs : List (List ℕ)) → OfImage (Upgrade name) b xs (done bytes) → OfImage (Upgrade name) b [] (done bytes)
  drops_more b xs (inl f) = inl f
  drops_more b xs (inr i) = inr (i.0, (i.1.0, i.1.1))

  reads_image : (b : List ℕ) (xs : List (List ℕ)) → contents rs ≡ b ∷ xs → (turn : Turn) → turn ≡ Asks name → Comes old new s turn
  reads_image b xs first (Ends ends text) is = absurd (let clash : Ends ends text ≡ Asks name = is in cc)
  reads_image b xs first (Asks given) is = λ large.
      let p = due_at upgrade (Upgrade name) rs due (b ∷ xs) first zero b refl in
      absurd (not_too_large upgrade.folder old.folder tells same p.name given b (same_name p.name name p.asked ∙ sym (same_name given name is)) p.file large)

  by_images : (all more : List (List ℕ)) → contents rs ≡ all → contents ts ≡ more → Follows (Upgrade name) all (done bytes)
      → (turn : Turn) → Follows (RunImage name limit script) more turn → Comes old new s turn
  by_images [] more first second one turn other = absurd (let clash : done bytes ≡ Asks name = one in cc)
  by_images (b ∷ xs) [] first second one turn other = reads_image b xs first turn other
  by_images (b ∷ xs) (c ∷ ys) first second one turn other =
      let p = due_at upgrade (Upgrade name) rs due (b ∷ xs) first zero b refl in
      let q = due_at old (RunImage name limit script) ts later (c ∷ ys) second zero c refl in
      let alike : b ≡ c = same_file upgrade.folder old.folder tells same p.name q.name b c (same_name p.name name p.asked ∙ sym (same_name q.name name q.asked)) p.file q.file in
      from_image c ys second (subst (λ z. OfImage (Upgrade name) z [] (done bytes)) alike (drops_more b xs one)) turn other

pub upgraded_alike : (upgrade old new : CallRecord) (s due : Status) (name file : List ℕ) (limit : ℕ) (script : Option (List ℕ)) (bytes : List ℕ)
    → command_form upgrade.words ≡ Some (Upgrade name) → command_form old.words ≡ Some (RunImage name limit script) → command_form new.words ≡ Some (RunImage file limit script)
    → TellsAll upgrade.folder → TellsSame upgrade.folder old.folder → TellsSameScript script upgrade.folder new.folder
    → new.folder.file file ≡ File bytes → length bytes ≤ most
    → IsDoneWith upgrade bytes → (answer : Whole old due) → (due ≡ status.ReadFault → ⊥) → Answers new s → NoFault new → EndsUnlessWanting new s due answer.text
upgraded_alike upgrade old new s due name file limit script bytes first second third tells same scripts told_file size one answer no_read answers none =
    let x = done_by upgrade (Upgrade name) bytes first one in
    by_ending old new (RunImage name limit script) s due answer.text (ended old (RunImage name limit script) second due answer no_read)
    (λ turn y. by_images upgrade old new s name file limit script bytes tells same scripts third (record { told = told_file; size = size }) answers none
    x.reads y.reads x.due y.due (contents x.reads) (contents y.reads) refl refl x.follows turn y.follows)
