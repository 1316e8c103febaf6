-- From what was read and written to the answer of a call.
use Rattle.std.proofs.Common.{◌≡◌, ℕ, suc, List, [], ◌∷◌, ◌++◌, true, false, Some, None, slice_get, length, take, drop, refl, sym, ap, ◌∙◌, subst, ◌⊎◌, inl, inr, arith, length-append}
use Rattle.std.proofs.lemmas.List.{append-nil, append_assoc, map-append}
use Rattle.std.proofs.lemmas.Option.{slice_get_past}
use Rattle.def_port.specs.Told.{Told, Call, FolderView, TellsSame}
use Rattle.def_port.specs.Bytes.{FaultsRose}
use Rattle.def_desc.specs.Rows.{DescRow}
use Rattle.def_desc.specs.WellFormed.{WellFormed}
use Rattle.def_link.specs.Linked.{linked}
use Rattle.def_program.specs.declared.Status.{Status}
use Rattle.def_program.specs.declared.Status.TheVariants.{ReadFault, TooLarge}
use Rattle.def_program.specs.Lines.{read_line, large_line}
use Rattle.def_program.specs.Commands.{Command, command_form, generated_by, file_of, reads_image}
use Rattle.def_program.specs.Calls.{CallRecord, Exceeds, IsFile}
use Rattle.def_program.specs.Turns.{Turn, Asks, FollowsBy, Follows, OfNumber, OfFirst, OfImage, OfLinked, OfRows, OfDescription, source_names}
use Rattle.def_program.specs.Answers.{Answers, asking, Read, contents, read_call, read_calls, AllRead, WereDue}
use Rattle.ct_commands.specs.declared.files.Stop.{Stop}
use Rattle.ct_commands.specs.declared.files.Stop.TheVariants.{Unread, Large, NoMemory}
use Rattle.ct_commands.specs.Whole.{names_of, after_calls, WasGiven, NotGiven, Front, AllGiven, SomeGiven, NextStops, WantsBetween}
use Rattle.ct_commands.specs.Closing.{Closes}
use Rattle.ct_commands.specs.Ended.{EndsBy, EndsAtOnce, EndsAfter}
use Rattle.ct_commands.specs.Settled.{Settles}
use Rattle.ct_commands.proofs.Endings.{wanting, settled, unread, too_large, due_by}
use Rattle.ct_commands.specs.Stopped.{RefusesFile}
use Rattle.ct_commands.proofs.Due.{first_read, own_follows, nothing_due, none_due, first_due, sources_due, next_due, none_left, told_before, calls_both, calls_last, of_first, one_more_due}

as_many : (done : List Read) → length (names_of done) ≡ length (contents done)
as_many [] = refl
as_many (r ∷ done) = ap suc (as_many done)

take_front : (xs ys : List (List ℕ)) → take (length xs) (xs ++ ys) ≡ xs
take_front [] ys = refl
take_front (x ∷ xs) ys = ap (λ zs. x ∷ zs) (take_front xs ys)

drop_front : (xs ys : List (List ℕ)) → drop (length xs) (xs ++ ys) ≡ ys
drop_front [] ys = refl
drop_front (x ∷ xs) ys = drop_front xs ys

module _ (e : CallRecord) (c : Command) (result : Status) (form : command_form e.words ≡ Some c) where
  abbrev Refused : Stop → Type 0
  Refused stop = RefusesFile stop e.sink e.sink_after result

  abbrev pub Later : (List (List ℕ) → Turn → Type 0) → FolderView → Type 0
  Later Due here = EndsBy Due here e.folder_after e.sink e.sink_after result

  -- ---- the first file isn't given

  pub first_stops : generated_by c ≡ None → (stop : Stop) → NotGiven (file_of c) e.folder e.folder_after stop → Refused stop → Answers e result
  first_stops none (Unread n) why closes =
      unread e c [] (file_of c) result form (nothing_due e c none) why.1.call why.1.rose
      (subst (λ x. Closes e.sink e.sink_after (read_line x) ReadFault result) why.0 closes)
  first_stops none (Large n) why closes =
      too_large e c [] (file_of c) result form (nothing_due e c none) why.1.call why.1.same why.1.large
      (subst (λ x. Closes e.sink e.sink_after (large_line x) TooLarge result) why.0 closes)
  first_stops none NoMemory why silent =
      wanting e c [] result form (none_due e c) (why.call ∙ sym (append-nil e.folder.calls)) why.same silent

  -- ---- the first file alone

  alone : generated_by c ≡ None → (bytes : List ℕ) → WasGiven (file_of c) e.folder e.folder_after bytes → AllRead e c (first_read c bytes ∷ [])
  alone none bytes w = record { due = first_due e c none bytes w.file; calls = w.call; same = w.same }

  -- ---- the call ends after these files, or after one more

  module _ (rs : List Read) (due : WereDue e c rs) (here : FolderView)
      (calls : here.calls ≡ e.folder.calls ++ read_calls rs) (same : here.faults ≡ e.folder.faults) (kept : TellsSame e.folder here)
      (Due : List (List ℕ) → Turn → Type 0) (then : (more : List (List ℕ)) (t : Turn) → Due more t → Follows c (contents rs ++ more) t) where
    next_asked : (name : List ℕ) → Due [] (Asks name) → Follows c (contents rs) (Asks name)
    next_asked name asked = subst (λ fs. Follows c fs (Asks name)) (append-nil (contents rs)) (then [] (Asks name) asked)

    at_once : EndsAtOnce Due here e.folder_after e.sink e.sink_after result → Answers e result
    at_once x =
        settled e c rs result form (record { due = due; calls = x.calls ∙ calls; same = x.same ∙ same })
        (due_by (Due []) (Follows c (contents rs)) e.sink e.sink_after result
        (λ t is. subst (λ fs. Follows c fs t) (append-nil (contents rs)) (then [] t is)) x.settles)

    after_one : EndsAfter Due here e.folder_after e.sink e.sink_after result → Answers e result
    after_one x =
        let last : Read = record { name = x.name; bytes = x.bytes } in
        let file = subst (λ (t : Told). IsFile t x.bytes) (kept x.name) x.given.file in
        let all : contents (rs ++ last ∷ []) ≡ contents rs ++ x.bytes ∷ [] = map-append (λ (r : Read). r.bytes) rs (last ∷ []) in
        let called : read_calls (rs ++ last ∷ []) ≡ read_calls rs ++ read_call last ∷ [] = map-append read_call rs (last ∷ []) in
        settled e c (rs ++ last ∷ []) result form
        (record {
          due = one_more_due e c rs last due (next_asked x.name x.asked) file;
          calls = x.given.call ∙ ap (λ (cs : List Call). cs ++ read_call last ∷ []) calls ∙ append_assoc e.folder.calls (read_calls rs) (read_call last ∷ []) ∙ ap (λ (cs : List Call). e.folder.calls ++ cs) (sym called);
          same = x.given.same ∙ same;
        })
        (due_by (Due (x.bytes ∷ [])) (Follows c (contents (rs ++ last ∷ []))) e.sink e.sink_after result
        (λ t is. subst (λ fs. Follows c fs t) (sym all) (then (x.bytes ∷ []) t is)) x.settles)

    called_last : (last : Call) → e.folder_after.calls ≡ here.calls ++ last ∷ [] → e.folder_after.calls ≡ e.folder.calls ++ (read_calls rs ++ last ∷ [])
    called_last last is = is ∙ ap (λ (cs : List Call). cs ++ last ∷ []) calls ∙ append_assoc e.folder.calls (read_calls rs) (last ∷ [])

    without : (name : List ℕ) (stop : Stop) → Follows c (contents rs) (Asks name) → NotGiven name here e.folder_after stop → Refused stop → Answers e result
    without name (Unread n) asked why closes =
        unread e c rs name result form (record { due = due; asked = asked })
        (called_last (asking name true) why.1.call)
        (subst (λ n. FaultsRose n e.folder_after.faults) same why.1.rose)
        (subst (λ x. Closes e.sink e.sink_after (read_line x) ReadFault result) why.0 closes)
    without name (Large n) asked why closes =
        too_large e c rs name result form (record { due = due; asked = asked })
        (called_last (asking name false) why.1.call)
        (why.1.same ∙ same) (subst (λ (t : Told). Exceeds t) (kept name) why.1.large)
        (subst (λ x. Closes e.sink e.sink_after (large_line x) TooLarge result) why.0 closes)
    without name NoMemory asked why silent =
        wanting e c rs result form due (why.call ∙ calls) (why.same ∙ same) silent

    pub ended : Later Due here → Answers e result
    ended (inl x) = at_once x
    ended (inr (inl x)) = after_one x
    ended (inr (inr x)) = without x.name x.stop (next_asked x.name x.asked) x.why x.refused

  -- ---- no file is due

  pub number_done : (number : ℕ) → generated_by c ≡ Some number → Later (OfNumber c number) e.folder → Answers e result
  number_done number is s =
      ended [] (none_due e c) e.folder (sym (append-nil e.folder.calls)) refl (λ n. refl) (OfNumber c number)
      (λ more t due. subst (λ o. FollowsBy c o more t) (sym is) due) s

  -- ---- a file

  pub image_done : generated_by c ≡ None → (bytes : List ℕ) (here : FolderView) → WasGiven (file_of c) e.folder here bytes
      → TellsSame e.folder here → reads_image c ≡ true → Later (OfImage c bytes) here → Answers e result
  image_done none bytes here w kept kind s =
      ended (first_read c bytes ∷ []) (first_due e c none bytes w.file) here w.call w.same kept (OfImage c bytes)
      (λ more t due. own_follows c none bytes more t (subst (λ b. OfFirst b c bytes more t) (sym kind) due)) s

  pub description_refused : generated_by c ≡ None → (bytes : List ℕ) → WasGiven (file_of c) e.folder e.folder_after bytes
      → reads_image c ≡ false → Settles (OfDescription c bytes []) e.sink e.sink_after result → Answers e result
  description_refused none bytes w kind s =
      settled e c (first_read c bytes ∷ []) result form (alone none bytes w)
      (due_by (OfDescription c bytes []) (Follows c (bytes ∷ [])) e.sink e.sink_after result
      (λ t due. own_follows c none bytes [] t (subst (λ b. OfFirst b c bytes [] t) (sym kind) due)) s)

  -- ---- sources

  module _ (none : generated_by c ≡ None) (bytes : List ℕ) (d : DescRow) (here : FolderView) (w : WasGiven (file_of c) e.folder here bytes)
      (kept : TellsSame e.folder here) (kind : reads_image c ≡ false) (lawful : WellFormed bytes d) where
    pub linked_done : (sources : List (List ℕ)) (there : FolderView) → AllGiven (source_names d) here there sources
        → TellsSame e.folder there → Later (OfLinked c d (linked d sources)) there → Answers e result
    linked_done sources there all same s =
        let files = told_before e.folder.file here.file all.done kept all.front.files in
        ended (first_read c bytes ∷ all.done) (sources_due e c none bytes d kind lawful w.file all.done [] all.front.whole files)
        there (calls_both e.folder.calls here.calls there.calls (first_read c bytes) all.done w.call all.front.calls) (all.same ∙ w.same) same
        (OfLinked c d (linked d sources))
        (λ more t due. of_first e c none bytes d kind lawful w.file (contents all.done ++ more) t
        (inr (d, (lawful, of_linked more t all.done sources all.given (none_left e c none bytes d kind lawful w.file all.done all.front.whole) (counted_all all.done all.front.whole) due)))) s
      where
        -- as many files as names
        counted_all : (done : List Read) → names_of done ++ [] ≡ source_names d → length (source_names d) ≡ length (contents done)
        counted_all done names = sym (ap length names) ∙ ap length (append-nil (names_of done)) ∙ as_many done

        of_linked : (more : List (List ℕ)) (t : Turn) (done : List Read) (sources : List (List ℕ)) → contents done ≡ sources → slice_get (source_names d) (length (contents done)) ≡ None
            → length (source_names d) ≡ length (contents done) → OfLinked c d (linked d sources) more t → OfRows c d (contents done ++ more) t
        of_linked more t done sources given last size due =
            let own : take (length (source_names d)) (contents done ++ more) ≡ sources = ap (λ n. take n (contents done ++ more)) size ∙ take_front (contents done) more ∙ given in
            let rest : drop (length (source_names d)) (contents done ++ more) ≡ more = ap (λ n. drop n (contents done ++ more)) size ∙ drop_front (contents done) more in
            let past : slice_get (source_names d) (length (contents done ++ more)) ≡ None =
            slice_get_past (source_names d) (length (contents done ++ more)) (omega (arith, size, length-append (contents done) more)) in
            rw (own, rest, past) due

    between : (done : List Read) (left : List (List ℕ)) (calls : List Call) (stop : Stop) → Front here.file (source_names d) here.calls calls done left
        → WantsBetween (after_calls here calls) e.folder_after stop → Refused stop → Answers e result
    between done left calls stop front wants refuses =
        let files = told_before e.folder.file here.file done kept front.files in
        wanting e c (first_read c bytes ∷ done) result form
        (sources_due e c none bytes d kind lawful w.file done left front.whole files)
        (calls_both e.folder.calls here.calls e.folder_after.calls (first_read c bytes) done w.call (wants.wanted.call ∙ front.calls))
        (wants.wanted.same ∙ w.same)
        (subst (λ s. Refused s) wants.is refuses)

    at_next : (done : List Read) (name : List ℕ) (rest : List (List ℕ)) (calls : List Call) (stop : Stop) → Front here.file (source_names d) here.calls calls done (name ∷ rest)
        → NotGiven name (after_calls here calls) e.folder_after stop → Refused stop → Answers e result
    at_next done name rest calls (Unread n) front why closes =
        let files = told_before e.folder.file here.file done kept front.files in
        unread e c (first_read c bytes ∷ done) name result form
        (next_due e c none bytes d kind lawful w.file done name rest front.whole files)
        (calls_last e.folder.calls calls e.folder_after.calls (first_read c bytes) done (asking name true)
        (calls_both e.folder.calls here.calls calls (first_read c bytes) done w.call front.calls) why.1.call)
        (subst (λ n. FaultsRose n e.folder_after.faults) w.same why.1.rose)
        (subst (λ x. Closes e.sink e.sink_after (read_line x) ReadFault result) why.0 closes)
    at_next done name rest calls (Large n) front why closes =
        let files = told_before e.folder.file here.file done kept front.files in
        too_large e c (first_read c bytes ∷ done) name result form
        (next_due e c none bytes d kind lawful w.file done name rest front.whole files)
        (calls_last e.folder.calls calls e.folder_after.calls (first_read c bytes) done (asking name false)
        (calls_both e.folder.calls here.calls calls (first_read c bytes) done w.call front.calls) why.1.call)
        (why.1.same ∙ w.same) (subst (λ (t : Told). Exceeds t) (kept name) why.1.large)
        (subst (λ x. Closes e.sink e.sink_after (large_line x) TooLarge result) why.0 closes)
    at_next done name rest calls NoMemory front why silent =
        let files = told_before e.folder.file here.file done kept front.files in
        wanting e c (first_read c bytes ∷ done) result form
        (sources_due e c none bytes d kind lawful w.file done (name ∷ rest) front.whole files)
        (calls_both e.folder.calls here.calls e.folder_after.calls (first_read c bytes) done w.call (why.call ∙ front.calls))
        (why.same ∙ w.same) silent

    pub source_stops : (stop : Stop) → SomeGiven (source_names d) here e.folder_after stop → Refused stop → Answers e result
    source_stops stop some refuses = by_stop some.stopped
      where
        by_stop : NextStops some.left (after_calls here some.calls) e.folder_after stop ⊎ WantsBetween (after_calls here some.calls) e.folder_after stop → Answers e result
        by_stop (inl next) =
            at_next some.done next.name next.rest some.calls stop
            (subst (λ l. Front here.file (source_names d) here.calls some.calls some.done l) next.next some.front)
            next.why refuses
        by_stop (inr wants) = between some.done some.left some.calls stop some.front wants refuses
