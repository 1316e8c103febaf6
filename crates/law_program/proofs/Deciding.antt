-- A call over files that the folder tells ends as the dialogue over them does.
use Rattle.std.proofs.Common.{◌≡◌, ℕ, zero, suc, ◌+◌, ◌<◌, ◌≤◌, ◌⊎◌, List, [], ◌∷◌, ◌++◌, Some, None, length, take, slice_get, refl, sym, ap, ◌∙◌, subst, inl, inr, arith}
use Rattle.std.proofs.lemmas.List.{map-append, take_all}
use Rattle.std.proofs.lemmas.Option.{slice_get_cases}
use Rattle.law_lists.proofs.Tests.{lt_tells}
use Rattle.def_port.specs.Told.{Told, Absent, File}
use Rattle.def_program.specs.Answers.{Answers, LargeCause, Read, TurnCause, WereDue, contents}
use Rattle.def_program.specs.Calls.{CallRecord, FileHolds, IsFile, IsLarge, most}
use Rattle.def_program.specs.Commands.{Command, command_form}
use Rattle.def_program.specs.Completing.{IsTold, NoFault}
use Rattle.def_program.specs.Deciding.{ComesTo, IsDecided, IsToldWhenDue, OrNoMemory}
use Rattle.def_program.specs.Turns.{Turn, Asks, Ends, Follows}
use Rattle.def_program.specs.declared.Status.{Status}
use Rattle.def_program.specs.declared.Status.TheVariants as status
use Rattle.law_program.proofs.Ending.{not_both_forms, same_command, take_more, told_is, too_large}
use Rattle.law_program.proofs.Once.{once}

pub same_name : (a b : List ℕ) → Asks a ≡ Asks b → a ≡ b
same_name a b is = cc

-- ---- the files that were read beside those that are told

-- one of both was read or is told further, or both come to one turn
pub data Meeting (e : CallRecord) (read told : Turn) : Type 0 where
  together : read ≡ told → Meeting e read told
  further : (r : Read) → told ≡ Asks r.name → IsFile (e.folder.file r.name) r.bytes → Meeting e read told
  nearer : (f : Read) → read ≡ Asks f.name → IsTold e f.name f.bytes → Meeting e read told

abbrev AreToldWhenDue : CallRecord → Command → List Read → Type 0
AreToldWhenDue e c fs = (k : ℕ) (f : Read) → slice_get fs k ≡ Some f → IsToldWhenDue e c fs k f

module _ (e : CallRecord) (c : Command) (rs fs : List Read) (due : WereDue e c rs) (told : AreToldWhenDue e c fs) where
  one_more : (k : ℕ) (r f : Read) → slice_get rs k ≡ Some r → slice_get fs k ≡ Some f → contents (take k rs) ≡ contents (take k fs) → contents (take (suc k) rs) ≡ contents (take (suc k) fs)
  one_more k r f here there before =
      let was = due k r here in
      let is = told k f there in
      let asked : Follows c (contents (take k fs)) (Asks r.name) = subst (λ xs. Follows c xs (Asks r.name)) before was.asked in
      let named : r.name ≡ f.name = same_name r.name f.name (once c (contents (take k fs)) (Asks r.name) (Asks f.name) asked is.asked) in
      let file : File f.bytes ≡ e.folder.file r.name = sym is.told.told ∙ ap e.folder.file (sym named) in
      let same : f.bytes ≡ r.bytes = told_is (e.folder.file r.name) f.bytes r.bytes (sym file) was.file.holds in
      ap contents (take_more rs k r here) ∙ map-append (λ (x : Read). x.bytes) (take k rs) (r ∷ [])
      ∙ ap (λ xs. xs ++ r.bytes ∷ []) before ∙ ap (λ b. contents (take k fs) ++ b ∷ []) (sym same)
      ∙ sym (map-append (λ (x : Read). x.bytes) (take k fs) (f ∷ [])) ∙ ap contents (sym (take_more fs k f there))

  as_far : (k : ℕ) → k ≤ length rs → k ≤ length fs → contents (take k rs) ≡ contents (take k fs)
  as_far zero one other = refl
  as_far (suc k) one other = elim (slice_get_cases rs k).1 [
    | inl r ↦ elim (slice_get_cases fs k).1 [
      | inl f ↦ one_more k r.0 f.0 r.2 f.2 (as_far k (omega (arith, one)) (omega (arith, other)))
      | inr past ↦ absurd (let end : length fs ≤ k = past.0 in omega (arith, end, other))
    ]
    | inr past ↦ absurd (let end : length rs ≤ k = past.0 in omega (arith, end, one))
  ]

  whole_of : (xs : List Read) → contents (take (length xs) xs) ≡ contents xs
  whole_of xs = ap contents (take_all (length xs) xs (omega arith))

  meets : (read turn : Turn) → Follows c (contents rs) read → Follows c (contents fs) turn → Meeting e read turn
  meets read turn a b = elim (lt_tells (length rs) (length fs)) [
    | inl less ↦ elim (slice_get_cases fs (length rs)).1 [
      | inl f ↦
          let same : contents rs ≡ contents (take (length rs) fs) = sym (whole_of rs) ∙ as_far (length rs) (omega arith) (let l = less.1 in omega (arith, l)) in
          let is = told (length rs) f.0 f.2 in
          nearer f.0 (once c (contents (take (length rs) fs)) read (Asks f.0.name) (subst (λ xs. Follows c xs read) same a) is.asked) is.told
      | inr past ↦ absurd (let end : length fs ≤ length rs = past.0 in let l = less.1 in omega (arith, end, l))
    ]
    | inr more ↦ elim (lt_tells (length fs) (length rs)) [
      | inl less ↦ elim (slice_get_cases rs (length fs)).1 [
        | inl r ↦
            let same : contents fs ≡ contents (take (length fs) rs) = sym (whole_of fs) ∙ sym (as_far (length fs) (let l = less.1 in omega (arith, l)) (omega arith)) in
            let was = due (length fs) r.0 r.2 in
            further r.0 (once c (contents (take (length fs) rs)) turn (Asks r.0.name) (subst (λ xs. Follows c xs turn) same b) was.asked) was.file
        | inr past ↦ absurd (let end : length rs ≤ length fs = past.0 in let l = less.1 in omega (arith, end, l))
      ]
      | inr other ↦
          let size : length rs ≡ length fs = (let a = more.1 in let b = other.1 in omega (arith, a, b)) in
          let same : contents rs ≡ contents fs =
          sym (whole_of rs) ∙ as_far (length rs) (omega arith) (omega (arith, size)) ∙ ap (λ k. contents (take k fs)) size ∙ whole_of fs in
          together (once c (contents fs) read turn (subst (λ xs. Follows c xs read) same a) b)
    ]
  ]

-- ---- what a turn that came says of the turn that is due

-- of the file that is due next
none_absent : (t : Told) (bytes : List ℕ) → t ≡ Absent → FileHolds t bytes → ⊥
none_absent t bytes is holds = let P : Told → Type 0 = λ u. FileHolds u bytes in subst P is holds

not_large_absent : (t : Told) → t ≡ Absent → IsLarge t → ⊥
not_large_absent t is large = let P : Told → Type 0 = λ u. IsLarge u in subst P is large

module _ (e : CallRecord) (c : Command) (form : command_form e.words ≡ Some c) where
  -- the call's last turn, where the dialogue over the told files comes to this one
  pub turns : (s : Status) (text : List ℕ) (turn : Turn) → TurnCause e s text → ComesTo e c turn → Meeting e (Ends s text) turn
  turns s text turn t comes =
      let same : t.command ≡ c = same_command e t.command c t.form form in
      meets e c t.reads comes.files (subst (λ k. WereDue e k t.reads) same t.read.due) comes.told (Ends s text) turn
      (subst (λ k. Follows k (contents t.reads) (Ends s text)) same t.due) comes.follows

  pub asked : (text : List ℕ) (l : LargeCause e text) (turn : Turn) → ComesTo e c turn → Meeting e (Asks l.name) turn
  asked text l turn comes =
      let same : l.command ≡ c = same_command e l.command c l.form form in
      meets e c l.reads comes.files (subst (λ k. WereDue e k l.reads) same l.last.due) comes.told (Asks l.name) turn
      (subst (λ k. Follows k (contents l.reads) (Asks l.name)) same l.last.asked) comes.follows

  -- ---- the dialogue ends

  by_turn : (s due : Status) (text other : List ℕ) → Meeting e (Ends s text) (Ends due other) → s ≡ due
  by_turn s due text other (together is) = (let same = is in cc)
  by_turn s due text other (further r is file) = absurd (let clash : Ends due other ≡ Asks r.name = is in cc)
  by_turn s due text other (nearer f is told) = absurd (let clash : Ends s text ≡ Asks f.name = is in cc)

  no_large : (name : List ℕ) (due : Status) (other : List ℕ) → IsLarge (e.folder.file name) → Meeting e (Asks name) (Ends due other) → ⊥
  no_large name due other large (together is) = absurd (let clash : Asks name ≡ Ends due other = is in cc)
  no_large name due other large (further r is file) = absurd (let clash : Ends due other ≡ Asks r.name = is in cc)
  no_large name due other large (nearer f is told) =
      let named : f.name ≡ name = same_name f.name name (sym is) in
      too_large (e.folder.file name) f.bytes (ap e.folder.file (sym named) ∙ told.told) told.size large

  ends_so : (s due : Status) (text other : List ℕ) → TurnCause e s text → ComesTo e c (Ends due other) → OrNoMemory s due
  ends_so s due text other t comes = inl (by_turn s due text other (turns s text (Ends due other) t comes))

  -- ---- the dialogue asks for a file that isn't given

  -- a file that was given, where one of this name is due that can't be
  not_given : (s : Status) (text name : List ℕ) → ((bytes : List ℕ) → IsFile (e.folder.file name) bytes → ⊥) → Meeting e (Ends s text) (Asks name) → ⊥
  not_given s text name none (together is) = absurd (let clash : Ends s text ≡ Asks name = is in cc)
  not_given s text name none (further r is file) =
      let named : r.name ≡ name = same_name r.name name (sym is) in
      none r.bytes (subst (λ n. IsFile (e.folder.file n) r.bytes) named file)
  not_given s text name none (nearer f is told) = absurd (let clash : Ends s text ≡ Asks f.name = is in cc)

  no_turn : (s : Status) (text name : List ℕ) → ((bytes : List ℕ) → IsFile (e.folder.file name) bytes → ⊥) → TurnCause e s text → ComesTo e c (Asks name) → ⊥
  no_turn s text name none t comes = not_given s text name none (turns s text (Asks name) t comes)

  pub large_is_none : (name all : List ℕ) → e.folder.file name ≡ File all → most < length all → (bytes : List ℕ) → IsFile (e.folder.file name) bytes → ⊥
  large_is_none name all is long bytes file =
      let same : all ≡ bytes = told_is (e.folder.file name) all bytes is file.holds in
      absurd (omega (arith, ap length same, file.size, long))

  absent_is_none : (name : List ℕ) → e.folder.file name ≡ Absent → (bytes : List ℕ) → IsFile (e.folder.file name) bytes → ⊥
  absent_is_none name is bytes file = none_absent (e.folder.file name) bytes is file.holds

  -- a file that was too large, where one is due that is told to be absent
  absent_is_not_large : (name other : List ℕ) → IsLarge (e.folder.file name) → e.folder.file other ≡ Absent → Meeting e (Asks name) (Asks other) → ⊥
  absent_is_not_large name other large is (together same) =
      let named : name ≡ other = same_name name other same in
      not_large_absent (e.folder.file name) (ap e.folder.file named ∙ is) large
  absent_is_not_large name other large is (further r same file) =
      let named : r.name ≡ other = same_name r.name other (sym same) in
      none_absent (e.folder.file r.name) r.bytes (ap e.folder.file named ∙ is) file.holds
  absent_is_not_large name other large is (nearer f same told) =
      let named : f.name ≡ name = same_name f.name name (sym same) in
      too_large (e.folder.file name) f.bytes (ap e.folder.file (sym named) ∙ told.told) told.size large

-- ---- by the status

ends : (e : CallRecord) (s : Status) → Answers e s → (c : Command) (due : Status) (text : List ℕ) → command_form e.words ≡ Some c → ComesTo e c (Ends due text) → NoFault e → OrNoMemory s due
ends e status.Done w c due text form comes none = ends_so e c form status.Done due w.text text w.cause comes
ends e status.Usage w c due text form comes none = absurd (not_both_forms e c w.cause.form form)
ends e status.ReadFault w c due text form comes none = absurd (none.reads w.cause.rose)
ends e status.TooLarge w c due text form comes none = absurd (no_large e c form w.cause.name due text w.cause.large.large (asked e c form w.text w.cause (Ends due text) comes))
ends e status.Description w c due text form comes none = ends_so e c form status.Description due w.text text w.cause comes
ends e status.Assembly w c due text form comes none = ends_so e c form status.Assembly due w.text text w.cause comes
ends e status.Link w c due text form comes none = ends_so e c form status.Link due w.text text w.cause comes
ends e status.Image w c due text form comes none = ends_so e c form status.Image due w.text text w.cause comes
ends e status.Script w c due text form comes none = ends_so e c form status.Script due w.text text w.cause comes
ends e status.WriteFault w c due text form comes none = absurd (none.writes w.rose)
ends e status.NoMemory w c due text form comes none = inr refl
ends e status.Name w c due text form comes none = ends_so e c form status.Name due w.text text w.cause comes
ends e status.Denied w c due text form comes none = ends_so e c form status.Denied due w.text text w.cause comes
ends e status.Policy w c due text form comes none = ends_so e c form status.Policy due w.text text w.cause comes

large : (e : CallRecord) (s : Status) → Answers e s → (c : Command) (name bytes : List ℕ) → command_form e.words ≡ Some c → ComesTo e c (Asks name) → e.folder.file name ≡ File bytes → most < length bytes
    → NoFault e → OrNoMemory s status.TooLarge
large e status.Done w c name bytes form comes is long none = absurd (no_turn e c form status.Done w.text name (large_is_none e c form name bytes is long) w.cause comes)
large e status.Usage w c name bytes form comes is long none = absurd (not_both_forms e c w.cause.form form)
large e status.ReadFault w c name bytes form comes is long none = absurd (none.reads w.cause.rose)
large e status.TooLarge w c name bytes form comes is long none = inl refl
large e status.Description w c name bytes form comes is long none = absurd (no_turn e c form status.Description w.text name (large_is_none e c form name bytes is long) w.cause comes)
large e status.Assembly w c name bytes form comes is long none = absurd (no_turn e c form status.Assembly w.text name (large_is_none e c form name bytes is long) w.cause comes)
large e status.Link w c name bytes form comes is long none = absurd (no_turn e c form status.Link w.text name (large_is_none e c form name bytes is long) w.cause comes)
large e status.Image w c name bytes form comes is long none = absurd (no_turn e c form status.Image w.text name (large_is_none e c form name bytes is long) w.cause comes)
large e status.Script w c name bytes form comes is long none = absurd (no_turn e c form status.Script w.text name (large_is_none e c form name bytes is long) w.cause comes)
large e status.WriteFault w c name bytes form comes is long none = absurd (none.writes w.rose)
large e status.NoMemory w c name bytes form comes is long none = inr refl
large e status.Name w c name bytes form comes is long none = absurd (no_turn e c form status.Name w.text name (large_is_none e c form name bytes is long) w.cause comes)
large e status.Denied w c name bytes form comes is long none = absurd (no_turn e c form status.Denied w.text name (large_is_none e c form name bytes is long) w.cause comes)
large e status.Policy w c name bytes form comes is long none = absurd (no_turn e c form status.Policy w.text name (large_is_none e c form name bytes is long) w.cause comes)

absent : (e : CallRecord) (s : Status) → Answers e s → (c : Command) (name : List ℕ) → command_form e.words ≡ Some c → ComesTo e c (Asks name) → e.folder.file name ≡ Absent
    → OrNoMemory s status.ReadFault ⊎ (s ≡ status.WriteFault)
absent e status.Done w c name form comes is = absurd (no_turn e c form status.Done w.text name (absent_is_none e c form name is) w.cause comes)
absent e status.Usage w c name form comes is = absurd (not_both_forms e c w.cause.form form)
absent e status.ReadFault w c name form comes is = inl (inl refl)
absent e status.TooLarge w c name form comes is = absurd (absent_is_not_large e c form w.cause.name name w.cause.large.large is (asked e c form w.text w.cause (Asks name) comes))
absent e status.Description w c name form comes is = absurd (no_turn e c form status.Description w.text name (absent_is_none e c form name is) w.cause comes)
absent e status.Assembly w c name form comes is = absurd (no_turn e c form status.Assembly w.text name (absent_is_none e c form name is) w.cause comes)
absent e status.Link w c name form comes is = absurd (no_turn e c form status.Link w.text name (absent_is_none e c form name is) w.cause comes)
absent e status.Image w c name form comes is = absurd (no_turn e c form status.Image w.text name (absent_is_none e c form name is) w.cause comes)
absent e status.Script w c name form comes is = absurd (no_turn e c form status.Script w.text name (absent_is_none e c form name is) w.cause comes)
absent e status.WriteFault w c name form comes is = inr refl
absent e status.NoMemory w c name form comes is = inl (inr refl)
absent e status.Name w c name form comes is = absurd (no_turn e c form status.Name w.text name (absent_is_none e c form name is) w.cause comes)
absent e status.Denied w c name form comes is = absurd (no_turn e c form status.Denied w.text name (absent_is_none e c form name is) w.cause comes)
absent e status.Policy w c name form comes is = absurd (no_turn e c form status.Policy w.text name (absent_is_none e c form name is) w.cause comes)

pub decides : (e : CallRecord) (s : Status) → Answers e s → IsDecided e s
decides e s a = record { ends = ends e s a; large = large e s a; absent = absent e s a }
