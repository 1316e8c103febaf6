-- What is left of the answers.
use Rattle.std.proofs.Common.{◌≡◌, ℕ, zero, suc, ◌+◌, ◌-◌, ◌^◌, ◌<◌, ◌≤◌, ◌⊎◌, min, Bool, true, false, List, [], ◌∷◌, ◌++◌, Option, Some, None, Result, Ok, Err, length, take, drop, slice_get, refl, sym, ap, ◌∙◌, subst, inl, inr, arith, length-take}
use Rattle.std.proofs.lemmas.List.{map-append, take_all}
use Rattle.std.proofs.lemmas.Option.{slice_get_cases, slice_get_within}
use Rattle.law_lists.proofs.Places.{still_there}
use Rattle.ct_entry.specs.declared.rows.Owner.{Owner}
use Rattle.def_port.specs.Bytes.{FaultsRose}
use Rattle.def_port.specs.Told.{Told, File}
use Rattle.def_image.specs.Accepted.{IsImage}
use Rattle.def_image.specs.Parts.{PartsRow}
use Rattle.def_link.specs.declared.LinkFault.{LinkFault}
use Rattle.def_link.specs.Linked.{linked}
use Rattle.def_program.specs.declared.Status.{Status}
use Rattle.def_program.specs.declared.Status.TheVariants as status
use Rattle.def_program.specs.Commands.{Command, Audit, Image, Run, RunImage, Why, Upgrade, Check, Demo, command_form, generated_by, file_of, reads_image}
use Rattle.def_program.specs.Calls.{CallRecord, FileHolds, IsLarge, most}
use Rattle.def_program.specs.Licences.{LinksTo, NumberStandsFor}
use Rattle.def_program.specs.Lines.{script_line, policy_line, allow_line}
use Rattle.def_program.specs.Runs.{run_text}
use Rattle.def_program.specs.Paths.{owner_named, compartment_named}
use Rattle.def_desc.specs.Reading.{description_of}
use Rattle.def_gen.specs.Description.{firmware}
use Rattle.def_gen.specs.Sources as generated
use Rattle.law_gen.proofs.Linking as links
use Rattle.def_program.specs.Turns.{Turn, Asks, Ends, NamesFound, OfText, verdict, OfScript, OfRun, OfParts, OfLinked, OfSources, OfRows, OfDescription, OfImage, OfFirst, OfFiles, FollowsBy, Follows, source_names}
use Rattle.def_program.specs.Answers.{Read, contents, WereDue, TurnCause, LastRead, Answers}
use Rattle.law_desc.proofs.Judging.{not_both, same_rows}
use Rattle.law_image.proofs.Backs.{one_reading}
use Rattle.law_image.proofs.Faults.{no_fault as image_has_none}
use Rattle.law_policy.proofs.Texts as texts
use Rattle.law_script.proofs.Scripts as scripts
use Rattle.def_program.specs.Completing.{NoFault, IsTold, AreTold, Stand, IsRuled, IsPlanned, IsPlannedIfNamed, AlsoStands, AreGiven, GivenFiles, IsAsked, looked_status, Finishes, Completes, CompletesDemo, RefusesMisuse, IsSteady}

-- ---- lists by index

pub take_more : {A : Type 0} (xs : List A) (k : ℕ) (x : A) → slice_get xs k ≡ Some x → take (suc k) xs ≡ take k xs ++ x ∷ []
take_more [] k x is = absurd (let clash : None ≡ Some x = is in cc)
take_more (y ∷ ys) zero x is = let same : y ≡ x = (let here : Some y ≡ Some x = is in cc) in ap (λ z. z ∷ []) same
take_more (y ∷ ys) (suc k) x is = ap (λ zs. y ∷ zs) (take_more ys k x is)

-- what is told of a name in its place
told_at : (e : CallRecord) (names all : List (List ℕ)) (k : ℕ) (name : List ℕ) → AreTold e names all → slice_get names k ≡ Some name
    → (bytes : List ℕ) × ((slice_get all k ≡ Some bytes) × IsTold e name bytes)
told_at e [] all k name t is = absurd (let clash : None ≡ Some name = is in cc)
told_at e (n ∷ ns) [] k name t is = absurd t
told_at e (n ∷ ns) (b ∷ bs) zero name t is = let same : n ≡ name = (let here : Some n ≡ Some name = is in cc) in (b, (refl, subst (λ x. IsTold e x b) same t.0))
told_at e (n ∷ ns) (b ∷ bs) (suc k) name t is = told_at e ns bs k name t.1 is

-- of each name of two lists of names
told_both : (e : CallRecord) (names all more files : List (List ℕ)) → AreTold e names all → AreTold e more files → AreTold e (names ++ more) (all ++ files)
told_both e [] [] more files t u = u
told_both e [] (b ∷ bs) more files t u = absurd t
told_both e (n ∷ ns) [] more files t u = absurd t
told_both e (n ∷ ns) (b ∷ bs) more files t u = (t.0, told_both e ns bs more files t.1 u)

-- the first of two lists, cut out of the front of both
take_own : {A : Type 0} (xs ys : List A) (j : ℕ) → length xs ≤ j → take (length xs) (take j (xs ++ ys)) ≡ xs
take_own [] ys j long = refl
take_own (x ∷ xs) ys zero long = absurd (omega (arith, long))
take_own (x ∷ xs) ys (suc j) long = ap (λ zs. x ∷ zs) (take_own xs ys j (omega (arith, long)))

drop_own : {A : Type 0} (xs ys : List A) (j k : ℕ) → j ≡ length xs + k → drop (length xs) (take j (xs ++ ys)) ≡ take k ys
drop_own [] ys j k is = ap (λ n. take n ys) (let same : j ≡ k = omega (arith, is) in same)
drop_own (x ∷ xs) ys zero k is = absurd (omega (arith, is))
drop_own (x ∷ xs) ys (suc j) k is = drop_own xs ys j k (omega (arith, is))

get_later : {A : Type 0} (xs ys : List A) (j k : ℕ) → j ≡ length xs + k → slice_get (xs ++ ys) j ≡ slice_get ys k
get_later [] ys j k is = ap (slice_get ys) (let same : j ≡ k = omega (arith, is) in same)
get_later (x ∷ xs) ys zero k is = absurd (omega (arith, is))
get_later (x ∷ xs) ys (suc j) k is = get_later xs ys j k (omega (arith, is))

-- ---- one file

pub told_is : (t : Told) (all bytes : List ℕ) → t ≡ File all → FileHolds t bytes → all ≡ bytes
told_is t all bytes is holds = let P : Told → Type 0 = λ u. FileHolds u bytes in subst P is holds

pub too_large : (t : Told) (all : List ℕ) → t ≡ File all → length all ≤ most → IsLarge t → ⊥
too_large t all is size large =
    let past : most < length all = (let P : Told → Type 0 = λ u. IsLarge u in subst P is large) in
    absurd (omega (arith, past, size))

-- ---- the status of a turn over parts

names_end : (p : PartsRow) (o : Option Owner) (c : Option ℕ) (s : Status) (text : List ℕ) → NamesFound p o c (Ends s text) → s ≡ looked_status o c
names_end p (Some o) (Some c) s text h = let same : Ends s text ≡ Ends status.Done h.0 = h.1.1 in cc
names_end p (Some o) None s text h = let same = h in cc
names_end p None c s text h = let same = h in cc

-- no file is due of names
names_ask : (p : PartsRow) (o : Option Owner) (c : Option ℕ) (name : List ℕ) → NamesFound p o c (Asks name) → ⊥
names_ask p (Some o) (Some c) name h = absurd (let clash : Asks name ≡ Ends status.Done h.0 = h.1.1 in cc)
names_ask p (Some o) None name h = absurd (let clash = h in cc)
names_ask p None c name h = absurd (let clash = h in cc)

-- nor of a policy
verdict_asks : (lines name : List ℕ) → Asks name ≡ verdict lines → ⊥
verdict_asks [] name is = absurd (let clash : Asks name ≡ Ends status.Done allow_line = is in cc)
verdict_asks (c ∷ cs) name is = absurd (let clash : Asks name ≡ Ends status.Denied (c ∷ cs) = is in cc)

policy_asks : (p : PartsRow) (bytes name : List ℕ) → OfText p bytes (Asks name) → ⊥
policy_asks p bytes name (inl u) = absurd (let clash : Asks name ≡ Ends status.Policy (policy_line u.fault.number u.fault.place) = u.due in cc)
policy_asks p bytes name (inr j) = verdict_asks j.text name j.due

abbrev IsVerdict : Status → Type 0
IsVerdict s = (s ≡ status.Done) ⊎ (s ≡ status.Denied)

verdict_ends : (lines : List ℕ) (s : Status) (text : List ℕ) → Ends s text ≡ verdict lines → IsVerdict s
verdict_ends [] s text is = inl (let same : Ends s text ≡ Ends status.Done allow_line = is in cc)
verdict_ends (c ∷ cs) s text is = inr (let same : Ends s text ≡ Ends status.Denied (c ∷ cs) = is in cc)

policy_ends : (e : CallRecord) (p : PartsRow) (policy : List ℕ) (r : IsRuled e p policy) (s : Status) (text : List ℕ)
    → OfText p r.bytes (Ends s text) → IsVerdict s
policy_ends e p policy r s text (inl u) = absurd (texts.not_both p r.bytes u.fault.number u.fault.place r.rulings u.is r.reads)
policy_ends e p policy r s text (inr j) = verdict_ends j.text s text j.due

-- ---- the files that are due after those that stand for parts

-- these names are due one after the other, and then a status comes
pub record PartsPlan (e : CallRecord) (c : Command) (p : PartsRow) (names all : List (List ℕ)) : Type 0 where
  pub told : AreTold e names all
  pub next : (k : ℕ) (name : List ℕ) → OfParts c p (take k all) (Asks name) → slice_get names k ≡ Some name
  pub last : (k : ℕ) (s : Status) (text : List ℕ) → OfParts c p (take k all) (Ends s text) → Finishes c p s

record PartsPlanned (e : CallRecord) (c : Command) (p : PartsRow) : Type 0 where
  names : List (List ℕ)
  all : List (List ℕ)
  plan : PartsPlan e c p names all

-- none are due
no_more : (e : CallRecord) (c : Command) (p : PartsRow) → ((k : ℕ) (name : List ℕ) → OfParts c p (take k []) (Asks name) → ⊥)
    → ((k : ℕ) (s : Status) (text : List ℕ) → OfParts c p (take k []) (Ends s text) → Finishes c p s) → PartsPlanned e c p
no_more e c p asks last = record { names = []; all = []; plan = record { told = tt; next = λ k name h. absurd (asks k name h); last = last } }

module _ (e : CallRecord) (name policy : List ℕ) (p : PartsRow) (r : IsRuled e p policy) where
  check_next : (k : ℕ) (file : List ℕ) → OfParts (Check name policy) p (take k (r.bytes ∷ [])) (Asks file) → slice_get (policy ∷ []) k ≡ Some file
  check_next zero file h = let same : Asks file ≡ Asks policy = h in cc
  check_next (suc k) file h = absurd (policy_asks p r.bytes file h)

  check_last : (k : ℕ) (s : Status) (text : List ℕ) → OfParts (Check name policy) p (take k (r.bytes ∷ [])) (Ends s text) → Finishes (Check name policy) p s
  check_last zero s text h = absurd (let clash : Ends s text ≡ Asks policy = h in cc)
  check_last (suc k) s text h = policy_ends e p policy r s text h

script_asks : (p : PartsRow) (limit : ℕ) (bytes file : List ℕ) → OfScript p limit bytes (Asks file) → ⊥
script_asks p limit bytes file (inl a) = absurd (let clash : Asks file ≡ Ends status.Script (script_line a.fault.number a.fault.place) = a.due in cc)
script_asks p limit bytes file (inr a) = absurd (let clash : Asks file ≡ Ends status.Done (run_text p a.dues limit) = a.due in cc)

script_ends : (e : CallRecord) (p : PartsRow) (limit : ℕ) (name : List ℕ) (x : IsPlanned e p name) (s : Status) (text : List ℕ) → OfScript p limit x.bytes (Ends s text) → s ≡ status.Done
script_ends e p limit name x s text (inl a) = absurd (scripts.no_reading p.devices x.bytes x.dues a.fault.number a.fault.place a.is x.reads)
script_ends e p limit name x s text (inr a) = let same : Ends s text ≡ Ends status.Done (run_text p a.dues limit) = a.due in cc

-- of a run, by its script or without one
record RunPlanned (e : CallRecord) (p : PartsRow) (limit : ℕ) (script : Option (List ℕ)) : Type 0 where
  names : List (List ℕ)
  all : List (List ℕ)
  told : AreTold e names all
  next : (k : ℕ) (name : List ℕ) → OfRun p limit script (take k all) (Asks name) → slice_get names k ≡ Some name
  last : (k : ℕ) (s : Status) (text : List ℕ) → OfRun p limit script (take k all) (Ends s text) → s ≡ status.Done

module _ (e : CallRecord) (p : PartsRow) (limit : ℕ) (script : List ℕ) (x : IsPlanned e p script) where
  script_next : (k : ℕ) (file : List ℕ) → OfRun p limit (Some script) (take k (x.bytes ∷ [])) (Asks file) → slice_get (script ∷ []) k ≡ Some file
  script_next zero file h = let same : Asks file ≡ Asks script = h in cc
  script_next (suc k) file h = absurd (script_asks p limit x.bytes file h)

  script_last : (k : ℕ) (s : Status) (text : List ℕ) → OfRun p limit (Some script) (take k (x.bytes ∷ [])) (Ends s text) → s ≡ status.Done
  script_last zero s text h = absurd (let clash : Ends s text ≡ Asks script = h in cc)
  script_last (suc k) s text h = script_ends e p limit script x s text h

run_planned : (e : CallRecord) (p : PartsRow) (limit : ℕ) (script : Option (List ℕ)) → IsPlannedIfNamed e p script → RunPlanned e p limit script
run_planned e p limit None also = record {
  names = [];
  all = [];
  told = tt;
  next = λ k name h. absurd (let clash : Asks name ≡ Ends status.Done (run_text p [] limit) = h in cc);
  last = λ k s text h. (let same : Ends s text ≡ Ends status.Done (run_text p [] limit) = h in cc);
}
run_planned e p limit (Some script) x = record {
  names = script ∷ [];
  all = x.bytes ∷ [];
  told = (x.told, tt);
  next = script_next e p limit script x;
  last = script_last e p limit script x;
}

parts_planned : (e : CallRecord) (c : Command) (p : PartsRow) → AlsoStands e c p → PartsPlanned e c p
parts_planned e (Audit file) p also = no_more e (Audit file) p (λ k name h. absurd (let clash = h in cc)) (λ k s text h. let same = h in cc)
parts_planned e (Image file) p also = no_more e (Image file) p (λ k name h. absurd (let clash = h in cc)) (λ k s text h. let same = h in cc)
parts_planned e (Run file limit script) p also =
    let x = run_planned e p limit script also in
    record { names = x.names; all = x.all; plan = record { told = x.told; next = x.next; last = x.last } }
parts_planned e (RunImage file limit script) p also =
    let x = run_planned e p limit script also in
    record { names = x.names; all = x.all; plan = record { told = x.told; next = x.next; last = x.last } }
parts_planned e (Why file owner compartment) p also =
    no_more e (Why file owner compartment) p
    (λ k name h. names_ask p (owner_named p owner) (compartment_named p compartment) name h)
    (λ k s text h. names_end p (owner_named p owner) (compartment_named p compartment) s text h)
parts_planned e (Upgrade file) p also = no_more e (Upgrade file) p (λ k name h. absurd (let clash = h in cc)) (λ k s text h. let same = h in cc)
parts_planned e (Check file policy) p also = record {
  names = policy ∷ [];
  all = also.bytes ∷ [];
  plan = record { told = (also.told, tt); next = check_next e file policy p also; last = check_last e file policy p also };
}
parts_planned e (Demo number) p also = no_more e (Demo number) p (λ k name h. absurd (let clash = h in cc)) (λ k s text h. let same = h in cc)

-- ---- what is due after files that stand for parts

-- the files of these names are due one after the other, and then what the parts tell
pub record Plan (e : CallRecord) (c : Command) (p : PartsRow) (names all : List (List ℕ)) : Type 0 where
  pub told : AreTold e names all
  pub next : (k : ℕ) (name : List ℕ) → k ≤ length all → Follows c (take k all) (Asks name) → slice_get names k ≡ Some name
  pub last : (k : ℕ) (s : Status) (text : List ℕ) → k ≤ length all → Follows c (take k all) (Ends s text) → Finishes c p s

-- the same of a command that reads files
record FilesPlan (e : CallRecord) (c : Command) (p : PartsRow) (names all : List (List ℕ)) : Type 0 where
  told : AreTold e names all
  next : (k : ℕ) (name : List ℕ) → k ≤ length all → OfFiles c (take k all) (Asks name) → slice_get names k ≡ Some name
  last : (k : ℕ) (s : Status) (text : List ℕ) → k ≤ length all → OfFiles c (take k all) (Ends s text) → Finishes c p s

from_files : (c : Command) (files : List (List ℕ)) (turn : Turn) → generated_by c ≡ None → Follows c files turn → OfFiles c files turn
from_files c files turn none h = subst (λ o. FollowsBy c o files turn) none h

read_plan : (e : CallRecord) (c : Command) (p : PartsRow) (names all : List (List ℕ)) → generated_by c ≡ None → FilesPlan e c p names all → Plan e c p names all
read_plan e c p names all none plan = record {
  told = plan.told;
  next = λ k name few h. plan.next k name few (from_files c (take k all) (Asks name) none h);
  last = λ k s text few h. plan.last k s text few (from_files c (take k all) (Ends s text) none h);
}

-- each of the files that were read is the one in its place
prefix_is : (e : CallRecord) (c : Command) (p : PartsRow) (names all : List (List ℕ)) → Plan e c p names all → (rs : List Read) → WereDue e c rs
    → (k : ℕ) → k ≤ length rs → (contents (take k rs) ≡ take k all) × (k ≤ length all)
prefix_is e c p names all plan rs due zero short = (refl, omega arith)
prefix_is e c p names all plan rs due (suc k) short =
    let before : (contents (take k rs) ≡ take k all) × (k ≤ length all) = prefix_is e c p names all plan rs due k (omega (arith, short)) in
    elim (slice_get_cases rs k).1 [
      | inl there ↦ with_next there.0 there.2 before
      | inr past ↦ absurd (let end : length rs ≤ k = past.0 in omega (arith, end, short))
    ]
  where
    with_next : (r : Read) → slice_get rs k ≡ Some r → (contents (take k rs) ≡ take k all) × (k ≤ length all) → (contents (take (suc k) rs) ≡ take (suc k) all) × (suc k ≤ length all)
    with_next r is before =
        let asked : Follows c (take k all) (Asks r.name) = subst (λ fs. Follows c fs (Asks r.name)) before.0 (due k r is).asked in
        let named : slice_get names k ≡ Some r.name = plan.next k r.name before.1 asked in
        let file = told_at e names all k r.name plan.told named in
        let same : file.0 ≡ r.bytes = told_is (e.folder.file r.name) file.0 r.bytes file.1.1.told (due k r is).file.holds in
        let whole : take (suc k) all ≡ take k all ++ file.0 ∷ [] = take_more all k file.0 file.1.0 in
        let read : take (suc k) rs ≡ take k rs ++ r ∷ [] = take_more rs k r is in
        let inside : k < length all = slice_get_within all k file.0 file.1.0 in
        (ap contents read ∙ map-append (λ (x : Read). x.bytes) (take k rs) (r ∷ []) ∙ ap (λ fs. fs ++ r.bytes ∷ []) before.0 ∙ ap (λ b. take k all ++ b ∷ []) (sym same) ∙ sym whole, omega (arith, inside))

read_so_far : (e : CallRecord) (c : Command) (p : PartsRow) (names all : List (List ℕ)) → Plan e c p names all → (rs : List Read) → WereDue e c rs
    → (contents rs ≡ take (length rs) all) × (length rs ≤ length all)
read_so_far e c p names all plan rs due =
    let so : (contents (take (length rs) rs) ≡ take (length rs) all) × (length rs ≤ length all) = prefix_is e c p names all plan rs due (length rs) (omega arith) in
    (ap contents (sym (take_all (length rs) rs (omega arith))) ∙ so.0, so.1)

-- ---- descriptions

module _ (e : CallRecord) (c : Command) (bytes : List ℕ) (sources : List (List ℕ)) (p : PartsRow) (l : LinksTo bytes sources p)
    (names all : List (List ℕ)) (plan : PartsPlan e c p names all) where
  linked_ends : (r : Result PartsRow LinkFault) (more : List (List ℕ)) (turn : Turn) → r ≡ Ok p → OfLinked c l.description r more turn → OfParts c p more turn
  linked_ends (Err f) more turn is h = absurd (let clash : Err f ≡ Ok p = is in cc)
  linked_ends (Ok q) more turn is h = let same : q ≡ p = (let here : Ok q ≡ Ok p = is in cc) in subst (λ x. OfParts c x more turn) same h

  of_rows : (files : List (List ℕ)) (turn : Turn) → OfDescription c bytes files turn → OfRows c l.description files turn
  of_rows files turn (inl f) = absurd (not_both bytes l.description f.fault l.well f.is)
  of_rows files turn (inr d) = subst (λ x. OfRows c x files turn) (same_rows bytes d.0 l.description d.1.0 l.well) d.1.1

  -- with fewer sources, the next is due
  source_asks : (some more : List (List ℕ)) (o : Option (List ℕ)) (x name : List ℕ) → o ≡ Some x → OfSources c l.description some more o (Asks name) → o ≡ Some name
  source_asks some more None x name is h = absurd (let clash : None ≡ Some x = is in cc)
  source_asks some more (Some y) x name is h = let same : Asks name ≡ Asks y = h in cc

  source_stops : (some more : List (List ℕ)) (o : Option (List ℕ)) (x : List ℕ) (s : Status) (text : List ℕ) → o ≡ Some x → OfSources c l.description some more o (Ends s text) → ⊥
  source_stops some more None x s text is h = absurd (let clash : None ≡ Some x = is in cc)
  source_stops some more (Some y) x s text is h = absurd (let clash : Ends s text ≡ Asks y = h in cc)

  -- with all of them, the parts tell
  source_ends : (some more : List (List ℕ)) (o : Option (List ℕ)) (turn : Turn) → o ≡ None → some ≡ sources → OfSources c l.description some more o turn → OfParts c p more turn
  source_ends some more (Some name) turn is same h = absurd (let clash : Some name ≡ None = is in cc)
  source_ends some more None turn is same h =
      linked_ends (linked l.description sources) more turn l.links (subst (λ xs. OfLinked c l.description (linked l.description xs) more turn) same h)

  -- after j files, of which there are no more than all
  there : (j : ℕ) (turn : Turn) → reads_image c ≡ false → OfFirst (reads_image c) c bytes (take j (sources ++ all)) turn → OfRows c l.description (take j (sources ++ all)) turn
  there j turn description h = of_rows (take j (sources ++ all)) turn (subst (λ b. OfFirst b c bytes (take j (sources ++ all)) turn) description h)

  -- the same, by how many they are
  at_file : (j : ℕ) (turn : Turn) → j ≤ length (sources ++ all) → OfRows c l.description (take j (sources ++ all)) turn
      → OfSources c l.description (take (length (source_names l.description)) (take j (sources ++ all))) (drop (length (source_names l.description)) (take j (sources ++ all))) (slice_get (source_names l.description) j) turn
  at_file j turn few h =
      let size : length (take j (sources ++ all)) ≡ j = (let taken = length-take j (sources ++ all) in omega (arith, taken, few)) in
      subst (λ n. OfSources c l.description (take (length (source_names l.description)) (take j (sources ++ all))) (drop (length (source_names l.description)) (take j (sources ++ all))) (slice_get (source_names l.description) n) turn) size h

  at_last : (j k : ℕ) (turn : Turn) → j ≡ length sources + k → slice_get (source_names l.description) j ≡ None
      → OfSources c l.description (take (length (source_names l.description)) (take j (sources ++ all))) (drop (length (source_names l.description)) (take j (sources ++ all))) (slice_get (source_names l.description) j) turn
      → OfParts c p (take k all) turn
  at_last j k turn is none h =
      let own : take (length (source_names l.description)) (take j (sources ++ all)) ≡ sources = ap (λ n. take n (take j (sources ++ all))) (sym l.whole) ∙ take_own sources all j (omega (arith, is)) in
      let rest : drop (length (source_names l.description)) (take j (sources ++ all)) ≡ take k all = ap (λ n. drop n (take j (sources ++ all))) (sym l.whole) ∙ drop_own sources all j k is in
      subst (λ more. OfParts c p more turn) rest
      (source_ends (take (length (source_names l.description)) (take j (sources ++ all))) (drop (length (source_names l.description)) (take j (sources ++ all))) (slice_get (source_names l.description) j) turn none own h)

  past : (j : ℕ) → length (source_names l.description) ≤ j → j ≡ length sources + (j - length sources)
  past j many = let size = l.whole in omega (arith, size, many)

  next_file : (j : ℕ) (name : List ℕ) → j ≤ length (sources ++ all) → OfRows c l.description (take j (sources ++ all)) (Asks name) → slice_get (source_names l.description ++ names) j ≡ Some name
  next_file j name few h =
      let here = at_file j (Asks name) few h in
      elim (slice_get_cases (source_names l.description) j).1 [
        | inl x ↦ still_there (source_names l.description) names j name (source_asks _ _ (slice_get (source_names l.description) j) x.0 name x.2 here)
        | inr none ↦
            let is : j ≡ length sources + (j - length sources) = past j none.0 in
            let later : j ≡ length (source_names l.description) + (j - length sources) = (let size = l.whole in omega (arith, size, is)) in
            get_later (source_names l.description) names j (j - length sources) later
            ∙ plan.next (j - length sources) name (at_last j (j - length sources) (Asks name) is none.1 here)
      ]

  last_file : (j : ℕ) (s : Status) (text : List ℕ) → j ≤ length (sources ++ all) → OfRows c l.description (take j (sources ++ all)) (Ends s text) → Finishes c p s
  last_file j s text few h =
      let here = at_file j (Ends s text) few h in
      elim (slice_get_cases (source_names l.description) j).1 [
        | inl x ↦ absurd (source_stops _ _ (slice_get (source_names l.description) j) x.0 s text x.2 here)
        | inr none ↦ plan.last (j - length sources) s text (at_last j (j - length sources) (Ends s text) (past j none.0) none.1 here)
      ]

  by_description : reads_image c ≡ false → IsTold e (file_of c) bytes → AreTold e (source_names l.description) sources
      → FilesPlan e c p (file_of c ∷ (source_names l.description ++ names)) (bytes ∷ (sources ++ all))
  by_description description first rest = record { told = (first, told_both e (source_names l.description) sources names all rest plan.told); next = next; last = last }
    where
      next : (k : ℕ) (name : List ℕ) → k ≤ length (bytes ∷ (sources ++ all)) → OfFiles c (take k (bytes ∷ (sources ++ all))) (Asks name)
          → slice_get (file_of c ∷ (source_names l.description ++ names)) k ≡ Some name
      next zero name few h = let same : Asks name ≡ Asks (file_of c) = h in cc
      next (suc j) name few h = next_file j name (omega (arith, few)) (there j (Asks name) description h)

      last : (k : ℕ) (s : Status) (text : List ℕ) → k ≤ length (bytes ∷ (sources ++ all)) → OfFiles c (take k (bytes ∷ (sources ++ all))) (Ends s text) → Finishes c p s
      last zero s text few h = absurd (let clash : Ends s text ≡ Asks (file_of c) = h in cc)
      last (suc j) s text few h = last_file j s text (omega (arith, few)) (there j (Ends s text) description h)

-- ---- images

module _ (e : CallRecord) (c : Command) (bytes : List ℕ) (p : PartsRow) (i : IsImage bytes p)
    (names all : List (List ℕ)) (plan : PartsPlan e c p names all) where
  image_parts : (files : List (List ℕ)) (turn : Turn) → OfImage c bytes files turn → OfParts c p files turn
  image_parts files turn (inl f) = absurd (image_has_none bytes p f.fault.number f.fault.place i f.is)
  image_parts files turn (inr q) =
      let same : q.0 ≡ p = one_reading q.0 p q.1.0.0.spellable i.0.spellable (sym q.1.0.1 ∙ i.1) in
      subst (λ x. OfParts c x files turn) same q.1.1

  by_image : reads_image c ≡ true → IsTold e (file_of c) bytes → FilesPlan e c p (file_of c ∷ names) (bytes ∷ all)
  by_image image first = record { told = (first, plan.told); next = next; last = last }
    where
      there : (j : ℕ) (turn : Turn) → OfFirst (reads_image c) c bytes (take j all) turn → OfParts c p (take j all) turn
      there j turn h = image_parts (take j all) turn (subst (λ b. OfFirst b c bytes (take j all) turn) image h)

      next : (k : ℕ) (name : List ℕ) → k ≤ length (bytes ∷ all) → OfFiles c (take k (bytes ∷ all)) (Asks name) → slice_get (file_of c ∷ names) k ≡ Some name
      next zero name few h = let same : Asks name ≡ Asks (file_of c) = h in cc
      next (suc j) name few h = plan.next j name (there j (Asks name) h)

      last : (k : ℕ) (s : Status) (text : List ℕ) → k ≤ length (bytes ∷ all) → OfFiles c (take k (bytes ∷ all)) (Ends s text) → Finishes c p s
      last zero s text few h = absurd (let clash : Ends s text ≡ Asks (file_of c) = h in cc)
      last (suc j) s text few h = plan.last j s text (there j (Ends s text) h)

-- ---- what is asked has a plan

record Planned (e : CallRecord) (c : Command) (p : PartsRow) : Type 0 where
  names : List (List ℕ)
  all : List (List ℕ)
  plan : Plan e c p names all

planned_by : (e : CallRecord) (c : Command) (image : Bool) (bytes : List ℕ) (sources : List (List ℕ)) (p : PartsRow) → generated_by c ≡ None
    → reads_image c ≡ image → IsTold e (file_of c) bytes → Stand e image bytes sources p → PartsPlanned e c p → Planned e c p
planned_by e c true bytes sources p none is first stand more = record {
  names = file_of c ∷ more.names;
  all = bytes ∷ more.all;
  plan = read_plan e c p (file_of c ∷ more.names) (bytes ∷ more.all) none (by_image e c bytes p stand more.names more.all more.plan is first);
}
planned_by e c false bytes sources p none is first stand more = record {
  names = file_of c ∷ (source_names stand.0.description ++ more.names);
  all = bytes ∷ (sources ++ more.all);
  plan = read_plan e c p (file_of c ∷ (source_names stand.0.description ++ more.names)) (bytes ∷ (sources ++ more.all)) none
      (by_description e c bytes sources p stand.0 more.names more.all more.plan is first stand.1);
}

planned_files : (e : CallRecord) (c : Command) (p : PartsRow) → generated_by c ≡ None → AreGiven e c p → Planned e c p
planned_files e c p none g = planned_by e c (reads_image c) g.bytes g.sources p none refl g.first g.stand (parts_planned e c p g.also)

-- of a generated firmware no file is due
number_parts : (number : ℕ) (p : PartsRow) (files : List (List ℕ)) (turn : Turn) → NumberStandsFor number p → Follows (Demo number) files turn → OfParts (Demo number) p files turn
number_parts number p files turn is h =
    subst (λ r. OfLinked (Demo number) (description_of (firmware number)) r files turn) is h

planned_number : (e : CallRecord) (number : ℕ) (p : PartsRow) → NumberStandsFor number p → Planned e (Demo number) p
planned_number e number p is = record {
  names = [];
  all = [];
  plan = record {
    told = tt;
    next = λ k name few h. absurd (let clash = number_parts number p (take k []) (Asks name) is h in cc);
    last = λ k s text few h. (let same = number_parts number p (take k []) (Ends s text) is h in cc);
  };
}

planned_for : (e : CallRecord) (c : Command) (p : PartsRow) → GivenFiles e c (generated_by c) p → Planned e c p
planned_for e (Audit name) p g = planned_files e (Audit name) p refl g
planned_for e (Image name) p g = planned_files e (Image name) p refl g
planned_for e (Run name limit script) p g = planned_files e (Run name limit script) p refl g
planned_for e (RunImage name limit script) p g = planned_files e (RunImage name limit script) p refl g
planned_for e (Why name owner compartment) p g = planned_files e (Why name owner compartment) p refl g
planned_for e (Upgrade name) p g = planned_files e (Upgrade name) p refl g
planned_for e (Check name policy) p g = planned_files e (Check name policy) p refl g
planned_for e (Demo number) p g = planned_number e number p g

planned : (e : CallRecord) (p : PartsRow) → (a : IsAsked e p) → Planned e a.command p
planned e p a = planned_for e a.command p a.given

pub same_command : (e : CallRecord) (a b : Command) → command_form e.words ≡ Some a → command_form e.words ≡ Some b → a ≡ b
same_command e a b p q = let same : Some a ≡ Some b = sym p ∙ q in cc

turn_status : (e : CallRecord) (p : PartsRow) (a : IsAsked e p) (s : Status) (text : List ℕ) → TurnCause e s text → Finishes a.command p s
turn_status e p a s text t =
    let x = planned e p a in
    let same : t.command ≡ a.command = same_command e t.command a.command t.form a.form in
    let due : WereDue e a.command t.reads = subst (λ c. WereDue e c t.reads) same t.read.due in
    let so = read_so_far e a.command p x.names x.all x.plan t.reads due in
    let ends_so : Follows a.command (contents t.reads) (Ends s text) = subst (λ c. Follows c (contents t.reads) (Ends s text)) same t.due in
    x.plan.last (length t.reads) s text so.1 (subst (λ fs. Follows a.command fs (Ends s text)) so.0 ends_so)

not_large : (e : CallRecord) (p : PartsRow) (a : IsAsked e p) (c : Command) (rs : List Read) (name : List ℕ) → command_form e.words ≡ Some c → LastRead e c rs name → IsLarge (e.folder.file name) → ⊥
not_large e p a c rs name form last large =
    let x = planned e p a in
    let same : c ≡ a.command = same_command e c a.command form a.form in
    let due : WereDue e a.command rs = subst (λ k. WereDue e k rs) same last.due in
    let so = read_so_far e a.command p x.names x.all x.plan rs due in
    let asked : Follows a.command (contents rs) (Asks name) = subst (λ k. Follows k (contents rs) (Asks name)) same last.asked in
    let named = x.plan.next (length rs) name so.1 (subst (λ fs. Follows a.command fs (Asks name)) so.0 asked) in
    let file = told_at e x.names x.all (length rs) name x.plan.told named in
    too_large (e.folder.file name) file.0 file.1.1.told file.1.1.size large

pub not_both_forms : (e : CallRecord) (a : Command) → command_form e.words ≡ None → command_form e.words ≡ Some a → ⊥
not_both_forms e a p q = absurd (let same : Some a ≡ None = sym q ∙ p in cc)

pub completes : (e : CallRecord) (s : Status) → Answers e s → Completes e s
completes e status.Done w p a none = inl (turn_status e p a status.Done w.text w.cause)
completes e status.Usage w p a none = absurd (not_both_forms e a.command w.cause.form a.form)
completes e status.ReadFault w p a none = absurd (none.reads w.cause.rose)
completes e status.TooLarge w p a none = absurd (not_large e p a w.cause.command w.cause.reads w.cause.name w.cause.form w.cause.last w.cause.large.large)
completes e status.Description w p a none = inl (turn_status e p a status.Description w.text w.cause)
completes e status.Assembly w p a none = inl (turn_status e p a status.Assembly w.text w.cause)
completes e status.Link w p a none = inl (turn_status e p a status.Link w.text w.cause)
completes e status.Image w p a none = inl (turn_status e p a status.Image w.text w.cause)
completes e status.Script w p a none = inl (turn_status e p a status.Script w.text w.cause)
completes e status.WriteFault w p a none = absurd (none.writes w.rose)
completes e status.NoMemory w p a none = inr refl
completes e status.Name w p a none = inl (turn_status e p a status.Name w.text w.cause)
completes e status.Denied w p a none = inl (turn_status e p a status.Denied w.text w.cause)
completes e status.Policy w p a none = inl (turn_status e p a status.Policy w.text w.cause)

pub demo_completes : (e : CallRecord) (s : Status) → Answers e s → CompletesDemo e s
demo_completes e s w number form none =
    completes e s w (links.parts_of_seed number) (record { command = Demo number; form = form; given = links.generated_links number }) none

-- ---- the statuses that are left

pub no_fault : (e : CallRecord) (s : Status) → Answers e s → NoFault e → IsSteady s
no_fault e status.Done a none = tt
no_fault e status.Usage a none = tt
no_fault e status.ReadFault a none = none.reads a.cause.rose
no_fault e status.TooLarge a none = tt
no_fault e status.Description a none = tt
no_fault e status.Assembly a none = tt
no_fault e status.Link a none = tt
no_fault e status.Image a none = tt
no_fault e status.Script a none = tt
no_fault e status.WriteFault a none = none.writes a.rose
no_fault e status.NoMemory a none = tt
no_fault e status.Name a none = tt
no_fault e status.Denied a none = tt
no_fault e status.Policy a none = tt

still : (before now : ℕ) → before ≡ 0 → now ≡ 0 → FaultsRose before now → ⊥
still before now b n rose =
    let one : min (before + 1) (2 ^ 64 - 1) ≤ now = rose.1 in
    absurd (omega (arith, one, b, n))

pub constant : (e : CallRecord) → e.folder.faults ≡ 0 → e.folder_after.faults ≡ 0 → e.sink.faults ≡ 0 → e.sink_after.faults ≡ 0 → NoFault e
constant e a b c d = record { reads = still e.folder.faults e.folder_after.faults a b; writes = still e.sink.faults e.sink_after.faults c d }

pub misuse : (e : CallRecord) (s : Status) → Answers e s → RefusesMisuse e s
misuse e status.Done a none = absurd (not_both_forms e a.cause.command none a.cause.form)
misuse e status.Usage a none = inl refl
misuse e status.ReadFault a none = absurd (not_both_forms e a.cause.command none a.cause.form)
misuse e status.TooLarge a none = absurd (not_both_forms e a.cause.command none a.cause.form)
misuse e status.Description a none = absurd (not_both_forms e a.cause.command none a.cause.form)
misuse e status.Assembly a none = absurd (not_both_forms e a.cause.command none a.cause.form)
misuse e status.Link a none = absurd (not_both_forms e a.cause.command none a.cause.form)
misuse e status.Image a none = absurd (not_both_forms e a.cause.command none a.cause.form)
misuse e status.Script a none = absurd (not_both_forms e a.cause.command none a.cause.form)
misuse e status.WriteFault a none = inr refl
misuse e status.NoMemory a none = absurd (not_both_forms e a.command none a.form)
misuse e status.Name a none = absurd (not_both_forms e a.cause.command none a.cause.form)
misuse e status.Denied a none = absurd (not_both_forms e a.cause.command none a.cause.form)
misuse e status.Policy a none = absurd (not_both_forms e a.cause.command none a.cause.form)
