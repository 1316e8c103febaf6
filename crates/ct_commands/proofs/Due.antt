-- Files that were due when they were read.
use Rattle.std.proofs.Common.{◌≡◌, ℕ, zero, suc, List, [], ◌∷◌, ◌++◌, length, take, drop, false, Option, Some, None, slice_get, refl, sym, ap, ◌∙◌, subst, ◌⊎◌, inl, inr}
use Rattle.std.specs.List.{AllByRecursion}
use Rattle.std.proofs.lemmas.List.{append_assoc}
use Rattle.def_port.specs.Told.{Told, Call}
use Rattle.def_desc.specs.Rows.{DescRow}
use Rattle.def_desc.specs.WellFormed.{WellFormed}
use Rattle.def_program.specs.Commands.{Command, generated_by, file_of, reads_image}
use Rattle.def_program.specs.Calls.{CallRecord, IsFile}
use Rattle.def_program.specs.Turns.{Turn, Asks, FollowsBy, Follows, OfFirst, OfSources, OfDescription, source_names}
use Rattle.def_program.specs.Answers.{Read, contents, read_call, read_calls, WereDue, WasDue, LastRead}
use Rattle.ct_commands.specs.Whole.{names_of}

abbrev pub first_read : Command → List ℕ → Read
first_read c bytes = record { name = file_of c; bytes = bytes }

-- ---- lists of names

name_at : (done : List Read) (left : List (List ℕ)) (k : ℕ) (r : Read) → slice_get done k ≡ Some r → slice_get (names_of done ++ left) (length (contents (take k done))) ≡ Some r.name
name_at [] left k r is = absurd (let clash : None ≡ Some r = is in cc)
name_at (x ∷ done) left zero r is = ap (λ (o : Option Read). name_in o) is
  where
    name_in : Option Read → Option (List ℕ)
    name_in None = None
    name_in (Some y) = Some y.name
name_at (x ∷ done) left (suc k) r is = name_at done left k r is

next_at : (done : List Read) (name : List ℕ) (rest : List (List ℕ)) → slice_get (names_of done ++ name ∷ rest) (length (contents done)) ≡ Some name
next_at [] name rest = refl
next_at (x ∷ done) name rest = next_at done name rest

past_all : (done : List Read) → slice_get (names_of done ++ []) (length (contents done)) ≡ None
past_all [] = refl
past_all (x ∷ done) = past_all done

-- ---- the first file

no_read_due : (e : CallRecord) (c : Command) → WereDue e c []
no_read_due e c k r is = absurd (let clash : None ≡ Some r = is in cc)

-- of a command that reads files its own is due, and then what that file decides
pub own_due : (c : Command) → generated_by c ≡ None → Follows c [] (Asks (file_of c))
own_due c none = subst (λ o. FollowsBy c o [] (Asks (file_of c))) (sym none) refl

pub own_follows : (c : Command) → generated_by c ≡ None → (bytes : List ℕ) (files : List (List ℕ)) (t : Turn) → OfFirst (reads_image c) c bytes files t → Follows c (bytes ∷ files) t
own_follows c none bytes files t due = subst (λ o. FollowsBy c o (bytes ∷ files) t) (sym none) due

pub nothing_due : (e : CallRecord) (c : Command) → generated_by c ≡ None → LastRead e c [] (file_of c)
nothing_due e c none = record { due = no_read_due e c; asked = own_due c none }

pub none_due : (e : CallRecord) (c : Command) → WereDue e c []
none_due e c = no_read_due e c

some_read : (x r : Read) → Some x ≡ Some r → x ≡ r
some_read x r is = cc

pub first_due : (e : CallRecord) (c : Command) → generated_by c ≡ None → (bytes : List ℕ) → IsFile (e.folder.file (file_of c)) bytes → WereDue e c (first_read c bytes ∷ [])
first_due e c none bytes file zero r is =
    subst (λ (x : Read). WasDue e c (first_read c bytes ∷ []) zero x) (some_read (first_read c bytes) r is) (record { asked = own_due c none; file = file })
first_due e c none bytes file (suc k) r is = absurd (let clash : None ≡ Some r = is in cc)

-- ---- sources

module _ (e : CallRecord) (c : Command) (none : generated_by c ≡ None) (bytes : List ℕ) (d : DescRow) (kind : reads_image c ≡ false) (lawful : WellFormed bytes d)
    (file : IsFile (e.folder.file (file_of c)) bytes) where
  pub of_first : (sources : List (List ℕ)) (t : Turn) → OfDescription c bytes sources t → Follows c (bytes ∷ sources) t
  of_first sources t due = own_follows c none bytes sources t (subst (λ b. OfFirst b c bytes sources t) (sym kind) due)

  asks : (sources : List (List ℕ)) (name : List ℕ) → slice_get (source_names d) (length sources) ≡ Some name → Follows c (bytes ∷ sources) (Asks name)
  asks sources name is = of_first sources (Asks name) (inr (d, (lawful, subst (λ o. OfSources c d (take (length (source_names d)) sources) (drop (length (source_names d)) sources) o (Asks name)) (sym is) refl)))

  file_at : (done : List Read) (k : ℕ) (r : Read) → AllByRecursion (λ (x : Read). IsFile (e.folder.file x.name) x.bytes) done → slice_get done k ≡ Some r → IsFile (e.folder.file r.name) r.bytes
  file_at [] k r all is = absurd (let clash : None ≡ Some r = is in cc)
  file_at (x ∷ done) zero r all is = subst (λ (y : Read). IsFile (e.folder.file y.name) y.bytes) (some_read x r is) all.0
  file_at (x ∷ done) (suc k) r all is = file_at done k r all.1 is

  pub sources_due : (done : List Read) (left : List (List ℕ)) → names_of done ++ left ≡ source_names d
      → AllByRecursion (λ (x : Read). IsFile (e.folder.file x.name) x.bytes) done → WereDue e c (first_read c bytes ∷ done)
  sources_due done left names all zero r is =
      subst (λ (x : Read). WasDue e c (first_read c bytes ∷ done) zero x) (some_read (first_read c bytes) r is) (record { asked = own_due c none; file = file })
  sources_due done left names all (suc k) r is = record {
    asked = asks (contents (take k done)) r.name (subst (λ ns. slice_get ns (length (contents (take k done))) ≡ Some r.name) names (name_at done left k r is));
    file = file_at done k r all is;
  }

  pub next_due : (done : List Read) (name : List ℕ) (rest : List (List ℕ)) → names_of done ++ name ∷ rest ≡ source_names d
      → AllByRecursion (λ (x : Read). IsFile (e.folder.file x.name) x.bytes) done → LastRead e c (first_read c bytes ∷ done) name
  next_due done name rest names all = record {
    due = sources_due done (name ∷ rest) names all;
    asked = asks (contents done) name (subst (λ ns. slice_get ns (length (contents done)) ≡ Some name) names (next_at done name rest));
  }

  pub none_left : (done : List Read) → names_of done ++ [] ≡ source_names d → slice_get (source_names d) (length (contents done)) ≡ None
  none_left done names = subst (λ ns. slice_get ns (length (contents done)) ≡ None) names (past_all done)

-- ---- one file more

get_front : (rs : List Read) (x : Read) (k : ℕ) (r : Read) → slice_get (rs ++ x ∷ []) k ≡ Some r
    → ((slice_get rs k ≡ Some r) × (take k (rs ++ x ∷ []) ≡ take k rs)) ⊎ ((x ≡ r) × (take k (rs ++ x ∷ []) ≡ rs))
get_front [] x zero r is = inr (some_read x r is, refl)
get_front [] x (suc k) r is = absurd (let clash : None ≡ Some r = is in cc)
get_front (y ∷ ys) x zero r is = inl (is, refl)
get_front (y ∷ ys) x (suc k) r is = elim (get_front ys x k r is) [
  | inl there ↦ inl (there.0, ap (λ zs. y ∷ zs) there.1)
  | inr last ↦ inr (last.0, ap (λ zs. y ∷ zs) last.1)
]

-- a file that was due after others, and was given whole
pub one_more_due : (e : CallRecord) (c : Command) (rs : List Read) (x : Read) → WereDue e c rs → Follows c (contents rs) (Asks x.name) → IsFile (e.folder.file x.name) x.bytes
    → WereDue e c (rs ++ x ∷ [])
one_more_due e c rs x due asked file k r is = elim (get_front rs x k r is) [
  | inl there ↦
      let was : WasDue e c rs k r = due k r there.0 in
      record { asked = subst (λ fs. Follows c (contents fs) (Asks r.name)) (sym there.1) was.asked; file = was.file }
  | inr last ↦
      let next : Follows c (contents rs) (Asks r.name) = subst (λ (y : Read). Follows c (contents rs) (Asks y.name)) last.0 asked in
      record {
        asked = subst (λ fs. Follows c (contents fs) (Asks r.name)) (sym last.1) next;
        file = subst (λ (y : Read). IsFile (e.folder.file y.name) y.bytes) last.0 file;
      }
]

-- ---- what a folder tells, before and after a read

pub told_before : (told here : List ℕ → Told) (done : List Read) → ((n : List ℕ) → here n ≡ told n)
    → AllByRecursion (λ (x : Read). IsFile (here x.name) x.bytes) done → AllByRecursion (λ (x : Read). IsFile (told x.name) x.bytes) done
told_before told here [] kept all = tt
told_before told here (x ∷ done) kept all = (subst (λ (t : Told). IsFile t x.bytes) (kept x.name) all.0, told_before told here done kept all.1)

pub calls_both : (first mid after : List Call) (x : Read) (done : List Read) → mid ≡ first ++ read_call x ∷ [] → after ≡ mid ++ read_calls done → after ≡ first ++ read_calls (x ∷ done)
calls_both first mid after x done one rest =
    rest ∙ ap (λ (cs : List Call). cs ++ read_calls done) one ∙ append_assoc first (read_call x ∷ []) (read_calls done)

pub calls_last : (first mid after : List Call) (x : Read) (done : List Read) (last : Call) → mid ≡ first ++ read_calls (x ∷ done) → after ≡ mid ++ last ∷ []
    → after ≡ first ++ (read_calls (x ∷ done) ++ last ∷ [])
calls_last first mid after x done last one rest =
    rest ∙ ap (λ (cs : List Call). cs ++ last ∷ []) one ∙ append_assoc first (read_calls (x ∷ done)) (last ∷ [])
