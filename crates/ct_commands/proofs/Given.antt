-- From what a read gave to what its caller is told, and the loop over several names.
use Rattle.std.proofs.Common.{◌≡◌, ℕ, ◌+◌, ◌<◌, ◌≤◌, inl, inr, List, [], ◌∷◌, ◌++◌, length, take, min, refl, sym, ap, ◌∙◌, subst, arith}
use Rattle.std.proofs.lemmas.List.{length-take, take_all}
use Rattle.def_port.specs.Told.{Told, Silent, Absent, File, FileGives, FolderView, TellsSame}
use Rattle.def_port.specs.Bytes.{FaultsRose}
use Rattle.def_port.specs.Reads.{Reads}
use Rattle.def_program.specs.Calls.{Exceeds, FileHolds, IsFile, IsLarge, most}
use Rattle.def_program.specs.Answers.{Read, contents}
use Rattle.ct_commands.specs.declared.files.Stop.{Stop}
use Rattle.ct_commands.specs.declared.files.Stop.TheVariants.{Large, NoMemory, Unread}
use Rattle.ct_commands.specs.Whole.{WasGiven, NotGiven, Front, AllGiven, SomeGiven, WasLarge, after_calls}
use Rattle.ct_commands.proofs.Lists.{none_yet, one_more, one_read, one_text}

-- ---- one file

whole : (limit : ℕ) (all : List ℕ) → length (take (limit + 1) all) ≤ limit → take (limit + 1) all ≡ all
whole limit all size =
    let is : length (take (limit + 1) all) ≡ min (limit + 1) (length all) = length-take (limit + 1) all in
    take_all (limit + 1) all (omega (arith, is, size))

holds : (told : Told) (bytes : List ℕ) → FileGives told most bytes → length bytes ≤ most → FileHolds told bytes
holds Silent bytes gives size = tt
holds Absent bytes gives size = gives
holds (File all) bytes gives size =
    let fits : length (take (most + 1) all) ≤ most = subst (λ t. length t ≤ most) gives size in
    sym (gives ∙ whole most all fits)

past : (limit : ℕ) (all bytes : List ℕ) → bytes ≡ take (limit + 1) all → length bytes ≡ limit + 1 → limit < length all
past limit all bytes gives size =
    let is : length (take (limit + 1) all) ≡ min (limit + 1) (length all) = length-take (limit + 1) all in
    let same : length bytes ≡ length (take (limit + 1) all) = ap length gives in
    omega (arith, is, same, size)

large : (told : Told) (bytes : List ℕ) → FileGives told most bytes → length bytes ≡ most + 1 → IsLarge told
large Silent bytes gives size = tt
large Absent bytes gives size = gives
large (File all) bytes gives size = past most all bytes gives size

pub given : (name : List ℕ) (before after : FolderView) (v : List ℕ) → Reads name most before after v → length v ≤ most → WasGiven name before after v
given name before after v r size = record {
  file = record { holds = holds (before.file name) v r.gives size; size = size };
  call = r.call;
  same = r.same;
}

pub too_large : (name : List ℕ) (before after : FolderView) (v : List ℕ) → Reads name most before after v → most < length v → WasLarge name before after
too_large name before after v r size =
    let exact : length v ≡ most + 1 = omega (arith, size, r.size) in
    record {
      large = record { bytes = v; gives = r.gives; size = exact; large = large (before.file name) v r.gives exact };
      call = r.call;
      same = r.same;
    }

-- ---- several

-- some were given, and these names are left
pub record Reading (first here : FolderView) (names left bytes : List (List ℕ)) : Type 0 where
  pub done : List Read
  pub front : Front first.file names first.calls here.calls done left
  pub given : contents done ≡ bytes
  pub same : here.faults ≡ first.faults
  pub kept : TellsSame first here

pub begins : (first : FolderView) (names : List (List ℕ)) → Reading first first names names []
begins first names = record { done = []; front = none_yet first.file names first.calls; given = refl; same = refl; kept = λ n. refl }

pub goes_on : (first here next : FolderView) (names all left rest bytes : List (List ℕ)) (name v : List ℕ)
    → Reading first here names left bytes → left ≡ name ∷ rest
    → WasGiven name here next v → TellsSame here next → all ≡ bytes ++ v ∷ []
    → Reading first next names rest all
goes_on first here next names all left rest bytes name v r next_is w kept added =
    let file : IsFile (first.file name) v = subst (λ (t : Told). IsFile t v) (r.kept name) w.file in
    record {
      done = r.done ++ one_read name v ∷ [];
      front = one_more first.file names first.calls here.calls next.calls r.done name rest v
          (subst (λ l. Front first.file names first.calls here.calls r.done l) next_is r.front) file w.call;
      given = one_text r.done name v bytes r.given ∙ sym added;
      same = w.same ∙ r.same;
      kept = λ n. kept n ∙ r.kept n;
    }

pub all_given : (first here : FolderView) (names left bytes : List (List ℕ)) → Reading first here names left bytes → left ≡ [] → AllGiven names first here bytes
all_given first here names left bytes r none = record {
  done = r.done;
  front = subst (λ l. Front first.file names first.calls here.calls r.done l) none r.front;
  given = r.given;
  same = r.same;
}

-- why the next isn't given, as the folder was seen first but for the calls since
since : (first here after : FolderView) (name : List ℕ) (stop : Stop) → TellsSame first here → here.faults ≡ first.faults
    → NotGiven name here after stop → NotGiven name (after_calls first here.calls) after stop
since first here after name (Unread n) kept same why = (why.0, record { call = why.1.call; rose = subst (λ k. FaultsRose k after.faults) same why.1.rose })
since first here after name (Large n) kept same why =
    (why.0, record { large = subst (λ (t : Told). Exceeds t) (kept name) why.1.large; call = why.1.call; same = why.1.same ∙ same })
since first here after name NoMemory kept same why = record { call = why.call; same = why.same ∙ same }

pub next_stops : (first here after : FolderView) (names left rest bytes : List (List ℕ)) (name : List ℕ) (stop : Stop)
    → Reading first here names left bytes → left ≡ name ∷ rest → NotGiven name here after stop → SomeGiven names first after stop
next_stops first here after names left rest bytes name stop r next why = record {
  done = r.done;
  left = left;
  calls = here.calls;
  front = r.front;
  stopped = inl (record { name = name; rest = rest; next = next; why = since first here after name stop r.kept r.same why });
}

-- a file was given, and then memory was wanted to keep it
pub wants_after : (first here after : FolderView) (names left rest bytes : List (List ℕ)) (name v : List ℕ)
    → Reading first here names left bytes → left ≡ name ∷ rest → WasGiven name here after v → TellsSame here after
    → SomeGiven names first after NoMemory
wants_after first here after names left rest bytes name v r next given kept =
    let on = goes_on first here after names (bytes ++ v ∷ []) left rest bytes name v r next given kept refl in
    record {
      done = on.done;
      left = rest;
      calls = after.calls;
      front = on.front;
      stopped = inr (record { is = refl; wanted = record { call = refl; same = on.same } });
    }

-- memory was wanted before the first
pub wants_first : (names : List (List ℕ)) (first : FolderView) → SomeGiven names first first NoMemory
wants_first names first = record {
  done = [];
  left = names;
  calls = first.calls;
  front = none_yet first.file names first.calls;
  stopped = inr (record { is = refl; wanted = record { call = refl; same = refl } });
}
