-- Lists of files that were read.
use Rattle.std.proofs.Common.{◌≡◌, ℕ, suc, ◌+◌, ◌<◌, List, [], ◌∷◌, ◌++◌, length, map, drop, get_or, false, refl, sym, ap, ◌∙◌, subst, arith}
use Rattle.std.specs.List.{AllByRecursion}
use Rattle.std.proofs.Math.Seq.{drop-cons}
use Rattle.std.proofs.lemmas.List.{append_assoc, append-nil, map-append}
use Rattle.def_port.specs.Told.{Told, Call}
use Rattle.def_port.specs.Reads.{recorded}
use Rattle.def_program.specs.Calls.{IsFile, most}
use Rattle.def_program.specs.Answers.{Read, contents, read_call, read_calls}
use Rattle.ct_commands.specs.Whole.{names_of, Front}

all_more : {A : Type 0} (P : A → Type 0) (xs : List A) (x : A) → AllByRecursion P xs → P x → AllByRecursion P (xs ++ x ∷ [])
all_more P [] x all one = (one, tt)
all_more P (y ∷ ys) x all one = (all.0, all_more P ys x all.1 one)

pub none_yet : (told : List ℕ → Told) (names : List (List ℕ)) (before : List Call) → Front told names before before [] names
none_yet told names before = record { whole = refl; files = tt; calls = sym (append-nil before) }

abbrev pub one_read : List ℕ → List ℕ → Read
one_read name bytes = record { name = name; bytes = bytes }

pub one_more : (told : List ℕ → Told) (names : List (List ℕ)) (before mid after : List Call) (done : List Read) (name : List ℕ) (left : List (List ℕ)) (bytes : List ℕ)
    → Front told names before mid done (name ∷ left) → IsFile (told name) bytes → after ≡ recorded mid name most false
    → Front told names before after (done ++ one_read name bytes ∷ []) left
one_more told names before mid after done name left bytes f file call = record {
  whole = ap (λ (t : List (List ℕ)). t ++ left) (map-append (λ (r : Read). r.name) done (one_read name bytes ∷ []))
      ∙ append_assoc (names_of done) (name ∷ []) left ∙ f.whole;
  files = all_more (λ (r : Read). IsFile (told r.name) r.bytes) done (one_read name bytes) f.files file;
  calls = call ∙ ap (λ (t : List Call). t ++ read_call (one_read name bytes) ∷ []) f.calls
      ∙ append_assoc before (read_calls done) (read_call (one_read name bytes) ∷ [])
      ∙ ap (λ (t : List Call). before ++ t) (sym (map-append read_call done (one_read name bytes ∷ [])));
}

pub one_text : (done : List Read) (name bytes : List ℕ) (all : List (List ℕ)) → contents done ≡ all → contents (done ++ one_read name bytes ∷ []) ≡ all ++ bytes ∷ []
one_text done name bytes all is =
    map-append (λ (r : Read). r.bytes) done (one_read name bytes ∷ []) ∙ ap (λ (t : List (List ℕ)). t ++ bytes ∷ []) is

pub next_of : {A : Type 0} (f : A → List ℕ) (xs : List A) (i : ℕ) (d x : A) → x ≡ get_or xs i d → i < length xs → map f (drop i xs) ≡ f x ∷ map f (drop (i + 1) xs)
next_of f xs i d x is low =
    let on : suc i ≡ i + 1 = omega arith in
    let next : drop i xs ≡ x ∷ drop (i + 1) xs =
    subst (λ n. drop i xs ≡ x ∷ drop n xs) on (subst (λ y. drop i xs ≡ y ∷ drop (suc i) xs) (sym is) (drop-cons xs i d low)) in
    ap (λ ys. map f ys) next
