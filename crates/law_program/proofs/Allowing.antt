-- A policy that a `check` found allowed is kept by every run.
use Rattle.std.proofs.Common.{◌≡◌, ◌∙◌, ℕ, List, [], ◌∷◌, ◌++◌, Some, inl, inr, ap, refl, subst}
use Rattle.def_image.specs.Parts.{PartsRow}
use Rattle.def_policy.specs.Denials.{AllDenied}
use Rattle.def_policy.specs.Rulings.{Ruling}
use Rattle.def_policy.specs.Texts.{ReadsAsPolicy}
use Rattle.def_program.specs.Allowing.{IsAllowed, KeepsPolicy}
use Rattle.def_program.specs.Answers.{AllRead, Answers, Whole, contents}
use Rattle.def_program.specs.Calls.{CallRecord}
use Rattle.def_program.specs.Commands.{Check}
use Rattle.def_program.specs.Lines.{policy_line}
use Rattle.def_program.specs.Turns.{Asks, Ends, Follows, OfPolicy, OfText, verdict}
use Rattle.def_program.specs.declared.Status.{Status}
use Rattle.def_program.specs.declared.Status.TheVariants as status
use Rattle.law_accepted.proofs.Lines.{kept_over_runs}
use Rattle.law_program.proofs.Ending.{same_command}
use Rattle.law_program.proofs.Licences.{stands_faultless}
use Rattle.law_program.proofs.Standing.{done, of_description}

-- the policy follows the files that stand for parts, and nothing denies it
record Judges (p : PartsRow) (more : List (List ℕ)) : Type 0 where
  text : List ℕ
  rest : List (List ℕ)
  is : more ≡ text ∷ rest
  rulings : List Ruling
  reads : ReadsAsPolicy p text rulings
  denied : AllDenied p 1 rulings []

none_denied : (p : PartsRow) (rulings : List Ruling) (lines text : List ℕ) → done text ≡ verdict lines → AllDenied p 1 rulings lines → AllDenied p 1 rulings []
none_denied p rulings [] text due all = all
none_denied p rulings (c ∷ cs) text due all = absurd (let clash : done text ≡ Ends status.Denied (c ∷ cs) = due in cc)

judges_text : (p : PartsRow) (bytes text : List ℕ) (rest : List (List ℕ)) → OfText p bytes (done text) → Judges p (bytes ∷ rest)
judges_text p bytes text rest (inl f) = absurd (let clash : done text ≡ Ends status.Policy (policy_line f.fault.number f.fault.place) = f.due in cc)
judges_text p bytes text rest (inr j) = record {
  text = bytes;
  rest = rest;
  is = refl;
  rulings = j.rulings;
  reads = j.reads;
  denied = none_denied p j.rulings j.text text j.due j.denied;
}

judges : (p : PartsRow) (policy text : List ℕ) (more : List (List ℕ)) → OfPolicy policy p more (done text) → Judges p more
judges p policy text [] due = absurd (let clash : done text ≡ Asks policy = due in cc)
judges p policy text (bytes ∷ rest) due = judges_text p bytes text rest due

keeps : (e : CallRecord) (name policy : List ℕ) (w : Whole e status.Done) → w.cause.command ≡ Check name policy
    → (files : List (List ℕ)) → contents w.cause.reads ≡ files → Follows (Check name policy) files (done w.text) → KeepsPolicy e (Check name policy)
keeps e name policy w same [] are due = absurd (let clash : done w.text ≡ Asks name = due in cc)
keeps e name policy w same (bytes ∷ rest) are due =
    let x = of_description (Check name policy) w.text bytes (λ sources p links. links) rest due in
    let j = judges x.parts policy w.text x.more x.due in
    record {
      reads = w.cause.reads;
      read = subst (λ k. AllRead e k w.cause.reads) same w.cause.read;
      own = x.own;
      text = j.text;
      more = j.rest;
      files_are = are ∙ x.files_are ∙ ap (λ fs. x.own ++ fs) j.is;
      parts = x.parts;
      stand = x.stand;
      rulings = j.rulings;
      policy = j.reads;
      kept = λ es k rule is.
          kept_over_runs x.parts es j.text j.rulings k rule (stands_faultless (Check name policy) x.own x.parts x.stand) j.reads j.denied is;
    }

pub allows : (e : CallRecord) (s : Status) → Answers e s → IsAllowed e s
allows e s a = λ name policy form is.
    let w : Whole e status.Done = subst (λ z. Answers e z) is a in
    let same = same_command e w.cause.command (Check name policy) w.cause.form form in
    keeps e name policy w same (contents w.cause.reads) refl (subst (λ k. Follows k (contents w.cause.reads) (done w.text)) same w.cause.due)
