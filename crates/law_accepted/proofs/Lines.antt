-- What a line on a device says of a run, by the rule that it spells.
use Rattle.std.proofs.Common.{◌≡◌, ℕ, zero, suc, List, [], ◌∷◌, Some, None, map, refl, slice_get, subst}
use Rattle.def_boot.specs.Boot.{platform_of, boot_state}
use Rattle.def_image.specs.Accepted.{IsFaultless}
use Rattle.def_image.specs.Parts.{PartsRow}
use Rattle.def_policy.specs.Denials.{AllDenied}
use Rattle.def_policy.specs.Rules.{Device, Only, Rule}
use Rattle.def_policy.specs.Rulings.{Ruling, meant}
use Rattle.def_policy.specs.Texts.{ReadsAsPolicy}
use Rattle.def_step.specs.Events.{happenings_of}
use Rattle.def_step.specs.declared.Event.{Event}
use Rattle.ct_policy.proofs.Untrusted.{untrusted}
use Rattle.ct_policy.specs.Kept.{KeepsUntrusted}
use Rattle.def_boot.specs.Gates.{entries_of}
use Rattle.law_accepted.proofs.Accesses.{allowed, rule_keeps}
use Rattle.law_accepted.proofs.Named.{on_device}
use Rattle.law_accepted.proofs.Runs.{over}
use Rattle.def_program.specs.AllowedLines.{IsHeldDevice, IsKeptLine}
use Rattle.law_policy.proofs.Denials.{holds_where}
use Rattle.std.specs.List.{AllByRecursion}

-- what the rule of a line means is kept in the line's place
record IsMeant (p : PartsRow) (rulings : List Ruling) (k : ℕ) (x : Rule) : Type 0 where
  ruling : Ruling
  there : slice_get rulings k ≡ Some ruling
  means : meant p x ≡ Some ruling

line_means : (p : PartsRow) (rules : List Rule) (rulings : List Ruling) (k : ℕ) (x : Rule) → map (meant p) rules ≡ map (λ r. Some r) rulings → slice_get rules k ≡ Some x → IsMeant p rulings k x
line_means p [] rulings k x are is = absurd (let clash : None ≡ Some x = is in cc)
line_means p (y ∷ ys) [] k x are is = absurd (let clash : meant p y ∷ map (meant p) ys ≡ [] = are in cc)
line_means p (y ∷ ys) (r ∷ rs) zero x are is =
    let same : y ≡ x = (let here : Some y ≡ Some x = is in cc) in
    let first : meant p y ≡ Some r = (let both : meant p y ∷ map (meant p) ys ≡ Some r ∷ map (λ r. Some r) rs = are in cc) in
    record { ruling = r; there = refl; means = subst (λ z. meant p z ≡ Some r) same first }
line_means p (y ∷ ys) (r ∷ rs) (suc k) x are is =
    let rest : map (meant p) ys ≡ map (λ r. Some r) rs = (let both : meant p y ∷ map (meant p) ys ≡ Some r ∷ map (λ r. Some r) rs = are in cc) in
    let later = line_means p ys rs k x rest is in
    record { ruling = later.ruling; there = later.there; means = later.means }

-- what is kept of each of several rulings is kept of one of them
one_of : (P : Ruling → Type 0) (rulings : List Ruling) (k : ℕ) (r : Ruling) → AllByRecursion P rulings → slice_get rulings k ≡ Some r → P r
one_of P [] k r all is = absurd (let clash : None ≡ Some r = is in cc)
one_of P (x ∷ xs) zero r all is = let same : x ≡ r = (let here : Some x ≡ Some r = is in cc) in subst P same all.0
one_of P (x ∷ xs) (suc k) r all is = one_of P xs k r all.1 is

pub kept_over_runs : (p : PartsRow) (es : List Event) (text : List ℕ) (rulings : List Ruling) (k : ℕ) (rule : Rule) → IsFaultless p
    → (reads : ReadsAsPolicy p text rulings) → AllDenied p 1 rulings [] → slice_get reads.rules k ≡ Some rule → IsKeptLine p rule es
kept_over_runs p es text rulings k rule faultless reads none line =
    let m = line_means p reads.rules rulings k rule reads.meant_are line in
    let r : Ruling = m.ruling in
    let keeps = rule_keeps (entries_of p) rulings k r (holds_where p 1 rulings [] none refl) m.there in
    let fits : KeepsUntrusted r = one_of KeepsUntrusted rulings k r (untrusted p text rulings reads) m.there in
    record {
      ruling = r;
      means = m.means;
      keeps = over p es faultless r keeps fits (λ n is d there. allowed p es rulings k r n d faultless none m.there is there) r.subject refl;
    }

pub held_over_runs : (p : PartsRow) (es : List Event) (text : List ℕ) (rulings : List Ruling) (k : ℕ) (name : List ℕ) (owners : List (List ℕ)) → IsFaultless p
    → (reads : ReadsAsPolicy p text rulings) → AllDenied p 1 rulings [] → slice_get reads.rules k ≡ Some (Only (Device name) owners)
    → IsHeldDevice p name owners (happenings_of (platform_of p) (boot_state p) es)
held_over_runs p es text rulings k name owners faultless reads none line =
    let m = line_means p reads.rules rulings k (Only (Device name) owners) reads.meant_are line in
    let on = on_device p name owners m.ruling faultless m.means in
    record { ruling = m.ruling; on = on; listed = allowed p es rulings k m.ruling on.device on.row faultless none m.there on.subject_is on.there }
