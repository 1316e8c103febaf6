-- No name stands for the trusted part.
use Rattle.std.proofs.Common.{◌≡◌, ◌≢◌, ℕ, List, [], ◌∷◌, Option, Some, None, map, option_map, ap, subst, length, arith}
use Rattle.std.specs.List.{AllByRecursion}
use Rattle.ct_entry.specs.declared.rows.Owner.{Owner}
use Rattle.ct_entry.specs.declared.rows.Owner.TheVariants.{Trusted}
use Rattle.def_image.specs.Parts.{PartsRow}
use Rattle.def_policy.specs.declared.Subject.{Subject}
use Rattle.def_policy.specs.declared.Subject.TheVariants as subject
use Rattle.def_policy.specs.Names.{compartment_named, library_named, or_library, owner_named, owners_named, export_named}
use Rattle.def_policy.specs.Rules.{Rule, Only, Disabled, Data, Total, Quota, Apart}
use Rattle.def_policy.specs.Rulings.{Ruling, apart, meant, only, resource_named, resource_of}
use Rattle.def_policy.specs.Texts.{ReadsAsPolicy}
use Rattle.ct_policy.specs.Kept.{IsUntrusted, KeepsUntrusted}

-- an option of which each value is so
abbrev Each : {A : Type 0} → (A → Type 0) → Option A → Type 0
Each P None = Unit {0}
Each P (Some x) = P x

each_only : (s : Option Subject) (os : Option (List Owner)) → Each IsUntrusted s → Each KeepsUntrusted (only s os)
each_only None os h = tt
each_only (Some s) None h = tt
each_only (Some s) (Some os) h = h

each_map : {A : Type 0} (f : A → Subject) (x : Option A) → ((a : A) → IsUntrusted (f a)) → Each IsUntrusted (option_map f x)
each_map f None h = tt
each_map f (Some a) h = h a

no_trusted : (c l : Option ℕ) → Each (λ o. o ≢ Trusted) (or_library c l)
no_trusted (Some c) l = λ e. absurd (cc)
no_trusted None None = tt
no_trusted None (Some l) = λ e. absurd (cc)

each_apart : (o : Option Owner) (b : Option ℕ) → Each (λ x. x ≢ Trusted) o → Each IsUntrusted (apart o b)
each_apart None b h = tt
each_apart (Some o) None h = tt
each_apart (Some o) (Some b) h = h

each_meant : (p : PartsRow) (r : Rule) → Each KeepsUntrusted (meant p r)
unfolding meant
each_meant p (Only name owners) = each_only _ (owners_named p owners) (each_map (λ n. subject.Only (resource_of name) n) (resource_named p name) (λ n. tt))
each_meant p (Disabled owners) = each_only (Some subject.Disabled) (owners_named p owners) tt
each_meant p (Data compartment export) = each_only _ (Some []) (each_map (λ n. subject.Data n) (export_named p compartment export) (λ n. tt))
each_meant p (Total n) = tt
each_meant p (Quota owner n) = each_only _ (Some []) (each_map (λ o. subject.Quota o n) (owner_named p owner) (λ o. tt))
each_meant p (Apart owner compartment) =
    each_only _ (Some []) (each_apart (owner_named p owner) (compartment_named p compartment) (no_trusted (compartment_named p owner) (library_named p owner)))

all_kept : (p : PartsRow) (rules : List Rule) (rulings : List Ruling) → map (meant p) rules ≡ map (λ r. Some r) rulings → AllByRecursion KeepsUntrusted rulings
all_kept p rules [] are = tt
all_kept p [] (x ∷ xs) are = absurd (omega (arith, ap length are))
all_kept p (r ∷ rs) (x ∷ xs) are =
    let here : meant p r ≡ Some x = cc in
    let later : map (meant p) rs ≡ map (λ r. Some r) xs = cc in
    (subst (λ o. Each KeepsUntrusted o) here (each_meant p r), all_kept p rs xs later)

pub untrusted : (p : PartsRow) (text : List ℕ) (rulings : List Ruling) → ReadsAsPolicy p text rulings → AllByRecursion KeepsUntrusted rulings
untrusted p text rulings reads = all_kept p reads.rules rulings reads.meant_are
