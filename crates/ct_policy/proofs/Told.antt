-- The rule that is found for a list of words is the one that is spelled so.
use Rattle.std.proofs.Common.{◌≡◌, ◌≢◌, ℕ, ◌<◌, ◌≤◌, List, [], ◌∷◌, true, false, Option, Some, None, inl, inr, refl, ap, sym, ◌∙◌, subst, arith, length, option_map, codes, decimal, nat_lt, ◌&&◌}
use Rattle.std.specs.Str.{bytes_eq}
use Rattle.std.proofs.lemmas.Slice.Eq.{bytes_eq-Decides}
use Rattle.law_lists.proofs.Tests.{bool_tells, both_left, both_right, lt_tells}
use Rattle.def_policy.specs.declared.TheConstants.{MOST_TOTAL}
use Rattle.def_policy.specs.Rules.{ResourceName, Device, Shared, Service, Call, Rule, Only, Disabled, Data, Total, Quota, Apart, IsFormed, IsNamed, kind_word, resource_word, total, words_of}
use Rattle.ct_policy.specs.Forms.{SidesRow, apart_in, data_in, disabled_in, form_by, form_of, only_by, only_in, owners_in, quota_by, quota_in, resource_in, sides_in}
use Rattle.ct_texts.proofs.Numbers.{number_back, number_told}
use Rattle.def_texts.specs.Digits.{number_within}
use Rattle.ct_policy.proofs.Sides.{IsDotted, sides_back, sides_found, some_tells}

-- ---- from a rule to its words and back

owners_back : (owners : List (List ℕ)) → 0 < length owners → owners_in (codes "only" ∷ owners) ≡ Some owners
owners_back [] some = absurd (omega (arith, some))
owners_back (o ∷ os) some = rw (some_tells (o ∷ os) some) refl

other_owner : (owner : List ℕ) → owner ≢ total → bytes_eq owner total ≡ false
other_owner owner differs =
    elim (bool_tells (bytes_eq owner total)) [ inl same ↦ absurd (differs ((bytes_eq-Decides owner total).0 same)) | inr no_here ↦ no_here ]

pub form_back : (r : Rule) → IsFormed r → form_of (words_of r) ≡ Some r
form_back (Only (Device name) owners) formed = rw (owners_back owners formed.1) refl
form_back (Only (Shared name) owners) formed = rw (owners_back owners formed.1) refl
form_back (Only (Service name) owners) formed = rw (owners_back owners formed.1) refl
form_back (Only (Call compartment export) owners) formed =
    rw (owners_back owners formed.1, sides_back compartment export formed.0.0 formed.0.1) refl
form_back (Disabled owners) some = rw (owners_back owners some) refl
form_back (Data compartment export) formed = rw (sides_back compartment export formed.0 formed.1) refl
form_back (Total n) small = rw (number_back MOST_TOTAL n small (omega (arith, small))) refl
form_back (Quota owner n) formed = rw (number_back MOST_TOTAL n formed.1 (omega (arith, formed.1)), other_owner owner formed.0) refl
form_back (Apart owner compartment) formed = refl

-- ---- from words to a rule

-- the rule is spelled as these words
pub record IsSaid (words : List (List ℕ)) (r : Rule) : Type 0 where
  pub words_are : words_of r ≡ words
  pub formed : IsFormed r

record AreOwners (words owners : List (List ℕ)) : Type 0 where
  is : codes "only" ∷ owners ≡ words
  some : 0 < length owners

owners_told : (words owners : List (List ℕ)) → owners_in words ≡ Some owners → AreOwners words owners
owners_told [] owners found = absurd (let bad : None ≡ Some owners = found in cc)
owners_told (w ∷ ws) owners found =
    elim (bool_tells (bytes_eq w (codes "only") && nat_lt 0 (length ws))) [
      | inl yes_here ↦
          let same : ws ≡ owners = (let e : Some ws ≡ Some owners = rw yes_here at found in cc) in
          let some : 0 < length ws = elim (lt_tells 0 (length ws)) [ inl e ↦ e.1 | inr e ↦ absurd (let bad : false ≡ true = sym e.0 ∙ both_right (bytes_eq w (codes "only")) (nat_lt 0 (length ws)) yes_here in cc) ] in
          record {
            is = ap (λ xs. codes "only" ∷ xs) (sym same) ∙ ap (λ x. x ∷ ws) (sym ((bytes_eq-Decides w (codes "only")).0 (both_left (bytes_eq w (codes "only")) (nat_lt 0 (length ws)) yes_here)));
            some = subst (λ xs. 0 < length xs) same some;
          }
      | inr no_here ↦ absurd (let e : None ≡ Some owners = rw no_here at found in cc)
    ]

-- ---- an option that was mapped

mapped : {A B : Type 0} (f : A → B) (x : Option A) (y : B) → option_map f x ≡ Some y → (a : A) × (x ≡ Some a) × (f a ≡ y)
mapped f None y e = absurd (let bad : None ≡ Some y = e in cc)
mapped f (Some a) y e = (a, refl, (let same : Some (f a) ≡ Some y = e in cc))

-- ---- each form

-- what a form after its first word stands for
record IsAfter (head : List ℕ) (words : List (List ℕ)) (r : Rule) : Type 0 where
  is : words_of r ≡ head ∷ words
  formed : IsFormed r

-- what a kind's word and a name stand for
record IsResource (kind word : List ℕ) (s : ResourceName) : Type 0 where
  kind_is : kind_word s ≡ kind
  word_is : resource_word s ≡ word
  named : IsNamed s

-- the resource by the first of these words that its kind is
resource_told : (kind word : List ℕ) (s : ResourceName) → resource_in kind word ≡ Some s → IsResource kind word s
resource_told kind word s found =
    elim (bool_tells (bytes_eq kind (codes "device"))) [
      | inl a ↦ plain (Device word) (codes "device") a refl refl tt (rw a at found)
      | inr device ↦ elim (bool_tells (bytes_eq kind (codes "shared"))) [
        | inl a ↦ plain (Shared word) (codes "shared") a refl refl tt (rw (device, a) at found)
        | inr shared ↦ elim (bool_tells (bytes_eq kind (codes "service"))) [
          | inl a ↦ plain (Service word) (codes "service") a refl refl tt (rw (device, shared, a) at found)
          | inr service ↦ elim (bool_tells (bytes_eq kind (codes "call"))) [
            | inl a ↦ called a (rw (device, shared, service, a) at found)
            | inr call ↦ absurd (let bad : None ≡ Some s = rw (device, shared, service, call) at found in cc)
          ]
        ]
      ]
    ]
  where
    plain : (x : ResourceName) (key : List ℕ) → bytes_eq kind key ≡ true → kind_word x ≡ key → resource_word x ≡ word → IsNamed x → Some x ≡ Some s → IsResource kind word s
    plain x key same kind_is word_is named there =
        let is : x ≡ s = cc in
        subst (λ y. IsResource kind word y) is (record { kind_is = kind_is ∙ sym ((bytes_eq-Decides kind key).0 same); word_is = word_is; named = named })

    called : bytes_eq kind (codes "call") ≡ true → option_map (λ (x : SidesRow). Call x.compartment x.export) (sides_in word) ≡ Some s → IsResource kind word s
    called same there =
        let from = mapped (λ (x : SidesRow). Call x.compartment x.export) (sides_in word) s there in
        let point : IsDotted word from.0 = sides_found word from.0 from.1 in
        subst (λ y. IsResource kind word y) from.2 (record { kind_is = sym ((bytes_eq-Decides kind (codes "call")).0 same); word_is = point.is; named = (point.left, point.right) })

both_told : (resource : Option ResourceName) (owners : Option (List (List ℕ))) (r : Rule) → only_by resource owners ≡ Some r
    → (s : ResourceName) × (os : List (List ℕ)) × (resource ≡ Some s) × (owners ≡ Some os) × (Only s os ≡ r)
both_told None owners r found = absurd (let bad : None ≡ Some r = found in cc)
both_told (Some s) None r found = absurd (let bad : None ≡ Some r = found in cc)
both_told (Some s) (Some os) r found = (s, os, refl, refl, (let same : Some (Only s os) ≡ Some r = found in cc))

only_told : (kind : List ℕ) (words : List (List ℕ)) (r : Rule) → only_in kind words ≡ Some r → IsAfter kind words r
only_told kind [] r found = absurd (let bad : None ≡ Some r = found in cc)
only_told kind (word ∷ rest) r found =
    let from = both_told (resource_in kind word) (owners_in rest) r found in
    let what : IsResource kind word from.0 = resource_told kind word from.0 from.2 in
    let whose : AreOwners rest from.1 = owners_told rest from.1 from.3 in
    subst (λ x. IsAfter kind (word ∷ rest) x) from.4 (record {
      is =
          ap (λ k. k ∷ resource_word from.0 ∷ codes "only" ∷ from.1) what.kind_is
          ∙ ap (λ w. kind ∷ w ∷ codes "only" ∷ from.1) what.word_is
          ∙ ap (λ ws. kind ∷ word ∷ ws) whose.is;
      formed = (what.named, whose.some);
    })

disabled_told : (words : List (List ℕ)) (r : Rule) → disabled_in words ≡ Some r → IsAfter (codes "disabled") words r
disabled_told words r found =
    let from = mapped (λ owners. Disabled owners) (owners_in words) r found in
    let told : AreOwners words from.0 = owners_told words from.0 from.1 in
    subst (λ x. IsAfter (codes "disabled") words x) from.2 (record { is = ap (λ xs. codes "disabled" ∷ xs) told.is; formed = told.some })

data_told : (words : List (List ℕ)) (r : Rule) → data_in words ≡ Some r → IsAfter (codes "data") words r
data_told [] r found = absurd (let bad : None ≡ Some r = found in cc)
data_told (x ∷ y ∷ ys) r found = absurd (let bad : None ≡ Some r = found in cc)
data_told (x ∷ []) r found =
    let from = mapped (λ (s : SidesRow). Data s.compartment s.export) (sides_in x) r found in
    let point : IsDotted x from.0 = sides_found x from.0 from.1 in
    subst (λ r. IsAfter (codes "data") (x ∷ []) r) from.2 (record {
      is = ap (λ w. codes "data" ∷ w ∷ []) point.is;
      formed = (point.left, point.right);
    })

quota_row : (owner text : List ℕ) (n : ℕ) → n ≤ MOST_TOTAL → decimal n ≡ text → IsAfter (codes "quota") (owner ∷ text ∷ []) (quota_by owner n)
quota_row owner text n small is =
    elim (bool_tells (bytes_eq owner total)) [
      | inl yes_here ↦ rw yes_here (record {
        is = ap (λ o. codes "quota" ∷ o ∷ decimal n ∷ []) (sym ((bytes_eq-Decides owner total).0 yes_here)) ∙ ap (λ t. codes "quota" ∷ owner ∷ t ∷ []) is;
        formed = small;
      })
      | inr no_here ↦ rw no_here (record {
        is = ap (λ t. codes "quota" ∷ owner ∷ t ∷ []) is;
        formed = (λ same. absurd (let bad : true ≡ false = sym ((bytes_eq-Decides owner total).1 same) ∙ no_here in cc), small);
      })
    ]

quota_told : (words : List (List ℕ)) (r : Rule) → quota_in words ≡ Some r → IsAfter (codes "quota") words r
quota_told [] r found = absurd (let bad : None ≡ Some r = found in cc)
quota_told (x ∷ []) r found = absurd (let bad : None ≡ Some r = found in cc)
quota_told (x ∷ y ∷ z ∷ zs) r found = absurd (let bad : None ≡ Some r = found in cc)
quota_told (owner ∷ text ∷ []) r found =
    let from = mapped (quota_by owner) (number_within MOST_TOTAL text) r found in
    let told = number_told MOST_TOTAL text from.0 from.1 in
    subst (λ x. IsAfter (codes "quota") (owner ∷ text ∷ []) x) from.2 (quota_row owner text from.0 told.small told.is)

apart_told : (words : List (List ℕ)) (r : Rule) → apart_in words ≡ Some r → IsAfter (codes "apart") words r
apart_told [] r found = absurd (let bad : None ≡ Some r = found in cc)
apart_told (x ∷ []) r found = absurd (let bad : None ≡ Some r = found in cc)
apart_told (x ∷ y ∷ z ∷ zs) r found = absurd (let bad : None ≡ Some r = found in cc)
apart_told (owner ∷ compartment ∷ []) r found =
    let same : Apart owner compartment ≡ r = (let e : Some (Apart owner compartment) ≡ Some r = found in cc) in
    subst (λ x. IsAfter (codes "apart") (owner ∷ compartment ∷ []) x) same (record { is = refl; formed = tt })

-- ---- all forms

said : (head key : List ℕ) (words : List (List ℕ)) (r : Rule) → bytes_eq head key ≡ true → IsAfter key words r → IsSaid (head ∷ words) r
said head key words r same after = record { words_are = after.is ∙ ap (λ h. h ∷ words) (sym ((bytes_eq-Decides head key).0 same)); formed = after.formed }

-- the rule by the first of these words that it is
by_told : (head : List ℕ) (words : List (List ℕ)) (r : Rule) → form_by head words ≡ Some r → IsSaid (head ∷ words) r
by_told head words r found =
    elim (bool_tells (bytes_eq head (codes "disabled"))) [
      | inl a ↦ said head (codes "disabled") words r a (disabled_told words r (rw a at found))
      | inr disabled ↦ elim (bool_tells (bytes_eq head (codes "data"))) [
        | inl a ↦ said head (codes "data") words r a (data_told words r (rw (disabled, a) at found))
        | inr facts ↦ elim (bool_tells (bytes_eq head (codes "quota"))) [
          | inl a ↦ said head (codes "quota") words r a (quota_told words r (rw (disabled, facts, a) at found))
          | inr quota ↦ elim (bool_tells (bytes_eq head (codes "apart"))) [
            | inl a ↦ said head (codes "apart") words r a (apart_told words r (rw (disabled, facts, quota, a) at found))
            | inr apart ↦ kept (only_told head words r (rw (disabled, facts, quota, apart) at found))
          ]
        ]
      ]
    ]
  where
    kept : IsAfter head words r → IsSaid (head ∷ words) r
    kept after = record { words_are = after.is; formed = after.formed }

pub form_told : (words : List (List ℕ)) (r : Rule) → form_of words ≡ Some r → IsSaid words r
form_told [] r found = absurd (let bad : None ≡ Some r = found in cc)
form_told (head ∷ words) r found = by_told head words r found
