-- What is found by a capability that is sealed as a key or a token, and what a routine of them comes to.
use Rattle.std.proofs.Common.{ℕ, ◌≡◌, ◌==◌, ◌&&◌, Bool, List, Option, Some, None, refl, ap, arith}
use Rattle.std.specs.Prelude.{find, if◌then◌else◌}
use Rattle.law_lists.proofs.Finds.{find_is, find_tells}
use Rattle.law_lists.proofs.Tests.{chosen}
use Rattle.def_profile.specs.declared.rights.TheConstants.{HEAP_RIGHTS}
use Rattle.def_profile.specs.declared.seals.TheConstants.{TOKEN_TYPE}
use Rattle.def_words.specs.declared.Cap.{Cap}
use Rattle.def_words.specs.Authority.{cap_base, cap_top}
use Rattle.def_words.specs.Derive.{derive, memory_root}
use Rattle.def_words.specs.Seals.{cap_seal}
use Rattle.def_machine.specs.State.{Object, Token}
use Rattle.def_machine.specs.Objects.{charges}
use Rattle.def_step.specs.Tokens.{is_all_of, is_key_row, is_row_of, sealed_token, sealed_object, as_key, as_token}
use Rattle.std.specs.List.{list_any}
use Rattle.ct_heap.specs.declared.rows.Found.{Found}
use Rattle.ct_heap.specs.Told.{object_row, found}
use Rattle.ct_heap.specs.Lookups.{spans_of, found_as}

-- the object that is told so
pub record IsFound (o : Option Object) (f : Found) : Type 0 where
  pub object : Object
  pub is : o ≡ Some object
  pub number : f.object.number ≡ object.number
  pub quota : f.quota ≡ object.quota

pub found_so : (os : List Object) (o : Option Object) (f : Found) → Some f ≡ found_as os o → IsFound o f
found_so os None f e = absurd (cc)
found_so os (Some r) f e =
    let same : f ≡ found (object_row r.number r.base r.length (charges r.quota os)) r.quota = cc in
    record { object = r; is = refl; number = ap (λ (x : Found). x.object.number) same; quota = ap (λ (x : Found). x.quota) same }

-- and whether it is a key, or a token of this one
pub found_key : (os : List Object) (o : Option Object) (f : Found) (ks : List Token) (b : Bool) → Some f ≡ found_as os o
    → list_any (is_key_row f.object.number) ks ≡ b → as_key ks o ≡ (if b then o else None)
found_key os o f ks b e row = (let w = found_so os o f e in rw (w.is, ← w.number, row) refl)

pub found_token : (os : List Object) (o : Option Object) (f : Found) (ks : List Token) (key : ℕ) (b : Bool) → Some f ≡ found_as os o
    → list_any (is_row_of key f.object.number) ks ≡ b → as_token ks key o ≡ (if b then o else None)
found_token os o f ks key b e row = (let w = found_so os o f e in rw (w.is, ← w.number, row) refl)

pub none_found : (os : List Object) (o : Option Object) → None ≡ found_as os o → o ≡ None
none_found os None e = refl
none_found os (Some r) e = absurd (cc)

-- its capability is derived with the type of keys and tokens
pub token_derived : (r : Object)
    → derive memory_root r.base r.length HEAP_RIGHTS r.base TOKEN_TYPE (record { root = r.quota; source = r.number })
    ≡ sealed_token r
unfolding derive
token_derived r = refl

-- a token of a quota is found by its bounds among what is charged to that
token_whole : (os : List Object) (ks : List Token) (key : ℕ) (c : Cap) (o : Option Object) (r : Object) → sealed_object os c ≡ o
    → as_token ks key o ≡ Some r → find (is_all_of c) os ≡ Some r
token_whole os ks key c None r is e = absurd (cc)
token_whole os ks key c (Some q) r is e =
    let there : (sealed_object os c ≡ Some r) = chosen (λ (x : Option Object). x ≡ Some r → sealed_object os c ≡ Some r) (list_any (is_row_of key q.number) ks) (Some q) None (λ yes same. cc) (λ no none. absurd (cc)) e in
    chosen (λ (x : Option Object). x ≡ Some r → find (is_all_of c) os ≡ Some r) (c.tag && (cap_seal c == TOKEN_TYPE)) (find (is_all_of c) os) None
    (λ yes same. same) (λ no none. absurd (cc)) there

pub of_quota : (os : List Object) (ks : List Token) (key : ℕ) (c : Cap) (r : Object) (quota base top : ℕ) → r.quota ≡ quota → base ≡ cap_base c
    → top ≡ cap_top c → as_token ks key (sealed_object os c) ≡ Some r → find (spans_of quota base top) os ≡ Some r
of_quota os ks key c r quota base top charged base_is top_is is =
    let first = find_tells (is_all_of c) os r (token_whole os ks key c (sealed_object os c) r refl is) in
    find_is (spans_of quota base top) os r (record {
      place = first.place;
      inside = first.inside;
      is = first.is;
      passes = (let passes = first.passes in rw (base_is, top_is, ← charged) (grind arith));
      before = λ k lt. (let fails = first.before k lt in rw (base_is, top_is) (grind arith));
    })
