-- What the limits of an image's fields say of its parts: the header, devices and objects.
use Rattle.std.proofs.Common.{ℕ, ◌≡◌, ◌+◌, ◌≤◌, ◌%◌, ◌==◌, ◌||◌, not, Bool, true, false, cond, nat_le, nat_lt, nat_eq, List, [], ◌∷◌, ◌++◌, length, map, take, Some, None, slice_get, subst, arith}
use Rattle.std.proofs.lemmas.List.{length-map}
use Rattle.std.proofs.lemmas.Bool.{not-false, ltb-false, eqb-true, or_parts}
use Rattle.def_profile.specs.declared.limits.TheConstants.{RAM_END, MOST_BYTES}
use Rattle.def_profile.specs.Versions as version
use Rattle.def_image.specs.declared.Check.{Check}
use Rattle.def_image.specs.declared.format.TheConstants.{SHARED, THREAD}
use Rattle.def_image.specs.Parts.{SharedRow, SealedRow, ThreadRow, PartsRow}
use Rattle.def_image.specs.Spelling.{raw_of, raw_device, raw_shared, raw_sealed, raw_compartment, raw_code, raw_thread}
use Rattle.def_image.specs.Sizes.{sealed_size, shared_at, sealed_at, threads_at}
use Rattle.def_image.specs.Profile.{outside}
use Rattle.def_image.specs.Checks.{first, walked, check}
use Rattle.def_image.specs.Limits.{header_limits, name_checks, shared_limits, sealed_limits, thread_limits, thread_limits_by, shared_name, sealed_name, thread_name, raw_owner_names, overfills, are_zeros}
use Rattle.def_image.specs.Sound.{IsWithin, AreFew, SealedFits}
use Rattle.law_image.proofs.Tells.{within_is}
use Rattle.law_image.proofs.Passing.{right_none, head_none, passes, all_pass}
use Rattle.law_image.proofs.Holding.{Limited}
use Rattle.law_image.proofs.Members.{map_at, map_taken}

-- ---- the header

-- of any version
pub threads_most : (v : ℕ) → version.most_threads v ≤ 64
threads_most v = by (nat_eq v 1)
  where
    by : (b : Bool) → cond b 16 64 ≤ 64
    by true = omega arith
    by false = omega arith

pub few_threads : (p : PartsRow) → AreFew p → length p.threads ≤ 64
few_threads p few = let a = few.threads in let b = threads_most p.version in omega (arith, a, b)

pub record HeaderFits (p : PartsRow) : Type 0 where
  pub few : AreFew p
  pub quantum : IsWithin 1 1000000 p.quantum
  pub ram : p.ram % 16 ≡ 0
  pub size : p.size % 16 ≡ 0
  pub sized : IsWithin 256 (version.most_ram p.version) p.size
  pub end : p.ram + p.size ≤ RAM_END
  pub sweep : IsWithin (version.least_sweep p.version) (version.most_sweep p.version) p.sweep

few_of : {A B : Type 0} (f : A → B) (xs : List A) (n : ℕ) → nat_lt n (length (map f xs)) ≡ false → length xs ≤ n
few_of f xs n e = subst (λ k. k ≤ n) (length-map xs f) (ltb-false n (length (map f xs)) e)

pub header_fits : (p : PartsRow) → first (header_limits (raw_of p)) ≡ None → HeaderFits p
unfolding header_limits raw_of
header_fits p e =
    let h = all_pass (header_limits (raw_of p)) e in
    let size = h.1.1.1.1.1.1.1.1.0 in
    let most = version.most_ram p.version in
    let s1 = outside 256 most p.size in
    let s2 = not (p.size % 16 == 0) in
    let s3 = nat_lt RAM_END (p.ram + p.size) in
    let both = (or_parts (s1 || s2) s3 size).0 in
    let within = within_is 256 most p.size (or_parts s1 s2 both).0 in
    record {
      few = record {
        devices = few_of raw_device p.devices 16 h.0;
        shared = few_of raw_shared p.shared 64 h.1.0;
        sealed = few_of raw_sealed p.sealed 64 h.1.1.0;
        compartments = few_of raw_compartment p.compartments 64 h.1.1.1.0;
        libraries = few_of raw_code p.libraries 32 h.1.1.1.1.0;
        threads = few_of raw_thread p.threads (version.most_threads p.version) h.1.1.1.1.1.0;
      };
      quantum = within_is 1 1000000 p.quantum h.1.1.1.1.1.1.0;
      ram = eqb-true (p.ram % 16) 0 (not-false (nat_eq (p.ram % 16) 0) h.1.1.1.1.1.1.1.0);
      size = eqb-true (p.size % 16) 0 (not-false (nat_eq (p.size % 16) 0) (or_parts s1 s2 both).1);
      sized = within;
      end = ltb-false RAM_END (p.ram + p.size) (or_parts (s1 || s2) s3 size).1;
      sweep = within_is (version.least_sweep p.version) (version.most_sweep p.version) p.sweep h.1.1.1.1.1.1.1.1.1.0;
    }

-- ---- objects

-- of member i of a list of fields
pub asked_of : {A B : Type 0} (f : A → B) (asked : ℕ → List B → B → List Check) (size : B → ℕ) (at : ℕ) (xs : List A) → first (walked asked size at [] (map f xs)) ≡ None
    → (i : ℕ) (x : A) → slice_get xs i ≡ Some x → (place : ℕ) × (first (asked place (map f (take i xs)) (f x)) ≡ None)
asked_of f asked size at xs e i x is =
    let h = passes asked size at (map f xs) e i (f x) (map_at f xs i x is) in
    (h.0, subst (λ earlier. first (asked h.0 earlier (f x)) ≡ None) (map_taken f xs i) h.1)

pub shared_fits : (p : PartsRow) → Limited (raw_of p) → (i : ℕ) (s : SharedRow) → slice_get p.shared i ≡ Some s → IsWithin 1 MOST_BYTES s.length
unfolding raw_of shared_limits
shared_fits p h i s is =
    let a = asked_of raw_shared shared_limits (λ s. SHARED) (shared_at (raw_of p)) p.shared h.shared i s is in
    let names = name_checks a.0 false (map shared_name (map raw_shared (take i p.shared))) (raw_shared s).name in
    let last = check (a.0 + 36) (outside 1 MOST_BYTES s.length) ∷ [] in
    within_is 1 MOST_BYTES s.length (head_none (check (a.0 + 36) (outside 1 MOST_BYTES s.length)) [] (right_none names last a.1)).0

pub sealed_fits : (p : PartsRow) → Limited (raw_of p) → (i : ℕ) (s : SealedRow) → slice_get p.sealed i ≡ Some s → SealedFits s
unfolding raw_of sealed_limits
sealed_fits p h i s is =
    let a = asked_of raw_sealed sealed_limits sealed_size (sealed_at (raw_of p)) p.sealed h.sealed i s is in
    let r = raw_sealed s in
    let names = name_checks a.0 false (map sealed_name (map raw_sealed (take i p.sealed))) r.name in
    let last = check (a.0 + 36) (outside 1 MOST_BYTES s.length) ∷ check (a.0 + 40) (outside 13 15 s.seal) ∷ check (a.0 + 44) (overfills r) ∷ check (a.0 + 48 + length s.bytes) (not (are_zeros r.padding)) ∷ [] in
    let each = all_pass last (right_none names last a.1) in
    record {
      size = within_is 1 MOST_BYTES s.length each.0;
      seal = within_is 13 15 s.seal each.1.0;
      bytes =
          let over = or_parts (outside 1 MOST_BYTES (length s.bytes)) (nat_lt s.length (length s.bytes)) each.1.1.0 in
          ((within_is 1 MOST_BYTES (length s.bytes) over.0).0, ltb-false s.length (length s.bytes) over.1);
    }

-- ---- threads

pub record ThreadLimited (t : ThreadRow) : Type 0 where
  pub stack : IsWithin 256 32768 t.stack_length
  pub priority : t.priority ≤ 15
  pub frames : IsWithin 1 96 t.frames

pub thread_fits : (p : PartsRow) → Limited (raw_of p) → (i : ℕ) (t : ThreadRow) → slice_get p.threads i ≡ Some t → ThreadLimited t
unfolding raw_of thread_limits_by
thread_fits p h i t is =
    let a = asked_of raw_thread (thread_limits (raw_of p)) (λ t. THREAD) (threads_at (raw_of p)) p.threads h.threads i t is in
    let names = name_checks a.0 false (raw_owner_names (raw_of p) ++ map thread_name (map raw_thread (take i p.threads))) (raw_thread t).name in
    let last = check (a.0 + 36) (outside 256 32768 t.stack_length) ∷ check (a.0 + 48) (nat_lt 15 t.priority) ∷ check (a.0 + 52) (outside 1 96 t.frames) ∷ [] in
    let each = all_pass last (right_none names last a.1) in
    record {
      stack = within_is 256 32768 t.stack_length each.0;
      priority = ltb-false 15 t.priority each.1.0;
      frames = within_is 1 96 t.frames each.1.1.0;
    }
