-- An allocation that tells its deed: the object that it made, that it is fresh, and how it is handed out.
use Rattle.std.proofs.Common.{ℕ, ◌≡◌, ◌+◌, ◌-◌, ◌/◌, ◌*◌, ◌≤◌, ◌<◌, ◌⊎◌, ◌&&◌, ◌||◌, Bool, true, false, inl, inr, nat_le, nat_lt, List, [], ◌∷◌, Option, Some, None, refl, sym, ap, subst, arith}
use Rattle.law_lists.proofs.Tests.{chosen, le_tells, lt_tells}
use Rattle.ct_entry.specs.declared.acts.Act.{Act}
use Rattle.ct_entry.specs.declared.acts.Act.TheVariants.{Allocate}
use Rattle.def_words.specs.Authority.{cap_address}
use Rattle.def_words.specs.Capability.{integer}
use Rattle.def_words.specs.LeastBounds.{exponent_for}
use Rattle.law_words.proofs.Leasts.{ceil_above}
use Rattle.def_machine.specs.Image.{Image, address_of}
use Rattle.def_machine.specs.State.{State, Object, register, thread}
use Rattle.def_machine.specs.Objects.{Each}
use Rattle.def_machine.specs.Heap.{IsPlaceFor, length_for, place_of, new_object, object_cap, with_object}
use Rattle.def_confined.specs.Changes.{NewObject}
use Rattle.def_confined.specs.Confined.{Apart}
use Rattle.def_confined.specs.Keeps.{Keeps}
use Rattle.def_confined.specs.Partitioned.{Partitioned}
use Rattle.def_hidden.specs.Hidden.{Blank, is_live_at}
use Rattle.def_step.specs.Routines.{Ran, Leaves, answers, code, tells}
use Rattle.def_step.specs.Quotas.{Allocation, Refused, Made, allocation, is_quota_cap, quota_in, allocate}
use Rattle.def_step.specs.Switch.{return_checks}
use Rattle.def_step.specs.Tokens.{by_key, key_of, made_token, with_row, sealed_token, token_key, token_new}
use Rattle.law_moves.proofs.Found.{place_found}
use Rattle.law_routines.proofs.Places as places
use Rattle.def_confined.specs.Facts.{RootsAway}
use Rattle.law_events.proofs.Covering.{granule_misses, register_misses, pcc_misses, frames_miss}
use Rattle.def_events.specs.Leaving.{Left}
use Rattle.law_routines.proofs.Leaving.{allocate_told, allocate_left, checked_left, token_key_left}
use Rattle.law_routines.proofs.Objects.{Makes, made_says}
use Rattle.law_events.proofs.Hiding.{heap_zero}
use Rattle.def_safety.specs.Fresh.{IsFresh, HandsOut, AsMade, AsKey, AsToken}

-- ---- fresh

pub long_enough : (size : ℕ) → (size ≡ 0 → ⊥) → 0 < length_for size
long_enough size some =
    let whole : 0 < (size + 7) / 8 * 8 = omega (arith, some) in
    let above = ceil_above ((size + 7) / 8 * 8) (exponent_for 0 ((size + 7) / 8 * 8)) in
    omega (arith, whole, above)

-- no object is live where another's chunk may be put
none_live : (r : Object) (qs : List Object) (x : ℕ) → Each (Apart r) qs → r.base ≤ x → x < r.base + r.length → is_live_at qs x ≡ false
none_live r [] x apart low high = refl
none_live r (q ∷ qs) x apart low high = either (q.live && nat_le q.base x && nat_lt x (q.base + q.length)) (is_live_at qs x) (here (le_tells q.base x) (lt_tells x (q.base + q.length))) (none_live r qs x apart.1 low high)
  where
    either : (a b : Bool) → a ≡ false → b ≡ false → (a || b) ≡ false
    either true b h k = h
    either false b h k = k

    no_end : (a b : Bool) → (a && b && false) ≡ false
    no_end true true = refl
    no_end true false = refl
    no_end false b = refl

    no_start : (a b : Bool) → (a && false && b) ≡ false
    no_start true b = refl
    no_start false b = refl

    here : ((nat_le q.base x ≡ true) × (q.base ≤ x)) ⊎ ((nat_le q.base x ≡ false) × (x < q.base)) → ((nat_lt x (q.base + q.length) ≡ true) × (x < q.base + q.length)) ⊎ ((nat_lt x (q.base + q.length) ≡ false) × (q.base + q.length ≤ x)) → (q.live && nat_le q.base x && nat_lt x (q.base + q.length)) ≡ false
    here (inr a) b = rw a.0 (no_start q.live (nat_lt x (q.base + q.length)))
    here (inl a) (inr b) = rw b.0 (no_end q.live (nat_le q.base x))
    here (inl a) (inl b) = absurd (elim apart.0.1 [ inl below ↦ (let from = a.1 in omega (arith, below, from, high)) | inr above ↦ (let to = b.1 in omega (arith, above, to, low)) ])

made_fresh : (i : Image) (s : State) (quota size base : ℕ) → Partitioned i → RootsAway i → Keeps i s → Blank i s → Makes i s quota size (new_object s quota size base) → place_of i s.objects (length_for size) ≡ Some base → IsFresh i s (new_object s quota size base)
made_fresh i s quota size base parts away k blank m found =
    let place : IsPlaceFor i s.objects (length_for size) base = places.place_found i s.objects (length_for size) base (long_enough size m.some) found in
    let limit = m.limit in
    let new : NewObject i s (new_object s quota size base) = place_found i s quota size base k.confined place.fits (omega (arith, limit)) in
    record {
      object = new;
      place = place;
      zero = λ j low high. heap_zero i s j blank (let fits = place.fits.low in omega (arith, fits, low)) (let fits = place.fits.high in omega (arith, fits, high)) (none_live (new_object s quota size base) s.objects (address_of i j) new.apart low high);
      granules = λ j. granule_misses i s (new_object s quota size base) j parts away k.confined new;
      registers = λ t n. register_misses i s (new_object s quota size base) t n away k.confined new;
      counters = λ t. pcc_misses i s (new_object s quota size base) t away k.confined new;
      frames = λ t. frames_miss i s (new_object s quota size base) t away k.confined new;
    }

-- ---- what is told

abbrev number_in : Act → ℕ
number_in (Allocate number base long live) = number
number_in _ = 0

abbrev base_in : Act → ℕ
base_in (Allocate number base long live) = base
base_in _ = 0

abbrev length_in : Act → ℕ
length_in (Allocate number base long live) = long
length_in _ = 0

abbrev act_of : Act → Option (ℕ × Act) → Act
act_of a None = a
act_of a (Some d) = d.1

-- an allocation that a routine tells, and what it left, is of a fresh object that is handed out so
abbrev Hands : Image → State → (State → Object → Type 0) → State → Option (ℕ × Act) → Type 0
Hands i s How after told = (entry number base long live : ℕ) → told ≡ Some (entry, Allocate number base long live) → HandsOut i s number base long (How after)

none_hands : (i : Image) (s : State) (How : State → Object → Type 0) (after : State) → Hands i s How after None
none_hands i s How after entry number base long live e = absurd (let clash : None ≡ Some (entry, Allocate number base long live) = e in cc)

made_hands : (i : Image) (s after : State) (t size : ℕ) (r : Object) (count : ℕ) (How : State → Object → Type 0) → Partitioned i → RootsAway i → Keeps i s → Blank i s → allocation i s (quota_in s t) size ≡ Made r → How after r → Hands i s How after (Some (r.quota, Allocate r.number r.base r.length count))
made_hands i s after t size r count How parts away k blank is how entry number base long live told =
    let acts : Allocate r.number r.base r.length count ≡ Allocate number base long live = ap (act_of (Allocate 0 0 0 0)) told in
    let m = made_says i s (quota_in s t) size r is in
    let fresh = made_fresh i s (quota_in s t) size m.base parts away k blank (record { base = m.base; is = refl; some = m.some; limit = m.limit; place = m.place }) m.place in
    record {
      object = r;
      told = (ap number_in acts, ap base_in acts, ap length_in acts);
      fresh = subst (IsFresh i s) (sym m.is) fresh;
      after_is = how;
    }

-- ---- a token, with the key that was found

module _ (Q : State → Option (ℕ × Act) → Type 0) (i : Image) (s : State) (t : ℕ)
    (answer : (n : ℕ) → Q (answers s t (integer n)) None)
    (seals : (size : ℕ) (key r : Object) → allocation i s (quota_in s t) size ≡ Made r → key_of s (register (thread s t) 12) ≡ Some key → Q (answers (with_object (with_row s r (Some key.number)) r) t (sealed_token r)) (Some (allocate_told (with_row s r (Some key.number)) r))) where
  token_made : (size : ℕ) (key : Object) (a : Allocation) → allocation i s (quota_in s t) size ≡ a → key_of s (register (thread s t) 12) ≡ Some key → Left Q (made_token s t (Some key.number) a)
  token_made size key (Refused n) is found = answer (4294967296 - n)
  token_made size key (Made r) is found = seals size key r is found

  token_keyed : (o : Option Object) → key_of s (register (thread s t) 12) ≡ o → Left Q (by_key s t o (λ key. made_token s t (Some key) (allocation i s (quota_in s t) (cap_address (register (thread s t) 11)))))
  token_keyed None found = answer (4294967296 - 7)
  token_keyed (Some key) found = token_made (cap_address (register (thread s t) 11)) key (allocation i s (quota_in s t) (cap_address (register (thread s t) 11))) refl found

  token_left : Left Q (token_new i s t)
  token_left = checked_left Q (return_checks (register (thread s t) 1)) _
      (chosen (Left Q) (is_quota_cap (register (thread s t) 10)) _ (tells s t (code 1)) (λ is. token_keyed (key_of s (register (thread s t) 12)) refl) (λ not. answer (4294967296 - 1)))

-- ---- the event

pub left_by : (Q : State → Option (ℕ × Act) → Type 0) (r : Ran) (z : State) (told : Option (ℕ × Act)) → r ≡ Leaves z told → Left Q r → Q z told
left_by Q r z told is h = subst (Left Q) is h

module _ (i : Image) (s after : State) (t entry number base long live : ℕ) (parts : Partitioned i) (away : RootsAway i) (k : Keeps i s) (blank : Blank i s) where
  by_left : (r : Ran) (How : State → Object → Type 0) → r ≡ Leaves after (Some (entry, Allocate number base long live)) → Left (Hands i s How) r → HandsOut i s number base long (How after)
  by_left r How is left = left_by (Hands i s How) r after (Some (entry, Allocate number base long live)) is left entry number base long live refl

  pub hands_fresh : allocate i s t ≡ Leaves after (Some (entry, Allocate number base long live)) → HandsOut i s number base long (AsMade s t after)
  hands_fresh is = by_left (allocate i s t) (AsMade s t) is (allocate_left (Hands i s (AsMade s t)) i s t
      (λ n. none_hands i s (AsMade s t) (answers s t (integer n)))
      (λ size r made. made_hands i s (answers (with_object s r) t (object_cap r)) t size r _ (AsMade s t) parts away k blank made refl))

  pub key_fresh : token_key i s t ≡ Leaves after (Some (entry, Allocate number base long live)) → HandsOut i s number base long (AsKey s t after)
  key_fresh is = by_left (token_key i s t) (AsKey s t) is (token_key_left (Hands i s (AsKey s t)) i s t
      (λ n. none_hands i s (AsKey s t) (answers s t (integer n)))
      (λ r made. made_hands i s (answers (with_object (with_row s r None) r) t (sealed_token r)) t 8 r _ (AsKey s t) parts away k blank made refl))

  pub token_fresh : token_new i s t ≡ Leaves after (Some (entry, Allocate number base long live)) → HandsOut i s number base long (AsToken s t after)
  token_fresh is = by_left (token_new i s t) (AsToken s t) is (token_left (Hands i s (AsToken s t)) i s t
      (λ n. none_hands i s (AsToken s t) (answers s t (integer n)))
      (λ size key r made found. made_hands i s (answers (with_object (with_row s r (Some key.number)) r) t (sealed_token r)) t size r _ (AsToken s t) parts away k blank made (key, (found, refl))))
