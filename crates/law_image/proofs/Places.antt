-- Each size is the length of its spelling, so that places are offsets in the bytes.
use Rattle.std.proofs.Common.{ℕ, ◌≡◌, ◌+◌, ◌*◌, Bool, true, false, cond, nat_eq, List, [], ◌∷◌, ◌++◌, length, refl, ap, ◌∙◌, arith}
use Rattle.std.specs.List.{flat_map, AllByRecursion}
use Rattle.std.proofs.lemmas.List.{length-append}
use Rattle.std.proofs.lemmas.List.Concat.{flat_map-cons}
use Rattle.def_image.specs.declared.RawEntry.{RawEntry}
use Rattle.def_image.specs.Raw.{RawDevice, RawShared, RawSealed, RawCode, RawCompartment, RawThread, RawImage}
use Rattle.def_image.specs.Spelling.{number, count, magic, sweep_spelled, entry_spelled, device_spelled, shared_spelled, sealed_spelled, tables_spelled, compartment_spelled, library_spelled, thread_spelled, spelled}
use Rattle.def_image.specs.Shapes.{IsRawEntry, IsDevice, IsShared, IsSealed, IsCode, IsCompartment, IsThread}
use Rattle.def_image.specs.Sizes.{sum_of, rate_size, sealed_size, tables_size, compartment_size, library_size}
use Rattle.def_image.specs.Answers.{PlacesAreOffsets}

-- ---- lists

joined : (xs ys : List ℕ) (n m : ℕ) → length xs ≡ n → length ys ≡ m → length (xs ++ ys) ≡ n + m
joined xs ys n m hx hy = omega (arith, length-append xs ys, hx, hy)

-- members of one size
alike : {A : Type 0} (P : A → Type 0) (spell : A → List ℕ) (n : ℕ) → ((x : A) → P x → length (spell x) ≡ n) → (xs : List A) → AllByRecursion P xs → length (flat_map spell xs) ≡ n * length xs
alike P spell n one [] h = omega arith
alike P spell n one (x ∷ xs) h =
    let here = one x h.0 in
    let rest = alike P spell n one xs h.1 in
    let both = joined (spell x) (flat_map spell xs) n (n * length xs) here rest in
    let split : length (flat_map spell (x ∷ xs)) ≡ length (spell x ++ flat_map spell xs) = ap (λ (l : List ℕ). length l) (flat_map-cons spell x xs) in
    split ∙ both ∙ omega arith

-- members of their own sizes
summed : {A : Type 0} (P : A → Type 0) (spell : A → List ℕ) (size : A → ℕ) → ((x : A) → P x → length (spell x) ≡ size x) → (xs : List A) → AllByRecursion P xs → length (flat_map spell xs) ≡ sum_of size xs
summed P spell size one [] h = refl
summed P spell size one (x ∷ xs) h =
    let both = joined (spell x) (flat_map spell xs) (size x) (sum_of size xs) (one x h.0) (summed P spell size one xs h.1) in
    ap (λ (l : List ℕ). length l) (flat_map-cons spell x xs) ∙ both

-- ---- members

pub entry_long : (e : RawEntry) → IsRawEntry e → length (entry_spelled e) ≡ 48
entry_long e h = joined e.row e.name 16 32 h.0.size h.1.size

pub device_long : (d : RawDevice) → IsDevice d → length (device_spelled d) ≡ 40
device_long d h = joined (d.name ++ number d.kind) (number d.base) 36 4 (joined d.name (number d.kind) 32 4 h.0.size refl) refl

pub shared_long : (s : RawShared) → IsShared s → length (shared_spelled s) ≡ 40
shared_long s h = joined (s.name ++ number s.base) (number s.length) 36 4 (joined s.name (number s.base) 32 4 h.0.size refl) refl

pub thread_long : (t : RawThread) → IsThread t → length (thread_spelled t) ≡ 56
thread_long t h =
    let a0 = joined t.name (number t.stack) 32 4 h.0.size refl in
    let a1 = joined (t.name ++ number t.stack) (number t.stack_length) 36 4 a0 refl in
    let a2 = joined (t.name ++ number t.stack ++ number t.stack_length) (number t.compartment) 40 4 a1 refl in
    let a3 = joined (t.name ++ number t.stack ++ number t.stack_length ++ number t.compartment) (number t.export) 44 4 a2 refl in
    let a4 = joined (t.name ++ number t.stack ++ number t.stack_length ++ number t.compartment ++ number t.export) (number t.priority) 48 4 a3 refl in
    joined (t.name ++ number t.stack ++ number t.stack_length ++ number t.compartment ++ number t.export ++ number t.priority) (number t.frames) 52 4 a4 refl

pub sealed_long : (s : RawSealed) → IsSealed s → length (sealed_spelled s) ≡ sealed_size s
sealed_long s h =
    let a0 = joined s.name (number s.base) 32 4 h.0.size refl in
    let a1 = joined (s.name ++ number s.base) (number s.length) 36 4 a0 refl in
    let a2 = joined (s.name ++ number s.base ++ number s.length) (number s.seal) 40 4 a1 refl in
    let a3 = joined (s.name ++ number s.base ++ number s.length ++ number s.seal) (count s.bytes) 44 4 a2 refl in
    let a4 = joined (s.name ++ number s.base ++ number s.length ++ number s.seal ++ count s.bytes) s.bytes 48 (length s.bytes) a3 refl in
    joined (s.name ++ number s.base ++ number s.length ++ number s.seal ++ count s.bytes ++ s.bytes) s.padding (48 + length s.bytes) (length s.padding) a4 refl

tables_long : (c : RawCode) → IsCode c → length (tables_spelled c) ≡ tables_size c
tables_long c h =
    let slots = alike IsRawEntry entry_spelled 48 entry_long c.slots h.slots.1 in
    let exports = alike IsRawEntry entry_spelled 48 entry_long c.exports h.exports.1 in
    let a0 = joined (flat_map entry_spelled c.slots) (flat_map entry_spelled c.exports) (48 * length c.slots) (48 * length c.exports) slots exports in
    joined (flat_map entry_spelled c.slots ++ flat_map entry_spelled c.exports) c.text (48 * length c.slots + 48 * length c.exports) (length c.text) a0 refl

pub library_long : (c : RawCode) → IsCode c → length (library_spelled c) ≡ library_size c
library_long c h =
    let a0 = joined c.name (number c.base) 32 4 h.name.size refl in
    let a1 = joined (c.name ++ number c.base) (number c.length) 36 4 a0 refl in
    let a2 = joined (c.name ++ number c.base ++ number c.length) (count c.text) 40 4 a1 refl in
    let a3 = joined (c.name ++ number c.base ++ number c.length ++ count c.text) (count c.slots) 44 4 a2 refl in
    let a4 = joined (c.name ++ number c.base ++ number c.length ++ count c.text ++ count c.slots) (count c.exports) 48 4 a3 refl in
    joined (c.name ++ number c.base ++ number c.length ++ count c.text ++ count c.slots ++ count c.exports) (tables_spelled c) 52 (tables_size c) a4 (tables_long c h)

pub compartment_long : (c : RawCompartment) → IsCompartment c → length (compartment_spelled c) ≡ compartment_size c
compartment_long c h =
    let k = c.code in
    let f0 = k.name in
    let f1 = f0 ++ number k.base in
    let f2 = f1 ++ number k.length in
    let f3 = f2 ++ count k.text in
    let f4 = f3 ++ number c.table in
    let f5 = f4 ++ number c.globals in
    let f6 = f5 ++ number c.globals_length in
    let f7 = f6 ++ count c.initial in
    let f8 = f7 ++ count k.slots in
    let f9 = f8 ++ count k.exports in
    let a0 = joined f0 (number k.base) 32 4 h.code.name.size refl in
    let a1 = joined f1 (number k.length) 36 4 a0 refl in
    let a2 = joined f2 (count k.text) 40 4 a1 refl in
    let a3 = joined f3 (number c.table) 44 4 a2 refl in
    let a4 = joined f4 (number c.globals) 48 4 a3 refl in
    let a5 = joined f5 (number c.globals_length) 52 4 a4 refl in
    let a6 = joined f6 (count c.initial) 56 4 a5 refl in
    let a7 = joined f7 (count k.slots) 60 4 a6 refl in
    let a8 = joined f8 (count k.exports) 64 4 a7 refl in
    let a9 = joined f9 (tables_spelled k) 68 (tables_size k) a8 (tables_long k h.code) in
    let b0 = joined (f9 ++ tables_spelled k) c.initial (68 + tables_size k) (length c.initial) a9 refl in
    joined (f9 ++ tables_spelled k ++ c.initial) c.padding (68 + tables_size k + length c.initial) (length c.padding) b0 refl

-- ---- the whole

sweep_long : (r : RawImage) → length (sweep_spelled r) ≡ rate_size r.version
sweep_long r = by (nat_eq r.version 1)
  where
    by : (b : Bool) → length (cond b [] (number r.sweep)) ≡ cond b 0 4
    by true = refl
    by false = refl

pub places_are : PlacesAreOffsets
unfolding spelled
places_are r h =
    let head =
    magic ++ number r.version ++ count r.devices ++ count r.shared ++ count r.sealed ++ count r.compartments ++ count r.libraries ++ count r.threads
    ++ number r.quantum ++ number r.ram ++ number r.size ++ number r.trusted ++ number r.heap in
    let rate = sweep_long r in
    let a0 = joined head (sweep_spelled r) 52 (rate_size r.version) refl rate in
    let s1 = head ++ sweep_spelled r in
    let a1 = joined s1 r.name (52 + rate_size r.version) 32 a0 h.name.size in
    let s2 = s1 ++ r.name in
    let n1 = 52 + rate_size r.version + 32 in
    let devices = alike IsDevice device_spelled 40 device_long r.devices h.devices.1 in
    let a2 = joined s2 (flat_map device_spelled r.devices) n1 (40 * length r.devices) a1 devices in
    let s3 = s2 ++ flat_map device_spelled r.devices in
    let n2 = n1 + 40 * length r.devices in
    let shared = alike IsShared shared_spelled 40 shared_long r.shared h.shared.1 in
    let a3 = joined s3 (flat_map shared_spelled r.shared) n2 (40 * length r.shared) a2 shared in
    let s4 = s3 ++ flat_map shared_spelled r.shared in
    let n3 = n2 + 40 * length r.shared in
    let sealed = summed IsSealed sealed_spelled sealed_size sealed_long r.sealed h.sealed.1 in
    let a4 = joined s4 (flat_map sealed_spelled r.sealed) n3 (sum_of sealed_size r.sealed) a3 sealed in
    let s5 = s4 ++ flat_map sealed_spelled r.sealed in
    let n4 = n3 + sum_of sealed_size r.sealed in
    let compartments = summed IsCompartment compartment_spelled compartment_size compartment_long r.compartments h.compartments.1 in
    let a5 = joined s5 (flat_map compartment_spelled r.compartments) n4 (sum_of compartment_size r.compartments) a4 compartments in
    let s6 = s5 ++ flat_map compartment_spelled r.compartments in
    let n5 = n4 + sum_of compartment_size r.compartments in
    let libraries = summed IsCode library_spelled library_size library_long r.libraries h.libraries.1 in
    let a6 = joined s6 (flat_map library_spelled r.libraries) n5 (sum_of library_size r.libraries) a5 libraries in
    let s7 = s6 ++ flat_map library_spelled r.libraries in
    let n6 = n5 + sum_of library_size r.libraries in
    let threads = alike IsThread thread_spelled 56 thread_long r.threads h.threads.1 in
    let a7 = joined s7 (flat_map thread_spelled r.threads) n6 (56 * length r.threads) a6 threads in
    a7 ∙ omega arith
