-- Devices, objects and threads of what is linked keep the limits of an image.
use Rattle.std.proofs.Common.{ℕ, ◌≡◌, ◌+◌, ◌<◌, ◌≤◌, ◌||◌, not, true, false, nat_lt, List, [], ◌∷◌, ◌++◌, length, map, drop, None, refl, sym, ap, ap₂, subst, append-nil, arith}
use Rattle.std.specs.List.{AllByRecursion}
use Rattle.std.proofs.lemmas.Bool.{le-ltb}
use Rattle.def_profile.specs.declared.limits.TheConstants.{MOST_BYTES}
use Rattle.ct_entry.specs.Listed.{DeviceRow}
use Rattle.ct_entry.specs.declared.hardware.DeviceKind.{DeviceKind}
use Rattle.ct_entry.specs.declared.hardware.DeviceKind.TheVariants.{Uart, Timer, Gpio}
use Rattle.def_texts.specs.Names.{is_name, among}
use Rattle.def_layout.specs.declared.Region.{Region}
use Rattle.def_layout.specs.Placement.{region_length, region_base, placed}
use Rattle.def_image.specs.declared.format.TheConstants.{DEVICE, SHARED, THREAD}
use Rattle.def_image.specs.Raw.{RawDevice, RawShared, RawSealed, RawThread, RawImage}
use Rattle.def_image.specs.Parts.{SharedRow as SharedPart, SealedRow as SealedPart, ThreadRow as ThreadPart}
use Rattle.ct_entry.specs.DeviceKinds.{device_number}
use Rattle.def_image.specs.Spelling.{padding_after, raw_device, raw_shared, raw_sealed, raw_thread}
use Rattle.def_image.specs.Sizes.{sealed_size}
use Rattle.def_image.specs.Profile.{outside}
use Rattle.def_image.specs.Checks.{first, walked, check}
use Rattle.def_image.specs.Limits.{name_checks, raw_device_name, device_limits, shared_name, shared_limits, sealed_name, overfills, sealed_limits, thread_name, thread_limits_by, raw_owner_names, thread_limits, are_zeros}
use Rattle.def_image.specs.Sound.{IsWithin}
use Rattle.def_desc.specs.Rows.{DescShared, DescSealed, DescThread, DescRow}
use Rattle.def_desc.specs.Lawful.{IsLawfulShared, IsLawfulSealed, IsLawfulThread}
use Rattle.def_link.specs.Linked.{shared_parts, sealed_parts, thread_parts}
use Rattle.law_link.proofs.Walks.{next_none}
use Rattle.law_link.proofs.Fields.{inside, zeros_are, name_is, name_back, name_passes, New}
use Rattle.law_link.proofs.Lengths.{bytes_kept, stack_kept}
use Rattle.law_link.proofs.Along.{walk_along, along_both, along_all, along_new, along_after}
use Rattle.law_image.proofs.Passing.{joined_none, one_none}
use Rattle.law_layout.proofs.Placing.{size_fits}

-- ---- devices

unfoldable pub device_title : DeviceRow → List ℕ
device_title d = d.name

kind_within : (k : DeviceKind) → outside 1 3 (device_number k) ≡ false
kind_within Uart = refl
kind_within Timer = refl
kind_within Gpio = refl

device_passes : (at : ℕ) (earlier : List RawDevice) (d : DeviceRow) → is_name d.name ≡ true → among d.name (map raw_device_name earlier) ≡ false → first (device_limits at earlier (raw_device d)) ≡ None
unfolding device_limits
device_passes at earlier d formed new =
    joined_none (name_checks at false (map raw_device_name earlier) (raw_device d).name) (check (at + 32) (outside 1 3 (device_number d.kind)) ∷ [])
    (name_passes at false (map raw_device_name earlier) d.name formed new refl) (one_none (at + 32) (outside 1 3 (device_number d.kind)) (kind_within d.kind))

devices_back : (ds : List DeviceRow) → AllByRecursion (λ (d : DeviceRow). is_name d.name ≡ true) ds → AllByRecursion (λ d. raw_device_name (raw_device d) ≡ device_title d) ds
unfolding device_title
devices_back [] h = tt
devices_back (d ∷ ds) h = (name_back d.name (name_is d.name h.0), devices_back ds h.1)

pub devices_pass : (at : ℕ) (ds : List DeviceRow) → AllByRecursion (λ (d : DeviceRow). is_name d.name ≡ true) ds → New [] (map device_title ds)
    → first (walked device_limits (λ d. DEVICE) at [] (map raw_device ds)) ≡ None
unfolding device_title
devices_pass at ds formed new =
    walk_along raw_device (λ before (d : DeviceRow). (is_name d.name ≡ true) × (among d.name (map raw_device_name before) ≡ false)) device_limits (λ d. DEVICE)
    (λ place before d k. device_passes place before d k.0 k.1) at [] ds
    (along_both raw_device (λ before (d : DeviceRow). is_name d.name ≡ true) (λ before (d : DeviceRow). among d.name (map raw_device_name before) ≡ false) [] ds
    (along_all raw_device (λ (d : DeviceRow). is_name d.name ≡ true) [] ds formed)
    (along_new raw_device raw_device_name device_title [] [] ds refl (devices_back ds formed) new))

-- ---- shared objects

unfoldable pub shared_title : SharedPart → List ℕ
shared_title s = s.name

pub record SharedGood (s : SharedPart) : Type 0 where
  pub named : is_name s.name ≡ true
  pub sized : IsWithin 1 MOST_BYTES s.length

pub shared_good : (end : ℕ) (rest : List ℕ) (ss : List DescShared) → AllByRecursion IsLawfulShared ss → AllByRecursion (λ n. is_name n ≡ true) (map (λ (s : DescShared). s.name) ss)
    → AllByRecursion SharedGood (shared_parts (placed end (map (λ (s : DescShared). s.size) ss ++ rest)) ss)
unfolding shared_parts placed
shared_good end rest [] h names = tt
shared_good end rest (s ∷ ss) h names =
    let low = h.0.0 in
    let high = h.0.1 in
    let fits = size_fits s.size in (
      record { named = names.0; sized = (omega (arith, low, fits), bytes_kept s.size high) },
      shared_good (region_base end s.size + region_length s.size) rest ss h.1 names.1,
    )

pub shared_titles : (regions : List Region) (ss : List DescShared) → map shared_title (shared_parts regions ss) ≡ map (λ (s : DescShared). s.name) ss
unfolding shared_parts shared_title
shared_titles regions [] = refl
shared_titles regions (s ∷ ss) = ap (λ l. s.name ∷ l) (shared_titles (drop 1 regions) ss)

shared_back : (ss : List SharedPart) → AllByRecursion SharedGood ss → AllByRecursion (λ s. shared_name (raw_shared s) ≡ shared_title s) ss
unfolding shared_title
shared_back [] h = tt
shared_back (s ∷ ss) h = (name_back s.name (name_is s.name h.0.named), shared_back ss h.1)

shared_passes : (at : ℕ) (earlier : List RawShared) (s : SharedPart) → SharedGood s → among s.name (map shared_name earlier) ≡ false → first (shared_limits at earlier (raw_shared s)) ≡ None
unfolding shared_limits
shared_passes at earlier s h new =
    joined_none (name_checks at false (map shared_name earlier) (raw_shared s).name) (check (at + 36) (outside 1 MOST_BYTES s.length) ∷ [])
    (name_passes at false (map shared_name earlier) s.name h.named new refl) (one_none (at + 36) (outside 1 MOST_BYTES s.length) (inside 1 MOST_BYTES s.length h.sized))

pub shared_pass : (at : ℕ) (ss : List SharedPart) → AllByRecursion SharedGood ss → New [] (map shared_title ss) → first (walked shared_limits (λ s. SHARED) at [] (map raw_shared ss)) ≡ None
unfolding shared_title
shared_pass at ss good new =
    walk_along raw_shared (λ before (s : SharedPart). SharedGood s × (among s.name (map shared_name before) ≡ false)) shared_limits (λ s. SHARED)
    (λ place before s k. shared_passes place before s k.0 k.1) at [] ss
    (along_both raw_shared (λ before s. SharedGood s) (λ before (s : SharedPart). among s.name (map shared_name before) ≡ false) [] ss
    (along_all raw_shared SharedGood [] ss good)
    (along_new raw_shared shared_name shared_title [] [] ss refl (shared_back ss good) new))

-- ---- sealed objects

unfoldable pub sealed_title : SealedPart → List ℕ
sealed_title s = s.name

pub record SealedGood (s : SealedPart) : Type 0 where
  pub named : is_name s.name ≡ true
  pub sized : IsWithin 1 MOST_BYTES s.length
  pub seal : IsWithin 13 15 s.seal
  pub few : IsWithin 1 MOST_BYTES (length s.bytes)
  pub fits : length s.bytes ≤ s.length
  pub bytes : AllByRecursion (λ b. b < 256) s.bytes

pub sealed_good : (end : ℕ) (rest : List ℕ) (ss : List DescSealed) → AllByRecursion IsLawfulSealed ss → AllByRecursion (λ n. is_name n ≡ true) (map (λ (s : DescSealed). s.name) ss)
    → AllByRecursion SealedGood (sealed_parts (placed end (map (λ (s : DescSealed). length s.bytes) ss ++ rest)) ss)
unfolding sealed_parts placed
sealed_good end rest [] h names = tt
sealed_good end rest (s ∷ ss) h names =
    let n = length s.bytes in
    let few = h.0.few in
    let low = few.0 in
    let fits = size_fits n in (
      record { named = names.0; sized = (omega (arith, low, fits), bytes_kept n few.1); seal = h.0.seal; few = few; fits = fits; bytes = h.0.bytes },
      sealed_good (region_base end n + region_length n) rest ss h.1 names.1,
    )

pub sealed_titles : (regions : List Region) (ss : List DescSealed) → map sealed_title (sealed_parts regions ss) ≡ map (λ (s : DescSealed). s.name) ss
unfolding sealed_parts sealed_title
sealed_titles regions [] = refl
sealed_titles regions (s ∷ ss) = ap (λ l. s.name ∷ l) (sealed_titles (drop 1 regions) ss)

sealed_back : (ss : List SealedPart) → AllByRecursion SealedGood ss → AllByRecursion (λ s. sealed_name (raw_sealed s) ≡ sealed_title s) ss
unfolding sealed_title
sealed_back [] h = tt
sealed_back (s ∷ ss) h = (name_back s.name (name_is s.name h.0.named), sealed_back ss h.1)

sealed_passes : (at : ℕ) (earlier : List RawSealed) (s : SealedPart) → SealedGood s → among s.name (map sealed_name earlier) ≡ false → first (sealed_limits at earlier (raw_sealed s)) ≡ None
unfolding sealed_limits
sealed_passes at earlier s h new =
    let r = raw_sealed s in
    let c1 = check (at + 36) (outside 1 MOST_BYTES s.length) in
    let c2 = check (at + 40) (outside 13 15 s.seal) in
    let c3 = check (at + 44) (overfills r) in
    let c4 = check (at + 48 + length s.bytes) (not (are_zeros r.padding)) in
    joined_none (name_checks at false (map sealed_name earlier) r.name) (c1 ∷ c2 ∷ c3 ∷ c4 ∷ [])
    (name_passes at false (map sealed_name earlier) s.name h.named new refl)
    (next_none c1 (c2 ∷ c3 ∷ c4 ∷ []) (inside 1 MOST_BYTES s.length h.sized)
    (next_none c2 (c3 ∷ c4 ∷ []) (inside 13 15 s.seal h.seal)
    (next_none c3 (c4 ∷ []) (ap₂ (λ a b. a || b) (inside 1 MOST_BYTES (length s.bytes) h.few) (le-ltb s.length (length s.bytes) h.fits))
    (one_none (at + 48 + length s.bytes) (not (are_zeros r.padding)) (ap not (zeros_are (padding_after (length s.bytes))))))))

pub sealed_pass : (at : ℕ) (ss : List SealedPart) → AllByRecursion SealedGood ss → New [] (map sealed_title ss) → first (walked sealed_limits sealed_size at [] (map raw_sealed ss)) ≡ None
unfolding sealed_title
sealed_pass at ss good new =
    walk_along raw_sealed (λ before (s : SealedPart). SealedGood s × (among s.name (map sealed_name before) ≡ false)) sealed_limits sealed_size
    (λ place before s k. sealed_passes place before s k.0 k.1) at [] ss
    (along_both raw_sealed (λ before s. SealedGood s) (λ before (s : SealedPart). among s.name (map sealed_name before) ≡ false) [] ss
    (along_all raw_sealed SealedGood [] ss good)
    (along_new raw_sealed sealed_name sealed_title [] [] ss refl (sealed_back ss good) new))

-- ---- threads

unfoldable pub thread_title : ThreadPart → List ℕ
thread_title t = t.name

pub record ThreadGood (t : ThreadPart) : Type 0 where
  pub named : is_name t.name ≡ true
  pub stack : IsWithin 256 32768 t.stack_length
  pub priority : t.priority ≤ 15
  pub frames : IsWithin 1 96 t.frames

pub threads_good : (d : DescRow) (end : ℕ) (rest : List ℕ) (ts : List DescThread) → AllByRecursion (IsLawfulThread d) ts → AllByRecursion (λ n. is_name n ≡ true) (map (λ (t : DescThread). t.name) ts)
    → AllByRecursion ThreadGood (thread_parts d (placed end (map (λ (t : DescThread). t.stack) ts ++ rest)) ts)
unfolding thread_parts placed
threads_good d end rest [] h names = tt
threads_good d end rest (t ∷ ts) h names =
    let low = h.0.stack.0 in
    let fits = size_fits t.stack in (
      record { named = names.0; stack = (omega (arith, low, fits), stack_kept t.stack h.0.stack.1); priority = h.0.priority; frames = h.0.frames },
      threads_good d (region_base end t.stack + region_length t.stack) rest ts h.1 names.1,
    )

pub thread_titles : (d : DescRow) (regions : List Region) (ts : List DescThread) → map thread_title (thread_parts d regions ts) ≡ map (λ (t : DescThread). t.name) ts
unfolding thread_parts thread_title
thread_titles d regions [] = refl
thread_titles d regions (t ∷ ts) = ap (λ l. t.name ∷ l) (thread_titles d (drop 1 regions) ts)

threads_back : (ts : List ThreadPart) → AllByRecursion ThreadGood ts → AllByRecursion (λ t. thread_name (raw_thread t) ≡ thread_title t) ts
unfolding thread_title
threads_back [] h = tt
threads_back (t ∷ ts) h = (name_back t.name (name_is t.name h.0.named), threads_back ts h.1)

thread_passes : (r : RawImage) (at : ℕ) (earlier : List RawThread) (t : ThreadPart) → ThreadGood t → among t.name (raw_owner_names r ++ map thread_name earlier) ≡ false → first (thread_limits r at earlier (raw_thread t)) ≡ None
unfolding thread_limits_by
thread_passes r at earlier t h new =
    let seen = raw_owner_names r ++ map thread_name earlier in
    let c1 = check (at + 36) (outside 256 32768 t.stack_length) in
    let c2 = check (at + 48) (nat_lt 15 t.priority) in
    let c3 = check (at + 52) (outside 1 96 t.frames) in
    joined_none (name_checks at false seen (raw_thread t).name) (c1 ∷ c2 ∷ c3 ∷ [])
    (name_passes at false seen t.name h.named new refl)
    (next_none c1 (c2 ∷ c3 ∷ []) (inside 256 32768 t.stack_length h.stack)
    (next_none c2 (c3 ∷ []) (le-ltb 15 t.priority h.priority)
    (one_none (at + 52) (outside 1 96 t.frames) (inside 1 96 t.frames h.frames))))

pub threads_pass : (r : RawImage) (at : ℕ) (ts : List ThreadPart) → AllByRecursion ThreadGood ts → New (raw_owner_names r) (map thread_title ts) → first (walked (thread_limits r) (λ t. THREAD) at [] (map raw_thread ts)) ≡ None
unfolding thread_title
threads_pass r at ts good new =
    walk_along raw_thread (λ before (t : ThreadPart). ThreadGood t × (among t.name (raw_owner_names r ++ map thread_name before) ≡ false)) (thread_limits r) (λ t. THREAD)
    (λ place before t k. thread_passes r place before t k.0 k.1) at [] ts
    (along_both raw_thread (λ before t. ThreadGood t) (λ before (t : ThreadPart). among t.name (raw_owner_names r ++ map thread_name before) ≡ false) [] ts
    (along_all raw_thread ThreadGood [] ts good)
    (along_after raw_thread thread_name thread_title (raw_owner_names r) [] [] ts refl (threads_back ts good) (subst (λ l. New l (map thread_title ts)) (sym (append-nil (raw_owner_names r))) new)))
