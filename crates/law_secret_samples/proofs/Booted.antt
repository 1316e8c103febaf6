-- What the images boot: one machine, and states that differ in the secret alone, which the prowler's thread doesn't see.
use Rattle.std.proofs.Common.{ℕ, zero, suc, ◌≡◌, ◌+◌, ◌-◌, ◌*◌, ◌%◌, ◌<◌, ◌≤◌, ◌&&◌, inl, inr, true, false, nat_le, nat_lt, List, [], ◌∷◌, Option, Some, None, refl, sym, ap, ◌∙◌, subst, arith, slice_set}
use Rattle.std.proofs.lemmas.Bool.{leb-true, ltb-true}
use Rattle.law_lists.proofs.Tests.{both_left, both_right, chosen, lt_tells}
use Rattle.ct_entry.specs.declared.rows.Kind.TheVariants as kind
use Rattle.ct_entry.specs.Listed.{Listed}
use Rattle.def_words.specs.declared.Cap.{Cap}
use Rattle.def_words.specs.LeastBounds.{exponent_for}
use Rattle.def_words.specs.Permissions.{bit}
use Rattle.def_memory.specs.declared.Granule.{Granule}
use Rattle.def_memory.specs.Accesses.{byte_at, byte_of, with_part}
use Rattle.def_memory.specs.Granules.{granule_at, plain}
use Rattle.def_reach.specs.Roots.{Listing, root_of}
use Rattle.def_machine.specs.Image.{Image, Region, Fixed, Globals, root, stack_base}
use Rattle.def_machine.specs.Memory.{bytes_stored}
use Rattle.def_machine.specs.State.{Frame}
use Rattle.def_image.specs.Regions.{RegionRow, regions_of}
use Rattle.def_image.specs.Spelling.{raw_of}
use Rattle.def_boot.specs.Boot.{boot_state, image_of, platform_of, bases_of}
use Rattle.def_boot.specs.Contents.{boot_cap, boot_granule, boot_granules, content, content_at, covers, granules_from, part, part_at, parts_from, region_at, region_in, word_from_bytes}
use Rattle.def_boot.specs.Entries.{entry_rows}
use Rattle.def_boot.specs.Gates.{entries_of, gates_of}
use Rattle.def_boot.specs.Made.{caps_at_boot}
use Rattle.def_step.specs.Instructions.{actor_of}
use Rattle.def_secrecy.specs.View.{InView, ReadsThrough, SeesDevice, UnseenBytes}
use Rattle.def_secrecy.specs.Others.{ApartInReport, InStack}
use Rattle.law_secret_samples.specs.Walls.{secret_at, walls}
use Rattle.law_secret_samples.proofs.AnyBoot.{booting, with_boot}
use Rattle.law_secret_samples.proofs.Rows.{ProwlersOwn, KeepersOwn, reads, stores, no_device, no_limit}

-- ---- one machine

regions_same : (n m : ℕ) → regions_of (walls m) ≡ regions_of (walls n)
unfolding regions_of raw_of
regions_same n m = refl

part_at_same : (n m : ℕ) (o : Option RegionRow) (x : ℕ) → part_at (walls m) o x ≡ part_at (walls n) o x
part_at_same n m None x = refl
part_at_same n m (Some r) x = refl

part_same : (n m x : ℕ) → part (walls m) x ≡ part (walls n) x
unfolding part region_at
part_same n m x = ap (λ (rs : List RegionRow). part_at (walls m) (region_in rs x) x) (regions_same n m) ∙ part_at_same n m (region_in (regions_of (walls n)) x) x

parts_same : (n m x k : ℕ) → parts_from (walls m) x k ≡ parts_from (walls n) x k
parts_same n m x zero = refl
parts_same n m x (suc k) = ap (λ (r : Region). r ∷ parts_from (walls m) (x + 8) k) (part_same n m x) ∙ ap (λ (rs : List Region). part (walls n) x ∷ rs) (parts_same n m (x + 8) k)

entries_same : (n m : ℕ) → entries_of (walls m) ≡ entries_of (walls n)
unfolding entries_of entry_rows gates_of
entries_same n m = refl

caps_same : (n m : ℕ) → caps_at_boot (walls m) ≡ caps_at_boot (walls n)
unfolding caps_at_boot entry_rows
caps_same n m = refl

image_same : (n m : ℕ) → image_of (walls m) ≡ booting (boot_granules (walls m)) (image_of (walls n))
unfolding image_of
image_same n m =
    ap (λ (e : Listed). record (image_of (walls m)) { entries = e }) (entries_same n m)
    ∙ ap (λ (c : List Cap). record (image_of (walls m)) { entries = entries_of (walls n); made = c }) (caps_same n m)
    ∙ ap (λ (rs : List Region). record (image_of (walls m)) { entries = entries_of (walls n); made = caps_at_boot (walls n); regions = rs }) (parts_same n m 0x80000000 144)

pub platform_same : (n m : ℕ) → platform_of (walls m) ≡ with_boot (boot_granules (walls m)) (platform_of (walls n))
platform_same n m = ap (λ (i : Image). record { image = i; bases = bases_of (walls n) }) (image_same n m)

-- ---- the secret alone differs

abbrev word_of : ℕ → ℕ
word_of n = word_from_bytes (n ∷ []) 0

-- each region that has the address holds the same there
abbrev SameIn : ℕ → ℕ → ℕ → List RegionRow → Type 0
SameIn n m x [] = Unit {0}
SameIn n m x (r ∷ rs) = (covers x r ≡ true → content (walls m) r.holder (x - r.base) ≡ content (walls n) r.holder (x - r.base)) × SameIn n m x rs

found_same : (n m x : ℕ) (rs : List RegionRow) → SameIn n m x rs → content_at (walls m) (region_in rs x) x ≡ content_at (walls n) (region_in rs x) x
found_same n m x [] h = refl
found_same n m x (r ∷ rs) h = chosen (λ (o : Option RegionRow). content_at (walls m) o x ≡ content_at (walls n) o x) (covers x r) (Some r) (region_in rs x) (λ is. h.0 is) (λ not. found_same n m x rs h.1)

-- of the keeper's globals the granule after the secret's
globals_same : (n m x : ℕ) → x % 8 ≡ 0 → (x ≡ secret_at → ⊥) → (nat_le 0x800000a0 x && nat_lt x 0x800000b0) ≡ true → plain (word_from_bytes (m ∷ []) (x - 0x800000a0)) ≡ plain (word_from_bytes (n ∷ []) (x - 0x800000a0))
globals_same n m x even other inside =
    let low = leb-true 0x800000a0 x (both_left (nat_le 0x800000a0 x) (nat_lt x 0x800000b0) inside) in
    let high = ltb-true x 0x800000b0 (both_right (nat_le 0x800000a0 x) (nat_lt x 0x800000b0) inside) in
    elim (lt_tells x 0x800000a8) [
      | inl before ↦ (let less = before.1 in absurd (other (omega (arith, even, low, less))))
      | inr from ↦
          let least = from.1 in
          let is : 0x800000a8 ≡ x = omega (arith, even, least, high) in
          subst (λ y. plain (word_from_bytes (m ∷ []) (y - 0x800000a0)) ≡ plain (word_from_bytes (n ∷ []) (y - 0x800000a0))) is refl
    ]

all_same : (n m x : ℕ) → x % 8 ≡ 0 → (x ≡ secret_at → ⊥) → SameIn n m x (regions_of (walls n))
unfolding regions_of raw_of caps_at_boot entry_rows
all_same n m x even other = (λ is. refl, (λ is. refl, (λ is. refl, (λ is. refl, (λ is. refl, (λ is. refl, (λ is. globals_same n m x even other is, (λ is. refl, (λ is. refl, tt)))))))))

granule_same : (n m x : ℕ) → x % 8 ≡ 0 → (x ≡ secret_at → ⊥) → boot_granule (walls m) x ≡ boot_granule (walls n) x
unfolding boot_cap region_at
granule_same n m x even other =
    ap (λ (c : Cap). record { cap = c; mark = false })
    (ap (λ (rs : List RegionRow). content_at (walls m) (region_in rs x) x) (regions_same n m) ∙ found_same n m x (regions_of (walls n)) (all_same n m x even other))

-- past the secret all is the same; and before it
granules_after : (n m x k : ℕ) → x % 8 ≡ 0 → secret_at < x → granules_from (walls m) x k ≡ granules_from (walls n) x k
granules_after n m x zero even past = refl
granules_after n m x (suc k) even past =
    ap (λ (g : Granule). g ∷ granules_from (walls m) (x + 8) k) (granule_same n m x even (λ is. omega (arith, past, is)))
    ∙ ap (λ (hs : List Granule). boot_granule (walls n) x ∷ hs) (granules_after n m (x + 8) k (omega (arith, even)) (omega (arith, past)))

granules_set : (n m x i k : ℕ) → x % 8 ≡ 0 → x + 8 * i ≡ secret_at → i < k → granules_from (walls m) x k ≡ slice_set (granules_from (walls n) x k) i (boot_granule (walls m) secret_at)
granules_set n m x i zero even at few = absurd (omega (arith, few))
granules_set n m x zero (suc k) even at few =
    ap (λ y. boot_granule (walls m) y ∷ granules_from (walls m) (x + 8) k) (let is : x ≡ secret_at = omega (arith, at) in is)
    ∙ ap (λ (hs : List Granule). boot_granule (walls m) secret_at ∷ hs) (granules_after n m (x + 8) k (omega (arith, even)) (omega (arith, at)))
granules_set n m x (suc i) (suc k) even at few =
    ap (λ (g : Granule). g ∷ granules_from (walls m) (x + 8) k) (granule_same n m x even (λ is. omega (arith, at, is)))
    ∙ ap (λ (hs : List Granule). boot_granule (walls n) x ∷ hs) (granules_set n m (x + 8) i k (omega (arith, even)) (omega (arith, at)) (omega (arith, few)))

boots_set : (n m : ℕ) → boot_granules (walls m) ≡ slice_set (boot_granules (walls n)) 20 (boot_granule (walls m) secret_at)
unfolding boot_granules
boots_set n m = granules_set n m 0x80000000 20 144 (omega arith) (omega arith) (omega arith)

abbrev holding : ℕ → Granule
holding word = record { cap = plain word; mark = false }

secret_granule : (n : ℕ) → boot_granule (walls n) secret_at ≡ holding (word_of n)
unfolding boot_cap region_at regions_of raw_of exponent_for
secret_granule n = refl

secret_there : (n : ℕ) → granule_at (boot_granules (walls n)) 20 ≡ holding (word_of n)
unfolding boot_granules boot_cap region_at regions_of raw_of exponent_for
secret_there n = refl

part_is : (n m : ℕ) → n < 256 → m < 256 → word_of m ≡ with_part (word_of n) 0 1 m
part_is n m few less = omega (arith, few, less)

-- what is stored over the secret's granule
abbrev put : ℕ → Granule → Granule
put m g = record { cap = plain (with_part g.cap.word 0 1 m); mark = g.mark }

put_is : (n m : ℕ) → n < 256 → m < 256 → boot_granule (walls m) secret_at ≡ put m (granule_at (boot_granules (walls n)) 20)
put_is n m few less = secret_granule m ∙ ap holding (part_is n m few less) ∙ ap (put m) (sym (secret_there n))

others_same : (n m : ℕ) → boot_state (walls m) ≡ record (boot_state (walls n)) { granules = boot_granules (walls m) }
unfolding boot_state caps_at_boot entry_rows
others_same n m = refl

pub boot_is : (n m : ℕ) → n < 256 → m < 256 → boot_state (walls m) ≡ bytes_stored (image_of (walls n)) (boot_state (walls n)) secret_at 1 m
unfolding boot_state image_of
boot_is n m few less = others_same n m ∙ ap (λ (hs : List Granule). record (boot_state (walls n)) { granules = hs }) (boots_set n m ∙ ap (λ (g : Granule). slice_set (boot_granules (walls n)) 20 g) (put_is n m few less))

secret_byte : (n : ℕ) → n < 256 → byte_of (word_of n) 0 ≡ n
secret_byte n small = omega (arith, small)

pub secret_is : (n : ℕ) → n < 256 → byte_at (boot_state (walls n)).granules (secret_at - (walls n).ram) ≡ n
unfolding boot_state
secret_is n small = ap (λ (g : Granule). byte_of g.cap.word 0) (secret_there n) ∙ secret_byte n small

-- ---- and isn't seen

first_stack : (n x : ℕ) → InStack (image_of (walls n)) 0 x → (0x800000b0 ≤ x) × (x < 0x800001b0)
unfolding image_of entries_of entry_rows root_of
first_stack n x h = h

second_stack : (n x : ℕ) → InStack (image_of (walls n)) 1 x → (0x800001b0 ≤ x) × (x < 0x800002b0)
unfolding image_of entries_of entry_rows root_of
second_stack n x h = h

first_base : (n : ℕ) → stack_base (image_of (walls n)) 0 ≡ 0x800000b0
unfolding image_of entries_of entry_rows root_of
first_base n = refl

not_secret : (y : ℕ) → secret_at ≤ y → y < secret_at + 1 → ProwlersOwn y → ⊥
not_secret y low high (inl own) = (let up = own.1 in omega (arith, low, up))
not_secret y low high (inr own) = (let up = own.1 in omega (arith, low, up))

secret_unseen : (n y : ℕ) → secret_at ≤ y → y < secret_at + 1 → InView (image_of (walls n)) (boot_state (walls n)) 0 y → ⊥
unfolding boot_state
secret_unseen n y low high (inl entry) = not_secret y low high (reads n entry.0 y entry.1)
secret_unseen n y low high (inr (inl object)) = absurd object
secret_unseen n y low high (inr (inr stack)) = (let base = first_base n in let from = stack.0 in omega (arith, base, from, high))

pub unseen : (n : ℕ) → UnseenBytes (image_of (walls n)) (boot_state (walls n)) 0 secret_at 1
unfolding image_of boot_state part region_at regions_of exponent_for
unseen n = record {
  inside = omega arith;
  some = omega arith;
  changing = λ e. absurd (let clash : Globals 1 ≡ Fixed = e in cc);
  free = refl;
  unseen = λ y low high seen. secret_unseen n y low high seen;
}

-- what it does see: its globals, for one
pub own_seen : (n x : ℕ) → 0x80000040 ≤ x → x < 0x80000050 → InView (image_of (walls n)) (boot_state (walls n)) 0 x
unfolding image_of entries_of entry_rows root_of boot_state bit
own_seen n x low high = inl (
  2,
  record {
    no_stack = refl;
    reached = λ owned. record { by = 0; through = []; imports = refl; joined = record { members = []; leads = refl } };
    may = inl refl;
    low = low;
    high = high;
  },
)

-- ---- and the two are apart

disjoint : (x : ℕ) → ProwlersOwn x → KeepersOwn x → ⊥
disjoint x (inl a) (inl b) = (let up = a.1 in let low = b.0 in omega (arith, up, low))
disjoint x (inl a) (inr b) = (let low = a.0 in let up = b.1 in omega (arith, up, low))
disjoint x (inr a) (inl b) = (let up = a.1 in let low = b.0 in omega (arith, up, low))
disjoint x (inr a) (inr b) = (let up = a.1 in let low = b.0 in omega (arith, up, low))

in_no_stack : (x low : ℕ) → 0x800000b0 ≤ low → low ≤ x → ProwlersOwn x → ⊥
in_no_stack x low h from (inl a) = (let up = a.1 in omega (arith, up, h, from))
in_no_stack x low h from (inr a) = (let up = a.1 in omega (arith, up, h, from))

not_in_first : (x : ℕ) → 0x800000b0 ≤ x → x < 0x800001b0 → KeepersOwn x → ⊥
not_in_first x low high (inl a) = (let up = a.1 in omega (arith, up, low))
not_in_first x low high (inr a) = (let up = a.1 in omega (arith, up, low))

stacks_stand : (n : ℕ) → ((root (image_of (walls n)) 10).origin ≡ Listing kind.Stack) × ((root (image_of (walls n)) 11).origin ≡ Listing kind.Stack)
unfolding image_of entries_of entry_rows root_of
stacks_stand n = (refl, refl)

pub apart : (n : ℕ) → ApartInReport (image_of (walls n)) 0 0 1 1
unfolding image_of
apart n = record {
  stacks = stacks_stand n;
  entries = λ k l x read store. disjoint x (reads n k x read) (stores n l x store);
  other_stack = λ k x read inside. in_no_stack x 0x800001b0 (omega arith) (second_stack n x inside).0 (reads n k x read);
  own_stack = λ l x store inside. not_in_first x (first_stack n x inside).0 (first_stack n x inside).1 (stores n l x store);
  quotas = λ q limit may other. (let none = no_limit n q in omega (arith, limit, none));
}

pub sees_no_device : (n m : ℕ) (fs : List Frame) → actor_of fs ≡ 0 → SeesDevice (platform_of (walls n)) fs m → ⊥
sees_no_device n m fs first h = no_device n h.entry h.address (subst (λ d. ReadsThrough (image_of (walls n)) d h.entry h.address) first h.reads) h.is_device
