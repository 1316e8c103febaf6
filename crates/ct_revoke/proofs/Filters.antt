-- The load filter over memory whose marks are the same.
use Rattle.std.proofs.Common.{ℕ, ◌≡◌, ◌-◌, ◌/◌, ◌&&◌, Bool, true, false, nat_le, cond, List, refl, sym, ap, ◌∙◌}
use Rattle.std.proofs.lemmas.Bool.{both_ways}
use Rattle.def_words.specs.declared.Cap.{Cap}
use Rattle.def_words.specs.Authority.{cap_base}
use Rattle.def_words.specs.Capability.{untagged}
use Rattle.def_memory.specs.declared.Granule.{Granule}
use Rattle.def_memory.specs.Granules.{granule_at}
use Rattle.def_machine.specs.Memory.{filtered_in, is_marked_in}

-- two lists of granules have the same marks
abbrev pub SameMarks : List Granule → List Granule → Type 0
SameMarks gs hs = (k : ℕ) → (granule_at gs k).mark ≡ (granule_at hs k).mark

pub marked_alike : (ram : ℕ) (gs hs : List Granule) (x : ℕ) → SameMarks gs hs → is_marked_in ram gs x ≡ is_marked_in ram hs x
marked_alike ram gs hs x same = ap (λ b. nat_le ram x && b) (same ((x - ram) / 8))

pub filters_alike : (ram : ℕ) (gs hs : List Granule) (c : Cap) → SameMarks gs hs → filtered_in ram gs c ≡ filtered_in ram hs c
filters_alike ram gs hs c same = ap (λ b. cond (c.tag && b) (untagged c) c) (marked_alike ram gs hs (cap_base c) same)

-- what is untagged passes as it is
pub untagged_passes : (ram : ℕ) (gs : List Granule) (c : Cap) → c.tag ≡ false → filtered_in ram gs c ≡ c
untagged_passes ram gs c none = ap (λ b. cond (b && is_marked_in ram gs (cap_base c)) (untagged c) c) none

by_test : (b : Bool) (c : Cap) → (cond b (untagged c) c).tag ≡ true → b ≡ false
by_test true c h = absurd (both_ways false refl h)
by_test false c h = refl

-- what keeps its tag is the same, and its base lies in no marked granule
pub passes_same : (ram : ℕ) (gs : List Granule) (c : Cap) → (filtered_in ram gs c).tag ≡ true → filtered_in ram gs c ≡ c
passes_same ram gs c h = ap (λ b. cond b (untagged c) c) (by_test (c.tag && is_marked_in ram gs (cap_base c)) c h)

and_open : (a b : Bool) → a ≡ true → (a && b) ≡ false → b ≡ false
and_open true b h not = not
and_open false b h not = absurd (both_ways false refl h)

pub passes_clean : (ram : ℕ) (gs : List Granule) (c : Cap) → (filtered_in ram gs c).tag ≡ true → is_marked_in ram gs (cap_base (filtered_in ram gs c)) ≡ false
passes_clean ram gs c h =
    let same : filtered_in ram gs c ≡ c = passes_same ram gs c h in
    let tag : c.tag ≡ true = ap (λ (d : Cap). d.tag) (sym same) ∙ h in
    let not : (c.tag && is_marked_in ram gs (cap_base c)) ≡ false = by_test (c.tag && is_marked_in ram gs (cap_base c)) c h in
    let clear : is_marked_in ram gs (cap_base c) ≡ false = and_open c.tag (is_marked_in ram gs (cap_base c)) tag not in
    ap (λ (d : Cap). is_marked_in ram gs (cap_base d)) same ∙ clear
