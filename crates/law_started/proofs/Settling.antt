-- What boot makes is settled: what is untagged has no root and no source.
use Rattle.std.proofs.Common.{ℕ, zero, suc, ◌+◌, ◌-◌, ◌*◌, ◌/◌, ◌%◌, ◌==◌, nat_lt, List, [], ◌∷◌, length, slice_get, slice_index_or, Option, Some, None, if◌then◌else◌}
use Rattle.law_lists.proofs.Tests.{chosen}
use Rattle.ct_entry.specs.declared.rows.Owner.{Owner}
use Rattle.ct_entry.specs.declared.rows.Owner.TheVariants.{Trusted, Compartment, Library, Thread}
use Rattle.def_profile.specs.declared.layout.TheConstants.{GRANULE, SLOT_SIZE, TABLE_HEAD, TABLE_ROW}
use Rattle.def_words.specs.declared.Cap.{Cap}
use Rattle.def_words.specs.Capability.{IsSettled}
use Rattle.def_memory.specs.Granules.{plain, nothing}
use Rattle.def_machine.specs.State.{nobody}
use Rattle.def_confined.specs.Settled.{ThreadSettled, Settled}
use Rattle.def_image.specs.Parts.{CodeRow, ThreadRow, PartsRow}
use Rattle.def_image.specs.Members.{compartment, library, sealed, code_number, globals_number, library_number, stack_number}
use Rattle.def_image.specs.Regions.{Holder, CodeOf, TableOf, GlobalsOf, SharedOf, SealedOf, StackOf, TrustedPart, RegionRow}
use Rattle.def_boot.specs.Made.{boot_cap_of, return_sentry}
use Rattle.def_boot.specs.Contents.{word_from_bytes, gate_word, code_content, owned_content, table_content, content, content_at, region_at, boot_cap, granules_from, granules_in, boot_granules}
use Rattle.def_boot.specs.Boot.{first_thread, first_threads, thread_entry_address, boot_state}
use Rattle.law_words.proofs.Away.{address_settles}
use Rattle.law_boot.proofs.Settling.{made_settled, sentry_settled}
use Rattle.law_routines.proofs.Events.{nobody_settled, sixteen}
use Rattle.law_granules.proofs.Lists.{plain_settled}

-- ---- what stands in RAM

code_content_settled : (p : PartsRow) (first : ℕ) (c : CodeRow) (k : ℕ) → IsSettled (code_content p first c k)
code_content_settled p first c k = chosen IsSettled (nat_lt k (SLOT_SIZE * length c.slots)) (boot_cap_of p (first + k / SLOT_SIZE)) (plain (word_from_bytes c.text (k - SLOT_SIZE * length c.slots)))
    (λ slot. made_settled p (first + k / SLOT_SIZE)) (λ text. plain_settled (word_from_bytes c.text (k - SLOT_SIZE * length c.slots)))

owned_settled : (p : PartsRow) (o : Owner) (k : ℕ) → IsSettled (owned_content p o k)
owned_settled p Trusted k = plain_settled 0
owned_settled p (Compartment b) k = code_content_settled p (code_number p b + 2) (compartment p b).code k
owned_settled p (Library l) k = code_content_settled p (library_number p l + 1) (library p l) k
owned_settled p (Thread t) k = plain_settled 0

table_settled : (p : PartsRow) (b k : ℕ) → IsSettled (table_content p b k)
table_settled p b k =
    let word : ℕ = gate_word (slice_get (compartment p b).code.exports ((k - TABLE_HEAD) / TABLE_ROW)) ((k - TABLE_HEAD) % TABLE_ROW) in
    let row : Cap = plain word in
    chosen IsSettled (k == 0) (boot_cap_of p (code_number p b)) (if k == GRANULE then boot_cap_of p (globals_number p b) else row)
    (λ code. made_settled p (code_number p b))
    (λ other. chosen IsSettled (k == GRANULE) (boot_cap_of p (globals_number p b)) row
    (λ globals. made_settled p (globals_number p b)) (λ none. plain_settled word))

content_settled : (p : PartsRow) (h : Holder) (k : ℕ) → IsSettled (content p h k)
content_settled p (CodeOf o) k = owned_settled p o k
content_settled p (TableOf b) k = table_settled p b k
content_settled p (GlobalsOf b) k = plain_settled (word_from_bytes (compartment p b).initial k)
content_settled p (SharedOf n) k = plain_settled 0
content_settled p (SealedOf n) k = plain_settled (word_from_bytes (sealed p n).bytes k)
content_settled p (StackOf t) k = plain_settled 0
content_settled p TrustedPart k = chosen IsSettled (k == 0) return_sentry (plain 0) (λ is. sentry_settled) (λ not. plain_settled 0)

at_settled : (p : PartsRow) (r : Option RegionRow) (x : ℕ) → IsSettled (content_at p r x)
at_settled p None x = plain_settled 0
at_settled p (Some r) x = content_settled p r.holder (x - r.base)

cap_settled : (p : PartsRow) (x : ℕ) → IsSettled (boot_cap p x)
unfolding boot_cap
cap_settled p x = at_settled p (region_at p x) x

granules_settled : (p : PartsRow) (x n k : ℕ) → IsSettled (slice_index_or (granules_from p x n) k nothing).cap
granules_settled p x zero k = plain_settled 0
granules_settled p x (suc n) zero = cap_settled p x
granules_settled p x (suc n) (suc k) = granules_settled p (x + GRANULE) n k

-- ---- threads

first_settled : (p : PartsRow) (n : ℕ) (t : ThreadRow) → ThreadSettled (first_thread p n t)
first_settled p n t =
    let none : IsSettled (plain 0) = plain_settled 0 in
    record {
      pcc = address_settles (boot_cap_of p (code_number p t.compartment)) (thread_entry_address p t);
      registers = sixteen IsSettled _ _ _ _ _ _ _ _ _ _ _ _ _ _ _ _ none sentry_settled (made_settled p (stack_number p n)) (made_settled p (globals_number p t.compartment)) none none none none none none none none none none none none none;
      frames = (record { c1 = none; c2 = none; c3 = none; c8 = none; c9 = none }, tt);
    }

threads_settled : (p : PartsRow) (n : ℕ) (ts : List ThreadRow) (u : ℕ) → ThreadSettled (slice_index_or (first_threads p n ts) u nobody)
threads_settled p n [] u = nobody_settled
threads_settled p n (t ∷ ts) zero = first_settled p n t
threads_settled p n (t ∷ ts) (suc u) = threads_settled p (n + 1) ts u

pub boot_settles : (p : PartsRow) → Settled (boot_state p)
unfolding boot_state boot_granules
boot_settles p = record {
  granules = λ k. granules_settled p p.ram (granules_in p) k;
  threads = λ u. threads_settled p 0 p.threads u;
}
