-- What boot makes is no token: what holds of plain values, of what boot makes for entries and of a start holds everywhere.
use Rattle.std.proofs.Common.{ℕ, zero, suc, ◌≡◌, ◌+◌, ◌-◌, ◌*◌, ◌/◌, ◌%◌, ◌==◌, true, false, nat_lt, List, [], ◌∷◌, length, slice_get, slice_index_or, Option, Some, None, arith, if◌then◌else◌}
use Rattle.law_lists.proofs.Tests.{chosen}
use Rattle.ct_entry.specs.declared.rows.Owner.{Owner}
use Rattle.ct_entry.specs.declared.rows.Owner.TheVariants.{Trusted, Compartment, Library, Thread}
use Rattle.def_profile.specs.declared.layout.TheConstants.{GRANULE, SLOT_SIZE, TABLE_HEAD, TABLE_ROW}
use Rattle.def_words.specs.declared.Cap.{Cap}
use Rattle.def_memory.specs.Granules.{plain, nothing}
use Rattle.def_machine.specs.State.{nobody, thread}
use Rattle.def_safety.specs.Everywhere.{ThreadHas, Everywhere}
use Rattle.def_safety.specs.Tokened.{KeysShut, TokenFits, Tokened}
use Rattle.def_image.specs.Parts.{CodeRow, ThreadRow, PartsRow}
use Rattle.def_image.specs.Sound.{Sound}
use Rattle.def_image.specs.Members.{compartment, library, sealed, code_number, globals_number, library_number, stack_number}
use Rattle.def_image.specs.Regions.{Holder, CodeOf, TableOf, GlobalsOf, SharedOf, SealedOf, StackOf, TrustedPart, RegionRow}
use Rattle.def_boot.specs.Made.{caps_at_boot, boot_cap_of, return_sentry}
use Rattle.def_boot.specs.Contents.{word_from_bytes, gate_word, code_content, owned_content, table_content, content, content_at, region_at, boot_cap, granules_from, granules_in, boot_granules}
use Rattle.def_boot.specs.Boot.{first_thread, first_threads, boot_state, image_of}
use Rattle.law_boot.proofs.Clauses.{no_token}
use Rattle.law_routines.proofs.Events.{sixteen}
use Rattle.law_started.proofs.Whole.{confined}

-- what holds of plain values and of each entry's capability
pub record Begins (P : Cap → Type 0) (p : PartsRow) : Type 0 where
  pub none : (n : ℕ) → P (plain n)
  pub made : (n : ℕ) → P (boot_cap_of p n)

module _ (P : Cap → Type 0) (p : PartsRow) (b : Begins P p) where
  sentry_has : P return_sentry
  unfolding caps_at_boot
  sentry_has = b.made 0

  code_content_has : (first : ℕ) (c : CodeRow) (k : ℕ) → P (code_content p first c k)
  code_content_has first c k = chosen P (nat_lt k (SLOT_SIZE * length c.slots)) (boot_cap_of p (first + k / SLOT_SIZE)) (plain (word_from_bytes c.text (k - SLOT_SIZE * length c.slots)))
      (λ slot. b.made (first + k / SLOT_SIZE)) (λ text. b.none (word_from_bytes c.text (k - SLOT_SIZE * length c.slots)))

  owned_has : (o : Owner) (k : ℕ) → P (owned_content p o k)
  owned_has Trusted k = b.none 0
  owned_has (Compartment c) k = code_content_has (code_number p c + 2) (compartment p c).code k
  owned_has (Library l) k = code_content_has (library_number p l + 1) (library p l) k
  owned_has (Thread t) k = b.none 0

  table_has : (c k : ℕ) → P (table_content p c k)
  table_has c k =
      let word : ℕ = gate_word (slice_get (compartment p c).code.exports ((k - TABLE_HEAD) / TABLE_ROW)) ((k - TABLE_HEAD) % TABLE_ROW) in
      let row : Cap = plain word in
      chosen P (k == 0) (boot_cap_of p (code_number p c)) (if k == GRANULE then boot_cap_of p (globals_number p c) else row)
      (λ code. b.made (code_number p c))
      (λ other. chosen P (k == GRANULE) (boot_cap_of p (globals_number p c)) row (λ globals. b.made (globals_number p c)) (λ none. b.none word))

  content_has : (h : Holder) (k : ℕ) → P (content p h k)
  content_has (CodeOf o) k = owned_has o k
  content_has (TableOf c) k = table_has c k
  content_has (GlobalsOf c) k = b.none (word_from_bytes (compartment p c).initial k)
  content_has (SharedOf n) k = b.none 0
  content_has (SealedOf n) k = b.none (word_from_bytes (sealed p n).bytes k)
  content_has (StackOf t) k = b.none 0
  content_has TrustedPart k = chosen P (k == 0) return_sentry (plain 0) (λ is. sentry_has) (λ not. b.none 0)

  at_has : (r : Option RegionRow) (x : ℕ) → P (content_at p r x)
  at_has None x = b.none 0
  at_has (Some r) x = content_has r.holder (x - r.base)

  cap_has : (x : ℕ) → P (boot_cap p x)
  unfolding boot_cap
  cap_has x = at_has (region_at p x) x

  granules_have : (x n k : ℕ) → P (slice_index_or (granules_from p x n) k nothing).cap
  granules_have x zero k = b.none 0
  granules_have x (suc n) zero = cap_has x
  granules_have x (suc n) (suc k) = granules_have (x + GRANULE) n k

  first_has : (n : ℕ) (t : ThreadRow) → P (first_thread p n t).pcc → ThreadHas P (first_thread p n t)
  first_has n t pcc =
      let none : P (plain 0) = b.none 0 in
      record {
        pcc = pcc;
        registers = sixteen P _ _ _ _ _ _ _ _ _ _ _ _ _ _ _ _ none sentry_has (b.made (stack_number p n)) (b.made (globals_number p t.compartment)) none none none none none none none none none none none none none;
        frames = (record { c1 = none; c2 = none; c3 = none; c8 = none; c9 = none }, tt);
      }

  threads_have : (n : ℕ) (ts : List ThreadRow) (u : ℕ) → P (slice_index_or (first_threads p n ts) u nobody).pcc → ThreadHas P (slice_index_or (first_threads p n ts) u nobody)
  threads_have n [] u pcc = record { pcc = pcc; registers = λ m. b.none 0; frames = tt }
  threads_have n (t ∷ ts) zero pcc = first_has n t pcc
  threads_have n (t ∷ ts) (suc u) pcc = threads_have (n + 1) ts u pcc

  pub boot_has : ((u : ℕ) → P (thread (boot_state p) u).pcc) → Everywhere P (boot_state p)
  unfolding boot_state boot_granules
  boot_has counters = record {
    granules = λ k. granules_have p.ram (granules_in p) k;
    threads = λ u. threads_have 0 p.threads u (counters u);
  }

-- ---- no token

module _ (p : PartsRow) (s : Sound p) where
  no_tokens : Begins (TokenFits (image_of p) [] []) p
  unfolding image_of
  no_tokens = record {
    none = λ n tagged. absurd (let clash : false ≡ true = tagged in cc);
    made = λ n tagged is. absurd (no_token p s n is);
  }

  no_keys : Begins (KeysShut (image_of p) []) p
  no_keys = record { none = λ n m key. absurd key; made = λ n m key. absurd key }

  counters : (u : ℕ) → TokenFits (image_of p) [] [] (thread (boot_state p) u).pcc
  counters u tagged is = absurd (let open_one = ((confined p s).runs u tagged).unsealed in omega (arith, open_one, is))

  from_everywhere : Everywhere (TokenFits (image_of p) [] []) (boot_state p) → Everywhere (KeysShut (image_of p) []) (boot_state p) → Tokened (image_of p) (boot_state p)
  unfolding boot_state
  from_everywhere fits keys = record { some = tt; named = λ key n there. absurd there; tokens = fits; keys = keys }

  pub boot_tokened : Tokened (image_of p) (boot_state p)
  boot_tokened = from_everywhere (boot_has (TokenFits (image_of p) [] []) p no_tokens counters) (boot_has (KeysShut (image_of p) []) p no_keys (λ u m key. absurd key))
