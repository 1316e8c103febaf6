-- Frees: of two states that agree the same object is zeroed and marked in both, the same registers lose their tag,
-- and less is seen.
use Rattle.std.proofs.Common.{ℕ, ◌≡◌, ◌+◌, ◌-◌, ◌/◌, ◌%◌, ◌<◌, ◌==◌, inl, inr, true, false, nat_eq, List, [], ◌∷◌, length, map, Option, Some, None, refl, sym, ap, ◌∙◌, subst, arith}
use Rattle.std.proofs.lemmas.List.{length-set}
use Rattle.law_lists.proofs.Tests.{chosen}
use Rattle.law_granules.proofs.Lists.{marked_length, zeroed_length}
use Rattle.def_profile.specs.declared.answers.TheConstants.{NO_OBJECT, NO_TOKEN}
use Rattle.def_profile.specs.declared.layout.TheConstants.{CHUNK_HEAD}
use Rattle.ct_entry.specs.declared.acts.Act.TheVariants as acts
use Rattle.def_words.specs.declared.Cap.{Cap}
use Rattle.def_words.specs.Capability.{integer}
use Rattle.def_memory.specs.declared.Granule.{Granule}
use Rattle.def_memory.specs.Accesses.{byte_of}
use Rattle.def_memory.specs.Granules.{plain, granule_at}
use Rattle.def_memory.specs.Ranges.{zeroed_from, marked_from}
use Rattle.def_machine.specs.Heap.{quarantined}
use Rattle.def_machine.specs.Image.{Image}
use Rattle.def_machine.specs.Memory.{filtered}
use Rattle.def_machine.specs.Objects.{Any, charges, quarantine}
use Rattle.def_machine.specs.Platform.{Platform}
use Rattle.def_machine.specs.State.{State, Thread, Object, thread, register}
use Rattle.def_confined.specs.Confined.{Confined}
use Rattle.def_confined.specs.Partitioned.{Partitioned}
use Rattle.def_step.specs.Instructions.{actor_of}
use Rattle.def_step.specs.Quotas.{free, freed_as, gives_back, let_go, quota_in, whole_of, without_row}
use Rattle.def_step.specs.Routines.{code}
use Rattle.def_step.specs.Tokens.{frees_token, token_free, token_object}
use Rattle.def_safety.specs.Wired.{Wired}
use Rattle.def_secrecy.specs.View.{ReadsObject, Sees, InView}
use Rattle.def_secrecy.specs.Agreeing.{SameMemory, AgreeingThread, Agree}
use Rattle.law_secrecy.proofs.Frames.{less_seen}
use Rattle.law_secrecy.proofs.Puts.{put_agree, same_status}
use Rattle.law_secrecy.proofs.Replies.{SameRan, answers_agree, by_key_two, by_quota_two, inside, inside_too, same_key, same_register, same_token, tells_two}
use Rattle.law_secrecy.proofs.Two.{marked_two, two_choices, two_options, zeroed_two}
use Rattle.law_secrecy.proofs.Views.{filter_same, same_mark}

-- ---- lists

mapped_alike : {A : Type 0} (f g : A → A) (xs : List A) → ((x : A) → f x ≡ g x) → map f xs ≡ map g xs
mapped_alike f g [] same = refl
mapped_alike f g (x ∷ xs) same = ap (λ y. y ∷ map f xs) (same x) ∙ ap (λ ys. g x ∷ ys) (mapped_alike f g xs same)

pub same_map : {A : Type 0} (f g : A → A) (xs ys : List A) → xs ≡ ys → ((x : A) → f x ≡ g x) → map f xs ≡ map g ys
same_map f g xs ys e same = mapped_alike f g xs same ∙ ap (λ zs. map g zs) e

-- what is read of a quarantined list was read
pub quarantine_reads : (i : Image) (d x n : ℕ) (rs : List Object) → Any (ReadsObject i d x) (quarantine n rs) → Any (ReadsObject i d x) rs
quarantine_reads i d x n [] h = h
quarantine_reads i d x n (r ∷ rs) (inr later) = inr (quarantine_reads i d x n rs later)
quarantine_reads i d x n (r ∷ rs) (inl here) = chosen (λ (q : Object). ReadsObject i d x q → Any (ReadsObject i d x) (r ∷ rs)) (nat_eq r.number n) (record r { live = false }) r
    (λ is h. absurd (let clash : false ≡ true = h.live in cc))
    (λ not h. inl h)
    here

-- ---- memory

abbrev given_back : Image → Object → List Granule → List Granule
given_back i r gs = marked_from (r.base - CHUNK_HEAD) (r.base + r.length) true i.ram (zeroed_from r.base (r.base + r.length) i.ram gs)

module _ (i : Image) (r : Object) (gs hs : List Granule) (size : length gs ≡ length hs) where
  zeroed_size : length (zeroed_from r.base (r.base + r.length) i.ram gs) ≡ length (zeroed_from r.base (r.base + r.length) i.ram hs)
  zeroed_size = zeroed_length r.base (r.base + r.length) i.ram gs ∙ size ∙ sym (zeroed_length r.base (r.base + r.length) i.ram hs)

  -- what holds of a granule in both holds after the free
  after_free : (P : Granule → Granule → Type 0) (k : ℕ) → ((g h : Granule) → P g h → P (record g { mark = true }) (record h { mark = true })) → ((g h : Granule) → P g h → P (record g { cap = plain 0 }) (record h { cap = plain 0 }))
      → P (granule_at gs k) (granule_at hs k) → P (granule_at (given_back i r gs) k) (granule_at (given_back i r hs) k)
  after_free P k marks zeros old = marked_two P (r.base - CHUNK_HEAD) (r.base + r.length) true i.ram (zeroed_from r.base (r.base + r.length) i.ram gs) (zeroed_from r.base (r.base + r.length) i.ram hs) k zeroed_size marks
      (zeroed_two P r.base (r.base + r.length) i.ram gs hs k size zeros old)

  freed_memory : (sees : ℕ → Type 0) → SameMemory i sees gs hs → SameMemory i sees (given_back i r gs) (given_back i r hs)
  freed_memory sees same = record {
    size = marked_length (r.base - CHUNK_HEAD) (r.base + r.length) true i.ram (zeroed_from r.base (r.base + r.length) i.ram gs) ∙ zeroed_size ∙ sym (marked_length (r.base - CHUNK_HEAD) (r.base + r.length) true i.ram (zeroed_from r.base (r.base + r.length) i.ram hs));
    bytes = λ x above seen. after_free (λ (g h : Granule). byte_of g.cap.word ((x - i.ram) % 8) ≡ byte_of h.cap.word ((x - i.ram) % 8)) ((x - i.ram) / 8) (λ g h e. e) (λ g h e. refl) (same.bytes x above seen);
    whole = λ k seen. after_free (λ (g h : Granule). g.cap ≡ h.cap) k (λ g h e. e) (λ g h e. refl) (same.whole k seen);
  }

-- ---- of two states

module _ (b : Platform) (s z : State) (t : ℕ) (parts : Partitioned b.image) (wired : Wired b) (one : Confined b.image s) (two : Confined b.image z) (runs : s.running ≡ Some t) (agree : Agree b t s z) (tagged : (thread s t).pcc.tag ≡ true) where
  module _ (r : Object) where
    freed_filter : (c : Cap) → filtered b.image (quarantined b.image s r) c ≡ filtered b.image (quarantined b.image z r) c
    freed_filter = filter_same b.image.ram (given_back b.image r s.granules) (given_back b.image r z.granules)
        (λ k. after_free b.image r s.granules z.granules agree.memory.size (λ (g h : Granule). g.mark ≡ h.mark) k (λ g h e. refl) (λ g h e. e) (same_mark b s z t parts wired one two runs agree k))

    -- the thread with its registers through the load filter
    abbrev strained : State → Thread
    strained a = record (thread a t) { registers = map (filtered b.image (quarantined b.image a r)) (thread a t).registers }

    -- the state but for that thread
    abbrev emptied : State → State
    emptied a = record (quarantined b.image a r) { tokens = without_row r.number a.tokens }

    strained_same : AgreeingThread (strained s) (strained z)
    strained_same = record { pcc = agree.self.pcc; registers = same_map _ _ (thread s t).registers (thread z t).registers agree.self.registers freed_filter; posture = agree.self.posture; frames = agree.self.frames }

    less : (x : ℕ) → Sees b.image (quarantine r.number s.objects) t (thread s t).frames x → InView b.image s t x
    less x (inl entry) = inl entry
    less x (inr (inl object)) = inr (inl (quarantine_reads b.image (actor_of (thread s t).frames) x r.number s.objects object))
    less x (inr (inr own)) = inr (inr own)

    freed_agree : Agree b t (let_go b.image s t r) (let_go b.image z t r)
    freed_agree =
        let p = agree.public in
        put_agree b t (emptied s) (emptied z) (strained s) (strained z) (inside b s z t parts wired one two runs agree tagged) (inside_too b s z t parts wired one two runs agree tagged)
        (record { running = p.running; holder = p.holder; pending = p.pending; time = p.time; statuses = p.statuses; picks = p.picks; objects = ap (λ os. quarantine r.number os) p.objects; next = p.next; tokens = ap (λ ts. without_row r.number ts) p.tokens; front = p.front })
        runs (same_status s z t p) strained_same
        (less_seen b.image (InView b.image s t) (Sees b.image (quarantine r.number s.objects) t (thread s t).frames) _ _ less (freed_memory b.image r s.granules z.granules agree.memory.size (InView b.image s t) agree.memory))
        agree.devices agree.banks

    inside_after : (a : State) → t < length a.threads → t < length (let_go b.image a t r).threads
    inside_after a there = let e = length-set a.threads t (strained a) in omega (arith, e, there)

    gives_two : SameRan b s t (gives_back b.image s t r) (gives_back b.image z t r)
    gives_two = (
      ap (λ os. Some (r.quota, acts.Free r.number r.base r.length (charges r.quota (quarantine r.number os)))) agree.public.objects,
      λ stays. answers_agree b t (let_go b.image s t r) (let_go b.image z t r) (integer 0) (integer 0) (inside_after s (inside b s z t parts wired one two runs agree tagged)) (inside_after z (inside_too b s z t parts wired one two runs agree tagged)) runs freed_agree refl,
    )

  charged : quota_in s t ≡ quota_in z t
  charged = ap (λ (c : Cap). c.shadow.root) (same_register b s z t parts wired one two runs agree tagged 10)

  same_object : whole_of s.objects (quota_in s t) (register (thread s t) 11) ≡ whole_of z.objects (quota_in z t) (register (thread z t) 11)
  same_object = ap (λ os. whole_of os (quota_in s t) (register (thread s t) 11)) agree.public.objects ∙ ap (λ q. whole_of z.objects q (register (thread s t) 11)) charged
      ∙ ap (λ c. whole_of z.objects (quota_in z t) c) (same_register b s z t parts wired one two runs agree tagged 11)

  pub free_two : SameRan b s t (free b.image s t) (free b.image z t)
  free_two = by_quota_two b s z t parts wired one two runs agree tagged _ _
      (two_options (λ o p. SameRan b s t (freed_as b.image s t o) (freed_as b.image z t p)) _ _ same_object
      (tells_two b s z t parts wired one two runs agree tagged (code NO_OBJECT) (code NO_OBJECT) refl) (λ r is. gives_two r))

  frees_two : (quota : ℕ) (o : Option Object) → SameRan b s t (frees_token b.image s t quota o) (frees_token b.image z t quota o)
  frees_two quota None = tells_two b s z t parts wired one two runs agree tagged (code NO_TOKEN) (code NO_TOKEN) refl
  frees_two quota (Some r) = two_choices (SameRan b s t) (r.quota == quota) (r.quota == quota) _ _ _ _ refl (λ is. gives_two r) (λ not. tells_two b s z t parts wired one two runs agree tagged (code NO_OBJECT) (code NO_OBJECT) refl)

  pub token_free_two : SameRan b s t (token_free b.image s t) (token_free b.image z t)
  token_free_two = by_quota_two b s z t parts wired one two runs agree tagged _ _
      (by_key_two b s z t parts wired one two runs agree tagged _ _ _ _ (same_key b s z t parts wired one two runs agree tagged _ _ (same_register b s z t parts wired one two runs agree tagged 11))
      (λ key. subst (λ q. SameRan b s t (frees_token b.image s t (quota_in s t) (token_object s key (register (thread s t) 12))) (frees_token b.image z t q (token_object z key (register (thread z t) 12)))) charged
      (subst (λ o. SameRan b s t (frees_token b.image s t (quota_in s t) (token_object s key (register (thread s t) 12))) (frees_token b.image z t (quota_in s t) o)) (same_token b s z t parts wired one two runs agree tagged key _ _ (same_register b s z t parts wired one two runs agree tagged 12))
      (frees_two (quota_in s t) (token_object s key (register (thread s t) 12))))))
