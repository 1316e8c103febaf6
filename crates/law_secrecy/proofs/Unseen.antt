-- What changes where nothing is seen leaves what is seen as it was: bytes that are stored there, and bytes that come
-- to a device that a thread may not load from.
use Rattle.std.proofs.Common.{ℕ, ◌≡◌, ◌+◌, ◌-◌, ◌/◌, ◌%◌, ◌<◌, ◌≤◌, ◌⊎◌, inl, inr, true, false, List, length, refl, sym, ap, ◌∙◌, subst, arith, slice_set}
use Rattle.std.proofs.lemmas.List.{length-set}
use Rattle.law_lists.proofs.Sets.{after_set, after_set_at}
use Rattle.law_lists.proofs.Tests.{lt_tells}
use Rattle.law_granules.proofs.Bytes.{put_byte_below, put_byte_above}
use Rattle.def_words.specs.declared.Cap.{Cap}
use Rattle.def_memory.specs.declared.Granule.{Granule}
use Rattle.def_memory.specs.Accesses.{byte_of, with_part}
use Rattle.def_memory.specs.Granules.{plain, nothing, granule_at}
use Rattle.def_machine.specs.Image.{Image, region, address_of, granule_of}
use Rattle.def_machine.specs.Memory.{bytes_stored}
use Rattle.def_machine.specs.Platform.{Platform}
use Rattle.def_machine.specs.State.{State, thread, granule}
use Rattle.def_confined.specs.Keeps.{Keeps}
use Rattle.def_confined.specs.Swept.{HasUnpainted}
use Rattle.def_hidden.specs.Hidden.{Blank, is_hidden}
use Rattle.def_step.specs.Devices.{after_input, device}
use Rattle.def_step.specs.Events.{received}
use Rattle.def_secrecy.specs.View.{InView, SeesDevice, UnseenBytes}
use Rattle.def_secrecy.specs.Agreeing.{SameMemory, Agree}
use Rattle.law_moves.proofs.Puts.{plain_kept, plain_region, put_confined}
use Rattle.law_secrecy.proofs.Two.{set_devices}

-- ---- memory

-- no byte of the granule is seen
abbrev pub Hides : Image → (ℕ → Type 0) → ℕ → Type 0
Hides i sees k = (n : ℕ) → n < 8 → sees (address_of i k + n) → ⊥

-- each granule holds what it held, or none of it is seen
pub kept_or_hidden : (i : Image) (sees : ℕ → Type 0) (gs hs : List Granule) → length gs ≡ length hs → ((k : ℕ) → ((granule_at hs k).cap ≡ (granule_at gs k).cap) ⊎ Hides i sees k) → SameMemory i sees gs hs
kept_or_hidden i sees gs hs size h = record {
  size = size;
  bytes = λ x above seen. elim (h ((x - i.ram) / 8)) [
    | inl kept ↦ sym (ap (λ (c : Cap). byte_of c.word ((x - i.ram) % 8)) kept)
    | inr hidden ↦
        let at : address_of i ((x - i.ram) / 8) + (x - i.ram) % 8 ≡ x = omega (arith, above) in
        absurd (hidden ((x - i.ram) % 8) (omega arith) (subst sees (sym at) seen))
  ];
  whole = λ k seen. elim (h k) [ inl kept ↦ sym kept | inr hidden ↦ absurd (hidden 0 (omega arith) (seen 0 (omega arith))) ];
}

-- some bytes of a granule are stored, none of which is seen
pub part_hidden : (i : Image) (sees : ℕ → Type 0) (gs : List Granule) (x width value : ℕ) → i.ram ≤ x → 0 < width → ((y : ℕ) → x ≤ y → y < x + width → sees y → ⊥)
    → SameMemory i sees gs (slice_set gs ((x - i.ram) / 8) (record { cap = plain (with_part (granule_at gs ((x - i.ram) / 8)).cap.word ((x - i.ram) % 8) width value); mark = (granule_at gs ((x - i.ram) / 8)).mark }))
part_hidden i sees gs x width value above some unseen = record {
  size = sym (length-set gs ((x - i.ram) / 8) _);
  bytes = λ y from seen. after_set_at (λ k (g : Granule). k ≡ (y - i.ram) / 8 → byte_of (granule_at gs ((y - i.ram) / 8)).cap.word ((y - i.ram) % 8) ≡ byte_of g.cap.word ((y - i.ram) % 8)) gs ((x - i.ram) / 8) ((y - i.ram) / 8) _ nothing
      (λ here. kept y from seen here) (λ here. refl) refl;
  whole = λ k seen. after_set_at (λ j (g : Granule). j ≡ k → (granule_at gs k).cap ≡ g.cap) gs ((x - i.ram) / 8) k _ nothing
      (λ here.
      let at : address_of i k + (x - i.ram) % 8 ≡ x = omega (arith, above, here) in
      absurd (unseen x (omega arith) (omega (arith, some)) (subst sees at (seen ((x - i.ram) % 8) (omega arith)))))
      (λ here. refl) refl;
}
  where
    kept : (y : ℕ) → i.ram ≤ y → sees y → (x - i.ram) / 8 ≡ (y - i.ram) / 8 → byte_of (granule_at gs ((y - i.ram) / 8)).cap.word ((y - i.ram) % 8) ≡ byte_of (with_part (granule_at gs ((x - i.ram) / 8)).cap.word ((x - i.ram) % 8) width value) ((y - i.ram) % 8)
    kept y from seen here =
        subst (λ k. byte_of (granule_at gs k).cap.word ((y - i.ram) % 8) ≡ byte_of (with_part (granule_at gs ((x - i.ram) / 8)).cap.word ((x - i.ram) % 8) width value) ((y - i.ram) % 8)) here
        (elim (lt_tells ((y - i.ram) % 8) ((x - i.ram) % 8)) [
          | inl low ↦ sym (put_byte_below (granule_at gs ((x - i.ram) / 8)).cap.word ((x - i.ram) % 8) width value ((y - i.ram) % 8) low.1)
          | inr at_least ↦ elim (lt_tells ((y - i.ram) % 8) ((x - i.ram) % 8 + width)) [
            | inl inside ↦ (let one = at_least.1 in let two = inside.1 in absurd (unseen y (omega (arith, above, from, here, one)) (omega (arith, above, from, here, two)) seen))
            | inr past ↦ sym (put_byte_above (granule_at gs ((x - i.ram) / 8)).cap.word ((x - i.ram) % 8) width value ((y - i.ram) % 8) past.1)
          ]
        ])

-- ---- bytes of RAM

pub bytes_agree : (b : Platform) (s : State) (t x width value : ℕ) → UnseenBytes b.image s t x width → Agree b t s (bytes_stored b.image s x width value)
bytes_agree b s t x width value h = record {
  public = record { running = refl; holder = refl; pending = refl; time = refl; statuses = refl; picks = refl; objects = refl; next = refl; tokens = refl; front = refl };
  self = record { pcc = refl; registers = refl; posture = refl; frames = refl };
  memory = part_hidden b.image (InView b.image s t) s.granules x width value h.inside h.some h.unseen;
  devices = λ m seen. refl;
  banks = refl;
}

-- plain bytes may stand in every region that isn't as boot made it
pub bytes_keep : (i : Image) (s : State) (t x width value : ℕ) → UnseenBytes i s t x width → Keeps i s → Keeps i (bytes_stored i s x width value)
bytes_keep i s t x width value h k =
    let new : Granule = record { cap = plain (with_part (granule s (granule_of i x)).cap.word ((x - i.ram) % 8) width value); mark = (granule s (granule_of i x)).mark } in
    let b = k.beside in
    record {
      confined = put_confined i s (granule_of i x) new.cap k.confined (plain_region i s (granule_of i x) (region i (granule_of i x)) new h.changing refl) (plain_kept i new.cap refl);
      beside = record {
        swept = record {
          granules = λ j passed. after_set (λ (g : Granule). HasUnpainted i s.objects g.cap) s.granules (granule_of i x) j new nothing (λ tagged. absurd (let clash : false ≡ true = tagged in cc)) (b.swept.granules j passed);
          registers = b.swept.registers;
          frames = b.swept.frames;
          idle = b.swept.idle;
        };
        bounded = record { deep = b.bounded.deep; few = b.bounded.few; many = b.bounded.many; areas = b.bounded.areas; fits = rw (length-set s.granules (granule_of i x) new) b.bounded.fits };
        ends = b.ends;
      };
    }

pub bytes_blank : (i : Image) (s : State) (t x width value : ℕ) → UnseenBytes i s t x width → Blank i s → Blank i (bytes_stored i s x width value)
bytes_blank i s t x width value h zeros k = after_set_at (λ j (g : Granule). is_hidden i s.objects j ≡ true → g.cap ≡ plain 0) s.granules (granule_of i x) k _ nothing
    (λ hidden. absurd (let clash : true ≡ false = sym hidden ∙ h.free in cc)) (zeros k)

-- ---- bytes that come to a device

pub inputs_agree : (b : Platform) (s z : State) (t n one other : ℕ) → (SeesDevice b (thread s t).frames n → ⊥) → Agree b t s z → Agree b t (received s n one) (received z n other)
inputs_agree b s z t n one other unseen agree =
    let p = agree.public in
    record {
      public = record { running = p.running; holder = p.holder; pending = p.pending; time = p.time; statuses = p.statuses; picks = p.picks; objects = p.objects; next = p.next; tokens = p.tokens; front = p.front };
      self = agree.self;
      memory = agree.memory;
      devices = λ m seen. set_devices s.devices z.devices n m (after_input (device s.devices n) one) (after_input (device z.devices n) other) agree.banks
          (λ here. absurd (unseen (subst (λ k. SeesDevice b (thread s t).frames k) (sym here) seen)))
          (agree.devices m seen);
      banks = length-set s.devices n _ ∙ agree.banks ∙ sym (length-set z.devices n _);
    }
