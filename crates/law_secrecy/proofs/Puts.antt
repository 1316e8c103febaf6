-- What two states that agree have in common beside: the thread's status, its actor, who holds interrupts off. And
-- where the thread gets a new self in both, they agree again.
use Rattle.std.proofs.Common.{ℕ, zero, suc, ◌≡◌, ◌<◌, cond, List, [], ◌∷◌, length, map, Option, Some, None, refl, sym, ap, ◌∙◌, subst, slice_set}
use Rattle.std.proofs.Math.ListN.{get_or}
use Rattle.std.proofs.lemmas.List.{get_or-set_same}
use Rattle.def_memory.specs.declared.Granule.{Granule}
use Rattle.def_words.specs.declared.Posture.{Posture}
use Rattle.def_machine.specs.Platform.{Platform}
use Rattle.def_machine.specs.Registers.{with_thread}
use Rattle.def_machine.specs.State.{State, Thread, Frame, DeviceState, Ended, nobody, thread}
use Rattle.def_machine.specs.Threads.{statuses_of}
use Rattle.def_step.specs.Devices.{device}
use Rattle.def_step.specs.Events.{holder, holder_by}
use Rattle.def_step.specs.Instructions.{actor_of}
use Rattle.def_secrecy.specs.View.{Sees, SeesDevice}
use Rattle.def_secrecy.specs.Agreeing.{SameMemory, AgreeingThread, SamePublic, Shape, frame_shape, Agree}

-- ---- statuses

pub set_statuses : (ts : List Thread) (t : ℕ) (new : Thread) → statuses_of (slice_set ts t new) ≡ slice_set (statuses_of ts) t new.status
set_statuses [] t new = refl
set_statuses (x ∷ xs) zero new = refl
set_statuses (x ∷ xs) (suc t) new = ap (λ zs. x.status ∷ zs) (set_statuses xs t new)

status_at : (ts : List Thread) (t : ℕ) → (get_or ts t nobody).status ≡ get_or (statuses_of ts) t Ended
status_at [] t = refl
status_at (x ∷ xs) zero = refl
status_at (x ∷ xs) (suc t) = status_at xs t

pub same_status : (s z : State) (t : ℕ) → SamePublic s z → (thread s t).status ≡ (thread z t).status
same_status s z t public = status_at s.threads t ∙ ap (λ ss. get_or ss t Ended) public.statuses ∙ sym (status_at z.threads t)

-- ---- the actor

abbrev head_actor : List Shape → ℕ
head_actor [] = 0
head_actor (x ∷ xs) = x.actor

actor_by : (fs : List Frame) → actor_of fs ≡ head_actor (map frame_shape fs)
actor_by [] = refl
actor_by (f ∷ fs) = refl

pub shaped_actor : (fs gs : List Frame) → map frame_shape fs ≡ map frame_shape gs → actor_of fs ≡ actor_of gs
shaped_actor fs gs same = actor_by fs ∙ ap head_actor same ∙ sym (actor_by gs)

pub same_actor_of : (b : Platform) (s z : State) (t : ℕ) → Agree b t s z → actor_of (thread s t).frames ≡ actor_of (thread z t).frames
same_actor_of b s z t agree = shaped_actor (thread s t).frames (thread z t).frames agree.self.frames

-- ---- who holds interrupts off

abbrev pub held_by : ℕ → Posture → Option (ℕ × ℕ)
held_by t p = cond p.off (Some (t, p.source)) None

pub same_holder : (a c : State) (t : ℕ) → a.running ≡ Some t → c.running ≡ Some t → (thread a t).posture ≡ (thread c t).posture → holder a ≡ holder c
same_holder a c t one two same = ap (holder_by a) one ∙ ap (held_by t) same ∙ sym (ap (holder_by c) two)

-- ---- a thread's new self

-- what is public, but for the thread that changes and the memory and devices that the states are left with
pub public_with : (s z : State) (gs hs : List Granule) (ds es : List DeviceState) → SamePublic s z → SamePublic (record s { granules = gs; devices = ds }) (record z { granules = hs; devices = es })
public_with s z gs hs ds es p = record { running = p.running; holder = p.holder; pending = p.pending; time = p.time; statuses = p.statuses; picks = p.picks; objects = p.objects; next = p.next; tokens = p.tokens; front = p.front }

module _ (b : Platform) (t : ℕ) (a c : State) (x y : Thread) (put_is : thread (with_thread a t x) t ≡ x) (put_is_too : thread (with_thread c t y) t ≡ y) where
  -- the thread runs, and it is given the same self in both
  pub self_agree : SamePublic a c → a.running ≡ Some t → x.status ≡ y.status → AgreeingThread x y → SameMemory b.image (Sees b.image a.objects t x.frames) a.granules c.granules
      → ((m : ℕ) → SeesDevice b x.frames m → device a.devices m ≡ device c.devices m) → length a.devices ≡ length c.devices → Agree b t (with_thread a t x) (with_thread c t y)
  self_agree p runs status self memory devices banks = record {
    public = record {
      running = p.running;
      holder = same_holder (with_thread a t x) (with_thread c t y) t runs (sym p.running ∙ runs) (ap (λ (z : Thread). z.posture) put_is ∙ self.posture ∙ sym (ap (λ (z : Thread). z.posture) put_is_too));
      pending = p.pending;
      time = p.time;
      statuses = set_statuses a.threads t x ∙ ap (λ ss. slice_set ss t x.status) p.statuses ∙ ap (λ v. slice_set (statuses_of c.threads) t v) status ∙ sym (set_statuses c.threads t y);
      picks = p.picks;
      objects = p.objects;
      next = p.next;
      tokens = p.tokens;
      front = p.front;
    };
    self = subst (λ z. AgreeingThread z (thread (with_thread c t y) t)) (sym put_is) (subst (λ z. AgreeingThread x z) (sym put_is_too) self);
    memory = subst (λ (z : Thread). SameMemory b.image (Sees b.image a.objects t z.frames) a.granules c.granules) (sym put_is) memory;
    devices = λ m seen. devices m (subst (λ (z : Thread). SeesDevice b z.frames m) put_is seen);
    banks = banks;
  }

pub put_agree : (b : Platform) (t : ℕ) (a c : State) (x y : Thread) → t < length a.threads → t < length c.threads → SamePublic a c → a.running ≡ Some t → x.status ≡ y.status → AgreeingThread x y
    → SameMemory b.image (Sees b.image a.objects t x.frames) a.granules c.granules → ((m : ℕ) → SeesDevice b x.frames m → device a.devices m ≡ device c.devices m) → length a.devices ≡ length c.devices
    → Agree b t (with_thread a t x) (with_thread c t y)
put_agree b t a c x y there there_too = self_agree b t a c x y (get_or-set_same a.threads t x nobody there) (get_or-set_same c.threads t y nobody there_too)
