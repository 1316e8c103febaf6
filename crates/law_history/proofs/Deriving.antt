-- Whatever an event leaves anywhere comes from what stood before, is a new object's, or a token that token_open opened.
use Rattle.std.proofs.Common.{ℕ, ◌≡◌, ◌+◌, ◌&&◌, ◌⊎◌, not, true, false, inl, inr, List, [], ◌∷◌, map, Option, Some, None, refl, sym, ap, ◌∙◌, subst}
use Rattle.law_lists.proofs.Tests.{bool_tells, chosen}
use Rattle.law_lists.proofs.Sets.{after_set}
use Rattle.law_lists.proofs.Maps.{at_map}
use Rattle.def_sched.specs.Picks.{pick}
use Rattle.ct_entry.specs.declared.acts.Deed.{Deed}
use Rattle.def_words.specs.declared.Cap.{Cap}
use Rattle.def_words.specs.declared.Posture.{Posture}
use Rattle.def_words.specs.Narrows.{IsOpened}
use Rattle.def_memory.specs.Granules.{plain}
use Rattle.def_words.specs.Capability.{integer}
use Rattle.def_machine.specs.Platform.{Platform}
use Rattle.def_machine.specs.Image.{Image, granule_of}
use Rattle.def_machine.specs.State.{State, Thread, Frame, Object, thread, register, nobody}
use Rattle.def_machine.specs.Objects.{Any, Each}
use Rattle.def_machine.specs.Heap.{object_cap, quarantined, with_object}
use Rattle.def_machine.specs.Memory.{filtered}
use Rattle.def_confined.specs.Made.{Links}
use Rattle.def_safety.specs.Used.{access_start}
use Rattle.def_machine.specs.Threads.{statuses_of}
use Rattle.def_confined.specs.Confined.{Confined}
use Rattle.def_confined.specs.Keeps.{Keeps}
use Rattle.def_confined.specs.Partitioned.{Partitioned}
use Rattle.def_confined.specs.Facts.{Facts}
use Rattle.def_step.specs.declared.Event.{Event}
use Rattle.def_step.specs.declared.Event.TheVariants.{Step, Tick, Sweep, Input}
use Rattle.def_step.specs.Events.{picked_as, picked_from, preempted_from, preempted, scheduled, continued, one_more_step, ticked, received, swept_on, happens}
use Rattle.def_step.specs.Instructions.{executed}
use Rattle.def_step.specs.Quotas.{let_go, quota_in}
use Rattle.def_step.specs.Routines.{answers}
use Rattle.def_step.specs.Tokens.{key_of, opened_token, sealed_token, token_object, with_row}
use Rattle.def_safety.specs.Each.{ready}
use Rattle.def_safety.specs.Everywhere.{FrameHas, Everywhere}
use Rattle.def_safety.specs.Opening.{FindsSealed, MayOpen}
use Rattle.def_safety.specs.Tokened.{Tokened}
use Rattle.law_events.proofs.Events.{ready_keeps}
use Rattle.law_moves.proofs.Rows.{among_any}
use Rattle.law_routines.proofs.Objects.{made_says}
use Rattle.law_routines.proofs.Tokens.{token_says}
use Rattle.def_safety.specs.Comes.{Saves, in_granule, in_counter, in_register, in_frame, Stood, AtHand, counter, in_own, loaded, LeadsOn, by_register, by_frame, Makes, result, opened, linked, given, Derives, untagged, stood, made, IsNew, Comes, derived, object, sealed, token}
use Rattle.def_events.specs.Opened.{ComesOpened}
use Rattle.def_events.specs.Opened as opens
use Rattle.def_events.specs.Passes.{Widens, Passes}
use Rattle.law_history.proofs.Changes.{answers_led, let_go_has}
use Rattle.law_history.proofs.Events.{Handy, carried_on, again, ready_regular, ticked_regular}
use Rattle.law_history.proofs.Everywheres.{each_there}
use Rattle.law_history.proofs.Openings.{finds_sealed}
use Rattle.law_history.proofs.Whole.{ready_tokened}
use Rattle.law_history.proofs.Sweeps.{swept_has}
use Rattle.law_history.proofs.Values.{filtered_has}

-- ---- what a thread's step derives

-- of what thread t has at hand, of what leads it on, if it is tagged, and of its program counter under its posture
abbrev pub HandOf : Platform → (Cap → Type 0) → State → ℕ → Cap → Type 0
HandOf b P s t c = P c × AtHand b s t c

abbrev pub LeadOf : (Cap → Type 0) → Thread → Cap → Type 0
LeadOf P t c = c.tag ≡ true → P c × LeadsOn t c

abbrev pub LinkOf : (Cap → Type 0) → State → ℕ → Cap → Posture → Type 0
LinkOf P s t c before = (c ≡ (thread s t).pcc) × (before ≡ (thread s t).posture) × P c

-- as Derives has it, of the thread that carries on, where Q holds of what stays
abbrev pub DerivesAt : Platform → (Cap → Type 0) → (Cap → Type 0) → State → ℕ → Option Deed → Cap → Type 0
DerivesAt b P Q s t told d = (d.tag ≡ false) ⊎ Q d ⊎ Makes b P s t told d

pub opened_derives : (b : Platform) (P Q : Cap → Type 0) (s : State) (t : ℕ) (told : Option Deed) (c d : Cap) → (d.tag ≡ true → IsOpened c d) → LeadOf P (thread s t) c → DerivesAt b P Q s t told d
opened_derives b P Q s t told c d is k = elim (bool_tells d.tag) [
  | inl there ↦ (let from = k (is there).tagged in inr (inr (opened c from.0 from.1 is)))
  | inr off ↦ inl off
]

pub linked_derives : (b : Platform) (P Q : Cap → Type 0) (s : State) (t : ℕ) (told : Option Deed) (c d : Cap) (before : Posture) → Links c before d → LinkOf P s t c before → DerivesAt b P Q s t told d
linked_derives b P Q s t told c d before links l =
    let at : P (thread s t).pcc = subst P l.0 l.2 in
    let one : Links (thread s t).pcc before d = subst (λ (z : Cap). Links z before d) l.0 links in
    inr (inr (linked at (subst (λ (z : Posture). Links (thread s t).pcc z d) l.1 one)))

-- ---- what comes, by what opens a token

-- thread t, if it runs, is about to run token_open, which finds a key and a token of it: d is that token without its seal
record Found (b : Platform) (P : Cap → Type 0) (s : State) (t : ℕ) (d : Cap) : Type 0 where
  pub may : s.running ≡ Some t → MayOpen b s t
  pub key : Object
  pub token : Object
  pub key_found : key_of s (register (thread s t) 10) ≡ Some key
  pub token_found : token_object s key.number (register (thread s t) 11) ≡ Some token
  pub was : P (register (thread s t) 11)
  pub answer : d ≡ opened_token (register (thread s t) 11)

record FoundRunning (b : Platform) (P : Cap → Type 0) (s : State) (d : Cap) : Type 0 where
  pub thread_is : ℕ
  pub runs : s.running ≡ Some thread_is
  pub found : Found b P s thread_is d

abbrev FoundBy : Platform → (Cap → Type 0) → State → Event → Cap → Type 0
FoundBy b P s e d = (e ≡ Step) × FoundRunning b P (ready b s) d

-- D holds of what is derived, and T of what token_open opened
data ComesBy (D T : Cap → Type 0) (before after : State) (d : Cap) : Type 0 where
  derives : D d → ComesBy D T before after d
  handed : (r : Object) → IsNew before after r → d ≡ object_cap r → ComesBy D T before after d
  shut : (r : Object) → IsNew before after r → d ≡ sealed_token r → ComesBy D T before after d
  unsealed : T d → ComesBy D T before after d

comes_pass : (b : Platform) (P T : Cap → Type 0) (s : State) (t : ℕ) (told : Option Deed) (before after : State) → Passes b.image P (HandOf b P s t) (LeadOf P (thread s t)) (LinkOf P s t) (ComesBy (DerivesAt b P P s t told) T before after)
comes_pass b P T s t told before after = record {
  widens = record { none = λ c off. derives (inl off); stays = λ c h. derives (inr (inl h)) };
  result = λ c d r h. derives (inr (inr (result c h.0 h.1 r)));
  opened = λ c d o k. derives (opened_derives b P P s t told c d o k);
  linked = λ c d posture runs links l. derives (linked_derives b P P s t told c d posture links l);
}

derives_pass : (b : Platform) (P : Cap → Type 0) (s : State) (t : ℕ) (told : Option Deed) → Passes b.image P (HandOf b P s t) (LeadOf P (thread s t)) (LinkOf P s t) (DerivesAt b P P s t told)
derives_pass b P s t told = record {
  widens = record { none = λ c off. inl off; stays = λ c h. inr (inl h) };
  result = λ c d r h. inr (inr (result c h.0 h.1 r));
  opened = λ c d o k. opened_derives b P P s t told c d o k;
  linked = λ c d posture runs links l. linked_derives b P P s t told c d posture links l;
}

-- what comes from a state and leads to another
abbrev AllCome : (Cap → Type 0) → (Cap → Type 0) → State → State → Type 0
AllCome D T s z = Everywhere (ComesBy D T s z) z

-- what leads on a thread in whose state an object was given back: its registers passed the load filter
pub gone_leads : (i : Image) (P : Cap → Type 0) (s : State) (t : ℕ) (r : Object) → Everywhere P s → LeadOf P (thread s t) (register (thread (let_go i s t r) t) 1)
gone_leads i P s t r h =
    let K : Cap → Type 0 = LeadOf P (thread s t) in
    let none : (c : Cap) → c.tag ≡ false → LeadOf P (thread s t) c = λ c off tagged. absurd (let clash : true ≡ false = sym tagged ∙ off in cc) in
    let own : LeadOf P (thread s t) (register (thread s t) 1) = λ tagged. ((h.threads t).registers 1, by_register 1 refl) in
    after_set (λ (z : Thread). LeadOf P (thread s t) (register z 1)) s.threads t t (record (thread s t) { registers = map (filtered i (quarantined i s r)) (thread s t).registers }) nobody
    (at_map K (filtered i (quarantined i s r)) (thread s t).registers 1 (plain 0) (none (plain 0) refl) (filtered_has K K (record { none = none; stays = λ c k. k }) i (quarantined i s r) (register (thread s t) 1) own))
    own

-- what the running thread has at hand
pub hand_of : (b : Platform) (P : Cap → Type 0) (s : State) (t : ℕ) → Everywhere P s → Handy (HandOf b P s t) (LeadOf P (thread s t)) (LinkOf P s t) b s t
hand_of b P s t h = record {
  counter = ((h.threads t).pcc, counter refl);
  own = λ n. ((h.threads t).registers n, in_own n refl);
  loaded = λ c l. (subst P (sym l.from) (h.granules (granule_of b.image (access_start s t l.instruction))), loaded l);
  leads = λ n tagged. ((h.threads t).registers n, by_register n refl);
  back = λ f fs e tagged. (let all : Each (FrameHas P) (f ∷ fs) = subst (Each (FrameHas P)) e (h.threads t).frames in (all.0.c1, by_frame f fs e refl));
  link = (refl, refl, (h.threads t).pcc);
}

-- what a step leaves, as it comes
abbrev AtStep : Platform → (Cap → Type 0) → State → ℕ → Option Deed → State → Cap → Type 0
AtStep b P s t told z = ComesBy (DerivesAt b P P s t told) (Found b P s t) s z

executed_come : (b : Platform) (P : Cap → Type 0) (s : State) (t : ℕ) → Widens P P → Partitioned b.image → Facts b.image → Confined b.image s → Everywhere P s → AllCome (DerivesAt b P P s t (executed b s t).1) (Found b P s t) s (executed b s t).0
executed_come b P s t w parts facts held h =
    carried_on b P (HandOf b P s t) (LeadOf P (thread s t)) (LinkOf P s t) (DerivesAt b P P s t) (derives_pass b P s t) s t (λ o d g. inr (inr (given g))) parts facts held h
    (hand_of b P s t h)
    (λ z o. AllCome (DerivesAt b P P s t o) (Found b P s t) s z)
    (λ z o r. each_there (DerivesAt b P P s t o) (ComesBy (DerivesAt b P P s t o) (Found b P s t) s z) (λ c d. derives d) z r.has)
    (record {
      hands = λ quota size r is o.
          answers_led b.image P (HandOf b P s t) (LeadOf P (thread s t)) (LinkOf P s t) (AtStep b P s t o (answers (with_object s r) t (object_cap r))) (comes_pass b P (Found b P s t) s t o s (answers (with_object s r) t (object_cap r)))
          (with_object s r) t (object_cap r) (record { granules = h.granules; threads = h.threads }) leads
          (handed r (record { number = ap (λ (z : Object). z.number) (made_says b.image s (quota_in s t) size r is).is; there = among_any (λ q. q ≡ r) r s.objects (inl refl) }) refl);
      frees = λ r is o. gone r o;
      gives = λ key r is o. gone r o;
      seals = λ quota size key r is named o.
          answers_led b.image P (HandOf b P s t) (LeadOf P (thread s t)) (LinkOf P s t) (AtStep b P s t o (answers (with_object (with_row s r key) r) t (sealed_token r))) (comes_pass b P (Found b P s t) s t o s (answers (with_object (with_row s r key) r) t (sealed_token r)))
          (with_object (with_row s r key) r) t (sealed_token r) (record { granules = h.granules; threads = h.threads }) leads
          (shut r (record { number = ap (λ (z : Object). z.number) (made_says b.image s (quota_in s t) size r is).is; there = among_any (λ q. q ≡ r) r s.objects (inl refl) }) refl);
      opens = λ may k r key is o.
          answers_led b.image P (HandOf b P s t) (LeadOf P (thread s t)) (LinkOf P s t) (AtStep b P s t o (answers s t (opened_token (register (thread s t) 11)))) (comes_pass b P (Found b P s t) s t o s (answers s t (opened_token (register (thread s t) 11)))) s t (opened_token (register (thread s t) 11)) h leads
          (unsealed (record { may = may; key = k; token = r; key_found = key; token_found = is; was = (h.threads t).registers 11; answer = refl }));
    })
  where
    leads : LeadOf P (thread s t) (register (thread s t) 1)
    leads = λ tagged. ((h.threads t).registers 1, by_register 1 refl)

    gone : (r : Object) (o : Option Deed) → AllCome (DerivesAt b P P s t o) (Found b P s t) s (answers (let_go b.image s t r) t (integer 0))
    gone r o =
        answers_led b.image P (HandOf b P s t) (LeadOf P (thread s t)) (LinkOf P s t) (AtStep b P s t o (answers (let_go b.image s t r) t (integer 0))) (comes_pass b P (Found b P s t) s t o s (answers (let_go b.image s t r) t (integer 0)))
        (let_go b.image s t r) t (integer 0) (let_go_has P P w b.image s t r h) (gone_leads b.image P s t r h) (derives (inl refl))

-- ---- an event

-- before a step nothing is handed out
pub same_next : (b : Platform) (s : State) → (scheduled b (preempted (one_more_step s))).next ≡ s.next
same_next b s = at_pick (preempted (one_more_step s)) (preempted (one_more_step s)).running ∙ at_stop (one_more_step s) (one_more_step s).running
  where
    at_choice : (z : State) (o : Option ℕ) → (picked_as b z o).next ≡ z.next
    at_choice z None = refl
    at_choice z (Some t) = refl

    at_pick : (z : State) (o : Option ℕ) → (picked_from b z o).next ≡ z.next
    at_pick z None = at_choice z (pick b.image.priorities (statuses_of z.threads) z.picks)
    at_pick z (Some t) = refl

    at_stop : (z : State) (o : Option ℕ) → (preempted_from z o).next ≡ z.next
    at_stop z None = refl
    at_stop z (Some t) = chosen (λ (y : State). y.next ≡ z.next) (z.pending && not (thread z t).posture.off) (record z { running = None; pending = false }) z (λ is. refl) (λ not. refl)

new_since : (s y z v : State) (r : Object) → y.next ≡ s.next → v.objects ≡ z.objects → IsNew y z r → IsNew s v r
new_since s y z v r same objects n = record { number = n.number ∙ same; there = subst (λ os. Any (λ q. q ≡ r) os) (sym objects) n.there }

since : (D E T U : Cap → Type 0) (s y z v : State) (c : Cap) → (D c → E c) → (T c → U c) → y.next ≡ s.next → v.objects ≡ z.objects → ComesBy D T y z c → ComesBy E U s v c
since D E T U s y z v c e f same objects (derives d) = derives (e d)
since D E T U s y z v c e f same objects (handed r n is) = handed r (new_since s y z v r same objects n) is
since D E T U s y z v c e f same objects (shut r n is) = shut r (new_since s y z v r same objects n) is
since D E T U s y z v c e f same objects (unsealed o) = unsealed (f o)

-- what the thread that carries on derives, the step derives
step_derives : (b : Platform) (P : Cap → Type 0) (s : State) (t : ℕ) → (ready b s).running ≡ Some t → (d : Cap) → DerivesAt b P P (ready b s) t (executed b (ready b s) t).1 d → Derives b P s Step d
step_derives b P s t runs d (inl off) = untagged off
step_derives b P s t runs d (inr (inl there)) = stood there
step_derives b P s t runs d (inr (inr m)) =
    let told : (happens b s Step).1.deed ≡ (executed b (ready b s) t).1 = ap (λ o. (continued b (ready b s) o).1) runs in
    made refl t runs (subst (λ o. Makes b P (ready b s) t o d) (sym told) m)

continued_come : (b : Platform) (P : Cap → Type 0) (s : State) (o : Option ℕ) → (ready b s).running ≡ o → (ready b s).next ≡ s.next → Widens P P → Partitioned b.image → Facts b.image → Confined b.image (ready b s) → Everywhere P (ready b s)
    → AllCome (Derives b P s Step) (FoundRunning b P (ready b s)) s (continued b (ready b s) o).0
continued_come b P s None runs same w parts facts held h = each_there P (ComesBy (Derives b P s Step) (FoundRunning b P (ready b s)) s (ready b s)) (λ c d. derives (stood d)) (ready b s) h
continued_come b P s (Some t) runs same w parts facts held h =
    let y : State = ready b s in
    let after = executed_come b P (ready b s) t w parts facts held h in
    let moved = each_there (ComesBy (DerivesAt b P P (ready b s) t (executed b (ready b s) t).1) (Found b P (ready b s) t) (ready b s) (executed b (ready b s) t).0) (ComesBy (Derives b P s Step) (FoundRunning b P (ready b s)) s (continued b (ready b s) (Some t)).0)
    (λ c d. since (DerivesAt b P P (ready b s) t (executed b (ready b s) t).1) (Derives b P s Step) (Found b P (ready b s) t) (FoundRunning b P (ready b s)) s (ready b s) (executed b (ready b s) t).0 (continued b (ready b s) (Some t)).0 c
    (step_derives b P s t runs c) (λ found. record { thread_is = t; runs = runs; found = found }) same refl d) (executed b (ready b s) t).0 after in
    record { granules = moved.granules; threads = moved.threads }

all_stood : (b : Platform) (P T : Cap → Type 0) (s : State) (e : Event) (z : State) → Everywhere P z → AllCome (Derives b P s e) T s z
all_stood b P T s e z h = each_there P (ComesBy (Derives b P s e) T s z) (λ c d. derives (stood d)) z h

event_comes : (b : Platform) (s : State) (e : Event) (P : Cap → Type 0) → Partitioned b.image → Facts b.image → Keeps b.image s → ((c : Cap) → c.tag ≡ false → P c) → Everywhere P s → AllCome (Derives b P s e) (FoundBy b P s e) s (happens b s e).0
event_comes b s Step P parts facts k none h =
    let w : Widens P P = record { none = none; stays = λ c p. p } in
    let come = continued_come b P s (ready b s).running refl (same_next b s) w parts facts (ready_keeps b s parts k).confined (ready_regular P w b s h).has in
    each_there (ComesBy (Derives b P s Step) (FoundRunning b P (ready b s)) s (happens b s Step).0) (ComesBy (Derives b P s Step) (FoundBy b P s Step) s (happens b s Step).0)
    (λ c d. since (Derives b P s Step) (Derives b P s Step) (FoundRunning b P (ready b s)) (FoundBy b P s Step) s s (happens b s Step).0 (happens b s Step).0 c (λ is. is) (λ found. (refl, found)) refl refl d) (happens b s Step).0 come
event_comes b s Tick P parts facts k none h = all_stood b P (FoundBy b P s Tick) s Tick (ticked s) (ticked_regular P (record { none = none; stays = λ c p. p }) s h).has
event_comes b s (Input n byte) P parts facts k none h = all_stood b P (FoundBy b P s (Input n byte)) s (Input n byte) (received s n byte) (again P P (record { none = none; stays = λ c p. p }) s (received s n byte) refl refl refl refl h).has
event_comes b s Sweep P parts facts k none h =
    all_stood b P (FoundBy b P s Sweep) s Sweep (swept_on b s) (swept_has P (record { none = none; stays = λ c p. p }) b.image (record s { counts = record s.counts { sweeps = s.counts.sweeps + 1 } }) (record { granules = h.granules; threads = h.threads }))

to_comes : (b : Platform) (P : Cap → Type 0) (s : State) (e : Event) (d : Cap) → ComesBy (Derives b P s e) (FoundBy b P s e) s (happens b s e).0 d → Comes b P s e d
to_comes b P s e d (derives h) = derived h
to_comes b P s e d (handed r n is) = object r n is
to_comes b P s e d (shut r n is) = sealed r n is
to_comes b P s e d (unsealed o) =
    let f = o.1.found in
    let x = token_says (ready b s) f.key.number (register (thread (ready b s) o.1.thread_is) 11) f.token f.token_found in
    token (register (thread (ready b s) o.1.thread_is) 11) f.was x.sealed.tagged x.sealed.type f.answer

to_opened : (b : Platform) (P : Cap → Type 0) (s : State) (e : Event) → FindsSealed (ready b s) → (d : Cap) → ComesBy (Derives b P s e) (FoundBy b P s e) s (happens b s e).0 d → ComesOpened b P s e d
to_opened b P s e finds d (derives h) = opens.derived h
to_opened b P s e finds d (handed r n is) = opens.object r n is
to_opened b P s e finds d (shut r n is) = opens.sealed r n is
to_opened b P s e finds d (unsealed o) =
    let f = o.1.found in
    opens.token o.0 o.1.thread_is (record {
      may = f.may o.1.runs;
      key = f.key;
      token = f.token;
      holds = record { key_is = (finds.keys o.1.thread_is 10 f.key).0 f.key_found; token_is = (finds.tokens o.1.thread_is 11 f.key.number f.token).0 f.token_found };
      stood = f.was;
      answer = f.answer;
    })

-- ---- of what stood

pub saved_stands : (P : Cap → Type 0) (fs : List Frame) → ((c : Cap) → Any (Saves c) fs → P c) → Each (FrameHas P) fs
saved_stands P [] f = tt
saved_stands P (g ∷ gs) f = (
  record {
    c1 = f g.c1 (inl (inl refl));
    c2 = f g.c2 (inl (inr (inl refl)));
    c3 = f g.c3 (inl (inr (inr (inl refl))));
    c8 = f g.c8 (inl (inr (inr (inr (inl refl)))));
    c9 = f g.c9 (inl (inr (inr (inr (inr refl)))));
  },
  saved_stands P gs (λ c any. f c (inr any)),
)

pub each_stands : (s : State) → Everywhere (Stood s) s
each_stands s = record {
  granules = λ k tagged. in_granule k refl;
  threads = λ t. record {
    pcc = λ tagged. in_counter t refl;
    registers = λ n tagged. in_register t n refl;
    frames = saved_stands (Stood s) (thread s t).frames (λ c any tagged. in_frame t any);
  };
}

all_stand : (b : Platform) (s : State) (e : Event) → Partitioned b.image → Facts b.image → Keeps b.image s → AllCome (Derives b (Stood s) s e) (FoundBy b (Stood s) s e) s (happens b s e).0
all_stand b s e parts facts k = event_comes b s e (Stood s) parts facts k (λ c off tagged. absurd (let clash : true ≡ false = sym tagged ∙ off in cc)) (each_stands s)

pub all_derive : (b : Platform) (s : State) (e : Event) → Partitioned b.image → Facts b.image → Keeps b.image s → Everywhere (Comes b (Stood s) s e) (happens b s e).0
all_derive b s e parts facts k = each_there (ComesBy (Derives b (Stood s) s e) (FoundBy b (Stood s) s e) s (happens b s e).0) (Comes b (Stood s) s e) (to_comes b (Stood s) s e) (happens b s e).0 (all_stand b s e parts facts k)

pub all_opened : (b : Platform) (s : State) (e : Event) → Partitioned b.image → Facts b.image → Keeps b.image s → Tokened b.image s → Everywhere (ComesOpened b (Stood s) s e) (happens b s e).0
all_opened b s e parts facts k h =
    let finds : FindsSealed (ready b s) = finds_sealed b.image (ready b s) (ready_keeps b s parts k).confined (ready_tokened b s h) in
    each_there (ComesBy (Derives b (Stood s) s e) (FoundBy b (Stood s) s e) s (happens b s e).0) (ComesOpened b (Stood s) s e) (to_opened b (Stood s) s e finds) (happens b s e).0 (all_stand b s e parts facts k)
