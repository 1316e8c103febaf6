-- What the switcher gives a callee meets what the law of a call takes.
use Rattle.std.proofs.Common.{ℕ, ◌≡◌, ◌^◌, ◌<◌, inl, inr, true, false, List, ◌∷◌, refl, sym, ap, ◌∙◌, subst, arith}
use Rattle.def_words.specs.declared.Shadow.{Shadow}
use Rattle.def_words.specs.Capability.{with_address}
use Rattle.law_words.proofs.Narrowing.{addressed}
use Rattle.ct_entry.specs.declared.rows.Owner.TheVariants.{Compartment}
use Rattle.ct_entry.specs.declared.rows.Kind.TheVariants as kinds
use Rattle.ct_entry.specs.Listed.{Listed}
use Rattle.def_reach.specs.Roots.{TrustedPart, Listing, root_of, gate_for, is_root, is_code, is_native}
use Rattle.def_machine.specs.Image.{Image, root, made_cap, code_entry, globals_entry}
use Rattle.def_machine.specs.State.{State, Frame, thread, register}
use Rattle.def_machine.specs.Frames.{callee_start}
use Rattle.def_confined.specs.Places.{Placed, InFrames, OwnStack}
use Rattle.def_confined.specs.Confined.{Confined, FramesHold, IsPcc}
use Rattle.def_confined.specs.Partitioned.{Partitioned, BootMade}
use Rattle.def_confined.specs.Made.{IsOwn, IsReturnSentry, IsDerived}
use Rattle.def_confined.specs.Changes.{Enters}
use Rattle.law_moves.proofs.Derives.{derived_rooted}
use Rattle.law_moves.proofs.Results.{address_derived, address_runs}
use Rattle.def_safety.specs.Calling.{PassesChecks}
use Rattle.law_moves.proofs.Makes.{stack_made}

trusted_is : (e : Listed) → (root_of e 0).origin ≡ TrustedPart
unfolding root_of
trusted_is e = refl

pub back_made : (i : Image) → Partitioned i → (made_cap i 0).tag ≡ true → IsReturnSentry i (made_cap i 0)
back_made i p tagged =
    let made : BootMade i 0 (made_cap i 0) = p.made 0 (ap is_root (trusted_is i.entries)) tagged in
    let P : ℕ → Type 0 = λ n. (root i n).origin ≡ TrustedPart in
    record { rooted = made.rooted; kind = subst P (sym made.from) (trusted_is i.entries); sealed = p.sentry tagged }

pub globals_made : (i : Image) (callee export : ℕ) → Partitioned i → (root i export).owner ≡ Compartment callee → (made_cap i (globals_entry i callee)).tag ≡ true → IsOwn i callee (made_cap i (globals_entry i callee))
globals_made i callee export p owner tagged =
    let own = p.own_globals callee export owner in
    let made : BootMade i (globals_entry i callee) (made_cap i (globals_entry i callee)) = p.made (globals_entry i callee) (ap is_root (p.own_globals callee export owner).kind_is) tagged in
    let P : ℕ → Type 0 = λ n. (root i n).owner ≡ Compartment callee in
    let Q : ℕ → Type 0 = λ n. (root i n).origin ≡ Listing kinds.Globals in
    record { rooted = made.rooted; owner = subst P (sym made.from) own.owner_is; kind = inr (subst Q (sym made.from) own.kind_is); unsealed = own.unsealed }

pub pcc_made : (i : Image) (callee export : ℕ) → Partitioned i → (root i export).owner ≡ Compartment callee → (with_address (made_cap i (code_entry i callee)) (gate_for i.entries.gates export).code).tag ≡ true
    → IsOwn i callee (with_address (made_cap i (code_entry i callee)) (gate_for i.entries.gates export).code) × IsPcc i (with_address (made_cap i (code_entry i callee)) (gate_for i.entries.gates export).code)
pcc_made i callee export p owner tagged =
    let own = p.own_code callee export owner in
    let small : (gate_for i.entries.gates export).code < 2 ^ 32 = p.gates_small export in
    let moved = addressed (made_cap i (code_entry i callee)) (gate_for i.entries.gates export).code (p.gates_small export) tagged in
    let made : BootMade i (code_entry i callee) (made_cap i (code_entry i callee)) = p.made (code_entry i callee) (ap is_root (p.own_code callee export owner).0.kind_is) moved.tagged in
    let root_is : (with_address (made_cap i (code_entry i callee)) (gate_for i.entries.gates export).code).shadow.root ≡ code_entry i callee = ap (λ (s : Shadow). s.root) moved.shadows ∙ made.from in
    let P : ℕ → Type 0 = λ n. (root i n).owner ≡ Compartment callee in
    let Q : ℕ → Type 0 = λ n. (root i n).origin ≡ Listing kinds.Code in
    let kind_is = subst Q (sym root_is) own.0.kind_is in
    let made_kind : (root i (made_cap i (code_entry i callee)).shadow.root).origin ≡ Listing kinds.Code = subst Q (sym made.from) own.0.kind_is in
    let derived : IsDerived (made_cap i (code_entry i callee)) (with_address (made_cap i (code_entry i callee)) (gate_for i.entries.gates export).code) = address_derived (made_cap i (code_entry i callee)) (gate_for i.entries.gates export).code (p.gates_small export) tagged in
    let says = address_runs (made_cap i (code_entry i callee)) (gate_for i.entries.gates export).code (p.gates_small export) own.1 tagged in (
      record {
        rooted = derived_rooted i (made_cap i (code_entry i callee)) (with_address (made_cap i (code_entry i callee)) (gate_for i.entries.gates export).code) derived
            (λ native loose. let clash : true ≡ false = sym native ∙ ap is_native made_kind in cc) made.rooted;
        owner = subst P (sym root_is) own.0.owner_is;
        kind = inl kind_is;
        unsealed = says.0;
      },
      record { unsealed = says.0; executes = says.1; code = ap is_code kind_is },
    )

-- what the switcher gives a callee, where the checks of a call passed, is as the law of a call takes it
pub given_enters : (i : Image) (s : State) (t : ℕ) (g : Frame) (gs : List Frame) (callee export high : ℕ) → Partitioned i → Confined i s → PassesChecks i s t g gs callee export high
    → Enters i s t g gs callee export high (callee_start i (thread s t) t callee export high)
given_enters i s t g gs callee export high p h x =
    let below : FramesHold i s.objects t (g ∷ gs) = subst (λ (fs : List Frame). FramesHold i s.objects t fs) x.call.caller (h.frames t) in
    let stack : Placed i s.objects (λ d. d ≡ g.actor) (OwnStack i t (g ∷ gs)) (register (thread s t) 2) =
    (subst (λ (fs : List Frame). InFrames i s.objects t fs (register (thread s t) 2)) x.call.caller (h.registers t 2)) x.stack_tagged in
    record {
      call = x.call;
      pcc = pcc_made i callee export p x.call.callee_is;
      globals = globals_made i callee export p x.call.callee_is;
      back = back_made i p;
      stack = stack_made i t high (register (thread s t) 2).shadow p below.0.stack (stack.own (stack.rooted.local x.stack_local)).0 x.call.low (let under = x.call.under in let top = below.0.high in omega (arith, under, top));
    }
