-- Capabilities that derivation makes.
use Rattle.std.proofs.Common.{ℕ, ◌≡◌, ◌+◌, ◌-◌, ◌^◌, ◌≤◌, ◌<◌, inl, inr, ◌&&◌, true, false, not, nat_eq, min, refl, sym, ap, ◌∙◌, subst, arith}
use Rattle.law_lists.proofs.Tests.{bool_tells, eq_tells}
use Rattle.def_words.specs.declared.Cap.{Cap}
use Rattle.def_words.specs.declared.Shadow.{Shadow}
use Rattle.def_words.specs.Authority.{cap_address, cap_base, cap_top}
use Rattle.def_words.specs.Capability.{with_address, with_exact_bounds, masked, end_at}
use Rattle.def_words.specs.LeastBounds.{rounded_of}
use Rattle.def_words.specs.Permissions.{IsLegal, Within, bit, has, cap_perms, global, store_local, execute}
use Rattle.def_words.specs.Derive.{derive, memory_root, root_cap}
use Rattle.def_words.specs.Narrows.{IsMade}
use Rattle.def_words.specs.Facts.{SpellsPermissions}
use Rattle.law_words.proofs.Rights.{heap_not_local, memory_is_root, stack_not_global, taken}
use Rattle.law_words.proofs.Narrowing.{addressed, exact_set}
use Rattle.law_words.proofs.Making.{derive_makes}
use Rattle.law_words.proofs.Away.{address_away, masked_away}
use Rattle.ct_entry.specs.declared.rows.Kind.TheVariants as kinds
use Rattle.def_reach.specs.Roots.{Listing, is_quota, is_stack, is_native, is_root}
use Rattle.def_machine.specs.Image.{Image, root, made_cap, stack_entry, stack_base, stack_top}
use Rattle.def_machine.specs.State.{Object}
use Rattle.def_profile.specs.declared.rights.TheConstants.{STACK_RIGHTS, HEAP_RIGHTS}
use Rattle.def_machine.specs.Heap.{object_cap}
use Rattle.def_confined.specs.Capabilities.{Rooted, AsBoot, IsBootType, IsReturnType, is_home}
use Rattle.def_confined.specs.Confined.{ObjectFits}
use Rattle.def_confined.specs.Partitioned.{Partitioned}
use Rattle.def_confined.specs.Made.{IsStackUpTo, IsObjectCap}
use Rattle.law_moves.proofs.Derives.{of_heap}

-- what the image says of a capability with this shadow, range, set, address and type
pub record Allows (i : Image) (from : Shadow) (low high set at kind : ℕ) : Type 0 where
  pub order : low ≤ high
  pub roots : is_root (root i from.root).origin ≡ true
  pub home : is_home (root i from.root).origin (root i from.root).owner ≡ true
  pub legal : IsLegal set
  pub range : of_heap i from ≡ false → ((root i from.root).base ≤ low) × (high ≤ (root i from.root).top)
  pub heap : of_heap i from ≡ true → (i.heap_base ≤ low) × (high ≤ i.heap_end)
  pub rights : of_heap i from ≡ false → Within set (root i from.root).rights
  pub heap_rights : of_heap i from ≡ true → Within set HEAP_RIGHTS
  pub local : bit set store_local ≡ true → is_stack (root i from.root).origin ≡ true
  pub held : is_stack (root i from.root).origin ≡ true → bit set global ≡ false
  pub returns : IsReturnType kind → (low < high) × (bit set execute ≡ true) × (of_heap i from ≡ false)
  pub off : kind ≡ 4 → ⊥
  pub calls : kind ≡ 9 → (root i from.root).origin ≡ Listing kinds.Call
  pub native : is_native (root i from.root).origin ≡ true → at ≡ cap_address (made_cap i from.root)

pub made_rooted : (i : Image) (d : Cap) (from : Shadow) (low high set at kind : ℕ) → IsMade low high set at kind d → d.shadow ≡ from → Allows i from low high set at kind → (IsBootType kind → AsBoot i d) → Rooted i d
made_rooted i d from low high set at kind m e a boots =
    record {
      order = omega (arith, a.order, m.base_is, m.top_is);
      from = let P : Shadow → Type 0 = λ s. is_root (root i s.root).origin ≡ true in subst P (sym e) a.roots;
      home = let P : Shadow → Type 0 = λ s. is_home (root i s.root).origin (root i s.root).owner ≡ true in subst P (sym e) a.home;
      legal = let P : ℕ → Type 0 = λ n. IsLegal n in subst P (sym m.rights_are) a.legal;
      range =
          let P : Shadow → Type 0 = λ s. of_heap i s ≡ false → ((root i s.root).base ≤ cap_base d) × (cap_top d ≤ (root i s.root).top) in
          subst P (sym e) (λ no. let q = a.range no in (omega (arith, q.0, m.base_is), omega (arith, q.1, m.top_is)));
      heap =
          let P : Shadow → Type 0 = λ s. of_heap i s ≡ true → (i.heap_base ≤ cap_base d) × (cap_top d ≤ i.heap_end) in
          subst P (sym e) (λ is. let q = a.heap is in (omega (arith, q.0, m.base_is), omega (arith, q.1, m.top_is)));
      rights =
          let P : Shadow → Type 0 = λ s. of_heap i s ≡ false → Within (cap_perms d) (root i s.root).rights in
          let Q : ℕ → Type 0 = λ n. of_heap i from ≡ false → Within n (root i from.root).rights in
          subst P (sym e) (subst Q (sym m.rights_are) a.rights);
      heap_rights =
          let P : Shadow → Type 0 = λ s. of_heap i s ≡ true → Within (cap_perms d) HEAP_RIGHTS in
          let Q : ℕ → Type 0 = λ n. of_heap i from ≡ true → Within n HEAP_RIGHTS in
          subst P (sym e) (subst Q (sym m.rights_are) a.heap_rights);
      local =
          let P : Shadow → Type 0 = λ s. has d store_local ≡ true → is_stack (root i s.root).origin ≡ true in
          let Q : ℕ → Type 0 = λ n. bit n store_local ≡ true → is_stack (root i from.root).origin ≡ true in
          subst P (sym e) (subst Q (sym m.rights_are) a.local);
      held =
          let P : Shadow → Type 0 = λ s. is_stack (root i s.root).origin ≡ true → has d global ≡ false in
          let Q : ℕ → Type 0 = λ n. is_stack (root i from.root).origin ≡ true → bit n global ≡ false in
          subst P (sym e) (subst Q (sym m.rights_are) a.held);
      returns = λ is.
          let K : ℕ → Type 0 = λ n. IsReturnType n in
          let says = a.returns (subst K m.kind_is is) in
          let P : Shadow → Type 0 = λ s. of_heap i s ≡ false in
          let Q : ℕ → Type 0 = λ n. bit n execute ≡ true in
          (omega (arith, says.0, m.base_is, m.top_is), subst Q (sym m.rights_are) says.1, subst P (sym e) says.2);
      source = λ four. absurd (a.off (sym m.kind_is ∙ four));
      boot = λ is. let K : ℕ → Type 0 = λ n. IsBootType n in boots (subst K m.kind_is is);
      calls = λ nine. let P : Shadow → Type 0 = λ s. (root i s.root).origin ≡ Listing kinds.Call in subst P (sym e) (a.calls (sym m.kind_is ∙ nine));
      native =
          let P : Shadow → Type 0 = λ s. is_native (root i s.root).origin ≡ true → cap_address d ≡ cap_address (made_cap i s.root) in
          subst P (sym e) (λ is. m.address_is ∙ a.native is);
    }

-- a derived capability that is tagged was exact
pub derive_exact : (high base length set address : ℕ) (from : Shadow) → base < 2 ^ 32 → base + length ≤ 2 ^ 32 → address < 2 ^ 32 → (derive high base length set address 0 from).tag ≡ true → (rounded_of base (base + length)).exact ≡ true
unfolding derive
derive_exact high base length set address from low fits small tagged =
    let there : (with_exact_bounds (with_address (root_cap high from) base) length).tag ≡ true = elim (bool_tells (with_exact_bounds (with_address (root_cap high from) base) length).tag) [
      | inl is ↦ is
      | inr none ↦
          let gone : (with_address (masked (with_exact_bounds (with_address (root_cap high from) base) length) set) address).tag ≡ false =
          address_away (masked (with_exact_bounds (with_address (root_cap high from) base) length) set) address (masked_away (with_exact_bounds (with_address (root_cap high from) base) length) set none) in
          absurd (let clash : true ≡ false = sym tagged ∙ gone in cc)
    ] in
    let says = exact_set (with_address (root_cap high from) base) length there in
    let at : cap_address (with_address (root_cap high from) base) ≡ base = (addressed (root_cap high from) base low (exact_set (with_address (root_cap high from) base) length there).0.tagged).at in
    let ends : base + min length (2 ^ 32 - base) ≡ base + length = omega (arith, fits) in
    let P : ℕ → Type 0 = λ n. (rounded_of n (end_at n length)).exact ≡ true in
    let Q : ℕ → Type 0 = λ n. (rounded_of base n).exact ≡ true in
    subst Q ends (subst P at says.1)

pub not_boot : IsBootType 0 → ⊥
not_boot (inl e) = let clash : 0 ≡ 1 = e in omega (arith, clash)
not_boot (inr (inl e)) = let clash : 0 ≡ 2 = e in omega (arith, clash)
not_boot (inr (inr (inl e))) = let clash : 0 ≡ 3 = e in omega (arith, clash)
not_boot (inr (inr (inr (inl e)))) = let clash : 0 ≡ 9 = e in omega (arith, clash)
not_boot (inr (inr (inr (inr e)))) = let clash : 0 ≡ 10 = e in omega (arith, clash)

not_return : IsReturnType 0 → ⊥
not_return (inl e) = let clash : 0 ≡ 4 = e in omega (arith, clash)
not_return (inr e) = let clash : 0 ≡ 5 = e in omega (arith, clash)

memory_made : (base length set address : ℕ) (from : Shadow) → SpellsPermissions memory_root set → base < 2 ^ 32 → base + length ≤ 2 ^ 32 → base ≤ address → address ≤ base + length → address < 2 ^ 32 → (derive memory_root base length set address 0 from).tag ≡ true
    → IsMade base (base + length) set address 0 (derive memory_root base length set address 0 from) × ((derive memory_root base length set address 0 from).shadow ≡ from)
memory_made base length set address from normal low fits starts ends small tagged =
    let made = derive_makes memory_root base length set address 0 from (record {
      root = memory_is_root;
      low = low;
      fits = fits;
      exact = derive_exact memory_root base length set address from low fits small tagged;
      from = starts;
      to = ends;
      small = small;
      kind_fits = inl refl;
    }) in
    let P : ℕ → Type 0 = λ n. IsMade base (base + length) n address 0 (derive memory_root base length set address 0 from) in
    (subst P normal made.0, made.1)

-- the stack that the switcher gives: up to `high`, with the shadow of a capability of the stack's root
pub stack_made : (i : Image) (t high : ℕ) (from : Shadow) → Partitioned i → (root i (stack_entry i t)).origin ≡ Listing kinds.Stack → from.root ≡ stack_entry i t → stack_base i t ≤ high → high ≤ stack_top i t
    → (derive memory_root (stack_base i t) (high - stack_base i t) STACK_RIGHTS high 0 from).tag ≡ true → IsStackUpTo i t high (derive memory_root (stack_base i t) (high - stack_base i t) STACK_RIGHTS high 0 from)
stack_made i t high from p kind_is roots low ends tagged =
    let are = p.stacks_are (stack_entry i t) kind_is in
    let end : stack_base i t + (high - stack_base i t) ≡ high = omega (arith, low) in
    let made = memory_made (stack_base i t) (high - stack_base i t) STACK_RIGHTS high from taken.stack.1 (omega (arith, low, ends, are.1)) (omega (arith, low, ends, are.1)) low (omega (arith, low)) (omega (arith, ends, are.1)) tagged in
    let d : Cap = derive memory_root (stack_base i t) (high - stack_base i t) STACK_RIGHTS high 0 from in
    let is : (root i from.root).origin ≡ Listing kinds.Stack = let P : ℕ → Type 0 = λ n. (root i n).origin ≡ Listing kinds.Stack in subst P (sym roots) kind_is in
    let no_heap : of_heap i from ≡ false = ap (λ b. b && not (nat_eq from.source 0)) (ap is_quota is) in
    let rooted : Rooted i (derive memory_root (stack_base i t) (high - stack_base i t) STACK_RIGHTS high 0 from) =
    made_rooted i (derive memory_root (stack_base i t) (high - stack_base i t) STACK_RIGHTS high 0 from) from (stack_base i t) (stack_base i t + (high - stack_base i t)) STACK_RIGHTS high 0 made.0 made.1 (record {
      order = omega (arith, low);
      roots = ap is_root is;
      home = ap (λ o. is_home o (root i from.root).owner) is;
      legal = taken.stack.0;
      range = λ no. let P : ℕ → Type 0 = λ n. ((root i n).base ≤ stack_base i t) × (stack_base i t + (high - stack_base i t) ≤ (root i n).top) in subst P (sym roots) (omega arith, omega (arith, low, ends));
      heap = λ heap. absurd (let clash : true ≡ false = sym heap ∙ no_heap in cc);
      rights = λ no b there. let P : ℕ → Type 0 = λ n. bit (root i n).rights b ≡ true in let Q : ℕ → Type 0 = λ n. bit n b ≡ true in subst P (sym roots) (subst Q (sym are.0) there);
      heap_rights = λ heap. absurd (let clash : true ≡ false = sym heap ∙ no_heap in cc);
      local = λ there. ap is_stack is;
      held = λ stack. stack_not_global;
      returns = λ any. absurd (not_return any);
      off = λ four. let clash : 0 ≡ 4 = four in omega (arith, clash);
      calls = λ nine. absurd (let clash : 0 ≡ 9 = nine in omega (arith, clash));
      native = λ native. absurd (let clash : true ≡ false = sym native ∙ ap is_native is in cc);
    }) (λ any. absurd (not_boot any)) in
    record {
      rooted = rooted;
      from = ap (λ (s : Shadow). s.root) made.1 ∙ roots;
      kind = let P : Shadow → Type 0 = λ s. (root i s.root).origin ≡ Listing kinds.Stack in subst P (sym made.1) is;
      unsealed = made.0.kind_is;
      ends = made.0.top_is ∙ end;
    }

-- the capability of an object of the heap
pub object_made : (i : Image) (next : ℕ) (r : Object) → Partitioned i → (root i r.quota).origin ≡ Listing kinds.Quota → ObjectFits i next r → 0 < r.length → (object_cap r).tag ≡ true → IsObjectCap i r (object_cap r)
object_made i next r p kind_is f some tagged =
    let small = p.heap_small in
    let from : Shadow = record { root = r.quota; source = r.number } in
    let made = memory_made r.base r.length HEAP_RIGHTS r.base (record { root = r.quota; source = r.number }) taken.heap.1 (omega (arith, f.high, small, some)) (omega (arith, f.high, small)) (omega arith) (omega arith) (omega (arith, f.high, small, some)) tagged in
    let numbered : not (nat_eq r.number 0) ≡ true = elim (eq_tells r.number 0) [ inl e ↦ absurd (omega (arith, e.1, f.first)) | inr e ↦ ap not e.0 ] in
    let in_heap : of_heap i (record { root = r.quota; source = r.number }) ≡ true = ap (λ b. b && not (nat_eq r.number 0)) (ap is_quota kind_is) ∙ numbered in
    let rooted : Rooted i (object_cap r) = made_rooted i (object_cap r) (record { root = r.quota; source = r.number }) r.base (r.base + r.length) HEAP_RIGHTS r.base 0 made.0 made.1 (record {
      order = omega arith;
      roots = ap is_root kind_is;
      home = ap (λ o. is_home o (root i r.quota).owner) kind_is;
      legal = taken.heap.0;
      range = λ no. absurd (let clash : true ≡ false = sym in_heap ∙ no in cc);
      heap = λ is. (omega (arith, f.low), f.high);
      rights = λ no. absurd (let clash : true ≡ false = sym in_heap ∙ no in cc);
      heap_rights = λ is b there. there;
      local = λ there. absurd (let clash : true ≡ false = sym there ∙ heap_not_local in cc);
      held = λ stack. absurd (let clash : true ≡ false = sym stack ∙ ap is_stack kind_is in cc);
      returns = λ any. absurd (not_return any);
      off = λ four. let clash : 0 ≡ 4 = four in omega (arith, clash);
      calls = λ nine. absurd (let clash : 0 ≡ 9 = nine in omega (arith, clash));
      native = λ native. absurd (let clash : true ≡ false = sym native ∙ ap is_native kind_is in cc);
    }) (λ any. absurd (not_boot any)) in
    record {
      rooted = rooted;
      from = ap (λ (s : Shadow). s.root) made.1;
      source = ap (λ (s : Shadow). s.source) made.1;
      low = made.0.base_is;
      high = made.0.top_is;
      heap = let P : Shadow → Type 0 = λ s. of_heap i s ≡ true in subst P (sym made.1) in_heap;
      unsealed = made.0.kind_is;
    }
