-- Each capability of boot is what the image says.
use Rattle.std.proofs.Common.{ℕ, ◌≡◌, [], ◌||◌, ◌&&◌, ◌==◌, nat_le, nat_lt, nat_eq, Bool, not, inl, inr, true, false, refl, sym, ap, ◌∙◌, subst}
use Rattle.std.proofs.lemmas.Bool.{leb-true, ltb-true, and_parts, not-true}
use Rattle.def_words.specs.declared.Cap.{Cap}
use Rattle.def_words.specs.declared.Shadow.{Shadow}
use Rattle.def_words.specs.Authority.{cap_address}
use Rattle.def_words.specs.Narrows.{IsMade}
use Rattle.def_words.specs.Seals.{cap_seal}
use Rattle.def_words.specs.Permissions.{IsLegal, bit, global, store_local, execute}
use Rattle.ct_entry.specs.declared.rows.Owner.{Owner}
use Rattle.ct_entry.specs.declared.rows.Owner.TheVariants.{Compartment}
use Rattle.ct_entry.specs.declared.rows.Kind.TheVariants.{Call}
use Rattle.ct_entry.specs.Kinds.{is_call}
use Rattle.def_reach.specs.Roots.{Root, Origin, Listing, root_of, gate_for, is_root, is_native, is_owned, is_quota, is_stack}
use Rattle.def_reach.specs.Sharing.{Reaches}
use Rattle.def_machine.specs.Image.{Image, root, made_cap}
use Rattle.def_confined.specs.Capabilities.{Rooted, AsBoot, IsBootType, IsReturnType, is_home}
use Rattle.def_confined.specs.Partitioned.{BootMade}
use Rattle.def_confined.specs.Places.{Placed}
use Rattle.law_reach.proofs.Joins.{reaches_own, joined_is}
use Rattle.law_words.proofs.Rights.{taken}
use Rattle.law_moves.proofs.Boots.{as_boot, no_object, no_source}
use Rattle.law_moves.proofs.Makes.{made_rooted, not_boot}
use Rattle.law_examples.specs.Starting.{first_pcc}
use Rattle.law_examples.specs.Small.{small, made_0, made_1, made_2, made_3, made_4, made_5, made_6, made_7, made_8, made_9, made_11, made_12, made_13, made_14, made_18}
use Rattle.law_lists.proofs.Tests.{implied}
use Rattle.law_examples.proofs.Cases.{of_kind}
use Rattle.law_examples.proofs.Mades.{is_first, is_0, is_1, is_2, is_3, is_4, is_5, is_6, is_7, is_8, is_9, is_11, is_12, is_13, is_14, is_18}

-- what the image says of an entry's capability, as a test
abbrev pub is_return : ℕ → Bool
is_return k = (k == 4) || (k == 5)

abbrev pub asked : Root → ℕ → ℕ → ℕ → ℕ → Bool
asked r low high set kind =
    nat_le low high && (is_root r.origin && (is_home r.origin r.owner && (nat_le r.base low && (nat_le high r.top && ((not (bit set store_local) || is_stack r.origin) && ((not (is_stack r.origin) || not (bit set global)) && ((not (is_return kind) || (nat_lt low high && bit set execute)) && (not (kind == 4) && (not (kind == 9) || of_kind is_call r.origin)))))))))

return_of : (k : ℕ) → IsReturnType k → is_return k ≡ true
return_of k (inl e) = ap is_return e
return_of k (inr e) = ap is_return e

call_of : (o : Origin) → of_kind is_call o ≡ true → o ≡ Listing Call
call_of (Listing Call) h = refl
call_of o h = absurd (let clash : false ≡ true = h in cc)

-- the capability of an entry, of which the test says so, is rooted
pub by_entry_of : (i : Image) (n low high set at kind : ℕ) (d : Cap) → IsMade low high set at kind d × (d.shadow ≡ record { root = n; source = 0 }) → IsLegal set → set ≡ (root i n).rights → asked (root i n) low high set kind ≡ true → (is_native (root i n).origin ≡ true → at ≡ cap_address (made_cap i n)) → (IsBootType kind → AsBoot i d) → Rooted i d
by_entry_of i n low high set at kind d is legal same test native boots =
    let r : Root = root i n in
    let none : (is_quota r.origin && not (nat_eq 0 0)) ≡ false = no_source (is_quota r.origin) in
    let a = and_parts _ _ test in
    let b = and_parts _ _ a.1 in
    let c = and_parts _ _ b.1 in
    let e = and_parts _ _ c.1 in
    let f = and_parts _ _ e.1 in
    let g = and_parts _ _ f.1 in
    let h = and_parts _ _ g.1 in
    let j = and_parts _ _ h.1 in
    let k = and_parts _ _ j.1 in
    made_rooted i d (record { root = n; source = 0 }) low high set at kind is.0 is.1 (record {
      order = leb-true low high a.0;
      roots = b.0;
      home = c.0;
      legal = legal;
      range = λ no. (leb-true r.base low e.0, leb-true high r.top f.0);
      heap = λ any. absurd (let clash : true ≡ false = sym any ∙ none in cc);
      rights = λ no p there. subst (λ m. bit m p ≡ true) same there;
      heap_rights = λ any. absurd (let clash : true ≡ false = sym any ∙ none in cc);
      local = λ there. implied (bit set store_local) (is_stack r.origin) g.0 there;
      held = λ stack. not-true (bit set global) (implied (is_stack r.origin) (not (bit set global)) h.0 stack);
      returns = λ any. let both = and_parts (nat_lt low high) (bit set execute) (implied (is_return kind) _ j.0 (return_of kind any)) in (ltb-true low high both.0, both.1, none);
      off = λ four. let clash : false ≡ true = subst (λ m. not (m == 4) ≡ true) four k.0 in cc;
      calls = λ nine. call_of r.origin (implied (kind == 9) _ k.1 (ap (λ m. m == 9) nine));
      native = native;
    }) boots

-- and stands where a thread of its own compartment holds it
pub entry_placed : (i : Image) (b n k : ℕ) (S : Cap → Type 0) (d : Cap) → d.shadow ≡ record { root = n; source = 0 } → Rooted i d → cap_seal d ≡ k → (k ≡ 4 → ⊥) → (is_owned (root i n).origin ≡ true → (root i n).owner ≡ Compartment b) → (is_stack (root i n).origin ≡ true → S d)
    → Placed i [] (λ y. y ≡ b) S d
entry_placed i b n k S d s r seal off owner own = record {
  rooted = r;
  object = λ heap. absurd (let clash : true ≡ false = sym heap ∙ no_object i n d s in cc);
  owner =
      let P : Shadow → Type 0 = λ z. is_owned (root i z.root).origin ≡ true → (y : ℕ) → y ≡ b → Reaches i.entries (root i z.root).owner y in
      subst P (sym s) (λ owned y e. let Q : Owner → Type 0 = λ o. Reaches i.entries o y in subst Q (sym (owner owned)) (reaches_own i.entries b y (joined_is i.entries b y (sym e))));
  own = let P : Shadow → Type 0 = λ z. is_stack (root i z.root).origin ≡ true → S d in subst P (sym s) own;
  source = λ four. absurd (off (sym seal ∙ four));
}

pub rooted_0 : Rooted small made_0
unfolding root_of gate_for bit
rooted_0 = by_entry_of small 0 _ _ _ _ _ made_0 is_0 taken.service.0 refl refl (λ any. sym is_0.0.address_is) (λ any. as_boot small 0 made_0 refl is_0.1)

pub boot_0 : BootMade small 0 made_0
boot_0 = record { from = ap (λ (x : Shadow). x.root) is_0.1; source = ap (λ (x : Shadow). x.source) is_0.1; rooted = rooted_0 }

pub rooted_1 : Rooted small made_1
unfolding root_of gate_for bit
rooted_1 = by_entry_of small 1 _ _ _ _ _ made_1 is_1 taken.code.0 refl refl (λ any. sym is_1.0.address_is) (λ any. as_boot small 1 made_1 refl is_1.1)

pub boot_1 : BootMade small 1 made_1
boot_1 = record { from = ap (λ (x : Shadow). x.root) is_1.1; source = ap (λ (x : Shadow). x.source) is_1.1; rooted = rooted_1 }

pub rooted_2 : Rooted small made_2
unfolding root_of gate_for bit
rooted_2 = by_entry_of small 2 _ _ _ _ _ made_2 is_2 taken.globals.0 refl refl (λ any. sym is_2.0.address_is) (λ any. as_boot small 2 made_2 refl is_2.1)

pub boot_2 : BootMade small 2 made_2
boot_2 = record { from = ap (λ (x : Shadow). x.root) is_2.1; source = ap (λ (x : Shadow). x.source) is_2.1; rooted = rooted_2 }

pub rooted_3 : Rooted small made_3
unfolding root_of gate_for bit
rooted_3 = by_entry_of small 3 _ _ _ _ _ made_3 is_3 taken.service.0 refl refl (λ any. sym is_3.0.address_is) (λ any. as_boot small 3 made_3 refl is_3.1)

pub boot_3 : BootMade small 3 made_3
boot_3 = record { from = ap (λ (x : Shadow). x.root) is_3.1; source = ap (λ (x : Shadow). x.source) is_3.1; rooted = rooted_3 }

pub rooted_4 : Rooted small made_4
unfolding root_of gate_for bit
rooted_4 = by_entry_of small 4 _ _ _ _ _ made_4 is_4 taken.read_write.0 refl refl (λ any. sym is_4.0.address_is) (λ any. as_boot small 4 made_4 refl is_4.1)

pub boot_4 : BootMade small 4 made_4
boot_4 = record { from = ap (λ (x : Shadow). x.root) is_4.1; source = ap (λ (x : Shadow). x.source) is_4.1; rooted = rooted_4 }

pub rooted_5 : Rooted small made_5
unfolding root_of gate_for bit
rooted_5 = by_entry_of small 5 _ _ _ _ _ made_5 is_5 taken.globals.0 refl refl (λ any. sym is_5.0.address_is) (λ any. as_boot small 5 made_5 refl is_5.1)

pub boot_5 : BootMade small 5 made_5
boot_5 = record { from = ap (λ (x : Shadow). x.root) is_5.1; source = ap (λ (x : Shadow). x.source) is_5.1; rooted = rooted_5 }

pub rooted_6 : Rooted small made_6
unfolding root_of gate_for bit
rooted_6 = by_entry_of small 6 _ _ _ _ _ made_6 is_6 taken.export.0 refl refl (λ any. sym is_6.0.address_is) (λ any. as_boot small 6 made_6 refl is_6.1)

pub boot_6 : BootMade small 6 made_6
boot_6 = record { from = ap (λ (x : Shadow). x.root) is_6.1; source = ap (λ (x : Shadow). x.source) is_6.1; rooted = rooted_6 }

pub rooted_7 : Rooted small made_7
unfolding root_of gate_for bit
rooted_7 = by_entry_of small 7 _ _ _ _ _ made_7 is_7 taken.code.0 refl refl (λ any. sym is_7.0.address_is) (λ any. as_boot small 7 made_7 refl is_7.1)

pub boot_7 : BootMade small 7 made_7
boot_7 = record { from = ap (λ (x : Shadow). x.root) is_7.1; source = ap (λ (x : Shadow). x.source) is_7.1; rooted = rooted_7 }

pub rooted_8 : Rooted small made_8
unfolding root_of gate_for bit
rooted_8 = by_entry_of small 8 _ _ _ _ _ made_8 is_8 taken.export.0 refl refl (λ any. sym is_8.0.address_is) (λ any. as_boot small 8 made_8 refl is_8.1)

pub boot_8 : BootMade small 8 made_8
boot_8 = record { from = ap (λ (x : Shadow). x.root) is_8.1; source = ap (λ (x : Shadow). x.source) is_8.1; rooted = rooted_8 }

pub rooted_9 : Rooted small made_9
unfolding root_of gate_for bit
rooted_9 = by_entry_of small 9 _ _ _ _ _ made_9 is_9 taken.key.0 refl refl (λ any. sym is_9.0.address_is) (λ any. as_boot small 9 made_9 refl is_9.1)

pub boot_9 : BootMade small 9 made_9
boot_9 = record { from = ap (λ (x : Shadow). x.root) is_9.1; source = ap (λ (x : Shadow). x.source) is_9.1; rooted = rooted_9 }

pub rooted_11 : Rooted small made_11
unfolding root_of gate_for bit
rooted_11 = by_entry_of small 11 _ _ _ _ _ made_11 is_11 taken.code.0 refl refl (λ any. sym is_11.0.address_is) (λ any. as_boot small 11 made_11 refl is_11.1)

pub boot_11 : BootMade small 11 made_11
boot_11 = record { from = ap (λ (x : Shadow). x.root) is_11.1; source = ap (λ (x : Shadow). x.source) is_11.1; rooted = rooted_11 }

pub rooted_12 : Rooted small made_12
unfolding root_of gate_for bit
rooted_12 = by_entry_of small 12 _ _ _ _ _ made_12 is_12 taken.globals.0 refl refl (λ any. sym is_12.0.address_is) (λ any. as_boot small 12 made_12 refl is_12.1)

pub boot_12 : BootMade small 12 made_12
boot_12 = record { from = ap (λ (x : Shadow). x.root) is_12.1; source = ap (λ (x : Shadow). x.source) is_12.1; rooted = rooted_12 }

pub rooted_13 : Rooted small made_13
unfolding root_of gate_for bit
rooted_13 = by_entry_of small 13 _ _ _ _ _ made_13 is_13 taken.service.0 refl refl (λ any. sym is_13.0.address_is) (λ any. as_boot small 13 made_13 refl is_13.1)

pub boot_13 : BootMade small 13 made_13
boot_13 = record { from = ap (λ (x : Shadow). x.root) is_13.1; source = ap (λ (x : Shadow). x.source) is_13.1; rooted = rooted_13 }

pub rooted_14 : Rooted small made_14
unfolding root_of gate_for bit
rooted_14 = by_entry_of small 14 _ _ _ _ _ made_14 is_14 taken.globals.0 refl refl (λ any. sym is_14.0.address_is) (λ any. as_boot small 14 made_14 refl is_14.1)

pub boot_14 : BootMade small 14 made_14
boot_14 = record { from = ap (λ (x : Shadow). x.root) is_14.1; source = ap (λ (x : Shadow). x.source) is_14.1; rooted = rooted_14 }

pub rooted_18 : Rooted small made_18
unfolding root_of gate_for bit
rooted_18 = by_entry_of small 18 _ _ _ _ _ made_18 is_18 taken.stack.0 refl refl (λ any. sym is_18.0.address_is) (λ any. as_boot small 18 made_18 refl is_18.1)

pub boot_18 : BootMade small 18 made_18
boot_18 = record { from = ap (λ (x : Shadow). x.root) is_18.1; source = ap (λ (x : Shadow). x.source) is_18.1; rooted = rooted_18 }

pub rooted_first : Rooted small first_pcc
unfolding root_of gate_for bit
rooted_first = by_entry_of small 1 _ _ _ _ _ first_pcc is_first taken.code.0 refl refl (λ any. absurd (let clash : false ≡ true = any in cc)) (λ any. absurd (not_boot any))
