-- The exports of what is linked keep the limits of an image's rows.
use Rattle.std.proofs.Common.{ℕ, ◌≡◌, ◌+◌, ◌%◌, ◌^◌, ◌<◌, ◌≤◌, true, false, List, [], ◌∷◌, ◌++◌, length, map, refl, sym, ap, ap₂, ◌∙◌, subst, arith}
use Rattle.std.proofs.lemmas.List.{length-append}
use Rattle.std.specs.Prelude.{unwrap_or}
use Rattle.std.specs.List.{AllByRecursion}
use Rattle.def_profile.specs.declared.limits.TheConstants.{MOST_BYTES}
use Rattle.ct_entry.specs.declared.rows.Mode.{Mode}
use Rattle.ct_entry.specs.declared.rows.Mode.TheVariants.{Inherit, Disabled, Enabled}
use Rattle.def_texts.specs.Names.{is_name}
use Rattle.def_image.specs.declared.RawEntry.{RawEntry}
use Rattle.def_image.specs.Parts.{GateRow}
use Rattle.def_image.specs.Spelling.{posture_byte, passes_byte, raw_gate}
use Rattle.def_image.specs.Profile.{outside}
use Rattle.def_image.specs.Limits.{Bounds, compartment_bounds, library_bounds}
use Rattle.def_desc.specs.declared.tables.Passes.{Passes}
use Rattle.def_desc.specs.declared.tables.Passes.TheVariants.{Capabilities, Data}
use Rattle.def_desc.specs.Rows.{AtRow, ExportRow, DescCompartment, LexportRow, LibraryRow}
use Rattle.def_desc.specs.Named.{export_names, library_export_names}
use Rattle.def_desc.specs.Lawful.{AreNames, IsLawfulExport}
use Rattle.def_link.specs.Owners.{Built, begin_of, numbered}
use Rattle.def_link.specs.Slots.{passes_capabilities, export_gate, compartment_gate_rows, lexport_gate, library_gate_rows}
use Rattle.law_link.proofs.Builts.{Begins}
use Rattle.law_link.proofs.Fields.{New, all_new}
use Rattle.law_link.proofs.Along.{Along}
use Rattle.law_link.proofs.Rows.{GateGood}

posture_within : (m : Mode) → (m ≡ Inherit → ⊥) → outside 2 3 (posture_byte m) ≡ false
posture_within Inherit unlike = absurd (unlike refl)
posture_within Disabled unlike = refl
posture_within Enabled unlike = refl

any_posture : (m : Mode) → outside 1 3 (posture_byte m) ≡ false
any_posture Inherit = refl
any_posture Disabled = refl
any_posture Enabled = refl

passes_within : (p : Passes) → outside 1 2 (passes_byte (passes_capabilities p)) ≡ false
passes_within Capabilities = refl
passes_within Data = refl

-- the fields of an export that the kind of its owner bounds
record Within (b : Bounds) (x : GateRow) : Type 0 where
  stack : x.row.stack ≤ b.stack
  most : b.stack < 2 ^ 32
  args : x.row.args ≤ b.args
  posture : outside b.posture 3 (posture_byte x.row.posture) ≡ false
  passes : outside 1 b.passes (passes_byte x.row.capabilities) ≡ false

-- an export's offset is a word of the text
begins_good : (bounds : Bounds) (b : Built) (at : AtRow) (x : GateRow) → x.row.offset ≡ unwrap_or (begin_of b at) 0 → length b.text ≤ MOST_BYTES → x.row.entry < 2 ^ 32 → Begins b at → is_name x.name ≡ true
    → Within bounds x → GateGood bounds (length b.text) x
begins_good bounds b at x begun small few begins formed within =
    let is = begun ∙ ap (λ o. unwrap_or o 0) begins.is in
    record {
      named = formed;
      even = ap (λ n. n % 4) is ∙ begins.even;
      inside = omega (arith, begins.inside, is);
      small = small;
      stack = within.stack;
      most = within.most;
      args = within.args;
      posture = within.posture;
      passes = within.passes;
      entry_small = few;
    }

pub gate_good : (b : Built) (entry : ℕ) (x : ExportRow) → length b.text ≤ MOST_BYTES → entry < 2 ^ 32 → Begins b x.at → IsLawfulExport x → is_name x.name ≡ true
    → GateGood compartment_bounds (length b.text) (export_gate b entry x)
gate_good b entry x small few at law formed =
    begins_good compartment_bounds b x.at (export_gate b entry x) refl small few at formed
    (record { stack = law.stack; most = omega arith; args = law.args; posture = posture_within x.posture law.posture; passes = passes_within x.passes })

pub lexport_good : (b : Built) (entry : ℕ) (x : LexportRow) → length b.text ≤ MOST_BYTES → entry < 2 ^ 32 → Begins b x.at → is_name x.name ≡ true
    → GateGood library_bounds (length b.text) (lexport_gate b entry x)
lexport_good b entry x small few at formed =
    begins_good library_bounds b x.at (lexport_gate b entry x) refl small few at formed
    (record { stack = omega arith; most = omega arith; args = omega arith; posture = any_posture x.posture; passes = refl })

-- ---- the exports of an owner, numbered on from an entry

gates_good : (b : Built) (entry : ℕ) (xs : List ExportRow) → length b.text ≤ MOST_BYTES → entry + length xs < 2 ^ 32
    → AllByRecursion (Begins b) (map (λ (e : ExportRow). e.at) xs) → AllByRecursion IsLawfulExport xs → AllByRecursion (λ n. is_name n ≡ true) (map (λ (e : ExportRow). e.name) xs)
    → AllByRecursion (GateGood compartment_bounds (length b.text)) (numbered (export_gate b) entry xs)
gates_good b entry [] small few at law formed = tt
gates_good b entry (x ∷ xs) small few at law formed =
    (gate_good b entry x small (omega (arith, few)) at.0 law.0 formed.0, gates_good b (entry + 1) xs small (omega (arith, few)) at.1 law.1 formed.1)

lexports_good : (b : Built) (entry : ℕ) (xs : List LexportRow) → length b.text ≤ MOST_BYTES → entry + length xs < 2 ^ 32
    → AllByRecursion (Begins b) (map (λ (e : LexportRow). e.at) xs) → AllByRecursion (λ n. is_name n ≡ true) (map (λ (e : LexportRow). e.name) xs)
    → AllByRecursion (GateGood library_bounds (length b.text)) (numbered (lexport_gate b) entry xs)
lexports_good b entry [] small few at formed = tt
lexports_good b entry (x ∷ xs) small few at formed =
    (lexport_good b entry x small (omega (arith, few)) at.0 formed.0, lexports_good b (entry + 1) xs small (omega (arith, few)) at.1 formed.1)

unfoldable pub gate_title : GateRow → List ℕ
gate_title x = x.name

titles_kept : {A : Type 0} (gate : ℕ → A → GateRow) (name : A → List ℕ) → ((n : ℕ) (x : A) → gate_title (gate n x) ≡ name x)
    → (n : ℕ) (xs : List A) → map gate_title (numbered gate n xs) ≡ map name xs
titles_kept gate name is n [] = refl
titles_kept gate name is n (x ∷ xs) = ap₂ (λ t l. t ∷ l) (is n x) (titles_kept gate name is (n + 1) xs)

-- each has the number of its entry, counted on from the first
entries_numbered : {A : Type 0} (gate : ℕ → A → GateRow) → ((n : ℕ) (x : A) → (gate n x).row.entry ≡ n) → (first n : ℕ) (earlier : List RawEntry) (xs : List A) → n ≡ first + length earlier
    → Along raw_gate (λ before (x : GateRow). x.row.entry ≡ first + length before) earlier (numbered gate n xs)
unfolding Along
entries_numbered gate has first n earlier [] is = tt
entries_numbered gate has first n earlier (x ∷ xs) is =
    let one = length-append earlier (raw_gate (gate n x) ∷ []) in
    (has n x ∙ is, entries_numbered gate has first (n + 1) (earlier ++ raw_gate (gate n x) ∷ []) xs (omega (arith, is, one)))

-- good exports, under new names, each with its entry's number
pub record Gates (b : Bounds) (text first : ℕ) (gates : List GateRow) : Type 0 where
  pub each : AllByRecursion (GateGood b text) gates
  pub new : New [] (map gate_title gates)
  pub numbered : Along raw_gate (λ before (x : GateRow). x.row.entry ≡ first + length before) [] gates

pub compartment_gates_good : (b : Built) (entry : ℕ) (c : DescCompartment) → length b.text ≤ MOST_BYTES → entry + length c.exports < 2 ^ 32
    → AllByRecursion (Begins b) (map (λ (e : ExportRow). e.at) c.exports) → AllByRecursion IsLawfulExport c.exports → AreNames (export_names c)
    → Gates compartment_bounds (length b.text) entry (compartment_gate_rows b entry c)
unfolding gate_title
compartment_gates_good b entry c small few at law names = record {
  each = gates_good b entry c.exports small few at law names.formed;
  new = subst (New []) (sym (titles_kept (export_gate b) (λ (e : ExportRow). e.name) (λ n x. refl) entry c.exports)) (all_new (export_names c) names.once);
  numbered = entries_numbered (export_gate b) (λ n x. refl) entry entry [] c.exports (omega arith);
}

pub library_gates_good : (b : Built) (entry : ℕ) (l : LibraryRow) → length b.text ≤ MOST_BYTES → entry + length l.exports < 2 ^ 32
    → AllByRecursion (Begins b) (map (λ (e : LexportRow). e.at) l.exports) → AreNames (library_export_names l)
    → Gates library_bounds (length b.text) entry (library_gate_rows b entry l)
unfolding gate_title
library_gates_good b entry l small few at names = record {
  each = lexports_good b entry l.exports small few at names.formed;
  new = subst (New []) (sym (titles_kept (lexport_gate b) (λ (e : LexportRow). e.name) (λ n x. refl) entry l.exports)) (all_new (library_export_names l) names.once);
  numbered = entries_numbered (lexport_gate b) (λ n x. refl) entry entry [] l.exports (omega arith);
}
