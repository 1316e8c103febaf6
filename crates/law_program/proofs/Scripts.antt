-- Any text is a script, or has a fault.
use Rattle.std.proofs.Common.{◌≡◌, ℕ, zero, suc, ◌+◌, ◌<◌, ◌≤◌, ◌^◌, ◌⊎◌, List, [], ◌∷◌, Bool, true, false, Option, Some, None, IsSome, inl, inr, refl, ap, sym, ◌∙◌, arith, length, take, drop, decimal}
use Rattle.std.specs.Str.{bytes_eq}
use Rattle.std.proofs.Math.ListN.{get_or}
use Rattle.std.proofs.lemmas.Slice.Eq.{bytes_eq-Decides}
use Rattle.law_lists.proofs.Tests.{bool_tells, eq_tells, le_tells, lt_tells}
use Rattle.ct_entry.specs.Listed.{DeviceRow}
use Rattle.def_profile.specs.declared.limits.TheConstants.{MOST_STEPS}
use Rattle.def_script.specs.declared.ScriptFault.TheVariants.{At}
use Rattle.def_script.specs.Script.{Row, BeginsWithRow, NoScriptLine, Due, ReadsAsScript, IsScriptFault, input_device_named, is_field_byte}
use Rattle.law_script.proofs.Lines.{line_long}
use Rattle.ct_script.specs.Fields.{IsNumber, NoNumber, IsName, NoName, row_of}
use Rattle.ct_script.specs.Lines.{LinesRow, Going, IsRefusal, dues_of, given_of, last_of, with_line}
use Rattle.ct_script.proofs.Accounts as account
use Rattle.ct_script.proofs.Accounts.{fault_is, goes_on, reads}
use Rattle.ct_script.proofs.Parts.{place_of, endless, other_end, no_digits, number_is, name_is, no_front, no_space, other_byte, no_step, no_count, too_many, no_name, no_byte, bad_byte, line_is}

-- ---- numbers

record Spelt (digits : List ℕ) : Type 0 where
  number : ℕ
  small : number < 2 ^ 32
  is : decimal number ≡ digits

abbrev Spells : ℕ → List ℕ → Type 0
Spells bound digits = Spelt digits ⊎ ((n : ℕ) → n < bound → decimal n ≡ digits → ⊥)

none_more : (n : ℕ) (digits : List ℕ) → bytes_eq (decimal n) digits ≡ false → ((k : ℕ) → k < n → decimal k ≡ digits → ⊥) → (k : ℕ) → k < suc n → decimal k ≡ digits → ⊥
none_more n digits other below k small is = elim (lt_tells k n) [
  | inl less ↦ below k less.1 is
  | inr last ↦ absurd (
      let same : k ≡ n = omega (arith, small, last.1) in
      let told : bytes_eq (decimal n) digits ≡ true = (bytes_eq-Decides (decimal n) digits).1 (ap (λ x. decimal x) (sym same) ∙ is) in
      let bad : false ≡ true = sym other ∙ told in
      cc)
]

number_below : (bound : ℕ) (digits : List ℕ) → bound ≤ 2 ^ 32 → Spells bound digits
number_below zero digits within = inr (λ n small is. absurd (omega (arith, small)))
number_below (suc n) digits within = elim (bool_tells (bytes_eq (decimal n) digits)) [
  | inl same ↦ inl (record { number = n; small = omega (arith, within); is = (bytes_eq-Decides (decimal n) digits).0 same })
  | inr other ↦ elim (number_below n digits (omega (arith, within))) [
    | inl found ↦ inl found
    | inr below ↦ inr (none_more n digits other below)
  ]
]

record Counted (text : List ℕ) (end : ℕ) : Type 0 where
  number : ℕ
  rest : List ℕ
  is : IsNumber text end number rest

number_there : (text : List ℕ) (end : ℕ) → is_field_byte end ≡ false → Counted text end ⊎ NoNumber text end
number_there text end ends = elim (lt_tells (place_of text) (length text)) [
  | inr long ↦ inr (endless text end ends long.1)
  | inl inside ↦ elim (eq_tells (get_or text (place_of text) 0) end) [
    | inr other ↦ inr (other_end text end ends inside.1 other.1)
    | inl here ↦ elim (number_below (2 ^ 32) (take (place_of text) text) (omega arith)) [
      | inl d ↦ inl (record { number = d.number; rest = drop (suc (place_of text)) text; is = number_is text end d.number d.small inside.1 here.1 d.is })
      | inr none ↦ inr (no_digits text end ends inside.1 none)
    ]
  ]
]

-- ---- names

record Called (text : List ℕ) : Type 0 where
  name : List ℕ
  rest : List ℕ
  is : IsName text name rest

name_there : (text : List ℕ) → Called text ⊎ NoName text
name_there text = elim (eq_tells (place_of text) 0) [
  | inl none ↦ inr (no_front text none.1)
  | inr some ↦ elim (lt_tells (place_of text) (length text)) [
    | inr long ↦ inr (no_space text long.1)
    | inl inside ↦ elim (eq_tells (get_or text (place_of text) 0) 32) [
      | inr other ↦ inr (other_byte text inside.1 other.1)
      | inl here ↦ inl (record { name = take (place_of text) text; rest = drop (suc (place_of text)) text; is = name_is text (above some.1) inside.1 here.1 })
    ]
  ]
]
  where
    above : (place_of text ≡ 0 → ⊥) → 0 < place_of text
    above differs = elim (lt_tells 0 (place_of text)) [ inl h ↦ h.1 | inr h ↦ absurd (differs (omega (arith, h.1))) ]

-- ---- lines

record Line (text : List ℕ) : Type 0 where
  row : Row
  rest : List ℕ
  is : BeginsWithRow text row rest

module _ (text : List ℕ) (some : 0 < length text) (step : Counted text 32) where
  module _ (counted : 1 ≤ step.number) (within : step.number ≤ MOST_STEPS) where
    by_byte : (name : Called step.rest) → Counted name.rest 10 ⊎ NoNumber name.rest 10 → Line text ⊎ NoScriptLine text
    by_byte name (inr none) = inr (no_byte text step.number step.rest name.name name.rest some step.is name.is none)
    by_byte name (inl byte) = elim (le_tells byte.number 255) [
      | inl small ↦ inl (record {
        row = row_of step.number name.name byte.number;
        rest = byte.rest;
        is = line_is text step.number step.rest name.name name.rest byte.number byte.rest step.is counted within name.is byte.is small.1;
      })
      | inr many ↦ inr (bad_byte text step.number step.rest name.name name.rest byte.number byte.rest some step.is name.is byte.is many.1)
    ]

    by_name : Called step.rest ⊎ NoName step.rest → Line text ⊎ NoScriptLine text
    by_name (inr none) = inr (no_name text step.number step.rest some step.is none)
    by_name (inl name) = by_byte name (number_there name.rest 10 refl)

  by_step : Line text ⊎ NoScriptLine text
  by_step = elim (lt_tells 0 step.number) [
    | inr zero_ ↦ inr (no_count text step.number step.rest some step.is (omega (arith, zero_.1)))
    | inl counted ↦ elim (le_tells step.number MOST_STEPS) [
      | inr many ↦ inr (too_many text step.number step.rest some step.is many.1)
      | inl within ↦ by_name (omega (arith, counted.1)) within.1 (name_there step.rest)
    ]
  ]

line_there : (text : List ℕ) → 0 < length text → Line text ⊎ NoScriptLine text
line_there text some = elim (number_there text 32 refl) [
  | inl step ↦ by_step text some step
  | inr none ↦ inr (no_step text some none)
]

-- ---- the whole text

pub record Spoken (devices : List DeviceRow) (text : List ℕ) : Type 0 where
  pub dues : List Due
  pub reads : ReadsAsScript devices text dues

pub record Faulty (devices : List DeviceRow) (text : List ℕ) : Type 0 where
  pub number : ℕ
  pub line : ℕ
  pub fault : IsScriptFault devices text number line

abbrev pub IsTold : List DeviceRow → List ℕ → Type 0
IsTold devices text = Spoken devices text ⊎ Faulty devices text

module _ (devices : List DeviceRow) (text : List ℕ) where
  refused : (left : List ℕ) (l : LinesRow) (number : ℕ) → Going devices text l left → IsRefusal devices l left (At number (length l.steps + 1)) → IsTold devices text
  refused left l number g r =
      inr (record { number = number; line = length l.steps + 1; fault = fault_is devices text left l (At number (length l.steps + 1)) g r })

  module _ (left : List ℕ) (l : LinesRow) (g : Going devices text l left)
      (next : (rest : List ℕ) (new : LinesRow) → length rest < length left → Going devices text new rest → IsTold devices text) where
    by_device : (line : Line left) → last_of l.steps ≤ line.row.step → (o : Option ℕ) → input_device_named devices line.row.name ≡ o → IsTold devices text
    by_device line order None none =
        refused left l 3 g (refl, inr (inr (refl, record { next = line.row; rest = line.rest; begins = line.is; order = order; unknown = none })))
    by_device line order (Some d) found =
        next line.rest (with_line l line.row.step (given_of devices line.row))
        (omega (arith, ap length line.is.text_is, line_long line.row line.rest))
        (goes_on devices text left line.rest l (with_line l line.row.step (given_of devices line.row)) g (record {
          row = line.row;
          begins = line.is;
          order = order;
          named = rw found refl;
          kept = refl;
        }))

    by_line : Line left ⊎ NoScriptLine left → IsTold devices text
    by_line (inr none) = refused left l 1 g (refl, inl (refl, none))
    by_line (inl line) = elim (le_tells (last_of l.steps) line.row.step) [
      | inl order ↦ by_device line order.1 (input_device_named devices line.row.name) refl
      | inr falls ↦ refused left l 2 g (refl, inr (inl (refl, record { next = line.row; rest = line.rest; begins = line.is; falls = falls.1 })))
    ]

  all_there : (n : ℕ) (left : List ℕ) (l : LinesRow) → length left ≤ n → Going devices text l left → IsTold devices text
  all_there n [] l small g = inl (record { dues = dues_of l.steps l.givens; reads = reads devices text l g })
  all_there zero (c ∷ cs) l small g = absurd (omega (arith, small))
  all_there (suc n) (c ∷ cs) l small g =
      by_line (c ∷ cs) l g (λ rest new less going. all_there n rest new (omega (arith, small, less)) going) (line_there (c ∷ cs) (omega arith))

pub script_or_fault : (devices : List DeviceRow) (text : List ℕ) → IsTold devices text
script_or_fault devices text = all_there devices text (length text) text (record { steps = []; givens = [] }) (omega arith) (account.starts devices text)
