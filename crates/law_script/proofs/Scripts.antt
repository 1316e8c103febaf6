-- Two accounts of one text go together line by line.
use Rattle.std.proofs.Common.{◌≡◌, ℕ, suc, ◌-◌, ◌<◌, ◌≤◌, ◌++◌, List, [], ◌∷◌, true, false, None, IsSome, ◌⊎◌, inl, inr, refl, ap, sym, ◌∙◌, subst, arith, append_assoc, length, length-append, map}
use Rattle.std.proofs.Math.ListN.{get_or, get_or-append}
use Rattle.std.proofs.Math.Seq.{get_or-append_seam}
use Rattle.std.specs.List.{All, flat_map}
use Rattle.std.proofs.lemmas.List.{append-nil}
use Rattle.std.proofs.lemmas.List.Concat.{flat_map-cons}
use Rattle.ct_entry.specs.Listed.{DeviceRow}
use Rattle.def_script.specs.Script.{Row, IsScriptRow, IsScript, BeginsWithRow, BreaksScript, IsScriptFault, ReadsAsScript, Due, due, input_device_named, last_step, spelled_row}
use Rattle.law_script.proofs.Lines.{same_line, line_long}

abbrev pub lines_of : List Row → List ℕ
lines_of rows = flat_map spelled_row rows

-- the first account goes as far as the second, or less far by these lines
record Ahead (rs qs : List Row) (left gone : List ℕ) : Type 0 where
  more : List Row
  rows : qs ≡ rs ++ more
  text : left ≡ lines_of more ++ gone

first_and_rest : (r : Row) (rs : List Row) (left : List ℕ) → lines_of (r ∷ rs) ++ left ≡ spelled_row r ++ (lines_of rs ++ left)
first_and_rest r rs left = ap (λ t. t ++ left) (flat_map-cons spelled_row r rs) ∙ append_assoc (spelled_row r) (lines_of rs) left

tail_rows : (r : Row) (rs : List Row) → All IsScriptRow (r ∷ rs) → All IsScriptRow rs
tail_rows r rs h = λ k d inside. h (suc k) d (omega (arith, inside))

ahead_more : (r q : Row) (rs qs : List Row) (left gone : List ℕ) → r ≡ q → Ahead rs qs left gone → Ahead (r ∷ rs) (q ∷ qs) left gone
ahead_more r q rs qs left gone same a = record { more = a.more; rows = ap (λ xs. q ∷ xs) a.rows ∙ ap (λ x. x ∷ rs ++ a.more) (sym same); text = a.text }

aligned : (rs qs : List Row) (left gone : List ℕ) → All IsScriptRow rs → All IsScriptRow qs → lines_of rs ++ left ≡ lines_of qs ++ gone → Ahead rs qs left gone ⊎ Ahead qs rs gone left
aligned [] qs left gone hr hq e = inl (record { more = qs; rows = refl; text = e })
aligned (r ∷ rs) [] left gone hr hq e = inr (record { more = r ∷ rs; rows = refl; text = sym e })
aligned (r ∷ rs) (q ∷ qs) left gone hr hq e =
    let here : BeginsWithRow (lines_of (r ∷ rs) ++ left) r (lines_of rs ++ left) = record { row = hr 0 r (omega arith); text_is = first_and_rest r rs left } in
    let there : BeginsWithRow (lines_of (r ∷ rs) ++ left) q (lines_of qs ++ gone) = record { row = hq 0 q (omega arith); text_is = e ∙ first_and_rest q qs gone } in
    let both = same_line (lines_of (r ∷ rs) ++ left) r q (lines_of rs ++ left) (lines_of qs ++ gone) here there in
    elim (aligned rs qs left gone (tail_rows r rs hr) (tail_rows q qs hq) both.1) [
      | inl a ↦ inl (ahead_more r q rs qs left gone both.0 a)
      | inr a ↦ inr (ahead_more q r qs rs gone left (sym both.0) a)
    ]

-- ---- nothing follows a line that breaks a rule

abbrev pub no_row : Row
no_row = record { step = 0; name = []; byte = 0 }

-- a row after others isn't earlier than the last of them
after_last : (devices : List DeviceRow) (rs : List Row) (m : Row) (ms : List Row) → IsScript devices (rs ++ m ∷ ms) → last_step rs ≤ m.step
after_last devices [] m ms is = omega arith
after_last devices (r ∷ rs) m ms is =
    let last : ℕ = length (r ∷ rs) - 1 in
    let inside : length (r ∷ rs) < length ((r ∷ rs) ++ m ∷ ms) = omega (arith, length-append (r ∷ rs) (m ∷ ms)) in
    let order = is.order last (length (r ∷ rs)) no_row (omega arith) inside in
    let here : get_or ((r ∷ rs) ++ m ∷ ms) last no_row ≡ get_or (r ∷ rs) last no_row = get_or-append (r ∷ rs) (m ∷ ms) no_row last (omega arith) in
    let there : get_or ((r ∷ rs) ++ m ∷ ms) (length (r ∷ rs)) no_row ≡ m = get_or-append_seam (r ∷ rs) m ms no_row in
    subst (λ (x : Row). (get_or (r ∷ rs) last no_row).step ≤ x.step) there (subst (λ (x : Row). x.step ≤ (get_or ((r ∷ rs) ++ m ∷ ms) (length (r ∷ rs)) no_row).step) here order)

is_named : (devices : List DeviceRow) (rs : List Row) (m : Row) (ms : List Row) → IsScript devices (rs ++ m ∷ ms) → IsSome (input_device_named devices m.name)
is_named devices rs m ms is =
    subst (λ (x : Row). IsSome (input_device_named devices x.name)) (get_or-append_seam rs m ms no_row) (is.named (length rs) no_row (omega (arith, length-append rs (m ∷ ms))))

unnamed : (devices : List DeviceRow) (m : Row) → IsSome (input_device_named devices m.name) → input_device_named devices m.name ≡ None → ⊥
unnamed devices m known none = let bad : false ≡ true = rw none at known in absurd (cc)

no_next : (devices : List DeviceRow) (rs : List Row) (m : Row) (ms : List Row) (left rest : List ℕ) (number : ℕ) → IsScript devices (rs ++ m ∷ ms) → BeginsWithRow left m rest → BreaksScript devices rs left number → ⊥
no_next devices rs m ms left rest number is begins (inl bare) = bare.1.none m rest begins
no_next devices rs m ms left rest number is begins (inr (inl late)) =
    let same = same_line left late.1.next m late.1.rest rest late.1.begins begins in
    omega (arith, late.1.falls, ap (λ (x : Row). x.step) same.0, after_last devices rs m ms is)
no_next devices rs m ms left rest number is begins (inr (inr lost)) =
    let same = same_line left lost.1.next m lost.1.rest rest lost.1.begins begins in
    unnamed devices m (is_named devices rs m ms is) (subst (λ (x : Row). input_device_named devices x.name ≡ None) same.0 lost.1.unknown)

-- nothing breaks a rule where nothing is left
not_empty : (devices : List DeviceRow) (rs : List Row) (left : List ℕ) (number : ℕ) → BreaksScript devices rs left number → left ≡ [] → ⊥
not_empty devices rs left number (inl bare) none = omega (arith, bare.1.some, ap length none)
not_empty devices rs left number (inr (inl late)) none =
    omega (arith, line_long late.1.next late.1.rest, ap length (sym none ∙ late.1.begins.text_is))
not_empty devices rs left number (inr (inr lost)) none =
    omega (arith, line_long lost.1.next lost.1.rest, ap length (sym none ∙ lost.1.begins.text_is))

-- ---- one account

begins_with : (m : Row) (ms : List Row) (left gone : List ℕ) → IsScriptRow m → left ≡ lines_of (m ∷ ms) ++ gone → BeginsWithRow left m (lines_of ms ++ gone)
begins_with m ms left gone row e = record { row = row; text_is = e ∙ first_and_rest m ms gone }

row_after : (rs : List Row) (m : Row) (ms : List Row) → All IsScriptRow (rs ++ m ∷ ms) → IsScriptRow m
row_after rs m ms h = subst (λ x. IsScriptRow x) (get_or-append_seam rs m ms no_row) (h (length rs) no_row (omega (arith, length-append rs (m ∷ ms))))

none_more : (more : List Row) (gone : List ℕ) → [] ≡ lines_of more ++ gone → (more ≡ []) × (gone ≡ [])
none_more [] gone e = (refl, sym e)
none_more (m ∷ ms) gone e = absurd (omega (arith, line_long m (lines_of ms ++ gone), ap length (e ∙ first_and_rest m ms gone)))

same_dues : (devices : List DeviceRow) (text : List ℕ) (first second : List Due) → (a : ReadsAsScript devices text first) → (b : ReadsAsScript devices text second) → a.rows ≡ b.rows → first ≡ second
same_dues devices text first second a b same = a.dues_are ∙ ap (λ rs. map (due devices) rs) same ∙ sym b.dues_are

same_rows : (rs qs : List Row) → Ahead rs qs [] [] → rs ≡ qs
same_rows rs qs a =
    let none = none_more a.more [] a.text in
    sym (append-nil rs) ∙ ap (λ m. rs ++ m) (sym none.0) ∙ sym a.rows

pub one_reading : (devices : List DeviceRow) (text : List ℕ) (first second : List Due) → ReadsAsScript devices text first → ReadsAsScript devices text second → first ≡ second
one_reading devices text first second a b =
    let whole : lines_of a.rows ++ [] ≡ lines_of b.rows ++ [] = append-nil (lines_of a.rows) ∙ sym a.text_is ∙ b.text_is ∙ sym (append-nil (lines_of b.rows)) in
    elim (aligned a.rows b.rows [] [] a.script.lines b.script.lines whole) [
      | inl x ↦ same_dues devices text first second a b (same_rows a.rows b.rows x)
      | inr x ↦ same_dues devices text first second a b (sym (same_rows b.rows a.rows x))
    ]

-- a fault, and a script that goes on from the same lines
stops : (devices : List DeviceRow) (rs qs : List Row) (left gone : List ℕ) (number : ℕ) (more : List Row) → IsScript devices qs → BreaksScript devices rs left number → qs ≡ rs ++ more → left ≡ lines_of more ++ gone → (more ≡ []) × (left ≡ gone)
stops devices rs qs left gone number [] is breaks rows text = (refl, text)
stops devices rs qs left gone number (m ∷ ms) is breaks rows text =
    let longer : IsScript devices (rs ++ m ∷ ms) = subst (λ xs. IsScript devices xs) rows is in
    absurd (no_next devices rs m ms left (lines_of ms ++ gone) number longer (begins_with m ms left gone (row_after rs m ms longer.lines) text) breaks)

pub no_reading : (devices : List DeviceRow) (text : List ℕ) (dues : List Due) (number line : ℕ) → IsScriptFault devices text number line → ReadsAsScript devices text dues → ⊥
no_reading devices text dues number line f a =
    let whole : lines_of f.rows ++ f.left ≡ lines_of a.rows ++ [] = sym f.text_is ∙ a.text_is ∙ sym (append-nil (lines_of a.rows)) in
    elim (aligned f.rows a.rows f.left [] f.script.lines a.script.lines whole) [
      | inl x ↦
          let end = stops devices f.rows a.rows f.left [] number x.more a.script f.breaks x.rows x.text in
          not_empty devices f.rows f.left number f.breaks end.1
      | inr x ↦ not_empty devices f.rows f.left number f.breaks (none_more x.more f.left x.text).1
    ]

same_number : (devices : List DeviceRow) (rs : List Row) (left : List ℕ) (number other : ℕ) → BreaksScript devices rs left number → BreaksScript devices rs left other → number ≡ other
same_number devices rs left number other (inl a) (inl b) = a.0 ∙ sym b.0
same_number devices rs left number other (inl a) (inr (inl b)) = absurd (a.1.none b.1.next b.1.rest b.1.begins)
same_number devices rs left number other (inl a) (inr (inr b)) = absurd (a.1.none b.1.next b.1.rest b.1.begins)
same_number devices rs left number other (inr (inl a)) (inl b) = absurd (b.1.none a.1.next a.1.rest a.1.begins)
same_number devices rs left number other (inr (inl a)) (inr (inl b)) = a.0 ∙ sym b.0
same_number devices rs left number other (inr (inl a)) (inr (inr b)) =
    let same = same_line left a.1.next b.1.next a.1.rest b.1.rest a.1.begins b.1.begins in
    absurd (omega (arith, a.1.falls, b.1.order, ap (λ (x : Row). x.step) same.0))
same_number devices rs left number other (inr (inr a)) (inl b) = absurd (b.1.none a.1.next a.1.rest a.1.begins)
same_number devices rs left number other (inr (inr a)) (inr (inl b)) =
    let same = same_line left a.1.next b.1.next a.1.rest b.1.rest a.1.begins b.1.begins in
    absurd (omega (arith, b.1.falls, a.1.order, ap (λ (x : Row). x.step) same.0))
same_number devices rs left number other (inr (inr a)) (inr (inr b)) = a.0 ∙ sym b.0

same_fault : (devices : List DeviceRow) (text : List ℕ) (number line other place : ℕ) (f : IsScriptFault devices text number line) (g : IsScriptFault devices text other place) → f.rows ≡ g.rows → f.left ≡ g.left → (number ≡ other) × (line ≡ place)
same_fault devices text number line other place f g rows left =
    let moved : BreaksScript devices g.rows g.left number = subst (λ t. BreaksScript devices g.rows t number) left (subst (λ rs. BreaksScript devices rs f.left number) rows f.breaks) in
    (same_number devices g.rows g.left number other moved g.breaks, omega (arith, f.line_is, g.line_is, ap length rows))

pub one_fault : (devices : List DeviceRow) (text : List ℕ) (number line other place : ℕ) → IsScriptFault devices text number line → IsScriptFault devices text other place → (number ≡ other) × (line ≡ place)
one_fault devices text number line other place f g =
    let whole : lines_of f.rows ++ f.left ≡ lines_of g.rows ++ g.left = sym f.text_is ∙ g.text_is in
    elim (aligned f.rows g.rows f.left g.left f.script.lines g.script.lines whole) [
      | inl x ↦
          let end = stops devices f.rows g.rows f.left g.left number x.more g.script f.breaks x.rows x.text in
          same_fault devices text number line other place f g (sym (x.rows ∙ ap (λ m. f.rows ++ m) end.0 ∙ append-nil f.rows)) end.1
      | inr x ↦
          let end = stops devices g.rows f.rows g.left f.left other x.more f.script g.breaks x.rows x.text in
          same_fault devices text number line other place f g (x.rows ∙ ap (λ m. g.rows ++ m) end.0 ∙ append-nil g.rows) (sym end.1)
    ]
