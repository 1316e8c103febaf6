-- What is kept is the script that the text so far spells, and a line that breaks a rule is the text's fault.
use Rattle.std.proofs.Common.{◌≡◌, ℕ, ◌-◌, ◌<◌, ◌≤◌, ◌++◌, List, [], ◌∷◌, IsSome, ◌⊎◌, inl, inr, refl, ap, sym, ◌∙◌, subst, arith, append_assoc, length, length-append, map}
use Rattle.std.proofs.Math.ListN.{get_or}
use Rattle.std.specs.List.{AllPairs, flat_map}
use Rattle.std.proofs.lemmas.List.{append-nil, map-append, get_or-map, get_or_default, length-map}
use Rattle.std.proofs.lemmas.List.Elements.{All-push}
use Rattle.std.proofs.lemmas.List.Quantifiers.{all_pairs_push}
use Rattle.std.proofs.lemmas.List.Concat.{flat_map-cons}
use Rattle.std.proofs.lemmas.Grind.{flat_map-append}
use Rattle.std.proofs.lemmas.Bool.{cases_order}
use Rattle.ct_entry.specs.Listed.{DeviceRow}
use Rattle.def_script.specs.declared.ScriptFault.{ScriptFault}
use Rattle.def_script.specs.declared.ScriptFault.TheVariants.{At, NoMemory}
use Rattle.def_script.specs.Script.{Row, IsScriptRow, IsScript, NoScriptLine, BreaksScript, IsScriptCause, ReadsAsScript, due, input_device_named, last_step, spelled_row}
use Rattle.law_script.proofs.Lines.{line_long}
use Rattle.law_script.proofs.Scripts.{no_row}
use Rattle.ct_script.specs.Lines.{LinesRow, Going, Takes, Late, Lost, IsRefusal, AreLines, NeverFalls, dues_of, last_of, step_of, given_of}

abbrev NotLater : Row → Row → Type 0
NotLater a b = a.step ≤ b.step

-- ---- the last step

last_is : (rows : List Row) → last_of (map step_of rows) ≡ last_step rows
last_is [] = refl
last_is (r ∷ rs) =
    let size : length (map step_of (r ∷ rs)) ≡ length (r ∷ rs) = length-map (r ∷ rs) step_of in
    ap (λ n. get_or (map step_of (r ∷ rs)) (n - 1) 0) size ∙ get_or-map step_of (r ∷ rs) (length (r ∷ rs) - 1) no_row 0 (omega arith)

up_to_last : (rows : List Row) (k : ℕ) (d : Row) → AllPairs NotLater rows → k < length rows → (get_or rows k d).step ≤ last_step rows
up_to_last rows k d order inside =
    let here : get_or rows k d ≡ get_or rows k no_row = get_or_default rows k d no_row inside in
    elim (cases_order k (length rows - 1)) [
      | inl same ↦ omega (arith, ap (λ (r : Row). r.step) here, ap (λ n. (get_or rows n no_row).step) same)
      | inr (inl below) ↦ omega (arith, ap (λ (r : Row). r.step) here, order k (length rows - 1) no_row below (omega (arith, inside)))
      | inr (inr above) ↦ absurd (omega (arith, above, inside))
    ]

-- ---- one more line

text_more : (text left rest : List ℕ) (rows : List Row) (r : Row) → text ≡ flat_map spelled_row rows ++ left → left ≡ spelled_row r ++ rest → text ≡ flat_map spelled_row (rows ++ r ∷ []) ++ rest
text_more text left rest rows r whole first =
    whole
    ∙ ap (λ t. flat_map spelled_row rows ++ t) first
    ∙ sym (append_assoc (flat_map spelled_row rows) (spelled_row r) rest)
    ∙ ap (λ t. (flat_map spelled_row rows ++ t) ++ rest) (sym (flat_map-cons spelled_row r [] ∙ append-nil (spelled_row r)))
    ∙ ap (λ t. t ++ rest) (sym (flat_map-append spelled_row rows (r ∷ [])))

script_more : (devices : List DeviceRow) (rows : List Row) (r : Row) → IsScript devices rows → IsScriptRow r → last_step rows ≤ r.step → IsSome (input_device_named devices r.name) → IsScript devices (rows ++ r ∷ [])
script_more devices rows r is row order named = record {
  lines = All-push IsScriptRow rows r is.lines row;
  order = all_pairs_push NotLater rows r is.order (λ k d inside. omega (arith, up_to_last rows k d is.order inside, order));
  named = All-push (λ x. IsSome (input_device_named devices x.name)) rows r is.named named;
}

pub goes_on : (devices : List DeviceRow) (text left rest : List ℕ) (old new : LinesRow) → Going devices text old left → Takes devices old new left rest → Going devices text new rest
goes_on devices text left rest old new g t =
    let order : last_step g.rows ≤ t.row.step = omega (arith, t.order, ap last_of g.steps, last_is g.rows) in
    record {
      rows = g.rows ++ t.row ∷ [];
      script = script_more devices g.rows t.row g.script t.begins.row order t.named;
      text_is = text_more text left rest g.rows t.row g.text_is t.begins.text_is;
      steps = ap (λ (l : LinesRow). l.steps) t.kept ∙ ap (λ ss. ss ++ t.row.step ∷ []) g.steps ∙ sym (map-append step_of g.rows (t.row ∷ []));
      givens = ap (λ (l : LinesRow). l.givens) t.kept ∙ ap (λ gs. gs ++ given_of devices t.row ∷ []) g.givens ∙ sym (map-append (given_of devices) g.rows (t.row ∷ []));
      short = omega (arith, g.short, length-append g.rows (t.row ∷ []), line_long t.row rest, ap length t.begins.text_is);
    }

-- ---- a line that breaks a rule

pub fault_is : (devices : List DeviceRow) (text left : List ℕ) (old : LinesRow) (fault : ScriptFault) → Going devices text old left → IsRefusal devices old left fault → IsScriptCause devices text fault
fault_is devices text left old NoMemory g r = tt
fault_is devices text left old (At number line) g r =
    let last : last_of old.steps ≡ last_step g.rows = ap last_of g.steps ∙ last_is g.rows in
    record {
      rows = g.rows;
      left = left;
      script = g.script;
      text_is = g.text_is;
      line_is = omega (arith, r.0, ap length g.steps, length-map g.rows step_of);
      breaks = broken devices g.rows old.steps left number last r.1;
    }
  where
    broken : (devices : List DeviceRow) (rows : List Row) (steps left : List ℕ) (number : ℕ) → last_of steps ≡ last_step rows
        → ((number ≡ 1) × NoScriptLine left) ⊎ ((number ≡ 2) × Late steps left) ⊎ ((number ≡ 3) × Lost devices steps left) → BreaksScript devices rows left number
    broken devices rows steps left number last (inl bare) = inl bare
    broken devices rows steps left number last (inr (inl late)) =
        inr (inl (late.0, record { next = late.1.next; rest = late.1.rest; begins = late.1.begins; falls = omega (arith, late.1.falls, last) }))
    broken devices rows steps left number last (inr (inr lost)) =
        inr (inr (lost.0, record { next = lost.1.next; rest = lost.1.rest; begins = lost.1.begins; order = omega (arith, lost.1.order, last); unknown = lost.1.unknown }))

-- ---- the whole text

pub starts : (devices : List DeviceRow) (text : List ℕ) → Going devices text (record { steps = []; givens = [] }) text
starts devices text = record {
  rows = [];
  script = record {
    lines = λ k d inside. absurd (omega (arith, inside));
    order = λ i j d lt inside. absurd (omega (arith, inside));
    named = λ k d inside. absurd (omega (arith, inside));
  };
  text_is = refl;
  steps = refl;
  givens = refl;
  short = omega arith;
}

made : (devices : List DeviceRow) (rows : List Row) → dues_of (map step_of rows) (map (given_of devices) rows) ≡ map (due devices) rows
made devices [] = refl
made devices (r ∷ rs) = ap (λ ds. due devices r ∷ ds) (made devices rs)

pub reads : (devices : List DeviceRow) (text : List ℕ) (l : LinesRow) → Going devices text l [] → ReadsAsScript devices text (dues_of l.steps l.givens)
reads devices text l g = record {
  rows = g.rows;
  script = g.script;
  text_is = g.text_is ∙ append-nil (flat_map spelled_row g.rows);
  dues_are = ap (λ ss. dues_of ss l.givens) g.steps ∙ ap (λ gs. dues_of (map step_of g.rows) gs) g.givens ∙ made devices g.rows;
}

pub are_lines : (devices : List DeviceRow) (text left : List ℕ) (l : LinesRow) → Going devices text l left → AreLines l
are_lines devices text left l g = record {
  even = ap length g.steps ∙ length-map g.rows step_of ∙ sym (length-map g.rows (given_of devices)) ∙ sym (ap length g.givens);
  order = subst (λ ss. NeverFalls ss) (sym g.steps) (λ i j d lt inside.
      let size : length (map step_of g.rows) ≡ length g.rows = length-map g.rows step_of in
      let first = get_or-map step_of g.rows i no_row d (omega (arith, lt, inside, size)) in
      let second = get_or-map step_of g.rows j no_row d (omega (arith, inside, size)) in
      omega (arith, first, second, g.script.order i j no_row lt (omega (arith, inside, size))));
}
