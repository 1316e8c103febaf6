-- The lines of the entries that break a rule, from one that comes into question to the next.
use Rattle.std.proofs.Common.{◌≡◌, ℕ, suc, ◌+◌, ◌*◌, ◌%◌, ◌<◌, ◌≤◌, ◌++◌, List, [], ◌∷◌, true, false, if◌then◌else◌, ◌⊎◌, refl, ap, sym, ◌∙◌, subst, arith, append_assoc, length, drop, drop-cons}
use Rattle.std.proofs.Math.ListN.{get_or}
use Rattle.std.proofs.lemmas.List.{append-nil, drop_all}
use Rattle.std.proofs.lemmas.Nat.{mod_below}
use Rattle.std.proofs.lemmas.List.Concat.{flat_map-cons}
use Rattle.ct_entry.specs.declared.rows.Entry.{Entry}
use Rattle.ct_entry.specs.declared.rows.Gate.{Gate}
use Rattle.ct_entry.specs.Listed.{Listed}
use Rattle.def_reach.specs.Roots.{gate_for}
use Rattle.def_policy.specs.Breaking.{breaking, breaking_from, breaks, counted}
use Rattle.def_policy.specs.Denials.{entry_line, entry_lines}
use Rattle.def_policy.specs.Rulings.{Ruling}
use Rattle.def_policy.specs.declared.Subject.TheVariants as subject
use Rattle.ct_policy.specs.Keys.{IsIdle, IsIndex, IndexRow, Serves, asked, key_of, keys_from}
use Rattle.ct_policy.specs.Links.{AreLinked, LinksRow, place_from}
use Rattle.ct_policy.proofs.Keyed.{IsKeyed, below, none_is, one_is, others_idle, others_unsummed}
use Rattle.ct_policy.proofs.Linked.{even_keys, is_later, lands_at, passes_over}

-- the text so far, and then the lines of the entries from this place on
pub record Along (e : Listed) (r : Ruling) (line : ℕ) (start : List ℕ) (place sum : ℕ) (text : List ℕ) : Type 0 where
  pub text_is : text ++ entry_lines line (breaking_from e r (place + 1) sum (drop place e.rows)) ≡ start ++ entry_lines line (breaking e r)
  pub small : sum ≤ 4294967296 * place

begins : (e : Listed) (r : Ruling) (line : ℕ) (start : List ℕ) → Along e r line start 0 0 start
unfolding breaking
begins e r line start = record { text_is = refl; small = omega arith }

next_entry : (e : Listed) (r : Ruling) (place sum : ℕ) (x : Entry) → place < length e.rows → x ≡ get_or e.rows place x
    → breaking_from e r (place + 1) sum (drop place e.rows)
    ≡ (if breaks r (place + 1) (sum + counted r.subject x) x (gate_for e.gates (place + 1)) then (place + 1) ∷ [] else []) ++ breaking_from e r (suc place + 1) (sum + counted r.subject x) (drop (suc place) e.rows)
next_entry e r place sum x inside is =
    let here : drop place e.rows ≡ x ∷ drop (suc place) e.rows = drop-cons e.rows place x inside ∙ ap (λ y. y ∷ drop (suc place) e.rows) (sym is) in
    let on : place + 1 + 1 ≡ suc place + 1 = omega arith in
    rw here (ap (λ n. (if breaks r (place + 1) (sum + counted r.subject x) x (gate_for e.gates (place + 1)) then (place + 1) ∷ [] else []) ++ breaking_from e r n (sum + counted r.subject x) (drop (suc place) e.rows)) on)

breaks_here : (e : Listed) (r : Ruling) (line : ℕ) (start text new : List ℕ) (place sum : ℕ) (x : Entry) (g : Gate) → place < length e.rows → x ≡ get_or e.rows place x
    → g ≡ gate_for e.gates (place + 1) → counted r.subject x < 4294967296
    → breaks r (place + 1) (sum + counted r.subject x) x g ≡ true → new ≡ text ++ entry_line line (place + 1)
    → Along e r line start place sum text → Along e r line start (suc place) (sum + counted r.subject x) new
breaks_here e r line start text new place sum x g inside is gate few yes_here added a =
    let told : breaks r (place + 1) (sum + counted r.subject x) x (gate_for e.gates (place + 1)) ≡ true = ap (λ y. breaks r (place + 1) (sum + counted r.subject x) x y) (sym gate) ∙ yes_here in
    let later : List ℕ = breaking_from e r (suc place + 1) (sum + counted r.subject x) (drop (suc place) e.rows) in
    let next : breaking_from e r (place + 1) sum (drop place e.rows) ≡ (place + 1) ∷ later = next_entry e r place sum x inside is ∙ ap (λ b. (if b then (place + 1) ∷ [] else []) ++ later) told in
    record {
      text_is =
          ap (λ t. t ++ entry_lines line later) added
          ∙ append_assoc text (entry_line line (place + 1)) (entry_lines line later)
          ∙ ap (λ t. text ++ t) (sym (ap (entry_lines line) next ∙ flat_map-cons (entry_line line) (place + 1) later))
          ∙ a.text_is;
      small = omega (arith, a.small, few);
    }

holds_here : (e : Listed) (r : Ruling) (line : ℕ) (start text : List ℕ) (place sum : ℕ) (x : Entry) (g : Gate) → place < length e.rows → x ≡ get_or e.rows place x
    → g ≡ gate_for e.gates (place + 1) → counted r.subject x < 4294967296
    → breaks r (place + 1) (sum + counted r.subject x) x g ≡ false
    → Along e r line start place sum text → Along e r line start (suc place) (sum + counted r.subject x) text
holds_here e r line start text place sum x g inside is gate few no_here a =
    let told : breaks r (place + 1) (sum + counted r.subject x) x (gate_for e.gates (place + 1)) ≡ false = ap (λ y. breaks r (place + 1) (sum + counted r.subject x) x y) (sym gate) ∙ no_here in
    let later : List ℕ = breaking_from e r (suc place + 1) (sum + counted r.subject x) (drop (suc place) e.rows) in
    let next : breaking_from e r (place + 1) sum (drop place e.rows) ≡ later = next_entry e r place sum x inside is ∙ ap (λ b. (if b then (place + 1) ∷ [] else []) ++ later) told in
    record {
      text_is = ap (λ ns. text ++ entry_lines line ns) (sym next) ∙ a.text_is;
      small = omega (arith, a.small, few);
    }

ends : (e : Listed) (r : Ruling) (line : ℕ) (start text : List ℕ) (place sum : ℕ) → length e.rows ≤ place → Along e r line start place sum text → text ≡ start ++ entry_lines line (breaking e r)
ends e r line start text place sum past a =
    let none : breaking_from e r (place + 1) sum (drop place e.rows) ≡ [] = ap (breaking_from e r (place + 1) sum) (drop_all place e.rows past) in
    sym (append-nil text) ∙ ap (λ ns. text ++ entry_lines line ns) (sym none) ∙ a.text_is

-- ---- the walk

-- the same, where an entry stands that falls where the key does
pub record Walks (e : Listed) (r : Ruling) (l : LinksRow) (key line : ℕ) (start : List ℕ) (place sum : ℕ) (text : List ℕ) : Type 0 where
  pub along : Along e r line start place sum text
  pub falls : place < length e.rows → get_or (keys_from e.gates 1 e.rows) place 0 % length l.firsts ≡ key % length l.firsts

moves : (e : Listed) (r : Ruling) (l : LinksRow) (key line : ℕ) (start : List ℕ) (from to sum : ℕ) (text : List ℕ) → Serves e r l key
    → to ≡ place_from (length l.firsts) (key % length l.firsts) from (drop from (keys_from e.gates 1 e.rows))
    → Along e r line start from sum text → Walks e r l key line start to sum text
moves e r l key line start from to sum text s is a =
    let keys : List ℕ = keys_from e.gates 1 e.rows in
    let size : ℕ = length l.firsts in
    let later : from ≤ place_from size (key % size) from (drop from keys) = is_later size (key % size) from (drop from keys) in
    record {
      along = record {
        text_is = ap (λ ns. text ++ entry_lines line ns) (sym (passes_over e r size (key % size) from to sum s.idle is)) ∙ a.text_is;
        small = omega (arith, a.small, later, is);
      };
      falls = λ inside. lands_at keys size (key % size) from to is (omega (arith, inside, even_keys e.gates 1 e.rows));
    }

pub sets_out : (e : Listed) (r : Ruling) (l : LinksRow) (key line : ℕ) (start : List ℕ) (to : ℕ) → Serves e r l key → to ≡ get_or l.firsts (key % length l.firsts) 0
    → Walks e r l key line start to 0 start
sets_out e r l key line start to s is =
    moves e r l key line start 0 to 0 start s (is ∙ s.linked.firsts_are (key % length l.firsts) (mod_below key (length l.firsts) s.some)) (begins e r line start)

next_is : (e : Listed) (r : Ruling) (l : LinksRow) (key place next : ℕ) → Serves e r l key → place < length e.rows → next ≡ get_or l.nexts place 0
    → next ≡ place_from (length l.firsts) (get_or (keys_from e.gates 1 e.rows) place 0 % length l.firsts) (suc place) (drop (suc place) (keys_from e.gates 1 e.rows))
next_is e r l key place next s inside is =
    let keys : List ℕ = keys_from e.gates 1 e.rows in
    let on : place + 1 ≡ suc place = omega arith in
    is ∙ s.linked.nexts_are place (omega arith) (omega (arith, inside, even_keys e.gates 1 e.rows))
    ∙ ap (λ n. place_from (length l.firsts) (get_or keys place 0 % length l.firsts) n (drop n keys)) on

pub is_after : (e : Listed) (r : Ruling) (l : LinksRow) (key place next : ℕ) → Serves e r l key → place < length e.rows → next ≡ get_or l.nexts place 0 → place < next
is_after e r l key place next s inside is =
    let keys : List ℕ = keys_from e.gates 1 e.rows in
    let there : suc place ≤ place_from (length l.firsts) (get_or keys place 0 % length l.firsts) (suc place) (drop (suc place) keys) =
    is_later (length l.firsts) (get_or keys place 0 % length l.firsts) (suc place) (drop (suc place) keys) in
    omega (arith, there, next_is e r l key place next s inside is)

on_from : (e : Listed) (r : Ruling) (l : LinksRow) (key line : ℕ) (start : List ℕ) (place next sum : ℕ) (text : List ℕ) → Serves e r l key → place < length e.rows
    → next ≡ get_or l.nexts place 0 → get_or (keys_from e.gates 1 e.rows) place 0 % length l.firsts ≡ key % length l.firsts
    → Along e r line start (suc place) sum text → Walks e r l key line start next sum text
on_from e r l key line start place next sum text s inside is falls a =
    let keys : List ℕ = keys_from e.gates 1 e.rows in
    moves e r l key line start (suc place) next sum text s
    (next_is e r l key place next s inside is ∙ ap (λ k. place_from (length l.firsts) k (suc place) (drop (suc place) keys)) falls) a

pub next_breaks : (e : Listed) (r : Ruling) (l : LinksRow) (key line : ℕ) (start text new : List ℕ) (place next sum more : ℕ) (x : Entry) (g : Gate) → Serves e r l key
    → place < length e.rows → x ≡ get_or e.rows place x → g ≡ gate_for e.gates (place + 1) → more ≡ counted r.subject x → more < 4294967296
    → breaks r (place + 1) (sum + more) x g ≡ true → new ≡ text ++ entry_line line (place + 1) → next ≡ get_or l.nexts place 0
    → Walks e r l key line start place sum text → Walks e r l key line start next (sum + more) new
next_breaks e r l key line start text new place next sum more x g s inside is gate counts few yes_here added far w =
    let yes_there : breaks r (place + 1) (sum + counted r.subject x) x g ≡ true = ap (λ m. breaks r (place + 1) (sum + m) x g) (sym counts) ∙ yes_here in
    subst (λ m. Walks e r l key line start next (sum + m) new) (sym counts)
    (on_from e r l key line start place next (sum + counted r.subject x) new s inside far (w.falls inside)
    (breaks_here e r line start text new place sum x g inside is gate (omega (arith, few, counts)) yes_there added w.along))

pub next_holds : (e : Listed) (r : Ruling) (l : LinksRow) (key line : ℕ) (start text : List ℕ) (place next sum more : ℕ) (x : Entry) (g : Gate) → Serves e r l key
    → place < length e.rows → x ≡ get_or e.rows place x → g ≡ gate_for e.gates (place + 1) → more ≡ counted r.subject x → more < 4294967296
    → breaks r (place + 1) (sum + more) x g ≡ false → next ≡ get_or l.nexts place 0
    → Walks e r l key line start place sum text → Walks e r l key line start next (sum + more) text
next_holds e r l key line start text place next sum more x g s inside is gate counts few no_here far w =
    let no_there : breaks r (place + 1) (sum + counted r.subject x) x g ≡ false = ap (λ m. breaks r (place + 1) (sum + m) x g) (sym counts) ∙ no_here in
    subst (λ m. Walks e r l key line start next (sum + m) text) (sym counts)
    (on_from e r l key line start place next (sum + counted r.subject x) text s inside far (w.falls inside)
    (holds_here e r line start text place sum x g inside is gate (omega (arith, few, counts)) no_there w.along))

pub arrives : (e : Listed) (r : Ruling) (l : LinksRow) (key line : ℕ) (start text : List ℕ) (place sum : ℕ) → length e.rows ≤ place
    → Walks e r l key line start place sum text → text ≡ start ++ entry_lines line (breaking e r)
arrives e r l key line start text place sum past w = ends e r line start text place sum past w.along

-- a step finds the place of the next entry
pub has_next : (e : Listed) (r : Ruling) (l : LinksRow) (key place : ℕ) → Serves e r l key → place < length e.rows → place < length l.nexts
has_next e r l key place s inside = omega (arith, inside, s.linked.even, even_keys e.gates 1 e.rows)

-- ---- what the index has for a rule

pub serves_sum : (e : Listed) (r : Ruling) (x : IndexRow) (n : ℕ) → IsIndex e x → r.subject ≡ subject.Total n → Serves e r x.sorts 4
serves_sum e r x n index is = record {
  some = omega (arith, index.sorts_are.whole);
  linked = subst (λ size. AreLinked (keys_from e.gates 1 e.rows) size 0 x.sorts) (sym index.sorts_are.whole) index.sorts_are;
  idle = subst (λ size. (y : Entry) (g : Gate) → (key_of y g % size ≡ 4 % size → ⊥) → IsIdle r y g) (sym index.sorts_are.whole) (others_unsummed r n is);
}

pub serves_key : (e : Listed) (r : Ruling) (x : IndexRow) (key : ℕ) → IsIndex e x → IsKeyed r.subject → key ≡ asked r.subject → Serves e r x.subjects key
serves_key e r x key index keyed is = record {
  some = index.some;
  linked = index.subjects_are;
  idle = subst (λ k. (y : Entry) (g : Gate) → (key_of y g % length x.subjects.firsts ≡ k % length x.subjects.firsts → ⊥) → IsIdle r y g) (sym is) (others_idle r (length x.subjects.firsts) keyed);
}

-- ---- no line, and one

silent : (e : Listed) (r : Ruling) (line : ℕ) (text : List ℕ) → breaking e r ≡ [] → text ≡ text ++ entry_lines line (breaking e r)
silent e r line text none = sym (append-nil text) ∙ ap (λ ns. text ++ entry_lines line ns) (sym none)

pub within_limits : (e : Listed) (r : Ruling) (x : IndexRow) (n line : ℕ) (text : List ℕ) → IsIndex e x → r.subject ≡ subject.Total n → x.total ≤ n → text ≡ text ++ entry_lines line (breaking e r)
within_limits e r x n line text index is low = silent e r line text (below e r n is (omega (arith, low, index.total_is)))

pub no_such : (e : Listed) (r : Ruling) (line number : ℕ) (text : List ℕ) → r.subject ≡ subject.Data number → (number < 1) ⊎ (length e.rows < number)
    → text ≡ text ++ entry_lines line (breaking e r)
no_such e r line number text is out = silent e r line text (none_is e r number is out)

pub one_holds : (e : Listed) (r : Ruling) (line number place : ℕ) (text : List ℕ) (x : Entry) (g : Gate) → r.subject ≡ subject.Data number → number ≡ place + 1
    → place < length e.rows → x ≡ get_or e.rows place x → g ≡ gate_for e.gates (place + 1) → breaks r number 0 x g ≡ false
    → text ≡ text ++ entry_lines line (breaking e r)
one_holds e r line number place text x g data_is is inside here gate no_here =
    let gated : gate_for e.gates number ≡ g = ap (gate_for e.gates) is ∙ sym gate in
    silent e r line text (one_is e r number place x data_is is inside here
    ∙ ap (λ y. if breaks r number 0 x y then number ∷ [] else []) gated
    ∙ ap (λ b. if b then number ∷ [] else []) no_here)

pub one_breaks : (e : Listed) (r : Ruling) (line number place : ℕ) (text new : List ℕ) (x : Entry) (g : Gate) → r.subject ≡ subject.Data number → number ≡ place + 1
    → place < length e.rows → x ≡ get_or e.rows place x → g ≡ gate_for e.gates (place + 1) → breaks r number 0 x g ≡ true → new ≡ text ++ entry_line line number
    → new ≡ text ++ entry_lines line (breaking e r)
one_breaks e r line number place text new x g data_is is inside here gate yes_here added =
    let gated : gate_for e.gates number ≡ g = ap (gate_for e.gates) is ∙ sym gate in
    let told : breaking e r ≡ number ∷ [] = one_is e r number place x data_is is inside here
    ∙ ap (λ y. if breaks r number 0 x y then number ∷ [] else []) gated
    ∙ ap (λ b. if b then number ∷ [] else []) yes_here in
    added ∙ ap (λ t. text ++ t) (sym (ap (entry_lines line) told ∙ flat_map-cons (entry_line line) number [] ∙ append-nil (entry_line line number)))
