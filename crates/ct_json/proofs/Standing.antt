-- What nodes stand for, whatever nodes follow them.
use Rattle.std.proofs.Common.{◌≡◌, ℕ, zero, suc, ◌+◌, ◌-◌, ◌*◌, ◌<◌, ◌≤◌, List, [], ◌∷◌, ◌++◌, length, drop, Some, refl, ap, ap₂, ◌∙◌, append_assoc, length-append, arith}
use Rattle.std.proofs.Math.Seq.{drop-append_seam}
use Rattle.std.specs.Prelude.{Bool}
use Rattle.serde_json.specs.Data as value
use Rattle.serde_json.specs.Data.{Num, Data, Items, item, no_items, Members, no_members, put}
use Rattle.serde_json.specs.Read.{number_of}
use Rattle.ct_json.specs.Rows.{Row, null, boolean, number, text, list, object, key, put_all, inside, value_in, items_in, pairs_in}
use Rattle.ct_json.specs.Standing.{AreValue, AreItems, AreMembers}

-- ---- a value of one node

turn : (turns : ℕ) → 2 ≤ turns → (n : ℕ) × (turns ≡ suc n)
turn zero h = absurd (omega arith)
turn (suc n) h = (n, refl)

pub AreValue-null : AreValue (null ∷ []) value.null
AreValue-null = record {
  some = omega arith;
  span = λ more. refl;
  value = λ turns more h. let t = turn turns h in rw t.1;
}

pub AreValue-boolean : (b : Bool) → AreValue (boolean b ∷ []) (value.boolean b)
AreValue-boolean b = record {
  some = omega arith;
  span = λ more. refl;
  value = λ turns more h. let t = turn turns h in rw t.1;
}

pub AreValue-number : (s : List ℕ) (n : Num) → number_of s ≡ Some n → AreValue (number s ∷ []) (value.number n)
AreValue-number s n e = record {
  some = omega arith;
  span = λ more. refl;
  value = λ turns more h. let t = turn turns h in rw (t.1, e);
}

pub AreValue-text : (s : List ℕ) → AreValue (text s ∷ []) (value.string s)
AreValue-text s = record {
  some = omega arith;
  span = λ more. refl;
  value = λ turns more h. let t = turn turns h in rw t.1;
}

-- ---- a list and an object, before what stands inside

pub AreValue-list : (rows : List Row) (ds : Items) → AreItems rows ds
    → AreValue (list (length rows) ∷ rows) (value.array ds)
AreValue-list rows ds are = record {
  some = omega arith;
  span = λ more. refl;
  value = λ turns more h.
      let t = turn turns (omega arith) in
      rw t.1 (ap value.array (are t.0 more (omega (arith, t.1))));
}

pub AreValue-object : (rows : List Row) (ms : Members) → AreMembers rows ms
    → AreValue (object (length rows) ∷ rows) (value.object ms)
AreValue-object rows ms are = record {
  some = omega arith;
  span = λ more. refl;
  value = λ turns more h.
      let t = turn turns (omega arith) in
      rw t.1 (ap value.object (are t.0 more (omega (arith, t.1))));
}

-- ---- the first items

-- the nodes are the first items: `before` puts them before the others
pub record AreFirstItems (rows : List Row) (before : Items → Items) : Type 0 where
  pub count : ℕ
  pub counted : count ≤ length rows
  pub items : (turns n : ℕ) (more : List Row) → 2 * length rows < turns
      → items_in turns (length rows + n) (rows ++ more) ≡ before (items_in (turns - count) n more)

pub AreFirstItems-none : AreFirstItems [] (λ ds. ds)
AreFirstItems-none = record {
  count = 0;
  counted = omega arith;
  items = λ turns n more h. ap₂ (λ t m. items_in t m more) (omega arith) (omega arith);
}

items_in-none : (turns : ℕ) (more : List Row) → items_in turns 0 more ≡ no_items
items_in-none zero more = refl
items_in-none (suc n) more = refl

-- one item, and what follows it
items_in-item : (rows : List Row) (d : Data) → AreValue rows d → (turns n : ℕ) (more : List Row)
    → 2 * length rows < turns
    → items_in turns (length rows + n) (rows ++ more) ≡ item d (items_in (turns - 1) n more)
items_in-item [] d are turns n more h = absurd (omega (arith, are.some))
items_in-item (x ∷ xs) d are zero n more h = absurd (omega arith)
items_in-item (x ∷ xs) d are (suc turns) n more h =
    let inner : inside x ≡ length xs = omega (arith, are.span more) in
    let here : value_in turns (x ∷ (xs ++ more)) ≡ d = are.value turns more (omega arith) in
    let count : length (x ∷ xs) + n ≡ suc (length xs + n) = omega arith in
    let left : (length xs + n) - inside x ≡ n = omega arith in
    let after : drop (inside x) (xs ++ more) ≡ more = ap (λ k. drop k (xs ++ more)) inner ∙ drop-append_seam xs more in
    let less : suc turns - 1 ≡ turns = omega arith in
    rw (count, here, left, after, less)

pub AreFirstItems-one_more : (rows : List Row) (before : Items → Items) → AreFirstItems rows before
    → (added : List Row) (d : Data) → AreValue added d
    → AreFirstItems (rows ++ added) (λ ds. before (item d ds))
AreFirstItems-one_more rows before first added d are = record {
  count = first.count + 1;
  counted = omega (arith, first.counted, are.some, length-append rows added);
  items = λ turns n more h.
      let lengths : 2 * length rows + 2 * length added < turns = omega (arith, length-append rows added) in
      let count : length (rows ++ added) + n ≡ length rows + (length added + n) =
      omega (arith, length-append rows added) in
      ap₂ (items_in turns) count (append_assoc rows added more)
      ∙ first.items turns (length added + n) (added ++ more) (omega arith)
      ∙ ap before (items_in-item added d are (turns - first.count) n more (omega (arith, first.counted)))
      ∙ ap (λ k. before (item d (items_in k n more))) (omega arith);
}

pub AreItems-all : (rows : List Row) (before : Items → Items) → AreFirstItems rows before
    → AreItems rows (before no_items)
AreItems-all rows before first turns more h =
    let count : length rows ≡ length rows + 0 = omega arith in
    let none : items_in (turns - first.count) 0 more ≡ no_items = items_in-none (turns - first.count) more in
    ap (λ n. items_in turns n (rows ++ more)) count ∙ first.items turns 0 more h ∙ ap before none

-- ---- the first members

-- the nodes are the first members: `found` is what they put in
pub record AreFirstMembers (rows : List Row) (found : Members) : Type 0 where
  pub count : ℕ
  pub counted : count ≤ length rows
  pub members : (turns n : ℕ) (more : List Row) → 2 * length rows < turns
      → put_all (pairs_in turns (length rows + n) (rows ++ more)) no_members
      ≡ put_all (pairs_in (turns - count) n more) found

pub AreFirstMembers-none : AreFirstMembers [] no_members
AreFirstMembers-none = record {
  count = 0;
  counted = omega arith;
  members = λ turns n more h. ap₂ (λ t m. put_all (pairs_in t m more) no_members) (omega arith) (omega arith);
}

pairs_in-none : (turns : ℕ) (more : List Row) → pairs_in turns 0 more ≡ []
pairs_in-none zero more = refl
pairs_in-none (suc n) more = refl

-- one member, and what follows it
put_all-member : (k : List ℕ) (rows : List Row) (d : Data) → AreValue rows d
    → (found : Members) (turns n : ℕ) (more : List Row) → 2 * length rows + 1 < turns
    → put_all (pairs_in turns (length (key k ∷ rows) + n) ((key k ∷ rows) ++ more)) found
    ≡ put_all (pairs_in (turns - 1) n more) (put k d found)
put_all-member k rows d are found zero n more h = absurd (omega arith)
put_all-member k rows d are found (suc turns) n more h =
    let count : length (key k ∷ rows) + n ≡ suc (length rows + n) = omega arith in
    let here : value_in turns (rows ++ more) ≡ d = are.value turns more (omega arith) in
    let left : (length rows + n) - length rows ≡ n = omega arith in
    let after : drop (length rows) (rows ++ more) ≡ more = drop-append_seam rows more in
    let less : suc turns - 1 ≡ turns = omega arith in
    rw (count, here, are.span more, left, after, less)

pub AreFirstMembers-one_more : (rows : List Row) (found : Members) → AreFirstMembers rows found
    → (k : List ℕ) (added : List Row) (d : Data) → AreValue added d
    → AreFirstMembers (rows ++ key k ∷ added) (put k d found)
AreFirstMembers-one_more rows found first k added d are = record {
  count = first.count + 1;
  counted = omega (arith, first.counted, length-append rows (key k ∷ added));
  members = λ turns n more h.
      let lengths : 2 * length rows + 2 * length (key k ∷ added) < turns =
      omega (arith, length-append rows (key k ∷ added)) in
      let count : length (rows ++ key k ∷ added) + n ≡ length rows + (length (key k ∷ added) + n) =
      omega (arith, length-append rows (key k ∷ added)) in
      ap₂ (λ m xs. put_all (pairs_in turns m xs) no_members) count (append_assoc rows (key k ∷ added) more)
      ∙ first.members turns (length (key k ∷ added) + n) ((key k ∷ added) ++ more) (omega arith)
      ∙ put_all-member k added d are found (turns - first.count) n more (omega (arith, first.counted))
      ∙ ap (λ t. put_all (pairs_in t n more) (put k d found)) (omega arith);
}

pub AreMembers-all : (rows : List Row) (found : Members) → AreFirstMembers rows found → AreMembers rows found
AreMembers-all rows found first turns more h =
    let count : length rows ≡ length rows + 0 = omega arith in
    ap (λ n. put_all (pairs_in turns n (rows ++ more)) no_members) count ∙ first.members turns 0 more h
    ∙ ap (λ ps. put_all ps found) (pairs_in-none (turns - first.count) more)
