-- The loops of the reader, a turn at a time.
use Rattle.std.proofs.Common.{◌≡◌, ℕ, ◌-◌, ◌*◌, ◌<◌, ◌≤◌, List, [], ◌∷◌, ◌++◌, length, Option, Some, None, Result, Ok, Err, OnOk, refl, sym, ap, ◌∙◌, append_assoc, append-nil, length-append, arith}
use Rattle.std.specs.Prelude.{IsSome}
use Rattle.std.proofs.Math.ListN.{set}
use Rattle.std.proofs.lemmas.List.{set_at}
use Rattle.json.specs.Token.{Token}
use Rattle.json.specs.Json.{parse_map, after_end_array, read_key, items, members, value}
use Rattle.json.proofs.Grammar.{value_is, value-begin_array, value-begin_object}
use Rattle.serde_json.specs.Data.{Num, Data, array, object, number, Items, item, no_items, Members, no_members, put}
use Rattle.json.specs.Lex.{tokens}
use Rattle.serde_json.specs.Read.{of_json, of_items, of_members, converted, number_of, read, max_depth}
use Rattle.ct_json.proofs.Converted.{converted-array, converted-object, item_read, item_refused, items_over, member_read, member_refused, key_refused, members_over, whole_read}
use Rattle.ct_json.specs.Rows as row
use Rattle.ct_json.specs.Rows.{Row, key, value_in, value_of}
use Rattle.ct_json.specs.Standing.{Adds, AreValue, AreItems, AreMembers, value_read, items_read, members_read}
use Rattle.ct_json.proofs.Standing.{AreValue-number, AreValue-list, AreValue-object, AreFirstItems, AreFirstItems-none, AreFirstItems-one_more, AreItems-all, AreFirstMembers, AreFirstMembers-none, AreFirstMembers-one_more, AreMembers-all}

-- ---- a value of one node

pub on_ok : {A E : Type 0} (r : Result A E) (P Q : Type 0) → (P → Q) → OnOk r P → OnOk r Q
on_ok (Ok a) P Q f h = f h
on_ok (Err e) P Q f h = tt

pub some_is : {A : Type 0} (x : Option A) → IsSome x → (a : A) × (x ≡ Some a)
some_is None h = absurd (cc)
some_is (Some a) h = (a, refl)

-- a node that is the value
pub one_node : (r : Row) (d : Data) → AreValue (r ∷ []) d
    → (o : Option (Data × List Token)) (old new : List Row) (rest : List Token)
    → new ≡ old ++ r ∷ [] → o ≡ Some (d, rest) → Adds AreValue o old new rest
one_node r d are o old new rest added read =
    record { rows = r ∷ []; content = d; are = are; answer = read; growth = added }

pub number_refused : (depth : ℕ) (s : List ℕ) (rest : List Token) → number_of s ≡ None
    → value_read depth (Token.number s ∷ rest) ≡ None
number_refused depth s rest e = ap (converted of_json) (value_is depth _) ∙ rw e

number_read : (depth : ℕ) (s : List ℕ) (rest : List Token) (n : Num) → number_of s ≡ Some n
    → value_read depth (Token.number s ∷ rest) ≡ Some (number n, rest)
number_read depth s rest n e = ap (converted of_json) (value_is depth _) ∙ rw e

pub number_node : (depth : ℕ) (s : List ℕ) (old new : List Row) (rest : List Token) → IsSome (number_of s)
    → new ≡ old ++ row.number s ∷ []
    → Adds AreValue (value_read depth (Token.number s ∷ rest)) old new rest
number_node depth s old new rest is added =
    let n = some_is (number_of s) is in
    one_node (row.number s) (number n.0) (AreValue-number s n.0 n.1) _ old new rest added
    (number_read depth s rest n.0 n.1)

-- ---- a list and an object round what stands inside

-- the node that was put in first says how many follow it
closed : (node : ℕ → Row) (old opened inner rows : List Row) (place all : ℕ) → opened ≡ old ++ node 0 ∷ []
    → inner ≡ opened ++ rows → place ≡ length old → all ≡ length inner
    → set inner place (node (all - place - 1)) ≡ old ++ node (length rows) ∷ rows
closed node old opened inner rows place all first added at count =
    let whole : inner ≡ old ++ node 0 ∷ rows = added ∙ ap (λ xs. xs ++ rows) first
    ∙ append_assoc old (node 0 ∷ []) rows in
    let left : all - place - 1 ≡ length rows = omega (arith, ap length whole, length-append old (node 0 ∷ rows)) in
    ap (λ xs. set xs place (node (all - place - 1))) whole
    ∙ set_at old (node 0) rows (node (all - place - 1)) place (sym at)
    ∙ ap (λ n. old ++ node n ∷ rows) left

module _ (depth : ℕ) (ts : List Token) where
  pub list_at_none : depth ≡ 0 → value_read depth (Token.begin_array ∷ ts) ≡ None
  unfolding value
  list_at_none e = ap (λ k. value_read k (Token.begin_array ∷ ts)) e

  pub object_at_none : depth ≡ 0 → value_read depth (Token.begin_object ∷ ts) ≡ None
  unfolding value
  object_at_none e = ap (λ k. value_read k (Token.begin_object ∷ ts)) e

  pub list_opened : 0 < depth → value_read depth (Token.begin_array ∷ ts) ≡ parse_map array (items_read (depth - 1) ts)
  list_opened h =
      ap (converted of_json) (value-begin_array depth ts h) ∙ converted-array (items (value (depth - 1)) (length ts) ts)

  pub object_opened : 0 < depth → value_read depth (Token.begin_object ∷ ts)
      ≡ parse_map object (members_read (depth - 1) ts)
  object_opened h =
      ap (converted of_json) (value-begin_object depth ts h)
      ∙ converted-object (members (value (depth - 1)) (length ts) ts)

  module _ (old opened inner : List Row) (rest : List Token) (place all : ℕ) where
    pub list_closed : 0 < depth → opened ≡ old ++ row.list 0 ∷ []
        → Adds AreItems (items_read (depth - 1) ts) opened inner rest
        → place ≡ length old → all ≡ length inner
        → Adds AreValue (value_read depth (Token.begin_array ∷ ts)) old
        (set inner place (row.list (all - place - 1))) rest
    list_closed h first adds at count = record {
      rows = row.list (length adds.rows) ∷ adds.rows;
      content = array adds.content;
      are = AreValue-list adds.rows adds.content adds.are;
      answer = list_opened h ∙ ap (parse_map array) adds.answer;
      growth = closed row.list old opened inner adds.rows place all first adds.growth at count;
    }

    pub object_closed : 0 < depth → opened ≡ old ++ row.object 0 ∷ []
        → Adds AreMembers (members_read (depth - 1) ts) opened inner rest
        → place ≡ length old → all ≡ length inner
        → Adds AreValue (value_read depth (Token.begin_object ∷ ts)) old
        (set inner place (row.object (all - place - 1))) rest
    object_closed h first adds at count = record {
      rows = row.object (length adds.rows) ∷ adds.rows;
      content = object adds.content;
      are = AreValue-object adds.rows adds.content adds.are;
      answer = object_opened h ∙ ap (parse_map object) adds.answer;
      growth = closed row.object old opened inner adds.rows place all first adds.growth at count;
    }

-- ---- items

-- From the tokens `start` the nodes after `old` were read, and the tokens `here` are still to come.
pub record ItemsSoFar (depth : ℕ) (start : List Token) (old : List Row) (here : List Token) (new : List Row) : Type 0
  where
    pub rows : List Row
    pub before : Items → Items
    pub first : AreFirstItems rows before
    pub growth : new ≡ old ++ rows
    pub turns : ℕ
    pub enough : length here ≤ turns
    pub answer : items_read depth start ≡ parse_map before (converted of_items (items (value depth) turns here))
    pub shorter : length here ≤ length start

parse_same : (r : Option (Items × List Token)) → r ≡ parse_map (λ ds. ds) r
parse_same None = refl
parse_same (Some q) = refl

parse_twice : (f g : Items → Items) (r : Option (Items × List Token))
    → parse_map f (parse_map g r) ≡ parse_map (λ ds. f (g ds)) r
parse_twice f g None = refl
parse_twice f g (Some q) = refl

module _ (depth : ℕ) (start : List Token) (old : List Row) where
  pub items_start : ItemsSoFar depth start old start old
  items_start = record {
    rows = [];
    before = λ ds. ds;
    first = AreFirstItems-none;
    growth = sym (append-nil old);
    turns = length start;
    enough = omega arith;
    answer = parse_same (items_read depth start);
    shorter = omega arith;
  }

  pub items_next : (here rest : List Token) (new newer : List Row) → ItemsSoFar depth start old here new
      → after_end_array here ≡ None
      → Adds AreValue (value_read depth here) new newer rest → length rest < length here
      → ItemsSoFar depth start old rest newer
  items_next here rest new newer so going adds less =
      let turn = item_read (value depth) so.turns here rest adds.content (omega (arith, so.enough)) going adds.answer in
      record {
        rows = so.rows ++ adds.rows;
        before = λ ds. so.before (item adds.content ds);
        first = AreFirstItems-one_more so.rows so.before so.first adds.rows adds.content adds.are;
        growth = adds.growth ∙ ap (λ xs. xs ++ adds.rows) so.growth ∙ append_assoc old so.rows adds.rows;
        turns = so.turns - 1;
        enough = omega (arith, so.enough);
        answer = so.answer ∙ ap (parse_map so.before) turn ∙ parse_twice so.before (item adds.content) _;
        shorter = omega (arith, so.shorter);
      }

  pub items_done : (here rest : List Token) (new : List Row) → ItemsSoFar depth start old here new
      → after_end_array here ≡ Some rest
      → Adds AreItems (items_read depth start) old new rest
  items_done here rest new so ended = record {
    rows = so.rows;
    content = so.before no_items;
    are = AreItems-all so.rows so.before so.first;
    answer = so.answer ∙ ap (parse_map so.before) (items_over (value depth) so.turns here rest so.enough ended);
    growth = so.growth;
  }

  pub items_refused : (here : List Token) (new : List Row) → ItemsSoFar depth start old here new
      → after_end_array here ≡ None
      → value_read depth here ≡ None → items_read depth start ≡ None
  items_refused here new so going refused =
      so.answer ∙ ap (parse_map so.before) (item_refused (value depth) so.turns here going refused)

-- ---- members

pub record MembersSoFar (depth : ℕ) (start : List Token) (old : List Row) (here : List Token) (new : List Row) : Type
    0 where
  pub rows : List Row
  pub content : Members
  pub first : AreFirstMembers rows content
  pub growth : new ≡ old ++ rows
  pub turns : ℕ
  pub enough : length here ≤ turns
  pub answer : members_read depth start ≡ converted (λ ms. of_members ms content) (members (value depth) turns here)
  pub shorter : length here ≤ length start

module _ (depth : ℕ) (start : List Token) (old : List Row) where
  pub members_start : MembersSoFar depth start old start old
  members_start = record {
    rows = [];
    content = no_members;
    first = AreFirstMembers-none;
    growth = sym (append-nil old);
    turns = length start;
    enough = omega arith;
    answer = refl;
    shorter = omega arith;
  }

  pub members_next : (here mid rest : List Token) (new keyed newer : List Row) (k : List ℕ)
      → MembersSoFar depth start old here new → read_key here ≡ Some (Some k, mid)
      → keyed ≡ new ++ key k ∷ [] → Adds AreValue (value_read depth mid) keyed newer rest → length rest < length here
      → MembersSoFar depth start old rest newer
  members_next here mid rest new keyed newer k so named named_row adds less =
      let turn =
      member_read (value depth) so.content so.turns k here mid rest adds.content (omega (arith, so.enough)) named
      adds.answer in
      record {
        rows = so.rows ++ key k ∷ adds.rows;
        content = put k adds.content so.content;
        first = AreFirstMembers-one_more so.rows so.content so.first k adds.rows adds.content adds.are;
        growth = adds.growth ∙ ap (λ xs. xs ++ adds.rows) (named_row ∙ ap (λ xs. xs ++ key k ∷ []) so.growth)
            ∙ simp append_assoc;
        turns = so.turns - 1;
        enough = omega (arith, so.enough);
        answer = so.answer ∙ turn;
        shorter = omega (arith, so.shorter);
      }

  pub members_done : (here rest : List Token) (new : List Row) → MembersSoFar depth start old here new
      → read_key here ≡ Some (None, rest)
      → Adds AreMembers (members_read depth start) old new rest
  members_done here rest new so ended = record {
    rows = so.rows;
    content = so.content;
    are = AreMembers-all so.rows so.content so.first;
    answer = so.answer ∙ members_over (value depth) so.content so.turns here rest so.enough ended;
    growth = so.growth;
  }

  pub members_refused : (here mid : List Token) (new : List Row) (k : List ℕ) → MembersSoFar depth start old here new
      → read_key here ≡ Some (Some k, mid)
      → value_read depth mid ≡ None → members_read depth start ≡ None
  members_refused here mid new k so named refused =
      so.answer ∙ member_refused (value depth) so.content so.turns k here mid named refused

  pub members_no_key : (here : List Token) (new : List Row) → MembersSoFar depth start old here new
      → read_key here ≡ None
      → members_read depth start ≡ None
  members_no_key here new so none = so.answer ∙ key_refused (value depth) so.content so.turns here none

-- ---- the whole text

pub whole_text : (text : List ℕ) (new : List Row) → Adds AreValue (value_read max_depth (tokens text)) [] new []
    → read text ≡ Some (value_of new)
unfolding value_of
whole_text text new adds =
    let is : value_of new ≡ adds.content = ap value_of adds.growth
    ∙ ap (λ xs. value_in (2 * length adds.rows) xs) (sym (append-nil adds.rows))
    ∙ adds.are.value (2 * length adds.rows) [] (omega arith) in
    whole_read (value max_depth (tokens text)) adds.content adds.answer ∙ ap Some (sym is)
