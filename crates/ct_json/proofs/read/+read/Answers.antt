use Rattle.std.proofs.Common.{◌≡◌, [], length, map, Some, None, ap, ◌∙◌, arith}
use Rattle.std.proofs.lemmas.List.{length-map, map-set}
use Rattle.json.specs.Json.{value, parse_map, after_end_array, read_key}
use Rattle.json.proofs.Grammar.{value_is, read_key-shorter}
use Rattle.serde_json.specs.Data.{array, object}
use Rattle.serde_json.specs.Read.{converted, of_json}
use Rattle.ct_json.specs.Rows.{row}
use Rattle.ct_json.proofs.Reading.{list_at_none, object_at_none, list_opened, object_opened, list_closed, object_closed, items_start, items_next, items_done, items_refused, members_start, members_next, members_done, members_refused, members_no_key}
use Rattle.ct_json.proofs.read.+read.Goals as goal

pub read_value-returns-in-None-clause-err : goal.read_value-returns-in-None-clause-err
read_value-returns-in-None-clause-err t c refused =
    ap (converted of_json) (ap (value c.args.depth) c.in-None.ensures.value.0 ∙ value_is c.args.depth [])

pub read_list-returns-then-depth-eq0-clause-err : goal.read_list-returns-then-depth-eq0-clause-err
read_list-returns-then-depth-eq0-clause-err t c refused = list_at_none c.args.depth c.args.reader.now (omega arith)

pub read_object-returns-then-depth-eq0-clause-err : goal.read_object-returns-then-depth-eq0-clause-err
read_object-returns-then-depth-eq0-clause-err t c refused = object_at_none c.args.depth c.args.reader.now (omega arith)

pub read_list-returns-in_err-read_items-clause-err : goal.read_list-returns-in_err-read_items-clause-err
read_list-returns-in_err-read_items-clause-err t c refused =
    list_opened c.args.depth c.args.reader.now (omega arith)
    ∙ ap (parse_map array) (c.read_items.ensures.err (grind arith))

pub read_object-returns-in_err-read_members-clause-err : goal.read_object-returns-in_err-read_members-clause-err
read_object-returns-in_err-read_members-clause-err t c refused =
    object_opened c.args.depth c.args.reader.now (omega arith)
    ∙ ap (parse_map object) (c.read_members.ensures.err (grind arith))

pub read_list-returns-clause-ok : goal.read_list-returns-clause-ok
read_list-returns-clause-ok t c =
    let old = map row c.args.nodes.now.items in
    let opened = map row c.push.new.nodes.items in
    let inner = map row c.read_items.new.nodes.items in
    let place = c.len-place.result in
    let all = c.len.result in
    let at : place ≡ length old = omega (arith, length-map c.args.nodes.now.items row, c.args.nodes.now.ok.0) in
    let count : all ≡ length inner =
    omega (arith, length-map c.read_items.new.nodes.items row, c.read_items.new.nodes.ok.0) in
    rw map-set
    (list_closed c.args.depth c.args.reader.now old opened inner c.read_items.new.reader place all (omega arith)
    c.in_ok-push.ensures.ok c.in_ok-read_items.ensures.ok at count)

pub read_object-returns-clause-ok : goal.read_object-returns-clause-ok
read_object-returns-clause-ok t c =
    let old = map row c.args.nodes.now.items in
    let opened = map row c.push.new.nodes.items in
    let inner = map row c.read_members.new.nodes.items in
    let place = c.len-place.result in
    let all = c.len.result in
    let at : place ≡ length old = omega (arith, length-map c.args.nodes.now.items row, c.args.nodes.now.ok.0) in
    let count : all ≡ length inner =
    omega (arith, length-map c.read_members.new.nodes.items row, c.read_members.new.nodes.ok.0) in
    rw map-set
    (object_closed c.args.depth c.args.reader.now old opened inner c.read_members.new.reader place all (omega arith)
    c.in_ok-push.ensures.ok c.in_ok-read_members.ensures.ok at count)

pub read_items-items-init : goal.read_items-items-init
read_items-items-init t c = items_start c.args.depth c.args.reader.now (map row c.args.nodes.now.items)

pub read_items-items-preserved : goal.read_items-items-preserved
read_items-items-preserved t c =
    let l = c.items in
    let going : (after_end_array l.reader ≡ None) × (c.take_end_array.new.self ≡ l.reader) = grind arith in
    let done = rw going.1 at c.in_ok-read_value.ensures.ok in
    let less = rw going.1 at c.in_ok-read_value.ensures.shorter in
    items_next c.args.depth c.args.reader.now (map row c.args.nodes.now.items) l.reader c.read_value.new.reader
    (map row l.nodes.items)
    (map row c.read_value.new.nodes.items) l.invariant going.0 done less

pub read_items-returns-in_err-read_value-clause-err : goal.read_items-returns-in_err-read_value-clause-err
read_items-returns-in_err-read_value-clause-err t c refused =
    let l = c.items in
    let going : (after_end_array l.reader ≡ None) × (c.take_end_array.new.self ≡ l.reader) = grind arith in
    items_refused c.args.depth c.args.reader.now (map row c.args.nodes.now.items) l.reader (map row l.nodes.items)
    l.invariant going.0 (rw (← going.1) (c.read_value.ensures.err (grind arith)))

pub read_items-returns-clause-ok : goal.read_items-returns-clause-ok
read_items-returns-clause-ok t c =
    let l = c.items in
    items_done c.args.depth c.args.reader.now (map row c.args.nodes.now.items) l.reader c.take_end_array.new.self
    (map row l.nodes.items) l.invariant (grind arith)

pub read_members-members-init : goal.read_members-members-init
read_members-members-init t c = members_start c.args.depth c.args.reader.now (map row c.args.nodes.now.items)

pub read_members-members-preserved : goal.read_members-members-preserved
read_members-members-preserved t c =
    let l = c.members in
    let k = c.in-Some.name.now in
    let s = c.next_key.new.self in
    let named : read_key l.reader ≡ Some (Some k, s) = grind arith in
    let less = read_key-shorter l.reader (Some k) s named in
    let lesser = c.in_ok-read_value.ensures.shorter in
    members_next c.args.depth c.args.reader.now (map row c.args.nodes.now.items) l.reader s c.read_value.new.reader
    (map row l.nodes.items) (map row c.push.new.nodes.items)
    (map row c.read_value.new.nodes.items) k l.invariant named c.in_ok-push.ensures.ok c.in_ok-read_value.ensures.ok
    (omega arith)

pub read_members-returns-in_err-name-clause-err : goal.read_members-returns-in_err-name-clause-err
read_members-returns-in_err-name-clause-err t c refused =
    let l = c.members in
    members_no_key c.args.depth c.args.reader.now (map row c.args.nodes.now.items) l.reader (map row l.nodes.items)
    l.invariant c.in_err-name.ensures.value

pub read_members-returns-in_err-read_value-clause-err : goal.read_members-returns-in_err-read_value-clause-err
read_members-returns-in_err-read_value-clause-err t c refused =
    let l = c.members in
    let k = c.in-Some.name.now in
    let s = c.next_key.new.self in
    let named : read_key l.reader ≡ Some (Some k, s) = grind arith in
    members_refused c.args.depth c.args.reader.now (map row c.args.nodes.now.items) l.reader s
    (map row l.nodes.items) k l.invariant named (c.read_value.ensures.err (grind arith))

pub read_members-returns-clause-ok : goal.read_members-returns-clause-ok
read_members-returns-clause-ok t c =
    let l = c.members in
    members_done c.args.depth c.args.reader.now (map row c.args.nodes.now.items) l.reader c.next_key.new.self
    (map row l.nodes.items) l.invariant (grind arith)
