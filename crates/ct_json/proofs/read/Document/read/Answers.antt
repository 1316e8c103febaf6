use Rattle.std.proofs.Common.{◌≡◌, [], map, ap, rules}
use Rattle.json.specs.Lex.{tokens}
use Rattle.ct_json.specs.Rows.{row}
use Rattle.ct_json.proofs.Reading.{whole_text}
use Rattle.ct_json.proofs.read.Document.read.Goals as goal

pub returns : goal.returns
returns c =
    let none : c.in_ok-nodes.nodes.items ≡ [] = search rules in
    let text : c.in_ok-reader.reader ≡ tokens c.args.text.now = search rules in
    let over : c.read_value.new.reader ≡ [] = search rules in
    let fresh : map row c.in_ok-nodes.nodes.items ≡ [] = ap (map row) none in
    whole_text c.args.text.now (map row c.read_value.new.nodes.items)
    (rw (text, fresh, over) at c.in_ok-read_value.ensures.ok)
