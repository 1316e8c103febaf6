-- What the code reads of each row, and the steps of a path as tests on what it reads.
use Rattle.std.specs.Prelude.{ℕ, ◌≡◌, ◌<◌, ◌==◌, ◌&&◌, ◌||◌, Bool, false, not, List, map, length, slice_index_or}
use Rattle.std.specs.List.{list_any, filter}
use Rattle.ct_entry.specs.declared.rows.Entry.{Entry}
use Rattle.ct_entry.specs.declared.rows.Gate.{Gate}
use Rattle.ct_entry.specs.declared.rows.Owner.{Owner}
use Rattle.ct_entry.specs.Kinds.{is_call, is_shared, is_library_slot, is_compartment, is_library}
use Rattle.ct_entry.specs.Listed.{Listed}
use Rattle.def_words.specs.Permissions.{bit, memory_capability}
use Rattle.def_reach.specs.Roots.{root_of, gate_for}
use Rattle.def_reach.specs.Reach.{same_owner}
use Rattle.ct_graph.specs.declared.links.Link.{Link}

-- a row with the owner of the entry that it names, whether a call of that export passes capabilities, and
-- whether the row's rights let capabilities through
abbrev pub link_of : Listed → Entry → Link
link_of e r = record {
  owner = r.owner;
  kind = r.kind;
  of = r.of;
  target = (root_of e r.of).owner;
  passes = (root_of e r.of).passes;
  carries = bit r.rights memory_capability;
}

abbrev pub links_of : Listed → List Link
links_of e = map (link_of e) e.rows

-- for each number below a count, whether the gate of that export passes capabilities
pub record ArePassing (gates : List Gate) (count : ℕ) (passes : List Bool) : Type 0 where
  pub size : length passes ≡ count
  pub each : (n : ℕ) → n < count → slice_index_or passes n false ≡ (gate_for gates n).capabilities

abbrev pub own : List Link → Owner → List Link
own ls o = filter (λ (l : Link). same_owner l.owner o) ls

-- among an owner's links: a call that passes capabilities to b, an import of library l, a shared object of s
abbrev pub calls : Owner → Link → Bool
calls b l = is_call l.kind && (same_owner l.target b && l.passes)

abbrev pub brings : Owner → Link → Bool
brings a l = is_library_slot l.kind && same_owner l.target a

abbrev pub holds : ℕ → Link → Bool
holds object m = (is_shared m.kind && m.carries) && (m.of == object)

-- for each number below the list's length, whether the links share that object so that capabilities pass
pub record AreHeld (ls : List Link) (held : List Bool) : Type 0 where
  pub each : (n : ℕ) → n < length held → slice_index_or held n false ≡ list_any (holds n) ls

abbrev pub shares : List Link → Link → Bool
shares ms l = (is_shared l.kind && l.carries) && list_any (holds l.of) ms

abbrev pub meets : Owner → List Link → Owner → List Link → Bool
meets a ls b ms = list_any (calls b) ls || (list_any (calls a) ms || list_any (shares ms) ls)

-- whether there is a step from a, which has the links ls, to b, which has the links ms
abbrev pub steps : Owner → List Link → Owner → List Link → Bool
steps a ls b ms =
    (is_library a && list_any (brings a) ms)
    || (is_compartment a && (is_compartment b && (not (same_owner a b) && meets a ls b ms)))

abbrev pub goes : Listed → Owner → Owner → Bool
goes e a b = steps a (own (links_of e) a) b (own (links_of e) b)
