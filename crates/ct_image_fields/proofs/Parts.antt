-- The readers of members are exact.
use Rattle.std.proofs.Common.{ℕ, ◌≡◌, ◌^◌, ◌<◌, Bool, List, [], ◌∷◌, ◌++◌, length, Some, refl, sym, ap, ◌∙◌, subst, append_assoc, arith}
use Rattle.std.specs.List.{flat_map}
use Rattle.def_image.specs.declared.RawEntry.{RawEntry}
use Rattle.def_image.specs.declared.format.TheConstants.{NAME, ROW}
use Rattle.def_image.specs.Raw.{RawDevice, RawShared, RawSealed, RawCode, RawCompartment, RawThread}
use Rattle.def_image.specs.Spelling.{number, count, padding_after, entry_spelled, device_spelled, shared_spelled, sealed_spelled, tables_spelled, compartment_spelled, library_spelled, thread_spelled}
use Rattle.def_image.specs.Shapes.{IsField, IsNumber, IsRawEntry, IsDevice, IsShared, IsSealed, IsCode, IsCompartment, IsThread}
use Rattle.ct_image_fields.specs.declared.heads.CodeHead.{CodeHead}
use Rattle.ct_image_fields.specs.declared.heads.GlobalsHead.{GlobalsHead}
use Rattle.ct_image_fields.specs.Reading.{entry_at, device_at, shared_at, sealed_at, code_head_at, globals_head_at, code_at, compartment_at, library_at, thread_at}
use Rattle.ct_image_fields.proofs.Turns.{three_in_turn, four_in_turn, seven_in_turn, four_joined}
use Rattle.ct_image_fields.proofs.Exact.{IsBytes, Took, Exact, begin, then, made, on, AreSo, field_exact, number_exact, many_exact}

-- ---- rows with names, devices, shared objects, threads

entry_takes : (bytes : List ℕ) (x : RawEntry × List ℕ) → IsBytes bytes → entry_at bytes ≡ Some x → Took IsRawEntry entry_spelled bytes x
unfolding entry_at
entry_takes bytes x fits e =
    let a = begin (field_exact ROW) bytes _ x fits e in
    let b = then (field_exact NAME) a _ a.goes in
    made IsRawEntry entry_spelled (record { row = a.found.0; name = b.found.0 }) bytes b.found.1 x b.whole (a.holds, b.holds) b.fits b.goes

entry_again : (r : RawEntry) (rest : List ℕ) → IsRawEntry r → entry_at (entry_spelled r ++ rest) ≡ Some (r, rest)
unfolding entry_at
entry_again r rest h =
    let regrouped : entry_spelled r ++ rest ≡ r.row ++ (r.name ++ rest) = append_assoc r.row r.name rest in
    ap entry_at regrouped ∙ on (field_exact ROW) r.row (r.name ++ rest) _ h.0 ∙ on (field_exact NAME) r.name rest _ h.1

pub entry_exact : Exact IsRawEntry entry_spelled entry_at
entry_exact = record { takes = entry_takes; again = entry_again }

device_takes : (bytes : List ℕ) (x : RawDevice × List ℕ) → IsBytes bytes → device_at bytes ≡ Some x → Took IsDevice device_spelled bytes x
unfolding device_at
device_takes bytes x fits e =
    let a = begin (field_exact NAME) bytes _ x fits e in
    let b = then number_exact a _ a.goes in
    let c = then number_exact b _ b.goes in
    made IsDevice device_spelled (record { name = a.found.0; kind = b.found.0; base = c.found.0 }) bytes c.found.1 x c.whole (a.holds, b.holds, c.holds) c.fits c.goes

device_again : (d : RawDevice) (rest : List ℕ) → IsDevice d → device_at (device_spelled d ++ rest) ≡ Some (d, rest)
unfolding device_at
device_again d rest h =
    let r2 = number d.base ++ rest in
    let r1 = number d.kind ++ r2 in
    let regrouped : device_spelled d ++ rest ≡ d.name ++ r1 = three_in_turn d.name (number d.kind) (number d.base) rest in
    ap device_at regrouped ∙ on (field_exact NAME) d.name r1 _ h.0 ∙ on number_exact d.kind r2 _ h.1 ∙ on number_exact d.base rest _ h.2

pub device_exact : Exact IsDevice device_spelled device_at
device_exact = record { takes = device_takes; again = device_again }

shared_takes : (bytes : List ℕ) (x : RawShared × List ℕ) → IsBytes bytes → shared_at bytes ≡ Some x → Took IsShared shared_spelled bytes x
unfolding shared_at
shared_takes bytes x fits e =
    let a = begin (field_exact NAME) bytes _ x fits e in
    let b = then number_exact a _ a.goes in
    let c = then number_exact b _ b.goes in
    made IsShared shared_spelled (record { name = a.found.0; base = b.found.0; length = c.found.0 }) bytes c.found.1 x c.whole (a.holds, b.holds, c.holds) c.fits c.goes

shared_again : (s : RawShared) (rest : List ℕ) → IsShared s → shared_at (shared_spelled s ++ rest) ≡ Some (s, rest)
unfolding shared_at
shared_again s rest h =
    let r2 = number s.length ++ rest in
    let r1 = number s.base ++ r2 in
    let regrouped : shared_spelled s ++ rest ≡ s.name ++ r1 = three_in_turn s.name (number s.base) (number s.length) rest in
    ap shared_at regrouped ∙ on (field_exact NAME) s.name r1 _ h.0 ∙ on number_exact s.base r2 _ h.1 ∙ on number_exact s.length rest _ h.2

pub shared_exact : Exact IsShared shared_spelled shared_at
shared_exact = record { takes = shared_takes; again = shared_again }

thread_takes : (bytes : List ℕ) (x : RawThread × List ℕ) → IsBytes bytes → thread_at bytes ≡ Some x → Took IsThread thread_spelled bytes x
unfolding thread_at
thread_takes bytes x fits e =
    let a = begin (field_exact NAME) bytes _ x fits e in
    let b = then number_exact a _ a.goes in
    let c = then number_exact b _ b.goes in
    let d = then number_exact c _ c.goes in
    let f = then number_exact d _ d.goes in
    let g = then number_exact f _ f.goes in
    let h = then number_exact g _ g.goes in
    made IsThread thread_spelled (record { name = a.found.0; stack = b.found.0; stack_length = c.found.0; compartment = d.found.0; export = f.found.0; priority = g.found.0; frames = h.found.0 })
    bytes h.found.1 x h.whole (a.holds, b.holds, c.holds, d.holds, f.holds, g.holds, h.holds) h.fits h.goes

thread_again : (t : RawThread) (rest : List ℕ) → IsThread t → thread_at (thread_spelled t ++ rest) ≡ Some (t, rest)
unfolding thread_at
thread_again t rest h =
    let r6 = number t.frames ++ rest in
    let r5 = number t.priority ++ r6 in
    let r4 = number t.export ++ r5 in
    let r3 = number t.compartment ++ r4 in
    let r2 = number t.stack_length ++ r3 in
    let r1 = number t.stack ++ r2 in
    let regrouped : thread_spelled t ++ rest ≡ t.name ++ r1 =
    seven_in_turn t.name (number t.stack) (number t.stack_length) (number t.compartment) (number t.export) (number t.priority) (number t.frames) rest in
    ap thread_at regrouped ∙ on (field_exact NAME) t.name r1 _ h.0 ∙ on number_exact t.stack r2 _ h.1 ∙ on number_exact t.stack_length r3 _ h.2
    ∙ on number_exact t.compartment r4 _ h.3 ∙ on number_exact t.export r5 _ h.4 ∙ on number_exact t.priority r6 _ h.5 ∙ on number_exact t.frames rest _ h.6

pub thread_exact : Exact IsThread thread_spelled thread_at
thread_exact = record { takes = thread_takes; again = thread_again }

-- ---- sealed objects: the bytes and their padding, by their number

sealed_takes : (bytes : List ℕ) (x : RawSealed × List ℕ) → IsBytes bytes → sealed_at bytes ≡ Some x → Took IsSealed sealed_spelled bytes x
unfolding sealed_at
sealed_takes bytes x fits e =
    let a = begin (field_exact NAME) bytes _ x fits e in
    let b = then number_exact a _ a.goes in
    let c = then number_exact b _ b.goes in
    let d = then number_exact c _ c.goes in
    let n = then number_exact d _ d.goes in
    let h = then (field_exact n.found.0) n _ n.goes in
    let p = then (field_exact (padding_after n.found.0)) h _ h.goes in
    let s : RawSealed = record { name = a.found.0; base = b.found.0; length = c.found.0; seal = d.found.0; bytes = h.found.0; padding = p.found.0 } in
    let size = h.holds.size in
    let whole : bytes ≡ sealed_spelled s ++ p.found.1 = rw size p.whole in
    let padding : IsField (padding_after (length h.found.0)) p.found.0 = rw size p.holds in
    made IsSealed sealed_spelled s bytes p.found.1 x whole (a.holds, b.holds, c.holds, d.holds, (rw size n.holds, h.holds.each), padding) p.fits p.goes

sealed_again : (s : RawSealed) (rest : List ℕ) → IsSealed s → sealed_at (sealed_spelled s ++ rest) ≡ Some (s, rest)
unfolding sealed_at
sealed_again s rest h =
    let r6 = s.padding ++ rest in
    let r5 = s.bytes ++ r6 in
    let r4 = count s.bytes ++ r5 in
    let r3 = number s.seal ++ r4 in
    let r2 = number s.length ++ r3 in
    let r1 = number s.base ++ r2 in
    let regrouped : sealed_spelled s ++ rest ≡ s.name ++ r1 =
    seven_in_turn s.name (number s.base) (number s.length) (number s.seal) (count s.bytes) s.bytes s.padding rest in
    let held : IsField (length s.bytes) s.bytes = record { size = refl; each = h.4.1 } in
    ap sealed_at regrouped ∙ on (field_exact NAME) s.name r1 _ h.0 ∙ on number_exact s.base r2 _ h.1 ∙ on number_exact s.length r3 _ h.2
    ∙ on number_exact s.seal r4 _ h.3 ∙ on number_exact (length s.bytes) r5 _ h.4.0 ∙ on (field_exact (length s.bytes)) s.bytes r6 _ held
    ∙ on (field_exact (padding_after (length s.bytes))) s.padding rest _ h.5

pub sealed_exact : Exact IsSealed sealed_spelled sealed_at
sealed_exact = record { takes = sealed_takes; again = sealed_again }

-- ---- heads of compartments and libraries

abbrev head_spelled : CodeHead → List ℕ
head_spelled h = h.name ++ number h.base ++ number h.length ++ number h.text

record IsHead (h : CodeHead) : Type 0 where
  pub name : IsField NAME h.name
  pub base : IsNumber h.base
  pub size : IsNumber h.length
  pub text : IsNumber h.text

head_takes : (bytes : List ℕ) (x : CodeHead × List ℕ) → IsBytes bytes → code_head_at bytes ≡ Some x → Took IsHead head_spelled bytes x
unfolding code_head_at
head_takes bytes x fits e =
    let a = begin (field_exact NAME) bytes _ x fits e in
    let b = then number_exact a _ a.goes in
    let c = then number_exact b _ b.goes in
    let d = then number_exact c _ c.goes in
    made IsHead head_spelled (record { name = a.found.0; base = b.found.0; length = c.found.0; text = d.found.0 }) bytes d.found.1 x d.whole (record { name = a.holds; base = b.holds; size = c.holds; text = d.holds }) d.fits d.goes

head_again : (h : CodeHead) (rest : List ℕ) → IsHead h → code_head_at (head_spelled h ++ rest) ≡ Some (h, rest)
unfolding code_head_at
head_again h rest is =
    let r3 = number h.text ++ rest in
    let r2 = number h.length ++ r3 in
    let r1 = number h.base ++ r2 in
    let regrouped : head_spelled h ++ rest ≡ h.name ++ r1 = four_in_turn h.name (number h.base) (number h.length) (number h.text) rest in
    ap code_head_at regrouped ∙ on (field_exact NAME) h.name r1 _ is.name ∙ on number_exact h.base r2 _ is.base ∙ on number_exact h.length r3 _ is.size ∙ on number_exact h.text rest _ is.text

head_exact : Exact IsHead head_spelled code_head_at
head_exact = record { takes = head_takes; again = head_again }

abbrev own_spelled : GlobalsHead → List ℕ
own_spelled g = number g.table ++ number g.globals ++ number g.length ++ number g.initial

record IsOwn (g : GlobalsHead) : Type 0 where
  pub table : IsNumber g.table
  pub globals : IsNumber g.globals
  pub size : IsNumber g.length
  pub initial : IsNumber g.initial

own_takes : (bytes : List ℕ) (x : GlobalsHead × List ℕ) → IsBytes bytes → globals_head_at bytes ≡ Some x → Took IsOwn own_spelled bytes x
unfolding globals_head_at
own_takes bytes x fits e =
    let a = begin number_exact bytes _ x fits e in
    let b = then number_exact a _ a.goes in
    let c = then number_exact b _ b.goes in
    let d = then number_exact c _ c.goes in
    made IsOwn own_spelled (record { table = a.found.0; globals = b.found.0; length = c.found.0; initial = d.found.0 }) bytes d.found.1 x d.whole (record { table = a.holds; globals = b.holds; size = c.holds; initial = d.holds }) d.fits d.goes

own_again : (g : GlobalsHead) (rest : List ℕ) → IsOwn g → globals_head_at (own_spelled g ++ rest) ≡ Some (g, rest)
unfolding globals_head_at
own_again g rest is =
    let r3 = number g.initial ++ rest in
    let r2 = number g.length ++ r3 in
    let r1 = number g.globals ++ r2 in
    on number_exact g.table r1 _ is.table ∙ on number_exact g.globals r2 _ is.globals ∙ on number_exact g.length r3 _ is.size ∙ on number_exact g.initial rest _ is.initial

own_exact : Exact IsOwn own_spelled globals_head_at
own_exact = record { takes = own_takes; again = own_again }

-- ---- slots, exports and text, by their numbers

-- the code has the head's fields, and as many slots, exports and bytes of text as were told
record Follows (h : CodeHead) (n m : ℕ) (c : RawCode) : Type 0 where
  pub name : c.name ≡ h.name
  pub base : c.base ≡ h.base
  pub size : c.length ≡ h.length
  pub slots : AreSo IsRawEntry n c.slots
  pub exports : AreSo IsRawEntry m c.exports
  pub text : IsField h.text c.text

code_takes : (h : CodeHead) (slots exports : ℕ) (bytes : List ℕ) (x : RawCode × List ℕ) → IsBytes bytes → code_at h slots exports bytes ≡ Some x → Took (Follows h slots exports) tables_spelled bytes x
unfolding code_at
code_takes h slots exports bytes x fits e =
    let a = begin (many_exact entry_exact slots) bytes _ x fits e in
    let b = then (many_exact entry_exact exports) a _ a.goes in
    let c = then (field_exact h.text) b _ b.goes in
    made (Follows h slots exports) tables_spelled (record { name = h.name; base = h.base; length = h.length; slots = a.found.0; exports = b.found.0; text = c.found.0 }) bytes c.found.1 x c.whole
    (record { name = refl; base = refl; size = refl; slots = a.holds; exports = b.holds; text = c.holds }) c.fits c.goes

abbrev headed : CodeHead → RawCode → RawCode
headed h c = record c { name = h.name; base = h.base; length = h.length }

code_again : (h : CodeHead) (slots exports : ℕ) (c : RawCode) (rest : List ℕ) → Follows h slots exports c → code_at h slots exports (tables_spelled c ++ rest) ≡ Some (c, rest)
unfolding code_at
code_again h slots exports c rest f =
    let r2 = c.text ++ rest in
    let r1 = flat_map entry_spelled c.exports ++ r2 in
    let regrouped : tables_spelled c ++ rest ≡ flat_map entry_spelled c.slots ++ r1 =
    three_in_turn (flat_map entry_spelled c.slots) (flat_map entry_spelled c.exports) c.text rest in
    let name = f.name in
    let base = f.base in
    let size = f.size in
    let same : headed h c ≡ record c { name = c.name } = cc in
    ap (code_at h slots exports) regrouped ∙ on (many_exact entry_exact slots) c.slots r1 _ f.slots ∙ on (many_exact entry_exact exports) c.exports r2 _ f.exports
    ∙ on (field_exact h.text) c.text rest _ f.text ∙ ap (λ (y : RawCode). Some (y, rest)) same

code_exact : (h : CodeHead) (slots exports : ℕ) → Exact (Follows h slots exports) tables_spelled (code_at h slots exports)
code_exact h slots exports = record { takes = code_takes h slots exports; again = code_again h slots exports }

-- what such code is, by its own fields
code_is : (h : CodeHead) (slots exports : ℕ) (c : RawCode) → IsHead h → IsNumber slots → IsNumber exports → Follows h slots exports c → IsCode c
code_is h slots exports c head few_slots few_exports f = record {
  name = subst (λ (n : List ℕ). IsField NAME n) (sym f.name) head.name;
  base = subst (λ (n : ℕ). IsNumber n) (sym f.base) head.base;
  size = subst (λ (n : ℕ). IsNumber n) (sym f.size) head.size;
  slots = (subst (λ (n : ℕ). IsNumber n) (sym f.slots.0) few_slots, f.slots.1);
  exports = (subst (λ (n : ℕ). IsNumber n) (sym f.exports.0) few_exports, f.exports.1);
  text = (subst (λ (n : ℕ). IsNumber n) (sym f.text.size) head.text, f.text.each);
}

abbrev head_of : RawCode → CodeHead
head_of c = record { name = c.name; base = c.base; length = c.length; text = length c.text }

own_head : (c : RawCode) → IsCode c → IsHead (head_of c)
own_head c is = record { name = is.name; base = is.base; size = is.size; text = is.text.0 }

own_follows : (c : RawCode) → IsCode c → Follows (head_of c) (length c.slots) (length c.exports) c
own_follows c is = record { name = refl; base = refl; size = refl; slots = (refl, is.slots.1); exports = (refl, is.exports.1); text = record { size = refl; each = is.text.1 } }

-- ---- libraries

-- after the head and the counts
abbrev library_parts : CodeHead → ℕ → ℕ → RawCode → List ℕ
library_parts h slots exports c = head_spelled h ++ number slots ++ number exports ++ tables_spelled c

library_parts_are : (h : CodeHead) (slots exports : ℕ) (c : RawCode) → Follows h slots exports c → library_parts h slots exports c ≡ library_spelled c
library_parts_are h slots exports c f =
    let name = f.name in
    let base = f.base in
    let size = f.size in
    let text = f.text.size in
    let imported = f.slots.0 in
    let exported = f.exports.0 in
    let flat : library_parts (head_of c) (length c.slots) (length c.exports) c ≡ library_spelled c = refl in
    let same : library_parts h slots exports c ≡ library_parts (head_of c) (length c.slots) (length c.exports) c = rw (name, base, size, text, imported, exported) refl in
    same ∙ flat

library_takes : (bytes : List ℕ) (x : RawCode × List ℕ) → IsBytes bytes → library_at bytes ≡ Some x → Took IsCode library_spelled bytes x
unfolding library_at
library_takes bytes x fits e =
    let a = begin head_exact bytes _ x fits e in
    let b = then number_exact a _ a.goes in
    let c = then number_exact b _ b.goes in
    let d : Took (Follows a.found.0 b.found.0 c.found.0) tables_spelled c.found.1 x = code_takes a.found.0 b.found.0 c.found.0 c.found.1 x c.fits c.goes in
    record {
      parts = c.whole ∙ ap (λ (r : List ℕ). (head_spelled a.found.0 ++ number b.found.0 ++ number c.found.0) ++ r) d.parts
          ∙ sym (append_assoc (head_spelled a.found.0 ++ number b.found.0 ++ number c.found.0) (tables_spelled x.0) x.1)
          ∙ ap (λ (r : List ℕ). r ++ x.1) (library_parts_are a.found.0 b.found.0 c.found.0 x.0 d.holds);
      holds = code_is a.found.0 b.found.0 c.found.0 x.0 a.holds b.holds c.holds d.holds;
      fits = d.fits;
    }

library_again : (c : RawCode) (rest : List ℕ) → IsCode c → library_at (library_spelled c ++ rest) ≡ Some (c, rest)
unfolding library_at
library_again c rest is =
    let r3 = tables_spelled c ++ rest in
    let r2 = count c.exports ++ r3 in
    let r1 = count c.slots ++ r2 in
    let regrouped : library_spelled c ++ rest ≡ head_spelled (head_of c) ++ r1 =
    four_in_turn (head_spelled (head_of c)) (count c.slots) (count c.exports) (tables_spelled c) rest in
    ap library_at regrouped ∙ on head_exact (head_of c) r1 _ (own_head c is) ∙ on number_exact (length c.slots) r2 _ is.slots.0 ∙ on number_exact (length c.exports) r3 _ is.exports.0
    ∙ code_again (head_of c) (length c.slots) (length c.exports) c rest (own_follows c is)

pub library_exact : Exact IsCode library_spelled library_at
library_exact = record { takes = library_takes; again = library_again }

-- ---- compartments

-- parts that are joined one after the other, and by their heads
in_one : (a b c d e f g h n m t i p : List ℕ) → (a ++ b ++ c ++ d) ++ (e ++ f ++ g ++ h) ++ n ++ m ++ t ++ i ++ p ≡ a ++ b ++ c ++ d ++ e ++ f ++ g ++ h ++ n ++ m ++ t ++ i ++ p
in_one a b c d e f g h n m t i p = ap (λ (l : List ℕ). l ++ n ++ m ++ t ++ i ++ p) (four_joined (a ++ b ++ c ++ d) e f g h)

abbrev compartment_parts : CodeHead → GlobalsHead → ℕ → ℕ → RawCompartment → List ℕ
compartment_parts h g slots exports c = head_spelled h ++ own_spelled g ++ number slots ++ number exports ++ tables_spelled c.code ++ c.initial ++ c.padding

abbrev globals_of : RawCompartment → GlobalsHead
globals_of c = record { table = c.table; globals = c.globals; length = c.globals_length; initial = length c.initial }

flat_parts : (c : RawCompartment) → compartment_parts (head_of c.code) (globals_of c) (length c.code.slots) (length c.code.exports) c ≡ compartment_spelled c
flat_parts c =
    let k = c.code in
    in_one k.name (number k.base) (number k.length) (count k.text) (number c.table) (number c.globals) (number c.globals_length) (count c.initial) (count k.slots) (count k.exports) (tables_spelled k) c.initial c.padding

told_alike : (h k : CodeHead) (g o : GlobalsHead) (n x m y : ℕ) (c : RawCompartment) → h ≡ k → g ≡ o → n ≡ x → m ≡ y → compartment_parts h g n m c ≡ compartment_parts k o x y c
told_alike h k g o n x m y c e f i j =
    ap (λ (z : CodeHead). compartment_parts z g n m c) e ∙ ap (λ (z : GlobalsHead). compartment_parts k z n m c) f
    ∙ ap (λ (z : ℕ). compartment_parts k o z m c) i ∙ ap (λ (z : ℕ). compartment_parts k o x z c) j

-- the head is that of its code
head_told : (h : CodeHead) (n m : ℕ) (c : RawCode) → Follows h n m c → h ≡ head_of c
head_told h n m c f =
    let name = f.name in
    let base = f.base in
    let size = f.size in
    let text = f.text.size in
    let same : record h { name = h.name } ≡ head_of c = cc in
    same

abbrev owned : GlobalsHead → List ℕ → GlobalsHead
owned g initial = record g { initial = length initial }

own_told : (g : GlobalsHead) (initial : List ℕ) → length initial ≡ g.initial → g ≡ owned g initial
own_told g initial e = ap (λ (n : ℕ). record g { initial = n }) (sym e)

compartment_takes : (bytes : List ℕ) (x : RawCompartment × List ℕ) → IsBytes bytes → compartment_at bytes ≡ Some x → Took IsCompartment compartment_spelled bytes x
unfolding compartment_at
compartment_takes bytes x fits e =
    let a = begin head_exact bytes _ x fits e in
    let g = then own_exact a _ a.goes in
    let n = then number_exact g _ g.goes in
    let m = then number_exact n _ n.goes in
    let d = then (code_exact a.found.0 n.found.0 m.found.0) m _ m.goes in
    let i = then (field_exact g.found.0.initial) d _ d.goes in
    let p = then (field_exact (padding_after g.found.0.initial)) i _ i.goes in
    let c : RawCompartment = record { code = d.found.0; table = g.found.0.table; globals = g.found.0.globals; globals_length = g.found.0.length; initial = i.found.0; padding = p.found.0 } in
    let initial = i.holds.size in
    let heads : a.found.0 ≡ head_of c.code = head_told a.found.0 n.found.0 m.found.0 d.found.0 d.holds in
    let owns : g.found.0 ≡ globals_of c = own_told g.found.0 i.found.0 initial in
    let told : compartment_parts a.found.0 g.found.0 n.found.0 m.found.0 c ≡ compartment_parts (head_of c.code) (globals_of c) (length c.code.slots) (length c.code.exports) c =
    told_alike a.found.0 (head_of c.code) g.found.0 (globals_of c) n.found.0 (length c.code.slots) m.found.0 (length c.code.exports) c heads owns (sym d.holds.slots.0) (sym d.holds.exports.0) in
    let whole : bytes ≡ compartment_spelled c ++ p.found.1 = p.whole ∙ ap (λ (r : List ℕ). r ++ p.found.1) (told ∙ flat_parts c) in
    let code : IsCode c.code = code_is a.found.0 n.found.0 m.found.0 c.code a.holds n.holds m.holds d.holds in
    let few : IsNumber (length i.found.0) = rw initial g.holds.initial in
    let padding : IsField (padding_after (length i.found.0)) p.found.0 = rw initial p.holds in
    made IsCompartment compartment_spelled c bytes p.found.1 x whole
    (record { code = code; table = g.holds.table; globals = g.holds.globals; size = g.holds.size; initial = (few, i.holds.each); padding = padding }) p.fits p.goes

compartment_again : (c : RawCompartment) (rest : List ℕ) → IsCompartment c → compartment_at (compartment_spelled c ++ rest) ≡ Some (c, rest)
unfolding compartment_at
compartment_again c rest is =
    let r6 = c.padding ++ rest in
    let r5 = c.initial ++ r6 in
    let r4 = tables_spelled c.code ++ r5 in
    let r3 = count c.code.exports ++ r4 in
    let r2 = count c.code.slots ++ r3 in
    let r1 = own_spelled (globals_of c) ++ r2 in
    let regrouped : compartment_spelled c ++ rest ≡ head_spelled (head_of c.code) ++ r1 =
    ap (λ (b : List ℕ). b ++ rest) (sym (flat_parts c))
    ∙ seven_in_turn (head_spelled (head_of c.code)) (own_spelled (globals_of c)) (count c.code.slots) (count c.code.exports) (tables_spelled c.code) c.initial c.padding rest in
    let own : IsOwn (globals_of c) = record { table = is.table; globals = is.globals; size = is.size; initial = is.initial.0 } in
    let held : IsField (length c.initial) c.initial = record { size = refl; each = is.initial.1 } in
    ap compartment_at regrouped ∙ on head_exact (head_of c.code) r1 _ (own_head c.code is.code) ∙ on own_exact (globals_of c) r2 _ own
    ∙ on number_exact (length c.code.slots) r3 _ is.code.slots.0 ∙ on number_exact (length c.code.exports) r4 _ is.code.exports.0
    ∙ on (code_exact (head_of c.code) (length c.code.slots) (length c.code.exports)) c.code r5 _ (own_follows c.code is.code)
    ∙ on (field_exact (length c.initial)) c.initial r6 _ held ∙ on (field_exact (padding_after (length c.initial))) c.padding rest _ is.padding

pub compartment_exact : Exact IsCompartment compartment_spelled compartment_at
compartment_exact = record { takes = compartment_takes; again = compartment_again }
