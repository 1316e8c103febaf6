-- Where the parts of a sound image end.
use Rattle.std.proofs.Common.{ℕ, ◌≡◌, ◌+◌, ◌*◌, ◌<◌, ◌≤◌, length, Some, slice_get, arith}
use Rattle.std.proofs.lemmas.Option.{slice_get_within}
use Rattle.def_profile.specs.declared.limits.TheConstants.{RAM_END}
use Rattle.def_image.specs.Parts.{GateRow, CodeRow, CompartmentRow, ThreadRow, PartsRow}
use Rattle.def_image.specs.Members.{text_base, gate_address}
use Rattle.def_image.specs.Regions.{table_size, table_length}
use Rattle.def_image.specs.Sound.{Sound, CodeFits}
use Rattle.def_boot.specs.Fits.{Lies}
use Rattle.law_boot.proofs.Lying.{own_there, library_there, stack_there}
use Rattle.law_layout.proofs.Placing.{size_fits}

ends : (p : PartsRow) → Sound p → (base size : ℕ) → Lies p base size → base + size ≤ RAM_END
ends p s base size lies =
    let high = lies.high in
    let inside = s.heap.inside in
    let end = s.ram.end in
    omega (arith, high, inside, end)

code_end : (c : CodeRow) → CodeFits c → c.base + c.length ≤ RAM_END → text_base c + length c.text ≤ RAM_END
code_end c fits end = let slots = fits.fits in omega (arith, slots, end)

pub own_code_end : (p : PartsRow) → Sound p → (b : ℕ) (c : CompartmentRow) → slice_get p.compartments b ≡ Some c → text_base c.code + length c.code.text ≤ RAM_END
own_code_end p s b c is = code_end c.code (s.compartment b c is).code (ends p s c.code.base c.code.length (own_there p s b c is).code)

pub library_end : (p : PartsRow) → Sound p → (l : ℕ) (c : CodeRow) → slice_get p.libraries l ≡ Some c → text_base c + length c.text ≤ RAM_END
library_end p s l c is = code_end c (s.library l c is).code (ends p s c.base c.length (library_there p s l c is))

pub table_end : (p : PartsRow) → Sound p → (b : ℕ) (c : CompartmentRow) → slice_get p.compartments b ≡ Some c → c.table + 16 + 16 * length c.code.exports ≤ RAM_END
table_end p s b c is =
    let end = ends p s c.table (table_length c) (own_there p s b c is).table in
    let long = size_fits (table_size c.code) in
    omega (arith, end, long)

pub gate_end : (p : PartsRow) → Sound p → (b j : ℕ) (c : CompartmentRow) (x : GateRow) → slice_get p.compartments b ≡ Some c → slice_get c.code.exports j ≡ Some x → gate_address c j < RAM_END
gate_end p s b j c x is export =
    let end = table_end p s b c is in
    let index = slice_get_within c.code.exports j x export in
    omega (arith, end, index)

pub own_export_end : (p : PartsRow) → Sound p → (b j : ℕ) (c : CompartmentRow) (x : GateRow) → slice_get p.compartments b ≡ Some c → slice_get c.code.exports j ≡ Some x
    → text_base c.code + x.row.offset < RAM_END
own_export_end p s b j c x is export =
    let end = own_code_end p s b c is in
    let inside = ((s.compartment b c is).export j x export).offset.inside in
    omega (arith, end, inside)

pub library_export_end : (p : PartsRow) → Sound p → (l j : ℕ) (c : CodeRow) (x : GateRow) → slice_get p.libraries l ≡ Some c → slice_get c.exports j ≡ Some x
    → text_base c + x.row.offset < RAM_END
library_export_end p s l j c x is export =
    let end = library_end p s l c is in
    let inside = ((s.library l c is).export j x export).offset.inside in
    omega (arith, end, inside)

pub stack_end : (p : PartsRow) → Sound p → (t : ℕ) (x : ThreadRow) → slice_get p.threads t ≡ Some x → x.stack + x.stack_length ≤ RAM_END
stack_end p s t x is = ends p s x.stack x.stack_length (stack_there p s t x is)
