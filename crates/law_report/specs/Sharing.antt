-- Three compartments: a and b import one shared object, and c imports a call of b's export.
use Rattle.std.specs.Prelude.{ℕ, Bool, List, [], ◌∷◌, codes}
use Rattle.ct_entry.specs.declared.rows.Mode.TheVariants.{Enabled}
use Rattle.def_image.specs.declared.SlotKind.TheVariants as slot
use Rattle.def_image.specs.Parts.{PartsRow, CompartmentRow, SlotRow, GateRow}
use Rattle.law_image_samples.specs.Tiny.{slot_of, the_switch, tiny, app}

-- an owner of these slots and exports
abbrev pub owner_of : List ℕ → List SlotRow → List GateRow → CompartmentRow
owner_of name slots exports =
    record app {
      code = record app.code { name = name; slots = the_switch ∷ slots; exports = exports };
    }

-- the six bits of RWC, and of RW
abbrev pub with_c : ℕ
with_c = 59

abbrev pub without_c : ℕ
without_c = 51

abbrev pub ring : ℕ → SlotRow
ring rights = slot_of slot.Shared rights 0 0 (codes "ring")

abbrev pub f : Bool → GateRow
f capabilities = record {
  row = record {
    offset = 0;
    stack = 0;
    args = 1;
    posture = Enabled;
    capabilities = capabilities;
    entry = 8;
  };
  name = codes "f";
}

-- the rights of b's import, and whether its export passes capabilities
abbrev pub sharing : ℕ → Bool → PartsRow
sharing rights capabilities = record tiny {
  shared = record { name = codes "ring"; base = 0x80000200; length = 16 } ∷ [];
  compartments =
      owner_of (codes "a") (ring with_c ∷ []) []
      ∷ owner_of (codes "b") (ring rights ∷ []) (f capabilities ∷ [])
      ∷ owner_of (codes "c") (slot_of slot.Call 50 1 0 (codes "f") ∷ []) []
      ∷ [];
}
