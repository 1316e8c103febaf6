-- Two compartments that share nothing, with a thread each: a prowler (thread 0) that would read the keeper's globals, and
-- a keeper (thread 1) that writes a byte of them, its secret, to the serial port. An image for each secret, of which all
-- else is the same.
use Rattle.std.specs.Prelude.{ℕ, true, List, [], ◌∷◌, codes}
use Rattle.ct_entry.specs.declared.rows.Mode.TheVariants.{Enabled}
use Rattle.ct_entry.specs.declared.hardware.DeviceKind.TheVariants.{Uart}
use Rattle.def_image.specs.declared.SlotKind.TheVariants as slot
use Rattle.def_image.specs.Parts.{PartsRow, CompartmentRow, SlotRow, GateRow, ThreadRow}

abbrev pub the_switch : SlotRow
the_switch = record {
  row = record { kind = slot.Service; rights = 40; first = 0; second = 0 };
  name = codes "switch";
}

-- to store alone
abbrev pub the_port : SlotRow
the_port = record {
  row = record { kind = slot.Device; rights = 49; first = 0; second = 0 };
  name = codes "uart";
}

-- an export with this entry number, at the beginning of the text
abbrev pub export_of : ℕ → List ℕ → GateRow
export_of n name = record {
  row = record {
    offset = 0;
    stack = 0;
    args = 6;
    posture = Enabled;
    capabilities = true;
    entry = n;
  };
  name = name;
}

-- lui a0, 0x80000; addi a0, a0, 160; clw a1, 0(ca0); cret
abbrev pub peek_text : List ℕ
peek_text =
    0x37 ∷ 0x05 ∷ 0x00 ∷ 0x80 ∷ 0x13 ∷ 0x05 ∷ 0x05 ∷ 0x0a ∷ 0x83 ∷ 0x25 ∷ 0x05 ∷ 0x00
    ∷ 0x67 ∷ 0x80 ∷ 0x00 ∷ 0x00 ∷ []

-- clbu a0, 0(cgp); cimport ct0, uart; csb a0, 0(ct0); cret
abbrev pub show_text : List ℕ
show_text =
    0x03 ∷ 0xc5 ∷ 0x01 ∷ 0x00 ∷ 0x97 ∷ 0x02 ∷ 0x00 ∷ 0x00 ∷ 0x83 ∷ 0xb2 ∷ 0x42 ∷ 0xff
    ∷ 0x23 ∷ 0x80 ∷ 0xa2 ∷ 0x00 ∷ 0x67 ∷ 0x80 ∷ 0x00 ∷ 0x00 ∷ []

abbrev pub prowler : CompartmentRow
prowler = record {
  code = record {
    name = codes "prowler";
    base = 0x80000000;
    length = 32;
    slots = the_switch ∷ [];
    exports = export_of 4 (codes "peek") ∷ [];
    text = peek_text;
  };
  table = 0x80000020;
  globals = 0x80000040;
  globals_length = 16;
  initial = [];
}

-- the address of the secret: the keeper's globals begin with it
abbrev pub secret_at : ℕ
secret_at = 0x800000a0

abbrev pub keeper : ℕ → CompartmentRow
keeper secret = record {
  code = record {
    name = codes "keeper";
    base = 0x80000050;
    length = 48;
    slots = the_switch ∷ the_port ∷ [];
    exports = export_of 9 (codes "show") ∷ [];
    text = show_text;
  };
  table = 0x80000080;
  globals = secret_at;
  globals_length = 16;
  initial = secret ∷ [];
}

abbrev pub thread_of : List ℕ → ℕ → ℕ → ThreadRow
thread_of name compartment stack = record {
  name = name;
  stack = stack;
  stack_length = 256;
  compartment = compartment;
  export = 0;
  priority = 1;
  frames = 1;
}

-- the image whose keeper has this secret
abbrev pub walls : ℕ → PartsRow
walls secret = record {
  version = 1;
  sweep = 64;
  quantum = 100;
  ram = 0x80000000;
  size = 1152;
  trusted = 0x800002b0;
  heap = 0x80000480;
  name = codes "walls";
  devices = record { name = codes "uart0"; kind = Uart; base = 0x10000000 } ∷ [];
  shared = [];
  sealed = [];
  compartments = prowler ∷ keeper secret ∷ [];
  libraries = [];
  threads = thread_of (codes "e") 0 0x800000b0 ∷ thread_of (codes "k") 1 0x800001b0 ∷ [];
}
