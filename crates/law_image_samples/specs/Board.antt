-- The sample with two compartments, a library and two threads, and its small form with one thread and no service; their
-- texts as zeros.
use Rattle.std.specs.Prelude.{ℕ, true, false, List, [], ◌∷◌, codes, replicate}
use Rattle.ct_entry.specs.declared.rows.Mode.TheVariants.{Enabled, Inherit}
use Rattle.def_image.specs.declared.SlotKind.TheVariants as slot
use Rattle.def_image.specs.Parts.{PartsRow, CompartmentRow, CodeRow, SlotRow, GateRow, ThreadRow}
use Rattle.law_image_samples.specs.Tiny.{slot_of, the_switch, the_uart, the_main, the_thread, uart0}

abbrev pub app_slots : List SlotRow
app_slots =
    the_switch ∷ slot_of slot.Library 43 0 0 (codes "digit") ∷ slot_of slot.Call 50 1 0 (codes "put")
    ∷ slot_of slot.Service 40 6 0 (codes "allocate") ∷ slot_of slot.Quota 50 64 0 (codes "q") ∷ []

abbrev pub main_at : ℕ → GateRow
main_at n = record the_main { row = record the_main.row { entry = n } }

abbrev pub board_app : CompartmentRow
board_app = record {
  code = record {
    name = codes "app";
    base = 0x80000000;
    length = 112;
    slots = app_slots;
    exports = main_at 8 ∷ [];
    text = replicate 72 0;
  };
  table = 0x80000070;
  globals = 0x80000090;
  globals_length = 16;
  initial = [];
}

abbrev pub put_at : ℕ → GateRow
put_at n = record {
  row = record {
    offset = 0;
    stack = 0;
    args = 1;
    posture = Enabled;
    capabilities = false;
    entry = n;
  };
  name = codes "put";
}

abbrev pub driver : CompartmentRow
driver = record {
  code = record {
    name = codes "driver";
    base = 0x800000a0;
    length = 32;
    slots = the_switch ∷ the_uart ∷ [];
    exports = put_at 13 ∷ [];
    text = replicate 16 0;
  };
  table = 0x800000c0;
  globals = 0x800000e0;
  globals_length = 16;
  initial = [];
}

abbrev pub digit_at : ℕ → GateRow
digit_at n = record {
  row = record {
    offset = 0;
    stack = 0;
    args = 0;
    posture = Inherit;
    capabilities = true;
    entry = n;
  };
  name = codes "digit";
}

abbrev pub hex : CodeRow
hex = record {
  name = codes "hex";
  base = 0x800000f0;
  length = 16;
  slots = [];
  exports = digit_at 15 ∷ [];
  text = replicate 8 0;
}

abbrev pub thread_of : List ℕ → ℕ → ThreadRow
thread_of name base = record the_thread { name = name; stack = base }

abbrev pub board : PartsRow
board = record {
  version = 1;
  sweep = 64;
  quantum = 20;
  ram = 0x80000000;
  size = 4096;
  trusted = 0x80000300;
  heap = 0x80000550;
  name = codes "board";
  devices = uart0 ∷ [];
  shared = [];
  sealed = [];
  compartments = board_app ∷ driver ∷ [];
  libraries = hex ∷ [];
  threads = thread_of (codes "t") 0x80000100 ∷ thread_of (codes "u") 0x80000200 ∷ [];
}
