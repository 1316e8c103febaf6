-- Descriptions and sources that are linked, or not.
use Rattle.std.specs.Prelude.{ℕ, List, [], ◌∷◌, ◌++◌, codes, map, length, replicate, Result, Ok, Err}
use Rattle.serde_json.specs.Data.{Data, string}
use Rattle.def_image.specs.Parts.{CodeRow, CompartmentRow, PartsRow}
use Rattle.def_desc.specs.Rows.{DescRow}
use Rattle.def_desc.specs.Reading.{description_of}
use Rattle.def_link.specs.declared.LinkFault.{LinkFault}
use Rattle.law_desc.specs.Samples.{empty, all, num, with, altered, app, export, ram, tiny_of, file, hex, export_of, board}

-- a line with its line feed
abbrev pub line : List ℕ → List ℕ
line text = text ++ 10 ∷ []

-- cimport ct0, uart; li a0, 65; csw a0, 0(ct0); cret
abbrev pub five_words : Data
five_words =
    with empty (codes "words")
    (all (string (codes "00000297") ∷ string (codes "ff82b283") ∷ string (codes "04100513")
    ∷ string (codes "00a2a023") ∷ string (codes "00008067") ∷ []))

abbrev pub tiny_app : Data
tiny_app = altered app (codes "code") five_words

abbrev pub tiny_rows : DescRow
tiny_rows = description_of (tiny_of tiny_app)

-- with so many bytes of RAM
abbrev pub tiny_in : ℕ → DescRow
tiny_in size =
    description_of (altered (tiny_of tiny_app) (codes "ram") (altered ram (codes "size") (num size)))

-- with an export at an offset, or with code in a file and an export at a label
abbrev pub tiny_at : ℕ → DescRow
tiny_at offset =
    description_of
    (tiny_of
    (altered tiny_app (codes "exports") (all (altered export (codes "at") (num offset) ∷ []))))

abbrev pub from_file : Data
from_file =
    altered (altered app (codes "code") (file (codes "app.s"))) (codes "exports")
    (all (export_of (codes "main") ∷ []))

abbrev pub filed : DescRow
filed = description_of (tiny_of from_file)

-- with code in a file and so many bytes of RAM
abbrev pub filed_in : ℕ → DescRow
filed_in size =
    description_of (altered (tiny_of from_file) (codes "ram") (altered ram (codes "size") (num size)))

-- and a library beside it
abbrev pub lent : DescRow
lent = description_of (with (tiny_of from_file) (codes "libraries") (all (hex ∷ [])))

-- ---- sources

-- the four statements of the words
abbrev pub tiny_source : List ℕ
tiny_source =
    line (codes "main: cimport ct0, uart") ++ line (codes "li a0, 65")
    ++ line (codes "csw a0, 0(ct0)") ++ line (codes "cret")

abbrev pub unknown_mnemonic : List ℕ
unknown_mnemonic = line (codes "main: nop") ++ line (codes "frob a0")

abbrev pub undeclared_import : List ℕ
undeclared_import = line (codes "main: cimport ct0, nosuch")

abbrev pub undefined_label : List ℕ
undefined_label = line (codes "main: j nowhere")

abbrev pub import_then_mnemonic : List ℕ
import_then_mnemonic = undeclared_import ++ line (codes "frob a0")

abbrev pub label_then_import : List ℕ
label_then_import = undefined_label ++ line (codes "cimport ct0, nosuch")

abbrev pub no_main : List ℕ
no_main = line (codes "other: cret")

abbrev pub only_main : List ℕ
only_main = line (codes "main: cret")

abbrev pub stray_bytes : List ℕ
stray_bytes = line (codes "digit: cret") ++ line (codes ".data") ++ line (codes ".word 1")

abbrev pub bytes_alone : List ℕ
bytes_alone = line (codes ".data") ++ line (codes ".word 1")

-- ---- the sample with two compartments, a library and two threads

abbrev pub board_rows : DescRow
board_rows = description_of board

abbrev pub board_app_source : List ℕ
board_app_source =
    line (codes "main: cmove cs0, cra")
    ++ line (codes " cimport ca0, q")
    ++ line (codes " li a1, 24")
    ++ line (codes " cimport ct2, allocate")
    ++ line (codes " cjalr cra, ct2")
    ++ line (codes " li a0, 7")
    ++ line (codes " cimport ct2, digit")
    ++ line (codes " cjalr cra, ct2")
    ++ line (codes " cimport ct1, put")
    ++ line (codes " cimport ct2, switch")
    ++ line (codes " cjalr cra, ct2")
    ++ line (codes " cmove cra, cs0")
    ++ line (codes " cret")

abbrev pub board_driver_source : List ℕ
board_driver_source =
    line (codes "put: cimport ct0, uart") ++ line (codes "csb a0, 0(ct0)") ++ line (codes "cret")

abbrev pub board_hex_source : List ℕ
board_hex_source = line (codes "digit: addi a0, a0, 48") ++ line (codes "cret")

abbrev pub board_sources : List (List ℕ)
board_sources = board_app_source ∷ board_driver_source ∷ board_hex_source ∷ []

-- parts with zeros for each text
abbrev pub blank : CodeRow → CodeRow
blank c = record c { text = replicate (length c.text) 0 }

abbrev pub blank_own : CompartmentRow → CompartmentRow
blank_own c = record c { code = blank c.code }

abbrev pub blanked : PartsRow → PartsRow
blanked p = record p {
  compartments = map blank_own p.compartments;
  libraries = map blank p.libraries;
}

-- an answer, but for the texts
abbrev pub but_texts : Result PartsRow LinkFault → Result PartsRow LinkFault
but_texts (Err e) = Err e
but_texts (Ok p) = Ok (blanked p)
