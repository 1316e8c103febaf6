-- F2 and F3: which members a part has, and of which kind each is.
use Rattle.std.specs.Prelude.{ℕ, ◌%◌, List, length, count_by, Bool, true, false, not, ◌&&◌, ◌||◌, ◌==◌, Option, Some, None, option_and_then, is_some, nat_le, bytes_eq, if◌then◌else◌, codes}
use Rattle.std.specs.Char.{is_ascii_digit}
use Rattle.std.specs.List.{list_all, list_any}
use Rattle.serde_json.specs.Data.{Data}
use Rattle.serde_json.specs.Find.{get, as_str, as_array, as_object}
use Rattle.def_texts.specs.Names.{among}
use Rattle.def_desc.specs.declared.faults.PartWord.{PartWord}
use Rattle.def_desc.specs.declared.faults.PartWord.TheVariants as part
use Rattle.def_desc.specs.declared.tables.Shape.{Shape}
use Rattle.def_desc.specs.declared.tables.Shape.TheVariants as shape
use Rattle.def_desc.specs.declared.tables.Choice.{Choice}
use Rattle.def_desc.specs.declared.tables.Choice.TheVariants as choice
use Rattle.def_desc.specs.Members.{natural_of, text_value, has_key, has_text, list_at, member_at, keys_of}
use Rattle.def_desc.specs.Tables.{Member, members_of, device_kind_named, posture_of, library_posture_of, passes_of, form_names, righted_names, code_names}
use Rattle.def_desc.specs.Walk.{Spot}

-- ---- what stands at a member

-- a lower-case hexadecimal digit
abbrev pub is_lower_hexadecimal : ℕ → Bool
is_lower_hexadecimal b = is_ascii_digit b || (nat_le 97 b && nat_le b 102)

-- a word of code is eight of them
abbrev pub is_word : List ℕ → Bool
is_word text = length text == 8 && list_all is_lower_hexadecimal text

-- bytes are pairs of them
abbrev pub are_pairs : List ℕ → Bool
are_pairs text = length text % 2 == 0 && list_all is_lower_hexadecimal text

-- one of the texts of a list
abbrev pub is_choice : Choice → List ℕ → Bool
is_choice choice.Kind text = is_some (device_kind_named text)
is_choice choice.Posture text = is_some (posture_of text)
is_choice choice.LibraryPosture text = is_some (library_posture_of text)
is_choice choice.Passes text = is_some (passes_of text)

abbrev pub has_list : List ℕ → Data → Bool
has_list key d = is_some (option_and_then as_array (get key d))

abbrev pub has_words : Data → Bool
has_words d = has_list (codes "words") d && list_all (λ w. is_word (text_value w)) (list_at (codes "words") d)

-- words or a file, and not both
abbrev pub is_code_object : Data → Bool
is_code_object d = if has_key (codes "words") d then not (has_key (codes "file") d) && has_words d else has_text (codes "file") d

abbrev pub is_kind : Shape → Data → Bool
is_kind shape.Text d = is_some (as_str d)
is_kind (shape.Among choice) d = is_choice choice (text_value d)
is_kind (shape.Number low high) d = is_some (natural_of d)
is_kind (shape.Multiple low high) d = is_some (natural_of d)
is_kind (shape.List most) d = is_some (as_array d)
is_kind shape.Object d = is_some (as_object d)
is_kind (shape.Bytes least most) d = is_some (as_str d) && are_pairs (text_value d)
is_kind shape.Offset d = is_some (as_str d) || is_some (natural_of d)
is_kind shape.Code d = is_code_object d

-- ---- F2: a member is missing or not of its kind

abbrev pub is_kind_there : Member → Option Data → Bool
is_kind_there m None = not m.needed
is_kind_there m (Some x) = is_kind m.shape x

abbrev pub has_member : Data → Member → Bool
has_member d m = is_kind_there m (get m.name d)

abbrev pub has_members : PartWord → Data → Bool
has_members part d = list_all (has_member d) (members_of part)

-- an import has one of its forms, and with some of them rights
abbrev pub takes_rights : Data → Bool
takes_rights d = list_any (λ name. has_key name d) righted_names

abbrev pub has_one_form : Data → Bool
has_one_form d = count_by (λ name. has_key name d) form_names == 1

abbrev pub has_its_rights : Data → Bool
has_its_rights d = not (takes_rights d) || has_text (codes "rights") d

-- where the code is words, an export begins at an offset
abbrev pub has_labels : Data → Bool
has_labels owner = not (has_key (codes "words") (member_at (codes "code") owner))

abbrev pub has_its_place : Spot → Bool
has_its_place s = has_labels s.owner || not (has_text (codes "at") s.value)

-- what no table says of a part
abbrev pub has_more : PartWord → Spot → Bool
has_more part.Import s = has_one_form s.value && has_its_rights s.value
has_more part.Key s = is_some (natural_of s.value)
has_more part.Export s = has_its_place s
has_more part.Lexport s = has_its_place s
has_more _ s = true

abbrev pub has_kinds : Spot → Bool
has_kinds s = has_members s.place.part s.value && has_more s.place.part s

-- ---- F3: a member that isn't listed

abbrev pub is_member : PartWord → List ℕ → Bool
is_member part key = list_any (λ (m : Member). bytes_eq key m.name) (members_of part)

-- rights stand beside some of the forms
abbrev pub stands_beside : PartWord → Data → List ℕ → Bool
stands_beside part.Import d key = takes_rights d && bytes_eq key (codes "rights")
stands_beside _ d key = false

abbrev pub is_listed_member : PartWord → Data → List ℕ → Bool
is_listed_member part d key = is_member part key || stands_beside part d key

abbrev pub all_among : List (List ℕ) → List (List ℕ) → Bool
all_among names keys = list_all (λ k. among k names) keys

-- code counts as a part of its compartment or library
abbrev pub code_is_listed : PartWord → Data → Bool
code_is_listed part.Compartment d = all_among code_names (keys_of (member_at (codes "code") d))
code_is_listed part.Library d = all_among code_names (keys_of (member_at (codes "code") d))
code_is_listed _ d = true

abbrev pub has_only : Spot → Bool
has_only s =
    list_all (is_listed_member s.place.part s.value) (keys_of s.value)
    && code_is_listed s.place.part s.value
