use Rattle.std.proofs.Common.{◌≡◌, flat_map, take, string_bytes}
use Rattle.std.specs.Char.{encode_utf8}
use Rattle.ct_image_parts.proofs.converting.text_of.Given as goal

abbrev pub invariant-loop-byte : goal.invariant-loop-byte
invariant-loop-byte l = string_bytes l.text ≡ flat_map encode_utf8 (take l.byte-index l.name)
