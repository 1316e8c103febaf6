-- A part of a text that was taken, as the beginning of it.
use Rattle.std.proofs.Common.{◌≡◌, ℕ, List, [], ◌++◌, Some, take, drop, refl, ap, sym}
use Rattle.std.proofs.lemmas.List.{append-nil, take-append-drop}
use Rattle.def_port.specs.Bytes.{AppendsPart}

pub part_of : (old new piece : List ℕ) (n : ℕ) → new ≡ old ++ take n piece → AppendsPart (Some old) (Some new) piece
part_of old new piece n is = record { part = take n piece; rest = drop n piece; whole = take-append-drop n piece; added = ap (λ t. Some t) is }

pub nothing_of : (old piece : List ℕ) → AppendsPart (Some old) (Some old) piece
nothing_of old piece = record { part = []; rest = piece; whole = refl; added = ap (λ t. Some t) (sym (append-nil old)) }
