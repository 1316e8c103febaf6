-- What is left to be written of a text, and what holds once it is.
use Rattle.std.proofs.Common.{ℕ, List, ◌++◌}
use Rattle.def_port.specs.Bytes.{SinkView}
use Rattle.def_port.specs.Writes.{Writes, WriteFails}
use Rattle.ct_port.proofs.Pieces.{both, first_fails, second_fails}

-- this text is left: the first holds where all of it is written, and the second where a write fails
pub record Remainder (text : List ℕ) (now : SinkView) (Whole Part : SinkView → Type 0) : Type 0 where
  pub whole : (new : SinkView) → Writes now new text → Whole new
  pub part : (new : SinkView) → WriteFails now new text → Part new

module _ {mid now : SinkView} (piece text : List ℕ) {Whole Part : SinkView → Type 0} (left : Remainder (piece ++ text) mid Whole Part) where
  pub after_piece : Writes mid now piece → Remainder text now Whole Part
  after_piece w = record {
    whole = λ new v. left.whole new (both mid now new piece text w v);
    part = λ new v. left.part new (second_fails mid now new piece text w v);
  }

  pub piece_fails : WriteFails mid now piece → Part now
  piece_fails w = left.part now (first_fails mid now piece text w)
