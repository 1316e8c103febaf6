-- What a write to a sink did.
use Rattle.std.specs.Prelude.{◌≡◌, ℕ, List, Result, MatchResult}
use Rattle.def_port.specs.Bytes.{FaultsRose, Appends, AppendsPart, SinkView}

-- the whole piece was taken, and no fault was counted
pub record Writes (before after : SinkView) (piece : List ℕ) : Type 0 where
  pub added : Appends before.bytes after.bytes piece
  pub same : after.faults ≡ before.faults

-- the beginning of the piece was taken, and the count rose
pub record WriteFails (before after : SinkView) (piece : List ℕ) : Type 0 where
  pub added : AppendsPart before.bytes after.bytes piece
  pub rose : FaultsRose before.faults after.faults

-- A write answers Ok where it took the whole piece, and fails where it took its beginning. Several
-- writes are one where all of them succeed, and fail where one does.
abbrev pub WriteAnswers : {A B : Type 0} → SinkView → SinkView → List ℕ → Result A B → Type 0
WriteAnswers before after piece result =
    MatchResult result (λ _. Writes before after piece) (λ _. WriteFails before after piece)
