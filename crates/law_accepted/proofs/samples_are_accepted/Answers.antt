use Rattle.std.proofs.Common.{[]}
use Rattle.law_image_samples.specs.Tiny.{tiny}
use Rattle.law_link_samples.specs.Samples.{tiny_rows, board_rows, board_sources}
use Rattle.law_link.proofs.Whole.{faultless}
use Rattle.law_accepted.proofs.samples_are_accepted.Goals as goal

pub returns : goal.returns
returns c =
    let board = c.samples_link.ensures.board in
    record {
      tiny = (c.samples_link.ensures.words, faultless tiny_rows [] tiny c.samples_link.ensures.words);
      board = (board.0, board.1, faultless board_rows board_sources board.0 board.1);
    }
