-- Where a run stands, or that it is finished, as the definitions have it.
-- Assumes nothing.
use Rattle.std.specs.Prelude.{Option, Some, None}
use Rattle.format.specs.Run as format
use Rattle.line.specs.Answers.{line_of}
use Rattle.run.specs.declared.Standing.{Standing}

abbrev pub followed_of : Option Standing → format.Standing
followed_of None = format.finished
followed_of (Some s) = format.stands (format.frame s.record s.offset) (line_of s.line) s.frames
