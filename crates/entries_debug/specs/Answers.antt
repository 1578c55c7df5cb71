-- A debug file as the definitions have it.
-- Assumes nothing.
use Rattle.format.specs.Lookup as format
use Rattle.ranges.specs.Answers.{text_of, range_of}
use Rattle.entries_debug.specs.declared.DebugFile.{DebugFile}

abbrev pub debug_file_of : DebugFile → format.DebugFile
debug_file_of d = record { start = d.start.0; name = text_of d.name; lines = range_of d.lines }
