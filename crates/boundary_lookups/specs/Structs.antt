-- What the structs of the lookups say of the format's answers.
-- Assumes nothing.
use Rattle.std.specs.Prelude.{ℕ, Float, pos}
use Rattle.std.proofs.Math.Option.{Option, none, some}
use Rattle.std.specs.Float.{binary64}
use Rattle.std.specs.Float.Ieee.{of_bits}
use Rattle.format.specs.Bytes.{Answer, ok, refused}
use Rattle.format.specs.Rows.{TextRow, HandlerRow}
use Rattle.format.specs.Lookup.{Constant, text, big, int, float, DebugFile}
use Rattle.boundary_lookups.specs.declared.BlotheathText.{BlotheathText}
use Rattle.boundary_lookups.specs.declared.BlotheathHandler.{BlotheathHandler}
use Rattle.boundary_lookups.specs.declared.BlotheathConstant.{BlotheathConstant}
use Rattle.boundary_lookups.specs.declared.BlotheathName.{BlotheathName}
use Rattle.boundary_lookups.specs.declared.BlotheathDebugFile.{BlotheathDebugFile}
use Rattle.boundary_lookups.specs.declared.BlotheathLookedLine.{BlotheathLookedLine}

abbrev pub text_is : Answer TextRow → BlotheathText
text_is (ok t) = record { refusal = 0; place = t.place; length = t.length }
text_is (refused e) = record { refusal = e; place = 0; length = 0 }

abbrev pub handler_is : Answer HandlerRow → BlotheathHandler
handler_is (ok h) = record { refusal = 0; kind = h.kind; begin = h.begin; end = h.end; target = h.target }
handler_is (refused e) = record { refusal = e; kind = 0; begin = 0; end = 0; target = 0 }

abbrev pub no_float : Float
no_float = of_bits binary64 0

abbrev pub value_is : Constant → BlotheathConstant
value_is (text t) = record { refusal = 0; kind = 0; place = t.place; length = t.length; int = pos 0; float = no_float }
value_is (int n) = record { refusal = 0; kind = 1; place = 0; length = 0; int = n; float = no_float }
value_is (float x) = record { refusal = 0; kind = 2; place = 0; length = 0; int = pos 0; float = x }
value_is (big t) = record { refusal = 0; kind = 3; place = t.place; length = t.length; int = pos 0; float = no_float }

abbrev pub constant_is : Answer Constant → BlotheathConstant
constant_is (ok c) = value_is c
constant_is (refused e) = record { refusal = e; kind = 0; place = 0; length = 0; int = pos 0; float = no_float }

abbrev pub name_is : Answer (Option TextRow) → BlotheathName
name_is (ok (some t)) = record { refusal = 0; named = 1; place = t.place; length = t.length }
name_is (ok none) = record { refusal = 0; named = 0; place = 0; length = 0 }
name_is (refused e) = record { refusal = e; named = 0; place = 0; length = 0 }

abbrev pub debug_file_is : Answer DebugFile → BlotheathDebugFile
debug_file_is (ok d) =
    record { refusal = 0; start = d.start; place = d.name.place; length = d.name.length; first = d.lines.first; number = d.lines.number }
debug_file_is (refused e) = record { refusal = e; start = 0; place = 0; length = 0; first = 0; number = 0 }

abbrev pub looked_line_is : Answer (Option ℕ) → BlotheathLookedLine
looked_line_is (ok (some l)) = record { refusal = 0; found = 1; line = l }
looked_line_is (ok none) = record { refusal = 0; found = 0; line = 0 }
looked_line_is (refused e) = record { refusal = e; found = 0; line = 0 }
