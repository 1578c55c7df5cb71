-- The headers of the file, its sections and its records, the ident of a pattern file and the marks of sections. Paper 01, 'Loading'; paper 02, g).
-- Assumes nothing.
use Rattle.std.specs.Prelude.{ℕ, List, [], ◌∷◌}
use Rattle.format.specs.Bytes.{Answer, reads, byte, two_at, four_at}

-- "File header, 20 bytes: ident 4, major 2, minor 2, size 4, compiler 4, its version 4."
pub record FileHeader : Type 0 where
  pub ident : List ℕ
  pub major : List ℕ
  pub minor : List ℕ
  pub size : List ℕ
  pub compiler : List ℕ
  pub version : List ℕ

abbrev pub file_header : List ℕ → Answer FileHeader
file_header f =
    reads f 0 20
    (record {
      ident = four_at f 0;
      major = two_at f 4;
      minor = two_at f 6;
      size = four_at f 8;
      compiler = four_at f 12;
      version = four_at f 16;
    })

-- "ASCII RITE", "ASCII 04"
abbrev pub rite_ident : List ℕ
rite_ident = 82 ∷ 73 ∷ 84 ∷ 69 ∷ []

abbrev pub major04 : List ℕ
major04 = 48 ∷ 52 ∷ []

-- "Each begins mark 4, size 4"
pub record SectionHeader : Type 0 where
  pub mark : List ℕ
  pub size : List ℕ

abbrev pub section_header : List ℕ → Answer SectionHeader
section_header f = reads f 0 8 (record { mark = four_at f 0; size = four_at f 4 })

-- "IREP has 4 more header bytes"
pub record IrepHeader : Type 0 where
  pub mark : List ℕ
  pub size : List ℕ
  pub version : List ℕ

abbrev pub irep_header : List ℕ → Answer IrepHeader
irep_header f = reads f 0 12 (record { mark = four_at f 0; size = four_at f 4; version = four_at f 8 })

-- "Record: size 4, nlocals 2, nregs 2, rlen 2, clen 2, ilen 4"
pub record RecordHeader : Type 0 where
  pub size : List ℕ
  pub nlocals : List ℕ
  pub nregs : List ℕ
  pub rlen : List ℕ
  pub clen : List ℕ
  pub ilen : List ℕ

abbrev pub record_header : List ℕ → Answer RecordHeader
record_header f =
    reads f 0 16
    (record {
      size = four_at f 0;
      nlocals = two_at f 4;
      nregs = two_at f 6;
      rlen = two_at f 8;
      clen = two_at f 10;
      ilen = four_at f 12;
    })

-- "handlers (kind 1, begin 4, end 4, target 4)"
pub record HandlerHeader : Type 0 where
  pub kind : ℕ
  pub begin : List ℕ
  pub end : List ℕ
  pub target : List ℕ

abbrev pub handler_header : List ℕ → Answer HandlerHeader
handler_header f = reads f 0 13 (record { kind = byte f 0; begin = four_at f 1; end = four_at f 5; target = four_at f 9 })

-- "marks are IREP, LVAR, DBG and END plus a zero byte"
pub data Mark : Type 0 where
  irep lvar dbg end : Mark

abbrev pub mark_bytes : Mark → List ℕ
mark_bytes irep = 73 ∷ 82 ∷ 69 ∷ 80 ∷ []
mark_bytes lvar = 76 ∷ 86 ∷ 65 ∷ 82 ∷ []
mark_bytes dbg = 68 ∷ 66 ∷ 71 ∷ 0 ∷ []
mark_bytes end = 69 ∷ 78 ∷ 68 ∷ 0 ∷ []
