-- Paper 01's starred samples, as one table of the definitions, with some that it does not star, those of ident and size as paper 02's g) has them,
-- constants as its d) reads them, parents as its a) has them, newer opcodes as its c) and prefixes as its b) do, all under the desktop's allowance
-- and with everything permitted, those of other allowances as its h) has them, of other lists as its n) and of single records as its i) does; and sample A
-- as a file that passes.
-- Assumes nothing.
use Prim.Native.Nat.{ℕ, ◌*◌, ◌/◌, ◌%◌, ◌<◌}
use native.Mathlib.Omega.{arith}
use mathlib.Core.Path.{◌≡◌, refl}
use mathlib.Core.Bool.{true, false}
use mathlib.Core.List.{List, [], ◌∷◌, ◌++◌}
use mathlib.Core.Option.{none, some}
use lib.IntN.{pos, negsuc}
use lib.ListN.{length, replicate, take, drop, set}
use Rattle.format.specs.Bytes.{Answer, ok, refused, step, no_zero, int64_at}
use Rattle.format.specs.Rows.{text_row, line_row, record_width}
use Rattle.format.specs.Insn.{Z, W, S, table, row, operands, opcode, rest, last_of, jump, target, insn, fetch_as, fetch}
use Rattle.format.specs.Irep.{handler, pool_text, symbol_text, big_integer, pool_value, pool_entry, counted, head_at, body_at, record_at, records_from, irep_section}
use Rattle.format.specs.Walk.{walk, visits}
use Rattle.format.specs.Lvar.{plain_text, name_entry, record_names, lvar_section}
use Rattle.format.specs.Packed.{packed_from, packed, packed_entry}
use Rattle.format.specs.Debug.{file_head, map_entry, map_lines, files_from, debug_record, debug_content, debug_section}
use Rattle.format.specs.Allowance.{allowance, desktop, preview}
use Rattle.format.specs.File.{end_section, section_at, sections, file_refusal, file_reading}
use Rattle.format.specs.Load.{Nine, Counts, fits, ending, loading_within, loading, load}
use Rattle.format.specs.Registers.{comments, form}
use Rattle.format.specs.Line.{halve, line_at, rising}
use Rattle.format.specs.Lookup.{record_word, record_in, row_in, bytes_in, Constant, text, int, constant_at, constant_of, pool}
use Rattle.format.specs.Tree.{layout, whole, span, child_of, no_parent, nodes_from}
use Rattle.format.specs.Pattern.{Record, pattern_of, reach, lands}
use Rattle.format.specs.Permitted.{permits, permitted_at, everything}
use Rattle.format.specs.Exam.{FilePasses, ChangedAlone, stray, readable, below, all_below, operands_below, range_below, bounded, follows, first_at, first_of}
use Rattle.format.specs.Exam.{exam16, exam32, exam1718, exam19, exam20, examine_record, examine_all, examine_pattern, passing, examining, examine}
use Rattle.format.specs.Exam.{examine_single, passing_single, examining_single, examine_one}
use Rattle.format.specs.Run.{Choice, frame, go_on, enter, caught, leave, child_operand, move, one_step, run_from, run, choices_from, choices, finished, stands}
use Rattle.format.specs.Run.{standing, laid_frames, frame_table, following, follow}
use Rattle.format.specs.Claim.{Claim}
use Rattle.runs.proofs.Refusal.{passes_iff}
use Rattle.laws.proofs.Demand3.{demand3}
use Rattle.laws.proofs.Single.{changed_file}

-- File A: header, an IREP section with one record, END
abbrev pub file_a : List ℕ
file_a =
    82 ∷ 73 ∷ 84 ∷ 69 ∷ 48 ∷ 52 ∷ 48 ∷ 48 ∷ 0 ∷ 0 ∷ 0 ∷ 64 ∷ 0 ∷ 0 ∷ 0 ∷ 0 ∷ 0 ∷ 0 ∷ 0 ∷ 0
    ∷ 73 ∷ 82 ∷ 69 ∷ 80 ∷ 0 ∷ 0 ∷ 0 ∷ 36 ∷ 0 ∷ 0 ∷ 0 ∷ 0
    ∷ 0 ∷ 0 ∷ 0 ∷ 24 ∷ 0 ∷ 1 ∷ 0 ∷ 2 ∷ 0 ∷ 0 ∷ 0 ∷ 0 ∷ 0 ∷ 0 ∷ 0 ∷ 4 ∷ 17 ∷ 1 ∷ 61 ∷ 1 ∷ 0 ∷ 0 ∷ 0 ∷ 0
    ∷ 69 ∷ 78 ∷ 68 ∷ 0 ∷ 0 ∷ 0 ∷ 0 ∷ 8 ∷ []

-- A with another size in its header, below 256
sized : ℕ → List ℕ
sized n = set file_a 11 n

-- "A's first 20 bytes, then END, size 12 and four zero bytes", with these two sizes: "The 32- and 31-byte samples then carry size 31."
end_alone : ℕ → ℕ → List ℕ
end_alone n size = take 20 (sized n) ++ 69 ∷ 78 ∷ 68 ∷ 0 ∷ 0 ∷ 0 ∷ 0 ∷ size ∷ 0 ∷ 0 ∷ 0 ∷ 0 ∷ []

-- tables with so many words for records, and none for the rest
lent : ℕ → Nine
lent n = record { records = n; handlers = 0; pool = 0; symbols = 0; strings = 0; names = 0; file_names = 0; files = 0; lines = 0 }

-- room for two records
two_rows : Nine
two_rows = lent (2 * record_width)

-- Paper 02, d): A's record with two constants, the int64 258 with its high byte first and the string "a\0b"; the byte behind the string stands
-- at place 69
file_d : List ℕ
file_d =
    82 ∷ 73 ∷ 84 ∷ 69 ∷ 48 ∷ 52 ∷ 48 ∷ 48 ∷ 0 ∷ 0 ∷ 0 ∷ 80 ∷ 0 ∷ 0 ∷ 0 ∷ 0 ∷ 0 ∷ 0 ∷ 0 ∷ 0
    ∷ 73 ∷ 82 ∷ 69 ∷ 80 ∷ 0 ∷ 0 ∷ 0 ∷ 52 ∷ 0 ∷ 0 ∷ 0 ∷ 0
    ∷ 0 ∷ 0 ∷ 0 ∷ 40 ∷ 0 ∷ 1 ∷ 0 ∷ 2 ∷ 0 ∷ 0 ∷ 0 ∷ 0 ∷ 0 ∷ 0 ∷ 0 ∷ 4 ∷ 17 ∷ 1 ∷ 61 ∷ 1
    ∷ 0 ∷ 2 ∷ 3 ∷ 0 ∷ 0 ∷ 0 ∷ 0 ∷ 0 ∷ 0 ∷ 1 ∷ 2 ∷ 0 ∷ 0 ∷ 3 ∷ 97 ∷ 0 ∷ 98 ∷ 0 ∷ 0 ∷ 0
    ∷ 69 ∷ 78 ∷ 68 ∷ 0 ∷ 0 ∷ 0 ∷ 0 ∷ 8 ∷ []

-- tables with so many words for records and for constants
lent_pool : ℕ → ℕ → Nine
lent_pool n k = record { records = n; handlers = 0; pool = k; symbols = 0; strings = 0; names = 0; file_names = 0; files = 0; lines = 0 }

-- what a load answers of a file without LVAR: rows as these, and no visit
unvisited : Nine → Counts
unvisited n = record { rows = n; visits = 0 }

-- constant j of D, over the tables that its load leaves
constant_d : ℕ → Answer Constant
constant_d j = let t = (load file_d (lent_pool record_width 6) desktop).tables in pool file_d t.records t.pool 0 j

-- the bytes of "a\0b" with its length before it and its zero behind it
zero_inside : List ℕ
zero_inside = 0 ∷ 3 ∷ 97 ∷ 0 ∷ 98 ∷ 0 ∷ []

-- a pattern of one record with these instructions
alone : List ℕ → List Record
alone c = record { nregs = 2; rlen = 0; npool = 0; nsyms = 0; code = c; handlers = []; lines = [] } ∷ []

-- Paper 02, c): a record with these instructions, 3 registers, 1 symbol and 2 children, which return
family : List ℕ → List Record
family c =
    let one : Record = record { nregs = 3; rlen = 0; npool = 2; nsyms = 0; code = 61 ∷ 0 ∷ []; handlers = []; lines = [] } in
    record { nregs = 3; rlen = 2; npool = 2; nsyms = 1; code = c ++ 61 ∷ 0 ∷ []; handlers = []; lines = [] } ∷ one ∷ one ∷ []

-- Paper 02, b): a record with these instructions before STOP and 300 registers, constants and symbols, so that 299 is 1, 43
oval : List ℕ → List Record
oval c = record { nregs = 300; rlen = 0; npool = 300; nsyms = 300; code = c ++ 118 ∷ []; handlers = []; lines = [] } ∷ []

-- Paper 02, m): A with so many children, at most 65,535, and an LVAR section of no strings behind its only record, which has no name to take
file_m : ℕ → List ℕ
file_m n = set (set (take 56 file_a) 40 (n / 256)) 41 (n % 256) ++ 76 ∷ 86 ∷ 65 ∷ 82 ∷ 0 ∷ 0 ∷ 0 ∷ 12 ∷ 0 ∷ 0 ∷ 0 ∷ 0 ∷ drop 56 file_a

-- the same with A's record twice, of which the second has no children; and without any, in an IREP section of 12 bytes
two_m : ℕ → List ℕ
two_m n = set (take 56 (file_m n)) 27 60 ++ drop 32 (take 56 file_a) ++ drop 56 (file_m n)

none_m : List ℕ
none_m = set (take 32 (sized 52)) 27 12 ++ drop 56 (file_m 0)

-- so many records, and visits
visited : ℕ → ℕ → Counts
visited n k = record { rows = lent n; visits = k }

-- Paper 02, a): depth and parent of record i, once a file is loaded
node_in : List ℕ → ℕ → List ℕ
node_in f i = let t = (load f two_rows desktop).tables.records in record_word t i 19 ∷ record_word t i 20 ∷ []

-- Paper 02, i): two records with rlens 0 and 1, of which the second enters its child of this number and has none behind it
childless : ℕ → List Record
childless n =
    alone (61 ∷ 0 ∷ []) ++ record { nregs = 2; rlen = 1; npool = 0; nsyms = 0; code = 98 ∷ 0 ∷ n ∷ 61 ∷ 0 ∷ []; handlers = []; lines = [] } ∷ []

-- A edited in its only record: its first operand, at place 49, is not below nregs
edited_a : List ℕ
edited_a = set file_a 49 2

only : (j : ℕ) → j < 1 → j ≡ 0
only j h = omega arith

only_one : 0 < 1
only_one = omega arith

record Table : Type 0 where
  a_loads : (load file_a two_rows desktop).answer ≡ ok (unvisited (lent 1))
  a_row : (load file_a two_rows desktop).tables.records ≡ 24 ∷ 1 ∷ 2 ∷ 0 ∷ 0 ∷ 4 ∷ 48 ∷ (replicate 13 0 ++ no_parent ∷ replicate record_width 0)
  a_three_zeros : (load (file_a ++ replicate 3 0) two_rows desktop).answer ≡ ok (unvisited (lent 1))
  a_four_zeros : (load (file_a ++ replicate 4 0) two_rows desktop).answer ≡ refused 5
  end_loads : (load (end_alone 31 12) two_rows desktop).answer ≡ ok (unvisited (lent 0))
  end_no_tree : (examine (end_alone 31 12) two_rows desktop everything).answer ≡ refused 15
  end_of_size_0 : (load (end_alone 31 0) two_rows desktop).answer ≡ refused 8
  end_of_31_bytes : (load (take 31 (end_alone 31 12)) two_rows desktop).answer ≡ refused 4
  end_states_32 : (load (take 31 (end_alone 32 12)) two_rows desktop).answer ≡ refused 28
  a_states_0 : (load (sized 0) two_rows desktop).answer ≡ ok (unvisited (lent 1))
  a_states_63 : (load (sized 63) two_rows desktop).answer ≡ ok (unvisited (lent 1))
  a_states_65 : (load (sized 65) two_rows desktop).answer ≡ refused 28
  a_low_byte_first : (load (set (sized 0) 8 64) two_rows desktop).answer ≡ refused 28
  a_no_ident : (load (set file_a 3 70) two_rows desktop).answer ≡ refused 27
  ident_before_size : (load (set (sized 65) 0 114) two_rows desktop).answer ≡ refused 27
  size_before_major : (load (set (sized 65) 5 51) two_rows desktop).answer ≡ refused 28
  m_whole : (load (file_m 0) two_rows desktop).answer ≡ ok (visited 1 1)
  m_past_the_last : (load (file_m 3) two_rows desktop).answer ≡ ok (visited 1 4)
  m_most_of_one : (load (file_m 65535) two_rows desktop).answer ≡ ok (visited 1 65536)
  m_two_whole : (load (two_m 1) two_rows desktop).answer ≡ ok (visited 2 2)
  m_not_reached : (load (two_m 0) two_rows desktop).answer ≡ ok (visited 2 1)
  m_both_reached : (load (two_m 300) two_rows desktop).answer ≡ ok (visited 2 301)
  m_no_records : (load none_m two_rows desktop).answer ≡ ok (visited 0 1)
  m_passes : (examine (two_m 1) two_rows desktop everything).answer ≡ ok (visited 2 2)
  parent_none : node_in (two_m 1) 0 ≡ 0 ∷ no_parent ∷ []
  parent_whole : node_in (two_m 1) 1 ≡ 1 ∷ 0 ∷ []
  parent_not_whole : node_in (two_m 300) 1 ≡ 1 ∷ 0 ∷ []
  parent_unreached : node_in (two_m 0) 1 ≡ 0 ∷ no_parent ∷ []
  parent_unused : node_in (file_m 0) 1 ≡ 0 ∷ 0 ∷ []
  parent_refused : node_in (sized 65) 0 ≡ 0 ∷ 0 ∷ []
  allowed_all : load file_a two_rows (allowance 64 1) ≡ load file_a two_rows desktop
  allowed_by_preview : load file_a two_rows preview ≡ load file_a two_rows desktop
  allowed_more : load file_a two_rows (allowance 65537 1025) ≡ load file_a two_rows desktop
  allowed_most : load file_a two_rows (allowance 4294967295 4294967295) ≡ load file_a two_rows desktop
  allowed_each_alone : (load file_a two_rows (allowance 4294967295 0)).answer ≡ refused 29
  allowed_a_byte_less : (load file_a two_rows (allowance 63 1)).answer ≡ refused 29
  allowed_no_record : (load file_a two_rows (allowance 64 0)).answer ≡ refused 29
  allowed_nothing : (load file_a two_rows (allowance 0 0)).answer ≡ refused 29
  allowed_nor_lent : (load file_a (lent 0) (allowance 64 0)).answer ≡ refused 14
  allowed_not_lent : (load file_a (lent 0) (allowance 64 1)).answer ≡ refused 14
  allowed_empty_file : (load [] two_rows (allowance 0 0)).answer ≡ refused 2
  allowed_19_of_20 : (load (replicate 20 0) two_rows (allowance 19 1)).answer ≡ refused 29
  allowed_20_of_20 : (load (replicate 20 0) two_rows (allowance 20 1)).answer ≡ refused 27
  allowed_no_records : load none_m two_rows (allowance 52 0) ≡ load none_m two_rows desktop
  allowed_one_of_two : (load (two_m 1) two_rows (allowance 100 1)).answer ≡ refused 29
  allowed_two_of_two : load (two_m 1) two_rows (allowance 100 2) ≡ load (two_m 1) two_rows desktop
  allowed_one_row_of_two : (load (two_m 1) (lent record_width) (allowance 100 1)).answer ≡ refused 14
  allowed_behind_header : (load (set file_a 27 40) two_rows (allowance 64 1)).answer ≡ refused 7
  allowed_before_content : (load (set file_a 47 255) two_rows (allowance 64 0)).answer ≡ refused 29
  allowed_content : (load (set file_a 47 255) two_rows (allowance 64 1)).answer ≡ refused 7
  allowed_passes : (examine file_a two_rows (allowance 64 1) everything).answer ≡ ok (unvisited (lent 1))
  allowed_not_examined : (examine file_a two_rows (allowance 64 0) everything).answer ≡ refused 29
  allowed_goes_on : (follow file_a two_rows (allowance 64 1) everything 2 (0 ∷ [])).answer ≡ ok (stands (frame 0 2) none 1)
  allowed_not_followed : (follow file_a two_rows (allowance 63 1) everything 1 (5 ∷ [])).answer ≡ refused 29
  d_loads : (load file_d (lent_pool record_width 6) desktop).answer ≡ ok (unvisited (lent_pool 1 2))
  d_rows : (load file_d (lent_pool record_width 6) desktop).tables.pool ≡ 3 ∷ 55 ∷ 8 ∷ 0 ∷ 66 ∷ 3 ∷ []
  d_int64 : constant_d 0 ≡ ok (int (pos 258))
  d_string : constant_d 1 ≡ ok (text (text_row 66 3))
  d_not_ended : (load (set file_d 69 1) (lent_pool record_width 6) desktop).answer ≡ refused 9
  string_inner_zero : pool_text zero_inside 0 0 ≡ ok (step (text_row 2 3) 6)
  symbol_inner_zero : symbol_text zero_inside 0 0 ≡ refused 9
  name_inner_zero : plain_text zero_inside 0 0 ≡ refused 9
  int64_low_byte_first : int64_at (2 ∷ 1 ∷ 0 ∷ 0 ∷ 0 ∷ 0 ∷ 0 ∷ 0 ∷ []) 0 ≡ pos 144396663052566528
  int64_below_0 : int64_at (255 ∷ 255 ∷ 255 ∷ 255 ∷ 255 ∷ 255 ∷ 255 ∷ 254 ∷ []) 0 ≡ negsuc 1
  int64_lowest : int64_at (128 ∷ 0 ∷ 0 ∷ 0 ∷ 0 ∷ 0 ∷ 0 ∷ 0 ∷ []) 0 ≡ negsuc 9223372036854775807
  getidx0_last : examine_pattern everything (family (36 ∷ 0 ∷ 2 ∷ [])) ≡ 0
  getidx0_high : examine_pattern everything (family (36 ∷ 0 ∷ 3 ∷ [])) ≡ 17
  ssend0_last : examine_pattern everything (family (48 ∷ 0 ∷ 0 ∷ [])) ≡ 0
  ssend0_high : examine_pattern everything (family (48 ∷ 0 ∷ 1 ∷ [])) ≡ 17
  send0_last : examine_pattern everything (family (51 ∷ 0 ∷ 0 ∷ [])) ≡ 0
  send0_high : examine_pattern everything (family (51 ∷ 0 ∷ 1 ∷ [])) ≡ 17
  tdef_last : examine_pattern everything (family (107 ∷ 0 ∷ 0 ∷ 1 ∷ [])) ≡ 0
  tdef_symbol_high : examine_pattern everything (family (107 ∷ 0 ∷ 1 ∷ 1 ∷ [])) ≡ 17
  tdef_child_high : examine_pattern everything (family (107 ∷ 0 ∷ 0 ∷ 2 ∷ [])) ≡ 17
  sdef_child_high : examine_pattern everything (family (108 ∷ 0 ∷ 0 ∷ 2 ∷ [])) ≡ 17
  blkcall_any : examine_pattern everything (family (54 ∷ 0 ∷ 255 ∷ [])) ≡ 0
  addilv_any : examine_pattern everything (family (73 ∷ 0 ∷ 255 ∷ 255 ∷ [])) ≡ 0
  tdef_enters : run (family (107 ∷ 0 ∷ 0 ∷ 1 ∷ [])) (enter ∷ []) ≡ frame 2 0 ∷ frame 0 4 ∷ []
  sdef_enters : run (family (108 ∷ 0 ∷ 0 ∷ 0 ∷ [])) (enter ∷ []) ≡ frame 1 0 ∷ frame 0 4 ∷ []
  ext1_last : examine_pattern everything (oval (115 ∷ 17 ∷ 1 ∷ 43 ∷ [])) ≡ 0
  ext1_high : examine_pattern everything (oval (115 ∷ 17 ∷ 1 ∷ 44 ∷ [])) ≡ 17
  ext2_last : examine_pattern everything (oval (116 ∷ 2 ∷ 0 ∷ 1 ∷ 43 ∷ [])) ≡ 0
  ext2_high : examine_pattern everything (oval (116 ∷ 2 ∷ 0 ∷ 1 ∷ 44 ∷ [])) ≡ 17
  ext2_low_byte_first : examine_pattern everything (oval (116 ∷ 2 ∷ 0 ∷ 43 ∷ 1 ∷ [])) ≡ 17
  ext3_last : examine_pattern everything (oval (117 ∷ 2 ∷ 1 ∷ 43 ∷ 1 ∷ 43 ∷ [])) ≡ 0
  ext3_third_a_byte : examine_pattern everything (oval (117 ∷ 47 ∷ 1 ∷ 36 ∷ 1 ∷ 43 ∷ 7 ∷ [])) ≡ 0
  ext2_keeps_bs : examine_pattern everything (oval (116 ∷ 39 ∷ 0 ∷ 0 ∷ 0 ∷ [])) ≡ 0
  ext2_keeps_s : examine_pattern everything (oval (116 ∷ 38 ∷ 0 ∷ 0 ∷ [])) ≡ 0
  ext1_keeps_z : examine_pattern everything (oval (115 ∷ 0 ∷ [])) ≡ 0
  ext_last_in_record : examine_pattern everything (alone (115 ∷ [])) ≡ 25
  ext_twice : examine_pattern everything (oval (115 ∷ 116 ∷ 0 ∷ [])) ≡ 25
  ext_unknown : examine_pattern everything (oval (115 ∷ 119 ∷ [])) ≡ 16
  ext_cut : examine_pattern everything (alone (115 ∷ 17 ∷ 0 ∷ [])) ≡ 16
  ext_before_unknown : examine_pattern everything (oval (115 ∷ 115 ∷ 119 ∷ [])) ≡ 25
  ext_behind_unknown : examine_pattern everything (oval (119 ∷ 115 ∷ 115 ∷ [])) ≡ 16
  ext_behind_high : examine_pattern everything (oval (115 ∷ 17 ∷ 1 ∷ 44 ∷ 115 ∷ 115 ∷ [])) ≡ 25
  ext_jumped_to : examine_pattern everything (oval (38 ∷ 0 ∷ 0 ∷ 115 ∷ 0 ∷ [])) ≡ 0
  ext_jumped_behind : examine_pattern everything (oval (38 ∷ 0 ∷ 1 ∷ 115 ∷ 0 ∷ [])) ≡ 18
  ext_jumps_to_itself : examine_pattern everything (alone (115 ∷ 38 ∷ 255 ∷ 252 ∷ [])) ≡ 0
  ext_jumps_behind_itself : examine_pattern everything (alone (115 ∷ 38 ∷ 255 ∷ 253 ∷ [])) ≡ 18
  ext_goes_on : run (oval (115 ∷ 17 ∷ 1 ∷ 43 ∷ [])) (go_on ∷ []) ≡ frame 0 4 ∷ []
  ext2_enters : run (family (116 ∷ 98 ∷ 0 ∷ 0 ∷ 1 ∷ [])) (enter ∷ []) ≡ frame 2 0 ∷ frame 0 5 ∷ []
  ext3_third_enters : run (family (117 ∷ 107 ∷ 0 ∷ 0 ∷ 0 ∷ 0 ∷ 1 ∷ [])) (enter ∷ []) ≡ frame 2 0 ∷ frame 0 7 ∷ []
  ext_fetches_alone : fetch (115 ∷ 17 ∷ 1 ∷ 43 ∷ []) ≡ ok (insn Z [])
  add_last : examine_pattern everything (family (69 ∷ 1 ∷ [])) ≡ 0
  add_high : examine_pattern everything (family (69 ∷ 2 ∷ [])) ≡ 17
  setidx_last : examine_pattern everything (family (37 ∷ 0 ∷ [])) ≡ 0
  setidx_high : examine_pattern everything (family (37 ∷ 1 ∷ [])) ≡ 17
  send_none : examine_pattern everything (family (50 ∷ 2 ∷ 0 ∷ 0 ∷ [])) ≡ 0
  send_two : examine_pattern everything (family (50 ∷ 0 ∷ 0 ∷ 2 ∷ [])) ≡ 0
  send_two_high : examine_pattern everything (family (50 ∷ 1 ∷ 0 ∷ 2 ∷ [])) ≡ 17
  send_pair : examine_pattern everything (family (50 ∷ 0 ∷ 0 ∷ 16 ∷ [])) ≡ 0
  send_pair_high : examine_pattern everything (family (50 ∷ 1 ∷ 0 ∷ 16 ∷ [])) ≡ 17
  send_fifteen : examine_pattern everything (family (50 ∷ 1 ∷ 0 ∷ 15 ∷ [])) ≡ 0
  send_both_fifteen : examine_pattern everything (family (50 ∷ 0 ∷ 0 ∷ 255 ∷ [])) ≡ 0
  send_both_high : examine_pattern everything (family (50 ∷ 1 ∷ 0 ∷ 255 ∷ [])) ≡ 17
  sendb_last : examine_pattern everything (family (52 ∷ 1 ∷ 0 ∷ 0 ∷ [])) ≡ 0
  sendb_high : examine_pattern everything (family (52 ∷ 2 ∷ 0 ∷ 0 ∷ [])) ≡ 17
  super_last : examine_pattern everything (family (55 ∷ 1 ∷ 0 ∷ [])) ≡ 0
  super_high : examine_pattern everything (family (55 ∷ 2 ∷ 0 ∷ [])) ≡ 17
  array_last : examine_pattern everything (family (82 ∷ 1 ∷ 2 ∷ [])) ≡ 0
  array_high : examine_pattern everything (family (82 ∷ 2 ∷ 2 ∷ [])) ≡ 17
  array_none : examine_pattern everything (family (82 ∷ 2 ∷ 0 ∷ [])) ≡ 0
  array2_last : examine_pattern everything (family (83 ∷ 0 ∷ 1 ∷ 2 ∷ [])) ≡ 0
  array2_high : examine_pattern everything (family (83 ∷ 0 ∷ 2 ∷ 2 ∷ [])) ≡ 17
  array2_none_high : examine_pattern everything (family (83 ∷ 0 ∷ 3 ∷ 0 ∷ [])) ≡ 17
  arypush_last : examine_pattern everything (family (85 ∷ 1 ∷ 1 ∷ [])) ≡ 0
  arypush_high : examine_pattern everything (family (85 ∷ 1 ∷ 2 ∷ [])) ≡ 17
  apost_last : examine_pattern everything (family (89 ∷ 1 ∷ 9 ∷ 1 ∷ [])) ≡ 0
  apost_high : examine_pattern everything (family (89 ∷ 1 ∷ 9 ∷ 2 ∷ [])) ≡ 17
  hash_none : examine_pattern everything (family (94 ∷ 0 ∷ 0 ∷ [])) ≡ 0
  hash_last : examine_pattern everything (family (94 ∷ 1 ∷ 1 ∷ [])) ≡ 0
  hash_high : examine_pattern everything (family (94 ∷ 2 ∷ 1 ∷ [])) ≡ 17
  hashadd_last : examine_pattern everything (family (95 ∷ 0 ∷ 1 ∷ [])) ≡ 0
  hashadd_high : examine_pattern everything (family (95 ∷ 1 ∷ 1 ∷ [])) ≡ 17
  super_wide : examine_pattern everything (oval (117 ∷ 55 ∷ 1 ∷ 42 ∷ 1 ∷ 0 ∷ [])) ≡ 0
  hashadd_wide : examine_pattern everything (oval (117 ∷ 95 ∷ 0 ∷ 0 ∷ 255 ∷ 255 ∷ [])) ≡ 17
  permitted_none : (examine file_a two_rows desktop []).answer ≡ refused 32
  permitted_none_followed : (follow file_a two_rows desktop [] 2 (5 ∷ [])).answer ≡ refused 32
  permitted_its_two : (examine file_a two_rows desktop (set (set (replicate 62 0) 17 255) 61 2)).answer ≡ ok (unvisited (lent 1))
  permitted_no_return : (examine file_a two_rows desktop (set everything 61 0)).answer ≡ refused 32
  permitted_not_above : permits (everything ++ 1 ∷ []) 119 ≡ false
  permitted_no_prefix : examine_pattern (set everything 115 0) (oval (115 ∷ 17 ∷ 1 ∷ 43 ∷ [])) ≡ 32
  permitted_prefix_alone : examine_pattern (set everything 17 0) (oval (115 ∷ 17 ∷ 1 ∷ 43 ∷ [])) ≡ 32
  permitted_unreached : examine_pattern (set everything 61 0) (alone (38 ∷ 255 ∷ 253 ∷ 61 ∷ 0 ∷ [])) ≡ 32
  permitted_behind_high : examine_pattern (set everything 61 0) (family (69 ∷ 2 ∷ [])) ≡ 32
  permitted_next_record : examine_all (set everything 61 0) (alone (17 ∷ 2 ∷ 118 ∷ []) ++ alone (61 ∷ 0 ∷ [])) ≡ 17
  permitted_unknown : examine_pattern [] (alone (119 ∷ [])) ≡ 16
  single_a : examine_one file_a two_rows desktop everything 0 ≡ load file_a two_rows desktop
  single_a_missing : (examine_one file_a two_rows desktop everything 1).answer ≡ refused 22
  single_end_missing : (examine_one (end_alone 31 12) two_rows desktop everything 0).answer ≡ refused 22
  single_behind_load : (examine_one file_a two_rows (allowance 63 1) everything 1).answer ≡ refused 29
  single_not_permitted : (examine_one file_a two_rows desktop [] 0).answer ≡ refused 32
  single_tree : examine_pattern everything (childless 0) ≡ 15
  single_tree_first : examine_single everything 0 (childless 0) ≡ 0
  single_tree_second : examine_single everything 1 (childless 0) ≡ 0
  single_tree_missing : examine_single everything 2 (childless 0) ≡ 22
  single_child_high : examine_single everything 1 (childless 1) ≡ 17
  single_before_high : examine_single everything 0 (childless 1) ≡ 0
  single_others_permitted : examine_single (set everything 98 0) 0 (childless 0) ≡ 0
  packed_two : packed (129 ∷ 1 ∷ []) 0 ≡ ok (step 129 2)
  packed_most : packed (255 ∷ 255 ∷ 255 ∷ 255 ∷ 15 ∷ []) 0 ≡ ok (step 4294967295 5)
  packed_dropped : packed (255 ∷ 255 ∷ 255 ∷ 255 ∷ 127 ∷ []) 0 ≡ ok (step 4294967295 5)
  packed_sixth : packed (255 ∷ 255 ∷ 255 ∷ 255 ∷ 143 ∷ []) 0 ≡ refused 12
  map_3 : line_at (line_row 0 10 ∷ line_row 4 12 ∷ line_row 9 11 ∷ []) 3 ≡ some 10
  map_4 : line_at (line_row 0 10 ∷ line_row 4 12 ∷ line_row 9 11 ∷ []) 4 ≡ some 12
  map_same : line_at (line_row 0 1 ∷ line_row 0 2 ∷ []) 0 ≡ some 2
  map_none : line_at (line_row 4 12 ∷ []) 3 ≡ none
  wide : fetch (57 ∷ 1 ∷ 2 ∷ 3 ∷ []) ≡ ok (insn W (66051 ∷ []))
  jumps_back : fetch (38 ∷ 255 ∷ 253 ∷ []) ≡ ok (insn S (65533 ∷ []))
  jumps_to_itself : target (38 ∷ 255 ∷ 253 ∷ []) 0 ≡ 0
  itself_passes : examine_pattern everything (alone (38 ∷ 255 ∷ 253 ∷ [])) ≡ 0
  before_the_start : examine_pattern everything (alone (38 ∷ 255 ∷ 252 ∷ [])) ≡ 18
  whole_tree : whole (2 ∷ 0 ∷ 0 ∷ []) ≡ true
  no_tree : whole (0 ∷ 1 ∷ []) ≡ false
  no_records : examine_pattern everything [] ≡ 15
  a_content : loading file_a two_rows desktop ≡ ok (file_reading file_a desktop).it
  a_meets_none : examine_pattern everything (pattern_of file_a (file_reading file_a desktop).it) ≡ 0
  a_passes : (examine file_a two_rows desktop everything).answer ≡ ok (unvisited (lent 1))
  a_edited : loading edited_a two_rows desktop ≡ ok (file_reading edited_a desktop).it
  a_edited_alone : ChangedAlone 0 (pattern_of file_a (file_reading file_a desktop).it) (pattern_of edited_a (file_reading edited_a desktop).it)
  a_one_record : 0 < length (pattern_of file_a (file_reading file_a desktop).it)
  a_edited_high : (examine_one edited_a two_rows desktop everything 0).answer ≡ refused 17
  a_goes_on : (follow file_a two_rows desktop everything 2 (0 ∷ [])).answer ≡ ok (stands (frame 0 2) none 1)
  a_frames : (follow file_a two_rows desktop everything 5 (0 ∷ [])).frames ≡ 0 ∷ 2 ∷ 0 ∷ 0 ∷ 0 ∷ []
  a_finishes : (follow file_a two_rows desktop everything 2 (0 ∷ 0 ∷ [])).answer ≡ ok finished
  a_choices : (follow file_a two_rows desktop everything 2 (0 ∷ 5 ∷ [])).answer ≡ refused 21
  a_short : (follow file_a two_rows desktop everything 1 (0 ∷ 5 ∷ [])).answer ≡ refused 14
  list : choices (0 ∷ 3 ∷ 1 ∷ 2 ∷ 4 ∷ []) ≡ ok (go_on ∷ caught 258 ∷ leave ∷ [])
  above : choices (5 ∷ []) ≡ refused 21
  cut : choices (3 ∷ 1 ∷ []) ≡ refused 21

samples : Table
unfolding table row operands opcode rest last_of jump target fetch_as fetch packed_from packed halve line_at handler pool_text symbol_text big_integer pool_value
    pool_entry counted head_at body_at record_at records_from irep_section walk visits no_zero plain_text name_entry record_names lvar_section file_head map_entry
    map_lines files_from debug_record debug_content debug_section packed_entry end_section section_at sections file_refusal file_reading fits ending loading_within load sized
    end_alone lent two_rows node_in unvisited alone family oval childless edited_a file_d lent_pool constant_d file_m two_m none_m visited zero_inside record_in row_in bytes_in
    constant_at constant_of pool
    rising layout span child_of nodes_from reach lands stray readable below all_below operands_below range_below bounded comments form follows first_at first_of permits permitted_at
    exam16 exam32 exam1718 exam19 exam20 examine_record examine_all examine_pattern passing examining examine child_operand move one_step run_from choices_from standing
    laid_frames frame_table following follow examine_single passing_single examining_single examine_one
samples = record {
  a_loads = refl;
  a_row = refl;
  a_three_zeros = refl;
  a_four_zeros = refl;
  end_loads = refl;
  end_no_tree = refl;
  end_of_size_0 = refl;
  end_of_31_bytes = refl;
  end_states_32 = refl;
  a_states_0 = refl;
  a_states_63 = refl;
  a_states_65 = refl;
  a_low_byte_first = refl;
  a_no_ident = refl;
  ident_before_size = refl;
  size_before_major = refl;
  m_whole = refl;
  m_past_the_last = refl;
  m_most_of_one = refl;
  m_two_whole = refl;
  m_not_reached = refl;
  m_both_reached = refl;
  m_no_records = refl;
  m_passes = refl;
  parent_none = refl;
  parent_whole = refl;
  parent_not_whole = refl;
  parent_unreached = refl;
  parent_unused = refl;
  parent_refused = refl;
  allowed_all = refl;
  allowed_by_preview = refl;
  allowed_more = refl;
  allowed_most = refl;
  allowed_each_alone = refl;
  allowed_a_byte_less = refl;
  allowed_no_record = refl;
  allowed_nothing = refl;
  allowed_nor_lent = refl;
  allowed_not_lent = refl;
  allowed_empty_file = refl;
  allowed_19_of_20 = refl;
  allowed_20_of_20 = refl;
  allowed_no_records = refl;
  allowed_one_of_two = refl;
  allowed_two_of_two = refl;
  allowed_one_row_of_two = refl;
  allowed_behind_header = refl;
  allowed_before_content = refl;
  allowed_content = refl;
  allowed_passes = refl;
  allowed_not_examined = refl;
  allowed_goes_on = refl;
  allowed_not_followed = refl;
  d_loads = refl;
  d_rows = refl;
  d_int64 = refl;
  d_string = refl;
  d_not_ended = refl;
  string_inner_zero = refl;
  symbol_inner_zero = refl;
  name_inner_zero = refl;
  int64_low_byte_first = refl;
  int64_below_0 = refl;
  int64_lowest = refl;
  getidx0_last = refl;
  getidx0_high = refl;
  ssend0_last = refl;
  ssend0_high = refl;
  send0_last = refl;
  send0_high = refl;
  tdef_last = refl;
  tdef_symbol_high = refl;
  tdef_child_high = refl;
  sdef_child_high = refl;
  blkcall_any = refl;
  addilv_any = refl;
  tdef_enters = refl;
  sdef_enters = refl;
  ext1_last = refl;
  ext1_high = refl;
  ext2_last = refl;
  ext2_high = refl;
  ext2_low_byte_first = refl;
  ext3_last = refl;
  ext3_third_a_byte = refl;
  ext2_keeps_bs = refl;
  ext2_keeps_s = refl;
  ext1_keeps_z = refl;
  ext_last_in_record = refl;
  ext_twice = refl;
  ext_unknown = refl;
  ext_cut = refl;
  ext_before_unknown = refl;
  ext_behind_unknown = refl;
  ext_behind_high = refl;
  ext_jumped_to = refl;
  ext_jumped_behind = refl;
  ext_jumps_to_itself = refl;
  ext_jumps_behind_itself = refl;
  ext_goes_on = refl;
  ext2_enters = refl;
  ext3_third_enters = refl;
  ext_fetches_alone = refl;
  add_last = refl;
  add_high = refl;
  setidx_last = refl;
  setidx_high = refl;
  send_none = refl;
  send_two = refl;
  send_two_high = refl;
  send_pair = refl;
  send_pair_high = refl;
  send_fifteen = refl;
  send_both_fifteen = refl;
  send_both_high = refl;
  sendb_last = refl;
  sendb_high = refl;
  super_last = refl;
  super_high = refl;
  array_last = refl;
  array_high = refl;
  array_none = refl;
  array2_last = refl;
  array2_high = refl;
  array2_none_high = refl;
  arypush_last = refl;
  arypush_high = refl;
  apost_last = refl;
  apost_high = refl;
  hash_none = refl;
  hash_last = refl;
  hash_high = refl;
  hashadd_last = refl;
  hashadd_high = refl;
  super_wide = refl;
  hashadd_wide = refl;
  permitted_none = refl;
  permitted_none_followed = refl;
  permitted_its_two = refl;
  permitted_no_return = refl;
  permitted_not_above = refl;
  permitted_no_prefix = refl;
  permitted_prefix_alone = refl;
  permitted_unreached = refl;
  permitted_behind_high = refl;
  permitted_next_record = refl;
  permitted_unknown = refl;
  single_a = refl;
  single_a_missing = refl;
  single_end_missing = refl;
  single_behind_load = refl;
  single_not_permitted = refl;
  single_tree = refl;
  single_tree_first = refl;
  single_tree_second = refl;
  single_tree_missing = refl;
  single_child_high = refl;
  single_before_high = refl;
  single_others_permitted = refl;
  packed_two = refl;
  packed_most = refl;
  packed_dropped = refl;
  packed_sixth = refl;
  map_3 = refl;
  map_4 = refl;
  map_same = refl;
  map_none = refl;
  wide = refl;
  jumps_back = refl;
  jumps_to_itself = refl;
  itself_passes = refl;
  before_the_start = refl;
  whole_tree = refl;
  no_tree = refl;
  no_records = refl;
  a_content = refl;
  a_meets_none = refl;
  a_passes = refl;
  a_edited = refl;
  a_edited_alone = record { number = refl; others = λ j h other. absurd (other (only j h)); children = refl };
  a_one_record = only_one;
  a_edited_high = refl;
  a_goes_on = refl;
  a_frames = refl;
  a_finishes = refl;
  a_choices = refl;
  a_short = refl;
  list = refl;
  above = refl;
  cut = refl;
}

-- A is a file that passes, so demand 3 is a claim about some file: this one
pub a_file : FilePasses file_a desktop everything
a_file =
    let c = (file_reading file_a desktop).it in
    record { tables = two_rows; content = c; loads = samples.a_content; passes = (passes_iff everything (pattern_of file_a c)).0 samples.a_meets_none }

pub a_claim : (cs : List Choice) → Claim file_a desktop everything a_file.content cs
a_claim cs = demand3 file_a desktop everything a_file cs

-- A is edited, so i)'s law of a changed file is about some file: the examination of A's record says what that of the whole file says
a_changed : examine edited_a two_rows desktop everything ≡ examine_one edited_a two_rows desktop everything 0
a_changed =
    let c = (file_reading file_a desktop).it in
    let d = (file_reading edited_a desktop).it in
    changed_file file_a desktop everything a_file two_rows c samples.a_content edited_a two_rows d samples.a_edited 0 samples.a_one_record samples.a_edited_alone
