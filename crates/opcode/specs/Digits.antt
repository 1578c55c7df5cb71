-- The digits of an opcode byte: what is known of its row, in one number of base 8.
-- Assumes nothing.
use Rattle.std.specs.Prelude.{ℕ, zero, suc, ◌+◌, ◌*◌, ◌/◌, ◌%◌, Bool, cond, ◌&&◌, not, eqb, get_or}
use Rattle.format.specs.Insn.{Kind, Z, BB, B, BS, BSS, BBB, S, W, Role, reg, pool, sym, child, plain, Flow, on, ends, jumps, may, Row, kind, roles, flow}
use Rattle.format.specs.Insn.{name, row, size, known, prefix}
use Rattle.format.specs.Sizes.{kind_number, among, have_first, have_second}
use Rattle.format.specs.Registers.{Form, own, pair, triple, send, sendb, super, array, array2, push, post, hash, hashadd, arguments, form}

-- the roles of three operands: one that an opcode lacks is plain
abbrev pub first_role : Row → Role
first_role r = get_or (roles r) 0 plain

abbrev pub second_role : Row → Role
second_role r = get_or (roles r) 1 plain

abbrev pub third_role : Row → Role
third_role r = get_or (roles r) 2 plain

abbrev pub role_number : Role → ℕ
role_number plain = 0
role_number reg = 1
role_number pool = 2
role_number sym = 3
role_number child = 4

abbrev pub role_at : ℕ → Role
role_at zero = plain
role_at (suc zero) = reg
role_at (suc (suc zero)) = pool
role_at (suc (suc (suc zero))) = sym
role_at (suc (suc (suc (suc zero)))) = child
role_at (suc (suc (suc (suc (suc x))))) = reg

-- The first operand is tested by its role, 5 and 6 with the registers behind it: R[a] and R[a+1]; R[a] to R[a+2]
abbrev pub first_by : Form → ℕ → ℕ
first_by own x = x
first_by pair x = 5
first_by triple x = 6
first_by send x = x
first_by sendb x = x
first_by super x = x
first_by array x = x
first_by array2 x = x
first_by push x = x
first_by post x = x
first_by hash x = x
first_by hashadd x = x

abbrev pub first_number : Row → ℕ
first_number r = first_by (form (name r)) (role_number (first_role r))

-- The register behind the last that an instruction names beside that, as a sum: a number, a, b and c so often, and the arguments of b or c
abbrev pub sum_of : ℕ → ℕ → ℕ → ℕ → ℕ → ℕ → ℕ
sum_of n a b c x y = n + 8 * (a + 8 * (b + 8 * (c + 8 * (x + 8 * y))))

abbrev pub end_by : ℕ → ℕ → ℕ → ℕ → ℕ
end_by s a b c = s % 8 + s / 8 % 8 * a + s / 64 % 8 * b + s / 512 % 8 * c + arguments (s / 4096 % 8 * b + s / 32768 % 8 * c)

abbrev pub form_number : Form → ℕ
form_number own = sum_of 0 0 0 0 0 0
form_number pair = sum_of 0 0 0 0 0 0
form_number triple = sum_of 0 0 0 0 0 0
form_number send = sum_of 1 1 0 0 0 1
form_number sendb = sum_of 2 1 0 0 0 1
form_number super = sum_of 2 1 0 0 1 0
form_number array = sum_of 0 1 1 0 0 0
form_number array2 = sum_of 0 0 1 1 0 0
form_number push = sum_of 1 1 1 0 0 0
form_number post = sum_of 1 1 0 1 0 0
form_number hash = sum_of 0 1 2 0 0 0
form_number hashadd = sum_of 1 1 2 0 0 0

-- The flag of an instruction whose operands are below their limits: 1 where it meets neither 17 nor 18, 3 where its target has to be tested,
-- 4 where a run goes on past the record. First where the next offset is inside the record:
abbrev pub flag_inside : Flow → ℕ
flag_inside on = 1
flag_inside ends = 1
flag_inside jumps = 3
flag_inside may = 3

-- and where it is the record's end
abbrev pub flag_last : Flow → ℕ
flag_last on = 4
flag_last ends = 1
flag_last jumps = 3
flag_last may = 4

-- where a run goes on, by the two
abbrev pub flow_at : ℕ → ℕ → Flow
flow_at x y = cond (eqb y 1) ends (cond (eqb y 3) jumps (cond (eqb x 1) on may))

-- the kind of a number, in the order of ops.h
abbrev pub kind_at : ℕ → Kind
kind_at zero = Z
kind_at (suc zero) = BB
kind_at (suc (suc zero)) = B
kind_at (suc (suc (suc zero))) = BS
kind_at (suc (suc (suc (suc zero)))) = BSS
kind_at (suc (suc (suc (suc (suc zero))))) = BBB
kind_at (suc (suc (suc (suc (suc (suc zero)))))) = S
kind_at (suc (suc (suc (suc (suc (suc (suc x))))))) = W

-- 1 where the first operand is a byte that a prefix can widen, and where the second is
abbrev pub first_byte : Kind → ℕ
first_byte k = cond (among have_first k) 1 0

abbrev pub second_byte : Kind → ℕ
second_byte k = cond (among have_second k) 1 0

-- n in the two lowest digits, then these, and w above them
abbrev pub octal : ℕ → ℕ → ℕ → ℕ → ℕ → ℕ → ℕ → ℕ → ℕ → ℕ → ℕ
octal n x y f g k u v z w = n + 64 * (x + 8 * (y + 8 * (f + 8 * (g + 8 * (k + 8 * (u + 8 * (v + 8 * (z + 8 * w))))))))

-- where each of them stands
abbrev pub size_in : ℕ → ℕ
size_in d = d % 64

abbrev pub first_in : ℕ → ℕ
first_in d = d / 64 % 8

abbrev pub second_in : ℕ → ℕ
second_in d = d / 512 % 8

abbrev pub inside_in : ℕ → ℕ
inside_in d = d / 4096 % 8

abbrev pub last_in : ℕ → ℕ
last_in d = d / 32768 % 8

abbrev pub kind_in : ℕ → ℕ
kind_in d = d / 262144 % 8

abbrev pub first_byte_in : ℕ → ℕ
first_byte_in d = d / 2097152 % 8

abbrev pub second_byte_in : ℕ → ℕ
second_byte_in d = d / 16777216 % 8

abbrev pub third_in : ℕ → ℕ
third_in d = d / 134217728 % 8

abbrev pub form_in : ℕ → ℕ
form_in d = d / 134217728 / 8

-- the digits of an instruction of n bytes whose opcode has this row
abbrev pub row_digits : ℕ → Row → ℕ
row_digits n r =
    octal n (first_number r) (role_number (second_role r)) (flag_inside (flow r)) (flag_last (flow r)) (kind_number (kind r)) (first_byte (kind r))
    (second_byte (kind r)) (role_number (third_role r)) (form_number (form (name r)))

-- a known opcode that is no prefix
abbrev pub instruction : ℕ → Bool
instruction b = known b && not (prefix b)

-- an opcode byte that begins no instruction has no size
abbrev pub digits_of : ℕ → ℕ
digits_of b = row_digits (cond (instruction b) (size b) 0) (row b)
