-- The number of each reason to refuse, and a call's answer as the definitions have it.
-- Assumes nothing.
use Rattle.std.specs.Prelude.{ℕ, Result, Ok, Err}
use Rattle.format.specs.Bytes.{Answer, ok, refused}
use Rattle.refusal.specs.declared.Refusal.{Refusal}
use Rattle.refusal.specs.declared.Refusal.TheVariants as refusal

abbrev pub number : Refusal → ℕ
number refusal.FileTooLong = 1
number refusal.HeaderCut = 2
number refusal.Version = 3
number refusal.NoSection = 4
number refusal.UnknownMark = 5
number refusal.SectionOrder = 6
number refusal.PastEnd = 7
number refusal.SizeZero = 8
number refusal.TextZero = 9
number refusal.PoolKind = 10
number refusal.LocalName = 11
number refusal.DebugFile = 12
number refusal.LinePosition = 13
number refusal.NoRow = 14
number refusal.NotOneTree = 15
number refusal.Unreadable = 16
number refusal.Operand = 17
number refusal.Landing = 18
number refusal.HandlerTarget = 19
number refusal.LinesFall = 20
number refusal.Choice = 21
number refusal.Missing = 22
number refusal.UnknownOpcode = 23
number refusal.CodeCut = 24
number refusal.StrayPrefix = 25
number refusal.NotRite = 27
number refusal.FileCut = 28
number refusal.Allowance = 29
number refusal.NotPermitted = 32

-- what a call answers: its value as the definitions have it, or the refusal's number
abbrev pub answer_as : {A B : Type 0} → (A → B) → Result A Refusal → Answer B
answer_as f (Ok a) = ok (f a)
answer_as f (Err e) = refused (number e)

abbrev pub answer_of : {A : Type 0} → Result A Refusal → Answer A
answer_of (Ok a) = ok a
answer_of (Err e) = refused (number e)

-- the refusal of a test, 0 for none
abbrev pub refusal_of : {A : Type 0} → Result A Refusal → ℕ
refusal_of (Ok _) = 0
refusal_of (Err e) = number e
