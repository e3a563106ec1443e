-- For `code` of `Terminal`, and `is_class_next` of `Cursor`: the classes of the terminals.
use Rattle.std.specs.Prelude.{ℕ, ◌+◌}
use Rattle.ir_tables.specs.Opcode.{opcode_code}
use Rattle.ir_terminals.specs.declared.terminal.Terminal.{Terminal}
use Rattle.ir_terminals.specs.declared.terminal.Terminal.TheVariants as terminals

-- the classes of words come behind those of all other tokens
abbrev pub first_word_class : ℕ
first_word_class = 22

-- the classes of terminals that hold something
abbrev pub integer_type_class : ℕ
integer_type_class = 41

-- the class of the linkages
abbrev pub linkage_class : ℕ
linkage_class = 42

-- the class of the flags
abbrev pub flag_class : ℕ
flag_class = 59

-- the class of the predicates
abbrev pub predicate_class : ℕ
predicate_class = 60

-- one number for each variant, and for each opcode one of its own
abbrev pub code : Terminal → ℕ
code terminals.Other = 0
code terminals.Label = 1
code terminals.Integer = 2
code terminals.GlobalName = 3
code terminals.Local = 4
code terminals.Quoted = 5
code terminals.ByteString = 6
code terminals.MetaName = 7
code terminals.MetaNumber = 8
code terminals.MetaMark = 9
code terminals.Group = 10
code terminals.Equals = 11
code terminals.Comma = 12
code terminals.OpenParenthesis = 13
code terminals.CloseParenthesis = 14
code terminals.OpenBracket = 15
code terminals.CloseBracket = 16
code terminals.OpenBrace = 17
code terminals.CloseBrace = 18
code terminals.Less = 19
code terminals.Greater = 20
code terminals.Dots = 21
code terminals.SourceFilename = 22
code terminals.Target = 23
code terminals.DataLayout = 24
code terminals.Triple = 25
code terminals.«Type» = 26
code terminals.Opaque = 27
code terminals.Global = 28
code terminals.Constant = 29
code terminals.Declare = 30
code terminals.Define = 31
code terminals.Attributes = 32
code terminals.Distinct = 33
code terminals.Section = 34
code terminals.Align = 35
code terminals.X = 36
code terminals.To = 37
code terminals.LabelWord = 38
code terminals.Void = 39
code terminals.Ptr = 40
code (terminals.IntegerType _) = integer_type_class
code (terminals.Linkage _) = linkage_class
code terminals.GlobalDropped = 43
code terminals.UnnamedAddress = 44
code terminals.CallingConvention = 45
code terminals.ParameterDropped = 46
code terminals.AttributeDropped = 47
code terminals.FunctionDropped = 48
code terminals.ParameterDroppedList = 49
code terminals.FunctionDroppedList = 50
code terminals.UnwindTable = 51
code terminals.TailMark = 52
code terminals.True = 53
code terminals.False = 54
code terminals.Null = 55
code terminals.Undef = 56
code terminals.Poison = 57
code terminals.ZeroInitializer = 58
code (terminals.Flag _) = flag_class
code (terminals.Predicate _) = predicate_class
code terminals.Alias = 61
code (terminals.Opcode opcode) = 100 + opcode_code opcode
