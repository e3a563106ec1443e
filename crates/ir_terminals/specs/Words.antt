-- For `terminal_of`: the words of the language, by their roles.
use Rattle.std.specs.Prelude.{ℕ, ◌==◌, ◌&&◌, nat_le, List, [], ◌∷◌, ◌++◌, map, cond, bytes_eq, codes, Bool, Option, Some, None, if◌then◌else◌}
use Rattle.ir_tables.specs.Flag.{flags, flag_word}
use Rattle.ir_tables.specs.Linkage.{linkages, linkage_word}
use Rattle.ir_tables.specs.Opcode.{opcodes, opcode_word}
use Rattle.ir_tables.specs.Predicate.{predicates, predicate_word}
use Rattle.ir_tables.specs.declared.width.TheConstants.{WIDEST}
use Rattle.ir_terminals.specs.Digits.{are_digits, decimal}
use Rattle.ir_terminals.specs.declared.terminal.Terminal.{Terminal}
use Rattle.ir_terminals.specs.declared.terminal.Terminal.TheVariants as terminals

-- a word and what it is
pub record Meaning : Type 0 where
  pub word : List ℕ
  pub terminal : Terminal

-- a word and what it is
abbrev pub means : List ℕ → Terminal → Meaning
means word terminal = record { word = word; terminal = terminal }

-- words of one role
abbrev pub each_means : List (List ℕ) → Terminal → List Meaning
each_means words terminal = map (λ word. means word terminal) words

-- dropped before `global` and `constant`, and before a function's type
abbrev pub global_dropped : List (List ℕ)
global_dropped =
    codes "dso_local" ∷
    codes "dso_preemptable" ∷
    codes "default" ∷
    codes "hidden" ∷
    codes "protected" ∷
    []

-- dropped there too, and behind a function
abbrev pub unnamed_addresses : List (List ℕ)
unnamed_addresses =
    codes "unnamed_addr" ∷
    codes "local_unnamed_addr" ∷
    []

-- dropped before the type of a function or of a call
abbrev pub calling_conventions : List (List ℕ)
calling_conventions =
    codes "ccc" ∷
    codes "fastcc" ∷
    codes "coldcc" ∷
    []

-- dropped at a parameter alone
abbrev pub parameter_dropped : List (List ℕ)
parameter_dropped =
    codes "zeroext" ∷
    codes "signext" ∷
    codes "noext" ∷
    codes "inreg" ∷
    codes "noalias" ∷
    codes "nocapture" ∷
    codes "nonnull" ∷
    codes "noundef" ∷
    codes "writable" ∷
    codes "returned" ∷
    codes "immarg" ∷
    codes "nest" ∷
    codes "allocptr" ∷
    codes "allocalign" ∷
    codes "dead_on_unwind" ∷
    []

-- dropped at a parameter and behind a function
abbrev pub attribute_dropped : List (List ℕ)
attribute_dropped =
    codes "nofree" ∷
    codes "readnone" ∷
    codes "readonly" ∷
    codes "writeonly" ∷
    []

-- dropped behind a function alone
abbrev pub function_dropped : List (List ℕ)
function_dropped =
    codes "alwaysinline" ∷
    codes "builtin" ∷
    codes "cold" ∷
    codes "convergent" ∷
    codes "hot" ∷
    codes "inlinehint" ∷
    codes "minsize" ∷
    codes "mustprogress" ∷
    codes "nobuiltin" ∷
    codes "nocallback" ∷
    codes "noduplicate" ∷
    codes "noinline" ∷
    codes "norecurse" ∷
    codes "noredzone" ∷
    codes "noreturn" ∷
    codes "nosync" ∷
    codes "nounwind" ∷
    codes "optnone" ∷
    codes "optsize" ∷
    codes "speculatable" ∷
    codes "ssp" ∷
    codes "sspreq" ∷
    codes "sspstrong" ∷
    codes "willreturn" ∷
    []

-- dropped at a parameter, with the brackets behind them
abbrev pub parameter_dropped_lists : List (List ℕ)
parameter_dropped_lists =
    codes "dereferenceable" ∷
    codes "dereferenceable_or_null" ∷
    codes "sret" ∷
    codes "captures" ∷
    codes "range" ∷
    codes "initializes" ∷
    codes "nofpclass" ∷
    []

-- dropped behind a function, with the brackets behind them
abbrev pub function_dropped_lists : List (List ℕ)
function_dropped_lists =
    codes "memory" ∷
    codes "alignstack" ∷
    codes "allockind" ∷
    codes "allocsize" ∷
    []

-- before `call`
abbrev pub tail_marks : List (List ℕ)
tail_marks =
    codes "tail" ∷
    codes "musttail" ∷
    codes "notail" ∷
    []

-- the words that have a role of their own
abbrev pub single_words : List Meaning
single_words =
    means (codes "source_filename") terminals.SourceFilename ∷
    means (codes "target") terminals.Target ∷
    means (codes "datalayout") terminals.DataLayout ∷
    means (codes "triple") terminals.Triple ∷
    means (codes "type") terminals.«Type» ∷
    means (codes "opaque") terminals.Opaque ∷
    means (codes "global") terminals.Global ∷
    means (codes "constant") terminals.Constant ∷
    means (codes "alias") terminals.Alias ∷
    means (codes "declare") terminals.Declare ∷
    means (codes "define") terminals.Define ∷
    means (codes "attributes") terminals.Attributes ∷
    means (codes "distinct") terminals.Distinct ∷
    means (codes "section") terminals.Section ∷
    means (codes "align") terminals.Align ∷
    means (codes "x") terminals.X ∷
    means (codes "to") terminals.To ∷
    means (codes "label") terminals.LabelWord ∷
    means (codes "void") terminals.Void ∷
    means (codes "ptr") terminals.Ptr ∷
    means (codes "true") terminals.True ∷
    means (codes "false") terminals.False ∷
    means (codes "null") terminals.Null ∷
    means (codes "undef") terminals.Undef ∷
    means (codes "poison") terminals.Poison ∷
    means (codes "zeroinitializer") terminals.ZeroInitializer ∷
    means (codes "uwtable") terminals.UnwindTable ∷
    []

-- all words but the integer types
unfoldable pub words_by_role : List Meaning
words_by_role =
    single_words ++ (each_means global_dropped terminals.GlobalDropped ++ (
    each_means unnamed_addresses terminals.UnnamedAddress ++ (
    each_means calling_conventions terminals.CallingConvention ++ (
    each_means parameter_dropped terminals.ParameterDropped ++ (
    each_means attribute_dropped terminals.AttributeDropped ++ (
    each_means function_dropped terminals.FunctionDropped ++ (
    each_means parameter_dropped_lists terminals.ParameterDroppedList ++ (
    each_means function_dropped_lists terminals.FunctionDroppedList ++ (
    each_means tail_marks terminals.TailMark ++ (
    map (λ linkage. means (linkage_word linkage) (terminals.Linkage linkage)) linkages ++ (
    map (λ flag. means (flag_word flag) (terminals.Flag flag)) flags ++ (
    map (λ predicate. means (predicate_word predicate) (terminals.Predicate predicate)) predicates ++ (
    map (λ opcode. means (opcode_word opcode) (terminals.Opcode opcode)) opcodes)))))))))))))

-- what a word of a list means
abbrev pub meaning_in : List Meaning → List ℕ → Terminal
meaning_in [] word = terminals.Other
meaning_in (row ∷ rows) word = cond (bytes_eq row.word word) row.terminal (meaning_in rows word)

-- the number in a word that is an `i` and digits
abbrev pub width_in : List ℕ → Option ℕ
width_in [] = None
width_in (first ∷ digits) = if (first == 105) && are_digits digits then Some (decimal digits) else None

-- an integer has 1 to 128 bits
abbrev pub is_width : ℕ → Bool
is_width width = nat_le 1 width && nat_le width WIDEST

-- the integer type of this width, where there is one
abbrev pub of_width : ℕ → Terminal
of_width width = if is_width width then terminals.IntegerType width else terminals.Other

-- an integer type where the word has a width, or else what the list says
abbrev pub width_or : Option ℕ → Terminal → Terminal
width_or (Some width) listed = of_width width
width_or None listed = listed

-- what a word is: `iN` by its number, another by the list in which it stands
unfoldable pub word_terminal : List ℕ → Terminal
word_terminal word = width_or (width_in word) (meaning_in words_by_role word)
