-- For `read_items`: the rows of variables, and of the structs that have names.
use Rattle.std.specs.Prelude.{Bool, true, false, [], ◌∷◌, ◌++◌, Option, Some, None}
use Rattle.ir_terminals.specs.PhraseRows.Row.{Row, PhraseShape, mapped, keep_second, keep_first, pair, alt, nothing, loop, labelled}
use Rattle.ir_lexer.specs.Ahead.{Located}
use Rattle.ir_tables.specs.declared.linkage.Linkage.{Linkage}
use Rattle.ir_tables.specs.declared.linkage.Linkage.TheVariants as linkage
use Rattle.ir_terminals.specs.declared.limits.Limits.{Limits}
use Rattle.ir_terminals.specs.declared.terminal.Terminal.TheVariants as terminal
use Rattle.ir_terminals.specs.declared.values.Integer.{Integer}
use Rattle.ir_terminals.specs.Role.{class}
use Rattle.ir_terminals.specs.Terminal.{code}
use Rattle.ir_terminals.specs.Tokens.{word, integer_row, named_local_row}
use Rattle.ir_phrases.specs.Constants.Tree.{TypeTree, ConstantTree}
use Rattle.ir_phrases.specs.Constants.Types.{type_row, fields_row}
use Rattle.ir_phrases.specs.Constants.Constants.{constant_shape, constant_row}
use Rattle.ir_phrases.specs.Instructions.Dropped.{comma_shape, attachment_row, section_row}
use Rattle.ir_syntax.specs.Tree.{BodyTree, OpaqueBody, PlainBody, PackedBody, ItemTree, Struct, Variable}
use Rattle.ir_syntax.specs.Heads.{GlobalHead}

-- opaque
abbrev pub opaque_row : Row Located BodyTree
opaque_row = mapped (λ p. OpaqueBody) (word terminal.Opaque)

-- { TYPE,* }
abbrev pub plain_body_row : Limits → Row Located BodyTree
plain_body_row limits = mapped PlainBody (keep_second (word terminal.OpenBrace) (keep_first (fields_row limits) (word terminal.CloseBrace)))

-- <{ TYPE,* }>
abbrev pub packed_body_row : Limits → Row Located BodyTree
packed_body_row limits =
    mapped PackedBody
    (keep_second (word terminal.Less)
    (keep_second (word terminal.OpenBrace)
    (keep_first (fields_row limits) (keep_second (word terminal.CloseBrace) (word terminal.Greater)))))

-- opaque, { TYPE,* } or <{ TYPE,* }>
abbrev pub body_row : Limits → Row Located BodyTree
body_row limits = alt class opaque_row (alt class (plain_body_row limits) (packed_body_row limits))

-- LOCAL = type opaque, LOCAL = type { TYPE,* } or LOCAL = type <{ TYPE,* }>
abbrev pub struct_row : Limits → Row Located ItemTree
struct_row limits =
    mapped (λ v. Struct v.0 v.1)
    (pair
    (keep_first (named_local_row limits) (keep_second (word terminal.Equals) (word terminal.«Type»)))
    (body_row limits))

-- global or constant
abbrev pub constant_word_row : Row Located Bool
constant_word_row = alt class (mapped (λ p. false) (word terminal.Global)) (mapped (λ p. true) (word terminal.Constant))

-- how an initialiser begins
abbrev pub initialiser_shape : PhraseShape
initialiser_shape = record { first = constant_shape.first; more = []; empty = true }

-- CONST exactly where the linkage is not `external` or `extern_weak`
unfoldable pub initialiser_core : Limits → Option Linkage → Row Located (Option ConstantTree)
initialiser_core limits (Some linkage.External) = nothing None
initialiser_core limits (Some linkage.ExternWeak) = nothing None
initialiser_core limits _ = mapped Some (constant_row limits)

-- CONST, or nothing where the linkage is that of a declaration
abbrev pub initialiser_row : Limits → Option Linkage → Row Located (Option ConstantTree)
initialiser_row limits written = labelled initialiser_shape (initialiser_core limits written)

-- align INT, where no alignment is written yet, section STRING, or MD
abbrev pub tail_row : Option Integer → Row Located (Option Integer)
tail_row None = alt class (mapped Some (keep_second (word terminal.Align) integer_row)) (alt class (mapped (λ u. None) section_row) (mapped (λ u. None) attachment_row))
tail_row (Some a) = alt class (mapped (λ u. Some a) section_row) (mapped (λ u. Some a) attachment_row)

-- how what stands behind a variable's comma begins
abbrev pub tail_shape : PhraseShape
tail_shape = record { first = code terminal.Align ∷ code terminal.Section ∷ code terminal.MetaName ∷ []; more = []; empty = false }

-- TAIL
abbrev pub tail_step : Option Integer → Row Located (Option Integer)
tail_step alignment = keep_second (word terminal.Comma) (labelled tail_shape (tail_row alignment))

-- TAIL*, for the alignment
abbrev pub tails_row : Row Located (Option Integer)
tails_row = loop class comma_shape tail_step None

-- how what stands behind the type of a variable begins and goes on
abbrev pub variable_rest_shape : PhraseShape
variable_rest_shape = record { first = constant_shape.first ++ comma_shape.first; more = comma_shape.first; empty = true }

-- CONST? TAIL*, for the initialiser and the alignment
unfoldable pub variable_rest_core : Limits → Option Linkage → Row Located (Option ConstantTree × Option Integer)
variable_rest_core limits written = pair (initialiser_row limits written) tails_row

-- what stands behind the type of a variable
abbrev pub variable_rest_row : Limits → Option Linkage → Row Located (Option ConstantTree × Option Integer)
variable_rest_row limits written = labelled variable_rest_shape (variable_rest_core limits written)

-- a variable of its parts
abbrev pub variable_of : GlobalHead → Bool × (TypeTree × (Option ConstantTree × Option Integer)) → ItemTree
variable_of (name, written) (constant, (ty, (initialiser, alignment))) =
    Variable (record { name = name; linkage = written; constant = constant; ty = ty; initialiser = initialiser; alignment = alignment })

-- how a variable goes on behind its head
abbrev pub variable_shape : PhraseShape
variable_shape = record { first = code terminal.Global ∷ code terminal.Constant ∷ []; more = comma_shape.first; empty = false }

-- (global|constant) TYPE CONST? TAIL*, behind GLOBAL = LINKAGE? GDROP*, by its parts
unfoldable pub variable_core : Limits → GlobalHead → Row Located ItemTree
variable_core limits h = mapped (variable_of h) (pair constant_word_row (pair (type_row limits) (variable_rest_row limits h.1)))

-- (global|constant) TYPE CONST? TAIL*, behind GLOBAL = LINKAGE? GDROP*
abbrev pub variable_row : Limits → GlobalHead → Row Located ItemTree
variable_row limits h = labelled variable_shape (variable_core limits h)
