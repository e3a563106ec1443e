-- For `print` and `print_text`: the canonical text of a module: its pieces, and their bytes.
use Rattle.std.specs.Prelude.{ℕ, Bool, true, false, List, [], ◌∷◌, ◌++◌, map, codes, Option, Some, None}
use Rattle.ir_lexer.specs.Pieces.{TextPiece, Line, pieces_text}
use Rattle.ir_tables.specs.Linkage.{linkage_word}
use Rattle.ir_tables.specs.declared.linkage.Linkage.{Linkage}
use Rattle.ir_tables.specs.declared.linkage.Linkage.TheVariants.{External}
use Rattle.type_table.specs.Tree.{TreeBody, opaque_body, fields}
use Rattle.module_arena.specs.Module.{Bytes, Constant, Signature, Parameter, Variable, AliasType, PlainType, FunctionType, Alias, Function, Block, Module}
use Rattle.canonical.specs.Phrase.{Phrase, none, word, mark, comma, ◌␣◌, ◌⌢◌, ◌⨾◌, ended, listed, each, in_parentheses}
use Rattle.canonical.specs.Names.{global, local, named_local, text}
use Rattle.canonical.specs.Types.{type_phrase, type_phrases, in_braces}
use Rattle.canonical.specs.Constants.{constant_phrase}
use Rattle.canonical.specs.Operations.{aligned, dotted}
use Rattle.canonical.specs.Instructions.{blocks_phrase}
use Rattle.type_table.specs.Tree.{Tree}

-- the words = "...", where there is a text
abbrev pub text_phrases : Phrase → Option Bytes → List Phrase
text_phrases words None = []
text_phrases words (Some bytes) = (words ␣ mark (codes "=") ␣ text bytes) ∷ []

-- opaque, { TYPE,* } or <{ TYPE,* }>
abbrev pub body_phrase : TreeBody → Phrase
body_phrase opaque_body = word (codes "opaque")
body_phrase (fields packed ts) = in_braces packed (type_phrases ts)

-- %NAME = type BODY
abbrev pub struct_phrase : Bytes × TreeBody → Phrase
struct_phrase s = named_local s.0 ␣ mark (codes "=") ␣ word (codes "type") ␣ body_phrase s.1

-- a linkage, where it is written: external is not
abbrev pub linkage_phrase : Linkage → Phrase
linkage_phrase External = none
linkage_phrase linkage = word (linkage_word linkage)

-- that of a variable: external is written where it is declared
abbrev pub variable_linkage : Option Constant → Linkage → Phrase
variable_linkage (Some c) linkage = linkage_phrase linkage
variable_linkage None linkage = word (linkage_word linkage)

-- the word that tells whether a variable is constant
abbrev pub global_or_constant : Bool → Phrase
global_or_constant false = word (codes "global")
global_or_constant true = word (codes "constant")

-- TYPE CONST?
abbrev pub initialised : Tree → Option Constant → Phrase
initialised ty None = type_phrase ty
initialised ty (Some c) = type_phrase ty ␣ constant_phrase ty c

-- GLOBAL = LINKAGE? (global or constant) TYPE CONST?, and the alignment
abbrev pub variable_phrase : Variable → Phrase
variable_phrase v =
    global v.name ␣ mark (codes "=") ␣ variable_linkage v.initialiser v.linkage ␣ global_or_constant v.constant ␣ aligned (initialised v.ty v.initialiser) v.alignment

-- TYPE ( TYPE,* )
abbrev pub function_type : Signature → Phrase
function_type s = type_phrase s.returns ␣ in_parentheses (listed (dotted (map type_phrase s.parameters) s.variadic))

-- the type of an alias: that of a variable, or a function type
abbrev pub alias_type : AliasType → Phrase
alias_type (PlainType ty) = type_phrase ty
alias_type (FunctionType signature) = function_type signature

-- GLOBAL = LINKAGE? alias TYPE, ptr GLOBAL
abbrev pub alias_phrase : Alias → Phrase
alias_phrase a = global a.name ␣ mark (codes "=") ␣ linkage_phrase a.linkage ␣ word (codes "alias") ␣ alias_type a.ty ⌢ comma ␣ word (codes "ptr") ␣ global a.target

-- LINKAGE? TYPE GLOBAL
abbrev pub head_phrase : Function → Phrase
head_phrase f = linkage_phrase f.linkage ␣ type_phrase f.returns ␣ global f.name

-- TYPE LOCAL
abbrev pub parameter_phrase : Parameter → Phrase
parameter_phrase p = type_phrase p.ty ␣ local p.name

-- the `{` that ends a line, the blocks, and a line of `}`
abbrev pub body_of_blocks : List Block → Phrase
body_of_blocks blocks = ended Line (mark (codes "{")) ⨾ blocks_phrase blocks ⨾ mark (codes "}")

-- a declaration writes types alone
abbrev pub function_phrase_by : Function → Option (List Block) → Phrase
function_phrase_by f None = word (codes "declare") ␣ head_phrase f ⌢ in_parentheses (listed (dotted (map (λ p. type_phrase p.ty) f.parameters) f.variadic))
function_phrase_by f (Some blocks) = word (codes "define") ␣ head_phrase f ⌢ in_parentheses (listed (map parameter_phrase f.parameters)) ␣ body_of_blocks blocks

-- a function, with or without a body
abbrev pub function_phrase : Function → Phrase
function_phrase f = function_phrase_by f f.body

-- the texts, structs, variables, aliases and functions, in order
abbrev pub item_phrases : Module → List Phrase
item_phrases m =
    text_phrases (word (codes "source_filename")) m.source ++ (
    text_phrases (word (codes "target") ␣ word (codes "datalayout")) m.layout ++ (
    text_phrases (word (codes "target") ␣ word (codes "triple")) m.triple ++ (
    map struct_phrase m.structs ++ (
    map variable_phrase m.variables ++ (
    map alias_phrase m.aliases ++
    map function_phrase m.functions)))))

-- the tokens of the canonical text, in order, each with the separator that follows it
abbrev pub canon_pieces : Module → List TextPiece
canon_pieces m = each Line (item_phrases m) Line

-- the canonical text
abbrev pub canon : Module → List ℕ
canon m = pieces_text (canon_pieces m)
