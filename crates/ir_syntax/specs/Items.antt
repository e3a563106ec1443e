-- For `read_items`: the items of a text.
use Rattle.std.specs.Prelude.{false, List, [], ◌∷◌, ◌++◌}
use Rattle.ir_terminals.specs.PhraseRows.Row.{Row, PhraseShape, one, mapped, keep_second, keep_first, pair, alt, optional, many, labelled}
use Rattle.ir_terminals.specs.PhraseRows.Reads.{Front}
use Rattle.ir_base.specs.declared.place.Place.{Place}
use Rattle.ir_lexer.specs.Ahead.{Located}
use Rattle.ir_terminals.specs.declared.limits.Limits.{Limits}
use Rattle.ir_terminals.specs.declared.terminal.Terminal.TheVariants as terminal
use Rattle.ir_terminals.specs.Role.{class}
use Rattle.ir_terminals.specs.Terminal.{code}
use Rattle.ir_terminals.specs.Values.{place_of_token}
use Rattle.ir_terminals.specs.Tokens.{word, quoted_row}
use Rattle.ir_terminals.specs.Brackets.{matched_row, braced_row}
use Rattle.ir_phrases.specs.Instructions.Dropped.{function_attribute_shape, comma_shape}
use Rattle.type_table.specs.declared.measure.TheConstants.{NESTING_LIMIT}
use Rattle.ir_syntax.specs.Tree.{ItemTree, SourceFilename, DataLayout, TargetTriple, Attributes, Metadata}
use Rattle.ir_syntax.specs.Variables.{struct_row}
use Rattle.ir_syntax.specs.Aliases.{global_row}
use Rattle.ir_syntax.specs.Functions.{declaration_row, definition_row}

-- source_filename = STRING
abbrev pub source_row : Row Located ItemTree
source_row = mapped (λ v. SourceFilename v.0 v.1) (pair (keep_first (word terminal.SourceFilename) (word terminal.Equals)) quoted_row)

-- datalayout = STRING, or triple = STRING, behind `target`
abbrev pub target_row : Row Located ItemTree
target_row =
    alt class
    (mapped (λ v. DataLayout v.0 v.1) (pair (keep_first (word terminal.DataLayout) (word terminal.Equals)) quoted_row))
    (mapped (λ v. TargetTriple v.0 v.1) (pair (keep_first (word terminal.Triple) (word terminal.Equals)) quoted_row))

-- attributes GROUP = { .. }
abbrev pub attributes_row : Row Located ItemTree
attributes_row = mapped Attributes (keep_first (word terminal.«Attributes») (keep_second (word terminal.Group) (keep_second (word terminal.Equals) braced_row)))

-- META
abbrev pub metadata_name_row : Row Located Place
metadata_name_row = one class (code terminal.MetaName ∷ code terminal.MetaNumber ∷ []) place_of_token

-- ! { .. }, or MNAME ( .. )
abbrev pub node_row : Row Located (Unit {0})
node_row = alt class (keep_second (word terminal.MetaMark) (matched_row terminal.OpenBrace)) (keep_second (word terminal.MetaName) (matched_row terminal.OpenParenthesis))

-- META = distinct? ! { .. }, or META = distinct? MNAME ( .. )
abbrev pub metadata_item_row : Row Located ItemTree
metadata_item_row = mapped Metadata (keep_first metadata_name_row (keep_second (word terminal.Equals) (keep_second (optional class (word terminal.Distinct)) node_row)))

-- how items begin and go on
abbrev pub item_shape : PhraseShape
item_shape = record {
  first =
      code terminal.SourceFilename ∷ code terminal.Target ∷ code terminal.Local ∷ code terminal.GlobalName
      ∷ code terminal.Declare ∷ code terminal.Define ∷ code terminal.«Attributes» ∷ code terminal.MetaName ∷ code terminal.MetaNumber ∷ [];
  more = comma_shape.first ++ function_attribute_shape.first ++ function_attribute_shape.more;
  empty = false;
}

-- an item
unfoldable pub item_core : Limits → Row Located ItemTree
item_core limits =
    alt class source_row (alt class (keep_second (word terminal.Target) target_row) (alt class (struct_row limits) (alt class (global_row limits)
    (alt class (declaration_row limits) (alt class (definition_row limits) (alt class attributes_row metadata_item_row))))))

-- an item
abbrev pub item_row : Limits → Row Located ItemTree
item_row limits = labelled item_shape (item_core limits)

-- the items of a text
abbrev pub items_row : Limits → Row Located (List ItemTree)
items_row limits = many class (item_row limits)

-- the language: types and constants nest no deeper than the limit
abbrev pub language : Limits
language = record { nesting = NESTING_LIMIT; with_left_out = false }

-- these tokens are these items, and no others
abbrev pub Items : List Located → List ItemTree → Type 0
Items tokens items = (items_row language).whole tokens items

-- these tokens are whole items, followed by nothing or by one cut item
abbrev pub IsViable : Limits → List Located → Type 0
IsViable limits front = Front (items_row limits) front
