-- For the calls of `Cursor` that read one token, as `integer`: the rows of one token.
use Rattle.std.specs.Prelude.{[], ◌∷◌}
use Rattle.ir_base.specs.declared.place.Place.{Place}
use Rattle.ir_lexer.specs.Ahead.{Located}
use Rattle.ir_tables.specs.declared.flag.Flag.{Flag}
use Rattle.ir_tables.specs.declared.linkage.Linkage.{Linkage}
use Rattle.ir_tables.specs.declared.predicate.Predicate.{Predicate}
use Rattle.ir_terminals.specs.PhraseRows.Row.{Row, one}
use Rattle.ir_terminals.specs.Role.{class}
use Rattle.ir_terminals.specs.Values.{place_of_token, integer_of, name_of_global, local_of, named_local_of, label_of, text_of, bytes_of, linkage_of, flag_of, predicate_of}
use Rattle.ir_terminals.specs.Terminal.{code, linkage_class, flag_class, predicate_class}
use Rattle.ir_terminals.specs.declared.limits.Limits.{Limits}
use Rattle.ir_terminals.specs.declared.terminal.Terminal.{Terminal}
use Rattle.ir_terminals.specs.declared.terminal.Terminal.TheVariants as terminals
use Rattle.ir_terminals.specs.declared.values.Integer.{Integer}
use Rattle.ir_terminals.specs.declared.values.Local.{Local}
use Rattle.ir_terminals.specs.declared.values.PlacedName.{PlacedName}
use Rattle.ir_terminals.specs.declared.values.PlacedText.{PlacedText}

-- a token of the terminal's class, for its place
abbrev pub word : Terminal → Row Located Place
word wanted = one class (code wanted ∷ []) place_of_token

-- an integer
abbrev pub integer_row : Row Located Integer
integer_row = one class (code terminals.Integer ∷ []) integer_of

-- a global name
abbrev pub global_name_row : Row Located PlacedName
global_name_row = one class (code terminals.GlobalName ∷ []) name_of_global

-- a local name or number
abbrev pub local_row : Row Located Local
local_row = one class (code terminals.Local ∷ []) local_of

-- a local that names a type or a struct
abbrev pub named_local_row : Limits → Row Located PlacedName
named_local_row limits = one class (code terminals.Local ∷ []) (named_local_of limits.with_left_out)

-- a label
abbrev pub label_row : Row Located Local
label_row = one class (code terminals.Label ∷ []) label_of

-- a string
abbrev pub quoted_row : Row Located PlacedText
quoted_row = one class (code terminals.Quoted ∷ []) text_of

-- a byte string
abbrev pub byte_string_row : Row Located PlacedText
byte_string_row = one class (code terminals.ByteString ∷ []) bytes_of

-- a linkage
abbrev pub linkage_row : Row Located Linkage
linkage_row = one class (linkage_class ∷ []) linkage_of

-- a flag
abbrev pub flag_row : Row Located Flag
flag_row = one class (flag_class ∷ []) flag_of

-- a predicate
abbrev pub predicate_row : Row Located Predicate
predicate_row = one class (predicate_class ∷ []) predicate_of
