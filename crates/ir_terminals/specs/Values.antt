-- For the calls of `Cursor` that read one token, as `integer`: what tokens stand for.
use Rattle.std.specs.Prelude.{ℕ, ◌==◌, Bool, true, false, cond, List, [], ◌∷◌, drop, Option, Some, None, option_map, if◌then◌else◌}
use Rattle.ir_base.specs.declared.place.Place.{Place}
use Rattle.ir_lexer.specs.Ahead.{Located}
use Rattle.ir_lexer.specs.Names.{bare_name, is_number, name_in, unquoted}
use Rattle.ir_lexer.specs.declared.token.TokenKind.{TokenKind}
use Rattle.ir_lexer.specs.declared.token.TokenKind.TheVariants as kind
use Rattle.ir_tables.specs.declared.flag.Flag.{Flag}
use Rattle.ir_tables.specs.declared.linkage.Linkage.{Linkage}
use Rattle.ir_tables.specs.declared.opcode.Opcode.{Opcode}
use Rattle.ir_tables.specs.declared.predicate.Predicate.{Predicate}
use Rattle.ir_terminals.specs.Digits.{decimal}
use Rattle.ir_terminals.specs.Role.{terminal}
use Rattle.ir_terminals.specs.declared.terminal.Terminal.{Terminal}
use Rattle.ir_terminals.specs.declared.terminal.Terminal.TheVariants as terminals
use Rattle.ir_terminals.specs.declared.values.Integer.{Integer}
use Rattle.ir_terminals.specs.declared.values.Local.{Local}
use Rattle.ir_terminals.specs.declared.values.Local.TheVariants as locals
use Rattle.ir_terminals.specs.declared.values.PlacedName.{PlacedName}
use Rattle.ir_terminals.specs.declared.values.PlacedText.{PlacedText}

-- where it begins: what a token that stands for nothing else gives
abbrev pub place_of_token : Located → Option Place
place_of_token t = Some t.place

-- a `-` stands in front
abbrev pub is_negative : List ℕ → Bool
is_negative [] = false
is_negative (first ∷ digits) = first == 45

-- digits behind a minus or alone
abbrev pub integer_at : Place → List ℕ → Integer
integer_at place [] = record { negative = false; magnitude = decimal []; place = place }
integer_at place (first ∷ digits) =
    if first == 45 then record { negative = true; magnitude = decimal digits; place = place }
    else record { negative = false; magnitude = decimal (first ∷ digits); place = place }

-- a name at its place
abbrev pub placed_name : Place → List ℕ → PlacedName
placed_name place name = record { name = name; place = place }

-- a text at its place
abbrev pub placed_text : Place → List ℕ → PlacedText
placed_text place text = record { text = text; place = place }

-- a name that the token spells
abbrev pub name_at : Located → Option PlacedName
name_at t = option_map (placed_name t.place) (name_in t.token)

-- the local name that a token is
abbrev pub named_at : Located → Option Local
named_at t = option_map locals.Named (name_at t)

-- the number behind the mark
abbrev pub numbered_at : Located → Local
numbered_at t = locals.Numbered (decimal (drop 1 t.token.spelling)) t.place

-- a label: of digits alone a number, else a name, as a quoted one always is
abbrev pub label_at : Located → Option Local
label_at t =
    cond (is_number t.token.spelling) (Some (locals.Numbered (decimal (bare_name kind.Label t.token.spelling)) t.place)) (named_at t)

-- the bytes of the string in the token
abbrev pub string_at : Located → Option PlacedText
string_at t = option_map (placed_text t.place) (unquoted t.token.spelling)

-- the integer that a token is, if its kind is that
abbrev pub if_integer : TokenKind → Located → Option Integer
if_integer kind.Integer t = Some (integer_at t.place t.token.spelling)
if_integer _ t = None

-- an integer
abbrev pub integer_of : Located → Option Integer
integer_of t = if_integer t.token.kind t

-- the global name that a token is, if its kind is that
abbrev pub if_global : TokenKind → Located → Option PlacedName
if_global kind.GlobalName t = name_at t
if_global _ t = None

-- the name of a global
abbrev pub name_of_global : Located → Option PlacedName
name_of_global t = if_global t.token.kind t

-- the local name or number that a token is, if its kind is one of those
abbrev pub if_local : TokenKind → Located → Option Local
if_local kind.LocalName t = named_at t
if_local kind.UnnamedLocal t = Some (numbered_at t)
if_local _ t = None

-- a local, by its name or by its number
abbrev pub local_of : Located → Option Local
local_of t = if_local t.token.kind t

-- the name of a struct that a token is; with what is left out a number is one too
abbrev pub if_named : Bool → TokenKind → Located → Option PlacedName
if_named with_left_out kind.LocalName t = name_at t
if_named with_left_out kind.UnnamedLocal t = cond with_left_out (Some (placed_name t.place (drop 1 t.token.spelling))) None
if_named with_left_out _ t = None

-- the name of a local; with what is left out, an unnamed one's digits are its name
abbrev pub named_local_of : Bool → Located → Option PlacedName
named_local_of with_left_out t = if_named with_left_out t.token.kind t

-- the label that a token is, if its kind is that
abbrev pub if_label : TokenKind → Located → Option Local
if_label kind.Label t = label_at t
if_label _ t = None

-- a label
abbrev pub label_of : Located → Option Local
label_of t = if_label t.token.kind t

-- the string that a token is, if its kind is that
abbrev pub if_quoted : TokenKind → Located → Option PlacedText
if_quoted kind.Quoted t = string_at t
if_quoted _ t = None

-- the bytes of a string
abbrev pub text_of : Located → Option PlacedText
text_of t = if_quoted t.token.kind t

-- the byte string that a token is, if its kind is that
abbrev pub if_bytes : TokenKind → Located → Option PlacedText
if_bytes kind.ByteString t = string_at t
if_bytes _ t = None

-- the bytes of a byte string
abbrev pub bytes_of : Located → Option PlacedText
bytes_of t = if_bytes t.token.kind t

-- the linkage that a terminal is
abbrev pub linkage_in : Terminal → Option Linkage
linkage_in (terminals.Linkage linkage) = Some linkage
linkage_in _ = None

-- the linkage that a token is
abbrev pub linkage_of : Located → Option Linkage
linkage_of t = linkage_in (terminal t.token)

-- the flag that a terminal is
abbrev pub flag_in : Terminal → Option Flag
flag_in (terminals.Flag flag) = Some flag
flag_in _ = None

-- the flag that a token is
abbrev pub flag_of : Located → Option Flag
flag_of t = flag_in (terminal t.token)

-- the predicate that a terminal is
abbrev pub predicate_in : Terminal → Option Predicate
predicate_in (terminals.Predicate predicate) = Some predicate
predicate_in _ = None

-- the predicate that a token is
abbrev pub predicate_of : Located → Option Predicate
predicate_of t = predicate_in (terminal t.token)

-- the opcode that a terminal is
abbrev pub opcode_in : Terminal → Option Opcode
opcode_in (terminals.Opcode opcode) = Some opcode
opcode_in _ = None

-- the opcode that a token is
abbrev pub opcode_of : Located → Option Opcode
opcode_of t = opcode_in (terminal t.token)

-- the width of the integer type that a terminal is
abbrev pub width_of_type : Terminal → Option ℕ
width_of_type (terminals.IntegerType width) = Some width
width_of_type _ = None
