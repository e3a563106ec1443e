-- Says how the code reads: the parts of the entries of a module in canonical text, as the arena has them.
use Rattle.std.specs.Prelude.{ℕ, ◌<◌, Bool, List, [], codes, map, length}
use Rattle.ir_lexer.specs.Pieces.{TextPiece, Nothing}
use Rattle.type_table.specs.Tree.{opaque_body}
use Rattle.type_table.specs.Types.{Types, trees, tree, structs}
use Rattle.module_arena.specs.declared.entry.Function.{Function}
use Rattle.module_arena.specs.declared.entry.Parameter.{Parameter}
use Rattle.module_arena.specs.Module.{Bytes, Signature}
use Rattle.module_arena.specs.View.{type_at, parameter_view}
use Rattle.canonical.specs.Canonical.{linkage_phrase, struct_phrase, parameter_phrase}
use Rattle.canonical.specs.Names.{global, text}
use Rattle.canonical.specs.Operations.{dotted}
use Rattle.canonical.specs.Phrase.{Phrase, word, mark, ◌␣◌, listed}
use Rattle.canonical.specs.Types.{type_phrase}
use Rattle.std.specs.List.{slice_index_or}

-- the words = "..."
abbrev pub text_line : Phrase → Bytes → Phrase
text_line words bytes = words ␣ mark (codes "=") ␣ text bytes

-- target, and what of it
abbrev pub target : List ℕ → Phrase
target what = word (codes "target") ␣ word what

-- the struct with an id
abbrev pub struct_line : Types → ℕ → Phrase
struct_line t id = struct_phrase (slice_index_or (structs t) id ([], opaque_body))

-- a function type
abbrev pub signature_of : Types → ℕ → List ℕ → Bool → Signature
signature_of t returns parameters variadic = record { returns = tree t returns; parameters = map (type_at (trees t)) parameters; variadic = variadic }

-- the types of parameters, and `...` where there may be more
abbrev pub dotted_list : Types → List ℕ → Bool → List TextPiece
dotted_list t parts variadic = listed (dotted (map type_phrase (map (type_at (trees t)) parts)) variadic) Nothing

-- the linkage, the return type and the name of a function
abbrev pub head_of : Types → Function → Phrase
head_of t f = linkage_phrase f.linkage ␣ type_phrase (tree t f.result) ␣ global f.name

-- the type of a parameter is one of the table
abbrev pub HasType : Types → Parameter → Type 0
HasType t p = p.ty < length t.types

-- the types of a declaration's parameters, and `...` where there may be more
abbrev pub declared_list : Types → List Parameter → Bool → List TextPiece
declared_list t parameters variadic = listed (dotted (map (λ (p : Parameter). type_phrase (tree t p.ty)) parameters) variadic) Nothing

-- the parameters of a definition
abbrev pub parameter_list : Types → List Parameter → List Phrase
parameter_list t parameters = map parameter_phrase (map (parameter_view (trees t)) parameters)
