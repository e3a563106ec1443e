-- For `read` of bitcode: which module a tree of records stands for, and the first record that is refused.
use Rattle.std.specs.Prelude.{◌≡◌, ℕ, suc, ◌+◌, max, ◌&&◌, ◌||◌, ◌⊎◌, nat_eq, nat_lt, nat_le, not, Bool, true, false, List, [], ◌∷◌, ◌++◌, length, map, zip, Option, Some, None, Ok, Err, bytes_eq, codes, is_some, if◌then◌else◌}
use Rattle.std.specs.List.{list_any}
use mathlib.Core.Logic.{inl, inr}
use Rattle.type_table.specs.Tree.{Tree}
use Rattle.type_table.specs.Types.{trees, structs}
use Rattle.module_arena.specs.declared.arena.TheConstants.{COUNT_LIMIT}
use Rattle.module_arena.specs.Module.{Bytes, LocalName, Variable, AliasType, PlainType, FunctionType, Alias, Function, Parameter, Module}
use Rattle.bit_tree.specs.Stream as stream
use Rattle.record_table.specs.Layout.{Layout, number, mapped, ◌&◌, ◌&>◌, counted, to_end, option, either, times, judged}
use Rattle.record_table.specs.Fields.{Texts, version_1, Numbering, ty, target, byte, truth, name, alignment, linkage}
use Rattle.record_table.specs.StringTable.{read_only}
use Rattle.record_table.specs.Constants.{constant}
use Rattle.record_table.specs.Faults.{RecordFault, ForeignProducer, BadVersion, UnknownRecord, BadRecord, Answer, ◌>>=◌, Records, records, no_more, a_block, a_record, producer_id, table_id, module_id, types_id, body_id, misplaced, unless_broken, also}
use Rattle.record_table.specs.TypeRecords.{listed}
use Rattle.record_table.specs.Bodies.{Begun, body, numbers_from}

-- the name of this producer
abbrev pub producer : List ℕ
producer = codes "integer profile 1"

-- there are two versions
abbrev pub is_version : ℕ → Bool
is_version n = nat_eq n 1 || nat_eq n 2

-- VERSION
abbrev pub version : Layout ℕ
version = number

-- VARIABLE
abbrev pub variable : Texts → Numbering → Layout Variable
variable texts k = mapped (λ (n, (l, (c, (t, (a, i))))). record { name = n; linkage = l; constant = c; ty = t; alignment = a; initialiser = i })
    (λ v. (v.name, (v.linkage, (v.constant, (v.ty, (v.alignment, v.initialiser))))))
    (name texts & linkage & truth & ty k &> λ t. alignment & option (constant k t))

-- a function of that type, whose parameters have these names
abbrev pub parameters_of : List (Tree × LocalName) → List Parameter
parameters_of all = map (λ (t, n). record { ty = t; name = n }) all

-- the types of the parameters
abbrev pub types_of : Function → List Tree
types_of f = map (λ p. p.ty) f.parameters

-- FUNCTION: whether it is defined, and the function as a declaration
abbrev pub function : Texts → Numbering → Layout (Bool × Function)
function texts k = mapped
    (λ (n, (l, (d, (t, (v, ts))))).
    (d, record { name = n; linkage = l; returns = t; parameters = parameters_of (zip ts (numbers_from 0 (length ts))); variadic = v; body = None }))
    (λ (d, f). (f.name, (f.linkage, (d, (f.returns, (f.variadic, types_of f))))))
    (name texts & linkage & truth & ty k & truth & counted (ty k))

-- what a record calls its function
abbrev pub function_named : (Bool × Function) × Option ℕ → Bytes
function_named ((defined, f), broken) = f.name

-- a plain type, or the parts of a function type
abbrev pub alias_type_of : Tree ⊎ (Tree × (Bool × List Tree)) → AliasType
alias_type_of (inl t) = PlainType t
alias_type_of (inr (t, (v, ts))) = FunctionType (record { returns = t; parameters = ts; variadic = v })

-- what such a type is made of
abbrev pub alias_type_parts : AliasType → Tree ⊎ (Tree × (Bool × List Tree))
alias_type_parts (PlainType t) = inl t
alias_type_parts (FunctionType s) = inr (s.returns, (s.variadic, s.parameters))

-- ALIAS: what type it is said to have, and what it is of
abbrev pub alias : Texts → Numbering → Layout Alias
alias texts k = mapped (λ (n, (l, (t, of))). record { name = n; linkage = l; ty = alias_type_of t; target = of })
    (λ a. (a.name, (a.linkage, (alias_type_parts a.ty, a.target))))
    (name texts & linkage & either (ty k) (ty k & truth & counted (ty k)) & target k)

-- What stands in the block of the module comes in this order, each by its rank. The first five stand there at most once, the first and the
-- types always.

-- VERSION
abbrev pub version_rank : ℕ
version_rank = 1

-- SOURCE
abbrev pub source_rank : ℕ
source_rank = 2

-- LAYOUT
abbrev pub layout_rank : ℕ
layout_rank = 3

-- TRIPLE
abbrev pub triple_rank : ℕ
triple_rank = 4

-- the block of types
abbrev pub types_rank : ℕ
types_rank = 5

-- each VARIABLE
abbrev pub variables_rank : ℕ
variables_rank = 6

-- each FUNCTION
abbrev pub functions_rank : ℕ
functions_rank = 7

-- each ALIAS
abbrev pub aliases_rank : ℕ
aliases_rank = 8

-- each body
abbrev pub bodies_rank : ℕ
bodies_rank = 9

-- what has the one rank came last, or 0 where nothing came: whether what has the other may come next
abbrev pub may_follow : ℕ → ℕ → Bool
may_follow last next =
    if nat_eq next version_rank then nat_eq last 0
    else (if nat_le next types_rank then nat_le version_rank last && nat_lt last next
    else nat_le types_rank last && nat_le last next)

-- what is read so far: how texts stand, how many records of the stream, the rank of what came last, the module (its
-- functions with whether a body is due), and what indices stand for
pub record Sofar : Type 0 where
  pub texts : Texts
  pub at : ℕ
  pub last : ℕ
  pub source : Option Bytes
  pub layout : Option Bytes
  pub triple : Option Bytes
  pub variables : List Variable
  pub functions : List (Bool × Function)
  pub aliases : List Alias
  pub k : Numbering

-- the names in the records of that code, in their order
abbrev pub names_of : Texts → ℕ → Records → List Bytes
names_of t code no_more = []
names_of t code (a_block id inside behind) = names_of t code behind
names_of t code (a_record other operands behind) =
    if nat_eq other code then (judged (name t) operands).0 ∷ names_of t code behind else names_of t code behind

-- types and structs are not known yet; variables, functions and aliases are known by their names
abbrev pub known_at_first : Texts → Records → Numbering
known_at_first t inside = let targets = names_of t 5 inside ++ names_of t 6 inside in
    record { types = []; structs = []; targets = targets; globals = targets ++ names_of t 7 inside; values = []; blocks = [] }

-- nothing is read yet
abbrev pub at_first : Texts → ℕ → Records → Sofar
at_first t at inside = record {
  texts = t;
  at = at;
  last = 0;
  source = None;
  layout = None;
  triple = None;
  variables = [];
  functions = [];
  aliases = [];
  k = known_at_first t inside;
}

-- a record of that rank, whose operands break that rule
abbrev pub record_at_place : Sofar → ℕ → Option ℕ → Sofar → Answer Sofar
record_at_place s place broken after = unless_broken module_id s.at (also 5 (may_follow s.last place) broken) (record after { at = suc s.at; last = place })

-- a version that is not known, where it stands first
abbrev pub version_record : Sofar → List ℕ → Answer Sofar
version_record s (n ∷ []) =
    if nat_eq s.last 0 && not (is_version n) then Err (BadVersion n)
    else record_at_place s version_rank (also 5 (nat_eq n s.texts.version) None) s
version_record s operands = record_at_place s version_rank (judged version operands).1 s

-- the name of no variable, function or alias that is there already
abbrev pub is_new : Sofar → Bytes → Bool
is_new s n =
    not (list_any (λ v. bytes_eq n v.name) s.variables)
    && not (list_any (λ f. bytes_eq n f.1.name) s.functions) && not (list_any (λ a. bytes_eq n a.name) s.aliases)

-- VARIABLE
abbrev pub variable_record : Sofar → Variable × Option ℕ → Answer Sofar
variable_record s (declared, broken) =
    record_at_place s variables_rank (also 7 (nat_lt (length s.variables) COUNT_LIMIT) (also 4 (is_new s declared.name) broken))
    (record s { variables = s.variables ++ declared ∷ [] })

-- FUNCTION
abbrev pub function_record : Sofar → (Bool × Function) × Option ℕ → Answer Sofar
function_record s (declared, broken) = let (defined, head) = declared in
    record_at_place s functions_rank (also 7 (nat_lt (length s.functions) COUNT_LIMIT) (also 4 (is_new s head.name) broken))
    (record s { functions = s.functions ++ declared ∷ [] })

-- the count for aliases is theirs and the greater of those of variables and functions
abbrev pub alias_record : Sofar → Alias × Option ℕ → Answer Sofar
alias_record s (declared, broken) =
    record_at_place s aliases_rank
    (also 7 (nat_le (suc (length s.aliases) + max (length s.variables) (length s.functions)) COUNT_LIMIT) (also 4 (is_new s declared.name) broken))
    (record s { aliases = s.aliases ++ declared ∷ [] })

-- SOURCE, LAYOUT or TRIPLE
abbrev pub text_record : Sofar → ℕ → List ℕ → (Option Bytes → Sofar) → Answer Sofar
text_record s place operands after = let x = judged s.texts.last operands in record_at_place s place x.1 (after (Some x.0))

-- the first function whose body is due
abbrev pub first_due : List (Bool × Function) → Option Function
first_due [] = None
first_due ((true, f) ∷ fs) = Some f
first_due ((false, f) ∷ fs) = first_due fs

-- the function with that body
abbrev pub with_body : Begun → Function → Function
with_body b f = record f { parameters = parameters_of (zip (types_of f) b.parameters); body = Some b.blocks }

-- the first function whose body is due has it
abbrev pub give_body : Begun → List (Bool × Function) → List (Bool × Function)
give_body b [] = []
give_body b ((true, f) ∷ fs) = (false, with_body b f) ∷ fs
give_body b ((false, f) ∷ fs) = (false, f) ∷ give_body b fs

-- the block of a body
abbrev pub body_block : Sofar → Records → Option Function → Answer Sofar
body_block s inside None = misplaced body_id s.at
body_block s inside (Some f) = body s.texts s.k (length f.parameters) s.at inside >>= λ b. Ok (record s { at = b.at; last = bodies_rank; functions = give_body b s.functions })

-- the block of types
abbrev pub types_block : Sofar → Records → Answer Sofar
types_block s inside =
    listed s.texts s.at inside
    >>= λ all.
    Ok (record s { at = all.at; last = types_rank; k = record s.k { types = trees all.types; structs = structs all.types } })

-- a block by its id
abbrev pub block_in : Sofar → ℕ → Records → Answer Sofar
block_in s id inside =
    if nat_eq id types_id && may_follow s.last types_rank then types_block s inside
    else (if nat_eq id body_id && may_follow s.last bodies_rank then body_block s inside (first_due s.functions)
    else misplaced id s.at)

-- a record by its code
abbrev pub record_in : Sofar → ℕ → List ℕ → Answer Sofar
record_in s code operands =
    if nat_eq code 1 then version_record s operands
    else (if nat_eq code 2 then text_record s source_rank operands (λ x. record s { source = x })
    else (if nat_eq code 3 then text_record s layout_rank operands (λ x. record s { layout = x })
    else (if nat_eq code 4 then text_record s triple_rank operands (λ x. record s { triple = x })
    else (if nat_eq code 5 then variable_record s (judged (variable s.texts s.k) operands)
    else (if nat_eq code 6 then function_record s (judged (function s.texts s.k) operands)
    else (if nat_eq code 7 then alias_record s (judged (alias s.texts s.k) operands)
    else Err (UnknownRecord module_id code)))))))

-- at the end of the block: VERSION, the types or a body may be missing
abbrev pub ended : Sofar → Answer Sofar
ended s =
    if nat_eq s.last 0 then Err (BadRecord module_id s.at 5)
    else (if nat_lt s.last types_rank then Err (BadRecord types_id s.at 5)
    else (if is_some (first_due s.functions) then Err (BadRecord body_id s.at 5)
    else Ok s))

-- blocks and records, one by one
abbrev pub module_from : Sofar → Records → Answer Sofar
module_from s no_more = ended s
module_from s (a_block id inside behind) = block_in s id inside >>= λ t. module_from t behind
module_from s (a_record code operands behind) = record_in s code operands >>= λ t. module_from t behind

-- the module of what is read
abbrev pub module_of : Sofar → Module
module_of s = record {
  source = s.source;
  layout = s.layout;
  triple = s.triple;
  structs = s.k.structs;
  variables = s.variables;
  aliases = s.aliases;
  functions = map (λ f. f.1) s.functions;
}

-- nothing stands behind the module's block
abbrev pub nothing_behind : Sofar → Records → Answer Module
nothing_behind s no_more = Ok (module_of s)
nothing_behind s (a_block id inside behind) = misplaced id s.at
nothing_behind s (a_record code operands behind) = Err (BadRecord module_id s.at 5)

-- the module's block, where texts stand so
abbrev pub module_block : Texts → ℕ → Records → Answer Module
module_block texts at no_more = Err (BadRecord module_id at 5)
module_block texts at (a_block id inside behind) =
    if nat_eq id module_id then (module_from (at_first texts at inside) inside >>= λ s. nothing_behind s behind) else misplaced id at
module_block texts at (a_record code operands behind) = Err (BadRecord module_id at 5)

-- what is read of a table: how many records of the stream, and its bytes
pub record ReadTable : Type 0 where
  pub at : ℕ
  pub bytes : Bytes

-- a table's block has one record
abbrev pub table_ended : ReadTable → Records → Answer ReadTable
table_ended t no_more = Ok t
table_ended t (a_block id inside behind) = misplaced id t.at
table_ended t (a_record code operands behind) =
    if nat_eq code 1 then unless_broken table_id t.at (also 5 false (judged (to_end byte) operands).1) t else Err (UnknownRecord table_id code)

-- a table, whose block stands behind so many records
abbrev pub table : ℕ → Records → Answer ReadTable
table at no_more = Err (BadRecord table_id at 5)
table at (a_block id inside behind) = misplaced id at
table at (a_record code operands behind) =
    if nat_eq code 1 then (let x = judged (to_end byte) operands in unless_broken table_id at x.1 (record { at = suc at; bytes = x.0 }) >>= λ t. table_ended t behind)
    else Err (UnknownRecord table_id code)

-- the module's block, or a table and then the module's block
abbrev pub module_behind : ℕ → Records → Answer Module
module_behind at no_more = module_block version_1 at no_more
module_behind at (a_block id inside behind) =
    if nat_eq id table_id then (table at inside >>= λ t. module_block (read_only t.bytes) t.at behind) else module_block version_1 at (a_block id inside behind)
module_behind at (a_record code operands behind) = module_block version_1 at (a_record code operands behind)

-- the first record of the producer's block names this producer
abbrev pub is_ours : Records → Bool
is_ours no_more = false
is_ours (a_block id inside behind) = is_ours behind
is_ours (a_record code operands behind) = nat_eq code 1 && bytes_eq operands producer

-- It is its only one: how many records stand in it
abbrev pub producer_from : ℕ → Records → Answer ℕ
producer_from at no_more = Ok at
producer_from at (a_block id inside behind) = misplaced id at
producer_from at (a_record code operands behind) =
    if not (nat_eq code 1) then Err (UnknownRecord producer_id code)
    else (if nat_eq at 0 then producer_from 1 behind else unless_broken producer_id at (also 5 false (judged (times (length producer) byte) operands).1) at)

-- the module that blocks and records stand for, or the first that is refused
abbrev pub read : Records → Answer Module
read no_more = Err ForeignProducer
read (a_block id inside behind) = if nat_eq id producer_id && is_ours inside then (producer_from 0 inside >>= λ at. module_behind at behind) else Err ForeignProducer
read (a_record code operands behind) = Err ForeignProducer

-- the records of a tree stand for this module
abbrev pub StandFor : stream.StreamTree → Module → Type 0
StandFor tree m = read (records tree) ≡ Ok m

-- what refuses, where something does
abbrev pub fault_in : Answer Module → Option RecordFault
fault_in (Ok m) = None
fault_in (Err fault) = Some fault

-- the first record of a tree that is refused
abbrev pub record_fault : stream.StreamTree → Option RecordFault
record_fault tree = fault_in (read (records tree))

-- the bytes are a tree whose records stand for the module, in version 1 or in version 2
pub record Spells (bytes : List ℕ) (m : Module) : Type 0 where
  pub tree : stream.StreamTree
  pub is_tree : stream.Stream bytes tree
  pub stands : StandFor tree m
