-- Says how the code of `read` reads: the block of a module in the making.
use Rattle.std.specs.Prelude.{◌≡◌, ◌⊎◌, ◌≤◌, ◌<◌, ℕ, suc, Bool, true, false, List, [], ◌∷◌, ◌++◌, map, length, drop, slice_get, slice_index_or, nat_eq, All, Option, Some, None, Result, Ok, Err, ⊤}
use Rattle.bit_tree.specs.Pieces.{Piece, ended}
use Rattle.bit_tree.specs.Stream.{StreamTree, Stream}
use Rattle.type_table.specs.Types.{structs, trees}
use Rattle.type_table.specs.Types as tables
use Rattle.module_arena.specs.declared.arena.TheConstants.{COUNT_LIMIT}
use Rattle.module_arena.specs.declared.entry.Alias as the_alias
use Rattle.module_arena.specs.declared.entry.Body as the_body
use Rattle.module_arena.specs.declared.entry.Function as the_function
use Rattle.module_arena.specs.declared.entry.GlobalId.{GlobalId}
use Rattle.module_arena.specs.declared.entry.LocalName as the_local
use Rattle.module_arena.specs.declared.entry.Variable as the_variable
use Rattle.module_arena.specs.declared.entry.Parameter as the_parameter
use Rattle.module_arena.specs.Changes.{alias_in, function_in, variable_in}
use Rattle.module_arena.specs.Known.{AreDistinct, IsGood, KnowsBody}
use Rattle.module_arena.specs.Lists.{Lists, name_at, no_lists}
use Rattle.module_arena.specs.Module as m
use Rattle.module_arena.specs.View.{alias_view, body_view, constants_of, function_view, local_view, variable_view}
use Rattle.record_table.specs.Faults.{Records, a_block, a_record, no_more, records as records_of, types_id}
use Rattle.record_table.specs.Fields.{Numbering, Texts}
use Rattle.record_table.specs.Records as records
use Rattle.record_table.specs.TypeRecords.{names_in}
use Rattle.record_table.specs.Walk.{going}
use Rattle.record_read.specs.declared.fault.BitcodeFault.{BitcodeFault}
use Rattle.record_read.specs.declared.texts.Texts as the_texts
use Rattle.record_read.specs.declared.texts.Texts.TheVariants as the_kind
use Rattle.record_read.specs.Entries.{IsBefore}
use Rattle.record_read.specs.Faults.{Answers}
use Rattle.record_read.specs.Fields.{are_bytes}
use Rattle.record_read.specs.Reader.{Reader}
use Rattle.type_read.specs.Fields.{is_good}
use Rattle.type_read.specs.Listed.{AreGathered}
use Rattle.type_read.specs.declared.arena.counts.GlobalCounts.{GlobalCounts}
use Rattle.type_read.specs.declared.arena.counts.LocalCounts.{LocalCounts}
use Rattle.type_read.specs.declared.arena.module_reader.ModuleReader.{ModuleReader}
use Rattle.type_read.specs.Arena.Growing.{Growing, Grows, IsOver}
use Rattle.type_read.specs.Arena.Numbered.{IsGlobal, Numbers, global_of}
use Rattle.body_read.specs.Operands.Found.{Always}
use Rattle.body_read.specs.declared.ahead.ahead.BodyAhead.{BodyAhead}
use Rattle.bitcode_read.specs.Head.Ahead.{AreCounted, IsAhead, first_module, first_types}
use Rattle.bitcode_read.specs.declared.head.ahead.ModuleAhead.{ModuleAhead}
use Rattle.bitcode_read.specs.Ahead.Bodies.{Foresees, names_given}
use Rattle.bitcode_read.specs.Ahead.Entries.{Declares, names_behind, names_for, parameters_called}
use Rattle.bitcode_read.specs.Holding.Holding.{AreUndefined, AreUnset, AreUntargeted, HasConstants, HasTargets, Suits, defined_by, initialised_by, targeted_by}
use Rattle.bitcode_read.specs.declared.sofar.Sofar.{Sofar}

-- ---- in front of the types

-- No entry is known yet, and the arena has nothing. What is declared and foreseen of the whole block is declared and foreseen of what is
-- left.
pub record IsEarly (texts : Texts) (all : Records) (known : ModuleAhead) (m : ModuleReader) (b : Sofar) (s : records.Sofar) (rest : Records) : Type 0 where
  -- the blocks in front alone
  pub early : s.last < 5
  pub numbers : s.k ≡ records.known_at_first texts all
  -- no entry was read
  pub no_variables : s.variables ≡ []
  pub no_functions : s.functions ≡ []
  pub no_aliases : s.aliases ≡ []
  pub no_initialisers : b.initialisers.items ≡ []
  pub none_defined : b.defined.items ≡ []
  pub no_targets : b.targets.items ≡ []
  pub no_bodies : b.bodies.items ≡ []
  -- nothing is in the arena
  pub over : IsOver no_lists m.growing
  pub gathered : AreGathered known.named known.structs (names_in texts (first_types rest))
  -- what is left declares and foresees what all of it does
  pub declares : (types : ℕ) (final a : Lists) (names : List (List the_local.LocalName))
      → Declares texts types final names a all
      → Declares texts types final names a rest
  pub foresees : (k : Numbering) (types : ℕ) (bodies : List BodyAhead) → Foresees texts k types [] bodies all → Foresees texts k types [] bodies rest

-- ---- behind the types

-- all entries are there, each index standing for the one at its place
abbrev pub AreDeclared : Lists → GlobalCounts → Numbering → Type 0
AreDeclared base n k = (index : ℕ) → index < length k.globals → IsGlobal base (global_of n index) (slice_index_or k.globals index [])

-- The variables that were read: what each is set to is there, whatever constants are added later, and where all entries are declared they
-- are those that are meant.
pub record AreVariables (base : Lists) (g : Growing) (declared : Type 0) (vs : List the_variable.Variable)
    (initialisers : List (Option ℕ)) (read : List m.Variable) : Type 0 where
  pub many : length initialisers ≡ length vs
  pub there : Always g (λ a. HasConstants a initialisers)
  pub are : declared → Always g (λ a. map (variable_view (trees base.table) (constants_of a)) (initialised_by vs initialisers) ≡ read)

-- the same of the aliases
pub record AreAliases (base : Lists) (g : Growing) (declared : Type 0) (xs : List the_alias.Alias) (targets : List (Option GlobalId)) (read : List m.Alias) : Type 0 where
  pub many : length targets ≡ length xs
  pub there : Always g (λ a. HasTargets a targets)
  pub are : declared → map (alias_view (trees base.table) (name_at base)) (targeted_by xs targets) ≡ read

-- the function, but for its body
abbrev pub head_of : Lists → the_function.Function → m.Function
head_of base f = function_view (trees base.table) [] (record f { body = None })

-- what the parameters are called
abbrev pub parameter_names : the_function.Function → List m.LocalName
parameter_names f = map (λ (p : the_parameter.Parameter). local_view p.name) f.parameters

-- a function that is not defined
pub record IsDeclaration (base : Lists) (f : the_function.Function) (read : Bool × m.Function) : Type 0 where
  pub not_due : read.0 ≡ false
  pub is : head_of base f ≡ read.1

-- a function that is defined, and whose body came
pub record IsDefined (base : Lists) (g : Growing) (declared : Type 0) (f : the_function.Function) (body : the_body.Body) (read : Bool × m.Function) : Type 0 where
  pub not_due : read.0 ≡ false
  pub known : Always g (λ a. KnowsBody (length a.table.types) (length a.constants) (length f.parameters) body)
  pub is : declared → Always g (λ a. record (head_of base f) { body = Some (body_view (trees a.table) (constants_of a) (parameter_names f) body) } ≡ read.1)

-- One that is defined, and whose body is due: its parameters are called as the body calls them, and those that are read are not.
pub record IsDue (base : Lists) (names : List the_local.LocalName) (f : the_function.Function) (read : Bool × m.Function) : Type 0 where
  pub due : read.0 ≡ true
  pub types : List ℕ
  pub called : f.parameters ≡ parameters_called names 0 types
  pub typed : map (λ (p : m.Parameter). p.ty) (head_of base f).parameters ≡ records.types_of read.1
  pub other : record (head_of base f) { parameters = [] } ≡ record read.1 { parameters = [] }

module _ (base : Lists) (g : Growing) (declared : Type 0) (later : List (List the_local.LocalName)) where
  -- The functions that were read, one by one, where these are defined or not, these bodies came, and bodies that call parameters so are to
  -- come; of these the last are those of functions behind them.
  abbrev pub AreFunctions : List the_function.Function → List Bool → List the_body.Body → List (List the_local.LocalName) → List (Bool × m.Function) → Type 0
  AreFunctions [] [] [] names [] = names ≡ later
  AreFunctions (f ∷ fs) (false ∷ ds) bodies names (r ∷ rs) = IsDeclaration base f r × AreFunctions fs ds bodies names rs
  AreFunctions (f ∷ fs) (true ∷ ds) (b ∷ bodies) names (r ∷ rs) = IsDefined base g declared f b r × AreFunctions fs ds bodies names rs
  AreFunctions (f ∷ fs) (true ∷ ds) [] names (r ∷ rs) = IsDue base (names_for true names) f r × AreFunctions fs ds [] (names_behind true names) rs
  AreFunctions _ _ _ _ _ = ⊥

-- of the functions whose bodies are due, how many parameters each has
abbrev pub counts_due : List (Bool × m.Function) → List ℕ
counts_due [] = []
counts_due ((true, f) ∷ fs) = length f.parameters ∷ counts_due fs
counts_due ((false, f) ∷ fs) = counts_due fs

-- the entries that were read are called as those that are declared in front
pub record AreCalled (a : Lists) (s : records.Sofar) : Type 0 where
  pub variables : map (λ (v : the_variable.Variable). v.name) a.variables ≡ map (λ (v : m.Variable). v.name) s.variables
  pub functions : map (λ (f : the_function.Function). f.name) a.functions ≡ map (λ (f : Bool × m.Function). f.1.name) s.functions
  pub aliases : map (λ (x : the_alias.Alias). x.name) a.aliases ≡ map (λ (x : m.Alias). x.name) s.aliases

-- The arena has these entries, in front, and those that the records declare that are left. Constants alone were added since.
pub record IsLate (m : ModuleReader) (b : Sofar) (s : records.Sofar) (rest : Records) : Type 0 where
  -- the types were read; aliases come last
  pub late : 5 ≤ s.last
  pub alone : s.last < 8 → s.aliases ≡ []
  -- the arena with all that is declared, that of what was read so far, and how far constants had grown
  pub base : Lists
  pub a : Lists
  pub begun : Growing
  pub over : IsOver base begun
  pub grows : Grows begun m.growing
  -- names and types of the arena
  pub good : IsGood base
  pub good_types : tables.IsGood base.table
  pub distinct : AreDistinct base
  pub types : s.k.types ≡ trees base.table
  pub structs_are : s.k.structs ≡ structs base.table
  -- what is left declares the other entries
  pub later : List (List the_local.LocalName)
  pub declares : Declares s.texts (length s.k.types) base later a rest
  -- what was read is declared, and holds nothing yet
  pub unset : AreUnset a
  pub untargeted : AreUntargeted a
  pub undefined : AreUndefined a
  pub called : AreCalled a s
  -- the bodies that are left are foreseen
  pub foresees : Foresees s.texts s.k (length s.k.types) (counts_due s.functions) (drop (length b.bodies.items) b.ahead.items) rest
  -- the entries that were read are those that are meant
  pub variables : AreVariables base m.growing (AreDeclared base m.globals s.k) a.variables b.initialisers.items s.variables
  pub aliases : AreAliases base m.growing (AreDeclared base m.globals s.k) a.aliases b.targets.items s.aliases
  pub functions : AreFunctions base m.growing (AreDeclared base m.globals s.k) later a.functions b.defined.items b.bodies.items
      (map names_given (drop (length b.bodies.items) b.ahead.items)) s.functions

-- ---- both

-- the names of the entries that were read are good
pub record AreGood (s : records.Sofar) : Type 0 where
  pub variables : All (λ n. is_good n ≡ true) (map (λ (v : m.Variable). v.name) s.variables)
  pub functions : All (λ n. is_good n ≡ true) (map (λ (f : Bool × m.Function). f.1.name) s.functions)
  pub aliases : All (λ n. is_good n ≡ true) (map (λ (x : m.Alias). x.name) s.aliases)

-- what was read of a module's block so far, in front of these records
pub record IsSofar (texts : Texts) (all : Records) (known : ModuleAhead) (m : ModuleReader) (b : Sofar) (s : records.Sofar) (rest : Records) : Type 0 where
  pub texts_are : s.texts ≡ texts
  pub last : s.last ≡ b.last
  pub source : b.source ≡ s.source
  pub layout : b.layout ≡ s.layout
  pub triple : b.triple ≡ s.triple
  -- outside a body no values and blocks are counted
  pub numbers : Numbers m s.k
  pub counted : AreCounted texts all m.globals
  pub outside : (m.locals.values ≡ 0) × (m.locals.blocks ≡ 0)
  pub good : AreGood s
  pub part : IsEarly texts all known m b s rest ⊎ IsLate m b s rest

-- the numbers of the functions that are defined, where the first has that number
abbrev pub numbers_from : ℕ → List Bool → List ℕ
numbers_from first [] = []
numbers_from first (false ∷ defined) = numbers_from (suc first) defined
numbers_from first (true ∷ defined) = first ∷ numbers_from (suc first) defined

-- these, and that of one function more, where it is defined
abbrev pub with_number : Bool → ℕ → List ℕ → List ℕ
with_number false number numbers = numbers
with_number true number numbers = numbers ++ number ∷ []

-- So few entries were read that one more can be counted, and the numbers of the functions that are defined are known.
pub record HasRoom (b : Sofar) : Type 0 where
  pub variables : length b.initialisers.items ≤ COUNT_LIMIT
  pub functions : length b.defined.items ≤ COUNT_LIMIT
  pub aliases : length b.targets.items ≤ COUNT_LIMIT
  pub numbers : b.numbers.items ≡ numbers_from 0 b.defined.items

-- ---- records and blocks

-- the reader is behind a record, and in front of the same as before
pub record IsPast (old new : ModuleReader) (t : records.Sofar) : Type 0 where
  pub spent : new.reader.spent ≡ old.reader.spent
  pub left : new.reader.left ≡ old.reader.left
  pub at : new.reader.at ≡ t.at

-- a record of that code in front, none of whose operands are taken, was read behind what was read so far
abbrev pub ReadsPart : Texts → ModuleReader → Sofar → ℕ → Result (Unit {0}) BitcodeFault → ModuleReader → Sofar → Type 0
ReadsPart texts old before code result new after =
    (all : Records) (known : ModuleAhead) (s : records.Sofar) (operands : List ℕ) (behind : Records)
    → IsSofar texts all known old before s (a_record code operands behind)
    → old.reader.walk ≡ going operands None → old.reader.at ≡ suc s.at
    → Answers (λ done t. IsSofar texts all known new after t behind × IsPast old new t) (records.record_in s code operands) result

-- a block of types was begun, whose structs' names were gathered
pub record IsTypesBegun (texts : Texts) (left : List Piece) (known : ModuleAhead) : Type 0 where
  pub inside : Records
  pub others : List Piece
  pub before : IsBefore left inside (ended ∷ others)
  pub gathered : AreGathered known.named known.structs (names_in texts inside)

-- the same, if the block is of types and they may stand there
abbrev pub MayBeTypes : ℕ → Texts → Sofar → List Piece → ModuleAhead → Type 0
MayBeTypes id texts b left known = nat_eq id types_id ≡ true → records.may_follow b.last records.types_rank ≡ true → IsTypesBegun texts left known

-- what is known ahead of the body that is the next, where something is
abbrev pub IsNextCounts : Sofar → LocalCounts → Type 0
IsNextCounts b counts = (ahead : BodyAhead) → slice_get b.ahead.items (length b.bodies.items) ≡ Some ahead → counts ≡ ahead.counts

-- the reader stands behind a block
pub record IsOut (new : ModuleReader) (others : List Piece) (t : records.Sofar) : Type 0 where
  pub spent : new.reader.spent ≡ false
  pub left : new.reader.left ≡ others
  pub at : new.reader.at ≡ t.at

-- a block of that id that was begun was read, in the module's block of these records
abbrev pub ReadsBlock : Texts → Records → ModuleReader → Sofar → ModuleAhead → ℕ → Result (Unit {0}) BitcodeFault → ModuleReader → Sofar → ModuleAhead → Type 0
ReadsBlock texts all old before known id result new after later =
    (s : records.Sofar) (inside behind : Records) (others : List Piece)
    → IsSofar texts all known old before s (a_block id inside behind)
    → IsBefore old.reader.left inside (ended ∷ others)
    → old.reader.at ≡ s.at
    → Answers (λ done t. IsSofar texts all later new after t behind × IsOut new others t) (records.block_in s id inside) result

-- ---- the whole block

-- bytes alone stand in a table of texts
abbrev pub AreBytesHeld : the_texts.Texts → Type 0
AreBytesHeld the_kind.Inline = ⊤
AreBytesHeld (the_kind.Table bytes) = are_bytes bytes ≡ true

-- In front of some of the records of the block, behind so many records of the stream when it began: what is left answers for all of it.
pub record IsGoing (texts : Texts) (all : Records) (others : List Piece) (first : ℕ) (m : ModuleReader) (b : Sofar) (known : ModuleAhead) : Type 0 where
  pub s : records.Sofar
  pub rest : Records
  pub sofar : IsSofar texts all known m b s rest
  pub before : IsBefore m.reader.left rest (ended ∷ others)
  pub at : m.reader.at ≡ s.at
  pub from : records.module_from (records.at_first texts first all) all ≡ records.module_from s rest

-- in front of some of the records of the block of the stream's module
pub record IsAmong (bytes : List ℕ) (texts : Texts) (m : ModuleReader) (b : Sofar) (known : ModuleAhead) : Type 0 where
  pub tree : StreamTree
  pub is_tree : Stream bytes tree
  pub others : List Piece
  pub first : ℕ
  pub going : IsGoing texts (first_module (records_of tree)) others first m b known

-- at the end of the block, which the reader is behind
pub record IsAtEnd (texts : Texts) (all : Records) (others : List Piece) (first : ℕ) (m : ModuleReader) (b : Sofar) (known : ModuleAhead) : Type 0 where
  pub s : records.Sofar
  pub sofar : IsSofar texts all known m b s no_more
  pub at : m.reader.at ≡ s.at
  pub left : m.reader.left ≡ others
  pub from : records.module_from (records.at_first texts first all) all ≡ records.ended s

-- one entry more was read, or it was the end, or what refuses it refuses the block
abbrev pub GoesOn : Texts → Records → List Piece → ℕ → Result Bool BitcodeFault → ModuleReader → Sofar → ModuleAhead → Type 0
GoesOn texts all others first (Ok true) m b known = IsGoing texts all others first m b known
GoesOn texts all others first (Ok false) m b known = IsAtEnd texts all others first m b known
GoesOn texts all others first (Err given) m b known =
    Answers {A = records.Sofar} {B = Unit {0}} (λ done s. ⊥)
    (records.module_from (records.at_first texts first all) all)
    (Err given)

-- what was read is not the end
abbrev pub told_more : Result (Unit {0}) BitcodeFault → Result Bool BitcodeFault
told_more (Ok done) = Ok true
told_more (Err given) = Err given

-- what was read is the end
abbrev pub told_end : Result (Unit {0}) BitcodeFault → Result Bool BitcodeFault
told_end (Ok done) = Ok false
told_end (Err given) = Err given

-- nothing is read yet
pub record IsBegunOver (reader : Reader) (known : ModuleAhead) (new : ModuleReader) : Type 0 where
  pub reader_is : new.reader ≡ reader
  pub globals_are : new.globals ≡ known.counts
  pub outside : (new.locals.values ≡ 0) × (new.locals.blocks ≡ 0)
  pub over : IsOver no_lists new.growing

-- the block of the stream's module was begun, of which that is known ahead
pub record IsModuleBegun (bytes : List ℕ) (texts : Texts) (m : ModuleReader) (known : ModuleAhead) : Type 0 where
  pub tree : StreamTree
  pub is_tree : Stream bytes tree
  pub others : List Piece
  pub before : IsBefore m.reader.left (first_module (records_of tree)) (ended ∷ others)
  pub is_known : IsAhead texts (first_module (records_of tree)) known
  pub over : IsBegunOver m.reader known m

-- What entries hold is there and fits, and nothing is set yet.
pub record AreSettable (a : Lists) (b : Sofar) : Type 0 where
  pub unset : AreUnset a
  pub untargeted : AreUntargeted a
  pub undefined : AreUndefined a
  pub constants : HasConstants a b.initialisers.items
  pub targets : HasTargets a b.targets.items
  pub suits : Suits (length a.table.types) (length a.constants) a.functions b.defined.items b.bodies.items

-- the entries of the arena, holding what they will be set to, are those that were read
pub record AreRead (a : Lists) (b : Sofar) (s : records.Sofar) : Type 0 where
  pub source : b.source ≡ s.source
  pub layout : b.layout ≡ s.layout
  pub triple : b.triple ≡ s.triple
  pub structs_are : structs a.table ≡ s.k.structs
  pub variables : map (variable_in a) (initialised_by a.variables b.initialisers.items) ≡ s.variables
  pub aliases : map (alias_in a) (targeted_by a.aliases b.targets.items) ≡ s.aliases
  pub functions : map (function_in a) (defined_by a.functions b.defined.items b.bodies.items) ≡ map (λ f. f.1) s.functions

-- all of the block was read, and the reader stands behind it
pub record IsWhole (new : ModuleReader) (others : List Piece) (b : Sofar) (s : records.Sofar) : Type 0 where
  pub settable : AreSettable new.growing.arena b
  pub are : AreRead new.growing.arena b s
  pub left : new.reader.left ≡ others
  pub at : new.reader.at ≡ s.at
